use Rattle.std.proofs.Common.{◌≡◌, drop}
use Rattle.duct_script.specs.Settings.{changed}
use Rattle.duct_script.proofs.hook.make_all.Given as goal

abbrev pub invariant-loop-change : goal.invariant-loop-change
invariant-loop-change l = changed l.changes l.initial.spec ≡ changed (drop l.change-index l.changes) l.spec
