use Rattle.std.proofs.Common.{◌≡◌, arith}
use Rattle.std.proofs.lemmas.Grind.{common_steps}
use Rattle.duct_script.specs.Settings.{changed}
use Rattle.duct_script.proofs.Changes.{changes_give_nothing}
use Rattle.duct_script.proofs.hook.make_all.Goals as goal

pub returns-clause-given : goal.returns-clause-given
returns-clause-given c =
    let is : c.loop-change.spec ≡ changed c.args.changes.now c.args.spec.now = grind (arith, common_steps) in
    rw is (changes_give_nothing c.args.changes.now c.args.spec.now)
