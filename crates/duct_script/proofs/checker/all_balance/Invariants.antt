use Rattle.std.proofs.Common.{◌↔◌, drop}
use Rattle.duct_script.specs.Checker.{AllBalance}
use Rattle.duct_script.proofs.checker.all_balance.Given as goal

abbrev pub invariant-loop-number : goal.invariant-loop-number
invariant-loop-number l = AllBalance l.got l.spent (drop l.number-index l.numbers) ↔ AllBalance l.got l.spent l.numbers
