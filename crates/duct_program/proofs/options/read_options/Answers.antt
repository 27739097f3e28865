-- What is returned where the options end.
use Rattle.std.proofs.Common.{arith, rules}
use Rattle.std.proofs.lemmas.Grind.{common_steps}
use Rattle.duct_program.proofs.options.read_options.Goals as goal
use Rattle.duct_program.proofs.options.read_options.Goals.{in-Some+in_default-as_str, in_default}

pub returns : goal.returns
returns c =
    elim c.match-split_first.branch [
      | in-Some+in_default-as_str w ↦ search rules
      | in_default w ↦ grind (arith, common_steps)
    ]
