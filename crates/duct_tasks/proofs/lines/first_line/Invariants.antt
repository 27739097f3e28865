-- No newline was found so far.
use Rattle.std.proofs.Common.{take}
use Rattle.duct_tasks.specs.Streams.{IsPart}
use Rattle.duct_tasks.proofs.lines.first_line.Given as goal

abbrev pub invariant-loop-at : goal.invariant-loop-at
invariant-loop-at l = IsPart (take l.at l.bytes)
