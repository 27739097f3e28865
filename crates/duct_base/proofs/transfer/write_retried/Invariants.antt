-- Interrupted writes wrote nothing.
use Rattle.std.specs.Io.KnownBytes.{Keeps}
use Rattle.duct_base.proofs.transfer.write_retried.Given as goal

abbrev pub invariant-loop : goal.invariant-loop
invariant-loop g l = Keeps (g.W.Write.contents l.initial.writer) (g.W.Write.contents l.writer)
