-- The ends closed so far and the remaining ones are the stack.
use Rattle.std.proofs.Common.{◌≡◌, ◌++◌, length, map}
use Rattle.std.specs.Vec.Iter.{into_iter_items, into_iter_len}
use Rattle.duct_run.proofs.Common.{Closes}
use Rattle.duct_run.proofs.ending.close_stack.Given as goal

abbrev pub invariant-loop-end : goal.invariant-loop-end
invariant-loop-end g l = record {
  closed : Closes (map g.S.End.Numbered.number_of l.yielded) (g.S.System.journal_view l.fn.sys) (g.S.System.journal_view l.sys);
  whole : l.fn.stack.items ≡ l.yielded ++ into_iter_items l.end-iterator;
  many : into_iter_len l.end-iterator ≡ length (into_iter_items l.end-iterator);
}
