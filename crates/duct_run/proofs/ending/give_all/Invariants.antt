-- The children given so far and the remaining ones are all children.
use Rattle.std.proofs.Common.{◌≡◌, ◌++◌, length}
use Rattle.std.specs.Vec.Iter.{into_iter_items, into_iter_len}
use Rattle.duct_run.proofs.Common.{IsGiven}
use Rattle.duct_run.proofs.ending.give_all.Given as goal

abbrev pub invariant-loop-child : goal.invariant-loop-child
invariant-loop-child g l = record {
  given : IsGiven g.C.Child.may_answer g.C.Child.child_view l.yielded l.fn.pool l.pool;
  whole : l.fn.children.items ≡ l.yielded ++ into_iter_items l.child-iterator;
  many : into_iter_len l.child-iterator ≡ length (into_iter_items l.child-iterator);
}
