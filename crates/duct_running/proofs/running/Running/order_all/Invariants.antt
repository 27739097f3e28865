use Rattle.std.proofs.Common.{◌≡◌, List, length, map}
use Rattle.duct_running.proofs.Common.{Obeyed, leftmost}
use Rattle.duct_running.proofs.Orders.{OrderedFrom}
use Rattle.duct_running.proofs.running.Running.order_all.Given as goal

abbrev pub invariant-loop-at : goal.invariant-loop-at
invariant-loop-at g l = record {
  shape : l.self.shape ≡ l.initial.self.shape;
  ordered : (answers : List Obeyed) × (l.answer ≡ leftmost answers)
      × OrderedFrom g.S.Child.Child.may_obey l.fn.order l.at (map g.S.Child.Child.child_view l.initial.self.children) answers (map g.S.Child.Child.child_view l.self.children);
  count : length l.self.children ≡ length l.initial.self.children;
  feeds : l.self.feeds ≡ l.initial.self.feeds;
  output : l.self.output ≡ l.initial.self.output;
  error : l.self.error ≡ l.initial.self.error;
}
