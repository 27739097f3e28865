use Rattle.std.proofs.Common.{◌≡◌, length, map}
use Rattle.duct_running.proofs.Common.{shape_view, AskedIfDue}
use Rattle.duct_running.proofs.InTurn.{ChangedTo}
use Rattle.duct_running.proofs.running.Running.poll_children.Given as goal

abbrev pub invariant-loop-at : goal.invariant-loop-at
invariant-loop-at g l = record {
  shape : shape_view l.self.shape ≡ shape_view l.initial.self.shape;
  asked : ChangedTo (AskedIfDue g.S.Child.Child.may_answer) l.at (map g.S.Child.Child.child_view l.initial.self.children) (map g.S.Child.Child.child_view l.self.children);
  count : length l.self.children ≡ l.at-end;
  feeds : l.self.feeds ≡ l.initial.self.feeds;
  output : l.self.output ≡ l.initial.self.output;
  error : l.self.error ≡ l.initial.self.error;
  kept : length l.initial.self.children ≡ l.at-end;
}
