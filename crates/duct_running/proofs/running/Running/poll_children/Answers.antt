use Rattle.std.proofs.Common.{◌≤◌, refl, sym, ◌∙◌, map, length, arith, rules}
use Rattle.duct_running.proofs.Common.{length-map, AskedIfDue}
use Rattle.duct_running.proofs.InTurn.{one_more_changed, all_changed, length_kept}
use Rattle.duct_running.proofs.running.Running.poll_children.Goals as goal

pub loop-at-preserved : goal.loop-at-preserved
loop-at-preserved g c =
    let view = g.S.Child.Child.child_view in
    let i = c.loop-at.invariant in
    let same = length_kept (AskedIfDue g.S.Child.Child.may_answer) c.loop-at.at _ _ c.poll_child.ensures.asked in
    record {
      shape = c.poll_child.ensures.shape ∙ i.shape;
      asked = one_more_changed (AskedIfDue g.S.Child.Child.may_answer) c.loop-at.at _ _ _ i.asked c.poll_child.ensures.asked;
      count = sym (length-map c.poll_child.new.self.children view) ∙ same ∙ length-map c.loop-at.self.children view ∙ i.count;
      feeds = c.poll_child.ensures.feeds ∙ i.feeds;
      output = c.poll_child.ensures.output ∙ i.output;
      error = c.poll_child.ensures.error ∙ i.error;
      kept = i.kept;
    }

pub returns-clause-asked : goal.returns-clause-asked
returns-clause-asked g c =
    let view = g.S.Child.Child.child_view in
    let i = c.loop-at.invariant in
    let all : length (map view c.args.self.now.children) ≤ c.loop-at.at = omega (arith, length-map c.args.self.now.children view, i.kept, c.loop-at-test.false) in
    all_changed (AskedIfDue g.S.Child.Child.may_answer) c.loop-at.at _ _ all i.asked

pub loop-at-init : goal.loop-at-init
loop-at-init g c = record { shape = refl; asked = refl; feeds = refl; output = refl; error = refl; count = search rules; kept = search rules }
