use Rattle.std.proofs.Common.{◌≡◌, ◌+◌, ◌-◌, suc, [], ◌∷◌, refl, ap, sym, ◌∙◌, subst, map, length, vec_len, arith}
use Rattle.duct_running.proofs.Common.{length-map, RunningView, OrderedIfDue, OrderAnswers}
use Rattle.std.specs.Result.{result_and}
use Rattle.duct_running.proofs.InTurn.{length_kept}
use Rattle.duct_running.proofs.Orders.{OrderedFrom, none_ordered, one_more_ordered, leftmost_next}
use Rattle.duct_running.proofs.running.Running.order_all.Goals as goal

pub loop-at-init : goal.loop-at-init
loop-at-init g c =
    let may = g.S.Child.Child.may_obey in
    let view = g.S.Child.Child.child_view in
    let children = map view c.args.self.now.children in
    let stored = c.self.inside.children in
    let long : length stored.items ≡ vec_len stored = omega (arith, stored.ok.0) in
    let seen : stored.items ≡ c.args.self.now.children = ap (λ (r : RunningView _ _ _). r.children) c.self.view_is in
    let all : length children ≡ c.len-at.result = length-map c.args.self.now.children view ∙ sym (ap length seen) ∙ long ∙ sym c.len-at.ensures in
    record {
      shape = refl;
      ordered = ([], refl, subst (λ n. OrderedFrom may c.args.order n children [] children) all (none_ordered may c.args.order children));
      count = refl;
      feeds = refl;
      output = refl;
      error = refl;
    }

pub loop-at-preserved : goal.loop-at-preserved
loop-at-preserved g c =
    let may = g.S.Child.Child.may_obey in
    let view = g.S.Child.Child.child_view in
    let i = c.loop-at.invariant in
    let o = i.ordered in
    let at = c.loop-at.at - 1 in
    let back : c.loop-at.at ≡ suc at = omega arith in
    let children = map view c.args.self.now.children in
    let so_far = subst (λ n. OrderedFrom may c.args.order n children o.0 (map view c.loop-at.self.children)) back o.2 in
    let same = length_kept (λ before. OrderedIfDue may c.args.order before c.order_at.result) at _ _ c.order_at.ensures.ordered in
    record {
      shape = c.order_at.ensures.shape ∙ i.shape;
      ordered = (
        c.order_at.result ∷ o.0,
        c.and-answer.ensures ∙ ap (λ a. result_and c.order_at.result a) o.1 ∙ leftmost_next c.order_at.result o.0,
        one_more_ordered may c.args.order at children o.0 (map view c.loop-at.self.children) (map view c.order_at.new.self.children) c.order_at.result so_far c.order_at.ensures.ordered,
      );
      count = sym (length-map c.order_at.new.self.children view) ∙ same ∙ length-map c.loop-at.self.children view ∙ i.count;
      feeds = c.order_at.ensures.feeds ∙ i.feeds;
      output = c.order_at.ensures.output ∙ i.output;
      error = c.order_at.ensures.error ∙ i.error;
    }

pub returns-clause-ordered : goal.returns-clause-ordered
returns-clause-ordered g c =
    let view = g.S.Child.Child.child_view in
    let o = c.loop-at.invariant.ordered in
    let start : c.loop-at.at ≡ 0 = omega arith in (
      o.0,
      subst (λ n. OrderedFrom g.S.Child.Child.may_obey c.args.order n (map view c.args.self.now.children) o.0 (map view c.loop-at.self.children)) start o.2,
      subst (λ a. OrderAnswers a c.result_of.result) o.1 c.result_of.ensures,
    )
