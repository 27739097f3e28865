use Rattle.std.specs.Prelude.{◌-◌, [], is_some, slice_get, Some}
use Rattle.std.specs.Result.{result_and}
use Rattle.std.proofs.Common.{◌≡◌, ◌∙◌, ◌∷◌, ap, arith, length, map, refl, subst, suc, sym}
use Rattle.duct_running.specs.Ordered.{OrderAnswers}
use Rattle.duct_tasks.proofs.Common.{length-map, shape_view, views_of}
use Rattle.duct_tasks.proofs.Signalled.{GivenFrom, facts_from, leftmost_next, none_given, one_more_given, seen_after}
use Rattle.duct_tasks.proofs.Trying.{TriedFrom, all_tried, length-leaders, none_tried, one_more_tried}
use Rattle.duct_tasks.specs.Groups.{leaders, processes_of, signal_of}
use Rattle.duct_tasks.proofs.group.order_all.Goals as goal

pub loop-at-init : goal.loop-at-init
loop-at-init g c =
    let views = views_of g.S.System g.S.End.Numbered g.S.Child.Child g.S.Feed.Job g.S.Drain.Job in
    let r = c.args.running.now in
    let children = map views.child r.children in
    let long : length c.pids-at.result.now ≡ length children =
    ap length c.pids-at.ensures.ids ∙ length-map children (λ c. c.process) in
    let few = length-map r.children views.child in
    record {
      shape = refl;
      feeds = refl;
      output = refl;
      error = refl;
      count = refl;
      within = omega (arith, long, few);
      place = omega (arith, c.pids-at.ensures.count);
      ordered = (
        [],
        refl,
        subst (λ n. GivenFrom views.may_obey c.args.order n children [] children) (sym long)
            (none_given views.may_obey c.args.order children),
        none_tried views g.H.Hook.allows g.H.Hook.refuses (signal_of c.args.order)
            (length c.pids-at.result.now) (leaders (shape_view r.shape)) (processes_of views r)
            (c.args.sys.now, c.args.pool.now)
            (c.pids-at.ensures.count ∙ sym (length-leaders (shape_view r.shape))),
      );
    }

pub loop-at-preserved : goal.loop-at-preserved
loop-at-preserved g c =
    let views = views_of g.S.System g.S.End.Numbered g.S.Child.Child g.S.Feed.Job g.S.Drain.Job in
    let may = views.may_obey in
    let order = c.args.order in
    let r = c.args.running.now in
    let children = map views.child r.children in
    let nows = map views.child c.loop-at.running.children in
    let news = map views.child c.order_at.new.running.children in
    let i = c.loop-at.invariant in
    let o = i.ordered in
    let given = c.order_at.ensures.given in
    let at = c.loop-at.at - 1 in
    let back : c.loop-at.at ≡ suc at = omega (arith, c.loop-at-test.true) in
    let so_far = subst (λ n. GivenFrom may order n children o.0 nows) back o.2 in
    let tried = subst (λ n. TriedFrom views g.H.Hook.allows g.H.Hook.refuses (signal_of order) n
    (leaders (shape_view r.shape)) (processes_of views r) (map (λ g. g.0) o.0)
    (c.args.sys.now, c.args.pool.now) (c.loop-at.sys, c.loop-at.pool)) back o.3 in
    let next = one_more_given may order at children o.0 nows news (given.0, c.order_at.result) so_far
    given.2 in
    let same = facts_from may (λ c. c.process) (λ o a c. refl) order (suc at) children o.0 nows
    so_far in
    let still = facts_from may (λ c. c.process) (λ o a c. refl) order at children
    ((given.0, c.order_at.result) ∷ o.0) news next in
    let long = ap length still in
    let many = length-map news (λ c. c.process) in
    let were = length-map children (λ c. c.process) in
    let many_more = length-map c.order_at.new.running.children views.child in
    let were_more = length-map r.children views.child in
    record {
      shape = c.order_at.ensures.shape ∙ i.shape;
      feeds = c.order_at.ensures.feeds ∙ i.feeds;
      output = c.order_at.ensures.output ∙ i.output;
      error = c.order_at.ensures.error ∙ i.error;
      count = sym many_more ∙ sym many ∙ long ∙ were ∙ were_more;
      within = omega (arith, i.within);
      place = omega (arith, i.place);
      ordered = (
        (given.0, c.order_at.result) ∷ o.0,
        c.and-answer.ensures ∙ ap (λ a. result_and c.order_at.result a) o.1
            ∙ leftmost_next c.order_at.result (map (λ g. g.1) o.0),
        next,
        one_more_tried views g.H.Hook.allows g.H.Hook.refuses (signal_of order) at
            (leaders (shape_view r.shape)) (processes_of views r) (map (λ g. g.0) o.0)
            (c.args.sys.now, c.args.pool.now) (c.loop-at.sys, c.loop-at.pool)
            (c.order_at.new.sys, c.order_at.new.pool) given.0 given.1.process
            (subst (λ s. slice_get (leaders (shape_view s)) at ≡ Some (is_some given.0)) i.shape
            given.1.led_is)
            (subst (λ ps. slice_get ps at ≡ Some given.1.process) same given.1.process_is)
            given.1.tried tried,
      );
    }

pub returns-clause-alike : goal.returns-clause-alike
returns-clause-alike g c =
    let views = views_of g.S.System g.S.End.Numbered g.S.Child.Child g.S.Feed.Job g.S.Drain.Job in
    let i = c.loop-at.invariant in
    let start : c.loop-at.at ≡ 0 = omega (arith, c.loop-at-test.false) in
    let all = subst (λ n. GivenFrom views.may_obey c.args.order n
    (map views.child c.args.running.now.children) i.ordered.0
    (map views.child c.loop-at.running.children)) start i.ordered.2 in
    seen_after views c.args.order c.args.running.now c.loop-at.running i.ordered.0 all i.shape
    i.feeds i.output i.error

pub returns-clause-ordered : goal.returns-clause-ordered
returns-clause-ordered g c =
    let views = views_of g.S.System g.S.End.Numbered g.S.Child.Child g.S.Feed.Job g.S.Drain.Job in
    let r = c.args.running.now in
    let o = c.loop-at.invariant.ordered in
    let start : c.loop-at.at ≡ 0 = omega (arith, c.loop-at-test.false) in
    let tries = map (λ g. g.0) o.0 in (
      tries,
      record {
        signals = all_tried views g.H.Hook.allows g.H.Hook.refuses (signal_of c.args.order)
            (shape_view r.shape) (processes_of views r) tries (c.args.sys.now, c.args.pool.now)
            (c.loop-at.sys, c.loop-at.pool)
            (subst (λ n. TriedFrom views g.H.Hook.allows g.H.Hook.refuses (signal_of c.args.order) n
            (leaders (shape_view r.shape)) (processes_of views r) tries
            (c.args.sys.now, c.args.pool.now) (c.loop-at.sys, c.loop-at.pool)) start o.3);
        sent = record {
          givens = o.0;
          tries_are = refl;
          each = subst (λ n. GivenFrom views.may_obey c.args.order n (map views.child r.children)
              o.0 (map views.child c.loop-at.running.children)) start o.2;
          answers = subst (λ a. OrderAnswers a c.result_of.result) o.1 c.result_of.ensures;
        };
      },
    )
