use Rattle.std.proofs.Common.{◌≡◌, List, ap, arith, map, subst, sym, ◌∙◌, Bool, MatchBool, option_map, Option}
use Rattle.duct_running.proofs.Common.{RunningView, length-map, JobView, awaited, shape_view, views_of, AllAsked, AllPolled, IsOutcome, IsThereAndPolled, is_awaited, Bytes, stored_in, stored_latest}
use Rattle.duct_system.specs.declared.system.Side.TheVariants as side
use Rattle.duct_running.proofs.Pending.{one_runs}
use Rattle.duct_running.proofs.running.Running.poll.Goals as goal

pub returns-clause-polls : goal.returns-clause-polls
returns-clause-polls g c =
    let drain = g.S.Drain.Job.job_view in
    let one = c.poll_feeds.new.self in
    let two = c.poll_drain.new.self in
    let now = c.conclude.new.self in
    let shape : shape_view now.shape ≡ shape_view two.shape = c.conclude.ensures.shape ∙ c.poll_drain-2.ensures.shape in
    let children : now.children ≡ two.children = c.conclude.ensures.children ∙ c.poll_drain-2.ensures.children in
    let feeds : now.feeds ≡ two.feeds = c.conclude.ensures.feeds ∙ c.poll_drain-2.ensures.feeds in
    let output : now.output ≡ two.output = c.conclude.ensures.output ∙ c.poll_drain-2.ensures.asked.1 in
    let error = c.conclude.ensures.error in
    let shape_first : shape_view now.shape ≡ shape_view one.shape = shape ∙ c.poll_drain.ensures.shape in
    let children_first : now.children ≡ one.children = children ∙ c.poll_drain.ensures.children in
    let feeds_first : now.feeds ≡ one.feeds = feeds ∙ c.poll_drain.ensures.feeds in
    let output_before : one.output ≡ c.args.self.now.output = c.poll_feeds.ensures.output ∙ c.poll_children.ensures.output in
    let error_before : one.error ≡ c.args.self.now.error = c.poll_feeds.ensures.error ∙ c.poll_children.ensures.error in
    let error_still : two.error ≡ c.args.self.now.error = c.poll_drain.ensures.asked.1 ∙ error_before in
    let words = λ (cs : List _) (fs : List _) (o e : Option _). stored_latest (map g.S.Child.Child.child_view cs) (map g.S.Feed.Job.job_view fs) (option_map drain o) (option_map drain e) in
    let Polled = λ (test : Bool) (before after : Option _). MatchBool test (IsThereAndPolled g.S.Drain.Job.may_say g.S.Drain.Job.same g.S.Drain.Job.refusable (option_map drain before) (option_map drain after)) (option_map drain after ≡ option_map drain before) in
    record {
      shape = shape_first ∙ c.poll_feeds.ensures.shape ∙ c.poll_children.ensures.shape;
      children = rw (children_first, c.poll_feeds.ensures.children) c.poll_children.ensures.asked;
      feeds = rw (feeds_first, ← c.poll_children.ensures.feeds) c.poll_feeds.ensures.asked;
      output = subst (λ (X : Type 0). X)
          (λ i. Polled (is_awaited side.Out (awaited (sym shape_first i) (words (sym children_first i) (sym feeds_first i) (output_before i) (error_before i)))) (output_before i) (sym output i))
          c.poll_drain.ensures.asked.0;
      error = subst (λ (X : Type 0). X)
          (λ i. Polled (is_awaited side.Err (awaited (sym shape i) (words (sym children i) (sym feeds i) (sym output i) (error_still i)))) (error_still i) (sym error i))
          c.poll_drain-2.ensures.asked.0;
    }

pub returns-clause-pending : goal.returns-clause-pending
returns-clause-pending g c = λ none.
    let child = g.S.Child.Child.child_view in
    let feed = g.S.Feed.Job.job_view in
    let drain = g.S.Drain.Job.job_view in
    let one = c.poll_feeds.new.self in
    let two = c.poll_drain.new.self in
    let three = c.poll_drain-2.new.self in
    let now = c.conclude.new.self in
    let shapes : shape_view now.shape ≡ shape_view two.shape = c.conclude.ensures.shape ∙ c.poll_drain-2.ensures.shape in
    let children : now.children ≡ two.children = c.conclude.ensures.children ∙ c.poll_drain-2.ensures.children in
    let feeds : now.feeds ≡ two.feeds = c.conclude.ensures.feeds ∙ c.poll_drain-2.ensures.feeds in
    let output : now.output ≡ two.output = c.conclude.ensures.output ∙ c.poll_drain-2.ensures.asked.1 in
    let error : now.error ≡ three.error = c.conclude.ensures.error in
    let first = sym (children ∙ c.poll_drain.ensures.children ∙ c.poll_feeds.ensures.children) in
    let second = sym (feeds ∙ c.poll_drain.ensures.feeds) in
    let third = sym (children ∙ c.poll_drain.ensures.children) in
    let whole = sym (shapes ∙ c.poll_drain.ensures.shape) in
    let Polled = λ (test : Bool) (before after : Option (JobView Bytes)). MatchBool test (IsThereAndPolled g.S.Drain.Job.may_say g.S.Drain.Job.same g.S.Drain.Job.refusable before after) (after ≡ before) in
    one_runs (views_of g.S.System g.S.End.Numbered g.S.Child.Child g.S.Feed.Job g.S.Drain.Job) (shape_view now.shape) (map child c.args.self.now.children) (map child now.children) (map feed c.poll_children.new.self.feeds) (map feed now.feeds)
    (option_map drain one.output) (option_map drain now.output) (option_map drain one.error) (option_map drain now.error)
    (subst (λ cs. AllAsked g.S.Child.Child.may_answer (map child c.args.self.now.children) (map child cs)) first c.poll_children.ensures.asked)
    (subst (λ fs. AllPolled g.S.Feed.Job.may_say g.S.Feed.Job.same g.S.Feed.Job.refusable (map feed c.poll_children.new.self.feeds) (map feed fs)) second c.poll_feeds.ensures.asked)
    (subst (λ (X : Type 0). X) (λ i. Polled (is_awaited side.Out (awaited (whole i) (stored_latest (map child (third i)) (map feed (second i)) (option_map drain one.output) (option_map drain one.error))))
    (option_map drain one.output) (option_map drain (sym output i))) c.poll_drain.ensures.asked.0)
    (subst (λ (X : Type 0). X) (λ i. Polled (is_awaited side.Err (awaited (sym shapes i) (stored_latest (map child (sym children i)) (map feed (sym feeds i)) (option_map drain (sym output i)) (option_map drain (c.poll_drain.ensures.asked.1 i)))))
    (option_map drain (c.poll_drain.ensures.asked.1 i)) (option_map drain (sym error i))) c.poll_drain-2.ensures.asked.0)
    (omega (arith, c.conclude.ensures.commands, length-map now.children child)) (omega (arith, c.conclude.ensures.inputs, length-map now.feeds feed))
    (subst (λ r. IsOutcome (shape_view now.shape) (stored_in child feed drain now) r) none c.conclude.ensures.outcome)
