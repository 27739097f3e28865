-- A poll of what has this shape and these numbers.
use Rattle.std.proofs.Common.{◌≡◌, ap, inl, subst, ◌∙◌, rules, Ok, Err, Some, None}
use Rattle.duct_system.specs.declared.error.Error.TheVariants as error
use Rattle.duct_handle.proofs.Common.{shape_view, views_of, OneRuns, IsConcludedPoll, numbers_of, numbers_view}
use Rattle.duct_handle.proofs.Polling.{failure_concluded, output_concluded}
use Rattle.duct_handle.proofs.poll.poll_checked.Goals as goal

pub returns-in-Ok-None-clause-runs : goal.returns-in-Ok-None-clause-runs
returns-in-Ok-None-clause-runs g c =
    let may = g.S.Child.Child.may_answer in
    let feed = g.S.Feed.Job.may_say in
    let drain = g.S.Drain.Job.may_say in
    let views = views_of g.S.System g.S.End.Numbered g.S.Child.Child g.S.Feed.Job g.S.Drain.Job in
    let after = c.polled-ended.new.running in
    let shapes : shape_view after.shape ≡ shape_view c.args.shape.now = search rules in
    let numbers : numbers_of views after ≡ numbers_view c.args.numbers.now = search rules in
    λ is. subst (λ n. OneRuns views n) numbers (c.polled-ended.ensures.runs (c.in-Ok-None.is ∙ ap (λ o. Ok o) c.in-Ok-None.field-0-is))

pub returns-in-Ok-None-clause-waits : goal.returns-in-Ok-None-clause-waits
returns-in-Ok-None-clause-waits g c =
    let may = g.S.Child.Child.may_answer in
    let feed = g.S.Feed.Job.may_say in
    let drain = g.S.Drain.Job.may_say in
    let views = views_of g.S.System g.S.End.Numbered g.S.Child.Child g.S.Feed.Job g.S.Drain.Job in
    let after = c.polled-ended.new.running in
    let shapes : shape_view after.shape ≡ shape_view c.args.shape.now = search rules in
    let numbers : numbers_of views after ≡ numbers_view c.args.numbers.now = search rules in
    let ending : IsConcludedPoll may feed drain (shape_view c.args.shape.now) (numbers_view c.args.numbers.now) (Ok None) =
    subst (λ (X : Type 0). X) (λ i. IsConcludedPoll may feed drain (shapes i) (numbers i) ((c.in-Ok-None.is ∙ ap (λ x. Ok x) c.in-Ok-None.field-0-is) i)) c.polled-ended.ensures.ending in
    λ is. inl ending

pub returns-in-Ok-Some-clause-answer : goal.returns-in-Ok-Some-clause-answer
returns-in-Ok-Some-clause-answer g c =
    let may = g.S.Child.Child.may_answer in
    let feed = g.S.Feed.Job.may_say in
    let drain = g.S.Drain.Job.may_say in
    let views = views_of g.S.System g.S.End.Numbered g.S.Child.Child g.S.Feed.Job g.S.Drain.Job in
    let after = c.polled-ended.new.running in
    let shapes : shape_view after.shape ≡ shape_view c.args.shape.now = search rules in
    let numbers : numbers_of views after ≡ numbers_view c.args.numbers.now = search rules in
    let ending : IsConcludedPoll may feed drain (shape_view c.args.shape.now) (numbers_view c.args.numbers.now) (Ok (Some c.in-Ok-Some.output)) =
    subst (λ (X : Type 0). X) (λ i. IsConcludedPoll may feed drain (shapes i) (numbers i) ((c.in-Ok-Some.is ∙ ap (λ x. Ok x) c.in-Ok-Some.field-0-is) i)) c.polled-ended.ensures.ending in
    output_concluded may feed drain (shape_view c.args.shape.now) (numbers_view c.args.numbers.now) c.in-Ok-Some.output ending

pub returns-in-Err-Checked-clause-answer : goal.returns-in-Err-Checked-clause-answer
returns-in-Err-Checked-clause-answer g c =
    let may = g.S.Child.Child.may_answer in
    let feed = g.S.Feed.Job.may_say in
    let drain = g.S.Drain.Job.may_say in
    let views = views_of g.S.System g.S.End.Numbered g.S.Child.Child g.S.Feed.Job g.S.Drain.Job in
    let after = c.polled-ended.new.running in
    let shapes : shape_view after.shape ≡ shape_view c.args.shape.now = search rules in
    let numbers : numbers_of views after ≡ numbers_view c.args.numbers.now = search rules in
    let ending : IsConcludedPoll may feed drain (shape_view c.args.shape.now) (numbers_view c.args.numbers.now) (Err (error.Checked c.in-Err-Checked.text)) =
    subst (λ (X : Type 0). X) (λ i. IsConcludedPoll may feed drain (shapes i) (numbers i) ((c.in-Err-Checked.is ∙ ap (λ x. Err x) c.in-Err-Checked.field-0-is) i)) c.polled-ended.ensures.ending in
    failure_concluded may feed drain (shape_view c.args.shape.now) (numbers_view c.args.numbers.now) c.in-Err-Checked.text ending

pub returns-in-Err : goal.returns-in-Err
returns-in-Err g c =
    let may = g.S.Child.Child.may_answer in
    let feed = g.S.Feed.Job.may_say in
    let drain = g.S.Drain.Job.may_say in
    let views = views_of g.S.System g.S.End.Numbered g.S.Child.Child g.S.Feed.Job g.S.Drain.Job in
    let after = c.polled-ended.new.running in
    let shapes : shape_view after.shape ≡ shape_view c.args.shape.now = search rules in
    let numbers : numbers_of views after ≡ numbers_view c.args.numbers.now = search rules in
    let ending : IsConcludedPoll may feed drain (shape_view c.args.shape.now) (numbers_view c.args.numbers.now) (Err c.in-Err.error) =
    subst (λ (X : Type 0). X) (λ i. IsConcludedPoll may feed drain (shapes i) (numbers i) (c.in-Err.is i)) c.polled-ended.ensures.ending in
    record {
      polls = c.polled-ended.ensures.polls;
      stays = c.polled-ended.ensures.stays;
      answer = tt;
      runs = λ is. absurd (cc);
      waits = λ is. absurd (cc);
      fault = search rules;
      err = inl ending;
    }
