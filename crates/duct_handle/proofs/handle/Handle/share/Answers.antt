use Rattle.std.proofs.Common.{◌≡◌, ap, refl, ◌∙◌, inl, rules}
use Rattle.duct_handle.proofs.Common.{arc_value, shape_view, numbers_view, answer_view, HandleView}
use Rattle.duct_handle.proofs.Sharing.{concluded}
use Rattle.duct_handle.proofs.handle.Handle.share.Goals as goal

pub returns-in_ok-try_clone-in-Some-Output-clause-told : goal.returns-in_ok-try_clone-in-Some-Output-clause-told
returns-in_ok-try_clone-in-Some-Output-clause-told g c =
    let same = c.if-not-same.ensures.0 refl in
    let numbers : numbers_view c.args.published.now.numbers ≡ c.args.self.now.numbers = same.1 ∙ ap (λ (h : HandleView). h.numbers) c.self.view_is in
    let shape : shape_view (arc_value c.args.published.now.shape) ≡ shape_view c.args.self.now.shape = same.0 ∙ ap (λ s. shape_view s) c.deref.ensures ∙ ap (λ (h : HandleView). shape_view h.shape) c.self.view_is in
    inl (inl (
      answer_view c.in-Some-Output.field-0,
      concluded g.S.Child.Child.may_answer g.S.Feed.Job.may_say g.S.Drain.Job.may_say _ _ _ _ c.args.published.now.answer c.in-Some-Output.field-0 c.in-Some-Output.is numbers shape c.args.published.now.told,
      search rules,
    ))

pub returns-in_ok-try_clone-in-Some-Failed-clause-told : goal.returns-in_ok-try_clone-in-Some-Failed-clause-told
returns-in_ok-try_clone-in-Some-Failed-clause-told g c =
    let same = c.if-not-same.ensures.0 refl in
    let numbers : numbers_view c.args.published.now.numbers ≡ c.args.self.now.numbers = same.1 ∙ ap (λ (h : HandleView). h.numbers) c.self.view_is in
    let shape : shape_view (arc_value c.args.published.now.shape) ≡ shape_view c.args.self.now.shape = same.0 ∙ ap (λ s. shape_view s) c.deref.ensures ∙ ap (λ (h : HandleView). shape_view h.shape) c.self.view_is in
    inl (inl (
      answer_view c.in-Some-Failed.field-0,
      concluded g.S.Child.Child.may_answer g.S.Feed.Job.may_say g.S.Drain.Job.may_say _ _ _ _ c.args.published.now.answer c.in-Some-Failed.field-0 c.in-Some-Failed.is numbers shape c.args.published.now.told,
      search rules,
    ))

pub returns-in_ok-try_clone-in-Some-Output-clause-knows : goal.returns-in_ok-try_clone-in-Some-Output-clause-knows
returns-in_ok-try_clone-in-Some-Output-clause-knows g c = search rules

pub returns-in_ok-try_clone-in-Some-Output-clause-again : goal.returns-in_ok-try_clone-in-Some-Output-clause-again
returns-in_ok-try_clone-in-Some-Output-clause-again g c = search rules
