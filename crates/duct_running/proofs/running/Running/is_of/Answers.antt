use Rattle.std.proofs.Common.{◌≡◌, ap, map, sym, ◌∙◌, refl, rules, true≢false, IsTrue}
use Rattle.duct_running.proofs.Common.{shape_view}
use Rattle.duct_running.proofs.Numbered.{numbers_same, own_numbers, numbers_own}
use Rattle.duct_running.proofs.running.Running.is_of.Goals as goal

pub returns-then-numbered : goal.returns-then-numbered
returns-then-numbered g c =
    let children = ap (map g.S.Child.Numbered.number_of) c.deref.ensures.value in
    let feeds = ap (map g.S.Feed.Numbered.number_of) c.deref-2.ensures.value in
    let seen = numbers_same children feeds refl refl
    ∙ ap (own_numbers g.S.Child.Numbered.number_of g.S.Feed.Numbered.number_of g.S.Drain.Numbered.number_of) c.self.view_is
    ∙ sym (numbers_own g.S.Child.Child.child_view g.S.Feed.Job.job_view g.S.Drain.Job.job_view g.S.Child.Numbered.number_of g.S.Feed.Numbered.number_of
    g.S.Drain.Numbered.number_of g.met.S.Child.Child.has_number g.met.S.Feed.Job.has_number g.met.S.Drain.Job.has_number c.args.self.now) in
    let shape : IsTrue c.is_same.result → shape_view c.args.self.now.shape ≡ shape_view c.args.shape.now = search rules in
    let same : shape_view c.args.self.now.shape ≡ shape_view c.args.shape.now → IsTrue c.is_same.result = search rules in
    ((λ yes. (shape yes, sym (c.if-numbered.ensures.0 refl ∙ seen))), λ both. same both.0)

pub returns-else-numbered : goal.returns-else-numbered
returns-else-numbered g c =
    let children = ap (map g.S.Child.Numbered.number_of) c.deref.ensures.value in
    let feeds = ap (map g.S.Feed.Numbered.number_of) c.deref-2.ensures.value in
    let seen = numbers_same children feeds refl refl
    ∙ ap (own_numbers g.S.Child.Numbered.number_of g.S.Feed.Numbered.number_of g.S.Drain.Numbered.number_of) c.self.view_is
    ∙ sym (numbers_own g.S.Child.Child.child_view g.S.Feed.Job.job_view g.S.Drain.Job.job_view g.S.Child.Numbered.number_of g.S.Feed.Numbered.number_of
    g.S.Drain.Numbered.number_of g.met.S.Child.Child.has_number g.met.S.Feed.Job.has_number g.met.S.Drain.Job.has_number c.args.self.now) in (
      (λ yes. absurd (true≢false (sym yes ∙ c.if-numbered.false))),
      λ both. c.are_numbered-numbered.ensures.1 (sym both.1 ∙ sym seen),
    )
