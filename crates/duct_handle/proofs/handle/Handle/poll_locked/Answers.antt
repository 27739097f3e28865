-- What a token that knows nothing yet finds under the lock.
use Rattle.std.proofs.Common.{Ok, Err, None, ap, subst, sym, ◌∙◌, option_map}
use Rattle.duct_handle.proofs.Common.{arc_value, shape_view, views_of, IsAnswer, numbers_view, OneRuns, HandleView, PublishedView, SeenView, Waited}
use Rattle.once_cell.specs.Once.{Agrees}
use Rattle.duct_handle.proofs.Sharing.{none_within, shared, still_refused, still_unknown}
use Rattle.duct_handle.proofs.handle.Handle.poll_locked.Goals as goal

pub returns : goal.returns
returns g c =
    let views = views_of g.S.System g.S.End.Numbered g.S.Child.Child g.S.Feed.Job g.S.Drain.Job in
    let none = none_within (λ p. record { shape = arc_value p.shape; numbers = numbers_view p.numbers; answer = p.answer }) c.seen.inside.note.known (ap (λ (v : SeenView). v.known) c.seen.view_is ∙ c.requires.unknown) in
    let s = c.share.ensures in
    let after : SeenView = record { cell = c.get_as.new.note.cell; known = option_map (λ p. record { shape = arc_value p.shape; numbers = numbers_view p.numbers; answer = p.answer }) c.get_as.new.note.known } in
    subst (λ seen. Waited views c.args.self.now seen after c.share.result) c.seen.view_is
    (shared views (λ p. record { shape = arc_value p.shape; numbers = numbers_view p.numbers; answer = p.answer }) c.args.self.now c.seen.inside.note.cell c.get_as.new.note.cell c.seen.inside.note.known c.get_as.new.note.known c.in-Some.published.now c.share.result
    c.in-Some.ensures.value.0 (subst (λ o. Agrees o c.in-Some.published.now) (sym none) tt) (c.in-Some.ensures.cell ∙ c.set_as.ensures.cell ∙ ap (λ (v : SeenView). v.cell) c.seen.view_is ∙ c.requires.cell) s.told s.pending s.knows s.again)

pub returns-in-Err : goal.returns-in-Err
returns-in-Err g c =
    let views = views_of g.S.System g.S.End.Numbered g.S.Child.Child g.S.Feed.Job g.S.Drain.Job in
    let shapes = ap (λ s. shape_view s) c.deref.ensures ∙ ap (λ (h : HandleView). shape_view h.shape) c.self.view_is in
    let numbers = ap (λ (h : HandleView). h.numbers) c.self.view_is in
    still_refused views (λ (p : PublishedView). p) c.args.self.now c.args.seen.now c.in-Err.error c.requires.unknown c.requires.cell
    (subst (λ (X : Type 0). X) (λ i. IsAnswer views (shapes i) (numbers i) (Err c.in-Err.error)) (rw c.in-Err.is at c.poll-looked.ensures.err)) (rw c.in-Err.is at c.poll-looked.ensures.fault)

pub returns-in-Ok-None : goal.returns-in-Ok-None
returns-in-Ok-None g c =
    let views = views_of g.S.System g.S.End.Numbered g.S.Child.Child g.S.Feed.Job g.S.Drain.Job in
    let shapes = ap (λ s. shape_view s) c.deref.ensures ∙ ap (λ (h : HandleView). shape_view h.shape) c.self.view_is in
    let numbers = ap (λ (h : HandleView). h.numbers) c.self.view_is in
    let nothing = c.in-Ok-None.is ∙ ap (λ o. Ok o) c.in-Ok-None.field-0-is in
    still_unknown views (λ (p : PublishedView). p) c.args.self.now c.args.seen.now (Ok None) c.requires.unknown c.requires.cell
    (subst (λ (X : Type 0). X) (λ i. IsAnswer views (shapes i) (numbers i) (Ok None)) (c.poll-looked.ensures.waits nothing))
    (λ is. subst (λ n. OneRuns views n) numbers (c.poll-looked.ensures.runs nothing)) tt
