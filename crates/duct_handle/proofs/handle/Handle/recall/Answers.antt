-- A token that knows what is published.
use Rattle.std.proofs.Common.{ap, subst, ◌∙◌, option_map}
use Rattle.duct_handle.proofs.Common.{arc_value, views_of, numbers_view, SeenView, Waited}
use Rattle.duct_handle.proofs.Sharing.{shared}
use Rattle.duct_handle.proofs.handle.Handle.recall.Goals as goal

pub returns-in-Some-clause-known : goal.returns-in-Some-clause-known
returns-in-Some-clause-known g c =
    let views = views_of g.S.System g.S.End.Numbered g.S.Child.Child g.S.Feed.Job g.S.Drain.Job in
    let s = c.share.ensures in
    let after : SeenView = record { cell = c.get_as.new.note.cell; known = option_map (λ p. record { shape = arc_value p.shape; numbers = numbers_view p.numbers; answer = p.answer }) c.get_as.new.note.known } in
    subst (λ seen. Waited views c.args.self.now seen after c.share.result) c.seen.view_is
    (shared views (λ p. record { shape = arc_value p.shape; numbers = numbers_view p.numbers; answer = p.answer }) c.args.self.now c.seen.inside.note.cell c.get_as.new.note.cell c.seen.inside.note.known c.get_as.new.note.known c.in-Some.published.now c.share.result
    c.in-Some.ensures.value.0 c.in-Some.ensures.value.1 (c.in-Some.ensures.cell ∙ ap (λ (v : SeenView). v.cell) c.seen.view_is ∙ c.requires) s.told s.pending s.knows s.again)
