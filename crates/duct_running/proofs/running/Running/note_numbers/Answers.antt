use Rattle.std.proofs.Common.{ap, map, sym, ◌∙◌}
use Rattle.duct_running.proofs.Numbered.{numbers_same, own_numbers, numbers_own}
use Rattle.duct_running.proofs.running.Running.note_numbers.Goals as goal

pub returns : goal.returns
returns g c =
    let children = c.note.ensures ∙ ap (map g.S.Child.Numbered.number_of) c.deref.ensures.value in
    let feeds = c.note-2.ensures ∙ ap (map g.S.Feed.Numbered.number_of) c.deref-2.ensures.value in
    numbers_same children feeds c.number_of-numbers.ensures c.number_of-numbers-2.ensures
    ∙ ap (own_numbers g.S.Child.Numbered.number_of g.S.Feed.Numbered.number_of g.S.Drain.Numbered.number_of) c.self.view_is
    ∙ sym (numbers_own g.S.Child.Child.child_view g.S.Feed.Job.job_view g.S.Drain.Job.job_view g.S.Child.Numbered.number_of g.S.Feed.Numbered.number_of
    g.S.Drain.Numbered.number_of g.met.S.Child.Child.has_number g.met.S.Feed.Job.has_number g.met.S.Drain.Job.has_number c.args.self.now)
