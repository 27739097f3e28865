use Rattle.std.proofs.Common.{refl, ◌∙◌, ap}
use Rattle.duct_guard.proofs.Common.{end_entry}
use Rattle.duct_guard.proofs.Below.{none_asked, one_asked}
use Rattle.duct_guard.proofs.Counting.{noted_end, notes, ready_for}
use Rattle.duct_guard.proofs.Guarding.{opens_end}
use Rattle.duct_guard.proofs.guard.Guarded.end.Goals as goal

pub invariant_of-self-inside-2 : goal.invariant_of-self-inside-2
invariant_of-self-inside-2 g c =
    let number = g.S.End.Numbered.number_of in
    let made = c.got-made.result in
    let sent = rw (← c.got-made.ensures.same) at c.end_allowed-answer.ensures.forwards in
    let ready = ready_for c.self.inside.journal.room made c.in_ok-kept.ensures.ok.1 c.got-made.ensures.ok c.got-made.ensures.err in
    let entry = c.entry.ensures ∙ ap (end_entry number c.args.asked.now) c.number_of.ensures in
    (noted_end number made (opens_end number c.args.asked.now) c.self.inside.keeps sent (notes ready c.add.ensures entry) c.count_end.ensures.one c.count_end.ensures.none, tt)

pub count_end-requires : goal.count_end-requires
count_end-requires g c = rw c.got-made.ensures.same c.end_allowed-answer.ensures.counts

pub returns-in_err-kept-clause-below : goal.returns-in_err-kept-clause-below
returns-in_err-kept-clause-below g c = none_asked _ _ _ _ (cc (c.self.view_is, c.in_err-kept.ensures.err.1))

pub returns-clause-below : goal.returns-clause-below
returns-clause-below g c =
    let number = g.S.End.Numbered.number_of in
    let ready = ready_for c.self.inside.journal.room c.got-made.result c.in_ok-kept.ensures.ok.1 c.got-made.ensures.ok c.got-made.ensures.err in
    let sent = rw (← c.got-made.ensures.same) at c.end_allowed-answer.ensures.forwards in
    let entry = c.entry.ensures ∙ ap (end_entry number c.args.asked.now) c.number_of.ensures in
    one_asked _ _ _ _ _ _ c.self.view_is sent (notes ready c.add.ensures entry) refl refl refl
