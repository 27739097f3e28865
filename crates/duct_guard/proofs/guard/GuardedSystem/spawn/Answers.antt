use Rattle.std.proofs.Common.{refl, sym, ◌∙◌, inr, rules, ap, arith, map, vec_len, ◌≤◌}
use Rattle.duct_guard.proofs.Common.{common_steps, stream_of, ends_of, GuardView}
use Rattle.duct_guard.specs.declared.crew.GuardedChild.{GuardedChild}
use Rattle.duct_guard.proofs.Below.{none_asked, one_asked}
use Rattle.duct_guard.proofs.Closing.{nothing_closed, on_err, streams_count}
use Rattle.duct_guard.proofs.Counting.{noted_child, notes}
use Rattle.duct_guard.proofs.Crews.{crew_started}
use Rattle.duct_guard.proofs.guard.GuardedSystem.spawn.Goals as goal

pub invariant_of-self-inside-2 : goal.invariant_of-self-inside-2
invariant_of-self-inside-2 g c =
    let number = λ (child : GuardedChild g.row.S-Child.Denot g.S.Child.Child g.S.Child.Numbered). g.S.Child.Numbered.number_of child.inner in
    let io = map (stream_of g.S.End.Numbered.number_of) c.args.io in
    let count = streams_count g.S.End.Numbered.number_of c.args.io in
    let streams = c.numbered_streams-ends.ensures.streams in (
      noted_child number c.args.spec io c.spawn_allowed-started.result c.self.inside.keeps c.spawn_allowed-started.ensures.forwards (notes c.in_ok-prepare_spawn.ensures.ok c.add.ensures (cc streams))
          (omega (arith, count, c.numbered_streams-ends.ensures.ends)) c.spawn_allowed-started.ensures.joins c.spawn_allowed-started.ensures.stays
          (rw streams at c.count_spawn.ensures.one) (rw streams at c.count_spawn.ensures.none),
      tt,
    )

pub spawn_allowed-started-requires : goal.spawn_allowed-started-requires
spawn_allowed-started-requires g c =
    let kept = c.self.inside.keeps in
    let crew = crew_started g.S.Child.Child.may_answer _ _ (λ m. m.number) c.self.inside.earlier c.self.inside.held c.self.inside.journal.entries c.self.inside.crew.items kept.knows refl kept.counted in
    let long = c.self.inside.crew.ok in
    let few : vec_len c.self.inside.crew ≤ c.self.inside.held.children = omega (arith, crew, long) in
    search (rules, common_steps)

pub returns-in_err-prepare_spawn-clause-spends : goal.returns-in_err-prepare_spawn-clause-spends
returns-in_err-prepare_spawn-clause-spends g c =
    let num = g.S.End.Numbered.number_of in
    let none = c.in_err-prepare_spawn.ensures.err.2 in
    on_err c.from_residual.result (λ fault. inr (nothing_closed _ (ends_of (map (stream_of num) c.args.io)) _ _ (ap (λ (v : GuardView g.row.S.Denot g.row.P.Denot). g.S.System.journal_view v.inner) c.self.view_is) (streams_count num c.args.io ∙ sym c.numbered_streams-ends.ensures.ends ∙ none)))

pub returns-in_err-prepare_spawn-clause-below : goal.returns-in_err-prepare_spawn-clause-below
returns-in_err-prepare_spawn-clause-below g c = none_asked _ _ _ _ (cc (c.self.view_is, c.in_err-prepare_spawn.ensures.err.1))

pub returns-clause-below : goal.returns-clause-below
returns-clause-below g c =
    one_asked _ _ _ _ _ _ c.self.view_is c.spawn_allowed-started.ensures.forwards (notes c.in_ok-prepare_spawn.ensures.ok c.add.ensures (cc c.numbered_streams-ends.ensures.streams)) refl refl refl
