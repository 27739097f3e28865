-- A spawn that was passed on, and one whose ends were closed.
use Rattle.std.proofs.Common.{ap, arith, sym, subst, length, map, vec_len, inl, inr, Ok, Err}
use Rattle.duct_guard.proofs.Common.{Spawn, IsRefused, stream_of, ends_of, ClosesFirst}
use Rattle.duct_guard.proofs.Closing.{ends_numbered, streams_count}
use Rattle.duct_guard.proofs.Crews.{few_left, joins_crew}
use Rattle.duct_guard.proofs.Guarding.{child_answered, child_refused}
use Rattle.duct_guard.proofs.requests.spawn_allowed.Goals as goal

pub returns-in-Ok-spawn-clause-forwards : goal.returns-in-Ok-spawn-clause-forwards
returns-in-Ok-spawn-clause-forwards g c =
    let num = g.S.End.Numbered.number_of in
    rw c.join.ensures.child (child_answered _ c.args.held g.S.Child.Numbered.number_of c.args.spec.now c.in-Ok.copy (map (stream_of num) c.args.io) (length (ends_of c.args.io)) _ _ (Ok c.in-Ok-spawn.child) c.in-Ok.ensures.allowed (sym c.in-Ok.ensures.copy) (streams_count num c.args.io) c.in-Ok-spawn.ensures.ok c.in-Ok-spawn.ensures.err)

pub returns-in-Err-spawn-clause-forwards : goal.returns-in-Err-spawn-clause-forwards
returns-in-Err-spawn-clause-forwards g c =
    let num = g.S.End.Numbered.number_of in
    child_answered _ c.args.held g.S.Child.Numbered.number_of c.args.spec.now c.in-Ok.copy (map (stream_of num) c.args.io) (length (ends_of c.args.io)) _ _ (Err c.in-Err-spawn.fault) c.in-Ok.ensures.allowed (sym c.in-Ok.ensures.copy) (streams_count num c.args.io) c.in-Err-spawn.ensures.ok c.in-Err-spawn.ensures.err

pub returns-in-Err-clause-forwards : goal.returns-in-Err-clause-forwards
returns-in-Err-clause-forwards g c =
    let num = g.S.End.Numbered.number_of in
    let old = g.S.System.journal_view c.args.sys.now in
    let new = g.S.System.journal_view c.close_ends.new.sys in
    let same = c.prepared.ensures.same in
    let few = few_left g.S.Child.Child.may_answer (λ m. m.number) c.args.crew.now.items c.forget_ended.new.crew.items c.forget_ended.ensures in
    let started = c.requires.started in
    child_refused (g.P.Policy.rules c.args.policy.now) c.args.held c.args.spec.now (map (stream_of num) c.args.io) c.args.room (vec_len c.prepared.new.crew) c.in-Err.fault old new
    c.in-Err.ensures.err
    (let new_len = c.prepared.new.crew.ok in let mid_len = c.forget_ended.new.crew.ok in let old_len = c.args.crew.now.ok in let long = ap length same in omega (arith, few, started, long, new_len, mid_len, old_len))
    (subst (λ numbers. ClosesFirst c.args.room numbers old new) (sym (ends_numbered num c.args.io)) c.close_ends.ensures)

pub returns-in-Ok-spawn-clause-joins : goal.returns-in-Ok-spawn-clause-joins
returns-in-Ok-spawn-clause-joins g c =
    let same = c.in-Ok.ensures.same in
    let few = c.in-Ok.ensures.few in
    let long = c.prepared.new.crew.ok in
    joins_crew g.S.Child.Child.may_answer (λ m. m.number) g.S.Child.Numbered.number_of (g.P.Policy.rules c.args.policy.now).at_once c.args.crew.now.items c.forget_ended.new.crew.items c.prepared.new.crew.items c.join.new.crew.items _ _ c.forget_ended.ensures same (omega (arith, few, long)) c.join.ensures.child c.join.ensures.crew

pub returns-in-Err-spawn-clause-spends : goal.returns-in-Err-spawn-clause-spends
returns-in-Err-spawn-clause-spends g c =
    let num = g.S.End.Numbered.number_of in
    let old = g.S.System.journal_view c.args.sys.now in
    let new = g.S.System.journal_view c.spawn.new.self in
    inl (rw (streams_count num c.args.io) (subst (λ spec. IsRefused (Spawn spec (map (stream_of num) c.args.io) (Err c.in-Err-spawn.fault)) (length (ends_of c.args.io)) c.in-Err-spawn.fault old new) c.in-Ok.ensures.copy c.in-Err-spawn.ensures.err))

pub returns-in-Err-clause-spends : goal.returns-in-Err-clause-spends
returns-in-Err-clause-spends g c =
    let num = g.S.End.Numbered.number_of in
    let old = g.S.System.journal_view c.args.sys.now in
    let new = g.S.System.journal_view c.close_ends.new.sys in
    inr (subst (λ numbers. ClosesFirst c.args.room numbers old new) (sym (ends_numbered num c.args.io)) c.close_ends.ensures)
