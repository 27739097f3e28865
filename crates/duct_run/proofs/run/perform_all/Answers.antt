-- One more action of the list. If there is no memory for it, or it fails, the run fails.
use Rattle.std.proofs.Common.{◌≡◌, ◌+◌, ◌∷◌, [], arith, drop, map, refl}
use Rattle.duct_run.proofs.Common.{err_from_is_err_and, pair_text, resolved, resolved_all, action_view, actions_view, all_scopes, resources_view}
use Rattle.duct_run.proofs.Leaving.{leaves_on, leaves_same}
use Rattle.duct_run.proofs.Pushed.{length_stack}
use Rattle.duct_run.proofs.Turns.{can_here, goes_on_saying, memory_refused, new_same, pops_resolved, refused_now, rest_is, rest_none, room_here, invariant_done, stood_same, within_at, workers_on, workers_same}
use Rattle.duct_run.proofs.run.perform_all.Goals as goal

pub loop-action-init : goal.loop-action-init
loop-action-init g c = record {
  stood = λ context to same first. first;
  new = λ new. new;
  workers = refl;
  pool = leaves_same _ _;
}

pub returns-in_err-make_room-clause-err : goal.returns-in_err-make_room-clause-err
returns-in_err-make_room-clause-err g c =
    let p = err_from_is_err_and c.from_residual.result c.from_residual.ensures.1 in
    let num = g.S.End.Numbered.number_of in
    let child = g.S.Child.Child.child_view in
    let feed = g.S.Feed.Job.job_view in
    let drain = g.S.Drain.Job.job_view in
    let now = g.S.System.journal_view c.loop-action.sys in
    let scopes = all_scopes c.args.scopes.now in
    let act = resolved scopes (action_view c.action-item.result) in
    let before = resolved_all scopes (actions_view (drop c.loop-action.action-index c.args.actions.now)) in
    let rest = resolved_all scopes (actions_view (drop (c.loop-action.action-index + 1) c.args.actions.now)) in
    let is : before ≡ act ∷ rest = rest_is scopes c.args.actions.now c.loop-action.action-index c.action-item.result c.loop-action-test.true c.action-item.is in
    let pairs = map pair_text c.args.pairs.now.items in
    let kept = resources_view num child feed drain c.make_room.new.held in
    rw (p.1, p.2) (λ context to same first.
    let stood = stood_same num child feed drain c.loop-action.held c.make_room.new.held c.make_room.ensures.same g.H.Hook.allows context to before now (c.loop-action.invariant.stood context to same first) in
    memory_refused g.H.Hook.allows g.H.Hook.refuses num context pairs same to before rest act now kept stood is _ c.in_err-make_room.ensures.memory)

pub perform_one-requires-clause-within : goal.perform_one-requires-clause-within
perform_one-requires-clause-within g c = within_at _ c.args.actions.now c.loop-action.action-index c.action-item.result c.loop-action-test.true c.action-item.is c.requires.within

pub perform_one-requires-clause-full : goal.perform_one-requires-clause-full
perform_one-requires-clause-full g c =
    let num = g.S.End.Numbered.number_of in
    let child = g.S.Child.Child.child_view in
    let feed = g.S.Feed.Job.job_view in
    let drain = g.S.Drain.Job.job_view in
    let now = g.S.System.journal_view c.loop-action.sys in
    let scopes = all_scopes c.args.scopes.now in
    let act = resolved scopes (action_view c.action-item.result) in
    let before = resolved_all scopes (actions_view (drop c.loop-action.action-index c.args.actions.now)) in
    let rest = resolved_all scopes (actions_view (drop (c.loop-action.action-index + 1) c.args.actions.now)) in
    let is : before ≡ act ∷ rest = rest_is scopes c.args.actions.now c.loop-action.action-index c.action-item.result c.loop-action-test.true c.action-item.is in
    let pairs = map pair_text c.args.pairs.now.items in
    let kept = resources_view num child feed drain c.make_room.new.held in
    let some = c.requires.stood in
    let stood = stood_same num child feed drain c.loop-action.held c.make_room.new.held c.make_room.ensures.same g.H.Hook.allows some.0 some.1 before now (c.loop-action.invariant.stood some.0 some.1 some.2 some.3) in
    omega (arith, (can_here g.H.Hook.allows g.H.Hook.refuses num some.0 pairs some.2 some.1 before rest act now kept stood is).0, pops_resolved scopes (action_view c.action-item.result), length_stack num c.make_room.new.held.stack.items)

pub perform_one-requires-clause-can : goal.perform_one-requires-clause-can
perform_one-requires-clause-can g c =
    let num = g.S.End.Numbered.number_of in
    let child = g.S.Child.Child.child_view in
    let feed = g.S.Feed.Job.job_view in
    let drain = g.S.Drain.Job.job_view in
    let now = g.S.System.journal_view c.loop-action.sys in
    let scopes = all_scopes c.args.scopes.now in
    let act = resolved scopes (action_view c.action-item.result) in
    let before = resolved_all scopes (actions_view (drop c.loop-action.action-index c.args.actions.now)) in
    let rest = resolved_all scopes (actions_view (drop (c.loop-action.action-index + 1) c.args.actions.now)) in
    let is : before ≡ act ∷ rest = rest_is scopes c.args.actions.now c.loop-action.action-index c.action-item.result c.loop-action-test.true c.action-item.is in
    let pairs = map pair_text c.args.pairs.now.items in
    let kept = resources_view num child feed drain c.make_room.new.held in
    let some = c.requires.stood in
    let stood = stood_same num child feed drain c.loop-action.held c.make_room.new.held c.make_room.ensures.same g.H.Hook.allows some.0 some.1 before now (c.loop-action.invariant.stood some.0 some.1 some.2 some.3) in
    (can_here g.H.Hook.allows g.H.Hook.refuses num some.0 pairs some.2 some.1 before rest act now kept stood is).1

pub perform_one-requires-clause-room : goal.perform_one-requires-clause-room
perform_one-requires-clause-room g c =
    let num = g.S.End.Numbered.number_of in
    let child = g.S.Child.Child.child_view in
    let feed = g.S.Feed.Job.job_view in
    let drain = g.S.Drain.Job.job_view in
    let now = g.S.System.journal_view c.loop-action.sys in
    let scopes = all_scopes c.args.scopes.now in
    let act = resolved scopes (action_view c.action-item.result) in
    let before = resolved_all scopes (actions_view (drop c.loop-action.action-index c.args.actions.now)) in
    let rest = resolved_all scopes (actions_view (drop (c.loop-action.action-index + 1) c.args.actions.now)) in
    let is : before ≡ act ∷ rest = rest_is scopes c.args.actions.now c.loop-action.action-index c.action-item.result c.loop-action-test.true c.action-item.is in
    let pairs = map pair_text c.args.pairs.now.items in
    let kept = resources_view num child feed drain c.make_room.new.held in
    let some = c.requires.stood in
    let stood = stood_same num child feed drain c.loop-action.held c.make_room.new.held c.make_room.ensures.same g.H.Hook.allows some.0 some.1 before now (c.loop-action.invariant.stood some.0 some.1 some.2 some.3) in
    room_here g.H.Hook.allows g.H.Hook.refuses num some.0 pairs some.2 some.1 before rest act now kept stood is

pub returns-in_err-perform_one-clause-err : goal.returns-in_err-perform_one-clause-err
returns-in_err-perform_one-clause-err g c =
    let p = err_from_is_err_and c.from_residual-in_err-perform_one.result c.from_residual-in_err-perform_one.ensures.1 in
    let num = g.S.End.Numbered.number_of in
    let child = g.S.Child.Child.child_view in
    let feed = g.S.Feed.Job.job_view in
    let drain = g.S.Drain.Job.job_view in
    let now = g.S.System.journal_view c.loop-action.sys in
    let scopes = all_scopes c.args.scopes.now in
    let act = resolved scopes (action_view c.action-item.result) in
    let before = resolved_all scopes (actions_view (drop c.loop-action.action-index c.args.actions.now)) in
    let rest = resolved_all scopes (actions_view (drop (c.loop-action.action-index + 1) c.args.actions.now)) in
    let is : before ≡ act ∷ rest = rest_is scopes c.args.actions.now c.loop-action.action-index c.action-item.result c.loop-action-test.true c.action-item.is in
    let pairs = map pair_text c.args.pairs.now.items in
    let kept = resources_view num child feed drain c.make_room.new.held in
    rw (p.1, p.2) (λ context to same first.
    let stood = stood_same num child feed drain c.loop-action.held c.make_room.new.held c.make_room.ensures.same g.H.Hook.allows context to before now (c.loop-action.invariant.stood context to same first) in
    refused_now g.H.Hook.allows g.H.Hook.refuses num context pairs same to before rest act now kept stood is _ _ _ c.in_err-perform_one.ensures.performed.err)

pub returns-in_err-perform_one-clause-new : goal.returns-in_err-perform_one-clause-new
returns-in_err-perform_one-clause-new g c = λ new. c.perform_one.ensures.performed.new
    (new_same g.S.End.Numbered.number_of g.S.Child.Child.child_view g.S.Feed.Job.job_view g.S.Drain.Job.job_view c.loop-action.held c.make_room.new.held c.make_room.ensures.same (c.loop-action.invariant.new new))

pub returns-in_err-perform_one-clause-pool : goal.returns-in_err-perform_one-clause-pool
returns-in_err-perform_one-clause-pool g c = leaves_on _ [] _ _ _ c.loop-action.invariant.pool c.perform_one.ensures.pool

pub loop-action-preserved : goal.loop-action-preserved
loop-action-preserved g c =
    let num = g.S.End.Numbered.number_of in
    let child = g.S.Child.Child.child_view in
    let feed = g.S.Feed.Job.job_view in
    let drain = g.S.Drain.Job.job_view in
    let now = g.S.System.journal_view c.loop-action.sys in
    let scopes = all_scopes c.args.scopes.now in
    let act = resolved scopes (action_view c.action-item.result) in
    let before = resolved_all scopes (actions_view (drop c.loop-action.action-index c.args.actions.now)) in
    let rest = resolved_all scopes (actions_view (drop (c.loop-action.action-index + 1) c.args.actions.now)) in
    let is : before ≡ act ∷ rest = rest_is scopes c.args.actions.now c.loop-action.action-index c.action-item.result c.loop-action-test.true c.action-item.is in
    let pairs = map pair_text c.args.pairs.now.items in
    let kept = resources_view num child feed drain c.make_room.new.held in
    let same_held = c.make_room.ensures.same in
    record {
      stood = λ context to same first.
          let stood = stood_same num child feed drain c.loop-action.held c.make_room.new.held c.make_room.ensures.same g.H.Hook.allows context to before now (c.loop-action.invariant.stood context to same first) in
          goes_on_saying g.H.Hook.allows g.H.Hook.refuses num context pairs same to before rest act now kept stood is _ _ c.in_ok-perform_one.ensures.performed.ok;
      new = λ new. c.perform_one.ensures.performed.new (new_same num child feed drain c.loop-action.held c.make_room.new.held same_held (c.loop-action.invariant.new new));
      workers = workers_on c.args.held.now c.make_room.new.held c.perform_one.new.held
          (workers_on c.args.held.now c.loop-action.held c.make_room.new.held c.loop-action.invariant.workers (workers_same c.loop-action.held c.make_room.new.held same_held)) c.perform_one.ensures.performed.workers;
      pool = leaves_on _ [] _ _ _ c.loop-action.invariant.pool c.perform_one.ensures.pool;
    }

pub returns-clause-ok : goal.returns-clause-ok
returns-clause-ok g c = λ context to same first.
    invariant_done g.H.Hook.allows g.H.Hook.refuses g.S.End.Numbered.number_of context to _ _ _ (rest_none (all_scopes c.args.scopes.now) c.args.actions.now c.loop-action.action-index (omega (arith, c.loop-action-test.false)))
    (c.loop-action.invariant.stood context to same first)
