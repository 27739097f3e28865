-- A run that had all actions left at the start now has the remaining ones left.
use Rattle.std.proofs.Common.{◌≡◌, [], drop, map}
use Rattle.duct_run.proofs.Common.{pair_text, State, Leaves, pool_view, resolved_all, RunContext, ReadyForActions, actions_view, all_scopes, AreNew, HasSameWorkers, resources_view}
use Rattle.duct_run.proofs.run.perform_all.Given as goal

abbrev pub invariant-loop-action : goal.invariant-loop-action
invariant-loop-action g l =
    let num = g.S.End.Numbered.number_of in
    let child = g.S.Child.Child.child_view in
    let feed = g.S.Feed.Job.job_view in
    let drain = g.S.Drain.Job.job_view in
    let journal = g.S.System.journal_view in record {
      stood : (context : RunContext) (goal : State _ _) → context.pairs ≡ map pair_text l.pairs.items
          → ReadyForActions g.H.Hook.allows num context goal (resolved_all (all_scopes l.scopes) (actions_view l.actions)) (journal l.fn.sys) (resources_view num child feed drain l.fn.held)
          → ReadyForActions g.H.Hook.allows num context goal (resolved_all (all_scopes l.scopes) (actions_view (drop l.action-index l.actions))) (journal l.sys) (resources_view num child feed drain l.held);
      new : AreNew child feed drain l.fn.held → AreNew child feed drain l.held;
      workers : HasSameWorkers l.fn.held l.held;
      pool : Leaves g.S.Child.Child.may_answer [] (pool_view child l.fn.pool) (pool_view child l.pool);
    }
