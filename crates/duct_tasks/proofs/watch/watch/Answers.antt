use Rattle.std.proofs.Common.{◌≡◌, ◌∙◌, false, inl, inr, refl, subst}
use Rattle.duct_tasks.proofs.Common.{views_of, PolledOnce}
use Rattle.duct_tasks.proofs.Signalled.{processes_left, signals_left}
use Rattle.duct_tasks.proofs.Staying.{stays_on, stays_same}
use Rattle.duct_tasks.proofs.watch.watch.Goals as goal

pub loop-init : goal.loop-init
loop-init g c = record {
  can = tt;
  ends = tt;
  stays = stays_same c.args.running.now;
  processes = refl;
  signalled = λ tries all. all;
  looked = inl refl;
}

pub loop-preserved : goal.loop-preserved
loop-preserved g c =
    let no : c.stop.result ≡ false = cc in
    record {
      can = tt;
      ends = tt;
      stays = stays_on c.loop.invariant.stays c.ended-end.ensures.stays;
      processes = processes_left (views_of g.S.System g.S.End.Numbered g.S.Child.Child
          g.S.Feed.Job g.S.Drain.Job) _ _ c.ended-end.ensures.polls ∙ c.loop.invariant.processes;
      signalled = λ tries all. signals_left (views_of g.S.System g.S.End.Numbered g.S.Child.Child
          g.S.Feed.Job g.S.Drain.Job) tries _ _ c.ended-end.ensures.polls
          (c.loop.invariant.signalled tries all);
      looked = inr (subst (λ b. g.F.Fn.post c.args.stop.now tt b) no c.stop.ensures);
    }

pub returns-then-is_final-clause-in_time : goal.returns-then-is_final-clause-in_time
returns-then-is_final-clause-in_time g c =
    let views = views_of g.S.System g.S.End.Numbered g.S.Child.Child g.S.Feed.Job g.S.Drain.Job in
    elim c.loop.invariant.looked [
      | inl same ↦ inr (subst (λ r. PolledOnce views r c.ended-end.new.running) same
          c.ended-end.ensures.polls)
      | inr says ↦ inl says
    ]

pub returns-then-is_final-clause-polls : goal.returns-then-is_final-clause-polls
returns-then-is_final-clause-polls g c =
    (c.loop.running, c.loop.invariant.stays, c.loop.invariant.signalled, c.ended-end.ensures.polls)

pub returns-then-is_final-clause-processes : goal.returns-then-is_final-clause-processes
returns-then-is_final-clause-processes g c =
    processes_left (views_of g.S.System g.S.End.Numbered g.S.Child.Child g.S.Feed.Job
    g.S.Drain.Job) _ _ c.ended-end.ensures.polls ∙ c.loop.invariant.processes
