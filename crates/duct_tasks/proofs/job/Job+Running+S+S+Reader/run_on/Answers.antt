use Rattle.std.proofs.Common.{◌∙◌, Err, Ok, arith, sym}
use Rattle.duct_tasks.proofs.Common.{views_of}
use Rattle.duct_tasks.proofs.Jobs.{first_on, noted_count, noted_in_place, over_on, polled_on, same_count, stays_on}
use Rattle.duct_tasks.proofs.Staying.{alike}
use Rattle.duct_tasks.specs.declared.job.Step.TheVariants as step
use Rattle.duct_tasks.proofs.job.Job+Running+S+S+Reader.run_on.Goals as goal

pub returns-in-Some-Err-clause-goes : goal.returns-in-Some-Err-clause-goes
returns-in-Some-Err-clause-goes g c =
    let views = views_of g.S.System g.S.End.Numbered g.S.Child.Child g.S.Feed.Job g.S.Drain.Job in
    λ stopped due. stays_on views g.S.System.may_read g.S.Reader.Read.remaining g.H.Hook.allows
    g.H.Hook.refuses g.C.Clock.may_show c.args.tasks.now stopped
    c.args.self.now _ c.args.sys.now c.args.pool.now.given tt
    (over_on views g.S.System.may_read g.S.Reader.Read.remaining g.H.Hook.allows
    g.H.Hook.refuses g.C.Clock.may_show c.args.tasks.now stopped
    c.args.self.now c.ended.new.running _ (Err c.in-Some-Err.error)
    (step.Failed c.in-Some-Err.error c.last_read.result) (λ is. is) (λ words launch is. is)
    c.requires.runs c.ended.ensures.polls c.ended.ensures.stays (rw c.in-Some-Err.field-0-is at c.in-Some-Err.ensures.stores)
    (noted_in_place c.args.self.now.commands.len c.args.self.now.commands.items
    c.deref_mut.result.now c.note.new.commands c.reports.result.now _
    (omega (arith, c.args.self.now.commands.ok.0)) c.deref_mut.ensures.value c.reports.ensures
    c.note.ensures))

pub returns-in-Some-Ok-clause-goes : goal.returns-in-Some-Ok-clause-goes
returns-in-Some-Ok-clause-goes g c =
    let views = views_of g.S.System g.S.End.Numbered g.S.Child.Child g.S.Feed.Job g.S.Drain.Job in
    λ stopped due. stays_on views g.S.System.may_read g.S.Reader.Read.remaining g.H.Hook.allows
    g.H.Hook.refuses g.C.Clock.may_show c.args.tasks.now stopped
    c.args.self.now _ c.args.sys.now c.args.pool.now.given tt
    (over_on views g.S.System.may_read g.S.Reader.Read.remaining g.H.Hook.allows
    g.H.Hook.refuses g.C.Clock.may_show c.args.tasks.now stopped
    c.args.self.now c.ended.new.running _ (Ok c.in-Some-Ok.output)
    (step.Over c.in-Some-Ok.output) (λ is. is) (λ words launch is. is)
    c.requires.runs c.ended.ensures.polls c.ended.ensures.stays (rw c.in-Some-Ok.field-0-is at c.in-Some-Ok.ensures.stores)
    (noted_in_place c.args.self.now.commands.len c.args.self.now.commands.items
    c.deref_mut-in-Some-Ok.result.now c.note-in-Some-Ok.new.commands
    c.reports-in-Some-Ok.result.now _ (omega (arith, c.args.self.now.commands.ok.0))
    c.deref_mut-in-Some-Ok.ensures.value c.reports-in-Some-Ok.ensures c.note-in-Some-Ok.ensures))

pub returns-in-Some-Ok-clause-ready : goal.returns-in-Some-Ok-clause-ready
returns-in-Some-Ok-clause-ready g c = record {
  reads = c.requires.ready.reads;
  began = c.requires.ready.began;
  count =
      let views = views_of g.S.System g.S.End.Numbered g.S.Child.Child g.S.Feed.Job g.S.Drain.Job in
      let noted = noted_in_place c.args.self.now.commands.len c.args.self.now.commands.items
      c.deref_mut-in-Some-Ok.result.now c.note-in-Some-Ok.new.commands
      c.reports-in-Some-Ok.result.now _ (omega (arith, c.args.self.now.commands.ok.0))
      c.deref_mut-in-Some-Ok.ensures.value c.reports-in-Some-Ok.ensures
      c.note-in-Some-Ok.ensures in
      noted_count c.args.self.now.commands.items _ _ noted ∙ c.requires.ready.count
      ∙ sym (same_count views c.args.self.now.running c.ended.new.running
      (alike views c.args.self.now.running c.ended.new.running c.ended.ensures.stays));
  until = c.go_on-is_open.ensures.no c.if-not-is_open.true;
}

pub returns-in-Some-Ok-2-clause-goes : goal.returns-in-Some-Ok-2-clause-goes
returns-in-Some-Ok-2-clause-goes g c =
    let views = views_of g.S.System g.S.End.Numbered g.S.Child.Child g.S.Feed.Job g.S.Drain.Job in
    let job = c.args.self.now in
    λ stopped due. first_on views g.S.System.may_read g.S.Reader.Read.remaining g.H.Hook.allows
    g.H.Hook.refuses g.C.Clock.may_show c.args.tasks.now stopped job
    (record job { running = c.ended.new.running }) _ c.args.sys.now _ c.args.pool.now.given _ due
    (polled_on views g.S.System.may_read g.S.Reader.Read.remaining g.H.Hook.allows
    g.H.Hook.refuses g.C.Clock.may_show c.args.tasks.now stopped job
    c.ended.new.running c.requires.runs c.ended.ensures.polls c.ended.ensures.stays)
    (c.ask_if_late.ensures.goes stopped due)
