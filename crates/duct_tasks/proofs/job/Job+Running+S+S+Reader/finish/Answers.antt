use Rattle.std.proofs.Common.{Bool, IfNone, IsOk, Option, ap, if◌then◌else◌, is_some, subst, true}
use Rattle.duct_system.specs.declared.error.Error.{Error}
use Rattle.duct_tasks.proofs.Common.{views_of}
use Rattle.duct_tasks.proofs.Jobs.{come_of, failed_end, noted_of, read_of, stopped_of}
use Rattle.duct_tasks.specs.Tasks.{IsEndOf}
use Rattle.duct_tasks.specs.declared.job.Step.{Step}
use Rattle.duct_tasks.proofs.job.Job+Running+S+S+Reader.finish.Goals as goal

pub returns-clause-fails : goal.returns-clause-fails
returns-clause-fails g c =
    let job = c.args.self.now in
    let came : IsEndOf job.step c.end_of-end.result =
    subst (λ (s : Step). IsEndOf s c.end_of-end.result) c.replace.ensures.value c.end_of-end.ensures
    in
    λ failed. ap (λ (b : Bool). if b then true else is_some c.take-stdout.result.2)
    (failed_end job.step c.end_of-end.result came failed)

pub returns-clause-came : goal.returns-clause-came
returns-clause-came g c =
    let views = views_of g.S.System g.S.End.Numbered g.S.Child.Child g.S.Feed.Job g.S.Drain.Job in
    let remaining = g.S.Reader.Read.remaining in
    let job = c.args.self.now in
    let ready = c.requires.ready in
    let took = c.take-stdout.ensures in
    let came : IsEndOf job.step c.end_of-end.result =
    subst (λ (s : Step). IsEndOf s c.end_of-end.result) c.replace.ensures.value c.end_of-end.ensures
    in
    λ grace limit stopped words launch is. record {
      running = job.running;
      alike = is.alike;
      has_come = come_of views remaining _ grace _ job.step c.end_of-end.result job.running came
          is.at_step;
      read = record {
        out_left = job.streams.out.stream.left.value;
        err_left = job.streams.err.stream.left.value;
        stdout = rw (took.stdout, ← is.out) ready.reads.output.gave;
        stderr = rw (took.stderr, ← is.err) ready.reads.error.gave;
        whole = λ none.
            let ok : IsOk job.streams.over =
            subst (λ (o : Option Error). IfNone o (IsOk job.streams.over)) none took.read in
            read_of _ job.step c.end_of-end.result job.streams.over _ came ready.until
            c.requires.over ok (λ is.
            let ends = ready.reads.ends is in
            (ready.reads.output.ended ends.0, ready.reads.error.ended ends.1));
      };
      noted = rw c.replace-2.ensures.value (noted_of views job.step words launch.running
          job.commands.items (stopped_of _ job.step job.streams.over c.requires.over) is.noted);
      took = (job.began, c.now.result, ready.began, c.now.ensures, c.saturating_sub.ensures);
    }
