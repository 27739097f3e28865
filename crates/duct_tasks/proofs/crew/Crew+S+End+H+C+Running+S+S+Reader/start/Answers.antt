use Rattle.std.proofs.Common.{◌≡◌, ◌∙◌, Bool, if◌then◌else◌, arith, ap, sym, false, true, subst, length, length-append, [], ◌∷◌, ℕ, List, get_or, sum_by}
use Rattle.duct_tasks.proofs.Common.{All-push, sum_by_push, views_of, failed_of, running_of, Task}
use Rattle.duct_tasks.proofs.Counting.{either, neither}
use Rattle.duct_tasks.proofs.Ends.{not_stopped}
use Rattle.duct_tasks.proofs.Jobs.{due_from}
use Rattle.duct_tasks.proofs.Moving.{goes_next}
use Rattle.duct_tasks.specs.Tasks.{IsDue, IsReadyIf}
use Rattle.duct_tasks.proofs.crew.Crew+S+End+H+C+Running+S+S+Reader.start.Goals as goal

pub invariant_of-self : goal.invariant_of-self
invariant_of-self g c =
    let self = c.args.self.now in
    let items = c.push_reserved.ensures.items in
    let calm : false ≡ self.stopped = sym (not_stopped self.tasks.at_failure self.failed
    self.stopped self.stops c.requires.goes_on) in
    let runs = sum_by_push (λ (t : Task _ _). running_of t) self.started.items c.started-made.result
    in
    let fails = sum_by_push (λ (t : Task _ _). failed_of t) self.started.items c.started-made.result
    in
    let counts : (b : Bool) → c.has_failed.result ≡ b
    → failed_of c.started-made.result ≡ (if b then 1 else 0) =
    λ b is. c.has_failed.ensures ∙ ap (λ (b : Bool). if b then 1 else 0) is in
    let failed = ap (λ (ts : List (Task _ _)). sum_by (λ t. failed_of t) ts) items in
    record {
      some = self.some;
      few = omega (arith, c.requires.few, c.running.ensures.one);
      runs = omega (
        arith,
        self.runs,
        c.running.ensures.is,
        runs,
        ap
            (λ (ts : List (Task _ _)). sum_by (λ t. running_of t) ts) items,
      );
      fails = either self.failed c.has_failed.result (λ is. omega
          (arith, self.fails is, fails, failed))
          (λ is. omega (arith, counts true is, fails, failed));
      well = λ is.
          let none = neither self.failed c.has_failed.result is in
          omega (arith, self.well none.0, counts false none.1, fails, failed);
      stops = λ is. absurd (let no : false ≡ true = calm ∙ is in cc);
      room = rw c.push_reserved.ensures.capacity self.room;
      within = omega (
        arith,
        c.requires.some,
        ap (λ (ts : List (Task _ _)). length ts) items,
        length-append self.started.items (c.started-made.result ∷ []),
      );
    }

pub returns-clause-goes : goal.returns-clause-goes
returns-clause-goes g c =
    let self = c.args.self.now in
    let at : c.len.result ≡ length self.started.items = omega
    (arith, c.len.ensures, self.started.ok.0) in
    let root = subst (λ (n : ℕ). c.index-all-len.result ≡ get_or self.tasks.all.now n
    c.index-all-len.result) at c.index-all-len.is in
    let calm : self.stopped ≡ false = not_stopped self.tasks.at_failure self.failed self.stopped
    self.stops c.requires.goes_on in
    rw (c.push_reserved.ensures.items, calm) (goes_next self.tasks self.started.items
    c.index-all-len.result c.started-made.result root c.requires.some
    c.started-made.ensures.starts)

pub returns-clause-ready : goal.returns-clause-ready
returns-clause-ready g c =
    let self = c.args.self.now in
    let views = views_of g.S.System g.S.End.Numbered g.S.Child.Child g.S.Feed.Job g.S.Drain.Job in
    let P = λ (t : Task _ _). IsReadyIf views g.S.Reader.Read.remaining
    (g.C.Clock.may_show self.tasks.clock.now) (IsDue (g.C.Clock.may_show self.tasks.clock.now)
    self.tasks.limit self.stopped) t in
    rw c.push_reserved.ensures.items (All-push P self.started.items c.started-made.result
    c.requires.ready (
      c.started-made.ensures.ready,
      due_from (λ no. absurd no) c.started-made.result c.started-made.ensures.starts.fresh,
    ))
