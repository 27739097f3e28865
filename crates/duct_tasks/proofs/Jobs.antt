-- What runs of a task, and where each turn leaves it.
use Rattle.std.proofs.Common.{◌≡◌, ◌+◌, ◌∙◌, ◌⊎◌, inl, inr, refl, ap, sym, subst, arith, ℕ, ℤ, pos, Bool, true, false, List, [], ◌∷◌, ◌++◌, drop, length, length-append, map, min, suc, take, zero, Ok, Err, Some, None, IsOk, IsSome, IfSome, Option, Result, is_some}
use Rattle.std.specs.Duration.{as_nanos, max_nanos}
use Rattle.std.specs.declared.alloc.Global.{Global}
use Rattle.std.specs.declared.time.Duration.{Duration}
use Rattle.std.specs.declared.vec.Vec.{Vec}
use Rattle.duct_base.proofs.Sieving.{counted_more}
use Rattle.duct_system.specs.declared.error.Error.TheVariants as error
use Rattle.duct_system.specs.declared.system.Order.TheVariants.{Kill, Signal}
use Rattle.duct_status.specs.declared.status.Word.{Word}
use Rattle.duct_running.specs.Stored.{stored_in}
use Rattle.duct_handle.specs.Waited.{at_end}
use Rattle.duct_tasks.proofs.Common.{Allows, AreSignalled, Bytes, End, Error, Expression, HasOrders, NumbersView, PolledOnce, PoolView, Refuses, Running, Ended, RunningView, RunsAlike, ShapeView, StaysSame, SystemViews, Task, WereSignalled, counted, length-map, numbers_of, shape_view}
use Rattle.duct_tasks.proofs.Ending.{if_none_with, if_some_with}
use Rattle.duct_tasks.proofs.GroupLines.{folds_on, signals_give}
use Rattle.duct_tasks.proofs.Moving.{given_on, starts_on}
use Rattle.duct_tasks.proofs.Signalled.{all_sent, orders_left}
use Rattle.duct_tasks.proofs.Staying.{alike}
use Rattle.duct_tasks.specs.Groups.{OrdersAll, SignalsGroups, Tries, leaders}
use Rattle.duct_status.specs.ShapeView.{command, command_count, input, pipe, unchecked}
use Rattle.duct_tasks.specs.Statuses.{CommandView, commands_in, command_view, with_reports, words_of}
use Rattle.duct_tasks.specs.Tasks.{AreNoted, AreNotedAt, Comes, EndedAlone, HasCome, HasReadOn, IsAtMade, IsAtStep, IsDue, IsDueAt, IsDueTask, IsEndOf, IsJob, IsOverAt, IsStopped, IsMove, Launch, ReadsUntil, Refusal, Start, TaskGoes, has_failed_at, is_failure, left_by, shown_by, starts_of, given_by}
use Rattle.duct_tasks.specs.Tasks.Move.{signals}
use Rattle.duct_tasks.specs.Until.{HasPassed, HasReached, StoresEnd, UnlessEnded}
use Rattle.duct_tasks.specs.declared.finished.Finished.{Finished}
use Rattle.duct_tasks.specs.declared.finished.TaskEnd.{TaskEnd}
use Rattle.duct_tasks.specs.declared.job.Job.{Job}
use Rattle.duct_tasks.specs.declared.job.Step.{Step}
use Rattle.duct_tasks.specs.declared.job.Step.TheVariants as step
use Rattle.duct_tasks.specs.declared.late.Late.{Late}
use Rattle.duct_tasks.specs.declared.lines.BothLines.{BothLines}
use Rattle.duct_tasks.specs.declared.lines.LinesError.{LinesError}
use Rattle.duct_tasks.specs.declared.many.Tasks.{Tasks}
use Rattle.duct_tasks.specs.declared.statuses.CommandStatus.{CommandStatus}

with_words : (ws : List (List (List ℕ))) (rs : List Word)
    → map (λ (v : CommandView). v.words) (with_reports ws rs) ≡ ws
with_words [] rs = refl
with_words (w ∷ ws) [] = ap (λ (more : List (List (List ℕ))). w ∷ more) (with_words ws [])
with_words (w ∷ ws) (r ∷ rs) = ap (λ (more : List (List (List ℕ))). w ∷ more) (with_words ws rs)

viewed_words : (cs : List CommandStatus)
    → map (λ (v : CommandView). v.words) (map command_view cs) ≡ map words_of cs
viewed_words [] = refl
viewed_words (c ∷ cs) =
    ap (λ (more : List (List (List ℕ))). words_of c ∷ more) (viewed_words cs)

-- commands that were noted have the same words
pub noted_words : (before after : List CommandStatus) (rs : List Word)
    → map command_view after ≡ with_reports (map words_of before) rs
    → map words_of after ≡ map words_of before
noted_words before after rs is =
    sym (viewed_words after)
    ∙ ap (λ (vs : List CommandView). map (λ (v : CommandView). v.words) vs) is
    ∙ with_words (map words_of before) rs

-- and are as many
pub noted_count : (before after : List CommandStatus) (rs : List Word)
    → map command_view after ≡ with_reports (map words_of before) rs → length after ≡ length before
noted_count before after rs is =
    sym (length-map after words_of)
    ∙ ap (λ (ws : List (List (List ℕ))). length ws) (noted_words before after rs is)
    ∙ length-map before words_of

-- what was written to a slice of all elements
written_back : {X : Type 0} (n : ℕ) (new old : List X) → n ≡ length old → length new ≡ length old
    → take n (new ++ drop (length new) old) ≡ new
written_back zero [] [] is same = refl
written_back (suc n) [] [] is same = refl
written_back n [] (o ∷ old) is same = absurd (omega (arith, same))
written_back n (x ∷ new) [] is same = absurd (omega (arith, same))
written_back zero (x ∷ new) (o ∷ old) is same = absurd (omega (arith, is))
written_back {X} (suc n) (x ∷ new) (o ∷ old) is same =
    ap (λ (xs : List X). x ∷ xs) (written_back n new old (omega (arith, is)) (omega (arith, same)))

-- the commands that were noted in place
pub noted_in_place : (n : ℕ) (commands lent new : List CommandStatus) (reports stored : List Word)
    → n ≡ length commands → lent ≡ commands → reports ≡ stored
    → map command_view new ≡ with_reports (map words_of lent) reports
    → map command_view (take n (new ++ drop (length new) commands))
    ≡ with_reports (map words_of commands) stored
noted_in_place n commands lent new reports stored is value same noted =
    let note = noted
    ∙ ap (λ (cs : List CommandStatus). with_reports (map words_of cs) reports) value in
    ap (λ (cs : List CommandStatus). map command_view cs)
    (written_back n new commands is (noted_count commands new reports note)) ∙ note
    ∙ ap (λ (rs : List Word). with_reports (map words_of commands) rs) same

-- a poll has said how it ended
pub unless_final : (ended : Option End) (P : Type 0) → IsSome ended
    → IfSome ended (λ end. at_end end ≡ Err error.Memory → ⊥) → UnlessEnded ended P
unless_final (Some end) P some known = (tt, λ memory. absurd (known memory))
unless_final None P some known = absurd (cc)

-- or its time is over
pub unless_over : (ended : Option End) (P : Type 0) → P → UnlessEnded ended P
unless_over (Some end) P over = (tt, λ memory. over)
unless_over None P over = (over, tt)

due_step : {P Q : Type 0} → (P → Q) → (s : Step) → IsDueAt P s → IsDueAt Q s
due_step on step.Runs due = tt
due_step on (step.Asked last) due = on due
due_step on (step.Killed late last) due = on due
due_step on (step.Failed e last) due = tt
due_step on (step.Over output) due = tt

-- what is due for one reason is due for what follows from it
pub due_from : {T L : Type 0} {P Q : Type 0} → (P → Q) → (task : Task T L) → IsDueTask P task
    → IsDueTask Q task
due_from on (Ended finished) due = tt
due_from on (Running job) due = due_step on job.step due

-- each command is counted
pub length_commands : (s : ShapeView) → length (commands_in s) ≡ command_count s
length_commands (command words) = refl
length_commands (pipe left right) = omega (
  arith,
  length-append (commands_in left) (commands_in right),
  length_commands left,
  length_commands right,
)
length_commands (input inner) = length_commands inner
length_commands (unchecked inner) = length_commands inner

-- what is over was read to its end, or has failed and a second has passed
pub read_of : (shows : Duration → Type 0) (s : Step) (came : TaskEnd) (reads : Result Bool LinesError)
    (ends : Type 0) → IsEndOf s came → ReadsUntil shows s reads → IsOverAt shows s reads → IsOk reads
    → (reads ≡ Ok true → ends) → ends ⊎ ((is_failure came ≡ true) × HasReadOn shows)
read_of shows s came (Ok true) ends is until over ok at = inl (at refl)
read_of shows s came (Err e) ends is until over ok at = absurd (cc)
read_of shows step.Runs came (Ok false) ends is until over ok at = absurd is
read_of shows (step.Asked last) came (Ok false) ends is until over ok at = absurd is
read_of shows (step.Killed late last) came (Ok false) ends is until over ok at =
    inr (ap (λ (x : TaskEnd). is_failure x) is, (last, until, over refl))
read_of shows (step.Failed e last) came (Ok false) ends is until over ok at =
    inr (ap (λ (x : TaskEnd). is_failure x) is, (last, until, over refl))
read_of shows (step.Over output) came (Ok false) ends is until over ok at = absurd (until refl)

-- what has failed ends with a failure
pub failed_end : (s : Step) (came : TaskEnd) → IsEndOf s came → has_failed_at s ≡ true
    → is_failure came ≡ true
failed_end step.Runs came is failed = absurd is
failed_end (step.Asked last) came is failed = absurd is
failed_end (step.Killed late last) came is failed = ap (λ (x : TaskEnd). is_failure x) is
failed_end (step.Failed e last) came is failed = ap (λ (x : TaskEnd). is_failure x) is
failed_end (step.Over output) came is failed = absurd (cc)

-- what is over was killed, or has ended
pub stopped_of : (shows : Duration → Type 0) (s : Step) (reads : Result Bool LinesError)
    → IsOverAt shows s reads → IsStopped s
stopped_of shows step.Runs reads over = over
stopped_of shows (step.Asked last) reads over = over
stopped_of shows (step.Killed late last) reads over = tt
stopped_of shows (step.Failed e last) reads over = tt
stopped_of shows (step.Over output) reads over = tt

module _ {S E C F D : Type 0} (views : SystemViews S E C F D (Unit {0}) Bytes) {R : Type 0}
    (remaining : R → Option (List ℕ)) (shows : Duration → Type 0) (grace : Duration)
    (due : Type 0) where
  -- how what is over has come
  pub come_of : (s : Step) (came : TaskEnd) (running : RunningView C F D) → IsEndOf s came
      → IsAtStep views remaining shows grace due s running
      → HasCome views remaining shows grace due came running
  come_of step.Runs came running is at = absurd is
  come_of (step.Asked last) came running is at = absurd is
  come_of (step.Killed late last) came running is at =
      subst (λ (x : TaskEnd). HasCome views remaining shows grace due x running) (sym is) at
  come_of (step.Failed e last) came running is at =
      subst (λ (x : TaskEnd). HasCome views remaining shows grace due x running) (sym is) at
  come_of (step.Over output) came running is at =
      subst (λ (x : TaskEnd). HasCome views remaining shows grace due x running) (sym is) at

module _ {S E C F D : Type 0} (views : SystemViews S E C F D (Unit {0}) Bytes) where
  -- its commands have their statuses
  pub noted_of : (s : Step) (words : List (List (List ℕ))) (running : RunningView C F D)
      (commands : List CommandStatus) → IsStopped s → AreNotedAt views s words running commands
      → AreNoted views words running commands
  noted_of step.Runs words running commands is noted = absurd is
  noted_of (step.Asked last) words running commands is noted = absurd is
  noted_of (step.Killed late last) words running commands is noted = noted
  noted_of (step.Failed e last) words running commands is noted = noted
  noted_of (step.Over output) words running commands is noted = noted

  -- what runs alike has as many children
  pub same_count : (before after : RunningView C F D) → RunsAlike views before after
      → length (numbers_of views after).children ≡ length (numbers_of views before).children
  same_count before after same =
      ap (λ (s : ShapeView × NumbersView). length s.1.children) same

  -- the children were signalled
  module _ {H : Type 0} (allows : Allows H) (refuses : Refuses H) (tries : Tries)
      (from to : S × PoolView C) (before after : RunningView C F D)
      (result : Result (Unit {0}) Error)
      (ordered : OrdersAll views (Signal (pos 15)) allows refuses tries from before result to after)
      (same : RunsAlike views before after) (unordered : HasOrders views false before) where
    pub signalled_by : (map (λ t. is_some t) tries ≡ leaders (shape_view after.shape))
        × AreSignalled views tries after
    signalled_by = (
      ordered.signals.led ∙ ap (λ (s : ShapeView × NumbersView). leaders s.0) (sym same),
      subst (λ (ts : Tries). AreSignalled views ts after) ordered.sent.tries_are
          (all_sent views.may_obey (map views.child before.children) ordered.sent.givens
          (map views.child after.children) unordered ordered.sent.each),
    )

    pub were_signalled : WereSignalled views after
    were_signalled = record { tries = tries; led = signalled_by.0; signalled = signalled_by.1 }

module _ {S E C F D : Type 0} (views : SystemViews S E C F D (Unit {0}) Bytes) {R : Type 0}
    (may : ℕ → R → Type 0) (remaining : R → Option (List ℕ)) {H : Type 0} (allows : Allows H)
    (refuses : Refuses H) {K : Type 0} (may_show : K → Duration → Type 0) (tasks : Tasks E H K)
    (stopped : Bool) where
  -- tasks may be stopped
  abbrev pub Due : Type 0
  Due = IsDue (shown_by may_show tasks) tasks.limit stopped

  -- what is where a start has come before, is so after
  abbrev pub JobOn : Job (RunningView C F D) R → Job (RunningView C F D) R → Type 0
  JobOn before after = (words : List (List (List ℕ))) (launch : Launch C F D R)
      → IsJob views remaining (shown_by may_show tasks) tasks.grace Due words launch before
      → IsJob views remaining (shown_by may_show tasks) tasks.grace Due words launch after

  on_made : (before after : Job (RunningView C F D) R) → JobOn before after
      → (root : Expression E H) (made : Result (Launch C F D R) Refusal)
      → IsAtMade views remaining (shown_by may_show tasks) tasks.grace Due root made (Running before)
      → IsAtMade views remaining (shown_by may_show tasks) tasks.grace Due root made (Running after)
  on_made before after on root (Ok launch) is = on _ launch is
  on_made before after on root (Err refusal) is = absurd is

  ended_on : (job : Job (RunningView C F D) R) (finished : Finished)
      → Comes views remaining (shown_by may_show tasks) tasks.grace Due job finished
      → (root : Expression E H) (made : Result (Launch C F D R) Refusal)
      → IsAtMade views remaining (shown_by may_show tasks) tasks.grace Due root made (Running job)
      → IsAtMade views remaining (shown_by may_show tasks) tasks.grace Due root made (Ended finished)
  ended_on job finished comes root (Ok launch) is = comes _ launch is
  ended_on job finished comes root (Err refusal) is = absurd is

  -- it goes on without a request
  pub stays_on : (before after : Job (RunningView C F D) R) (sys : S) (had : ℕ)
      → IsDueAt Due after.step → JobOn before after
      → TaskGoes views may remaining allows refuses may_show tasks stopped (Running before)
      (Running after) sys sys had had
  stays_on before after sys had due on = record {
    moves = [];
    went = refl;
    none = refl;
    due = due;
    more = 0;
    more_is = refl;
    counts = refl;
    on = λ start is. on_made before after on start.root start.made is;
  }

  -- signals are sent to its groups
  pub signals_on : (before after : Job (RunningView C F D) R) (signal : ℤ) (shape : ShapeView)
      (processes : List ℕ) (tries : Tries) (sys left : S) (pool kept : PoolView C) → Due
      → IsDueAt Due after.step
      → SignalsGroups views allows refuses signal shape processes tries (sys, pool) (left, kept)
      → JobOn before after
      → TaskGoes views may remaining allows refuses may_show tasks stopped (Running before)
      (Running after) sys left pool.given kept.given
  signals_on before after signal shape processes tries sys left pool kept due still sent on =
      let gives = signals_give views allows refuses signal shape processes tries (sys, pool)
      (left, kept) sent in
      record {
        moves = signals signal
            (record { shape = shape; processes = processes; tries = tries }) gives.0 ∷ [];
        went = (
          left,
          (due, record { first = pool; last = kept; signals = sent; counts = gives.1 }),
          refl,
        );
        none = refl;
        due = still;
        more = 0;
        more_is = refl;
        counts = gives.1 ∙ ap (λ (n : ℕ). counted pool.given n) (omega arith);
        on = λ start is. on_made before after on start.root start.made is;
      }

  -- one turn after another
  pub then_on : (one two three : Task (RunningView C F D) R) (sys between left : S)
      (had middle has : ℕ)
      → TaskGoes views may remaining allows refuses may_show tasks stopped one two sys between had
      middle
      → TaskGoes views may remaining allows refuses may_show tasks stopped two three between left
      middle has
      → TaskGoes views may remaining allows refuses may_show tasks stopped one three sys left had has
  then_on one two three sys between left had middle has first next =
      let sum = given_on first.moves next.moves in
      record {
        moves = first.moves ++ next.moves;
        went = folds_on (IsMove views may allows refuses Due) sys first.moves between next.moves
            left first.went next.went;
        none = starts_on first.moves next.moves
            ∙ ap (λ (ss : List (Start E H C F D R)). ss ++ starts_of next.moves) first.none
            ∙ next.none;
        due = next.due;
        more = first.more + next.more;
        more_is = omega (arith, first.more_is, next.more_is);
        counts = next.counts
            ∙ ap (λ (n : ℕ). counted n (given_by next.moves + next.more)) first.counts
            ∙ counted_more had (given_by first.moves + first.more)
            (given_by next.moves + next.more)
            ∙ ap (λ (n : ℕ). counted had n) (omega (arith, sum));
        on = λ start is. next.on start (first.on start is);
      }

  -- it goes on without a request, and then so
  pub first_on : (before between : Job (RunningView C F D) R) (after : Task (RunningView C F D) R)
      (sys left : S) (had has : ℕ) → IsDueAt Due between.step → JobOn before between
      → TaskGoes views may remaining allows refuses may_show tasks stopped (Running between) after
      sys left had has
      → TaskGoes views may remaining allows refuses may_show tasks stopped (Running before) after
      sys left had has
  first_on before between after sys left had has due on next =
      then_on (Running before) (Running between) after sys sys left had had has
      (stays_on before between sys had due on) next

  -- its streams were read
  pub read_on : (job : Job (RunningView C F D) R) (streams : BothLines R)
      → streams.out.first.value ≡ job.streams.out.first.value
      → streams.err.first.value ≡ job.streams.err.first.value
      → JobOn job (record job { streams = streams })
  read_on job streams out err words launch is = record {
    alike = is.alike;
    at_step = is.at_step;
    out = out ∙ is.out;
    err = err ∙ is.err;
    words_are = is.words_are;
    noted = is.noted;
  }

  -- it was polled, and runs on without an order
  pub polled_on : (job : Job (RunningView C F D) R) (polled : RunningView C F D)
      → job.step ≡ step.Runs → PolledOnce views job.running polled
      → StaysSame views job.running polled
      → JobOn job (record job { running = polled })
  polled_on job polled runs polls same words launch is =
      let at = subst (λ (s : Step). IsAtStep views remaining (shown_by may_show tasks) tasks.grace Due
      s job.running) runs is.at_step in
      record {
        alike = alike views job.running polled same ∙ is.alike;
        at_step = subst (λ (s : Step). IsAtStep views remaining (shown_by may_show tasks) tasks.grace
            Due s polled) (sym runs) (orders_left views false job.running polled polls at);
        out = is.out;
        err = is.err;
        words_are = is.words_are;
        noted = subst (λ (s : Step). AreNotedAt views s words launch.running job.commands.items)
            (sym runs) tt;
      }

  -- it had ended when it was polled, and is at this step then
  pub over_on : (job : Job (RunningView C F D) R) (polled : RunningView C F D)
      (commands : Vec CommandStatus Global) (end : End) (s : Step)
      → (EndedAlone views end polled
      → IsAtStep views remaining (shown_by may_show tasks) tasks.grace Due s polled)
      → ((words : List (List (List ℕ))) (launch : Launch C F D R)
      → AreNoted views words launch.running commands.items
      → AreNotedAt views s words launch.running commands.items)
      → job.step ≡ step.Runs → PolledOnce views job.running polled
      → StaysSame views job.running polled → StoresEnd views (Some end) polled
      → map command_view commands.items ≡ with_reports (map words_of job.commands.items)
      (stored_in views.child views.feed views.drain polled).commands
      → JobOn job (record job { running = polled; commands = commands; step = s })
  over_on job polled commands end s to_step to_noted runs polls same stores noted words launch is =
      let at = subst (λ (s : Step). IsAtStep views remaining (shown_by may_show tasks) tasks.grace Due
      s job.running) runs is.at_step in
      let reports = (stored_in views.child views.feed views.drain polled).commands in
      let seen = alike views job.running polled same ∙ is.alike in
      record {
        alike = seen;
        at_step = to_step (orders_left views false job.running polled polls at, stores);
        out = is.out;
        err = is.err;
        words_are = noted_words job.commands.items commands.items reports noted ∙ is.words_are;
        noted = to_noted words launch (
          polled,
          seen,
          noted ∙ ap (λ (ws : List (List (List ℕ))). with_reports ws reports) is.words_are,
        );
      }

  -- it was sent signal 15
  pub asked_on : (job : Job (RunningView C F D) R) (ordered : RunningView C F D) (commands : Vec CommandStatus Global)
      (last moment : Duration) → job.step ≡ step.Runs → RunsAlike views job.running ordered
      → (HasOrders views false job.running → WereSignalled views ordered)
      → map command_view commands.items ≡ with_reports (map words_of job.commands.items)
      (stored_in views.child views.feed views.drain ordered).commands
      → Due → shown_by may_show tasks moment
      → as_nanos last ≡ min (as_nanos moment + as_nanos tasks.grace) max_nanos
      → JobOn job
      (record job { running = ordered; commands = commands; step = step.Asked last })
  asked_on job ordered commands last moment runs same sent noted due shown ends words launch is =
      let at = subst (λ (s : Step). IsAtStep views remaining (shown_by may_show tasks) tasks.grace Due
      s job.running) runs is.at_step in
      let reports = (stored_in views.child views.feed views.drain ordered).commands in
      let seen = same ∙ is.alike in
      record {
        alike = seen;
        at_step = (due, sent at, (moment, shown, ends));
        out = is.out;
        err = is.err;
        words_are = noted_words job.commands.items commands.items reports noted ∙ is.words_are;
        noted = (
          ordered,
          seen,
          noted ∙ ap (λ (ws : List (List (List ℕ))). with_reports ws reports) is.words_are,
        );
      }

  -- it was killed
  pub killed_on : (job : Job (RunningView C F D) R) (polled killed : RunningView C F D)
      (late : Late) (last until : Duration) (kills : Tries) (from to : S × PoolView C)
      → job.step ≡ step.Asked last → PolledOnce views job.running polled
      → StaysSame views job.running polled → StoresEnd views late.ended polled
      → UnlessEnded late.ended (HasReached (shown_by may_show tasks) (as_nanos last))
      → OrdersAll views Kill allows refuses kills from polled late.killed to killed
      → RunsAlike views polled killed
      → JobOn job (record job { running = killed; step = step.Killed late until })
  killed_on job polled killed late last until kills from to asked polls same stores over ordered
      kept words launch is =
      let at = subst (λ (s : Step). IsAtStep views remaining (shown_by may_show tasks) tasks.grace Due
      s job.running) asked is.at_step in
      let moment = at.2 in
      let same_shape : shape_view polled.shape ≡ shape_view job.running.shape =
      ap (λ (s : ShapeView × NumbersView). s.0) (alike views job.running polled same) in
      let passed : HasReached (shown_by may_show tasks) (as_nanos last)
      → HasPassed (shown_by may_show tasks) tasks.grace =
      λ reached. (
        moment.0,
        moment.1,
        subst (λ (n : ℕ). HasReached (shown_by may_show tasks) n)
            moment.2 reached,
      ) in
      record {
        alike = kept ∙ alike views job.running polled same ∙ is.alike;
        at_step = (
          at.0,
          record {
            tries = at.1.tries;
            kills = kills;
            polled = polled;
            led = at.1.led ∙ ap (λ (s : ShapeView). leaders s) (sym same_shape);
            led_kills = ordered.signals.led;
            lapsed = (job.running, at.1.signalled, polls, stores);
            patient = (
              if_none_with late.ended over.0 passed,
              if_some_with late.ended over.1 (λ end were memory. passed (were memory)),
            );
            sent = ordered.sent;
            alike = kept;
          },
        );
        out = is.out;
        err = is.err;
        words_are = is.words_are;
        noted = subst (λ (s : Step). AreNotedAt views s words launch.running job.commands.items) asked
            is.noted;
      }

  -- it was polled in its grace
  pub lapsed_on : (job : Job (RunningView C F D) R) (polled : RunningView C F D) (last : Duration)
      → job.step ≡ step.Asked last → PolledOnce views job.running polled
      → StaysSame views job.running polled
      → JobOn job (record job { running = polled })
  lapsed_on job polled last asked polls same words launch is =
      let at = subst (λ (s : Step). IsAtStep views remaining (shown_by may_show tasks) tasks.grace Due
      s job.running) asked is.at_step in
      record {
        alike = alike views job.running polled same ∙ is.alike;
        at_step = subst (λ (s : Step). IsAtStep views remaining (shown_by may_show tasks) tasks.grace
            Due s polled) (sym asked)
            (at.0, orders_left views true job.running polled polls at.1, at.2);
        out = is.out;
        err = is.err;
        words_are = is.words_are;
        noted = is.noted;
      }

  -- what may be stopped was given orders only where that was due
  pub due_at : (s : Step) → Due → IsDueAt Due s
  due_at step.Runs due = tt
  due_at (step.Asked last) due = due
  due_at (step.Killed late last) due = due
  due_at (step.Failed e last) due = tt
  due_at (step.Over output) due = tt

  -- it is over
  pub ends_on : (job : Job (RunningView C F D) R) (finished : Finished) (sys : S) (had has : ℕ)
      → Comes views remaining (shown_by may_show tasks) tasks.grace Due job finished
      → has ≡ counted had (left_by finished)
      → TaskGoes views may remaining allows refuses may_show tasks stopped (Running job)
      (Ended finished) sys sys had has
  ends_on job finished sys had has comes count = record {
    moves = [];
    went = refl;
    none = refl;
    due = tt;
    more = left_by finished;
    more_is = omega arith;
    counts = count ∙ ap (λ (n : ℕ). counted had n) (omega arith);
    on = λ start is. ended_on job finished comes start.root start.made is;
  }

  -- nothing is done for it
  pub same_on : (task : Task (RunningView C F D) R) (sys : S) (had : ℕ) → IsDueTask Due task
      → TaskGoes views may remaining allows refuses may_show tasks stopped task task sys sys had had
  same_on task sys had due = record {
    moves = [];
    went = refl;
    none = refl;
    due = due;
    more = 0;
    more_is = omega arith;
    counts = refl;
    on = λ start is. is;
  }

  -- what may be stopped, was given orders only where that was due
  pub due_of : (task : Task (RunningView C F D) R) → Due → IsDueTask Due task
  due_of (Running job) due = due_at job.step due
  due_of (Ended finished) due = tt
