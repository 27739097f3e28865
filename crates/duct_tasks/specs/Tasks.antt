-- Tasks of which only so many run at once: what is done for them, and what comes of each.
use Rattle.std.specs.Prelude.{ℕ, ℤ, ◌+◌, ◌-◌, ◌^◌, ◌≡◌, ◌⊎◌, Bool, true, false, if◌then◌else◌, List, [], ◌∷◌, ◌++◌, length, map, take, min, is_some, sum_by, All, Contains, IfSome, Ok, Err, Some, None, Option, Result}
use Rattle.std.specs.Duration.{as_nanos, max_nanos}
use Rattle.std.specs.Io.KnownBytes.{Consumes, IsAtEnd}
use Rattle.std.specs.List.{AllZip, FoldsTo}
use Rattle.std.specs.declared.alloc.Global.{Global}
use Rattle.std.specs.declared.time.Duration.{Duration}
use Rattle.std.specs.declared.vec.Vec.{Vec}
use Rattle.duct_base.specs.Pool.{PoolView, counted}
use Rattle.duct_system.specs.EntryView.{EntryView}
use Rattle.duct_system.specs.Started.{children_in}
use Rattle.duct_system.specs.SystemViews.{SystemViews}
use Rattle.duct_system.specs.declared.error.Error.{Error}
use Rattle.duct_system.specs.declared.error.Error.TheVariants as error
use Rattle.duct_system.specs.declared.system.Order.TheVariants.{Kill}
use Rattle.duct_status.specs.ShapeView.{shape_view}
use Rattle.duct_start.specs.Chain.{Allows, Refuses}
use Rattle.duct_start.specs.Running.{RunningView}
use Rattle.duct_start.specs.ShapeOfTree.{shape_of_tree}
use Rattle.duct_start.specs.Start.{StartRefused, StartSucceeds}
use Rattle.duct_running.specs.NumbersView.{numbers_of}
use Rattle.duct_running.specs.Stored.{Bytes, stored_in}
use Rattle.duct_handle.specs.ReadsText.{IsFault}
use Rattle.duct.specs.Launched.{RunsRead, added_between, plan_for, reading}
use Rattle.duct.specs.TreeView.{tree_view}
use Rattle.duct.specs.declared.expression.Expression.{Expression}
use Rattle.duct_tasks.specs.FailedRequest.{Names}
use Rattle.duct_tasks.specs.Groups.{IsSent, SignalsGroups, Tries, leaders}
use Rattle.duct_tasks.specs.LinesRun.{OpenFails, Pipes}
use Rattle.duct_tasks.specs.Statuses.{command_view, commands_in, with_reports, words_of}
use Rattle.duct_tasks.specs.Streams.{ReadsBoth}
use Rattle.duct_tasks.specs.Turns.{HasOrders, TaskTries, WereSignalled, gives}
use Rattle.duct_tasks.specs.Until.{End, HasLapsed, HasPassed, HasReached, RunsAlike, StoresEnd, UnlessEnded}
use Rattle.duct_tasks.specs.declared.finished.Finished.{Finished}
use Rattle.duct_tasks.specs.declared.finished.TaskEnd.{TaskEnd}
use Rattle.duct_tasks.specs.declared.finished.TaskEnd.TheVariants as end
use Rattle.duct_tasks.specs.declared.job.Job.{Job}
use Rattle.duct_tasks.specs.declared.job.Step.{Step}
use Rattle.duct_tasks.specs.declared.job.Step.TheVariants as step
use Rattle.duct_tasks.specs.declared.late.Late.{Late}
use Rattle.duct_tasks.specs.declared.many.AtFailure.TheVariants.{GoOn, Stop}
use Rattle.duct_tasks.specs.declared.lines.LinesError.{LinesError}
use Rattle.duct_tasks.specs.declared.many.Tasks.{Tasks}
use Rattle.duct_tasks.specs.declared.statuses.CommandStatus.{CommandStatus}
use Rattle.duct_tasks.specs.declared.task.Task.{Task}
use Rattle.duct_tasks.specs.declared.task.Task.TheVariants.{Running, Ended}

-- whether what ended like this is a failure: it could not be started, was stopped, or ended with an
-- error
abbrev pub is_failure : TaskEnd → Bool
is_failure (end.Refused e) = true
is_failure (end.Ended ended) = gives (Some ended)
is_failure (end.Late late) = true

-- whether a task has failed: that is a failure, or reading what it wrote has failed
abbrev pub has_failed : Finished → Bool
has_failed finished = if is_failure finished.end then true else is_some finished.unread

-- the same of what runs: its commands have ended with a failure, or were killed
abbrev pub has_failed_at : Step → Bool
has_failed_at step.Runs = false
has_failed_at (step.Asked last) = false
has_failed_at (step.Killed late last) = true
has_failed_at (step.Failed e last) = true
has_failed_at (step.Over output) = false

-- how many children of what came to this were given to a pool
abbrev pub left_by : Finished → ℕ
left_by finished = if has_failed finished then length finished.commands.items else 0

-- what came of all
abbrev pub items_of : {T E : Type 0} → Result (Vec T Global) E → Result (List T) E
items_of (Ok ends) = Ok ends.items
items_of (Err e) = Err e

module _ {R L : Type 0} where
  -- 1 for a task that runs
  abbrev pub running_of : Task R L → ℕ
  running_of (Running job) = 1
  running_of (Ended finished) = 0

  -- 1 for a task that has failed
  abbrev pub failed_of : Task R L → ℕ
  failed_of (Running job) = if has_failed_at job.step then 1 else 0
  failed_of (Ended finished) = if has_failed finished then 1 else 0

  -- how many children a task that has ended gave to a pool
  abbrev pub left_of : Task R L → ℕ
  left_of (Running job) = 0
  left_of (Ended finished) = left_by finished

  -- this came of each task
  abbrev pub AreEnds : List (Task R L) → List Finished → Type 0
  AreEnds tasks ends = tasks ≡ map (λ finished. Ended finished) ends

-- what a start left: what runs, and readers of its stdout and of its stderr
pub record Launch (C F D R : Type 0) : Type 0 where
  pub running : RunningView C F D
  pub out : R
  pub err : R

-- why a start failed, and the entries that it added
pub record Refusal : Type 0 where
  pub error : Error
  pub added : List EntryView

-- a start of an expression, and what it left
pub record Start (E H C F D R : Type 0) : Type 0 where
  pub root : Expression E H
  pub made : Result (Launch C F D R) Refusal

-- what is done for tasks: one is started; or the groups of the commands of one that lead some are
-- sent a signal. It gives so many children to a pool
pub data Move (E H C F D R : Type 0) : Type 0 where
  starts : Start E H C F D R → ℕ → Move E H C F D R
  signals : ℤ → TaskTries → ℕ → Move E H C F D R

module _ {E H C F D R : Type 0} where
  -- the starts among these
  abbrev pub starts_of : List (Move E H C F D R) → List (Start E H C F D R)
  starts_of [] = []
  starts_of (starts start given ∷ moves) = start ∷ starts_of moves
  starts_of (signals signal tries given ∷ moves) = starts_of moves

  -- how many children these give
  abbrev pub given_by : List (Move E H C F D R) → ℕ
  given_by [] = 0
  given_by (starts start given ∷ moves) = given + given_by moves
  given_by (signals signal tries given ∷ moves) = given + given_by moves

module _ {S E C F D : Type 0} (views : SystemViews S E C F D (Unit {0}) Bytes) {R : Type 0}
    (may : ℕ → R → Type 0) {H : Type 0} (allows : Allows H) (refuses : Refuses H) where
  -- a pipe was opened for stderr, and the expression that writes into it was started, with a reader
  -- of its stdout
  pub record Launches (root : Expression E H) (before : S) (launch : Launch C F D R) (after : S)
      : Type 0 where
    pub piped : S
    pub inside : Expression E H
    pub pipes : Pipes views may true root before inside launch.err piped
    pub asked : StartSucceeds allows views.number_of (tree_view inside)
        (plan_for reading (tree_view inside)) (views.journal piped) (views.journal after)
    pub makes : RunsRead views may launch.running launch.out reading (tree_view inside)
        (added_between views piped after)

  -- the start of the expression inside was refused, and its children were given to a pool
  pub record LaunchRefuses (root : Expression E H) (before : S) (e : Error) (given : ℕ) (after : S)
      : Type 0 where
    pub piped : S
    pub inside : Expression E H
    pub err : R
    pub pipes : Pipes views may true root before inside err piped
    pub asked : StartRefused allows refuses views.number_of (tree_view inside)
        (plan_for reading (tree_view inside)) (views.journal piped) (views.journal after) e
    pub given_is : given ≡ length (children_in (added_between views piped after))

  -- it was started, but not read, and its children were given to a pool
  pub record LaunchUnread (root : Expression E H) (before : S) (e : Error) (given : ℕ) (after : S)
      : Type 0 where
    pub launch : Launch C F D R
    pub launches : Launches root before launch after
    pub fault : IsFault e
    pub given_is : given ≡ length launch.running.children

  -- it could not be started: there was no memory, the pipe could not be opened, the start of the
  -- expression inside was refused, or there was no thread to read it
  abbrev pub FailsToStart : Expression E H → S → Error → ℕ → S → Type 0
  FailsToStart root before e given after =
      ((e ≡ error.Memory) × (after ≡ before) × (given ≡ 0))
      ⊎ (OpenFails views may before e after × (given ≡ 0))
      ⊎ LaunchRefuses root before e given after
      ⊎ LaunchUnread root before e given after

  -- the expression was started, or could not be
  abbrev pub MakesStart : Expression E H → Result (Launch C F D R) Refusal → S → ℕ → S → Type 0
  MakesStart root (Ok launch) before given after =
      Launches root before launch after × (given ≡ 0)
  MakesStart root (Err refusal) before given after =
      FailsToStart root before refusal.error given after
      × (refusal.added ≡ added_between views before after)

  -- the groups of commands of what ran were sent a signal, by lines that gave so many children to a
  -- pool
  pub record SignalsTask (signal : ℤ) (tried : TaskTries) (given : ℕ) (before after : S) : Type 0
    where
      pub first : PoolView C
      pub last : PoolView C
      pub signals : SignalsGroups views allows refuses signal tried.shape tried.processes
          tried.tries (before, first) (after, last)
      pub counts : last.given ≡ counted first.given given

  -- what one move asks of the system. Signals are sent only where this holds
  abbrev pub IsMove : Type 0 → S → Move E H C F D R → S → Type 0
  IsMove due before (starts start given) after =
      MakesStart start.root start.made before given after
  IsMove due before (signals signal tried given) after =
      due × SignalsTask signal tried given before after

-- the limit, if there is one, has passed on this clock
abbrev pub IsPast : (Duration → Type 0) → Option Duration → Type 0
IsPast shows (Some limit) = HasPassed shows limit
IsPast shows None = ⊥

-- a task may be stopped: its limit has passed, or this says so of all
abbrev pub IsDue : (Duration → Type 0) → Option Duration → Bool → Type 0
IsDue shows limit stopped = IsPast shows limit ⊎ (stopped ≡ true)

-- this is a second after a moment of the clock, or the greatest moment
abbrev pub IsLastRead : (Duration → Type 0) → Duration → Type 0
IsLastRead shows last =
    (moment : Duration) × shows moment
    × (as_nanos last ≡ min (as_nanos moment + 10 ^ 9) max_nanos)

-- it was killed, or has ended
abbrev pub IsStopped : Step → Type 0
IsStopped step.Runs = ⊥
IsStopped (step.Asked last) = ⊥
IsStopped (step.Killed late last) = Unit {0}
IsStopped (step.Failed e last) = Unit {0}
IsStopped (step.Over output) = Unit {0}

-- the same, and its streams are read no more, or their last moment has come
abbrev pub IsOverAt : (Duration → Type 0) → Step → Result Bool LinesError → Type 0
IsOverAt shows step.Runs reads = ⊥
IsOverAt shows (step.Asked last) reads = ⊥
IsOverAt shows (step.Killed late last) reads = reads ≡ Ok false → HasReached shows (as_nanos last)
IsOverAt shows (step.Failed e last) reads = reads ≡ Ok false → HasReached shows (as_nanos last)
IsOverAt shows (step.Over output) reads = Unit {0}

-- the same of what runs
abbrev pub IsOver : {T L : Type 0} → (Duration → Type 0) → Job T L → Type 0
IsOver shows job = IsOverAt shows job.step job.streams.over

-- it was sent signal 15, or has ended
abbrev pub WasAsked : Step → Type 0
WasAsked step.Runs = ⊥
WasAsked (step.Asked last) = Unit {0}
WasAsked (step.Killed late last) = Unit {0}
WasAsked (step.Failed e last) = Unit {0}
WasAsked (step.Over output) = Unit {0}

-- the same of a task
abbrev pub WasAskedTask : {R L : Type 0} → Task R L → Type 0
WasAskedTask (Running job) = WasAsked job.step
WasAskedTask (Ended finished) = Unit {0}

-- this is how it has ended, or was stopped
abbrev pub IsEndOf : Step → TaskEnd → Type 0
IsEndOf step.Runs came = ⊥
IsEndOf (step.Asked last) came = ⊥
IsEndOf (step.Killed late last) came = came ≡ end.Late late
IsEndOf (step.Failed e last) came = came ≡ end.Ended (Err e)
IsEndOf (step.Over output) came = came ≡ end.Ended (Ok output)

-- where it has ended with no failure, its streams are read no more; after a failure they are read
-- until a second later
abbrev pub ReadsUntil : (Duration → Type 0) → Step → Result Bool LinesError → Type 0
ReadsUntil shows step.Runs reads = Unit {0}
ReadsUntil shows (step.Asked last) reads = Unit {0}
ReadsUntil shows (step.Killed late last) reads = IsLastRead shows last
ReadsUntil shows (step.Failed e last) reads = IsLastRead shows last
ReadsUntil shows (step.Over output) reads = reads ≡ Ok false → ⊥

-- orders were given only where this holds
abbrev pub IsDueAt : Type 0 → Step → Type 0
IsDueAt due step.Runs = Unit {0}
IsDueAt due (step.Asked last) = due
IsDueAt due (step.Killed late last) = due
IsDueAt due (step.Failed e last) = Unit {0}
IsDueAt due (step.Over output) = Unit {0}

-- the same of a task
abbrev pub IsDueTask : {R L : Type 0} → Type 0 → Task R L → Type 0
IsDueTask due (Running job) = IsDueAt due job.step
IsDueTask due (Ended finished) = Unit {0}

module _ {S E C F D : Type 0} (views : SystemViews S E C F D (Unit {0}) Bytes) where
  -- these are commands of these words, with their statuses by a poll of this
  abbrev pub AreNoted : List (List (List ℕ)) → RunningView C F D → List CommandStatus → Type 0
  AreNoted words running commands =
      (seen : RunningView C F D) × RunsAlike views running seen
      × (map command_view commands ≡ with_reports words
      (stored_in views.child views.feed views.drain seen).commands)

  -- they are, unless what runs was given no order yet
  abbrev pub AreNotedAt : Step → List (List (List ℕ)) → RunningView C F D → List CommandStatus
      → Type 0
  AreNotedAt step.Runs words running commands = Unit {0}
  AreNotedAt (step.Asked last) words running commands = AreNoted words running commands
  AreNotedAt (step.Killed late last) words running commands = AreNoted words running commands
  AreNotedAt (step.Failed e last) words running commands = AreNoted words running commands
  AreNotedAt (step.Over output) words running commands = AreNoted words running commands

  -- what the children and workers store is no failure: one runs, or they have ended well
  abbrev pub HasNotFailed : RunningView C F D → Type 0
  HasNotFailed running =
      (ended : Option End) × StoresEnd views ended running
      × IfSome ended (λ end. gives (Some end) ≡ false)

  -- it had ended like this when it was polled, with no order before
  abbrev pub EndedAlone : End → RunningView C F D → Type 0
  EndedAlone ended running = HasOrders views false running × StoresEnd views (Some ended) running

-- the clock may show a moment, and one that is a second later
abbrev pub HasReadOn : (Duration → Type 0) → Type 0
HasReadOn shows = (last : Duration) × IsLastRead shows last × HasReached shows (as_nanos last)

-- the bytes of what came of a start are what its readers gave, and all of it unless reading has
-- failed, or the task has and the clock may show a second more
pub record HasRead {C F D R : Type 0} (remaining : R → Option (List ℕ)) (shows : Duration → Type 0)
    (launch : Launch C F D R) (finished : Finished) : Type 0 where
  pub out_left : R
  pub err_left : R
  pub stdout : Consumes (remaining launch.out) (remaining out_left) finished.stdout.items
  pub stderr : Consumes (remaining launch.err) (remaining err_left) finished.stderr.items
  pub whole : finished.unread ≡ None → (IsAtEnd (remaining out_left) × IsAtEnd (remaining err_left))
      ⊎ ((is_failure finished.end ≡ true) × HasReadOn shows)

module _ {S E C F D : Type 0} (views : SystemViews S E C F D (Unit {0}) Bytes) {R : Type 0}
    (remaining : R → Option (List ℕ)) (shows : Duration → Type 0) where
  -- what runs of a task is read, began at a moment of the clock, and has a status for each child
  pub record IsReady (job : Job (RunningView C F D) R) : Type 0 where
    pub reads : ReadsBoth remaining job.streams
    pub began : shows job.began
    pub count : length job.commands.items ≡ length (numbers_of views job.running).children
    pub until : ReadsUntil shows job.step job.streams.over

  -- the same of a task that runs
  abbrev pub IsReadyTask : Task (RunningView C F D) R → Type 0
  IsReadyTask (Running job) = IsReady job
  IsReadyTask (Ended finished) = Unit {0}

  -- the same, and it was given orders only where this is due
  abbrev pub IsReadyIf : Type 0 → Task (RunningView C F D) R → Type 0
  IsReadyIf due task = IsReadyTask task × IsDueTask due task

  module _ (grace : Duration) where
    -- it had been sent signal 15 and was polled, and ended like this, or its grace had passed; and
    -- then what had not ended of it was killed, with this as the result
    pub record WasKilled (late : Late) (killed : RunningView C F D) : Type 0 where
      pub tries : Tries
      pub kills : Tries
      pub polled : RunningView C F D
      pub led : map (λ t. is_some t) tries ≡ leaders (shape_view polled.shape)
      pub led_kills : map (λ t. is_some t) kills ≡ leaders (shape_view polled.shape)
      pub lapsed : HasLapsed views tries late.ended polled
      pub patient : UnlessEnded late.ended (HasPassed shows grace)
      pub sent : IsSent views.may_obey Kill kills (map views.child polled.children) late.killed
          (map views.child killed.children)
      pub alike : RunsAlike views polled killed

    module _ (due : Type 0) where
      -- what runs of a task has come so far; it was given orders only where that was due
      abbrev pub IsAtStep : Step → RunningView C F D → Type 0
      IsAtStep step.Runs running = HasOrders views false running
      IsAtStep (step.Asked last) running =
          due × WereSignalled views running
          × ((moment : Duration) × shows moment
          × (as_nanos last ≡ min (as_nanos moment + as_nanos grace) max_nanos))
      IsAtStep (step.Killed late last) running = due × WasKilled late running
      IsAtStep (step.Failed e last) running = EndedAlone views (Err e) running
      IsAtStep (step.Over output) running = EndedAlone views (Ok output) running

      -- so it has ended, or was stopped
      abbrev pub HasCome : TaskEnd → RunningView C F D → Type 0
      HasCome (end.Refused e) running = ⊥
      HasCome (end.Ended ended) running = EndedAlone views ended running
      HasCome (end.Late late) running = due × WasKilled late running

      -- what runs, whose commands have these words, is what a start left
      pub record IsJob (words : List (List (List ℕ))) (launch : Launch C F D R)
          (job : Job (RunningView C F D) R) : Type 0 where
        pub alike : RunsAlike views launch.running job.running
        pub at_step : IsAtStep job.step job.running
        pub out : job.streams.out.first.value ≡ launch.out
        pub err : job.streams.err.first.value ≡ launch.err
        pub words_are : map words_of job.commands.items ≡ words
        pub noted : AreNotedAt views job.step words launch.running job.commands.items

      -- this came of what a start left, whose commands have these words
      pub record CameOf (words : List (List (List ℕ))) (launch : Launch C F D R)
          (finished : Finished) : Type 0 where
        pub running : RunningView C F D
        pub alike : RunsAlike views launch.running running
        pub has_come : HasCome finished.end running
        pub read : HasRead remaining shows launch finished
        pub noted : AreNoted views words launch.running finished.commands.items
        pub took : (from : Duration) × (to : Duration) × shows from × shows to
            × (as_nanos finished.took ≡ as_nanos to - as_nanos from)

      -- what came of a job, whatever start it is of
      abbrev pub Comes : Job (RunningView C F D) R → Finished → Type 0
      Comes job finished = (words : List (List (List ℕ))) (launch : Launch C F D R)
          → IsJob words launch job → CameOf words launch finished

      module _ {H : Type 0} where
        -- this came of a start of an expression that left this
        abbrev pub CameOfMade : Expression E H → Result (Launch C F D R) Refusal → Finished → Type 0
        CameOfMade root (Ok launch) finished =
            CameOf (commands_in (shape_of_tree (tree_view root))) launch finished
        CameOfMade root (Err refusal) finished =
            (finished.end ≡ end.Refused refusal.error) × (finished.commands.items ≡ [])
            × (finished.stdout.items ≡ []) × (finished.stderr.items ≡ [])
            × Names refusal.added finished.request

        -- this came of a start
        abbrev pub Came : Start E H C F D R → Finished → Type 0
        Came start finished = CameOfMade start.root start.made finished

        -- this is where a start has come that left this
        abbrev pub IsAtMade : Expression E H → Result (Launch C F D R) Refusal
            → Task (RunningView C F D) R → Type 0
        IsAtMade root made (Ended finished) = CameOfMade root made finished
        IsAtMade root (Ok launch) (Running job) =
            IsJob (commands_in (shape_of_tree (tree_view root))) launch job
        IsAtMade root (Err refusal) (Running job) = ⊥

        -- this is where a start has come
        abbrev pub IsAt : Start E H C F D R → Task (RunningView C F D) R → Type 0
        IsAt start task = IsAtMade start.root start.made task

        -- the tasks at the front were started, and this is where they are
        pub record AreAt (all : List (Expression E H)) (starts : List (Start E H C F D R))
            (tasks : List (Task (RunningView C F D) R)) : Type 0 where
          pub at : AllZip IsAt starts tasks
          pub roots : map (λ s. s.root) starts ≡ take (length tasks) all

-- the moments of the clock of tasks
abbrev pub shown_by : {E H K : Type 0} → (K → Duration → Type 0) → Tasks E H K → Duration → Type 0
shown_by may_show tasks = may_show tasks.clock.now

-- these tasks may be stopped: a limit has passed, or this says so of all
abbrev pub MayStop : {E H K : Type 0} → (K → Duration → Type 0) → Tasks E H K → Bool → Type 0
MayStop may_show tasks = IsDue (shown_by may_show tasks) tasks.limit

-- one of these has failed
abbrev pub OneFailed : List Finished → Type 0
OneFailed ends = (finished : Finished) × Contains ends finished × (has_failed finished ≡ true)

module _ {S E C F D : Type 0} (views : SystemViews S E C F D (Unit {0}) Bytes) {R : Type 0}
    (remaining : R → Option (List ℕ)) {H K : Type 0} (may_show : K → Duration → Type 0)
    (tasks : Tasks E H K) where
  -- where a start has come, if tasks may be stopped as this says
  abbrev pub IsAtIf : Bool → Start E H C F D R → Task (RunningView C F D) R → Type 0
  IsAtIf stopped =
      IsAt views remaining (shown_by may_show tasks) tasks.grace (MayStop may_show tasks stopped)

  -- where starts have come
  abbrev pub AreAtIf : Bool → List (Start E H C F D R) → List (Task (RunningView C F D) R) → Type 0
  AreAtIf stopped = AreAt views remaining (shown_by may_show tasks) tasks.grace
      (MayStop may_show tasks stopped) tasks.all.now

  -- these may go on, if tasks may be stopped as this says
  abbrev pub AreReady : Bool → List (Task (RunningView C F D) R) → Type 0
  AreReady stopped = All (IsReadyIf views remaining (shown_by may_show tasks)
      (MayStop may_show tasks stopped))

module _ {S E C F D : Type 0} (views : SystemViews S E C F D (Unit {0}) Bytes) {R : Type 0}
    (may : ℕ → R → Type 0) (remaining : R → Option (List ℕ)) {H : Type 0} (allows : Allows H)
    (refuses : Refuses H) {K : Type 0} (may_show : K → Duration → Type 0) (tasks : Tasks E H K)
  where
    -- what is done for tasks, one after another, so that they may be stopped if this says so
    abbrev pub Moves : Bool → S → List (Move E H C F D R) → S → Type 0
    Moves stopped = FoldsTo (IsMove views may allows refuses (MayStop may_show tasks stopped))

    -- the same; where this says that a failure has stopped them, none is started from a moment on,
    -- and until then signals are sent only where a limit has passed
    abbrev pub Proceeds : Bool → S → List (Move E H C F D R) → S → Type 0
    Proceeds false before moves after = Moves false before moves after
    Proceeds true before moves after =
        (first rest : List (Move E H C F D R)) × (between : S) × (moves ≡ first ++ rest)
        × Moves false before first between × Moves true between rest after × (starts_of rest ≡ [])

    -- the same, where the first says whether a failure had stopped them before
    abbrev pub ProceedsFrom : Bool → Bool → S → List (Move E H C F D R) → S → Type 0
    ProceedsFrom false to before moves after = Proceeds to before moves after
    ProceedsFrom true to before moves after = Moves to before moves after × (starts_of moves ≡ [])

    -- a task was started, and this is where it is; or it could not be. The start gave children to a
    -- pool where it failed
    pub record StartsTask (root : Expression E H) (sys left : S) (had has : ℕ)
        (task : Task (RunningView C F D) R) : Type 0 where
      pub made : Result (Launch C F D R) Refusal
      pub given : ℕ
      pub makes : MakesStart views may allows refuses root made sys given left
      pub counts : has ≡ counted had given
      pub at : IsAtIf views remaining may_show tasks false
          (record { root = root; made = made }) task
      pub none : left_of task ≡ 0
      pub fresh : IsDueTask ⊥ task

    -- a task goes on, from where it is to where it is then; it is stopped only where that is due.
    -- It gives children to a pool where it ends with a failure
    pub record TaskGoes (stopped : Bool) (before after : Task (RunningView C F D) R) (sys left : S)
        (had has : ℕ) : Type 0 where
      pub moves : List (Move E H C F D R)
      pub went : Moves stopped sys moves left
      pub none : starts_of moves ≡ []
      pub due : IsDueTask (MayStop may_show tasks stopped) after
      pub more : ℕ
      pub more_is : left_of after ≡ left_of before + more
      pub counts : has ≡ counted had (given_by moves + more)
      pub on : (start : Start E H C F D R)
          → IsAtIf views remaining may_show tasks stopped start before
          → IsAtIf views remaining may_show tasks stopped start after

    -- the same, where it was stopped only where that was due
    abbrev pub GoesIfDue : Task (RunningView C F D) R → Task (RunningView C F D) R → S → S → ℕ → ℕ
        → Type 0
    GoesIfDue before after sys left had has =
        (stopped : Bool) → IsDueTask (MayStop may_show tasks stopped) before
        → TaskGoes stopped before after sys left had has

    -- the same of several, to which those are added that are started
    pub record Goes (from to : Bool) (before after : List (Task (RunningView C F D) R))
        (sys left : S) (had has : ℕ) : Type 0 where
      pub grows : from ≡ true → to ≡ true
      pub moves : List (Move E H C F D R)
      pub went : ProceedsFrom from to sys moves left
      pub more : ℕ
      pub more_is : sum_by left_of after ≡ sum_by left_of before + more
      pub counts : has ≡ counted had (given_by moves + more)
      pub on : (starts : List (Start E H C F D R))
          → AreAtIf views remaining may_show tasks from starts before
          → AreAtIf views remaining may_show tasks to (starts ++ starts_of moves) after

    -- the tasks were started in order, and this came of each: all of them, unless one failed and
    -- that is to end the starts; the pool was given the children of those that failed, and of the
    -- lines that sent signals, and none else; and signals were sent only where a limit had passed,
    -- or where one had failed and that is to stop the others, and then no start followed
    pub record RanAll (before : S × PoolView C) (ends : List Finished) (after : S × PoolView C)
        : Type 0 where
      pub stopped : Bool
      pub moves : List (Move E H C F D R)
      pub went : Proceeds stopped before.0 moves after.0
      pub came : AllZip (Came views remaining (shown_by may_show tasks) tasks.grace
          (MayStop may_show tasks stopped)) (starts_of moves) ends
      pub roots : map (λ s. s.root) (starts_of moves) ≡ take (length ends) tasks.all.now
      pub pool : after.1.given ≡ counted before.1.given (given_by moves + sum_by left_by ends)
      pub all : (length ends ≡ length tasks.all.now)
          ⊎ ((tasks.at_failure ≡ GoOn → ⊥) × OneFailed ends)
      pub orders : stopped ≡ true → (tasks.at_failure ≡ Stop) × OneFailed ends

    -- the same; or there was no memory for it, and nothing was done
    abbrev pub IsAllRun : S × PoolView C → Result (List Finished) Error → S × PoolView C → Type 0
    IsAllRun before (Ok ends) after = RanAll before ends after
    IsAllRun before (Err e) after = (e ≡ error.Memory) × (after ≡ before)
