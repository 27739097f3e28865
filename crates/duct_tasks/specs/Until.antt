-- What an expression that runs or is read until a moment of a clock returns, and what it leaves.
use Rattle.std.specs.Prelude.{ℕ, ◌<◌, ◌≤◌, ◌⊎◌, Ok, Err, None, Some, pos, Bool, true, false, List, [], ◌∷◌, ◌≡◌, map, is_some, IfNone, IfSome, ◌+◌, min, Option, Result}
use Rattle.std.specs.Duration.{as_nanos, max_nanos}
use Rattle.std.specs.List.{AllZip}
use Rattle.std.specs.declared.time.Duration.{Duration}
use Rattle.std.specs.declared.alloc.Global.{Global}
use Rattle.std.specs.declared.sync.Arc.{Arc}
use Rattle.duct_base.specs.Pool.{PoolView}
use Rattle.duct_system.specs.declared.error.Error.TheVariants as error
use Rattle.duct_system.specs.declared.system.Fault.{Fault}
use Rattle.duct_system.specs.Child.{ChildView, Obeyed}
use Rattle.duct_system.specs.declared.error.Error.{Error}
use Rattle.duct_system.specs.declared.system.Kind.TheVariants.{OutOfMemory}
use Rattle.duct_system.specs.declared.system.Order.{Order}
use Rattle.duct_system.specs.declared.system.Order.TheVariants.{Kill, Signal}
use Rattle.duct_system.specs.EntryView.{EntryView}
use Rattle.duct_system.specs.declared.system.Output.{Output}
use Rattle.duct_status.specs.ShapeView.{ShapeView, shape_view}
use Rattle.duct_start.specs.Running.{RunningView}
use Rattle.duct_start.specs.Chain.{Allows, Refuses}
use Rattle.duct_start.specs.Left.{TakesIn, pool_view}
use Rattle.duct_start.specs.ShapeOfTree.{shape_of_tree}
use Rattle.duct_start.specs.TreeView.{TreeView}
use Rattle.duct_system.specs.SystemViews.{SystemViews}
use Rattle.duct_run.specs.Requested.{PoolGets}
use Rattle.duct_running.specs.Allowed.{OneIsRunning, OneRuns, StoresAllowed}
use Rattle.duct_running.specs.Answered.{IsConcludedPoll}
use Rattle.duct_running.specs.NumbersView.{NumbersView, numbers_of}
use Rattle.duct_running.specs.Stored.{Bytes}
use Rattle.duct_running.specs.Polled.{ReturnsOutcome, PolledOnce, StaysSame}
use Rattle.duct_handle.specs.Started.{AreNumbers}
use Rattle.duct_handle.specs.Waited.{at_end}
use Rattle.duct.specs.Launched.{MadeBy, Returns, Runs, StartKind, draining, drains_error, drains_output, Fails, Launched, RunFailed}
use Rattle.duct.specs.TreeView.{tree_view}
use Rattle.duct.specs.declared.expression.Expression.{Expression}
use Rattle.duct_tasks.specs.Groups.{IsSent, OrdersAll, SignalsGroups, Tries, processes_of}
use Rattle.duct_tasks.specs.declared.late.Late.{Late}
use Rattle.duct_tasks.specs.declared.late.Until.{Until}
use Rattle.duct_tasks.specs.declared.late.Until.TheVariants as until

-- the clock may show this many nanoseconds or more
abbrev pub HasReached : (Duration → Type 0) → ℕ → Type 0
HasReached shows nanos = (moment : Duration) × shows moment × (nanos ≤ as_nanos moment)

-- the clock may show a moment, and then the end of this grace after it, or the greatest moment
abbrev pub HasPassed : (Duration → Type 0) → Duration → Type 0
HasPassed shows grace =
    (moment : Duration) × shows moment
    × HasReached shows (min (as_nanos moment + as_nanos grace) max_nanos)

-- the clock may show less than this many nanoseconds
abbrev pub HasShownLess : (Duration → Type 0) → ℕ → Type 0
HasShownLess shows nanos = (moment : Duration) × shows moment × (as_nanos moment < nanos)

module _ (may : ℕ → Order → Bool → Obeyed → Type 0) where
  -- the one order of a child is signal 15, with a result that it may return; or it has no order,
  -- since there may have been no memory to note the signal, or since it has ended
  abbrev pub IsSignalled : ChildView → Type 0
  IsSignalled child =
      ((answer : Obeyed) × may child.number (Signal (pos 15)) true answer
      × (child.orders ≡ (Signal (pos 15), answer) ∷ []))
      ⊎ (may child.number (Signal (pos 15)) false (Err (record { kind = OutOfMemory }))
      × (child.orders ≡ []))
      ⊎ ((is_some child.ending ≡ true) × (child.orders ≡ []))

  -- the same of a command whose group was tried like this: it has no order if that was sent the
  -- signal
  abbrev pub IsSignalledBy : Option Bool → ChildView → Type 0
  IsSignalledBy None child = IsSignalled child
  IsSignalledBy (Some false) child = IsSignalled child
  IsSignalledBy (Some true) child = child.orders ≡ []

-- it ended in time, and this holds of what it returned; or it was late
abbrev pub IfDone : {T L : Type 0} → Until T L → (T → Type 0) → Type 0
IfDone (until.Done value) holds = holds value
IfDone (until.Late late) holds = Unit {0}

-- it was late, and this holds of what it returned; or it ended in time
abbrev pub IfLate : {T L : Type 0} → Until T L → (L → Type 0) → Type 0
IfLate (until.Done value) holds = Unit {0}
IfLate (until.Late late) holds = holds late

-- how an expression ended
abbrev pub End : Type 0
End = Result (Arc Output Global) Error

-- it has ended, and how was concluded; or this holds
abbrev pub UnlessEnded : Option End → Type 0 → Type 0
UnlessEnded ended holds =
    IfNone ended holds × IfSome ended (λ how. at_end how ≡ Err error.Memory → holds)

module _ {S E C F D : Type 0} (views : SystemViews S E C F D (Unit {0}) Bytes) where
  -- the shape and the numbers of what runs
  abbrev pub seen : RunningView C F D → ShapeView × NumbersView
  seen running = (shape_view running.shape, numbers_of views running)

  -- the shape and the numbers are as before
  abbrev pub RunsAlike : RunningView C F D → RunningView C F D → Type 0
  RunsAlike before after = seen after ≡ seen before

  -- one of these numbers may say that it runs, or a fault was concluded from what they may return
  abbrev pub MayRun : ShapeView → NumbersView → Type 0
  MayRun shape numbers =
      OneRuns views numbers
      ⊎ ((fault : Fault) × IsConcludedPoll views.may_answer views.feed_says views.drain_says
      shape numbers (Err (error.System fault)))

  -- the same of a running expression
  abbrev pub HasNotEnded : RunningView C F D → Type 0
  HasNotEnded running = MayRun (shape_view running.shape) (numbers_of views running)

  -- the outcome of what the children and workers store is that one runs, or it is a fault, and a
  -- child stores that it runs
  abbrev pub StoresNoEnd : RunningView C F D → Type 0
  StoresNoEnd running =
      ReturnsOutcome views running (Ok None)
      ⊎ ((fault : Fault) × ReturnsOutcome views running (Err (error.System fault))
      × OneIsRunning views running)

  -- each result that they store is one that may be returned; and their outcome is how it ended,
  -- which is a fault only where no child stores that it runs, or no end where this is none
  pub record StoresEnd (ended : Option End) (running : RunningView C F D) : Type 0 where
    pub outcome : IfSome ended (λ end. ReturnsOutcome views running (at_end end))
    pub over : IfSome ended (λ end. (fault : Fault) → at_end end ≡ Err (error.System fault)
        → OneIsRunning views running → ⊥)
    pub none : IfNone ended (StoresNoEnd running)
    pub allowed : ∥ StoresAllowed views running ∥₁

  -- the children of what runs were sent signal 15 alone, or their groups were
  abbrev pub AreSignalled : Tries → RunningView C F D → Type 0
  AreSignalled tries running =
      AllZip (IsSignalledBy views.may_obey) tries (map views.child running.children)

  -- what runs was polled, and this is what the last of these polls left
  abbrev pub WasPolled : RunningView C F D → RunningView C F D → Type 0
  WasPolled first after =
      (before : RunningView C F D) × StaysSame views first before
      × ((tries : Tries) → AreSignalled tries first → AreSignalled tries before)
      × PolledOnce views before after

  -- its children were sent signal 15 alone, or their groups were, and a poll after that was the
  -- last: this is how it ended, if it had
  abbrev pub HasLapsed : Tries → Option End → RunningView C F D → Type 0
  HasLapsed tries ended running =
      (signalled : RunningView C F D) × AreSignalled tries signalled
      × PolledOnce views signalled running × StoresEnd ended running

  -- what was launched had ended when it was polled for the first time
  abbrev pub EndedAtOnce : {H : Type 0} → MadeBy E H
  EndedAtOnce kind tree added =
      (launched : RunningView C F D) × Runs views launched kind tree added
      × (polled : RunningView C F D) × PolledOnce views launched polled
      × (ended : End) × ReturnsOutcome views polled (at_end ended)

  -- this output is the outcome of what the children and workers of the start store; and the clock
  -- showed less than the moment, or they had ended at the first poll
  abbrev pub ReturnsInTime : {H : Type 0} → (Duration → Type 0) → ℕ → Output → MadeBy E H
  ReturnsInTime shows nanos output kind tree added =
      Returns views output kind tree added
      × (HasShownLess shows nanos ⊎ EndedAtOnce kind tree added)

  -- one of what was launched might still run when the moment was seen
  abbrev pub MayStillRun : {H : Type 0} → RunningView C F D → MadeBy E H
  MayStillRun polled kind tree added = MayRun (shape_of_tree tree) (numbers_of views polled)

  -- these are the children and workers of the entries, as the last poll left them, and this holds
  -- of them; they were sent signal 15 before the last poll, or their groups were; and how it ended
  -- is the outcome of what they store
  pub record IsLate {H : Type 0} (holds : RunningView C F D → MadeBy E H) (late : Late)
      (tries : Tries) (polled : RunningView C F D) (kind : StartKind) (tree : TreeView E H)
      (added : List EntryView) : Type 0 where
    pub shape_is : shape_view polled.shape ≡ shape_of_tree tree
    pub are_numbers : AreNumbers (drains_output kind tree) (drains_error kind tree) added
        (numbers_of views polled)
    pub held : holds polled kind tree added
    pub lapsed : HasLapsed tries late.ended polled

  module _ {H : Type 0} (allows : Allows H) (refuses : Refuses H) where
    -- what ran was sent signal 15 and polled, and then it was killed, with this as the result; the
    -- groups of the commands that lead one were tried both times
    pub record IsStopped (late : Late) (before : S × PoolView C) (running : RunningView C F D)
        (after : S × PoolView C) (killed : RunningView C F D) : Type 0 where
      pub tries : Tries
      pub kills : Tries
      pub between : S × PoolView C
      pub polled : RunningView C F D
      pub signals : SignalsGroups views allows refuses (pos 15) (shape_view running.shape)
          (processes_of views running) tries before between
      pub alike : RunsAlike running polled
      pub processes : processes_of views polled ≡ processes_of views running
      pub lapsed : HasLapsed tries late.ended polled
      pub ordered : OrdersAll views Kill allows refuses kills between polled late.killed after
          killed
      pub kept : RunsAlike polled killed

    -- the same, and then the pool was given all children of what ran
    pub record StopsAndGives (late : Late) (before : S × PoolView C) (running : RunningView C F D)
        (after : S × PoolView C) : Type 0 where
      pub left : RunningView C F D
      pub ended : PoolView C
      pub stopped : IsStopped late before running (after.0, ended) left
      pub gets : PoolGets views left.children ended after.1

    -- a start that succeeded and was stopped: its requests are its plan. After them, the groups of
    -- the commands that lead one were sent signal 15, and after the last poll signal 9; and this
    -- runs it then: each child that had not ended at that poll was killed once, with the result,
    -- unless its group was
    pub record WasStopped (kind : StartKind) (holds : RunningView C F D → MadeBy E H)
        (root : Expression E H) (before : S × PoolView C) (late : Late) (after : S × PoolView C)
        (running : RunningView C F D) : Type 0 where
      pub started : S × PoolView C
      pub between : S × PoolView C
      pub tries : Tries
      pub kills : Tries
      pub polled : RunningView C F D
      pub launched : Launched views allows kind root before.0 started.0 before.1 started.1
          (IsLate holds late tries polled)
      pub signals : SignalsGroups views allows refuses (pos 15) (shape_of_tree (tree_view root))
          (processes_of views polled) tries started between
      pub signals_kill : SignalsGroups views allows refuses (pos 9)
          (shape_of_tree (tree_view root)) (processes_of views polled) kills between after
      pub killed : IsSent views.may_obey Kill kills (map views.child polled.children) late.killed
          (map views.child running.children)
      pub alike : RunsAlike polled running

    -- the same, and then the pool was given all its children
    pub record LaunchStopped (kind : StartKind) (holds : RunningView C F D → MadeBy E H)
        (root : Expression E H) (before after : S × PoolView C) (late : Late) : Type 0 where
      pub running : RunningView C F D
      pub ended : PoolView C
      pub stopped : WasStopped kind holds root before late (after.0, ended) running
      pub pool : TakesIn views.may_answer (map views.child running.children)
          (pool_view views.child ended) (pool_view views.child after.1)

-- an expression was stopped not before this moment, in nanoseconds, and killed not before the end
-- of the grace
pub record IsStoppedAt (grace : Duration) (shows : Duration → Type 0) (moment : ℕ) (stopped : Late)
    : Type 0 where
  pub late : HasReached shows moment
  pub patient : UnlessEnded stopped.ended
      (HasReached shows (min (moment + as_nanos grace) max_nanos))

module _ {S E C F D : Type 0} (views : SystemViews S E C F D (Unit {0}) Bytes) {H : Type 0}
    (allows : Allows H) (refuses : Refuses H) (root : Expression E H) (grace : Duration)
    (shows : Duration → Type 0) (moment : ℕ) where
  -- what a run until this moment does: the expression ended in time with this output; or it was
  -- stopped, with what it left; or it failed as `Expression::run` does
  abbrev pub IsRunUntil : S × PoolView C → Result (Until Output Late) Error → S × PoolView C
      → Type 0
  IsRunUntil before (Ok (until.Done output)) after = Launched views allows draining root before.0
      after.0 before.1 after.1 (ReturnsInTime views shows moment output)
  IsRunUntil before (Ok (until.Late late)) after = IsStoppedAt grace shows moment late
      × LaunchStopped views allows refuses draining (MayStillRun views) root before after late
  IsRunUntil before (Err e) after = RunFailed views allows refuses draining root before.0 after.0
      before.1 after.1 (Fails views) e
