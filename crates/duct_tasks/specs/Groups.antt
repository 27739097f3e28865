-- Process groups that commands lead, and how these are sent signals.
use Rattle.std.specs.Prelude.{ℕ, ℤ, pos, ◌≡◌, ◌⊎◌, ◌++◌, Bool, true, false, ◌||◌, List, [], ◌∷◌, map, codes, is_some, nat_eq, slice_get, Ok, Err, Some, None, Option, Result}
use Rattle.std.specs.Fmt.{◌++?◌, decimal, signed_decimal}
use Rattle.std.specs.List.{ends_with}
use Rattle.std.specs.Str.{bytes_eq}
use Rattle.duct_base.specs.Pool.{PoolView}
use Rattle.duct_system.specs.Child.{ChildView, Obeyed}
use Rattle.duct_system.specs.Status.{is_success}
use Rattle.duct_system.specs.SystemViews.{SystemViews}
use Rattle.duct_system.specs.declared.error.Error.{Error}
use Rattle.duct_system.specs.declared.system.Order.{Order}
use Rattle.duct_system.specs.declared.system.Order.TheVariants.{Kill, Signal}
use Rattle.duct_system.specs.declared.system.Output.{Output}
use Rattle.duct_status.specs.ShapeView.{ShapeView, command, pipe, input, unchecked, shape_view}
use Rattle.duct_start.specs.Chain.{Allows, Refuses}
use Rattle.duct_start.specs.Running.{RunningView}
use Rattle.duct_start.specs.TreeView as tree
use Rattle.duct_start.specs.TreeView.{TreeView, around, stdin_null, stdout_null, stderr_null}
use Rattle.duct_running.specs.Ordered.{OrderAnswers, OrderedIfDue, leftmost}
use Rattle.duct_running.specs.Polled.{ChangedAt}
use Rattle.duct_running.specs.Stored.{Bytes}
use Rattle.duct.specs.Launched.{IsRun}
use Rattle.duct.specs.TreeView.{tree_view}
use Rattle.duct.specs.declared.expression.Expression.{Expression}

-- whether a command with these words leads a group: its program is `setsid`, or a path to it
abbrev pub leads : List (List ℕ) → Bool
leads [] = false
leads (program ∷ words) =
    bytes_eq program (codes "setsid") || ends_with nat_eq program (codes "/setsid")

-- the same of each command of a shape, from left to right
abbrev pub leaders : ShapeView → List Bool
leaders (command words) = leads words ∷ []
leaders (pipe left right) = leaders left ++ leaders right
leaders (input inner) = leaders inner
leaders (unchecked inner) = leaders inner

-- the number of the signal of an order
abbrev pub signal_of : Order → ℤ
signal_of Kill = pos 9
signal_of (Signal signal) = signal

-- the line by which a shell sends a signal to the group of a process, as `kill -15 -4711`
abbrev pub group_line : ℤ → ℕ → List ℕ
group_line signal process = codes "kill -" ++ signed_decimal signal ++ codes " -" ++ decimal process

-- the same as std prints its parts
abbrev pub printed_line : ℤ → ℕ → Option (List ℕ)
printed_line signal process =
    Some (codes "kill -") ++? Some (signed_decimal signal) ++? Some (codes " -")
    ++? Some (decimal process)

-- the system's shell runs a line, with null streams, and its failure is no error
abbrev pub line_tree : {E H : Type 0} → List ℕ → TreeView E H
line_tree line =
    around tree.unchecked (around stderr_null (around stdout_null (around stdin_null
    (tree.command (codes "/bin/sh" ∷ codes "-c" ∷ line ∷ [])))))

-- whether a run has ended with status 0
abbrev pub is_done : Result Output Error → Bool
is_done (Ok output) = is_success output.status
is_done (Err e) = false

-- how the groups of some commands were tried: for each command nothing where it leads none, or else
-- whether its group was sent the signal
abbrev pub Tries : Type 0
Tries = List (Option Bool)

-- the ids of the processes of what runs, from left to right
abbrev pub processes_of : {S E C F D V W : Type 0} → SystemViews S E C F D V W → RunningView C F D
    → List ℕ
processes_of views running = map (λ c. c.process) (map views.child running.children)

module _ {S E C F D : Type 0} (views : SystemViews S E C F D (Unit {0}) Bytes) {H : Type 0}
    (allows : Allows H) (refuses : Refuses H) where
  -- the line that sends this signal to the group of this process was run, and ended with status 0
  -- if this says so
  pub record RanLine (signal : ℤ) (process : ℕ) (before : S × PoolView C) (sent : Bool)
      (after : S × PoolView C) : Type 0 where
    pub line : Expression E H
    pub line_is : tree_view line ≡ line_tree (group_line signal process)
    pub result : Result Output Error
    pub ran : IsRun views allows refuses line before result after
    pub sent_is : sent ≡ is_done result

  -- the same; or there was no memory for the line, and nothing was asked of the system
  abbrev pub TriedGroup : ℤ → ℕ → S × PoolView C → Bool → S × PoolView C → Type 0
  TriedGroup signal process before sent after =
      RanLine signal process before sent after ⊎ ((sent ≡ false) × (after ≡ before))

  -- the group of a process was tried like this, or nothing was asked where its command leads none
  abbrev pub TriedIfLed : ℤ → ℕ → S × PoolView C → Option Bool → S × PoolView C → Type 0
  TriedIfLed signal process before None after = after ≡ before
  TriedIfLed signal process before (Some sent) after = TriedGroup signal process before sent after

  -- the same of each process from right to left, each from where the one before had left the system
  -- and the pool
  abbrev pub InTurnTried : ℤ → Tries → List ℕ → S × PoolView C → S × PoolView C → Type 0
  InTurnTried signal [] processes before after = after ≡ before
  InTurnTried signal (led ∷ tries) [] before after = ⊥
  InTurnTried signal (led ∷ tries) (process ∷ processes) before after =
      (between : S × PoolView C) × InTurnTried signal tries processes before between
      × TriedIfLed signal process between led after

  -- the same of the command at this place, where this says whether it leads one
  pub record TriedAt (signal : ℤ) (at : ℕ) (before : S × PoolView C) (running : RunningView C F D)
      (led : Option Bool) (after : S × PoolView C) : Type 0 where
    pub led_is : slice_get (leaders (shape_view running.shape)) at ≡ Some (is_some led)
    pub process : ℕ
    pub process_is : slice_get (processes_of views running) at ≡ Some process
    pub tried : TriedIfLed signal process before led after

  -- of the commands of this shape, whose processes have these ids, the group of each that leads one
  -- was tried, and no other. Where none leads one the system and the pool are as before
  pub record SignalsGroups (signal : ℤ) (shape : ShapeView) (processes : List ℕ) (tries : Tries)
      (before after : S × PoolView C) : Type 0 where
    pub led : map (λ t. is_some t) tries ≡ leaders shape
    pub tried : InTurnTried signal tries processes before after

-- how the group of a command was tried, and the result of the order to it
abbrev pub Given : Type 0
Given = Option Bool × Obeyed

module _ (may : ℕ → Order → Bool → Obeyed → Type 0) (order : Order) where
  -- a child was given the order if it had not ended; or its group was sent the signal, the result
  -- is Ok and the child is as before
  abbrev pub IsGiven : ChildView → Given → ChildView → Type 0
  IsGiven before (None, answer) after = OrderedIfDue may order before answer after
  IsGiven before (Some false, answer) after = OrderedIfDue may order before answer after
  IsGiven before (Some true, answer) after = (answer ≡ Ok tt) × (after ≡ before)

  -- the same of each child
  abbrev pub AllGiven : List ChildView → List Given → List ChildView → Type 0
  AllGiven [] [] [] = Unit {0}
  AllGiven [] [] (after ∷ afters) = ⊥
  AllGiven [] (given ∷ givens) afters = ⊥
  AllGiven (before ∷ befores) [] afters = ⊥
  AllGiven (before ∷ befores) (given ∷ givens) [] = ⊥
  AllGiven (before ∷ befores) (given ∷ givens) (after ∷ afters) =
      IsGiven before given after × AllGiven befores givens afters

  -- each child was given the order if it had not ended, unless its group was sent the signal, and
  -- the result is the leftmost fault
  pub record IsSent (tries : Tries) (befores : List ChildView) (result : Result (Unit {0}) Error)
      (afters : List ChildView) : Type 0 where
    pub givens : List Given
    pub tries_are : map (λ g. g.0) givens ≡ tries
    pub each : AllGiven befores givens afters
    pub answers : OrderAnswers (leftmost (map (λ g. g.1) givens)) result

module _ {S E C F D : Type 0} (views : SystemViews S E C F D (Unit {0}) Bytes) (order : Order) where
  -- the command at this place was given the order like this
  abbrev pub IsGivenAt : ℕ → RunningView C F D → Given → RunningView C F D → Type 0
  IsGivenAt at running given ordered =
      ChangedAt (λ before. IsGiven views.may_obey order before given) at
      (map views.child running.children) (map views.child ordered.children)

  -- each command of what runs was given the order, or its group was sent the signal
  pub record OrdersAll {H : Type 0} (allows : Allows H) (refuses : Refuses H) (tries : Tries)
      (before : S × PoolView C) (running : RunningView C F D) (result : Result (Unit {0}) Error)
      (after : S × PoolView C) (ordered : RunningView C F D) : Type 0 where
    pub signals : SignalsGroups views allows refuses (signal_of order) (shape_view running.shape)
        (processes_of views running) tries before after
    pub sent : IsSent views.may_obey order tries (map views.child running.children) result
        (map views.child ordered.children)
