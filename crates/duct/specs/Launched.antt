-- What a start promises: of the journal, of what it makes, and of the pool.
use Rattle.std.specs.Prelude.{ℕ, Bool, List, ◌⊎◌, false, is_some, map, [], Err, Ok, Option, Result, String}
use Rattle.std.specs.declared.alloc.Global.{Global}
use Rattle.duct_base.specs.Pool.{PoolView}
use Rattle.duct_system.specs.EntryView.{EntryView}
use Rattle.duct_system.specs.Trace.{segment}
use Rattle.duct_system.specs.declared.error.Error.{Error}
use Rattle.duct_system.specs.declared.system.Output.{Output}
use Rattle.duct_status.specs.ReplyView.{answered}
use Rattle.duct_start.specs.Chain.{Allows, Refuses}
use Rattle.duct_start.specs.Left.{LeavesStarted, TakesIn, pool_view, Leaves}
use Rattle.duct_start.specs.Plan.{Plan, plan_of, plan_of_reader}
use Rattle.duct_start.specs.Running.{MadeReader, IsRunning, RunningView}
use Rattle.duct_start.specs.Start.{StartSucceeds, StartRefused}
use Rattle.duct_start.specs.TreeView.{TreeView}
use Rattle.duct_run.specs.RunContract.{IsReaderOf}
use Rattle.duct_system.specs.SystemViews.{SystemViews}
pub use Rattle.duct_run.specs.declared.start.StartKind.{StartKind}
pub use Rattle.duct_run.specs.declared.start.StartKind.TheVariants.{Draining as draining, Reading as reading}
use Rattle.duct_running.specs.Stored.{Bytes}
use Rattle.duct_handle.specs.Finished.{StoresError, StoresReply}
use Rattle.duct_handle.specs.HandleView.{HandleView}
use Rattle.duct_handle.specs.Started.{AreIds, IsHandle}
use Rattle.duct.specs.TreeView.{tree_view}
use Rattle.duct.specs.declared.expression.Expression.{Expression}
use Rattle.duct.specs.RunResults.{RanTree, ReadStopsBy, ReadsBy}

-- the plan of a start of this kind, of a tree
abbrev pub plan_for : {E H : Type 0} → StartKind → TreeView E H → Plan E H
plan_for draining tree = plan_of tree
plan_for reading tree = plan_of_reader tree

-- stdout gets a capture worker
abbrev pub drains_output : {E H : Type 0} → StartKind → TreeView E H → Bool
drains_output draining tree = is_some (plan_of tree).pipes.out
drains_output reading tree = false

-- stderr gets a capture worker
abbrev pub drains_error : {E H : Type 0} → StartKind → TreeView E H → Bool
drains_error kind tree = is_some (plan_for kind tree).pipes.err

-- what is to hold of what such a start of a tree makes, by the entries that it added
abbrev pub MadeBy : Type 0 → Type 0 → Type 1
MadeBy E H = StartKind → TreeView E H → List EntryView → Type 0

module _ {S E C F D V W : Type 0} (views : SystemViews S E C F D V W) where
  -- the entries that were added between two states of a system
  abbrev pub added_between : S → S → List EntryView
  added_between sys after = segment (views.journal sys).entries (views.journal after).entries

  -- this runs the tree
  abbrev pub Runs : {H : Type 0} → RunningView C F D → MadeBy E H
  Runs running kind tree added = IsRunning views.child views.feed views.drain tree
      (drains_output kind tree) (drains_error kind tree) added running

  -- a handle keeps the shape of the tree, the numbers of what was started, and the ids of the
  -- children
  abbrev pub Handles : {H : Type 0} → HandleView → MadeBy E H
  Handles handle kind tree added =
      IsHandle tree (drains_output kind tree) (drains_error kind tree) added handle
      × AreIds views.child added handle.ids

  -- this runs the tree, and this is the reader of its start
  abbrev pub RunsWith : {H R : Type 0} → (ℕ → R → Type 0) → RunningView C F D → Option R
      → MadeBy E H
  RunsWith may running reader kind tree added =
      Runs running kind tree added × IsReaderOf may kind added reader

  -- this runs the tree, and this is the reader of its stdout
  abbrev pub RunsRead : {H R : Type 0} → (ℕ → R → Type 0) → RunningView C F D → R → MadeBy E H
  RunsRead may running reader kind tree added =
      Runs running kind tree added × MadeReader may added reader

  -- a start that succeeded: its requests are its plan, it made what it should, and the pool was
  -- only swept
  pub record Launched {H : Type 0} (allows : Allows H) (kind : StartKind) (root : Expression E H)
      (sys after : S) (before left : PoolView C) (made : MadeBy E H) : Type 0 where
    pub asked : StartSucceeds allows views.number_of (tree_view root)
        (plan_for kind (tree_view root)) (views.journal sys) (views.journal after)
    pub makes : made kind (tree_view root) (added_between sys after)
    pub swept : Leaves views.may_answer []
        (pool_view views.child before)
        (pool_view views.child left)

  -- a start that failed with an error: its requests are the start of its plan, and the pool was
  -- given the children that it had started
  pub record LaunchRefused {H : Type 0} (allows : Allows H) (refuses : Refuses H)
      (kind : StartKind) (root : Expression E H) (sys after : S) (before left : PoolView C)
      (error : Error) : Type 0 where
    pub asked : StartRefused allows refuses views.number_of (tree_view root)
        (plan_for kind (tree_view root)) (views.journal sys) (views.journal after) error
    pub given : LeavesStarted views.may_answer views.child (added_between sys after) before left

  -- these are the children and workers of such a start of a tree, by the entries that it added; no
  -- child has an order
  abbrev pub Ran : {H : Type 0} → RunningView C F D → MadeBy E H
  Ran waited kind tree added =
      RanTree views tree (drains_output kind tree) (drains_error kind tree) added waited

  -- a start that succeeded and was waited for, in vain: this holds of its children and workers, and
  -- the pool was given its children
  pub record WaitFailed {H : Type 0} (allows : Allows H) (kind : StartKind)
      (root : Expression E H) (sys after : S) (before left : PoolView C)
      (returned : RunningView C F D → MadeBy E H) : Type 0 where
    pub asked : StartSucceeds allows views.number_of (tree_view root)
        (plan_for kind (tree_view root)) (views.journal sys) (views.journal after)
    pub waited : RunningView C F D
    pub ran : Ran waited kind (tree_view root) (added_between sys after)
    pub returns : returned waited kind (tree_view root) (added_between sys after)
    pub given : TakesIn views.may_answer (map views.child waited.children)
        (pool_view views.child before) (pool_view views.child left)

  -- a start that was waited for and failed with an error, at the start or after it
  abbrev pub RunFailed : {H : Type 0} → Allows H → Refuses H → StartKind → Expression E H → S → S
      → PoolView C → PoolView C → (Error → RunningView C F D → MadeBy E H) → Error → Type 0
  RunFailed allows refuses kind root sys after before left returned error =
      LaunchRefused allows refuses kind root sys after before left error
      ⊎ WaitFailed allows kind root sys after before left (returned error)

module _ {S E C F D : Type 0} (views : SystemViews S E C F D (Unit {0}) Bytes) where
  -- this output is the outcome of what the children and workers of the start store
  abbrev pub Returns : {H : Type 0} → Output → MadeBy E H
  Returns output kind tree added =
      (waited : RunningView C F D) × Ran views waited kind tree added
      × StoresReply views waited (answered output.status output.stdout.items output.stderr.items)

  -- so is this error, or an allocation failed
  abbrev pub Fails : {H : Type 0} → Error → RunningView C F D → MadeBy E H
  Fails error waited kind tree added = StoresError views waited error

  -- the text is that of what was started
  abbrev pub Reads : {H R : Type 0} → (ℕ → R → Type 0) → (R → Option (List ℕ)) → String Global
      → MadeBy E H
  Reads may remaining text kind tree added =
      (waited : RunningView C F D) × Ran views waited kind tree added
      × ReadsBy views may remaining added text waited

  -- the reading of what was started fails with this error
  abbrev pub ReadFails : {H R : Type 0} → (ℕ → R → Type 0) → (R → Option (List ℕ)) → Error
      → RunningView C F D → MadeBy E H
  ReadFails may remaining error waited kind tree added =
      ReadStopsBy views may remaining added error waited

module _ {S E C F D : Type 0} (views : SystemViews S E C F D (Unit {0}) Bytes) {H : Type 0}
    (allows : Allows H) (refuses : Refuses H) (root : Expression E H) where
  -- what `Expression::start` and `Expression::reader` promise
  abbrev pub IsStart : StartKind → S × PoolView C → Result HandleView Error → S × PoolView C
      → Type 0
  IsStart kind before (Ok handle) after = Launched views allows kind root before.0 after.0
      before.1 after.1 (Handles views handle)
  IsStart kind before (Err e) after = LaunchRefused views allows refuses kind root before.0 after.0
      before.1 after.1 e

  -- what a call does that starts the expression and waits for it
  abbrev pub IsCall : {T : Type 0} → StartKind → (T → MadeBy E H)
      → (Error → RunningView C F D → MadeBy E H) → S × PoolView C → Result T Error → S × PoolView C
      → Type 0
  IsCall kind returns fails before (Ok value) after =
      Launched views allows kind root before.0 after.0 before.1 after.1 (returns value)
  IsCall kind returns fails before (Err error) after =
      RunFailed views allows refuses kind root before.0 after.0 before.1 after.1 fails error

  -- what `Expression::run` promises
  abbrev pub IsRun : S × PoolView C → Result Output Error → S × PoolView C → Type 0
  IsRun = IsCall draining (Returns views) (Fails views)

  -- what `Expression::read` promises
  abbrev pub IsRead : {R : Type 0} → (ℕ → R → Type 0) → (R → Option (List ℕ)) → S × PoolView C
      → Result (String Global) Error → S × PoolView C → Type 0
  IsRead may remaining = IsCall reading (Reads views may remaining) (ReadFails views may remaining)
