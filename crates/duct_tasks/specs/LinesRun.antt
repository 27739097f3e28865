-- What a run does whose lines are handed on until a moment.
use Rattle.std.specs.Prelude.{ℕ, ◌≡◌, ◌⊎◌, Bool, true, false, List, All, map, Ok, Err, Option, Result}
use Rattle.std.specs.declared.io.Error as io
use Rattle.std.specs.declared.time.Duration.{Duration}
use Rattle.duct_base.specs.Pool.{PoolView}
use Rattle.duct_system.specs.Child.{IsUnasked}
use Rattle.duct_system.specs.EntryView.{Pipe, Reader}
use Rattle.duct_system.specs.Journal.{GetsEnds, GivesEnds, IsRefused}
use Rattle.duct_system.specs.SystemViews.{SystemViews}
use Rattle.duct_system.specs.declared.error.Error.{Error}
use Rattle.duct_system.specs.declared.error.Error.TheVariants as error
use Rattle.duct_system.specs.declared.system.Fault.{Fault}
use Rattle.duct_system.specs.declared.system.Output.{Output}
use Rattle.duct_system.specs.declared.system.Side.{Side}
use Rattle.duct_start.specs.Chain.{Allows, Refuses}
use Rattle.duct_start.specs.Running.{MadeReader, RunningView}
use Rattle.duct_start.specs.ShapeOfTree.{shape_of_tree}
use Rattle.duct_start.specs.TreeView.{TreeView, around, stderr_file, unchecked}
use Rattle.duct_running.specs.Stored.{Bytes, stored_in}
use Rattle.duct_handle.specs.Finished.{StoresError}
use Rattle.duct_handle.specs.ReadsText.{IsFault}
use Rattle.duct.specs.Launched.{Launched, MadeBy, Ran, RunFailed, reading}
use Rattle.duct.specs.TreeView.{tree_view}
use Rattle.duct.specs.declared.expression.Expression.{Expression}
use Rattle.duct_tasks.specs.Captures.{ReturnsEach}
use Rattle.duct_tasks.specs.Statuses.{CommandView, command_view, commands_in, with_reports}
use Rattle.duct_tasks.specs.Streams.{FailedBy, GivesLines}
use Rattle.duct_tasks.specs.Until.{EndedAtOnce, HasShownLess, IsStoppedAt, LaunchStopped}
use Rattle.duct_tasks.specs.declared.capture.Captured.{Captured}
use Rattle.duct_tasks.specs.declared.late.Late.{Late}
use Rattle.duct_tasks.specs.declared.late.LateLines.{LateLines}
use Rattle.duct_tasks.specs.declared.late.Until.{Until}
use Rattle.duct_tasks.specs.declared.late.Until.TheVariants as until
use Rattle.duct_tasks.specs.declared.lines.LinesError.{LinesError}
use Rattle.duct_tasks.specs.declared.lines.LinesError.TheVariants as lines

-- the tree whose stderr goes to this end, and whose failure is no error unless this says so
abbrev pub with_stderr : {E H : Type 0} → Bool → E → TreeView E H → TreeView E H
with_stderr true end tree = around (stderr_file end) tree
with_stderr false end tree = around unchecked (around (stderr_file end) tree)

-- a run without a moment is one that ended in time, or failed
abbrev pub in_time : Result Captured LinesError → Result (Until Captured LateLines) LinesError
in_time (Ok captured) = Ok (until.Done captured)
in_time (Err e) = Err e

module _ {S E C F D : Type 0} (views : SystemViews S E C F D (Unit {0}) Bytes) {R : Type 0}
    (may : ℕ → R → Type 0) where
  -- a pipe was opened, and its read end given to this reader
  pub record Opens (before : S) (write : E) (reader : R) (after : S) : Type 0 where
    pub read : E
    pub opened : S
    pub pipe : GetsEnds (Pipe (Ok (views.number_of read, views.number_of write)))
        (views.number_of read) (views.number_of write) (views.journal before)
        (views.journal opened)
    pub given : GivesEnds (Reader (views.number_of read)) 1 (views.journal opened)
        (views.journal after)
    pub told : may (views.number_of read) reader

  -- the pipe was refused; or it was opened, and there was no memory for the expression inside
  abbrev pub OpenFails : S → Error → S → Type 0
  OpenFails before e after =
      ((fault : Fault) × (e ≡ error.System fault)
      × IsRefused (Pipe (Err fault)) 0 fault (views.journal before) (views.journal after))
      ⊎ ((e ≡ error.Memory) × (write : E) × (reader : R) × Opens before write reader after)

  module _ {H : Type 0} (is_checked : Bool) (root : Expression E H) where
    -- the same, and this expression writes its stderr into the pipe
    pub record Pipes (before : S) (inside : Expression E H) (reader : R) (after : S) : Type 0 where
      pub write : E
      pub opens : Opens before write reader after
      pub tree : tree_view inside ≡ with_stderr is_checked write (tree_view root)

module _ {S E C F D : Type 0} (views : SystemViews S E C F D (Unit {0}) Bytes) {R : Type 0}
    (may : ℕ → R → Type 0) (remaining : R → Option (List ℕ)) {G : Type 0}
    (Step : G → Side × List ℕ → G → Type 0) (g g' : G) (err : R) {H : Type 0} where
  -- these bytes are what the reader of the start gave, and this one
  abbrev pub GivesBoth : Bool → List ℕ → List ℕ → MadeBy E H
  GivesBoth over stdout stderr kind tree added =
      (out : R) × MadeReader may added out
      × GivesLines remaining Step over g g' out err stdout stderr

  -- the tree's commands, each with the ending that its child stored before it was given an order
  abbrev pub EndedBy : List CommandView → MadeBy E H
  EndedBy commands kind tree added =
      (seen : RunningView C F D) × Ran views seen kind tree added
      × (commands ≡ with_reports (commands_in (shape_of_tree tree))
      (stored_in views.child views.feed views.drain seen).commands)

  -- what an expression wrote that ended in time, its status, and those of its commands
  pub record EndsLines (shows : Duration → Type 0) (moment : ℕ) (captured : Captured)
      (kind : _) (tree : TreeView E H) (added : List _) : Type 0 where
    pub output : Output
    pub status : output.status ≡ captured.output.status
    pub each : ReturnsEach views (record { output = output; commands = captured.commands }) kind
        tree added
    pub gives : GivesBoth true captured.output.stdout.items captured.output.stderr.items kind tree
        added
    pub in_time : HasShownLess shows moment ⊎ EndedAtOnce views kind tree added

  -- what one wrote that was stopped
  abbrev pub WroteUntil : LateLines → RunningView C F D → MadeBy E H
  WroteUntil late polled kind tree added =
      ((over : Bool) × GivesBoth over late.stdout.items late.stderr.items kind tree added)
      × EndedBy (map command_view late.commands.items) kind tree added

-- the wait failed with this error, or no thread could be started, and no child was polled
abbrev pub FailsLines : {S E C F D H : Type 0} → SystemViews S E C F D (Unit {0}) Bytes → Error
    → RunningView C F D → MadeBy E H
FailsLines views e waited kind tree added =
    StoresError views waited e
    ⊎ (IsFault e × All (λ c. IsUnasked (views.child c)) waited.children)

module _ {S E C F D : Type 0} (views : SystemViews S E C F D (Unit {0}) Bytes) {R : Type 0}
    (may : ℕ → R → Type 0) (remaining : R → Option (List ℕ)) {G : Type 0}
    (Gives : Result (Unit {0}) io.Error → G → Side × List ℕ → G → Type 0) {H : Type 0}
    (allows : Allows H) (refuses : Refuses H) (root : Expression E H) (grace : Duration)
    (shows : Duration → Type 0) (moment : ℕ) where
  -- a pipe was opened for stderr, and the expression inside was started: it ended in time; or it
  -- was stopped; or it failed
  abbrev pub RunsInside : G → G → S × PoolView C → Expression E H → R
      → Result (Until Captured LateLines) LinesError → S × PoolView C → Type 0
  RunsInside g g' piped inside err (Ok (until.Done captured)) after =
      Launched views allows reading inside piped.0 after.0 piped.1 after.1
      (EndsLines views may remaining (Gives (Ok tt)) g g' err shows moment captured)
  RunsInside g g' piped inside err (Ok (until.Late late)) after =
      IsStoppedAt grace shows moment late.late
      × LaunchStopped views allows refuses reading
      (WroteUntil views may remaining (Gives (Ok tt)) g g' err late) inside piped after late.late
  RunsInside g g' piped inside err (Err (lines.Run e)) after =
      RunFailed views allows refuses reading inside piped.0 after.0 piped.1 after.1
      (FailsLines views) e
      ⊎ ((late : Late) × LaunchStopped views allows refuses reading (λ polled kind tree added. Unit)
      inside piped after late)
  RunsInside g g' piped inside err (Err (lines.Closure e)) after =
      FailedBy Gives (lines.Closure e) g'
      × (late : Late) × LaunchStopped views allows refuses reading
      (λ polled kind tree added. Unit) inside piped after late

  -- what a run does whose lines are handed on until this moment; or there was no memory, or no
  -- pipe, for it
  abbrev pub IsLinesRun : G → G → S × PoolView C → Result (Until Captured LateLines) LinesError
      → S × PoolView C → Type 0
  IsLinesRun g g' before result after =
      ((piped : S) × (inside : Expression E H) × (err : R)
      × Pipes views may false root before.0 inside err piped
      × RunsInside g g' (piped, before.1) inside err result after)
      ⊎ ((e : Error) × (result ≡ Err (lines.Run e)) × OpenFails views may before.0 e after.0
      × (after.1 ≡ before.1))
      ⊎ ((result ≡ Err (lines.Run error.Memory)) × (after.0 ≡ before.0) × (after.1 ≡ before.1))
