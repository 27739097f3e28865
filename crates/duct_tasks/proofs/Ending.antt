-- What was late, by the numbers of its journal.
use Rattle.std.proofs.Common.{◌≡◌, ◌∙◌, ap, subst, sym, ℕ, pos, List, IfNone, IfSome, Some, None, map, Option}
use Rattle.duct_tasks.proofs.Common.{PoolView, ShapeView, shape_view, Allows, Refuses, RunningView, PoolGets, SystemViews, NumbersView, numbers_of, Bytes, Launched, Runs, added_between, draining, drains_error, drains_output, Expression, HasNotEnded, IsStopped, MadeBy, MayRun, MayStillRun, RunsAlike, StartKind, WasStopped, seen, tree_view}
use Rattle.duct_start.specs.Left.{TakesIn, pool_view}
use Rattle.duct_start.specs.ShapeOfTree.{shape_of_tree}
use Rattle.duct_run.proofs.Leaving.{leaves_same, takes_in}
use Rattle.duct_handle.proofs.Beginning.{are_numbers}
use Rattle.duct_tasks.specs.Groups.{SignalsGroups, processes_of}
use Rattle.duct_tasks.specs.declared.late.Late.{Late}

-- what holds of what is there is kept by what follows from it
pub if_some_with : {T : Type 0} (o : Option T) {P Q : T → Type 0}
    → IfSome o P → ((value : T) → P value → Q value) → IfSome o Q
if_some_with (Some value) holds step = step value holds
if_some_with None holds step = tt

-- so is what holds where nothing is there
pub if_none_with : {T : Type 0} (o : Option T) {P Q : Type 0} → IfNone o P → (P → Q) → IfNone o Q
if_none_with (Some value) holds step = tt
if_none_with None holds step = step holds

module _ {S E C F D H : Type 0} (views : SystemViews S E C F D (Unit {0}) Bytes)
    (allows : Allows H) (refuses : Refuses H) (kind : StartKind)
    (holds : RunningView C F D → MadeBy E H) (root : Expression E H) (late : Late) where
  -- what a start left was stopped, and this holds of it
  pub was_stopped : (before started after : S × PoolView C) (first waited running : RunningView C F D)
      → Launched views allows kind root before.0 started.0 before.1 started.1
      (Runs views first)
      → RunsAlike views first waited
      → (stopped : IsStopped views allows refuses late started waited after running)
      → holds stopped.polled kind (tree_view root) (added_between views before.0 started.0)
      → WasStopped views allows refuses kind holds root before late after running
  was_stopped before started after first waited running l alike stopped held =
      let tree = tree_view root in
      let polled : RunningView C F D = stopped.polled in
      let runs = l.makes in
      let same : seen views polled ≡ seen views first = stopped.alike ∙ alike in
      let shape : shape_view polled.shape ≡ shape_of_tree tree =
      ap (λ (s : ShapeView × NumbersView). s.0) same ∙ runs.shape_is in
      let shape_before : shape_view waited.shape ≡ shape_of_tree tree =
      ap (λ (s : ShapeView × NumbersView). s.0) alike ∙ runs.shape_is in
      record {
        started = started;
        between = stopped.between;
        tries = stopped.tries;
        kills = stopped.kills;
        polled = polled;
        launched = record {
          asked = l.asked;
          makes = record {
            shape_is = shape;
            are_numbers = are_numbers views.child views.feed views.drain tree
                (drains_output kind tree) (drains_error kind tree)
                (added_between views before.0 started.0) first (numbers_of views polled) runs
                (ap (λ (s : ShapeView × NumbersView). s.1) same);
            held = held;
            lapsed = stopped.lapsed;
          };
          swept = l.swept;
        };
        signals = subst (λ (s : ShapeView). SignalsGroups views allows refuses (pos 15) s
            (processes_of views polled) stopped.tries started stopped.between) shape_before
            (subst (λ (ps : List ℕ). SignalsGroups views allows refuses (pos 15)
            (shape_view waited.shape) ps stopped.tries started stopped.between)
            (sym stopped.processes) stopped.signals);
        signals_kill = subst (λ (s : ShapeView). SignalsGroups views allows refuses (pos 9) s
            (processes_of views polled) stopped.kills stopped.between after) shape
            stopped.ordered.signals;
        killed = stopped.ordered.sent;
        alike = stopped.kept;
      }

module _ {S E C F D H : Type 0} (views : SystemViews S E C F D (Unit {0}) Bytes)
    (allows : Allows H) (refuses : Refuses H) (root : Expression E H) (late : Late) where
  -- one that was late might still run when that was seen
  pub was_late : (before started after : S × PoolView C) (first waited running : RunningView C F D)
      → Launched views allows draining root before.0 started.0 before.1 started.1
      (Runs views first)
      → RunsAlike views first waited → HasNotEnded views waited
      → IsStopped views allows refuses late started waited after running
      → WasStopped views allows refuses draining (MayStillRun views) root before late after running
  was_late before started after first waited running l alike unended stopped =
      let polled : RunningView C F D = stopped.polled in
      let same : seen views polled ≡ seen views first = stopped.alike ∙ alike in
      let shape : shape_view polled.shape ≡ shape_of_tree (tree_view root) =
      ap (λ (s : ShapeView × NumbersView). s.0) same ∙ l.makes.shape_is in
      let may_run : MayRun views (shape_view polled.shape) (numbers_of views polled) =
      subst (λ (s : ShapeView × NumbersView). MayRun views s.0 s.1) (sym stopped.alike) unended in
      was_stopped views allows refuses draining (MayStillRun views) root late before started after
      first waited running l alike stopped
      (subst (λ (s : ShapeView). MayRun views s (numbers_of views polled)) shape may_run)

module _ {S E C F D : Type 0} (views : SystemViews S E C F D (Unit {0}) Bytes) where
  -- then the pool was given what was stopped
  pub takes_stopped : (running : RunningView C F D) (ended left : PoolView C)
      → PoolGets views running.children ended left
      → TakesIn views.may_answer (map views.child running.children) (pool_view views.child ended)
      (pool_view views.child left)
  takes_stopped running ended left gets = takes_in views.may_answer views.child running.children
      ended ended left (leaves_same views.may_answer (pool_view views.child ended)) gets
