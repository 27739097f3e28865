-- Runs whose lines are handed on: what each of their ends is, by what was started.
use Rattle.std.proofs.Common.{ℕ, List, Err, Option, Result, inr}
use Rattle.std.specs.declared.io.Error as io
use Rattle.std.specs.declared.time.Duration.{Duration}
use Rattle.duct_system.specs.declared.system.Side.{Side}
use Rattle.duct.specs.Launched.{RunsRead, reading}
use Rattle.duct_tasks.proofs.Common.{Allows, Bytes, Expression, Launched, LaunchStopped, MadeBy, PoolView, Refuses, RunningView, RunsAlike, SystemViews, added_between, tree_view}
use Rattle.duct_tasks.proofs.Ending.{takes_stopped, was_stopped}
use Rattle.duct_tasks.specs.LinesRun.{RunsInside}
use Rattle.duct_tasks.specs.Streams.{FailedBy}
use Rattle.duct_tasks.specs.Until.{StopsAndGives}
use Rattle.duct_tasks.specs.declared.late.Late.{Late}
use Rattle.duct_tasks.specs.declared.lines.LinesError.{LinesError}
use Rattle.duct_tasks.specs.declared.lines.LinesError.TheVariants as lines

module _ {S E C F D : Type 0} (views : SystemViews S E C F D (Unit {0}) Bytes) {R : Type 0}
    (may : ℕ → R → Type 0) {H : Type 0} (allows : Allows H) (refuses : Refuses H)
    (inside : Expression E H) (piped started : S × PoolView C)
    (running waited : RunningView C F D) (out : R)
    (l : Launched views allows reading inside piped.0 started.0 piped.1 started.1
    (RunsRead views may running out)) (alike : RunsAlike views running waited) where
  -- what was started was stopped, and the pool was given its children
  pub launch_stopped : (holds : RunningView C F D → MadeBy E H) (late : Late)
      (after : S × PoolView C)
      → StopsAndGives views allows refuses late started waited after
      → ((polled : RunningView C F D)
      → holds polled reading (tree_view inside) (added_between views piped.0 started.0))
      → LaunchStopped views allows refuses reading holds inside piped after late
  launch_stopped holds late after stops held = record {
    running = stops.left;
    ended = stops.ended;
    stopped = was_stopped views allows refuses reading holds inside late piped started
        (after.0, stops.ended) running waited stops.left
        (record { asked = l.asked; makes = l.makes.0; swept = l.swept }) alike stops.stopped
        (held stops.stopped.polled);
    pool = takes_stopped views stops.left stops.ended after.1 stops.gets;
  }

module _ {S E C F D : Type 0} (views : SystemViews S E C F D (Unit {0}) Bytes) {R : Type 0}
    (may : ℕ → R → Type 0) (remaining : R → Option (List ℕ)) {G : Type 0}
    (Gives : Result (Unit {0}) io.Error → G → Side × List ℕ → G → Type 0) {H : Type 0}
    (allows : Allows H) (refuses : Refuses H) (root : Expression E H) (grace : Duration)
    (shows : Duration → Type 0) (moment : ℕ) where
  -- an error for which the expression was stopped
  pub stops_inside : (g g' : G) (piped : S × PoolView C) (inside : Expression E H) (err : R)
      (e : LinesError) (after : S × PoolView C) (late : Late) → FailedBy Gives e g'
      → LaunchStopped views allows refuses reading (λ polled kind tree added. Unit {0}) inside
      piped after late
      → RunsInside views may remaining Gives allows refuses root grace shows moment g g' piped
      inside err (Err e) after
  stops_inside g g' piped inside err (lines.Run e) after late by stopped = inr (late, stopped)
  stops_inside g g' piped inside err (lines.Closure e) after late by stopped =
      (by, late, stopped)
