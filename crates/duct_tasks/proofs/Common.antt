-- The names that most proofs of this crate cite, passed on from one place. Declares nothing.
pub use Rattle.std.proofs.lemmas.List.{length-map, append-nil, append_assoc, map-append, length-set}
pub use Rattle.std.proofs.lemmas.List.Elements.{All-cons, All-head, All-nil, All-tail, All-map, All-push, All-set}
pub use Rattle.std.proofs.lemmas.List.Sums.{get_or-le-sum_by, sum_by-set, sum_by-cons, sum_by_push}
pub use Rattle.std.proofs.lemmas.Result.{err_from_is_err_and}
pub use Rattle.std.specs.Fn.{Shared, FnReturnsAt}
pub use Rattle.std.specs.List.{AllZip, FoldsTo}
pub use Rattle.duct_system.specs.SystemViews.{SystemViews}
pub use Rattle.duct_system.specs.declared.error.Error.{Error}
pub use Rattle.duct_system.specs.declared.system.Order.TheVariants.{Signal, Kill}
pub use Rattle.duct_status.specs.ShapeView.{ShapeView, shape_view}
pub use Rattle.duct_base.specs.Pool.{PoolView, counted}
pub use Rattle.duct_start.specs.Chain.{Allows, Refuses}
pub use Rattle.duct_start.specs.Running.{RunningView}
pub use Rattle.duct_run.proofs.Seeing.{views_of}
pub use Rattle.duct_run.specs.Requested.{PoolGets}
pub use Rattle.duct_running.specs.NumbersView.{numbers_of, NumbersView}
pub use Rattle.duct_running.specs.Polled.{Polled, ReturnsOutcome, Stays, StaysSame, AllAsked, PolledOnce}
pub use Rattle.duct_running.specs.Stored.{Bytes}
pub use Rattle.duct.specs.Launched.{LaunchRefused, Launched, Runs, added_between, draining, drains_error, drains_output, MadeBy, StartKind, IsStart, IsRun, Fails}
pub use Rattle.duct.specs.TreeView.{tree_view}
pub use Rattle.duct.specs.declared.expression.Expression.{Expression}
pub use Rattle.duct_tasks.specs.Turns.{TaskTries, WereSignalled, gives, GoesOn, Attempts, FailsFor, FnReturnsAtPairMut, HasOrders}
pub use Rattle.duct_tasks.specs.Tasks.{Goes, AreEnds, RanAll, failed_of, running_of}
pub use Rattle.duct_tasks.specs.Until.{End, HasPassed, RunsAlike, HasNotEnded, IsStopped, LaunchStopped, MayRun, MayStillRun, WasStopped, seen, IsSignalled, AreSignalled}
pub use Rattle.duct_tasks.specs.declared.many.Tasks.{Tasks}
pub use Rattle.duct_tasks.specs.declared.task.Task.{Task}
pub use Rattle.duct_tasks.specs.declared.task.Task.TheVariants.{Running, Ended}
