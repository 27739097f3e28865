-- The names that most proofs of this crate cite, passed on from one place. Declares nothing.
pub use Rattle.std.specs.Arc.{arc_value}
pub use Rattle.std.specs.declared.sync.Arc.{Arc}
pub use mathlib.Core.Logic.{∥∥₁_map}
pub use Rattle.duct_system.specs.Child.{ChildView, Obeyed, OrdersChild, Answer}
pub use Rattle.duct_system.specs.SystemViews.{SystemViews}
pub use Rattle.duct_system.specs.declared.error.Error.{Error}
pub use Rattle.duct_system.specs.declared.system.Order.TheVariants.{Signal, Kill}
pub use Rattle.duct_system.specs.declared.system.Output.{Output}
pub use Rattle.duct_status.specs.ReplyView.{ReplyView, answered, failed, faulted, no_memory, noted, pending, unknown}
pub use Rattle.duct_status.specs.ShapeView.{ShapeView, shape_view}
pub use Rattle.duct_base.specs.Pool.{PoolView}
pub use Rattle.duct_start.specs.Running.{RunningView, IsRunning}
pub use Rattle.duct_run.proofs.Seeing.{views_of}
pub use Rattle.duct_running.specs.Allowed.{OneRuns, StoresAllowed, ChildAnswersAllowed}
pub use Rattle.duct_running.specs.Answered.{Concluded, IsAnswer, WasConcluded, IsConcluded, IsConcludedPoll}
pub use Rattle.duct_running.specs.NumbersView.{NumbersView, numbers_in, numbers_of, numbers_view}
pub use Rattle.duct_running.specs.Polled.{Polled, Gives, ReturnsOutcome, StaysSame, IsOutput, Stays}
pub use Rattle.duct_running.specs.Stored.{Bytes, stored_in}
pub use Rattle.duct_handle.specs.HandleView.{answer_view, HandleView, PublishedView, SeenView}
pub use Rattle.duct_handle.specs.Obeyed.{IsObeyed, CommandAnswers, IsOrderedOnce}
pub use Rattle.duct_handle.specs.ReadsText.{EndsWell, FailsToRead, StopsReading, trimmed, before, is_line_end}
pub use Rattle.duct_handle.specs.Waited.{GivesAgain, IsNoEnding, KnowsIfEnded, Waited, at_end}
