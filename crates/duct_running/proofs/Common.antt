-- The names that most proofs of this crate cite, passed on from one place. Declares nothing.
pub use Rattle.std.proofs.lemmas.List.{length-map, length-set, append-nil}
pub use Rattle.std.proofs.lemmas.List.Elements.{All-cons, All-head, All-nil, All-tail, All-weaker, Contains-append_left, Contains-append_right}
pub use Rattle.std.specs.Prelude.{MatchBool, MatchOption}
pub use Rattle.duct_system.specs.Child.{Answer, ChildView, PollsChild, child_after, IsUnasked, Obeyed, OrdersChild, child_ordered, ending_after}
pub use Rattle.duct_system.specs.Job.{JobView, PollsJob, kept_after, unpolled_job}
pub use Rattle.duct_system.specs.SystemViews.{SystemViews}
pub use Rattle.duct_system.specs.declared.system.ExitStatus.{ExitStatus}
pub use Rattle.duct_system.specs.declared.system.Said.{Said}
pub use Rattle.duct_status.specs.EventView.{bytes_said, from_drain, from_input, from_command}
pub use Rattle.duct_status.specs.Latest.{Latest, latest_after, is_input_due, is_said_due, change_at, is_due, is_word_due, word_after, latest_told}
pub use Rattle.duct_status.specs.Outcome.{awaited, OutcomeView, waits, faults, finished, AnswersOutcome, awaited_by, captured, command_said, ended, first_fault, in_tree_order, input_said, outcome, some_runs, with_bytes, AnswersFor}
pub use Rattle.duct_status.specs.ShapeView.{shape_view, ShapeView, command_count, input_count, command, pipe, input, unchecked}
pub use Rattle.duct_status.specs.declared.status.Word.{Word}
pub use Rattle.duct_start.specs.Running.{RunningView, IsRunning}
pub use Rattle.duct_run.proofs.Seeing.{views_of}
pub use Rattle.duct_running.specs.Ordered.{IsUnordered, OrderedIfDue, AllOrdered, leftmost, OrderAnswers}
pub use Rattle.duct_running.specs.Polled.{AllAsked, WhileRuns, IsPolled, AllPolled, IsThereAndPolled, Stays, PolledIfRuns, ChangedAt, StreamPolled, is_awaited, AskedIfDue, Gives, IsOutcome, IsConclusion}
pub use Rattle.duct_running.specs.Stored.{AreUnasked, Bytes, stored_latest, stored_in, answer_word, stored_word}
