-- The names that most proofs of this crate cite, passed on from one place. Declares nothing.
pub use Rattle.std.proofs.lemmas.Grind.{common_steps}
pub use Rattle.std.proofs.lemmas.Iterator.{YieldsList-from_slice}
pub use Rattle.std.proofs.lemmas.Iterator.Search.{all_from_yields_List, any_from_yields_List}
pub use Rattle.std.proofs.lemmas.List.{append-nil, length-take, nil_from_length, map-append, length-map, take-append-drop, get_or_default}
pub use Rattle.std.proofs.lemmas.List.Folds.{list_all-append, list_all-map}
pub use Rattle.std.specs.List.{list_any, starts_with, swap_remove, list_all}
pub use mathlib.Core.Logic.{∥∥₁_map, ∥∥₁_elim, ∥∥₁_map₂}
pub use Rattle.duct_system.specs.EntryView.{EntryView, Spawn, answer_of, Environment, Pipe, Canonicalize, Close, OpenRead, Create, Duplicate, Parent, Feed, Drain}
pub use Rattle.duct_system.specs.Journal.{JournalView, Adds, AddsNothing, GetsEnds, IsNew, IsRefused}
pub use Rattle.duct_system.specs.Ledger.{opened_by, spent_by}
pub use Rattle.duct_system.specs.SpecView.{SpecView, Vars, pair_text, var_view}
pub use Rattle.duct_system.specs.Started.{child_by, children_in}
pub use Rattle.duct_system.specs.Streams.{ends_of, stream_of, end_of}
pub use Rattle.duct_system.specs.declared.system.Fault.{Fault}
pub use Rattle.duct_system.specs.declared.system.Stdio.{Stdio}
pub use Rattle.duct.specs.Launched.{IsCall, Launched, MadeBy, RunFailed, StartKind, ReadFails, Reads, reading, Fails, Returns, draining}
pub use Rattle.duct_guard.specs.GuardView.{IsForwarded, Keeps, AddsAll, ClosesFirst, Crowded, Forwards, ForwardsAll, LostPath, LostVars, Passed, Refused, allows_spawn, may_ask, refusal, GotEnd, asked_of, end_entry, GuardView, OnlyForwards}
pub use Rattle.duct_guard.specs.Held.{IsBegun, nothing_held, IsCrew, Joins, Leaves, with_children, with_ends, with_entry, without_ends, held_after, is_within, counts_of, started_by, Fits, AlwaysFits, without_end, HasEnded, HaveEnded}
pub use Rattle.duct_guard.specs.Policies.{is_kept, is_below, is_variable, climbs}
pub use Rattle.duct_guard.specs.Rules.{Rules, AreAllowed, AreDenied, canonicalize, is_allowed, is_denial, spawn}
pub use Rattle.duct_guard.specs.Under.{FixedGuard, IsLeft, guard_views}
pub use Rattle.duct_guard.specs.declared.counts.Held.{Held}
