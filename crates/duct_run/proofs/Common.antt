-- The names that most proofs of this crate cite, passed on from one place. Declares nothing.
pub use Rattle.std.proofs.lemmas.Bool.{cases_lt}
pub use Rattle.std.proofs.lemmas.Grind.{flat_map-append, common_steps}
pub use Rattle.std.proofs.lemmas.List.{append-nil, length-reverse, map-append, nil_from_length, drop_all, get_or-map, length-map, reverse-append, take-append-le, reverse-reverse, take_more}
pub use Rattle.std.proofs.lemmas.List.Elements.{All-append, All-head, All-tail, All-cons, All-nil, All-get_or, filter-append}
pub use Rattle.std.proofs.lemmas.Option.{slice_get_cases, slice_get-map, slice_get_read, slice_get_within, slice_get-get_or}
pub use Rattle.std.proofs.lemmas.Result.{on_ok_weaker, IfErr-weaker, err_from_is_err_and}
pub use Rattle.std.specs.Arc.{arc_value}
pub use Rattle.std.specs.BTreeMap.{BTreeMap, insert_entry, is_at, IsOrdered}
pub use Rattle.std.specs.Option.{option_or}
pub use Rattle.std.specs.Prelude.{Vec}
pub use Rattle.duct_system.proofs.Entries.{insert_var, are_ordered}
pub use Rattle.duct_system.specs.Child.{ChildView, Answer, PollsChild, IsUnasked}
pub use Rattle.duct_system.specs.EntryView.{EntryView, Pipe, OpenRead, Create, Duplicate, Parent, Feed, Close, Environment, Canonicalize, Spawn, Drain, Reader}
pub use Rattle.duct_system.specs.Job.{JobView, unpolled_job}
pub use Rattle.duct_system.specs.Journal.{JournalView, Adds, AddsNothing, Asks, GetsEnd, GetsEnds, GivesEnds, IsRefused}
pub use Rattle.duct_system.specs.Ledger.{opened_by, spent_by, count_of, opened_numbers, spent_numbers, IsBalanced, open_count}
pub use Rattle.duct_system.specs.Origin.{Origin, Opened, origin, origin_before, Lent}
pub use Rattle.duct_system.specs.SpecView.{SpecView, Vars, said_of, var_view, variable_in, AreOrdered, pair_text, spelled}
pub use Rattle.duct_system.specs.Started.{child_by, feed_by, drain_by, children_in, feeds_in, drains_in}
pub use Rattle.duct_system.specs.Streams.{end_of, stream_of, ends_of}
pub use Rattle.duct_system.specs.SystemViews.{SystemViews}
pub use Rattle.duct_system.specs.Trace.{trace, fault_of, is_traced, segment, IsClean, is_close, StopsAtFault, OnlyCloses}
pub use Rattle.duct_system.specs.declared.error.Error.{Error}
pub use Rattle.duct_system.specs.declared.error.Error.TheVariants.{System, Memory, Hook, HookEnd, Checked, NotUtf8, Deadline}
pub use Rattle.duct_system.specs.declared.spec.Port.{Port}
pub use Rattle.duct_system.specs.declared.spec.Stream.{Stream}
pub use Rattle.duct_system.specs.declared.spec.Stream.TheVariants.{In}
pub use Rattle.duct_system.specs.declared.system.Fault.{Fault}
pub use Rattle.duct_system.specs.declared.system.Side.{Side}
pub use Rattle.duct_system.specs.declared.system.Stdio.{Stdio}
pub use Rattle.duct_system.specs.declared.system.Stdio.TheVariants.{Inherit, Null, End}
pub use Rattle.duct_status.specs.PerSide.{at_side, with_side}
pub use Rattle.duct_status.specs.declared.per_side.PerSide.{PerSide}
pub use Rattle.duct_base.specs.Pool.{PoolView, IsGiven, Sieves, counted}
pub use Rattle.duct_start.proofs.Commanded.{items_of, commanded_is, items_if, with_items}
pub use Rattle.duct_start.proofs.Counts.{is_itself, other_than, count_other, count_same, count-cons, count-append, count-reverse, count_le, once_of}
pub use Rattle.duct_start.proofs.Origins.{origin_stays, origin-more, origin_lent, end_at_seam, trace-append, count_got-append, opened_numbers-append, spent_numbers-append, count_spent-append}
pub use Rattle.duct_start.specs.Asked.{origin_to, port_to, stream_to, streams_to, end_at, IsAsked}
pub use Rattle.duct_start.specs.Causes.{StoppedBy, IsCausedOrMemory, ReturnsLastFault, asked_in, last_fault}
pub use Rattle.duct_start.specs.Chain.{Allows, Refuses, SpecWithStreams, HooksChange, HooksStop, hooks_by_origin, HookChanges, HookMakes, HookStops, resolved_port, missing_place, after_hook, stream_after_hook, end_of_place, missing_at}
pub use Rattle.duct_start.specs.Follows.{text_in, AsksPlan, FollowsWhole, IsAskedAt, IsSpawnedBy, pairs_in, program_at, AnswersBy, AnswersFrom, AnswersFromBy, StreamsRelation, GivesExactly, Follows}
pub use Rattle.duct_start.specs.Left.{Leaves, LeavesStarted, pool_view, StaysInPool, TakesIn}
pub use Rattle.duct_start.specs.Lookup.{resolved_turn, Path, left_of, right_of, within, surroundings_on, stream_goes, PathSegment, segment_place, step_of}
pub use Rattle.duct_start.specs.Plan.{Plan, with_command, initial_plan, with_drain, with_item, program_of, with_opening, place_for, with_closing, with_capture, is_canonical, with_reader, plan_of_subtree, no_pipes, capture_place}
pub use Rattle.duct_start.specs.Row.{RowOpening, SettingView, opens_nothing, opens_input, opens_read, opens_create, opens_capture, row, Route, as_outside, to_nothing, to_lent, to_opened, says_folder, says_change, says_hook}
pub use Rattle.duct_start.specs.Sources.{Pairwise, IsGivenFrom, ComesFrom, IsDuplicate, IsDuplicateBefore}
pub use Rattle.duct_start.specs.Start.{StartRefused, depth, AreEarlier, GotNew, Grows, KeepsFewOpen, StartSucceeds, ends_in, modifier_ends, opens_depth, said_ends, route_ends}
pub use Rattle.duct_start.specs.Step.{step_of_setting, Item, AskPipe, AskOpenRead, AskCreate, AskFeed, AskEnvironment, AskDrain, AskCanonicalize, AskSpawn, NodeStep, left_step, right_step, step, Opening, OpensNothing, Opens, Captures, AskReader, closing_of, opened_target, opening_of, step_if_setting, stream_on, turn_of, Turn, Decides, DefersTo}
pub use Rattle.duct_start.specs.Surroundings.{Target, target_of, Parents, Nothing, ReaderAt, WriterAt, FileAt, Lends, Surroundings, VariableChange, Replaces, variable, root_surroundings, Removes}
pub use Rattle.duct_start.specs.TreeView.{TreeView, command, pipe, around, ModifierView, stdin_bytes, unchecked}
pub use Rattle.duct_run.specs.ActionList.{AreOutwards, ScopeEntry, scope_at, scope_in, scopes_from, with_scope, IsWithin, list_of_subtree, list_of, next_index, scope_index, with_scope_entry, resolved, resolved_all}
pub use Rattle.duct_run.specs.ActionView.{action_view, actions_view, scope_view, scopes_view, setting_view, ports_view, all_scopes}
pub use Rattle.duct_run.specs.Actions.{Scope, PerStream, surroundings_by, stream_target, stack_after_ports, stack_after_port, port_end_count, port_in, Action, State, Leads, advance, at_depth, IsReady, IsWriter, pipe_place, AreReady, after_actions, pop_count, with_plan, ActionOf, AreBelow, NoneFinishes, captures_in, is_capture, with_capture_finished, Needs}
pub use Rattle.duct_run.specs.Commands.{AreAlike, IsAlike, stack_with_streams, port_stream, port_streams, resources_with_stack, StoppedWithCause, HooksSucceed, HooksFail, ActionSucceedsWith, NameSucceeds, ActionFailsWith, HooksInvariant, asks_canonical_path, after_canonical_path, program_in, with_stack, StopsAmongHooks, hooks_by_target, streams_in, StoppedByHook, RedirectSucceeds, FailsWithoutHook, RedirectFails, CloseSucceeds}
pub use Rattle.duct_run.specs.Flat.{root_scope, scope_inside, StreamSource, source_actions, port_at, ports_at, command_actions, SourceLeadsTo, is_stdin, is_in, is_out, is_err, is_nothing, is_slot, is_captured, is_lent, IsGot, SourcesFit, parents, nothing, slot, captured, lent, depth_inside, with_input, with_output, root_sources, sources_inside, actions_around, actions_of_subtree, actions_of, scope_if, opened_source, on_side, source_inside, with_error}
pub use Rattle.duct_run.specs.GivesUp.{Closes}
pub use Rattle.duct_run.specs.Kinds.{entry_kind, item_kind, ItemKind, of_spawn, of_feed, of_other, spawns, feeds, spawns_asked, feeds_asked}
pub use Rattle.duct_run.specs.Made.{IsMade, program_text}
pub use Rattle.duct_run.specs.ResourcesView.{ResourcesView, open_ends, ends_of_pipes, pipe_ends, empty_resources, AreNew, resources_view, ends_of_resources, pipe_view, both, pipes_view, AreSame, HasSameWorkers, stack_view}
pub use Rattle.duct_run.specs.RunContract.{PlanTail, ActionsSucceed, LeadToSomePlan, context_of, reader_tail, OpenOutputCapture, ActionsFail, tail_for, tree_for, HaveWorkers, no_tail}
pub use Rattle.duct_run.specs.RunInvariant.{AnswersUnder, AreFresh, RunContext, IsEarly, IsFrom, IsLater, IsShaped, IsPair, HasOrigins, RunInvariant, IsAllocationFailure, ActionSucceeds, ActionFails, LedgerInvariant, OpenEndsWithin, ReadyForActions, StopInvariant, FindsItsEnds, refused, unasked, IsHookError, GivesUnder, hooked, HasOrigin, StopReason}
pub use Rattle.duct_run.specs.Settings.{change_of, changes_of, whole_of, hooks_of}
pub use Rattle.duct_run.specs.StreamsView.{many_ends, streams_view}
pub use Rattle.duct_run.specs.declared.resources.Resources.{Resources}
pub use Rattle.duct_run.specs.declared.start.StartKind.{StartKind}
pub use Rattle.duct_run.specs.declared.start.StartKind.TheVariants.{Draining, Reading}
