-- The spawn of a command, or what makes it fail.
use Rattle.duct_run.proofs.Common.{arc_value, err_from_is_err_and, IsUnasked, pair_text, port_end_count, HooksSucceed, HooksFail, ends_of_pipes, resources_view, scope_in, ports_view, scopes_view, many_ends, streams_view}
use Rattle.std.proofs.Common.{◌≡◌, ◌+◌, ◌≤◌, ap, sym, ◌∙◌, subst, arith, rules, length, map, string_bytes, length-append, ◌++◌, ◌∷◌, []}
use Rattle.duct_run.proofs.Commanding.{hooks_refused, spawn_refused, spawned}
use Rattle.duct_run.proofs.Made.{made_is_asked}
use Rattle.duct_run.proofs.Pushed.{all_pushed, hand_fits, length_stack, many_given, many_spent, min_fits, pushed_number}
use Rattle.duct_run.proofs.command.command.Goals as goal

pub returns-in_err-reservation-clause-err : goal.returns-in_err-reservation-clause-err
returns-in_err-reservation-clause-err g c =
    let p = err_from_is_err_and c.from_residual.result c.from_residual.ensures.1 in
    rw (p.1, p.2) (c.in_err-reservation.ensures.err (resources_view g.S.End.Numbered.number_of g.S.Child.Child.child_view g.S.Feed.Job.job_view g.S.Drain.Job.job_view c.args.held.now))

pub change_all-requires : goal.change_all-requires
change_all-requires g c =
    let num = g.S.End.Numbered.number_of in
    let allows = g.H.Hook.allows in
    let h = resources_view num g.S.Child.Child.child_view g.S.Feed.Job.job_view g.S.Drain.Job.job_view c.args.held.now in
    let pairs = map pair_text c.args.pairs.now.items in
    let scope = scope_in (scopes_view c.args.scopes.now) c.args.scope in
    let texts = map string_bytes (arc_value c.args.words.now).items in
    let ports = ports_view c.args.ports in
    let start = g.S.System.journal_view c.args.sys.now in
    let long = length_stack num c.args.held.now.stack.items in
    let items : port_end_count ports.input + (port_end_count ports.output + port_end_count ports.error) ≤ length c.args.held.now.stack.items = search rules in
    let full : port_end_count ports.input + (port_end_count ports.output + port_end_count ports.error) ≤ length h.stack = omega (arith, items, long) in
    let fits = hand_fits num c.take_all-streams.result ports h.stack full c.take_all-streams.ensures.streams in
    omega (arith, fits, c.requires.room, c.in_ok-reservation.ensures.left, length-append h.stack (ends_of_pipes h.pipes))

pub returns-in-Err-clause-err : goal.returns-in-Err-clause-err
returns-in-Err-clause-err g c =
    let num = g.S.End.Numbered.number_of in
    let allows = g.H.Hook.allows in
    let h = resources_view num g.S.Child.Child.child_view g.S.Feed.Job.job_view g.S.Drain.Job.job_view c.args.held.now in
    let pairs = map pair_text c.args.pairs.now.items in
    let scope = scope_in (scopes_view c.args.scopes.now) c.args.scope in
    let texts = map string_bytes (arc_value c.args.words.now).items in
    let ports = ports_view c.args.ports in
    let start = g.S.System.journal_view c.args.sys.now in
    let one = g.S.System.journal_view c.prepared.new.sys in
    let asked = c.in_ok-reservation.field-0.spec in
    let ready = c.in_ok-reservation.ensures.ok in
    let made = made_is_asked pairs ready.program scope texts ports asked ready.made in
    let breaks = subst (λ s. HooksFail allows g.H.Hook.refuses num scope.hooks one (g.S.System.journal_view c.change_all.new.sys) asked s (streams_view num c.change_all.new.streams) c.in-Err.error) c.take_all-streams.ensures.streams
    (subst (λ hs. HooksFail allows g.H.Hook.refuses num hs one (g.S.System.journal_view c.change_all.new.sys) asked (streams_view num c.take_all-streams.result) (streams_view num c.change_all.new.streams) c.in-Err.error) c.in_ok-reservation.ensures.hooks c.in-Err.ensures.err) in
    rw (c.put_all.ensures, c.take_all-streams.ensures.left) (hooks_refused allows num scope texts g.H.Hook.refuses pairs ports start h one ready.program ready.names asked made
    (g.S.System.journal_view c.change_all.new.sys) (streams_view num c.change_all.new.streams) c.in-Err.error breaks)

pub spawn-requires : goal.spawn-requires
spawn-requires g c =
    let num = g.S.End.Numbered.number_of in
    let h = resources_view num g.S.Child.Child.child_view g.S.Feed.Job.job_view g.S.Drain.Job.job_view c.args.held.now in
    let ports = ports_view c.args.ports in
    let items : port_end_count ports.input + (port_end_count ports.output + port_end_count ports.error) ≤ length c.args.held.now.stack.items = search rules in
    let full : port_end_count ports.input + (port_end_count ports.output + port_end_count ports.error) ≤ length h.stack = omega (arith, items, length_stack num c.args.held.now.stack.items) in
    let fits = hand_fits num c.take_all-streams.result ports h.stack full c.take_all-streams.ensures.streams in
    let room : many_ends c.change_all.new.streams ≤ (g.S.System.journal_view c.change_all.new.sys).room =
    omega (arith, fits, c.requires.room, c.in_ok-reservation.ensures.left, c.in_default.ensures.left, length-append h.stack (ends_of_pipes h.pipes)) in
    (g.met.S.System.streams_fit, min_fits _ _ (omega (arith, many_given num c.change_all.new.streams, room)))

pub returns-in_err-child-clause-err : goal.returns-in_err-child-clause-err
returns-in_err-child-clause-err g c =
    let p = err_from_is_err_and c.from_residual-in_err-child.result c.from_residual-in_err-child.ensures.1 in
    let num = g.S.End.Numbered.number_of in
    let allows = g.H.Hook.allows in
    let h = resources_view num g.S.Child.Child.child_view g.S.Feed.Job.job_view g.S.Drain.Job.job_view c.args.held.now in
    let pairs = map pair_text c.args.pairs.now.items in
    let scope = scope_in (scopes_view c.args.scopes.now) c.args.scope in
    let texts = map string_bytes (arc_value c.args.words.now).items in
    let ports = ports_view c.args.ports in
    let start = g.S.System.journal_view c.args.sys.now in
    let one = g.S.System.journal_view c.prepared.new.sys in
    let asked = c.in_ok-reservation.field-0.spec in
    let ready = c.in_ok-reservation.ensures.ok in
    let made = made_is_asked pairs ready.program scope texts ports asked ready.made in
    let two = g.S.System.journal_view c.change_all.new.sys in
    let t = c.change_all.new.streams in
    let alters = subst (λ s. HooksSucceed allows num scope.hooks one two asked c.change_all.new.spec s (streams_view num t)) c.take_all-streams.ensures.streams
    (subst (λ hs. HooksSucceed allows num hs one two asked c.change_all.new.spec (streams_view num c.take_all-streams.result) (streams_view num t)) c.in_ok-reservation.ensures.hooks c.in_default.ensures.ok) in
    rw (p.1, p.2, c.take_all-streams.ensures.left) (spawn_refused allows num scope texts g.H.Hook.refuses pairs ports start h one ready.program ready.names asked made
    (g.S.System.journal_view c.spawn.new.self) c.change_all.new.spec (streams_view num t) two _ _ alters c.in_err-child.ensures.err (many_spent num t))

pub returns-clause-ok : goal.returns-clause-ok
returns-clause-ok g c =
    let num = g.S.End.Numbered.number_of in
    let allows = g.H.Hook.allows in
    let h = resources_view num g.S.Child.Child.child_view g.S.Feed.Job.job_view g.S.Drain.Job.job_view c.args.held.now in
    let pairs = map pair_text c.args.pairs.now.items in
    let scope = scope_in (scopes_view c.args.scopes.now) c.args.scope in
    let texts = map string_bytes (arc_value c.args.words.now).items in
    let ports = ports_view c.args.ports in
    let start = g.S.System.journal_view c.args.sys.now in
    let one = g.S.System.journal_view c.prepared.new.sys in
    let asked = c.in_ok-reservation.field-0.spec in
    let ready = c.in_ok-reservation.ensures.ok in
    let made = made_is_asked pairs ready.program scope texts ports asked ready.made in
    let two = g.S.System.journal_view c.change_all.new.sys in
    let t = c.change_all.new.streams in
    let alters = subst (λ s. HooksSucceed allows num scope.hooks one two asked c.change_all.new.spec s (streams_view num t)) c.take_all-streams.ensures.streams
    (subst (λ hs. HooksSucceed allows num hs one two asked c.change_all.new.spec (streams_view num c.take_all-streams.result) (streams_view num t)) c.in_ok-reservation.ensures.hooks c.in_default.ensures.ok) in
    let view = g.S.Child.Child.child_view in
    let child = c.in_ok-child.child in
    let number : (view c.place_new.result).number ≡ g.S.Child.Numbered.number_of child = ap (λ x. (view x).number) c.place_new.ensures ∙ g.met.S.Child.Child.has_number child in
    let children = pushed_number (λ x. (view x).number) c.args.held.now.children.items c.push_reserved.new.self.items c.place_new.result c.push_reserved.ensures.items ∙ ap (λ n. h.children ++ n ∷ []) number in
    rw (c.take_all-streams.ensures.left, children) (spawned allows num scope texts g.H.Hook.refuses pairs ports start h one ready.program ready.names asked made
    (g.S.System.journal_view c.spawn.new.self) c.change_all.new.spec (streams_view num t) two (g.S.Child.Numbered.number_of child) _ alters c.in_ok-child.ensures.ok.0 (many_spent num t))

pub returns-clause-new : goal.returns-clause-new
returns-clause-new g c = λ new.
    let view = g.S.Child.Child.child_view in
    let one : IsUnasked (view c.place_new.result) = subst (λ x. IsUnasked (view x)) (sym c.place_new.ensures) c.in_ok-child.ensures.unasked in
    record {
      children = all_pushed (λ x. IsUnasked (view x)) c.args.held.now.children.items c.push_reserved.new.self.items c.place_new.result c.push_reserved.ensures.items new.children one;
      feeds = new.feeds;
      drains = new.drains;
    }
