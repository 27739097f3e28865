-- The hook outside of the remaining ones runs next.
use Rattle.std.proofs.Common.{◌≡◌, ◌++◌, ◌∷◌, [], ap, sym, ◌∙◌, refl, append_assoc, arith}
use Rattle.duct_run.proofs.Common.{err_from_is_err_and, hooks_of, streams_view}
use Rattle.duct_run.proofs.Changing.{alters_append, alters_none, breaks_as, breaks_first, breaks_more}
use Rattle.duct_run.proofs.Setting.{hooks_of-more}
use Rattle.duct_run.proofs.change.change_all.Goals as goal

pub loop-hook-init : goal.loop-hook-init
loop-hook-init g c =
    let num = g.S.End.Numbered.number_of in
    record {
      ran = ([], refl, alters_none g.H.Hook.allows g.H.Hook.refuses num (g.S.System.journal_view c.args.sys.now) c.args.spec.now (streams_view num c.args.streams.now));
      room = omega arith;
    }

pub loop-hook-preserved : goal.loop-hook-preserved
loop-hook-preserved g c =
    let num = g.S.End.Numbered.number_of in
    let some = c.loop-hook.invariant.ran.0 in
    let one = (c.in-Some.hook.now, c.in-Some.ends.now) ∷ [] in
    let left = hooks_of c.pop.new.self.items in
    let next : hooks_of c.loop-hook.hooks.items ≡ one ++ left = ap (λ pairs. hooks_of pairs) c.in-Some.ensures.items ∙ hooks_of-more c.pop.new.self.items (c.in-Some.hook, c.in-Some.ends) in
    record {
      ran = (
        some ++ one,
        append_assoc some one left ∙ ap (λ hooks. some ++ hooks) (sym next) ∙ c.loop-hook.invariant.ran.1,
        alters_append g.H.Hook.allows g.H.Hook.refuses num _ _ _ some one _ _ _ _ _ _ c.loop-hook.invariant.ran.2 c.in_ok-change.ensures.ok,
      );
      room = omega (arith, c.loop-hook.invariant.room, c.in_ok-change.ensures.left);
    }

pub returns-in_err-change-clause-err : goal.returns-in_err-change-clause-err
returns-in_err-change-clause-err g c =
    let p = err_from_is_err_and c.from_residual.result c.from_residual.ensures.1 in
    let num = g.S.End.Numbered.number_of in
    let allows = g.H.Hook.allows in
    let refuses = g.H.Hook.refuses in
    let some = c.loop-hook.invariant.ran.0 in
    let one = (c.in-Some.hook.now, c.in-Some.ends.now) ∷ [] in
    let left = hooks_of c.pop.new.self.items in
    let next : hooks_of c.loop-hook.hooks.items ≡ one ++ left = ap (λ pairs. hooks_of pairs) c.in-Some.ensures.items ∙ hooks_of-more c.pop.new.self.items (c.in-Some.hook, c.in-Some.ends) in
    rw (p.1, p.2) (breaks_as allows refuses num ((some ++ one) ++ left) _ _ _ _ _ _ _
    (append_assoc some one left ∙ ap (λ hooks. some ++ hooks) (sym next) ∙ c.loop-hook.invariant.ran.1)
    (breaks_first allows refuses num _ _ _ (some ++ one) left _ (g.S.System.journal_view c.args.sys.now) c.args.spec.now _ _
    (breaks_more allows refuses num _ _ _ some one _ _ _ _ _ _ c.loop-hook.invariant.ran.2 c.in_err-change.ensures.err)))
