use Rattle.std.proofs.Common.{refl, rules}
use Rattle.std.proofs.lemmas.Grind.{common_steps}
use Rattle.std.proofs.lemmas.List.{map-append}
use Rattle.duct_system.proofs.Clones.{texts_kept}
use Rattle.duct_system.proofs.spec.CommandSpec.args.Goals as goal

pub returns-clause-ok : goal.returns-clause-ok
returns-clause-ok c =
    let kept = texts_kept _ _ c.in_ok-make_mut.ensures.value in
    let written = (rw c.in_ok-make_mut.was at c.make_mut.follows.holds c.append.new.self) refl in
    rw (← c.self.view_is, written, c.in_ok-append.ensures.items, map-append _ _ _, kept, c.in_ok-more.ensures) refl

pub returns-in_err-make_mut-clause-err : goal.returns-in_err-make_mut-clause-err
returns-in_err-make_mut-clause-err c =
    let kept = texts_kept _ _ (rw c.in_err-make_mut.was at c.make_mut.follows.holds-at-none) in
    grind (rules, common_steps)

pub returns-in_err-append-clause-err : goal.returns-in_err-append-clause-err
returns-in_err-append-clause-err c =
    let kept = texts_kept _ _ c.in_ok-make_mut.ensures.value in
    let written = c.make_mut.follows.holds c.append.new.self in
    grind (rules, common_steps)
