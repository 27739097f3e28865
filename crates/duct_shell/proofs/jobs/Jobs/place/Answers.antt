use Rattle.std.proofs.Common.{◌≡◌, ◌∙◌, ◌<◌, length, get_or, arith, ap, sym}
use Rattle.std.proofs.lemmas.List.{get_or_read}
use Rattle.duct_shell.specs.Jobs.{JobsView, Kept, is_key}
use Rattle.duct_shell.proofs.Keys.{at_none, at_place}
use Rattle.duct_shell.proofs.jobs.Jobs.place.Goals as goal

pub returns-then-eq-clause-found : goal.returns-then-eq-clause-found
returns-then-eq-clause-found g c =
    let job = c.args.job in
    let kept = c.args.self.now.kept in
    let place = c.loop-place.place in
    let same : c.self.inside.kept.items ≡ kept = ap (λ (view : JobsView). view.kept) c.self.view_is in
    let here = c.index.ensures ∙ ap (λ (xs : Kept). get_or xs place c.index.result.now) same in
    let below : place < length kept = omega (arith, ap length same) in
    let at = λ (d : _). at_place job kept place d below
    (ap (is_key job) (sym (get_or_read kept place _ below here d)) ∙ sym c.if-eq.ensures)
    (λ k less. c.loop-place.invariant k less d) in
    record { below = below; finds = λ d. (at d).0; leaves = (at c.index.result.now).1 }

pub returns-clause-none : goal.returns-clause-none
returns-clause-none g c =
    let same : c.self.inside.kept.items ≡ c.args.self.now.kept = ap (λ (view : JobsView). view.kept) c.self.view_is in
    (at_none c.args.job c.args.self.now.kept (λ k less. c.loop-place.invariant k (omega (arith, ap length same)))).0

pub returns-clause-others : goal.returns-clause-others
returns-clause-others g c =
    let same : c.self.inside.kept.items ≡ c.args.self.now.kept = ap (λ (view : JobsView). view.kept) c.self.view_is in
    ap (λ (kept : Kept). record c.args.self.now { kept = kept })
    (at_none c.args.job c.args.self.now.kept (λ k less. c.loop-place.invariant k (omega (arith, ap length same)))).1
