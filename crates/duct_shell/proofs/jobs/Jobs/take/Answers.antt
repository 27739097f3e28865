use Rattle.std.proofs.Common.{◌≡◌, ◌∙◌, ℕ, Some, arith, get_or, length, sym, ap, subst, Option}
use Rattle.std.specs.Prelude.{remove}
use Rattle.duct_handle.specs.HandleView.{HandleView}
use Rattle.duct_shell.specs.Jobs.{AreCounted, JobsView, Kept, find_in, spend, without}
use Rattle.duct_shell.specs.declared.jobs.Job.{Job}
use Rattle.duct_shell.proofs.Keys.{counted_without, find-without}
use Rattle.duct_shell.proofs.jobs.Jobs.take.Goals as goal

-- what is left is what is without the key
left : (g : _) (c : goal.After-remove-handle g) → without c.args.job c.self.inside.kept.items ≡ c.remove-handle.new.self.items
left g c =
    let same : c.self.inside.kept.items ≡ c.args.self.now.kept = ap (λ (view : JobsView). view.kept) c.self.view_is in
    ap (without c.args.job) same ∙ c.in_ok-place.ensures.found.leaves
    ∙ ap (λ (xs : Kept). remove xs c.in_ok-place.place) (sym same) ∙ sym {A = Kept} c.remove-handle.ensures.items

pub invariant_of-self : goal.invariant_of-self
invariant_of-self g c =
    subst (λ (kept : Kept). AreCounted c.self.inside.launched kept) (left g c)
    (counted_without c.args.job c.self.inside.kept.items c.self.inside.launched c.self.invariant)

pub returns-clause-gone : goal.returns-clause-gone
returns-clause-gone g c =
    ap (find_in c.args.job) (sym (left g c)) ∙ find-without c.args.job c.self.inside.kept.items c.self.inside.launched c.self.invariant

-- the view of jobs with these handles
abbrev with_kept : ℕ → Kept → JobsView
with_kept launched kept = record { launched = launched; kept = kept }

pub remove-handle-requires : goal.remove-handle-requires
remove-handle-requires g c =
    let same : c.self.inside.kept.items ≡ c.args.self.now.kept = ap (λ (view : JobsView). view.kept) c.self.view_is in
    omega (arith, ap length same, c.in_ok-place.ensures.found.below)

pub returns-clause-handle : goal.returns-clause-handle
returns-clause-handle g c =
    let same : c.self.inside.kept.items ≡ c.args.self.now.kept = ap (λ (view : JobsView). view.kept) c.self.view_is in
    let taken = c.remove-handle.result in
    ap (λ (pair : Job × HandleView). Some pair.1)
    (c.remove-handle.ensures.value ∙ ap (λ (xs : Kept). get_or xs c.in_ok-place.place taken) same)
    ∙ sym {A = Option HandleView} (c.in_ok-place.ensures.found.finds taken)

pub returns-clause-spent : goal.returns-clause-spent
returns-clause-spent g c =
    ap (with_kept c.self.inside.launched) (sym {A = Kept} (left g c)) ∙ ap (spend c.args.job) c.self.view_is
