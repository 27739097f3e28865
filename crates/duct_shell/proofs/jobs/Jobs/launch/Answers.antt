use Rattle.std.proofs.Common.{◌≡◌, ◌∙◌, ◌+◌, ◌++◌, ◌∷◌, [], ap, refl, ℕ, List, Option}
use Rattle.std.specs.Prelude.{slice_get, unwrap_or}
use Rattle.duct_shell.specs.Jobs.{JobsView, Kept, find_in}
use Rattle.duct_shell.specs.declared.jobs.Job.{Job}
use Rattle.duct_shell.proofs.Keys.{counted_push, find-push}
use Rattle.duct_shell.proofs.jobs.Jobs.launch.Goals as goal

-- the new key, and the handles with it
abbrev job_of : (g : _) → goal.After-push_reserved g → Job
job_of g c = record { count = c.self.inside.launched; process = c.unwrap_or.result }

pushed : (g : _) (c : goal.After-push_reserved g)
    → c.push_reserved.new.self.items ≡ c.self.inside.kept.items ++ (job_of g c, c.in_ok-handle.handle) ∷ []
pushed g c = c.push_reserved.ensures.items
    ∙ ap (λ (kept : Kept). kept ++ (job_of g c, c.in_ok-handle.handle) ∷ []) c.in_ok-reserve.ensures.items

pub invariant_of-self-2 : goal.invariant_of-self-2
invariant_of-self-2 g c = rw (c.in-Some.ensures.1, pushed g c)
    (counted_push c.self.inside.kept.items (job_of g c, c.in_ok-handle.handle) c.self.inside.launched c.self.invariant refl)

pub returns : goal.returns
returns g c = (
  c.in_ok-handle.handle,
  c.in_ok-handle.ensures.launched,
  record {
    count = ap (λ (view : JobsView). view.launched) c.self.view_is;
    process = c.unwrap_or.ensures ∙ ap (λ (id : Option ℕ). unwrap_or id 0)
        (c.copied.ensures ∙ c.first.ensures.value ∙ ap (λ (ids : List ℕ). slice_get ids 0) c.pids.ensures);
    kept = pushed g c ∙ ap (λ (view : JobsView). view.kept ++ (job_of g c, c.in_ok-handle.handle) ∷ []) c.self.view_is;
    launched = c.in-Some.ensures.1 ∙ ap (λ (view : JobsView). view.launched + 1) c.self.view_is;
    found = ap (find_in (job_of g c)) (pushed g c)
        ∙ find-push (job_of g c) c.self.inside.kept.items c.in_ok-handle.handle c.self.inside.launched c.self.invariant refl;
  },
)
