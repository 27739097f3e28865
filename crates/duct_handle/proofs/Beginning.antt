-- The numbers of what runs after a start are those in the journal.
use Rattle.std.proofs.Common.{◌≡◌, refl, ap, ◌∙◌, ℕ, Bool, List, [], ◌∷◌, ◌++◌, is_some, map, Some, None, option_map, option_to_list, Option}
use Rattle.duct_handle.proofs.Common.{ChildView, shape_view, IsRunning, RunningView, NumbersView, numbers_in, HandleView}
use Rattle.duct_system.specs.EntryView.{EntryView}
use Rattle.duct_system.specs.Job.{JobView, unpolled_job}
use Rattle.duct_system.specs.Started.{feeds_in, drains_in}
use Rattle.duct_start.specs.TreeView.{TreeView}
use Rattle.duct_handle.specs.Started.{AreIds, AreNumbers, IsHandle}

twice : {X Y Z : Type 0} (f : X → Y) (g : Y → Z) (xs : List X)
    → map g (map f xs) ≡ map (λ x. g (f x)) xs
twice f g [] = refl
twice f g (x ∷ xs) = ap (λ zs. g (f x) ∷ zs) (twice f g xs)

numbers_back : (W : Type 0) (numbers : List ℕ)
    → map (λ (j : JobView W). j.number) (map (λ number. unpolled_job number) numbers) ≡ numbers
numbers_back W [] = refl
numbers_back W (n ∷ numbers) = ap (λ ns. n ∷ ns) (numbers_back W numbers)

listed : {X Y Z : Type 0} (f : X → Y) (g : Y → Z) (one other : Option X) →
    option_to_list (option_map g (option_map f one)) ++ option_to_list (option_map g (option_map f other)) ≡ map g (map f (option_to_list one ++ option_to_list other))
listed f g None None = refl
listed f g None (Some y) = refl
listed f g (Some x) None = refl
listed f g (Some x) (Some y) = refl

there : {X Y Z : Type 0} (f : X → Y) (g : Y → Z) (o : Option X)
    → is_some (option_map g (option_map f o)) ≡ is_some o
there f g None = refl
there f g (Some x) = refl

-- the numbers of what runs are those that were added to the journal
pub are_numbers : {E H C F D V W : Type 0} (child : C → ChildView) (feed : F → JobView V)
    (drain : D → JobView W) (tree : TreeView E H) (output error : Bool)
    (added : List EntryView) (running : RunningView C F D) (numbers : NumbersView) → IsRunning child feed drain tree output error added running
    → numbers ≡ numbers_in child feed drain running → AreNumbers output error added numbers
are_numbers child feed drain tree output error added running numbers runs same = record {
  children_are = ap (λ n. n.children) same ∙ twice child (λ c. c.number) running.children ∙ runs.children_are;
  feeds_are = ap (λ n. n.feeds) same ∙ ap (λ js. map (λ j. j.number) js) runs.feeds_are ∙ numbers_back _ (feeds_in added);
  drains_are = (λ i. option_to_list (same i).output ++ option_to_list (same i).error)
      ∙ listed drain (λ j. j.number) running.output running.error ∙ ap (λ js. map (λ j. j.number) js) runs.drains_are ∙ numbers_back _ (drains_in added);
  output_is = ap (λ n. is_some n.output) same ∙ there drain (λ j. j.number) running.output ∙ runs.output_is;
  error_is = ap (λ n. is_some n.error) same ∙ there drain (λ j. j.number) running.error ∙ runs.error_is;
}

-- a handle of what runs keeps those numbers
pub is_handle : {E H C F D V W : Type 0} (child : C → ChildView) (feed : F → JobView V)
    (drain : D → JobView W) (tree : TreeView E H) (output error : Bool)
    (added : List EntryView) (running : RunningView C F D) (handle : HandleView) → IsRunning child feed drain tree output error added running
    → shape_view handle.shape ≡ shape_view running.shape
    → handle.numbers ≡ numbers_in child feed drain running → IsHandle tree output error added handle
is_handle child feed drain tree output error added running handle runs shape numbers = record {
  shape_is = shape ∙ runs.shape_is;
  numbers_are = are_numbers child feed drain tree output error added running handle.numbers runs numbers;
}

-- the ids of what runs are those of children with the numbers in the journal
pub are_ids : {E H C F D V W : Type 0} (child : C → ChildView) (feed : F → JobView V)
    (drain : D → JobView W) (tree : TreeView E H) (output error : Bool)
    (added : List EntryView) (running : RunningView C F D) (ids : List ℕ) → IsRunning child feed drain tree output error added running
    → ids ≡ map (λ c. c.process) (map child running.children) → AreIds child added ids
are_ids child feed drain tree output error added running ids runs same =
    (running.children, runs.children_are, same ∙ twice child (λ c. c.process) running.children)
