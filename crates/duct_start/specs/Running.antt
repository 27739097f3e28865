-- What contracts see of a running start, and which children and workers of the journal it holds.
use Rattle.std.specs.Prelude.{Bool, List, ◌++◌, ◌≡◌, map, is_some, All, ℕ, [], ◌∷◌, option_to_list, Option}
use Rattle.duct_system.specs.Child.{ChildView, IsUnasked}
use Rattle.duct_system.specs.Job.{JobView, unpolled_job}
use Rattle.duct_system.specs.EntryView.{EntryView, Reader}
use Rattle.duct_status.specs.ShapeView.{shape_view}
use Rattle.duct_system.specs.Started.{children_in, feeds_in, drains_in}
use Rattle.duct_status.specs.declared.status.Shape.{Shape}
use Rattle.duct_start.specs.ShapeOfTree.{shape_of_tree}
use Rattle.duct_start.specs.TreeView.{TreeView}

-- its shape, its children from left to right, its feed workers in tree order, and the drain workers
-- of stdout and of stderr
pub record RunningView (C F D : Type 0) : Type 0 where
  pub shape : Shape
  pub children : List C
  pub feeds : List F
  pub output : Option D
  pub error : Option D

-- it has the shape of this tree, and the children and workers that were added to the journal, by
-- their numbers and in order, none polled or given an order yet; `output` and `error` tell whether
-- stdout and stderr have a drain worker
pub record IsRunning {E H C F D V W : Type 0} (child : C → ChildView) (feed : F → JobView V)
    (drain : D → JobView W)
    (tree : TreeView E H) (output error : Bool) (added : List EntryView)
    (running : RunningView C F D) : Type 0 where
  pub shape_is : shape_view running.shape ≡ shape_of_tree tree
  pub children_are : map (λ c. (child c).number) running.children ≡ children_in added
  pub unasked : All (λ c. IsUnasked (child c)) running.children
  pub feeds_are : map feed running.feeds ≡ map (λ number. unpolled_job number) (feeds_in added)
  pub drains_are : map drain (option_to_list running.output ++ option_to_list running.error)
      ≡ map (λ number. unpolled_job number) (drains_in added)
  pub output_is : is_some running.output ≡ output
  pub error_is : is_some running.error ≡ error

-- the last of these entries made this reader
abbrev pub MadeReader : {R : Type 0} → (ℕ → R → Type 0) → List EntryView → R → Type 0
MadeReader may entries reader =
    (front : List EntryView) × (number : ℕ) × (entries ≡ front ++ Reader number ∷ [])
    × may number reader
