-- What a handle keeps of the journal of its start.
use Rattle.std.specs.Prelude.{ℕ, Bool, List, ◌++◌, ◌≡◌, is_some, map, option_to_list}
use Rattle.duct_system.specs.Child.{ChildView}
use Rattle.duct_system.specs.EntryView.{EntryView}
use Rattle.duct_system.specs.Started.{children_in, feeds_in, drains_in}
use Rattle.duct_status.specs.ShapeView.{shape_view}
use Rattle.duct_start.specs.ShapeOfTree.{shape_of_tree}
use Rattle.duct_start.specs.TreeView.{TreeView}
use Rattle.duct_running.specs.NumbersView.{NumbersView}
use Rattle.duct_handle.specs.HandleView.{HandleView}

-- the numbers of the children and the workers that were added to the journal, each in its place;
-- these truth values say whether stdout and stderr have a capture worker
pub record AreNumbers (output error : Bool) (added : List EntryView) (numbers : NumbersView)
    : Type 0 where
  pub children_are : numbers.children ≡ children_in added
  pub feeds_are : numbers.feeds ≡ feeds_in added
  pub drains_are : option_to_list numbers.output ++ option_to_list numbers.error ≡ drains_in added
  pub output_is : is_some numbers.output ≡ output
  pub error_is : is_some numbers.error ≡ error

-- a handle with the shape of this tree and with those numbers
pub record IsHandle {E H : Type 0} (tree : TreeView E H) (output error : Bool)
    (added : List EntryView) (handle : HandleView) : Type 0 where
  pub shape_is : shape_view handle.shape ≡ shape_of_tree tree
  pub numbers_are : AreNumbers output error added handle.numbers

-- there are children with the numbers of those that were added to the journal, and these are their
-- process ids, each in its place
abbrev pub AreIds : {C : Type 0} → (C → ChildView) → List EntryView → List ℕ → Type 0
AreIds {C} child added ids =
    (children : List C) × (map (λ c. (child c).number) children ≡ children_in added)
    × (ids ≡ map (λ c. (child c).process) children)
