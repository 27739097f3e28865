-- What is returned of a start that was waited for, by what its journal names.
use Rattle.std.specs.Prelude.{ℕ, ◌≡◌, ◌⊎◌, Bool, List, All, map, Option, String}
use Rattle.std.specs.declared.alloc.Global.{Global}
use Rattle.duct_system.specs.Child.{IsUnasked}
use Rattle.duct_system.specs.EntryView.{EntryView}
use Rattle.duct_system.specs.declared.error.Error.{Error}
use Rattle.duct_status.specs.ShapeView.{shape_view}
use Rattle.duct_start.specs.Running.{MadeReader, RunningView}
use Rattle.duct_start.specs.ShapeOfTree.{shape_of_tree}
use Rattle.duct_start.specs.TreeView.{TreeView}
use Rattle.duct_system.specs.SystemViews.{SystemViews}
use Rattle.duct_running.specs.NumbersView.{numbers_of}
use Rattle.duct_running.specs.Ordered.{IsUnordered}
use Rattle.duct_running.specs.Stored.{Bytes}
use Rattle.duct_handle.specs.Started.{AreNumbers}
use Rattle.duct_handle.specs.ReadsText.{HasNoText, HasText, IsFault}

module _ {S E C F D V W : Type 0} (views : SystemViews S E C F D V W) where
  -- children and workers of a tree, by the entries of its start: it has the tree's shape, each of
  -- them has its number in its place, and no child has an order. These truth values say whether
  -- stdout and stderr have a capture worker
  pub record RanTree {T H : Type 0} (tree : TreeView T H) (output error : Bool)
      (added : List EntryView) (waited : RunningView C F D) : Type 0 where
    pub shape_is : shape_view waited.shape ≡ shape_of_tree tree
    pub numbers_are : AreNumbers output error added (numbers_of views waited)
    pub unordered : IsUnordered views waited

module _ {S E C F D : Type 0} (views : SystemViews S E C F D (Unit {0}) Bytes)
    {R : Type 0} (may : ℕ → R → Type 0) (remaining : R → Option (List ℕ)) where
  -- the text is that of all bytes of the reader that the entries name
  abbrev pub ReadsBy : List EntryView → String Global → RunningView C F D → Type 0
  ReadsBy added text waited =
      (reader : R) × MadeReader may added reader × HasText views (remaining reader) text waited

  -- this is the reader that the entries name; it failed with a fault, and no child was polled, or
  -- there is no text of its bytes
  abbrev pub ReadStopsBy : List EntryView → Error → RunningView C F D → Type 0
  ReadStopsBy added e waited =
      (reader : R) × MadeReader may added reader
      × ((IsFault e × All (λ c. IsUnasked (views.child c)) waited.children)
      ⊎ HasNoText views (remaining reader) e waited)
