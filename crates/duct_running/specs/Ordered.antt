-- An order to each command of a start that has not ended or leads a group, and the leftmost fault of
-- the results.
use Rattle.std.specs.Prelude.{ℕ, Bool, List, [], ◌∷◌, ◌≡◌, All, MatchBool, MatchOption, map, Ok, Err, Result}
use Rattle.duct_system.specs.Child.{ChildView, Obeyed, OrdersChild}
use Rattle.duct_system.specs.declared.error.Error.{Error}
use Rattle.duct_system.specs.declared.error.Error.TheVariants as error
use Rattle.duct_system.specs.declared.system.Order.{Order}
use Rattle.duct_start.specs.Running.{RunningView}
use Rattle.duct_system.specs.SystemViews.{SystemViews}
use Rattle.duct_running.specs.Polled.{ChangedAt}

-- a child was given an order; or it had ended and leads no group, the result is Ok and the child is
-- as before
abbrev pub OrderedIfDue : (ℕ → Order → Bool → Obeyed → Type 0) → Order → ChildView → Obeyed
    → ChildView → Type 0
OrderedIfDue may order before answer after =
    MatchOption before.ending (OrdersChild may order before answer after)
    (λ status. MatchBool before.leads (OrdersChild may order before answer after)
    ((answer ≡ Ok tt) × (after ≡ before)))

-- the same of each child, with one result for each
abbrev pub AllOrdered : (ℕ → Order → Bool → Obeyed → Type 0) → Order → List ChildView
    → List Obeyed → List ChildView → Type 0
AllOrdered may order [] [] [] = Unit {0}
AllOrdered may order [] [] (after ∷ afters) = ⊥
AllOrdered may order [] (answer ∷ answers) afters = ⊥
AllOrdered may order (before ∷ befores) [] afters = ⊥
AllOrdered may order (before ∷ befores) (answer ∷ answers) [] = ⊥
AllOrdered may order (before ∷ befores) (answer ∷ answers) (after ∷ afters) =
    OrderedIfDue may order before answer after × AllOrdered may order befores answers afters

-- the leftmost fault, or Ok where there is none
abbrev pub leftmost : List Obeyed → Obeyed
leftmost [] = Ok tt
leftmost (Ok done ∷ answers) = leftmost answers
leftmost (Err fault ∷ answers) = Err fault

-- the fault of an order is the error of the result, or both are Ok
abbrev pub OrderAnswers : Obeyed → Result (Unit {0}) Error → Type 0
OrderAnswers (Ok done) result = result ≡ Ok tt
OrderAnswers (Err fault) result = result ≡ Err (error.System fault)

-- each child was given the order if it had not ended or leads a group, and the result is the leftmost
-- fault
abbrev pub IsOrdered : (ℕ → Order → Bool → Obeyed → Type 0) → Order → List ChildView
    → Result (Unit {0}) Error → List ChildView → Type 0
IsOrdered may order befores result afters =
    (answers : List Obeyed) × AllOrdered may order befores answers afters
    × OrderAnswers (leftmost answers) result

module _ {S E C F D V W : Type 0} (views : SystemViews S E C F D V W) where
  -- no child of a running expression was given an order
  abbrev pub IsUnordered : RunningView C F D → Type 0
  IsUnordered running = All (λ c. (views.child c).orders ≡ []) running.children

  -- the child at this place was given the order, with this result; or it had ended and leads no
  -- group, the result is Ok and the child is as before
  abbrev pub ChildOrderedAt : Order → ℕ → RunningView C F D → Obeyed → RunningView C F D → Type 0
  ChildOrderedAt order at before answer after =
      ChangedAt (λ child. OrderedIfDue views.may_obey order child answer) at
      (map views.child before.children) (map views.child after.children)

  -- each child of a running expression was given the order if it had not ended or leads a group, and
  -- the result is the leftmost fault
  abbrev pub ChildrenOrdered : Order → RunningView C F D → Result (Unit {0}) Error
      → RunningView C F D → Type 0
  ChildrenOrdered order before result after =
      IsOrdered views.may_obey order (map views.child before.children) result
      (map views.child after.children)
