-- An order to all commands of a handle: each one that has ended and leads no group returns Ok, each
-- other one what it may return.
use Rattle.std.specs.Prelude.{ℕ, Bool, true, false, List, [], ◌∷◌, All, IfSome, MatchBool, MatchOption, map, Ok, Some, None}
use Rattle.std.specs.List.{AllZip}
use Rattle.std.proofs.Common.{◌≡◌, subst, inl, inr, Option, Result}
use Rattle.std.proofs.lemmas.List.Elements.{All-head, All-tail}
use Rattle.duct_handle.proofs.Common.{∥∥₁_map, ChildView, Obeyed, OrdersChild, Error, SystemViews, ChildAnswersAllowed, IsObeyed, CommandAnswers}
use Rattle.duct_system.specs.declared.system.ExitStatus.{ExitStatus}
use Rattle.duct_system.specs.declared.system.Order.{Order}
use Rattle.duct_running.specs.Ordered.{AllOrdered, IsOrdered}

module _ {S E C F D V W : Type 0} (views : SystemViews S E C F D V W) (order : Order) where
  -- one command
  given_by : (before after : ChildView) (heard : Obeyed) → OrdersChild views.may_obey order before heard after
      → CommandAnswers views order before.number heard
  given_by before after heard (inl (may, noted)) = inr (inl may)
  given_by before after heard (inr (may, unasked, none)) = inr (inr (may, none))

  obeyed_by : (before after : ChildView) (heard : Obeyed) (ending : Option ExitStatus) (leads : Bool)
      → IfSome ending (λ status. views.may_answer before.number (Ok (Some status)))
      → MatchOption ending (OrdersChild views.may_obey order before heard after) (λ status. MatchBool leads (OrdersChild views.may_obey order before heard after) ((heard ≡ Ok tt) × (after ≡ before)))
      → CommandAnswers views order before.number heard
  obeyed_by before after heard (Some status) true told ordered = given_by before after heard ordered
  obeyed_by before after heard (Some status) false told ordered = inl (status, told, ordered.0)
  obeyed_by before after heard None leads told ordered = given_by before after heard ordered

  all_obeyed : (befores : List ChildView) (answers : List Obeyed) (afters : List ChildView)
      → AllOrdered views.may_obey order befores answers afters → All (ChildAnswersAllowed views.may_answer) befores
      → AllZip (CommandAnswers views order) (map (λ (c : ChildView). c.number) befores) answers
  all_obeyed [] [] [] ordered told = tt
  all_obeyed [] [] (after ∷ afters) ordered told = absurd ordered
  all_obeyed [] (heard ∷ answers) afters ordered told = absurd ordered
  all_obeyed (before ∷ befores) [] afters ordered told = absurd ordered
  all_obeyed (before ∷ befores) (heard ∷ answers) [] ordered told = absurd ordered
  all_obeyed (before ∷ befores) (heard ∷ answers) (after ∷ afters) ordered told = (
    obeyed_by before after heard before.ending before.leads (All-head (ChildAnswersAllowed views.may_answer) before befores told).ended ordered.0,
    all_obeyed befores answers afters ordered.1 (All-tail (ChildAnswersAllowed views.may_answer) before befores told),
  )

  -- all commands, by the numbers that the handle keeps
  pub order_obeyed : (befores afters : List ChildView) (numbers : List ℕ)
      (result : Result (Unit {0}) Error) → IsOrdered views.may_obey order befores result afters
      → ∥ All (ChildAnswersAllowed views.may_answer) befores ∥₁ → map (λ (c : ChildView). c.number) befores ≡ numbers
      → IsObeyed views order numbers result
  order_obeyed befores afters numbers result ordered told are =
      subst (λ (ns : List ℕ). IsObeyed views order ns result) are
      (inr (∥∥₁_map told (λ t. (ordered.0, all_obeyed befores ordered.0 afters ordered.1 t, ordered.2))))
