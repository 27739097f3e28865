-- An order whose result comes from a list has a result that the interface allows.
use Rattle.std.proofs.Common.{inl, inr}
use Rattle.duct_system.specs.Child.{ChildView, Obeyed, OrdersChild}
use Rattle.duct_system.specs.declared.system.Order.{Order}
use Rattle.duct_script.specs.Told.{Obeys}
use Rattle.duct_script.specs.declared.child.ChildScript.{ChildScript}

pub orders_child : (script : ChildScript) (order : Order) (before : ChildView) (answer : Obeyed) (after : ChildView)
    → OrdersChild (Obeys script) order before answer after → OrdersChild (λ _ _ _ _. Unit {0}) order before answer after
orders_child script order before answer after (inl noted) = inl (tt, noted.1)
orders_child script order before answer after (inr refused) = inr (tt, refused.1, refused.2)
