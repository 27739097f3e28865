-- The signals that a child of a host can be sent.
use Rattle.std.specs.Prelude.{◌≡◌, ℤ, Bool, true, false, pos, List, [], ◌∷◌, Contains, Err}
use Rattle.duct_system.specs.Child.{Obeyed}
use Rattle.duct_system.specs.declared.system.Kind.TheVariants.{InvalidInput}
use Rattle.duct_system.specs.declared.system.Order.{Order}
use Rattle.duct_system.specs.declared.system.Order.TheVariants.{Kill, Signal}

-- the numbers of the signals
abbrev pub signals : List ℤ
signals = pos 1 ∷ pos 2 ∷ pos 3 ∷ pos 6 ∷ pos 9 ∷ pos 14 ∷ pos 15 ∷ []

-- a signal that is none of them fails with InvalidInput; nothing more is promised of what the
-- machine returns
abbrev pub ObeysIfServed : Order → Obeyed → Type 0
ObeysIfServed Kill answer = Unit {0}
ObeysIfServed (Signal number) answer =
    (Contains signals number → ⊥) → answer ≡ Err (record { kind = InvalidInput })

-- the same for an order that was noted; one that was not noted was not given to the child
abbrev pub MayObey : Order → Bool → Obeyed → Type 0
MayObey order true answer = ObeysIfServed order answer
MayObey order false answer = Unit {0}
