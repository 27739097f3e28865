-- What contracts see of a child, and how a poll and an order change it.
use Rattle.std.specs.Prelude.{ℕ, Bool, true, false, ◌+◌, ◌-◌, ◌^◌, min, List, [], ◌∷◌, ◌++◌, ◌≡◌, ◌⊎◌, Ok, Err, Some, None, IfSome, Option, Result}
use Rattle.duct_system.specs.declared.system.Fault.{Fault}
use Rattle.duct_system.specs.declared.system.Kind.TheVariants.{OutOfMemory}
use Rattle.duct_system.specs.declared.system.ExitStatus.{ExitStatus}
use Rattle.duct_system.specs.declared.system.Order.{Order}

-- what a poll of a child returns: `None` while it runs, an exit status, or a fault
abbrev pub Answer : Type 0
Answer = Result (Option ExitStatus) Fault

-- what an order to a child returns
abbrev pub Obeyed : Type 0
Obeyed = Result (Unit {0}) Fault

-- its number, what `id` and `leads` return, how often it was polled (at most the greatest u64), the result of
-- the last poll, its exit status once a poll has returned one, and the orders that it was given,
-- with their results
pub record ChildView : Type 0 where
  pub number : ℕ
  pub process : ℕ
  pub leads : Bool
  pub polls : ℕ
  pub last : Option Answer
  pub ending : Option ExitStatus
  pub orders : List (Order × Obeyed)

-- a count plus one, at most the greatest u64
abbrev pub one_more : ℕ → ℕ
one_more n = min (n + 1) (2 ^ 64 - 1)

-- the exit status of a child after a poll with this result: the first one stays
abbrev pub ending_after : Option ExitStatus → Answer → Option ExitStatus
ending_after (Some ending) answer = Some ending
ending_after None (Ok found) = found
ending_after None (Err fault) = None

-- a child after a poll with this result
abbrev pub child_after : Answer → ChildView → ChildView
child_after answer child = record child {
  polls = one_more child.polls;
  last = Some answer;
  ending = ending_after child.ending answer;
}

-- a child was polled: it may return this result, it returns its exit status again if it has one,
-- and nothing else of it has changed
pub record PollsChild (may : ℕ → Answer → Type 0) (before : ChildView) (answer : Answer)
    (after : ChildView) : Type 0 where
  pub told : may before.number answer
  pub again : IfSome before.ending (λ status. answer ≡ Ok (Some status))
  pub after_is : after ≡ child_after answer before

-- a child after an order that was noted with its result
abbrev pub child_ordered : Order → Obeyed → ChildView → ChildView
child_ordered order answer child = record child { orders = child.orders ++ (order, answer) ∷ [] }

-- a child was given an order: it was noted with its result, which the child may return for an order
-- that is noted; or it was not noted, and the result is OutOfMemory, which the child may return for
-- an order that isn't noted; nothing else has changed
abbrev pub OrdersChild : (ℕ → Order → Bool → Obeyed → Type 0) → Order → ChildView → Obeyed
    → ChildView → Type 0
OrdersChild may order before answer after =
    (may before.number order true answer × (after ≡ child_ordered order answer before))
    ⊎ (may before.number order false answer × (after ≡ before)
    × (answer ≡ Err (record { kind = OutOfMemory })))

-- a child that was never polled or given an order
pub record IsUnasked (child : ChildView) : Type 0 where
  pub unpolled : child.polls ≡ 0
  pub silent : child.last ≡ None
  pub alive : child.ending ≡ None
  pub unordered : child.orders ≡ []
