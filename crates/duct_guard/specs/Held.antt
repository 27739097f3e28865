-- What a guard holds, by its journal: how many ends are open, and which children were started and
-- may still run.
use Rattle.std.specs.Prelude.{ℕ, Bool, true, ◌+◌, ◌-◌, ◌≤◌, ◌≡◌, List, [], ◌∷◌, ◌++◌, length, min, nat_le, Ok, Some, if◌then◌else◌}
use Rattle.std.specs.List.Sorted.{IsPermutation}
use Rattle.duct_system.specs.Child.{Answer}
use Rattle.duct_system.specs.EntryView.{EntryView, Pipe, OpenRead, Create, Duplicate, Parent, Spawn}
use Rattle.duct_system.specs.Ledger.{opened_by, spent_by}
use Rattle.duct_system.specs.Started.{child_by, children_in}
use Rattle.duct_system.specs.declared.system.ExitStatus.{ExitStatus}
use Rattle.duct_guard.specs.declared.counts.Counts.{Counts}
use Rattle.duct_guard.specs.declared.counts.Held.{Held}

-- nothing; the first number is greater than that of any end
abbrev pub nothing_held : Held
nothing_held = record { ends = 0; children = 0; first = 18446744073709551615 }

-- how many ends are open, and how many children were started
abbrev pub counts_of : Held → Counts
counts_of held = record { ends = held.ends; children = held.children }

-- what is held after requests returned these ends
abbrev pub with_ends : Held → List ℕ → Held
with_ends held [] = held
with_ends held (number ∷ numbers) =
    with_ends (record held { ends = held.ends + 1; first = min held.first number }) numbers

-- what is held after a request took an end: one with a lower number than all that were returned
-- came by another way, and doesn't count
abbrev pub without_end : Held → ℕ → Held
without_end held number =
    if nat_le held.first number then record held { ends = held.ends - 1 } else held

abbrev pub without_ends : Held → List ℕ → Held
without_ends held [] = held
without_ends held (number ∷ numbers) = without_ends (without_end held number) numbers

-- what is held after so many children were started
abbrev pub with_children : Held → ℕ → Held
with_children held count = record held { children = held.children + count }

-- how many children the request of an entry started
abbrev pub started_by : EntryView → ℕ
started_by entry = length (child_by entry)

-- what is held after one more entry: ends that its request returned are open, and those of them
-- that it took are not any more; a child counts also after it has ended
abbrev pub with_entry : Held → EntryView → Held
with_entry held entry =
    with_children (without_ends (with_ends held (opened_by entry)) (spent_by entry))
    (started_by entry)

-- what is held after some more entries
abbrev pub held_after : Held → List EntryView → Held
held_after held [] = held
held_after held (entry ∷ entries) = held_after (with_entry held entry) entries

-- whether the request of an entry keeps within these limits, where this is held
abbrev pub is_within : Counts → Held → EntryView → Bool
is_within limits held (Pipe answer) = nat_le (held.ends + 2) limits.ends
is_within limits held (OpenRead path answer) = nat_le (held.ends + 1) limits.ends
is_within limits held (Create path answer) = nat_le (held.ends + 1) limits.ends
is_within limits held (Duplicate lent answer) = nat_le (held.ends + 1) limits.ends
is_within limits held (Parent side answer) = nat_le (held.ends + 1) limits.ends
is_within limits held (Spawn spec io answer) = nat_le (held.children + 1) limits.children
is_within limits held _ = true

-- no more than these limits is held
pub record Fits (limits held : Counts) : Type 0 where
  pub ends : held.ends ≤ limits.ends
  pub children : held.children ≤ limits.children

-- no more is held, neither before nor after any of these entries
abbrev pub AlwaysFits : Counts → Held → List EntryView → Type 0
AlwaysFits limits held [] = Fits limits (counts_of held)
AlwaysFits limits held (entry ∷ entries) =
    Fits limits (counts_of held) × AlwaysFits limits (with_entry held entry) entries

-- what was held when a journal was cleared last, by how many entries were ever added to it, and
-- those that it has: if it has them all, nothing
pub record IsBegun (earlier : Held) (added : ℕ) (entries : List EntryView) : Type 0 where
  pub long : length entries ≤ added
  pub nothing : added ≡ length entries → earlier ≡ nothing_held

-- a poll of the child with this number may have returned an exit status
abbrev pub HasEnded : (ℕ → Answer → Type 0) → ℕ → Type 0
HasEnded may_answer number = (status : ExitStatus) × ∥ may_answer number (Ok (Some status)) ∥₁

-- of each of these children
abbrev pub HaveEnded : (ℕ → Answer → Type 0) → List ℕ → Type 0
HaveEnded may_answer [] = Unit {0}
HaveEnded may_answer (number ∷ numbers) = HasEnded may_answer number × HaveEnded may_answer numbers

-- of some children, all are left but those that have ended
pub record Leaves (may_answer : ℕ → Answer → Type 0) (children left : List ℕ) : Type 0 where
  pub ended : List ℕ
  pub have_ended : HaveEnded may_answer ended
  pub parted : IsPermutation children (left ++ ended)

-- the running children before and after one more was started, of which there were fewer than this
-- limit: those that have ended were left out before
pub record Joins (may_answer : ℕ → Answer → Type 0) (limit : ℕ) (old : List ℕ) (number : ℕ)
    (new : List ℕ) : Type 0 where
  pub kept : List ℕ
  pub leaves : Leaves may_answer old kept
  pub few : length kept + 1 ≤ limit
  pub new_is : new ≡ kept ++ number ∷ []

-- the running children of a guard, of which there are no more than this limit: all that were
-- started but those that have ended; so many were started before the journal was cleared last
pub record IsCrew (may_answer : ℕ → Answer → Type 0) (limit earlier : ℕ)
    (entries : List EntryView) (running : List ℕ) : Type 0 where
  pub before : List ℕ
  pub counted : length before ≡ earlier
  pub leaves : Leaves may_answer (before ++ children_in entries) running
  pub few : length running ≤ limit
