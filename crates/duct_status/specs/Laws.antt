-- The laws of precedence, for any tree of commands that have ended.
use Rattle.std.specs.Prelude.{◌≡◌, ◌⊎◌, ◌↔◌, true}
use Rattle.duct_status.specs.Winner.{is_failure, Beats, IsWinner}
use Rattle.duct_status.specs.Endings.{Endings, Way, status_at, unchecked}

-- `Beats` is a strict total order on the commands
pub record IsStrictTotalOrder (t : Endings) : Type 0 where
  pub irreflexive : (one : Way t) → ¬ (Beats t one one)
  pub transitive : (one two three : Way t) → Beats t one two → Beats t two three → Beats t one three
  pub total : (one other : Way t) → (one ≡ other) ⊎ Beats t one other ⊎ Beats t other one

-- exactly one command beats every other command
abbrev pub ExactlyOneWins : Endings → Type 0
ExactlyOneWins t =
    (winner : Way t) × IsWinner t winner × ((other : Way t) → IsWinner t other → other ≡ winner)

-- the winning command failed if and only if some command failed
abbrev pub FailsWhereSomeFails : Endings → Type 0
FailsWhereSomeFails t =
    (winner : Way t) → IsWinner t winner
    → (is_failure t winner ≡ true) ↔ ((way : Way t) × (is_failure t way ≡ true))

-- unchecked changes no exit status and no winning command of what it wraps
abbrev pub UncheckedKeeps : Endings → Type 0
UncheckedKeeps t =
    (way : Way t)
    → (status_at (unchecked t) way ≡ status_at t way)
    × (IsWinner (unchecked t) way ↔ IsWinner t way)
