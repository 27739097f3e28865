-- `Beats` is a strict total order, and the choice made pipe by pipe finds the command that beats
-- every other one.
use Rattle.std.proofs.Common.{◌≡◌, ℕ, ◌<◌, ◌≤◌, ◌⊎◌, min, Bool, true, false, not, ◌&&◌, ◌||◌, cond, refl, inl, inr, arith, ap, subst, sym}
use Rattle.duct_system.specs.Status.{is_success}
use Rattle.duct_status.specs.Endings.{Endings, ending, pipe, unchecked, Way, is_checked}
use Rattle.duct_status.specs.Winner.{level, LeftBeats, RightBeats, Beats, IsWinner, is_failure, takes_right, chosen}
use Rattle.duct_status.specs.Laws.{IsStrictTotalOrder, ExactlyOneWins, FailsWhereSomeFails, UncheckedKeeps}

-- the level of the command that beats is never the lower one
beats_level : (t : Endings) (v w : Way t) → Beats t v w → level t w ≤ level t v
beats_level (ending texts status) v w b = absurd b
beats_level (pipe l r) (inl v) (inl w) b = beats_level l v w b
beats_level (pipe l r) (inr v) (inr w) b = beats_level r v w b
beats_level (pipe l r) (inl v) (inr w) b = omega arith
beats_level (pipe l r) (inr v) (inl w) b = omega arith
beats_level (unchecked t) v w b = let h = beats_level t v w b in omega arith

irreflexive : (t : Endings) (v : Way t) → ¬ (Beats t v v)
irreflexive (ending texts status) v = λ b. b
irreflexive (pipe l r) (inl v) = irreflexive l v
irreflexive (pipe l r) (inr v) = irreflexive r v
irreflexive (unchecked t) v = irreflexive t v

across : (a b : ℕ) → LeftBeats a b ⊎ RightBeats b a
across a b = grind arith

across_back : (a b : ℕ) → RightBeats b a ⊎ LeftBeats a b
across_back a b = elim (across a b) [ inl h ↦ inr h | inr h ↦ inl h ]

total : (t : Endings) (v w : Way t) → (v ≡ w) ⊎ Beats t v w ⊎ Beats t w v
total (ending texts status) v w = inl refl
total (unchecked t) v w = total t v w
total (pipe l r) (inl v) (inl w) = elim (total l v w) [ inl e ↦ inl (ap inl e) | inr b ↦ inr b ]
total (pipe l r) (inr v) (inr w) = elim (total r v w) [ inl e ↦ inl (ap inr e) | inr b ↦ inr b ]
total (pipe l r) (inl v) (inr w) = inr (across (level l v) (level r w))
total (pipe l r) (inr v) (inl w) = inr (across_back (level l w) (level r v))

-- a strictly higher level beats
higher_beats : (t : Endings) (v w : Way t) → level t w < level t v → Beats t v w
higher_beats t v w h =
    elim (total t v w) [
      | inl e ↦ absurd (let P : Way t → Type 0 = λ x. level t x < level t v in let k : level t v < level t v = subst P (sym e) h in omega arith)
      | inr (inl b) ↦ b
      | inr (inr b) ↦ absurd (let k = beats_level t w v b in omega arith)
    ]

transitive : (t : Endings) (u v w : Way t) → Beats t u v → Beats t v w → Beats t u w
transitive (ending texts status) u v w b d = b
transitive (unchecked t) u v w b d = transitive t u v w b d
transitive (pipe l r) (inl u) (inl v) (inl w) b d = transitive l u v w b d
transitive (pipe l r) (inr u) (inr v) (inr w) b d = transitive r u v w b d
transitive (pipe l r) (inl u) (inr v) (inl w) b d = higher_beats l u w (omega arith)
transitive (pipe l r) (inr u) (inl v) (inr w) b d = higher_beats r u w (omega arith)
transitive (pipe l r) (inl u) (inl v) (inr w) b d = let h = beats_level l u v b in grind arith
transitive (pipe l r) (inl u) (inr v) (inr w) b d = let h = beats_level r v w d in grind arith
transitive (pipe l r) (inr u) (inr v) (inl w) b d = let h = beats_level r u v b in grind arith
transitive (pipe l r) (inr u) (inl v) (inl w) b d = let h = beats_level l v w d in grind arith

pub strict_total_order : (t : Endings) → IsStrictTotalOrder t
strict_total_order t = record { irreflexive = irreflexive t; transitive = transitive t; total = total t }

-- the level of a command by whether it failed and whether it is checked
abbrev level_by : Bool → Bool → ℕ
level_by false checked = 0
level_by true false = 1
level_by true true = 2

level_of_ending : (good : Bool) → cond good 0 2 ≡ level_by (not good) true
level_of_ending true = refl
level_of_ending false = refl

level_capped : (failed checked : Bool) (n : ℕ) → n ≡ level_by failed checked
    → min 1 n ≡ level_by failed false
level_capped false checked n is = omega arith
level_capped true false n is = omega arith
level_capped true true n is = omega arith

level_is : (t : Endings) (v : Way t) → level t v ≡ level_by (is_failure t v) (is_checked t v)
level_is (ending texts status) v = level_of_ending (is_success status)
level_is (pipe l r) (inl v) = level_is l v
level_is (pipe l r) (inr v) = level_is r v
level_is (unchecked t) v = level_capped (is_failure t v) (is_checked t v) (level t v) (level_is t v)

abbrev right_taken : Bool → Bool → Bool → Bool → Bool
right_taken fl cl fr cr = (fr && cr) || (not (fl && cl) && fr)

right_rule : (fl cl fr cr : Bool) → right_taken fl cl fr cr ≡ true
    → RightBeats (level_by fr cr) (level_by fl cl)
right_rule false cl true true h = inl (omega arith)
right_rule true false true true h = inl (omega arith)
right_rule true true true true h = inr (refl, omega arith)
right_rule false cl true false h = inl (omega arith)
right_rule true false true false h = inr (refl, omega arith)
right_rule true true true false h = cc
right_rule false cl false cr h = cc
right_rule true false false cr h = cc
right_rule true true false cr h = cc

left_rule : (fl cl fr cr : Bool) → right_taken fl cl fr cr ≡ false
    → LeftBeats (level_by fl cl) (level_by fr cr)
left_rule fl cl true true h = cc
left_rule false cl true false h = cc
left_rule true false true false h = cc
left_rule true true true false h = inl (omega arith)
left_rule false cl false cr h = inr (refl, refl)
left_rule true false false cr h = inl (omega arith)
left_rule true true false cr h = inl (omega arith)

right_beats : (l r : Endings) (v : Way l) (w : Way r) → takes_right l r v w ≡ true
    → RightBeats (level r w) (level l v)
right_beats l r v w h = rw (level_is r w, level_is l v) (right_rule (is_failure l v) (is_checked l v) (is_failure r w) (is_checked r w) h)

left_beats : (l r : Endings) (v : Way l) (w : Way r) → takes_right l r v w ≡ false
    → LeftBeats (level l v) (level r w)
left_beats l r v w h = rw (level_is r w, level_is l v) (left_rule (is_failure l v) (is_checked l v) (is_failure r w) (is_checked r w) h)

not_higher : (t : Endings) (v w : Way t) → (v ≡ w) ⊎ Beats t v w → level t w ≤ level t v
not_higher t v w (inr b) = beats_level t v w b
not_higher t v w (inl e) = let P : Way t → Type 0 = λ x. level t x ≤ level t v in let k : level t v ≤ level t v = omega arith in subst P e k

right_over : (c a b : ℕ) → c ≤ a → RightBeats b a → RightBeats b c
right_over c a b k h = grind arith

left_over : (c b a : ℕ) → c ≤ b → LeftBeats a b → LeftBeats a c
left_over c b a k h = grind arith

wins_at_pipe : (l r : Endings) → IsWinner l (chosen l) → IsWinner r (chosen r) → (b : Bool)
    → takes_right l r (chosen l) (chosen r) ≡ b
    → IsWinner (pipe l r) (cond {A = Way (pipe l r)} b (inr (chosen r)) (inl (chosen l)))
wins_at_pipe l r hl hr true is (inr w) = elim (hr w) [ inl e ↦ inl (ap inr e) | inr b ↦ inr b ]
wins_at_pipe l r hl hr false is (inl w) = elim (hl w) [ inl e ↦ inl (ap inl e) | inr b ↦ inr b ]
wins_at_pipe l r hl hr true is (inl w) =
    inr (right_over (level l w) (level l (chosen l)) (level r (chosen r)) (not_higher l (chosen l) w (hl w)) (right_beats l r (chosen l) (chosen r) is))
wins_at_pipe l r hl hr false is (inr w) =
    inr (left_over (level r w) (level r (chosen r)) (level l (chosen l)) (not_higher r (chosen r) w (hr w)) (left_beats l r (chosen l) (chosen r) is))

-- the chosen command beats every other one
pub chosen_wins : (t : Endings) → IsWinner t (chosen t)
chosen_wins (ending texts status) w = inl refl
chosen_wins (unchecked t) w = chosen_wins t w
chosen_wins (pipe l r) w = wins_at_pipe l r (chosen_wins l) (chosen_wins r) (takes_right l r (chosen l) (chosen r)) refl w

pub winners_same : (t : Endings) (v w : Way t) → IsWinner t v → IsWinner t w → v ≡ w
winners_same t v w hv hw =
    elim (hv w) [
      | inl e ↦ e
      | inr b ↦ elim (hw v) [ inl e ↦ sym e | inr d ↦ absurd (irreflexive t v (transitive t v w v b d)) ]
    ]

pub one_wins : (t : Endings) → ExactlyOneWins t
one_wins t = (chosen t, chosen_wins t, λ other wins. winners_same t other (chosen t) wins (chosen_wins t))

fails_by_level : (failed checked : Bool) → 0 < level_by failed checked → failed ≡ true
fails_by_level true checked h = refl
fails_by_level false checked h = absurd (omega arith)

failed_level : (failed checked : Bool) → failed ≡ true → 0 < level_by failed checked
failed_level true true h = omega arith
failed_level true false h = omega arith
failed_level false checked h = cc

winner_fails : (t : Endings) (winner way : Way t) → IsWinner t winner → is_failure t way ≡ true
    → is_failure t winner ≡ true
winner_fails t winner way wins failed =
    let low = not_higher t winner way (wins way) in
    let high : 0 < level t way = rw (level_is t way) (failed_level (is_failure t way) (is_checked t way) failed) in
    let top : 0 < level t winner = omega arith in
    fails_by_level (is_failure t winner) (is_checked t winner) (rw (level_is t winner) at top)

pub fails_where_some_fails : (t : Endings) → FailsWhereSomeFails t
fails_where_some_fails t winner wins = (λ failed. (winner, failed), λ some. winner_fails t winner some.0 wins some.1)

pub unchecked_keeps : (t : Endings) → UncheckedKeeps t
unchecked_keeps t way = (refl, (λ wins. wins, λ wins. wins))
