-- Variables in order of name that are set one by one are the same variables.
use Rattle.std.proofs.Common.{[], ◌∷◌, ◌++◌, ◌≡◌, ap, sym, subst, ◌∙◌, append_assoc, append-nil}
use Rattle.duct_system.specs.SpecView.{Vars, AreOrdered}
use Rattle.duct_system.proofs.Copying.{with_next}
use Rattle.duct_replay.specs.Lines.{set_in_turn}

set_behind : (done rest : Vars) → AreOrdered (done ++ rest) → set_in_turn done rest ≡ done ++ rest
set_behind done [] ordered = sym (append-nil done)
set_behind done (pair ∷ rest) ordered =
    let joined = append_assoc done (pair ∷ []) rest in
    let next = with_next pair.0 pair.1 done rest ordered in
    ap (λ vars. set_in_turn vars rest) next
    ∙ (set_behind (done ++ pair ∷ []) rest (subst AreOrdered (sym joined) ordered) ∙ joined)

pub set_again : (vars : Vars) → AreOrdered vars → set_in_turn [] vars ≡ vars
set_again vars ordered = set_behind [] vars ordered
