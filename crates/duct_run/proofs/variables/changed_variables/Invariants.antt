-- The remaining changes, applied to the variables so far, are all changes of the scopes.
use Rattle.std.proofs.Common.{◌≡◌, ◌++◌, ◌∷◌, [], ℕ, List, map, vec_len}
use Rattle.duct_run.proofs.Common.{AreOrdered, pair_text, var_view, Replaces, variable, change_of, changes_of}
use Rattle.duct_run.proofs.variables.changed_variables.Given as goal

abbrev pub invariant-loop-change : goal.invariant-loop-change
invariant-loop-change l = record {
  found : (name : List ℕ)
      → variable (map pair_text l.pairs) (map change_of l.single.items ++ Replaces (map var_view l.vars.entries) ∷ []) name
      ≡ variable (map pair_text l.pairs) (changes_of l.fn.changes) name;
  ordered : AreOrdered (map var_view l.vars.entries);
}

abbrev pub decreases-loop-change : goal.decreases-loop-change
decreases-loop-change l = vec_len l.single
