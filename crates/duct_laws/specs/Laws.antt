-- Laws of the definitions of a start, for all trees and all paths to the root.
use Rattle.std.specs.Prelude.{ℕ, List, [], ◌∷◌, ◌++◌, ◌≡◌, true, Some}
use Rattle.duct_system.specs.Name.{is_same_name}
use Rattle.duct_system.specs.SpecView.{Vars}
use Rattle.duct_system.specs.declared.spec.Stream.{Stream}
use Rattle.duct_start.specs.Lookup.{changes_on, folder_on, surroundings_on, Path, within}
use Rattle.duct_start.specs.Plan.{Plan, plan_of_subtree}
use Rattle.duct_start.specs.Step.{Item, Opens, step}
use Rattle.duct_start.specs.Surroundings.{value_found, variable}
use Rattle.duct_start.specs.TreeView.{ModifierView, TreeView, around, dir, env, full_env, stdout_stderr_swap}
use Rattle.duct_laws.specs.Redirected.{redirected}

-- a command finds the same with these nodes around it as with those, whatever other nodes are
-- inside and outside of them
abbrev pub FindSame : {E H : Type 0} → Path E H → Path E H → Type 0
FindSame {E} {H} one other =
    (inside outside : Path E H)
    → surroundings_on (inside ++ (one ++ outside)) ≡ surroundings_on (inside ++ (other ++ outside))

-- of two redirections of one stream, one directly around the other, the inner one counts alone
abbrev pub InnerRedirectionCounts : (E H : Type 0) → Type 0
InnerRedirectionCounts E H =
    (inner outer : ModifierView E H) (p q : ℕ) (stream : Stream)
    → redirected inner ≡ Some stream → redirected outer ≡ Some stream
    → FindSame (within p inner ∷ within q outer ∷ []) (within p inner ∷ [])

-- two swaps of stdout and stderr, one directly around the other, change nothing
abbrev pub SwapsCancel : (E H : Type 0) → Type 0
SwapsCancel E H =
    (p q : ℕ)
    → FindSame {E = E} {H = H} (within p stdout_stderr_swap ∷ within q stdout_stderr_swap ∷ []) []

-- what a node opens before its inner expression is requested, whatever that expression overrides
abbrev pub OverriddenStillOpens : (E H : Type 0) → Type 0
OverriddenStillOpens E H =
    (modifier : ModifierView E H) (item : Item E H) → (step modifier).opening ≡ Opens item
    → (inner : TreeView E H) (up : Path E H) (plan : Plan E H)
    → (later : List (Item E H))
    × ((plan_of_subtree up (around modifier inner) plan).items ≡ plan.items ++ item ∷ later)

-- a folder that is set inside replaces each one that is set outside
abbrev pub InnerFolderReplaces : (E H : Type 0) → Type 0
InnerFolderReplaces E H =
    (inside outside other : Path E H) (p : ℕ) (path : List ℕ)
    → folder_on (inside ++ within p (dir path) ∷ outside)
    ≡ folder_on (inside ++ within p (dir path) ∷ other)

-- the nearest change that sets a variable decides its value, whatever is set outside
abbrev pub NearestVariableCounts : (E H : Type 0) → Type 0
NearestVariableCounts E H =
    (pairs : Vars) (outside : Path E H) (p : ℕ) (set value name : List ℕ)
    → is_same_name name set ≡ true
    → value_found pairs (changes_on (within p (env set value) ∷ outside)) name ≡ Some value

-- a variable that is set inside hides the value of one of its name that is set outside: each name
-- has the value that it has without the outer one
abbrev pub InnerVariableHides : (E H : Type 0) → Type 0
InnerVariableHides E H =
    (pairs : Vars) (inside between outside : Path E H) (p q : ℕ) (inner value outer hidden : List ℕ)
    → is_same_name inner outer ≡ true → (name : List ℕ)
    → value_found pairs
    (changes_on (inside ++ within p (env inner value)
    ∷ (between ++ within q (env outer hidden) ∷ outside)))
    name
    ≡ value_found pairs
    (changes_on (inside ++ within p (env inner value) ∷ (between ++ outside))) name

-- a full environment that is set inside hides the changes of variables outside, and the variables
-- of the parent
abbrev pub InnerEnvironmentHides : (E H : Type 0) → Type 0
InnerEnvironmentHides E H =
    (pairs others : Vars) (inside outside other : Path E H) (p : ℕ) (vars : Vars) (name : List ℕ)
    → variable pairs (changes_on (inside ++ within p (full_env vars) ∷ outside)) name
    ≡ variable others (changes_on (inside ++ within p (full_env vars) ∷ other)) name
