-- Where the outcome of what is stored is an answer, each command has ended.
use Rattle.std.proofs.Common.{◌≡◌, ◌+◌, ℕ, zero, suc, Bool, true, false, List, [], ◌∷◌, ◌++◌, All, drop, refl, sym, subst, append_assoc, arith, None, Some, Option, slice_get}
use Rattle.std.proofs.lemmas.List.{append-nil}
use Rattle.std.proofs.lemmas.List.Elements.{All-cons, All-nil}
use Rattle.duct_system.specs.declared.system.ExitStatus.{ExitStatus}
use Rattle.duct_system.specs.declared.system.Fault.{Fault}
use Rattle.duct_system.specs.declared.system.Said.{Said}
use Rattle.duct_system.specs.declared.system.Said.TheVariants as said
use Rattle.duct_status.specs.Endings.{Endings}
use Rattle.duct_status.specs.Latest.{Latest}
use Rattle.duct_status.specs.Outcome.{AnswersOutcome, Concludes, OutcomeView, command_said, ended, first_fault, in_tree_order, input_said, some_runs}
use Rattle.duct_status.specs.ReplyView.{answered}
use Rattle.duct_status.specs.ShapeView.{ShapeView, command, command_count, input, input_count, pipe, unchecked}
use Rattle.duct_status.specs.declared.status.Word.{Word}
use Rattle.duct_status.specs.declared.status.Word.TheVariants as word
use Rattle.duct_tasks.specs.Statuses.{HasEnded, commands_in, with_reports}

-- no report is a fault, and none is Running
abbrev AllDone : List (Said (Unit {0})) → Type 0
AllDone words = (first_fault words ≡ None) × (some_runs words ≡ false)

done_parts : (xs ys : List (Said (Unit {0}))) → AllDone (xs ++ ys) → AllDone xs × AllDone ys
done_parts [] ys done = ((refl, refl), done)
done_parts (said.Running ∷ xs) ys done = absurd (let h = done.1 in cc)
done_parts (said.Fault fault ∷ xs) ys done = absurd (let h = done.0 in cc)
done_parts (said.Done value ∷ xs) ys done = done_parts xs ys done

-- all that is awaited in tree order has ended, where the reply is an answer
all_done : (fault : Option Fault) (runs : Bool) (next : OutcomeView) (t : Endings) (status : ExitStatus)
    (out err : List ℕ) → AnswersOutcome (ended fault runs next) t (answered status out err)
    → (fault ≡ None) × (runs ≡ false)
all_done (Some fault) runs next t status out err answers = absurd (cc)
all_done None true next t status out err answers = absurd (cc)
all_done None false next t status out err answers = (refl, refl)

-- a command whose report is that it ended, and those behind it
first_ended : (c : ℕ) (reports : List Word) (words : List (List ℕ)) (others : List (List (List ℕ)))
    → AllDone (command_said (slice_get reports c) ∷ [])
    → All HasEnded (with_reports others (drop (suc c) reports))
    → All HasEnded (with_reports (words ∷ others) (drop c reports))
first_ended c [] words others done rest = absurd (let h = done.1 in cc)
first_ended zero (word.Ended status ∷ reports) words others done rest =
    All-cons HasEnded (record { words = words; status = Some status }) (with_reports others reports) refl rest
first_ended zero (word.Running ∷ reports) words others done rest = absurd (let h = done.1 in cc)
first_ended zero (word.Fault fault ∷ reports) words others done rest = absurd (let h = done.0 in cc)
first_ended (suc c) (report ∷ reports) words others done rest = first_ended c reports words others done rest

-- the commands of a tree, numbered from c, and those behind it
each_ended : (t : ShapeView) (c i : ℕ) (reports : List Word) (inputs : List (Said (Unit {0})))
    (others : List (List (List ℕ))) → AllDone (in_tree_order t c i reports inputs)
    → All HasEnded (with_reports others (drop (c + command_count t) reports))
    → All HasEnded (with_reports (commands_in t ++ others) (drop c reports))
each_ended (command words) c i reports inputs others done rest =
    let next : c + 1 ≡ suc c = omega arith in
    first_ended c reports words others done (subst (λ (n : ℕ). All HasEnded (with_reports others (drop n reports))) next rest)
each_ended (pipe l r) c i reports inputs others done rest =
    let parts = done_parts (in_tree_order l c i reports inputs) (in_tree_order r (c + command_count l) (i + input_count l) reports inputs) done in
    let sum : c + (command_count l + command_count r) ≡ c + command_count l + command_count r = omega arith in
    subst (λ (all : List (List (List ℕ))). All HasEnded (with_reports all (drop c reports))) (sym (append_assoc (commands_in l) (commands_in r) others))
    (each_ended l c i reports inputs (commands_in r ++ others) parts.0
    (each_ended r (c + command_count l) (i + input_count l) reports inputs others parts.1
    (subst (λ (n : ℕ). All HasEnded (with_reports others (drop n reports))) sum rest)))
each_ended (input t) c i reports inputs others done rest =
    each_ended t c i reports inputs others (done_parts (in_tree_order t c i reports inputs) (input_said (slice_get inputs (i + input_count t)) ∷ []) done).0 rest
each_ended (unchecked t) c i reports inputs others done rest = each_ended t c i reports inputs others done rest

-- the commands of a tree have all ended, where the outcome of its reports is an answer
pub all_ended : (t : ShapeView) (latest : Latest) (status : ExitStatus) (out err : List ℕ)
    → Concludes t latest (answered status out err)
    → All HasEnded (with_reports (commands_in t) latest.commands)
all_ended t latest status out err concludes =
    let said = in_tree_order t 0 0 latest.commands latest.inputs in
    let done = all_done (first_fault said) (some_runs said) _ _ status out err concludes in
    subst (λ (all : List (List (List ℕ))). All HasEnded (with_reports all latest.commands)) (append-nil (commands_in t))
    (each_ended t 0 0 latest.commands latest.inputs [] done (All-nil HasEnded))
