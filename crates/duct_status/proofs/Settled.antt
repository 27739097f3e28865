-- Once all have ended, no further event changes a report, and so what fits the reports still fits
-- them.
use Rattle.std.proofs.Common.{◌≡◌, ℕ, zero, suc, ◌+◌, ◌<◌, ◌≤◌, ◌⊎◌, inl, inr, Bool, true, false, List, [], ◌∷◌, ◌++◌, length, refl, ap, sym, ◌∙◌, subst, arith, Some, None, slice_get, Option, String, Global}
use Rattle.std.specs.declared.sync.Arc.{Arc}
use Rattle.std.specs.Arc.{arc_value}
use Rattle.std.specs.Option.{ForSome, option_map}
use Rattle.duct_system.specs.declared.system.ExitStatus.{ExitStatus}
use Rattle.duct_system.specs.declared.system.Fault.{Fault}
use Rattle.duct_system.specs.declared.system.Output.{Output}
use Rattle.duct_system.specs.declared.system.Said.{Said}
use Rattle.duct_system.specs.declared.system.Said.TheVariants as said
use Rattle.duct_system.specs.declared.system.Side.{Side}
use Rattle.duct_system.specs.declared.system.Side.TheVariants as side
use Rattle.duct_status.specs.declared.status.Word.{Word}
use Rattle.duct_status.specs.declared.status.Word.TheVariants as word
use Rattle.duct_status.specs.Fits.{FitsAnswer, FitsMessage, is_finished}
use Rattle.duct_status.specs.EventView.{EventView, from_command, from_input, from_drain, conclude}
use Rattle.duct_status.specs.ShapeView.{ShapeView, command, pipe, input, unchecked, command_count, input_count}
use Rattle.duct_system.specs.Job.{kept_after}
use Rattle.duct_status.specs.Outcome.{OutcomeView, command_said, input_said, in_tree_order, first_fault, some_runs, finished, captured, with_bytes, ended, outcome}
use Rattle.duct_status.specs.Latest.{Latest, word_after, change_at, latest_after}
use Rattle.duct_status.specs.PerSide.{at_side, with_side}
use Rattle.duct_status.specs.declared.per_side.PerSide.{PerSide}
use Rattle.duct_status.proofs.Changes.{changed_past}

-- no report is a fault, and none is Running
abbrev AllDone : List (Said (Unit {0})) → Type 0
AllDone words = (first_fault words ≡ None) × (some_runs words ≡ false)

done_parts : (xs ys : List (Said (Unit {0}))) → AllDone (xs ++ ys) → AllDone xs × AllDone ys
done_parts [] ys done = ((refl, refl), done)
done_parts (said.Running ∷ xs) ys done = absurd (let h = done.1 in cc)
done_parts (said.Fault fault ∷ xs) ys done = absurd (let h = done.0 in cc)
done_parts (said.Done value ∷ xs) ys done = done_parts xs ys done

command_done : (told : Option Word) → AllDone (command_said told ∷ [])
    → (status : ExitStatus) × (told ≡ Some (word.Ended status))
command_done (Some (word.Ended status)) done = (status, refl)
command_done (Some word.Running) done = absurd (let h = done.1 in cc)
command_done (Some (word.Fault fault)) done = absurd (let h = done.0 in cc)
command_done None done = absurd (let h = done.1 in cc)

input_done : (heard : Option (Said (Unit {0}))) → AllDone (input_said heard ∷ [])
    → heard ≡ Some (said.Done tt)
input_done (Some (said.Done value)) done = refl
input_done (Some said.Running) done = absurd (let h = done.1 in cc)
input_done (Some (said.Fault fault)) done = absurd (let h = done.0 in cc)
input_done None done = absurd (let h = done.1 in cc)

below_or_not : (a b : ℕ) → (a < b) ⊎ (b ≤ a)
below_or_not a b = grind arith

-- each command of the tree has ended
commands_done : (t : ShapeView) (c i : ℕ) (words : List Word) (inputs : List (Said (Unit {0})))
    → AllDone (in_tree_order t c i words inputs) → (k : ℕ) → c ≤ k → k < c + command_count t
    → (status : ExitStatus) × (slice_get words k ≡ Some (word.Ended status))
commands_done (command texts) c i words inputs done k low high =
    let P : ℕ → Type 0 = λ n. (status : ExitStatus) × (slice_get words n ≡ Some (word.Ended status)) in
    let e : c ≡ k = omega arith in
    subst P e (command_done (slice_get words c) done)
commands_done (pipe l r) c i words inputs done k low high =
    let parts = done_parts (in_tree_order l c i words inputs) (in_tree_order r (c + command_count l) (i + input_count l) words inputs) done in
    elim (below_or_not k (c + command_count l)) [
      | inl less ↦ commands_done l c i words inputs parts.0 k low less
      | inr more ↦ commands_done r (c + command_count l) (i + input_count l) words inputs parts.1 k more (omega arith)
    ]
commands_done (input t) c i words inputs done k low high =
    commands_done t c i words inputs (done_parts (in_tree_order t c i words inputs) (input_said (slice_get inputs (i + input_count t)) ∷ []) done).0 k low high
commands_done (unchecked t) c i words inputs done k low high = commands_done t c i words inputs done k low high

-- each input worker of the tree is done
inputs_done : (t : ShapeView) (c i : ℕ) (words : List Word) (inputs : List (Said (Unit {0})))
    → AllDone (in_tree_order t c i words inputs) → (k : ℕ) → i ≤ k → k < i + input_count t
    → slice_get inputs k ≡ Some (said.Done tt)
inputs_done (command texts) c i words inputs done k low high = absurd (omega arith)
inputs_done (pipe l r) c i words inputs done k low high =
    let parts = done_parts (in_tree_order l c i words inputs) (in_tree_order r (c + command_count l) (i + input_count l) words inputs) done in
    elim (below_or_not k (i + input_count l)) [
      | inl less ↦ inputs_done l c i words inputs parts.0 k low less
      | inr more ↦ inputs_done r (c + command_count l) (i + input_count l) words inputs parts.1 k more (omega arith)
    ]
inputs_done (input t) c i words inputs done k low high =
    let parts = done_parts (in_tree_order t c i words inputs) (input_said (slice_get inputs (i + input_count t)) ∷ []) done in
    elim (below_or_not k (i + input_count t)) [
      | inl less ↦ inputs_done t c i words inputs parts.0 k low less
      | inr more ↦
          let P : ℕ → Type 0 = λ n. slice_get inputs n ≡ Some (said.Done tt) in
          let e : i + input_count t ≡ k = omega arith in
          subst P e (input_done (slice_get inputs (i + input_count t)) parts.1)
    ]
inputs_done (unchecked t) c i words inputs done k low high = inputs_done t c i words inputs done k low high

changed_same : {T : Type 0} (change : T → T) (k : ℕ) (xs : List T) (x : T)
    → slice_get xs k ≡ Some x → change x ≡ x → change_at change k xs ≡ xs
changed_same change k [] x is same = refl
changed_same change zero (y ∷ xs) x is same = let e : y ≡ x = cc in ap (λ z. z ∷ xs) (ap change e ∙ same ∙ sym e)
changed_same change (suc k) (y ∷ xs) x is same = ap (λ ys. y ∷ ys) (changed_same change k xs x is same)

finished_ended : (fault : Option Fault) (runs : Bool) (next : OutcomeView)
    → is_finished (ended fault runs next) ≡ true
    → (fault ≡ None) × (runs ≡ false) × (is_finished next ≡ true)
finished_ended (Some fault) runs next over = absurd (cc)
finished_ended None true next over = absurd (cc)
finished_ended None false next over = (refl, refl, over)

drain_same : (drain : Option (Said (List ℕ))) (heard : Said (List ℕ)) (next : List ℕ → OutcomeView)
    → is_finished (with_bytes (captured drain) next) ≡ true
    → option_map (λ old. kept_after old heard) drain ≡ drain
drain_same None heard next over = refl
drain_same (Some said.Running) heard next over = absurd (cc)
drain_same (Some (said.Fault fault)) heard next over = absurd (cc)
drain_same (Some (said.Done bytes)) heard next over = refl

finished_next : (drain : Option (Said (List ℕ))) (next : List ℕ → OutcomeView)
    → is_finished (with_bytes (captured drain) next) ≡ true
    → (bytes : List ℕ) × (is_finished (next bytes) ≡ true)
finished_next None next over = ([], over)
finished_next (Some said.Running) next over = absurd (cc)
finished_next (Some (said.Fault fault)) next over = absurd (cc)
finished_next (Some (said.Done bytes)) next over = (bytes, over)

-- all commands and workers have ended, and capture workers' further reports change nothing
drains_same : (drains : PerSide (Option (Said (List ℕ)))) (stream : Side) (heard : Said (List ℕ))
    → is_finished (with_bytes (captured drains.out)
    (λ out. with_bytes (captured drains.err) (λ err. finished out err))) ≡ true
    → with_side drains stream (option_map (λ old. kept_after old heard) (at_side drains stream))
    ≡ drains
drains_same drains side.Out heard over = ap (λ (x : Option (Said (List ℕ))). record drains { out = x }) (drain_same drains.out heard (λ out. with_bytes (captured drains.err) (λ err. finished out err)) over)
drains_same drains side.Err heard over =
    let next = finished_next drains.out (λ out. with_bytes (captured drains.err) (λ err. finished out err)) over in
    ap (λ (x : Option (Said (List ℕ))). record drains { err = x }) (drain_same drains.err heard (λ err. finished next.0 err) next.1)

-- a core's lists have a report for each command and each input worker
pub record Fit (t : ShapeView) (words : Latest) : Type 0 where
  pub commands : length words.commands ≡ command_count t
  pub inputs : length words.inputs ≡ input_count t

commands_same : (t : ShapeView) (words : Latest) (k : ℕ) (heard : Word) → Fit t words
    → AllDone (in_tree_order t 0 0 words.commands words.inputs)
    → change_at (λ old. word_after old heard) k words.commands ≡ words.commands
commands_same t words k heard fit done =
    let total = fit.commands in
    elim (below_or_not k (length words.commands)) [
      | inl less ↦
          let at = commands_done t 0 0 words.commands words.inputs done k (omega arith) (omega arith) in
          changed_same (λ old. word_after old heard) k words.commands (word.Ended at.0) at.1 refl
      | inr more ↦ changed_past (λ old. word_after old heard) k words.commands more
    ]

inputs_same : (t : ShapeView) (words : Latest) (k : ℕ) (heard : Said (Unit {0})) → Fit t words
    → AllDone (in_tree_order t 0 0 words.commands words.inputs)
    → change_at (λ old. kept_after old heard) k words.inputs ≡ words.inputs
inputs_same t words k heard fit done =
    let total = fit.inputs in
    elim (below_or_not k (length words.inputs)) [
      | inl less ↦ changed_same (λ old. kept_after old heard) k words.inputs (said.Done tt) (inputs_done t 0 0 words.commands words.inputs done k (omega arith) (omega arith)) refl
      | inr more ↦ changed_past (λ old. kept_after old heard) k words.inputs more
    ]

-- all have ended: the commands and the input workers, and the capture workers
all_over : (t : ShapeView) (words : Latest) → is_finished (outcome t words) ≡ true
    → AllDone (in_tree_order t 0 0 words.commands words.inputs)
    × (is_finished (with_bytes (captured words.drains.out)
    (λ out. with_bytes (captured words.drains.err) (λ err. finished out err))) ≡ true)
all_over t words over =
    let said = in_tree_order t 0 0 words.commands words.inputs in
    let all = finished_ended (first_fault said) (some_runs said) _ over in
    ((all.0, all.1), all.2)

-- once all have ended, no further event changes a report
pub settled : (t : ShapeView) (words : Latest) (event : EventView) → Fit t words
    → is_finished (outcome t words) ≡ true → latest_after words event ≡ words
settled t words conclude fit over = refl
settled t words (from_command k heard) fit over = ap (λ (xs : List Word). record words { commands = xs }) (commands_same t words k heard fit (all_over t words over).0)
settled t words (from_input k heard) fit over = ap (λ (xs : List (Said (Unit {0}))). record words { inputs = xs }) (inputs_same t words k heard fit (all_over t words over).0)
settled t words (from_drain stream heard) fit over = ap (λ (d : PerSide (Option (Said (List ℕ)))). record words { drains = d }) (drains_same words.drains stream heard (all_over t words over).1)

-- an answer that fits still fits after an event
pub answer_stays : (t : ShapeView) (words now : Latest) (event : EventView)
    (answer : Option (Arc Output Global)) → now ≡ latest_after words event → Fit t words
    → ForSome answer (λ a. FitsAnswer t words (arc_value a))
    → ForSome answer (λ a. FitsAnswer t now (arc_value a))
answer_stays t words now event answer e fit fits a is =
    let P : Latest → Type 0 = λ w. FitsAnswer t w (arc_value a) in
    let old = fits a is in
    subst P (sym (settled t words event fit old.ended) ∙ sym e) old

-- a message that fits still fits after an event
pub message_stays : (t : ShapeView) (words now : Latest) (event : EventView)
    (text : Option (Arc (String Global) Global)) → now ≡ latest_after words event → Fit t words
    → ForSome text (λ a. FitsMessage t words (arc_value a))
    → ForSome text (λ a. FitsMessage t now (arc_value a))
message_stays t words now event text e fit fits a is =
    let P : Latest → Type 0 = λ w. FitsMessage t w (arc_value a) in
    let old = fits a is in
    subst P (sym (settled t words event fit old.ended) ∙ sym e) old
