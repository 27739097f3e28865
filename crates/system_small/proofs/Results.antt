-- What runs, reads, waits and orders over the small system return.
use Rattle.std.proofs.Common.{◌≡◌, ◌⊎◌, ◌+◌, ◌<◌, ◌&&◌, not, max, min, pos, arith, ℕ, zero, suc, inl, inr, Bool, true, false, List, [], ◌∷◌, ◌++◌, map, get_or, slice_get, All, IfErr, IfSome, Option, Result, String, Global, Ok, Err, Some, None, is_some, option_map, string_bytes, refl, ap, ap₂, sym, ◌∙◌, subst}
use Rattle.std.proofs.Math.Logic.{∥∥₁_elim, ∥∥₁_map}
use Rattle.std.proofs.lemmas.Bool.{or_parts}
use Rattle.std.proofs.lemmas.List.Elements.{All-head, All-tail}
use Rattle.std.specs.Coded.{Coded-set, coded_list, coded_ℕ, →_prop}
use Rattle.std.specs.List.{AllZip}
use Rattle.std.specs.declared.sync.Arc.{Arc}
use mathlib.Core.HLevel.{⊥_prop}
use Rattle.duct_system.specs.Child.{Answer, ChildView, Obeyed}
use Rattle.duct_system.specs.EntryView.{EntryView}
use Rattle.duct_system.specs.Job.{JobView}
use Rattle.duct_system.specs.Status.{is_success}
use Rattle.duct_system.specs.contracts.system.ExitStatus as exit
use Rattle.duct_system.specs.declared.error.Error.{Error}
use Rattle.duct_system.specs.declared.error.Error.TheVariants as error
use Rattle.duct_system.specs.declared.system.ExitStatus.{ExitStatus}
use Rattle.duct_system.specs.declared.system.ExitStatus.TheVariants.{Code}
use Rattle.duct_system.specs.declared.system.Fault.{Fault}
use Rattle.duct_system.specs.declared.system.Kind.TheVariants.{Other, OutOfMemory}
use Rattle.duct_system.specs.declared.system.Output.{Output}
use Rattle.duct_system.specs.declared.system.Said.{Said}
use Rattle.duct_system.specs.declared.system.Said.TheVariants as said
use Rattle.duct_status.proofs.Looks.{runs_append}
use Rattle.duct_status.proofs.Order.{chosen_wins, winners_same}
use Rattle.duct_status.specs.Winner.{chosen}
use Rattle.duct_status.specs.Endings as ends
use Rattle.duct_status.specs.Endings.{Endings, Way, endings_of, status_at, status_of}
use Rattle.duct_status.specs.EventView.{bytes_said}
use Rattle.duct_status.specs.Outcome.{AnswersOutcome, AnswersWinner, captured, command_said, ended, finished, first_fault, in_tree_order, input_said, some_runs, with_bytes}
use Rattle.duct_status.specs.ReplyView.{ReplyView, answered, failed}
use Rattle.duct_status.specs.ShapeView.{ShapeView, command, pipe, input, unchecked, command_count, input_count}
use Rattle.duct_status.specs.declared.status.Word.{Word}
use Rattle.duct_start.specs.Plan.{plan_of}
use Rattle.duct_start.specs.ShapeOfTree.{shape_of_tree}
use Rattle.duct_start.specs.TreeView.{TreeView}
use Rattle.duct_running.specs.Allowed.{ChildAnswersAllowed, WorkerResultAllowed}
use Rattle.duct_running.specs.Answered.{IsConcludedPoll, WasConcluded}
use Rattle.duct_running.specs.NumbersView.{NumbersView}
use Rattle.duct_running.specs.Ordered.{OrderAnswers, leftmost}
use Rattle.duct_running.specs.Polled.{WhileRuns}
use Rattle.duct_running.specs.Stored.{Bytes, stored_latest, stored_word}
use Rattle.duct_handle.specs.Started.{AreNumbers}
use Rattle.duct_handle.specs.Waited.{at_end}
use Rattle.duct_handle.proofs.Polling.{failure_concluded, output_concluded}
use Rattle.duct_handle.specs.ReadsText.{trimmed}
use Rattle.system_small.specs.Exits.{IsRun, IsUnnoted, IsWait}
use Rattle.system_small.specs.Told.{MayAnswer, MayDrain, MayFeed, MayObey, captured_if, exit_of, printed}

-- the tree of commands that exit as the children of these numbers do, from the child at this place
-- on; where there is no such child, as that of another number would
abbrev exits : List ℕ → ℕ → ShapeView → ℕ → Endings
exits numbers other (command texts) c = ends.ending texts (exit_of (get_or numbers c other))
exits numbers other (pipe l r) c =
    ends.pipe (exits numbers other l c) (exits numbers other r (c + command_count l))
exits numbers other (input t) c = exits numbers other t c
exits numbers other (unchecked t) c = ends.unchecked (exits numbers other t c)

-- no report says that something runs
abbrev AreOver : List (Said (Unit {0})) → Type 0
AreOver reports = some_runs reports ≡ false

parts_over : (xs ys : List (Said (Unit {0}))) → AreOver (xs ++ ys) → AreOver xs × AreOver ys
parts_over xs ys over = or_parts (some_runs xs) (some_runs ys) (sym (runs_append xs ys) ∙ over)

-- a child that no longer runs exits as its number says
exit_stored : (number : ℕ) (ending : Option ExitStatus) (last : Option Answer)
    → IfSome last (λ answer. MayAnswer number answer)
    → IfSome ending (λ status. MayAnswer number (Ok (Some status)))
    → AreOver (command_said (Some (stored_word ending last)) ∷ [])
    → status_of (Some (stored_word ending last)) ≡ exit_of number
exit_stored number (Some status) last heard told over = cc
exit_stored number None (Some (Err fault)) heard told over = absurd (cc)
exit_stored number None (Some (Ok found)) heard told over = absurd (cc)
exit_stored number None None heard told over = absurd (cc)

-- the words that children store
abbrev words : List ChildView → List Word
words children = map (λ child. stored_word child.ending child.last) children

abbrev numbers_of : List ChildView → List ℕ
numbers_of children = map (λ (child : ChildView). child.number) children

exit_at : (children : List ChildView) → All (ChildAnswersAllowed MayAnswer) children
    → (other k : ℕ) → AreOver (command_said (slice_get (words children) k) ∷ [])
    → status_of (slice_get (words children) k) ≡ exit_of (get_or (numbers_of children) k other)
exit_at [] told other k over = absurd (cc)
exit_at (child ∷ more) told other zero over =
    let here = All-head (ChildAnswersAllowed MayAnswer) child more told in
    exit_stored child.number child.ending child.last here.answered here.ended over
exit_at (child ∷ more) told other (suc k) over =
    exit_at more (All-tail (ChildAnswersAllowed MayAnswer) child more told) other k over

module _ (children : List ChildView) (told : All (ChildAnswersAllowed MayAnswer) children)
    (inputs : List (Said (Unit {0}))) (other : ℕ) where
  -- where nothing runs any more, each command exits as the child in its place
  all_exit : (t : ShapeView) (c i : ℕ) → AreOver (in_tree_order t c i (words children) inputs)
      → endings_of t c (words children) ≡ exits (numbers_of children) other t c
  all_exit (command texts) c i over = ap (ends.ending texts) (exit_at children told other c over)
  all_exit (pipe l r) c i over =
      let parts = parts_over (in_tree_order l c i (words children) inputs) (in_tree_order r (c + command_count l) (i + input_count l) (words children) inputs) over in
      ap₂ ends.pipe (all_exit l c i parts.0) (all_exit r (c + command_count l) (i + input_count l) parts.1)
  all_exit (input t) c i over =
      all_exit t c i (parts_over (in_tree_order t c i (words children) inputs) (input_said (slice_get inputs (i + input_count t)) ∷ []) over).0
  all_exit (unchecked t) c i over = ap ends.unchecked (all_exit t c i over)

-- the bytes of a capture worker, or none
bytes_kept : (number : ℕ) (kept : Said Bytes) (out : List ℕ)
    → WhileRuns kept (Unit {0}) (MayDrain number kept) → bytes_said kept ≡ said.Done out
    → out ≡ printed
bytes_kept number said.Running out told is = absurd (cc)
bytes_kept number (said.Fault fault) out told is = absurd (cc)
bytes_kept number (said.Done bytes) out told is = cc

bytes_of : (job : Option (JobView Bytes)) (out : List ℕ)
    → IfSome job (WorkerResultAllowed MayDrain)
    → captured (option_map (λ drain. bytes_said drain.kept) job) ≡ said.Done out
    → out ≡ captured_if (is_some (option_map (λ drain. drain.number) job))
bytes_of None out told is = cc
bytes_of (Some job) out told is = bytes_kept job.number job.kept out told is

-- a reply that tells how an expression ended
abbrev IsEnding : ReplyView → Type 0
IsEnding (answered status out err) = Unit {0}
IsEnding (failed text) = Unit {0}
IsEnding other = ⊥

ending_as : (reply other : ReplyView) → IsEnding reply → reply ≡ other → IsEnding other
ending_as reply other ending is = subst (λ (r : ReplyView). IsEnding r) is ending

-- such a reply is for the winner and the bytes of both capture workers, and nothing runs
finished_by : (fault : Option Fault) (runs : Bool) (o e : Said (List ℕ)) (t : Endings)
    (reply : ReplyView) → IsEnding reply
    → AnswersOutcome (ended fault runs (with_bytes o (λ b. with_bytes e (λ c. finished b c)))) t reply
    → (runs ≡ false) × ((out : List ℕ) × (err : List ℕ) × (o ≡ said.Done out)
    × (e ≡ said.Done err) × AnswersWinner t out err reply)
finished_by (Some fault) runs o e t reply ending is = absurd (ending_as reply _ ending is)
finished_by None true o e t reply ending is = absurd (ending_as reply _ ending is)
finished_by None false said.Running e t reply ending is = absurd (ending_as reply _ ending is)
finished_by None false (said.Fault fault) e t reply ending is = absurd (ending_as reply _ ending is)
finished_by None false (said.Done b) said.Running t reply ending is = absurd (ending_as reply _ ending is)
finished_by None false (said.Done b) (said.Fault fault) t reply ending is = absurd (ending_as reply _ ending is)
finished_by None false (said.Done b) (said.Done c) t reply ending is = (refl, (b, c, refl, refl, is))

-- the reply is for the winner of the commands, which exit as their children do, and for the bytes
-- that the capture workers read
abbrev Told : NumbersView → ShapeView → ReplyView → Type 0
Told numbers shape reply = (tree : ShapeView) (children : List ℕ) (other : ℕ) → shape ≡ tree
    → numbers.children ≡ children
    → AnswersWinner (exits children other tree 0) (captured_if (is_some numbers.output))
    (captured_if (is_some numbers.error)) reply

-- what follows from this follows from the conclusion
by : {P : Type 0} (numbers : NumbersView) (shape : ShapeView) (reply : ReplyView)
    → WasConcluded MayAnswer MayFeed MayDrain shape numbers reply → IsEnding reply → IsProp P
    → (Told numbers shape reply → P) → P
by numbers shape reply was ending prop f = ∥∥₁_elim was prop (λ it. ∥∥₁_elim it.told prop (λ told.
    let latest = stored_latest it.children it.feeds it.output it.error in
    let all = in_tree_order shape 0 0 latest.commands latest.inputs in
    let end = finished_by (first_fault all) (some_runs all) (captured latest.drains.out) (captured latest.drains.err) (endings_of shape 0 latest.commands) reply ending it.concludes in
    let out = bytes_of it.output end.1.0 told.output_told end.1.2 ∙ ap (λ (n : Option ℕ). captured_if (is_some n)) it.output_is in
    let err = bytes_of it.error end.1.1 told.error_told end.1.3 ∙ ap (λ (n : Option ℕ). captured_if (is_some n)) it.error_is in
    f (λ tree children other is are.
    let exit = all_exit it.children told.children_told latest.inputs other shape 0 0 end.0
    ∙ ap₂ (λ (ns : List ℕ) (t : ShapeView). exits ns other t 0) (it.children_are ∙ are) is in
    subst (λ (X : Type 0). X) (λ i. AnswersWinner (exit i) (out i) (err i) reply) end.1.4)))

-- a child never exits with success
positive : (code : ℕ) → 0 < code → is_success (Code (pos code)) ≡ false
positive zero above = absurd (omega arith)
positive (suc code) above = refl

exit_fails : (number : ℕ) → is_success (exit_of number) ≡ false
exit_fails number = positive (min (max number 1) 255) (omega arith)

no_failure : (b : Bool) → b ≡ false → (not b && true) ≡ false → ⊥
no_failure true fails is = cc
no_failure false fails is = cc

-- each command exits as the only child
only : (number : ℕ) (t : ShapeView) (c : ℕ) (way : Way (exits (number ∷ []) number t c))
    → status_at (exits (number ∷ []) number t c) way ≡ exit_of number
only number (command texts) zero way = refl
only number (command texts) (suc c) way = refl
only number (pipe l r) c (inl way) = only number l c way
only number (pipe l r) c (inr way) = only number r (c + command_count l) way
only number (input t) c way = only number t c way
only number (unchecked t) c way = only number t c way

-- of two commands in an unchecked pipe, where the right one fails, it wins
right_wins : (left right : List (List ℕ)) (one other status : ExitStatus) (a b out err : List ℕ)
    → is_success other ≡ false
    → AnswersWinner (ends.unchecked (ends.pipe (ends.ending left one) (ends.ending right other))) a b
    (answered status out err)
    → status ≡ other
right_wins left right one other status a b out err fails told =
    let t = ends.unchecked (ends.pipe (ends.ending left one) (ends.ending right other)) in
    told.2.1 ∙ ap (status_at t) (winners_same t told.0 (chosen t) told.1 (chosen_wins t)) ∙ rw fails

-- what follows for an output: a command alone has none, and each part of it
module _ (numbers : NumbersView) (shape : ShapeView) (status : ExitStatus) (out err : List ℕ)
    (was : WasConcluded MayAnswer MayFeed MayDrain shape numbers (answered status out err)) where
  fact : {P : Type 0} → IsProp P → (Told numbers shape (answered status out err) → P) → P
  fact prop f = by numbers shape (answered status out err) was tt prop f

  exit_was : (number : ℕ) → numbers.children ≡ number ∷ [] → status ≡ exit_of number
  exit_was number one = fact (Coded-set exit.the_row.coded _ _)
      (λ told. let alone = told shape (number ∷ []) number refl one in alone.2.1 ∙ only number shape 0 alone.0)

  pub never_was : (texts : List (List ℕ)) → shape ≡ command texts → ⊥
  never_was texts is = fact ⊥_prop (λ told. no_failure _ (exit_fails (get_or numbers.children 0 0))
      (told (command texts) numbers.children 0 is refl).2.0)

-- the clauses of a run
pub ran : {E H : Type 0} (tree : TreeView E H) (shape : ShapeView) (numbers : NumbersView)
    (added : List EntryView) (output : Output) → shape ≡ shape_of_tree tree
    → AreNumbers (is_some (plan_of tree).pipes.out) (is_some (plan_of tree).pipes.err) added numbers
    → WasConcluded MayAnswer MayFeed MayDrain shape numbers (answered output.status output.stdout.items output.stderr.items)
    → IsRun tree added output
ran {E} {H} tree shape numbers added output shape_is are was =
    let shapes = λ (other : TreeView E H) (is : tree ≡ other). shape_is ∙ ap (λ (t : TreeView E H). shape_of_tree t) is in
    record {
      status = λ number one. exit_was numbers shape _ _ _ was number (are.children_are ∙ one);
      failing = λ texts is. never_was numbers shape _ _ _ was texts (shapes _ is);
      winner = λ left right is one other two. fact numbers shape _ _ _ was (Coded-set exit.the_row.coded _ _) (λ told.
          right_wins left right (exit_of one) (exit_of other) _ _ _ _ _ (exit_fails other)
          (told (unchecked (pipe (command left) (command right))) (one ∷ other ∷ []) 0 (shapes _ is) (are.children_are ∙ two)));
      out = fact numbers shape _ _ _ was (Coded-set (coded_list coded_ℕ) _ _) (λ told. (told shape numbers.children 0 refl refl).2.2)
          ∙ ap captured_if are.output_is;
      err = fact numbers shape _ _ _ was (Coded-set (coded_list coded_ℕ) _ _) (λ told. (told shape numbers.children 0 refl refl).2.3)
          ∙ ap captured_if are.error_is;
    }

-- the text of a reader that has all that the small system prints
pub prints : (left : Option (List ℕ)) (bytes : List ℕ) (text : String Global) → left ≡ Some printed
    → IfSome left (λ all. bytes ≡ all) → string_bytes text ≡ trimmed bytes
    → string_bytes text ≡ printed
prints left bytes text told all is =
    is ∙ ap trimmed (subst (λ (left : Option (List ℕ)). IfSome left (λ all. bytes ≡ all)) told all)

-- the clauses of a wait
pub waited : (shape : ShapeView) (numbers : NumbersView) (result : Result (Arc Output Global) Error)
    → IsConcludedPoll MayAnswer MayFeed MayDrain shape numbers (at_end result)
    ⊎ (at_end result ≡ Err (error.System (record { kind = Other })))
    → IsWait shape numbers.children result
waited shape numbers (Ok output) (inl told) =
    let was = output_concluded MayAnswer MayFeed MayDrain shape numbers output told in
    record { status = exit_was numbers shape _ _ _ was; failing = never_was numbers shape _ _ _ was; message = λ texts is. tt }
waited shape numbers (Ok output) (inr other) = absurd (cc)
waited shape numbers (Err (error.Checked text)) (inl told) =
    let was = failure_concluded MayAnswer MayFeed MayDrain shape numbers text told in
    record {
      status = tt;
      failing = λ texts is. tt;
      message = λ texts is number one. by numbers shape _ was tt (→_prop (Coded-set (coded_list coded_ℕ) _ _))
          (λ told. (told (command texts) (number ∷ []) 0 is one).2.1);
    }
waited shape numbers (Err (error.Checked text)) (inr other) = absurd (cc)
waited shape numbers (Err e) told = record { status = tt; failing = λ texts is. tt; message = λ texts is. tt }

-- what the child of this number returns for an order
abbrev Answers : ℕ → Obeyed → Type 0
Answers number heard =
    ((status : ExitStatus) × MayAnswer number (Ok (Some status)) × (heard ≡ Ok tt))
    ⊎ MayObey true heard
    ⊎ (MayObey false heard × (heard ≡ Err (record { kind = OutOfMemory })))

answer_fails : (number : ℕ) (f : Fault) → Answers number (Err f) → f ≡ record { kind = OutOfMemory }
answer_fails number f (inl ended) = absurd (let ok = ended.2 in cc)
answer_fails number f (inr (inl obeyed)) = absurd (let ok : Err f ≡ Ok tt = obeyed in cc)
answer_fails number f (inr (inr unnoted)) = let is = unnoted.1 in cc

all_answer : (numbers : List ℕ) (answers : List Obeyed) → AllZip Answers numbers answers
    → (e : Error) → OrderAnswers (leftmost answers) (Err e)
    → e ≡ error.System (record { kind = OutOfMemory })
all_answer [] [] all e is = absurd (cc)
all_answer [] (answer ∷ answers) all e is = absurd all
all_answer (number ∷ numbers) [] all e is = absurd all
all_answer (number ∷ numbers) (Ok done ∷ answers) all e is = all_answer numbers answers all.1 e is
all_answer (number ∷ numbers) (Err f ∷ answers) all e is =
    let same : e ≡ error.System f = cc in same ∙ ap error.System (answer_fails number f all.0)

-- an order fails only where it was not noted, or where the handle is another's
pub unnoted : (numbers : List ℕ) (result : Result (Unit {0}) Error)
    → (result ≡ Err (error.System (record { kind = Other })))
    ⊎ ∥ ((answers : List Obeyed) × AllZip Answers numbers answers × OrderAnswers (leftmost answers) result) ∥₁
    → IfErr result IsUnnoted
unnoted numbers (Ok done) obeyed = tt
unnoted numbers (Err e) (inl other) =
    let same : e ≡ error.System (record { kind = Other }) = cc in ∣ inr same ∣₁
unnoted numbers (Err e) (inr told) =
    ∥∥₁_map told (λ all. inl (all_answer numbers all.0 all.1 e all.2))
