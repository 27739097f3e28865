-- What is done for tasks, one thing after another, and where that leaves each.
use Rattle.std.proofs.Common.{◌≡◌, ◌+◌, ◌<◌, ◌≤◌, ◌∙◌, refl, ap, sym, subst, inl, inr, arith, ℕ, zero, suc, Bool, true, false, List, [], ◌∷◌, ◌++◌, length, length-append, map, take, get_or, set, sum_by, Ok, Err, Option, Result, ◌⊎◌, if◌then◌else◌}
use Rattle.std.specs.declared.time.Duration.{Duration}
use Rattle.std.proofs.lemmas.List.{take_more}
use Rattle.duct_base.proofs.Sieving.{counted_more}
use Rattle.duct_tasks.proofs.Common.{AllZip, Allows, Bytes, Expression, FoldsTo, PoolView, Refuses, RunningView, SystemViews, append_assoc, append-nil, counted, length-map, length-set, map-append, sum_by-cons, sum_by_push, Task, Running, Ended}
use Rattle.duct_tasks.proofs.Counting.{changed}
use Rattle.duct_tasks.proofs.Ends.{failure}
use Rattle.duct_tasks.proofs.EachAttempt.{each_step}
use Rattle.duct_tasks.proofs.GroupLines.{folds_on}
use Rattle.duct_tasks.specs.Tasks.{AreAtIf, AreEnds, Came, CameOf, Goes, HasCome, IsAt, IsAtMade, IsAtStep, IsDue, IsJob, IsMove, Launch, Move, Moves, OneFailed, ProceedsFrom, RanAll, Refusal, Start, StartsTask, TaskGoes, failed_of, given_by, has_failed, left_by, left_of, starts_of}
use Rattle.duct_tasks.specs.Tasks.Move.{starts, signals}
use Rattle.duct_tasks.specs.Turns.{GoesOn}
use Rattle.duct_tasks.specs.declared.finished.Finished.{Finished}
use Rattle.duct_tasks.specs.declared.finished.TaskEnd.{TaskEnd}
use Rattle.duct_tasks.specs.declared.finished.TaskEnd.TheVariants as end
use Rattle.duct_tasks.specs.declared.job.Job.{Job}
use Rattle.duct_tasks.specs.declared.job.Step.{Step}
use Rattle.duct_tasks.specs.declared.job.Step.TheVariants as step
use Rattle.duct_tasks.specs.declared.many.AtFailure.TheVariants.{Stop}
use Rattle.duct_tasks.specs.declared.many.Tasks.{Tasks}

module _ {E H C F D R : Type 0} where
  -- the starts of one thing after another
  pub starts_on : (xs ys : List (Move E H C F D R))
      → starts_of (xs ++ ys) ≡ starts_of xs ++ starts_of ys
  starts_on [] ys = refl
  starts_on (starts start given ∷ xs) ys =
      ap (λ (more : List (Start E H C F D R)). start ∷ more) (starts_on xs ys)
  starts_on (signals signal tried given ∷ xs) ys = starts_on xs ys

  -- how many children they give
  pub given_on : (xs ys : List (Move E H C F D R))
      → given_by (xs ++ ys) ≡ given_by xs + given_by ys
  given_on [] ys = omega arith
  given_on (starts start given ∷ xs) ys = omega (arith, given_on xs ys)
  given_on (signals signal tried given ∷ xs) ys = omega (arith, given_on xs ys)

module _ {S E C F D : Type 0} (views : SystemViews S E C F D (Unit {0}) Bytes) {R : Type 0}
    (may : ℕ → R → Type 0) {H : Type 0} (allows : Allows H) (refuses : Refuses H) {P Q : Type 0}
    (on : P → Q) where
  move_on : (before : S) (move : Move E H C F D R) (after : S)
      → IsMove views may allows refuses P before move after
      → IsMove views may allows refuses Q before move after
  move_on before (starts start given) after made = made
  move_on before (signals signal tried given) after (due, sent) = (on due, sent)

  -- what was due before is due later
  pub moves_on : (before : S) (moves : List (Move E H C F D R)) (after : S)
      → FoldsTo (IsMove views may allows refuses P) before moves after
      → FoldsTo (IsMove views may allows refuses Q) before moves after
  moves_on = each_step (IsMove views may allows refuses P) (IsMove views may allows refuses Q) move_on

module _ {S E C F D : Type 0} (views : SystemViews S E C F D (Unit {0}) Bytes) {R : Type 0}
    (remaining : R → Option (List ℕ)) (shows : Duration → Type 0) (grace : Duration)
    {P Q : Type 0} (on : P → Q) where
  step_on : (at : Step) (running : RunningView C F D) → IsAtStep views remaining shows grace P at running
      → IsAtStep views remaining shows grace Q at running
  step_on step.Runs running is = is
  step_on (step.Asked last) running (due, sent, ends) = (on due, sent, ends)
  step_on (step.Killed late last) running (due, killed) = (on due, killed)
  step_on (step.Failed e last) running is = is
  step_on (step.Over output) running is = is

  come_on : (came : TaskEnd) (running : RunningView C F D) → HasCome views remaining shows grace P came running
      → HasCome views remaining shows grace Q came running
  come_on (end.Refused e) running is = is
  come_on (end.Ended ended) running is = is
  come_on (end.Late late) running (due, killed) = (on due, killed)

  job_on : (words : List (List (List ℕ))) (launch : Launch C F D R)
      (job : Job (RunningView C F D) R)
      → IsJob views remaining shows grace P words launch job → IsJob views remaining shows grace Q words launch job
  job_on words launch job is = record {
    alike = is.alike;
    at_step = step_on job.step job.running is.at_step;
    out = is.out;
    err = is.err;
    words_are = is.words_are;
    noted = is.noted;
  }

  came_on : (words : List (List (List ℕ))) (launch : Launch C F D R) (finished : Finished)
      → CameOf views remaining shows grace P words launch finished
      → CameOf views remaining shows grace Q words launch finished
  came_on words launch finished is = record {
    running = is.running;
    alike = is.alike;
    has_come = come_on finished.end is.running is.has_come;
    read = is.read;
    noted = is.noted;
    took = is.took;
  }

  -- where a start has come, that is where it has come later
  pub made_on : {H : Type 0} (root : Expression E H) (made : Result (Launch C F D R) Refusal)
      (task : Task (RunningView C F D) R)
      → IsAtMade views remaining shows grace P root made task
      → IsAtMade views remaining shows grace Q root made task
  made_on root (Ok launch) (Running job) is = job_on _ launch job is
  made_on root (Err refusal) (Running job) is = absurd is
  made_on root (Ok launch) (Ended finished) is = came_on _ launch finished is
  made_on root (Err refusal) (Ended finished) is = is

module _ {X Y : Type 0} (P Q : X → Y → Type 0) where
  -- what follows for each follows for all
  zip_map : (xs : List X) (ys : List Y) → ((x : X) (y : Y) → P x y → Q x y) → AllZip P xs ys
      → AllZip Q xs ys
  zip_map [] [] step all = tt
  zip_map [] (y ∷ ys) step all = absurd all
  zip_map (x ∷ xs) [] step all = absurd all
  zip_map (x ∷ xs) (y ∷ ys) step all = (step x y all.0, zip_map xs ys step all.1)

module _ {X Y : Type 0} (P : X → Y → Type 0) where
  -- one more
  zip_push : (xs : List X) (ys : List Y) (x : X) (y : Y) → AllZip P xs ys → P x y
      → AllZip P (xs ++ x ∷ []) (ys ++ y ∷ [])
  zip_push [] [] x y all one = (one, tt)
  zip_push [] (b ∷ ys) x y all one = absurd all
  zip_push (a ∷ xs) [] x y all one = absurd all
  zip_push (a ∷ xs) (b ∷ ys) x y all one = (all.0, zip_push xs ys x y all.1 one)

  -- another in a place
  zip_set : (xs : List X) (ys : List Y) (at : ℕ) (before after : Y) → before ≡ get_or ys at before
      → at < length ys → ((x : X) → P x before → P x after) → AllZip P xs ys
      → AllZip P xs (set ys at after)
  zip_set [] [] at before after is some step all = absurd (omega (arith, some))
  zip_set [] (b ∷ ys) at before after is some step all = absurd all
  zip_set (a ∷ xs) [] at before after is some step all = absurd all
  zip_set (a ∷ xs) (b ∷ ys) zero before after is some step all =
      (step a (subst (λ (y : Y). P a y) (sym is) all.0), all.1)
  zip_set (a ∷ xs) (b ∷ ys) (suc at) before after is some step all =
      (all.0, zip_set xs ys at before after is (omega (arith, some)) step all.1)

-- what is due before is due later
pub due_on : (shows : Duration → Type 0) (limit : Option Duration) (from to : Bool)
    → (from ≡ true → to ≡ true) → IsDue shows limit from → IsDue shows limit to
due_on shows limit from to grows (inl past) = inl past
due_on shows limit from to grows (inr is) = inr (grows is)

module _ {S E C F D : Type 0} (views : SystemViews S E C F D (Unit {0}) Bytes) {R : Type 0}
    (may : ℕ → R → Type 0) (remaining : R → Option (List ℕ)) {H : Type 0} (allows : Allows H)
    (refuses : Refuses H) {K : Type 0} (may_show : K → Duration → Type 0) (tasks : Tasks E H K)
  where
    abbrev Went : Bool → S → List (Move E H C F D R) → S → Type 0
    Went = Moves views may remaining allows refuses may_show tasks

    abbrev WentFrom : Bool → Bool → S → List (Move E H C F D R) → S → Type 0
    WentFrom = ProceedsFrom views may remaining allows refuses may_show tasks

    -- nothing is done
    nothing : (from to : Bool) (sys : S) → (from ≡ true → to ≡ true) → WentFrom from to sys [] sys
    nothing false false sys grows = refl
    nothing false true sys grows = ([], [], sys, refl, refl, refl, refl)
    nothing true to sys grows = (refl, refl)

    -- none is started
    only_turns : (stopped : Bool) (sys : S) (moves : List (Move E H C F D R)) (left : S)
        → Went stopped sys moves left → starts_of moves ≡ []
        → WentFrom stopped stopped sys moves left
    only_turns false sys moves left went none = went
    only_turns true sys moves left went none = (went, none)

    -- something is done, and then more
    moves_then : (from to : Bool) (sys : S) (xs : List (Move E H C F D R)) (between : S)
        (ys : List (Move E H C F D R)) (left : S) → (from ≡ true → to ≡ true)
        → Went from sys xs between → Went to between ys left → Went to sys (xs ++ ys) left
    moves_then from to sys xs between ys left grows first next =
        folds_on (IsMove views may allows refuses (IsDue (may_show tasks.clock.now) tasks.limit to))
        sys xs between ys left (moves_on views may allows refuses
        (due_on (may_show tasks.clock.now) tasks.limit from to grows) sys xs between first) next

    -- none is started after none was
    none_then : (xs ys : List (Move E H C F D R)) → starts_of xs ≡ [] → starts_of ys ≡ []
        → starts_of (xs ++ ys) ≡ []
    none_then xs ys none more = starts_on xs ys
        ∙ ap (λ (all : List (Start E H C F D R)). all ++ starts_of ys) none ∙ more

    -- the same of what a failure may stop
    proceeds_then : (from mid to : Bool) (sys : S) (xs : List (Move E H C F D R)) (between : S)
        (ys : List (Move E H C F D R)) (left : S) → (from ≡ true → mid ≡ true)
        → (mid ≡ true → to ≡ true) → WentFrom from mid sys xs between
        → WentFrom mid to between ys left → WentFrom from to sys (xs ++ ys) left
    proceeds_then false false false sys xs between ys left grows more first next =
        moves_then false false sys xs between ys left more first next
    proceeds_then false false true sys xs between ys left grows more first
        (early, late, middle, are, went, stops, none) = (
          xs ++ early,
          late,
          middle,
          ap (λ (all : List (Move E H C F D R)). xs ++ all) are ∙ sym (append_assoc xs early late),
          moves_then false false sys xs between early middle grows first went,
          stops,
          none,
        )
    proceeds_then false true false sys xs between ys left grows more first next =
        absurd (let no = more refl in cc)
    proceeds_then false true true sys xs between ys left grows more
        (early, late, middle, are, went, stops, none) (next, no_more) = (
          early,
          late ++ ys,
          middle,
          ap (λ (all : List (Move E H C F D R)). all ++ ys) are ∙ append_assoc early late ys,
          went,
          moves_then true true middle late between ys left more stops next,
          none_then late ys none no_more,
        )
    proceeds_then true false to sys xs between ys left grows more first next =
        absurd (let no = grows refl in cc)
    proceeds_then true true to sys xs between ys left grows more (first, none) (next, no_more) =
        (moves_then true to sys xs between ys left more first next, none_then xs ys none no_more)

-- what came of each start, once each task has ended
zip_ended : {S E C F D H R : Type 0} (views : SystemViews S E C F D (Unit {0}) Bytes)
    (remaining : R → Option (List ℕ)) (shows : Duration → Type 0) (grace : Duration) (due : Type 0)
    (ss : List (Start E H C F D R)) (ends : List Finished)
    → AllZip (IsAt views remaining shows grace due) ss (map (λ f. Ended f) ends)
    → AllZip (Came views remaining shows grace due) ss ends
zip_ended views remaining shows grace due [] [] all = tt
zip_ended views remaining shows grace due [] (f ∷ ends) all = absurd all
zip_ended views remaining shows grace due (s ∷ ss) [] all = absurd all
zip_ended views remaining shows grace due (s ∷ ss) (f ∷ ends) all =
    (all.0, zip_ended views remaining shows grace due ss ends all.1)

module _ (T L : Type 0) where
  -- one of these has failed
  fails_here : (f : Finished) (ends : List Finished) (failed : Bool) → has_failed f ≡ failed
      → 0 < sum_by (λ (t : Task T L). failed_of t) (map (λ f. Ended f) (f ∷ ends))
      → (0 < sum_by (λ (t : Task T L). failed_of t) (map (λ f. Ended f) ends) → OneFailed ends)
      → OneFailed (f ∷ ends)
  fails_here f ends true is some later = (f, (0, omega arith, refl), is)
  fails_here f ends false is some later =
      let more = sum_by-cons (λ (t : Task T L). failed_of t) (Ended f) (map (λ f. Ended f) ends) in
      let none : failed_of {R = T} {L = L} (Ended f) ≡ 0 =
      ap (λ (b : Bool). if b then 1 else 0) is in
      let one = later (omega (arith, more, none, some)) in
      (one.0, (suc one.1.0, omega (arith, one.1.1), one.1.2), one.2)

  one_failed : (ends : List Finished)
      → 0 < sum_by (λ (t : Task T L). failed_of t) (map (λ f. Ended f) ends) → OneFailed ends
  one_failed [] some = absurd (omega (arith, some))
  one_failed (f ∷ ends) some =
      fails_here f ends (has_failed f) refl some (λ more. one_failed ends more)

  -- the children that all of them gave
  sum_left : (ends : List Finished) → sum_by (λ (t : Task T L). left_of t)
      (map (λ f. Ended f) ends) ≡ sum_by left_by ends
  sum_left [] = refl
  sum_left (f ∷ ends) =
      sum_by-cons (λ (t : Task T L). left_of t) (Ended f) (map (λ f. Ended f) ends)
      ∙ ap (λ (n : ℕ). left_by f + n) (sum_left ends) ∙ sym (sum_by-cons left_by f ends)

module _ {S E C F D : Type 0} (views : SystemViews S E C F D (Unit {0}) Bytes) {R : Type 0}
    (remaining : R → Option (List ℕ)) {H K : Type 0} (may_show : K → Duration → Type 0) where
  -- where starts have come, that is where they have come later
  are_on : (tasks : Tasks E H K) (from to : Bool) → (from ≡ true → to ≡ true)
      → (ss : List (Start E H C F D R)) (items : List (Task (RunningView C F D) R))
      → AreAtIf views remaining may_show tasks from ss items
      → AreAtIf views remaining may_show tasks to ss items
  are_on tasks from to grows ss items are = record {
    at = zip_map _ _ ss items
        (λ s task is. made_on views remaining (may_show tasks.clock.now) tasks.grace
        (due_on (may_show tasks.clock.now) tasks.limit from to grows) s.root s.made task is) are.at;
    roots = are.roots;
  }

module _ {S E C F D : Type 0} {views : SystemViews S E C F D (Unit {0}) Bytes} {R : Type 0}
    {may : ℕ → R → Type 0} {remaining : R → Option (List ℕ)} {H : Type 0} {allows : Allows H}
    {refuses : Refuses H} {K : Type 0} {may_show : K → Duration → Type 0} where
  -- nothing is done
  pub goes_raised : (tasks : Tasks E H K) (from to : Bool) → (from ≡ true → to ≡ true)
      → (items : List (Task (RunningView C F D) R)) (sys : S) (had : ℕ)
      → Goes views may remaining allows refuses may_show tasks from to items items sys sys had had
  goes_raised tasks from to grows items sys had = record {
    grows = grows;
    moves = [];
    went = nothing views may remaining allows refuses may_show tasks from to sys grows;
    more = 0;
    more_is = omega arith;
    counts = refl;
    on = λ ss are. subst (λ (all : List (Start E H C F D R)). AreAtIf views remaining may_show tasks to all items) (sym (append-nil ss))
        (are_on views remaining may_show tasks from to grows ss items are);
  }

  pub goes_nowhere : (tasks : Tasks E H K) (stopped : Bool) (items : List (Task (RunningView C F D) R)) (sys : S) (had : ℕ)
      → Goes views may remaining allows refuses may_show tasks stopped stopped items items sys sys
      had had
  goes_nowhere tasks stopped items sys had =
      goes_raised tasks stopped stopped (λ is. is) items sys had

  -- something is done, and then more
  pub goes_on : {tasks others : Tasks E H K} {from mid to : Bool} {one two three : List (Task (RunningView C F D) R)}
      {sys between left : S} {had middle has : ℕ} → others ≡ tasks
      → Goes views may remaining allows refuses may_show tasks from mid one two sys between had
      middle
      → Goes views may remaining allows refuses may_show others mid to two three between left middle
      has
      → Goes views may remaining allows refuses may_show tasks from to one three sys left had has
  goes_on {tasks} {others} {from} {mid} {to} {one} {two} {three} {sys} {between} {left} {had}
      {middle} {has} same first second =
      let next = subst (λ (t : Tasks E H K). Goes views may remaining allows refuses may_show t mid
      to two three between left middle has) same second in
      let sum = given_on first.moves next.moves in
      record {
        grows = λ is. next.grows (first.grows is);
        moves = first.moves ++ next.moves;
        went = proceeds_then views may remaining allows refuses may_show tasks from mid to sys
            first.moves between next.moves left first.grows next.grows first.went next.went;
        more = first.more + next.more;
        more_is = omega (arith, first.more_is, next.more_is);
        counts = next.counts
            ∙ ap (λ (n : ℕ). counted n (given_by next.moves + next.more)) first.counts
            ∙ counted_more had (given_by first.moves + first.more)
            (given_by next.moves + next.more)
            ∙ ap (λ (n : ℕ). counted had n) (omega (arith, sum));
        on = λ ss are. subst (λ (all : List (Start E H C F D R)). AreAtIf views remaining may_show tasks to all three)
            (append_assoc ss (starts_of first.moves) (starts_of next.moves)
            ∙ ap (λ (more : List (Start E H C F D R)). ss ++ more)
            (sym (starts_on first.moves next.moves)))
            (next.on (ss ++ starts_of first.moves) (first.on ss are));
      }

  -- a task goes on
  pub goes_at : (tasks : Tasks E H K) (stopped : Bool) (at : ℕ) (items : List (Task (RunningView C F D) R))
      (before after : Task (RunningView C F D) R) {sys left : S} {had has : ℕ}
      → before ≡ get_or items at before → at < length items
      → TaskGoes views may remaining allows refuses may_show tasks stopped before after sys left had
      has
      → Goes views may remaining allows refuses may_show tasks stopped stopped items
      (set items at after) sys left had has
  goes_at tasks stopped at items before after {sys} {left} is some goes =
      let sums = changed (λ (t : Task (RunningView C F D) R). left_of t) before after at items is some
      in record {
        grows = λ it. it;
        moves = goes.moves;
        went = only_turns views may remaining allows refuses may_show tasks stopped sys goes.moves
            left goes.went goes.none;
        more = goes.more;
        more_is = omega (arith, sums.0, sums.1, goes.more_is);
        counts = goes.counts;
        on = λ ss are. subst (λ (all : List (Start E H C F D R)). AreAtIf views remaining may_show tasks stopped all (set items at after))
            (sym (append-nil ss)
            ∙ ap (λ (more : List (Start E H C F D R)). ss ++ more) (sym goes.none))
            (record {
              at = zip_set _ ss items at before after is some goes.on are.at;
              roots = are.roots
                  ∙ ap (λ (n : ℕ). take n tasks.all.now) (sym (length-set items at after));
            });
      }

  -- a task is started
  pub goes_next : (tasks : Tasks E H K) (items : List (Task (RunningView C F D) R)) (root : Expression E H)
      (task : Task (RunningView C F D) R) {sys left : S} {had has : ℕ}
      → root ≡ get_or tasks.all.now (length items) root → length items < length tasks.all.now
      → StartsTask views may remaining allows refuses may_show tasks root sys left had has task
      → Goes views may remaining allows refuses may_show tasks false false items
      (items ++ task ∷ []) sys left had has
  goes_next tasks items root task {sys} {left} {had} {has} is some s =
      let start : Start E H C F D R = record { root = root; made = s.made } in
      let count = length-append items (task ∷ []) in
      record {
        grows = λ it. it;
        moves = starts start s.given ∷ [];
        went = (left, s.makes, refl);
        more = 0;
        more_is = omega (
          arith,
          s.none,
          sum_by_push (λ (t : Task (RunningView C F D) R). left_of t) items task,
        );
        counts = s.counts ∙ ap (λ (n : ℕ). counted had n) (omega arith);
        on = λ ss are. record {
          at = zip_push _ ss items start task are.at s.at;
          roots = map-append (λ (x : Start E H C F D R). x.root) ss (start ∷ [])
              ∙ ap (λ (rs : List (Expression E H)). rs ++ root ∷ []) are.roots
              ∙ ap (λ (x : Expression E H). take (length items) tasks.all.now ++ x ∷ []) is
              ∙ sym (take_more tasks.all.now (length items) root some)
              ∙ ap (λ (n : ℕ). take n tasks.all.now) (omega (arith, count));
        };
      }

  -- what came of all tasks
  pub ran_all : (tasks : Tasks E H K) (ends : List Finished) (items : List (Task (RunningView C F D) R)) (stopped failed : Bool)
      (sys left : S) (pool kept : PoolView C)
      → Goes views may remaining allows refuses may_show tasks false stopped [] items sys left
      pool.given kept.given
      → AreEnds items ends → (failed ≡ true → 0 < sum_by failed_of items)
      → (length tasks.all.now ≤ length items) ⊎ (GoesOn tasks.at_failure failed → ⊥)
      → length items ≤ length tasks.all.now
      → (stopped ≡ true → (failed ≡ true) × (tasks.at_failure ≡ Stop))
      → RanAll views may remaining allows refuses may_show tasks (sys, pool) ends (left, kept)
  ran_all tasks ends items stopped failed sys left pool kept goes are fails over within stops =
      let ended = subst (λ (ts : List (Task (RunningView C F D) R)). Goes views may remaining allows refuses may_show tasks
      false stopped [] ts sys left pool.given kept.given) are goes in
      let at = ended.on [] (record { at = tt; roots = refl }) in
      let count : length items ≡ length ends =
      ap (λ (ts : List (Task (RunningView C F D) R)). length ts) are ∙ length-map ends (λ f. Ended f) in
      let one : failed ≡ true → OneFailed ends = λ is. one_failed (RunningView C F D) R ends
      (subst (λ (ts : List (Task (RunningView C F D) R)). 0 < sum_by failed_of ts) are (fails is)) in
      record {
        stopped = stopped;
        moves = ended.moves;
        went = ended.went;
        came = zip_ended views remaining (may_show tasks.clock.now) tasks.grace _ (starts_of ended.moves) ends at.at;
        roots = at.roots ∙ ap (λ (n : ℕ). take n tasks.all.now) (length-map ends (λ f. Ended f));
        pool = ended.counts ∙ ap (λ (n : ℕ). counted pool.given (given_by ended.moves + n))
            (omega (arith, ended.more_is, sum_left (RunningView C F D) R ends));
        all = elim over [
          | inl all ↦ inl (omega (arith, all, within, count))
          | inr ends_it ↦ inr (
              let f = failure tasks.at_failure failed ends_it in (f.0, one f.1))
        ];
        orders = λ is. let stop = stops is in (stop.1, one stop.0);
      }
