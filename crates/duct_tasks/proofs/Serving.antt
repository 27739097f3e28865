-- Where each turn of a service leaves it.
use Rattle.std.proofs.Common.{◌≡◌, ◌+◌, ◌<◌, ◌≤◌, ◌∙◌, refl, ap, sym, subst, arith, ℕ, zero, suc, Bool, true, false, if◌then◌else◌, List, [], ◌∷◌, length, map, min, Some, None, Option}
use Rattle.std.specs.Duration.{as_nanos, max_nanos}
use Rattle.std.specs.declared.time.Duration.{Duration}
use Rattle.duct_base.specs.Pool.{greatest}
use Rattle.duct_system.specs.Child.{ChildView}
use Rattle.duct_system.specs.declared.system.Order.{Order}
use Rattle.duct_system.specs.declared.system.Order.TheVariants.{Kill}
use Rattle.duct_tasks.proofs.Common.{Allows, Bytes, End, Error, Expression, HasOrders, LaunchRefused, PolledOnce, PoolView, Refuses, RunningView, RunsAlike, ShapeView, StaysSame, SystemViews, counted, draining, length-map}
use Rattle.duct_tasks.proofs.Ending.{if_none_with, if_some_with}
use Rattle.duct_tasks.proofs.Signalled.{orders_left, processes_after, processes_left, signals_left}
use Rattle.duct_tasks.proofs.Staying.{alike}
use Rattle.duct_tasks.specs.Groups.{AllGiven, Given, OrdersAll, Tries, leaders}
use Rattle.duct_tasks.specs.Pauses.{HasRested, longer_than, pause_after}
use Rattle.duct_tasks.specs.Services.{Halts, HasPassedIf, IsAfter, IsAt, IsLiveAt, Known, MayStart, Phase, Stand, StandsAt, StartedNone, after_end, after_start, is_over, known, rests_if}
use Rattle.duct_tasks.specs.Services.Phase.{asked, over, rests, runs}
use Rattle.duct_tasks.specs.Until.{HasPassed, HasReached, StoresEnd, UnlessEnded}
use Rattle.duct_tasks.specs.declared.keeper.Restarts.{Restarts}
use Rattle.duct_tasks.specs.declared.keeper.Why.{Why}
use Rattle.duct_tasks.specs.declared.keeper.Why.TheVariants.{Failed}
use Rattle.duct_tasks.specs.declared.late.Late.{Late}
use Rattle.duct_tasks.specs.declared.service.Live.{Live}
use Rattle.duct_tasks.specs.declared.service.Service.{Service}
use Rattle.duct_tasks.specs.declared.service.State.{State}
use Rattle.duct_tasks.specs.declared.service.State.TheVariants as state

-- whether so much time has passed between two moments
pub passed_if : (shows : Duration → Type 0) (time from to : Duration) (passed : Bool) → shows from
    → shows to → (passed ≡ true → min (as_nanos from + as_nanos time) max_nanos ≤ as_nanos to)
    → (passed ≡ false → as_nanos to < min (as_nanos from + as_nanos time) max_nanos)
    → HasPassedIf shows time passed
passed_if shows time from to true one other long short = (from, one, (to, other, long refl))
passed_if shows time from to false one other long short = (from, one, (to, other, short refl))

-- the pause after as many starts in a row, or after none
pub paused_if : (restarts : Restarts) (row before after : ℕ) (anew : Bool)
    → before ≡ pause_after restarts.pause restarts.greatest row
    → after ≡ (if anew then 0 else before)
    → after ≡ pause_after restarts.pause restarts.greatest (if anew then 0 else row)
paused_if restarts row before after true is same = same
paused_if restarts row before after false is same = same ∙ is

-- no child was given where the count stays below the greatest
none_given : (count more : ℕ) → counted count more ≡ count → count < greatest → more ≡ 0
none_given count zero same below = refl
none_given count (suc more) same below = absurd (omega (arith, same, below))

no_children : (started : List ChildView) (children : List ℕ)
    → map (λ c. c.number) started ≡ children → length started ≡ 0 → children ≡ []
no_children [] children is none = sym is
no_children (c ∷ started) children is none = absurd (omega (arith, none))

none_started : (started : List ChildView) (children : List ℕ)
    → map (λ c. c.number) started ≡ children → children ≡ [] → length started ≡ 0
none_started started children is none = sym (length-map started (λ c. c.number))
    ∙ ap (λ (numbers : List ℕ). length numbers) (is ∙ none)

module _ {S E C F D : Type 0} (views : SystemViews S E C F D (Unit {0}) Bytes) where
  -- polls leave what is known
  pub known_polled : (before after : RunningView C F D) → StaysSame views before after
      → PolledOnce views before after → known views after ≡ known views before
  known_polled before after stays polls =
      λ i. (alike views before after stays i, processes_left views before after polls i)

  -- so do orders
  pub known_ordered : (order : Order) (before after : RunningView C F D) (givens : List Given)
      → AllGiven views.may_obey order (map views.child before.children) givens
      (map views.child after.children)
      → RunsAlike views before after → known views after ≡ known views before
  known_ordered order before after givens all same =
      λ i. (same i, processes_after views order before after givens all i)

  -- what the count of the pool says of a start that was refused
  pub started_none : {H : Type 0} (allows : Allows H) (refuses : Refuses H) (root : Expression E H)
      (sys left : S) (pool kept : PoolView C) (e : Error) (none : Bool)
      → LaunchRefused views allows refuses draining root sys left pool kept e
      → (none ≡ true → (kept.given ≡ pool.given) × (pool.given < greatest))
      → (none ≡ false → kept.given ≡ pool.given → pool.given ≡ greatest)
      → StartedNone views (sys, pool) (left, kept) none
  started_none allows refuses root sys left pool kept e none l same full =
      let given = l.given in
      let count = given.3.given_is in record {
        none_is = λ is. no_children given.0 _ given.1 (none_given pool.given (length given.0)
            (sym count ∙ (same is).0) (same is).1);
        some_is = λ is empty. full is (count
            ∙ ap (λ (n : ℕ). counted pool.given n) (none_started given.0 _ given.1 empty));
      }

  module _ (restarts : Restarts) (shows : Duration → Type 0) where
    -- what was sent signal 15 was polled
    pub live_polled : (live : Live (RunningView C F D)) (after : RunningView C F D)
        (last : Duration) (phase : Phase) → StaysSame views live.running after
        → PolledOnce views live.running after → IsLiveAt views restarts shows (Some last) live phase
        → IsLiveAt views restarts shows (Some last) (record live { running = after }) phase
    live_polled live after last phase stays polls at = (
      at.0,
      at.1 ∙ ap (λ (k : Known). asked k at.0) (sym (known_polled live.running after stays polls)),
      at.2 ∙ ap (λ (s : ShapeView). leaders s) (sym polls.shape),
      signals_left views at.0 live.running after polls at.3,
      at.4,
    )

    -- and killed
    pub halts_of : {H : Type 0} (allows : Allows H) (refuses : Refuses H)
        (live : Live (RunningView C F D)) (polled killed : RunningView C F D) (late : Late)
        (last : Duration) (kills : Tries) (from to : S × PoolView C) (phase : Phase)
        → StaysSame views live.running polled → PolledOnce views live.running polled
        → StoresEnd views late.ended polled
        → UnlessEnded late.ended (HasReached shows (as_nanos last))
        → OrdersAll views Kill allows refuses kills from polled late.killed to killed
        → RunsAlike views polled killed → IsLiveAt views restarts shows (Some last) live phase
        → (tries : Tries) × (phase ≡ asked (known views killed) tries)
        × Halts views allows refuses shows restarts.grace late tries from killed to
    unfolding live_polled
    halts_of allows refuses live polled killed late last kills from to phase stays polls stores ends
        ordered same at =
        let after = live_polled live polled last phase stays polls at in
        let granted = at.4 in
        let passed : HasReached shows (as_nanos last) → HasPassed shows restarts.grace =
        λ reached. (
          granted.0,
          granted.1,
          subst (λ (n : ℕ). HasReached shows n) granted.2 reached,
        ) in (
          at.0,
          after.1 ∙ ap (λ (k : Known). asked k at.0)
              (sym (known_ordered Kill polled killed ordered.sent.givens ordered.sent.each same)),
          record {
            kills = kills;
            polled = polled;
            led = after.2;
            lapsed = (live.running, at.3, polls, stores);
            patient = (
              if_none_with late.ended ends.0 passed,
              if_some_with late.ended ends.1 (λ end were memory. passed (were memory)),
            );
            ordered = ordered;
            alike = same;
          },
        )

    -- it may be started again after a pause, or has failed
    pub stands_after : (may : Bool) (next : State (RunningView C F D)) (pause now : Duration)
        (stand : Stand) → stand.phase ≡ rests_if may → shows now
        → (may ≡ true → (from : Duration) × (next ≡ state.Rests from)
        × (as_nanos from ≡ min (as_nanos now + as_nanos pause) max_nanos))
        → (may ≡ false → next ≡ state.Over Failed)
        → StandsAt views restarts shows pause next stand
    stands_after true next pause now stand is shown again ends =
        let rest = again refl in
        subst (λ (s : State (RunningView C F D)). StandsAt views restarts shows pause s stand)
        (sym rest.1) (is, λ some. (now, shown, rest.2))
    stands_after false next pause now stand is shown again ends =
        subst (λ (s : State (RunningView C F D)). StandsAt views restarts shows pause s stand)
        (sym (ends refl)) is

    -- it was started once more
    pub started_at : (old new : Service (RunningView C F D)) (from : Stand) (last : Option End)
        (phase : Phase) → IsAt views restarts shows old from → new.starts ≡ counted old.starts 1
        → new.row ≡ old.row + 1
        → as_nanos new.pause ≡ longer_than restarts.pause restarts.greatest (as_nanos old.pause)
        → new.last ≡ last
        → StandsAt views restarts shows new.pause new.state (after_start from last phase)
        → IsAt views restarts shows new (after_start from last phase)
    started_at old new from last phase is starts row pause ends at =
        let next : suc from.row ≡ from.row + 1 = omega arith in record {
          starts = starts ∙ ap (λ (n : ℕ). counted n 1) is.starts;
          row = row ∙ ap (λ (n : ℕ). n + 1) is.row;
          last = ends;
          pause = pause
              ∙ ap (λ (n : ℕ). longer_than restarts.pause restarts.greatest n) is.pause
              ∙ ap (λ (n : ℕ). pause_after restarts.pause restarts.greatest n) next;
          at = at;
        }

    -- what runs of it has ended
    pub ended_at : (old anew : Service (RunningView C F D)) (from : Stand) (end : End)
        (is_healthy may : Bool) (next : State (RunningView C F D)) (now : Duration)
        → IsAt views restarts shows old from
        → anew ≡ record old { row = anew.row; pause = anew.pause }
        → anew.row ≡ (if is_healthy then 0 else old.row)
        → as_nanos anew.pause ≡ (if is_healthy then 0 else as_nanos old.pause)
        → may ≡ is_over end → shows now
        → (may ≡ true → (rest : Duration) × (next ≡ state.Rests rest)
        × (as_nanos rest ≡ min (as_nanos now + as_nanos anew.pause) max_nanos))
        → (may ≡ false → next ≡ state.Over Failed)
        → IsAt views restarts shows (record anew { last = Some end; state = next })
        (after_end from end is_healthy)
    ended_at old anew from end is_healthy may next now is stays row pause whether shown again ends =
        record {
          starts = ap (λ (s : Service (RunningView C F D)). s.starts) stays ∙ is.starts;
          row = row ∙ ap (λ (n : ℕ). if is_healthy then 0 else n) is.row;
          last = refl;
          pause = paused_if restarts from.row (as_nanos old.pause) (as_nanos anew.pause) is_healthy
              is.pause pause;
          at = stands_after may next anew.pause now (after_end from end is_healthy)
              (ap (λ (b : Bool). rests_if b) (sym whether)) shown again ends;
        }

    -- it is not started again
    pub left_at : (old : Service (RunningView C F D)) (from : Stand) (last ended : Option End)
        (why : Why) → IsAt views restarts shows old from → last ≡ ended
        → IsAt views restarts shows (record old { last = last; state = state.Over why })
        (record from { last = ended; phase = over why })
    left_at old from last ended why is same = record {
      starts = is.starts;
      row = is.row;
      last = same;
      pause = is.pause;
      at = refl;
    }

    -- what rests may be started after its pause
    pub rests_at : (old : Service (RunningView C F D)) (from : Stand) (rest : Duration)
        → old.state ≡ state.Rests rest → IsAt views restarts shows old from
        → (from.phase ≡ rests) × (0 < from.row → IsAfter views restarts shows old.pause rest)
    rests_at old from rest is at =
        subst (λ (s : State (RunningView C F D)). StandsAt views restarts shows old.pause s from) is
        at.at

    -- what runs is in a phase
    pub runs_at : (old : Service (RunningView C F D)) (from : Stand) (live : Live (RunningView C F D))
        (moment : Option Duration) → old.state ≡ state.Runs live → live.asked ≡ moment
        → IsAt views restarts shows old from → IsLiveAt views restarts shows moment live from.phase
    runs_at old from live moment is was at =
        subst (λ (a : Option Duration). IsLiveAt views restarts shows a live from.phase) was
        (subst (λ (s : State (RunningView C F D)). StandsAt views restarts shows old.pause s from) is
        at.at)

    -- what was given no order was polled
    pub unordered_polled : (old : Service (RunningView C F D)) (from : Stand)
        (live : Live (RunningView C F D)) (polled : RunningView C F D)
        → old.state ≡ state.Runs live → live.asked ≡ None → StaysSame views live.running polled
        → PolledOnce views live.running polled → IsAt views restarts shows old from
        → IsLiveAt views restarts shows None (record live { running = polled }) from.phase
    unordered_polled old from live polled is was stays polls at =
        let before = runs_at old from live None is was at in (
          before.0 ∙ ap (λ (k : Known). runs k) (sym (known_polled live.running polled stays polls)),
          orders_left views false live.running polled polls before.1,
          before.2,
        )

    -- it runs on
    pub goes_to : (old : Service (RunningView C F D)) (from : Stand) (live : Live (RunningView C F D))
        (phase : Phase) (moment : Option Duration) → IsAt views restarts shows old from
        → live.asked ≡ moment → IsLiveAt views restarts shows moment live phase
        → IsAt views restarts shows (record old { state = state.Runs live })
        (record from { phase = phase })
    goes_to old from live phase moment is was at = record {
      starts = is.starts;
      row = is.row;
      last = is.last;
      pause = is.pause;
      at = subst (λ (a : Option Duration). IsLiveAt views restarts shows a live phase) (sym was) at;
    }

    -- what rests may be started once the pause after the starts before has passed
    pub may_start : (stops : Bool) (old : Service (RunningView C F D)) (from : Stand)
        (rest now : Duration) → old.state ≡ state.Rests rest → IsAt views restarts shows old from
        → old.row < restarts.most → stops ≡ false → shows now → as_nanos rest ≤ as_nanos now
        → MayStart restarts (λ said. stops ≡ said) shows from
    may_start stops old from rest now is at few said shown passed =
        let before = rests_at old from rest is at in record {
          idle = before.0;
          few = omega (arith, few, at.row);
          asked = said;
          rested = λ some. let after = before.1 some in (
            old.pause,
            at.pause,
            (
              after.0,
              after.1,
              (
                now,
                shown,
                subst (λ (n : ℕ). n ≤ as_nanos now) after.2 passed,
              ),
            ),
          );
        }
