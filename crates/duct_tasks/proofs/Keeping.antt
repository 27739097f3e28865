-- Services that take turns, one thing after another.
use Rattle.std.proofs.Common.{◌≡◌, ◌<◌, ◌∙◌, refl, sym, subst, arith, inl, inr, ℕ, zero, suc, Bool, true, false, List, [], ◌∷◌, ◌++◌, All, length, map, get_or, set, slice_get, Some}
use Rattle.std.proofs.lemmas.Option.{slice_get_read}
use Rattle.std.specs.declared.time.Duration.{Duration}
use Rattle.duct_tasks.proofs.Common.{All-head, All-tail, AllZip, Allows, Bytes, Expression, PoolView, Refuses, RunningView, SystemViews}
use Rattle.duct_tasks.proofs.EachAttempt.{each_step}
use Rattle.duct_tasks.proofs.GroupLines.{folds_on}
use Rattle.duct_tasks.specs.Services.{Advances, CameTo, Deed, Goes, IsAt, IsDeed, IsFresh, IsKept, IsTurn, KeepsAll, MayLeave, MayStart, Stand, StandsAt, fresh}
use Rattle.duct_tasks.specs.Services.Deed.{asks, ends, halts, leaves, refused, starts}
use Rattle.duct_tasks.specs.declared.keeper.Kept.{Kept}
use Rattle.duct_tasks.specs.declared.keeper.Restarts.{Restarts}
use Rattle.duct_tasks.specs.declared.keeper.Services.{Services}
use Rattle.duct_tasks.specs.declared.keeper.Why.{Why}
use Rattle.duct_tasks.specs.declared.keeper.Why.TheVariants.{Failed, GaveUp, Stopped}
use Rattle.duct_tasks.specs.declared.service.Service.{Service}
use Rattle.duct_tasks.specs.declared.service.State.{State}
use Rattle.duct_tasks.specs.declared.service.State.TheVariants as state

module _ {X Y : Type 0} (P : X → Y → Type 0) where
  -- what holds at a place, and of others in that place
  zip_at : (xs : List X) (ys : List Y) (at : ℕ) (x : X) → x ≡ get_or xs at x → at < length xs
      → AllZip P xs ys
      → (y : Y) × (slice_get ys at ≡ Some y) × P x y
      × ((new : X) (left : Y) → P new left → AllZip P (set xs at new) (set ys at left))
      × ((new : X) → P new y → AllZip P (set xs at new) ys)
  zip_at [] [] at x is some all = absurd (omega (arith, some))
  zip_at [] (y ∷ ys) at x is some all = absurd all
  zip_at (first ∷ xs) [] at x is some all = absurd all
  zip_at (first ∷ xs) (y ∷ ys) zero x is some all = (
    y,
    refl,
    subst (λ (it : X). P it y) (sym is) all.0,
    λ new left holds. (holds, all.1),
    λ new holds. (holds, all.1),
  )
  zip_at (first ∷ xs) (y ∷ ys) (suc at) x is some all =
      let rest = zip_at xs ys at x is (omega (arith, some)) all.1 in (
        rest.0,
        rest.1,
        rest.2,
        λ new left holds. (all.0, rest.3 new left holds),
        λ new holds. (all.0, rest.4 new holds),
      )

  -- one more
  pub zip_more : (xs : List X) (ys : List Y) (x : X) (y : Y) → AllZip P xs ys → P x y
      → AllZip P (xs ++ x ∷ []) (ys ++ y ∷ [])
  zip_more [] [] x y all one = (one, tt)
  zip_more [] (b ∷ ys) x y all one = absurd all
  zip_more (a ∷ xs) [] x y all one = absurd all
  zip_more (a ∷ xs) (b ∷ ys) x y all one = (all.0, zip_more xs ys x y all.1 one)

module _ (restarts : Restarts) (P Q : Bool → Type 0) (on : (b : Bool) → P b → Q b)
    (shows : Duration → Type 0) where
  start_on : (from : Stand) → MayStart restarts P shows from → MayStart restarts Q shows from
  start_on from may = record {
    idle = may.idle;
    few = may.few;
    asked = on false may.asked;
    rested = may.rested;
  }

  leave_on : (why : Why) (from : Stand) → MayLeave restarts P shows why from
      → MayLeave restarts Q shows why from
  leave_on Stopped from may = on true may
  leave_on GaveUp from may = may
  leave_on Failed from may = absurd may

module _ {S E C F D : Type 0} (views : SystemViews S E C F D (Unit {0}) Bytes) (restarts : Restarts)
    (shows : Duration → Type 0) where
  fresh_at : (service : Service (RunningView C F D)) → IsFresh service
      → IsAt views restarts shows service fresh
  fresh_at service is = record {
    starts = is.0;
    row = is.1;
    last = is.3;
    pause = is.2;
    at = subst (λ (s : State (RunningView C F D)). StandsAt views restarts shows service.pause s fresh)
        (sym is.4.1) (refl, λ some. absurd (omega (arith, some)));
  }

  all_fresh : {T : Type 0} (services : List (Service (RunningView C F D))) (all : List T)
      → length services ≡ length all → All IsFresh services
      → AllZip (IsAt views restarts shows) services (map (λ root. fresh) all)
  all_fresh [] [] count are = tt
  all_fresh [] (root ∷ all) count are = absurd (omega (arith, count))
  all_fresh (service ∷ services) [] count are = absurd (omega (arith, count))
  all_fresh (service ∷ services) (root ∷ all) count are = (
    fresh_at service (All-head IsFresh service services are),
    all_fresh services all (omega (arith, count)) (All-tail IsFresh service services are),
  )

  kept_at : (service : Service (RunningView C F D)) (stand : Stand) (kept : Kept)
      → IsAt views restarts shows service stand → CameTo service kept → IsKept stand kept
  kept_at service stand kept is came = (
    came.0 ∙ is.starts,
    subst (λ (s : State (RunningView C F D)). StandsAt views restarts shows service.pause s stand)
        came.1 is.at,
    came.2 ∙ is.last,
  )

  all_kept : (services : List (Service (RunningView C F D))) (stands : List Stand) (kept : List Kept)
      → AllZip (IsAt views restarts shows) services stands → AllZip CameTo services kept
      → AllZip IsKept stands kept
  all_kept [] [] [] are came = tt
  all_kept [] [] (k ∷ kept) are came = absurd came
  all_kept [] (stand ∷ stands) kept are came = absurd are
  all_kept (service ∷ services) [] kept are came = absurd are
  all_kept (service ∷ services) (stand ∷ stands) [] are came = absurd came
  all_kept (service ∷ services) (stand ∷ stands) (k ∷ kept) are came = (
    kept_at service stand k are.0 came.0,
    all_kept services stands kept are.1 came.1,
  )

module _ {S E C F D : Type 0} (views : SystemViews S E C F D (Unit {0}) Bytes) {H : Type 0}
    (allows : Allows H) (refuses : Refuses H) {K : Type 0} (may_show : K → Duration → Type 0)
    (services : Services E H K) where
  module _ (P Q : Bool → Type 0) (on : (b : Bool) → P b → Q b) where
    deed_on : (root : Expression E H) (before : S × PoolView C) (from : Stand) (deed : Deed C F D)
        (after : S × PoolView C) (to : Stand)
        → IsDeed views allows refuses services.restarts P (may_show services.clock.now) root before
        from deed after to
        → IsDeed views allows refuses services.restarts Q (may_show services.clock.now) root before
        from deed after to
    deed_on root before from (starts running) after to is =
        (start_on services.restarts P Q on _ from is.0, is.1, is.2)
    deed_on root before from (refused e none) after to is =
        (start_on services.restarts P Q on _ from is.0, is.1, is.2, is.3)
    deed_on root before from (ends end waited is_healthy) after to is = is
    deed_on root before from (asks ran tries) after to is = (on true is.0, is.1, is.2, is.3)
    deed_on root before from (halts late killed tries) after to is = is
    deed_on root before from (leaves why) after to is =
        (is.0, leave_on services.restarts P Q on (may_show services.clock.now) why from is.1, is.2, is.3)

    turn_on : (before : (S × PoolView C) × List Stand) (turn : ℕ × Deed C F D)
        (after : (S × PoolView C) × List Stand)
        → IsTurn views allows refuses services.restarts P (may_show services.clock.now)
        services.all.now before turn after
        → IsTurn views allows refuses services.restarts Q (may_show services.clock.now)
        services.all.now before turn after
    turn_on before turn after is = record {
      root = is.root;
      root_is = is.root_is;
      from = is.from;
      from_is = is.from_is;
      to = is.to;
      to_is = is.to_is;
      deed = deed_on is.root before.0 is.from turn.1 after.0 is.to is.deed;
    }

    -- what is done because of one answer is done because of what follows from it
    pub goes_lifted : (before after : S × PoolView C) (olds news : List (Service (RunningView C F D)))
        → Goes views may_show services allows refuses P before olds after news
        → Goes views may_show services allows refuses Q before olds after news
    goes_lifted before after olds news goes from all =
        let went = goes from all in (
          went.0,
          went.1,
          went.2,
          each_step (IsTurn views allows refuses services.restarts P (may_show services.clock.now)
              services.all.now) (IsTurn views allows refuses services.restarts Q
              (may_show services.clock.now) services.all.now) turn_on (before, from) went.2
              (after, went.0) went.3,
        )

  module _ (says : Bool → Type 0) where
    -- nothing is done
    pub goes_none : (before : S × PoolView C) (olds : List (Service (RunningView C F D)))
        → Goes views may_show services allows refuses says before olds before olds
    goes_none before olds from all = (from, all, [], refl)

    -- something is done, and then more
    pub goes_then : (before mid after : S × PoolView C)
        (olds mids news : List (Service (RunningView C F D)))
        → Goes views may_show services allows refuses says before olds mid mids
        → Goes views may_show services allows refuses says mid mids after news
        → Goes views may_show services allows refuses says before olds after news
    goes_then before mid after olds mids news first second from all =
        let one = first from all in
        let two = second one.0 one.1 in (
          two.0,
          two.1,
          one.2 ++ two.2,
          folds_on (IsTurn views allows refuses services.restarts says
              (may_show services.clock.now) services.all.now) (before, from) one.2 (mid, one.0) two.2
              (after, two.0) one.3 two.3,
        )

    -- one service has a turn
    pub goes_one : (at : ℕ) (before after : S × PoolView C)
        (olds : List (Service (RunningView C F D))) (old new : Service (RunningView C F D))
        (root : Expression E H) → old ≡ get_or olds at old → at < length olds
        → root ≡ get_or services.all.now at root → length olds ≡ length services.all.now
        → Advances views may_show services allows refuses says root before old after new
        → Goes views may_show services allows refuses says before olds after (set olds at new)
    goes_one at before after olds old new root is some is_root count advances from all =
        let one = zip_at (IsAt views services.restarts (may_show services.clock.now)) olds from at old
        is some all in
        let made = advances one.0 one.2 in
        elim made.2 [
          | inl same ↦ (
            from,
            one.4 new (subst (λ (to : Stand). IsAt views services.restarts
                (may_show services.clock.now) new to) same.1 made.1),
            [],
            λ i. (sym same.0 i, from),
          )
          | inr done ↦ (
            set from at made.0,
            one.3 new made.0 made.1,
            (at, done.0) ∷ [],
            (
              (after, set from at made.0),
              record {
                root = root;
                root_is = slice_get_read services.all.now (length services.all.now) at root refl
                    (omega (arith, some, count)) is_root;
                from = one.0;
                from_is = one.1;
                to = made.0;
                to_is = refl;
                deed = done.1;
              },
              refl,
            ),
          )
        ]

    -- this came of all
    pub kept_all : (before after : S × PoolView C) (olds news : List (Service (RunningView C F D)))
        (kept : List Kept) → length olds ≡ length services.all.now → All IsFresh olds
        → Goes views may_show services allows refuses says before olds after news
        → AllZip CameTo news kept
        → KeepsAll views allows refuses services.restarts says (may_show services.clock.now)
        services.all.now before kept after
    kept_all before after olds news kept count are goes came =
        let went = goes (map (λ root. fresh) services.all.now)
        (all_fresh views services.restarts (may_show services.clock.now) olds services.all.now count
        are) in record {
          deeds = went.2;
          stands = went.0;
          went = went.3;
          came = all_kept views services.restarts (may_show services.clock.now) news went.0 kept went.1
              came;
        }
