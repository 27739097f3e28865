-- Services in one loop: what is done for each, one thing after another, and what came of each.
use Rattle.std.specs.Prelude.{ℕ, pos, ◌+◌, ◌<◌, ◌≤◌, ◌≡◌, ◌⊎◌, Bool, true, false, if◌then◌else◌, List, [], length, map, min, set, slice_get, is_some, Ok, Err, Some, None, Option, Result}
use Rattle.std.specs.Duration.{as_nanos, max_nanos}
use Rattle.std.specs.List.{AllZip, FoldsTo}
use Rattle.std.specs.declared.time.Duration.{Duration}
use Rattle.duct_base.specs.Pool.{PoolView, counted, greatest}
use Rattle.duct_system.specs.Started.{children_in}
use Rattle.duct_system.specs.SystemViews.{SystemViews}
use Rattle.duct_system.specs.declared.error.Error.{Error}
use Rattle.duct_system.specs.declared.error.Error.TheVariants as error
use Rattle.duct_system.specs.declared.system.Order.TheVariants.{Kill}
use Rattle.duct_status.specs.ShapeView.{ShapeView, shape_view}
use Rattle.duct_start.specs.Chain.{Allows, Refuses}
use Rattle.duct_start.specs.Running.{RunningView}
use Rattle.duct_run.specs.Requested.{PoolGets}
use Rattle.duct_running.specs.NumbersView.{NumbersView}
use Rattle.duct_running.specs.Stored.{Bytes}
use Rattle.duct.specs.Launched.{LaunchRefused, Launched, Runs, added_between, draining}
use Rattle.duct.specs.declared.expression.Expression.{Expression}
use Rattle.duct_tasks.specs.Groups.{OrdersAll, SignalsGroups, Tries, leaders, processes_of}
use Rattle.duct_tasks.specs.Pauses.{HasRested, pause_after}
use Rattle.duct_tasks.specs.Turns.{HasOrders, gives}
use Rattle.duct_tasks.specs.Until.{AreSignalled, End, HasLapsed, HasPassed, HasShownLess, RunsAlike, StoresEnd, UnlessEnded, seen}
use Rattle.duct_tasks.specs.declared.keeper.Kept.{Kept}
use Rattle.duct_tasks.specs.declared.keeper.Restarts.{Restarts}
use Rattle.duct_tasks.specs.declared.keeper.Services.{Services}
use Rattle.duct_tasks.specs.declared.keeper.Why.{Why}
use Rattle.duct_tasks.specs.declared.keeper.Why.TheVariants.{Stopped, GaveUp, Failed}
use Rattle.duct_tasks.specs.declared.late.Late.{Late}
use Rattle.duct_tasks.specs.declared.service.Live.{Live}
use Rattle.duct_tasks.specs.declared.service.Service.{Service}
use Rattle.duct_tasks.specs.declared.service.State.{State}
use Rattle.duct_tasks.specs.declared.service.State.TheVariants as state

-- whether each command of an expression that ended like this has ended: with an output, or a
-- checked failure
abbrev pub is_over : End → Bool
is_over (Ok output) = true
is_over (Err (error.Checked text)) = true
is_over (Err other) = false

-- what is known of what runs: its shape, its numbers, and the ids of its processes
abbrev pub Known : Type 0
Known = (ShapeView × NumbersView) × List ℕ

-- how far a service has come: nothing of it runs, and it may be started again; this runs, and was
-- given no order; this was sent signal 15, for which groups were tried like this; or it is not
-- started again
pub data Phase : Type 0 where
  rests : Phase
  runs : Known → Phase
  asked : Known → Tries → Phase
  over : Why → Phase

-- where a service stands: how often it was started, how many of these starts are in a row, which
-- are those since the last run of a healthy length, how the last one ended, and how far it has come
pub record Stand : Type 0 where
  pub starts : ℕ
  pub row : ℕ
  pub last : Option End
  pub phase : Phase

-- a service before its first start
abbrev pub fresh : Stand
fresh = record { starts = 0; row = 0; last = None; phase = rests }

-- a service after one more start
abbrev pub after_start : Stand → Option End → Phase → Stand
after_start from last phase =
    record { starts = counted from.starts 1; row = from.row + 1; last = last; phase = phase }

-- it may be started again, or it has failed
abbrev pub rests_if : Bool → Phase
rests_if true = rests
rests_if false = over Failed

-- a service after an end by itself, of a run of a healthy length or not
abbrev pub after_end : Stand → End → Bool → Stand
after_end from end is_healthy = record {
  starts = from.starts;
  row = if is_healthy then 0 else from.row;
  last = Some end;
  phase = rests_if (is_over end);
}

-- what is done for a service: it is started; or that is refused, where this says whether no child
-- was started; what ran ends by itself, after a healthy length or not; it is sent signal 15; it
-- ends after that, or is killed; or there is no further start
pub data Deed (C F D : Type 0) : Type 0 where
  starts : RunningView C F D → Deed C F D
  refused : Error → Bool → Deed C F D
  ends : End → RunningView C F D → Bool → Deed C F D
  asks : Known → Tries → Deed C F D
  halts : Late → RunningView C F D → Tries → Deed C F D
  leaves : Why → Deed C F D

-- this came of a service
abbrev pub IsKept : Stand → Kept → Type 0
IsKept stand kept =
    (kept.starts ≡ stand.starts) × (stand.phase ≡ over kept.why) × (kept.last ≡ stand.last)

-- whether so much time has passed on the clock between two moments
abbrev pub HasPassedIf : (Duration → Type 0) → Duration → Bool → Type 0
HasPassedIf shows length true = HasPassed shows length
HasPassedIf shows length false =
    (moment : Duration) × shows moment
    × HasShownLess shows (min (as_nanos moment + as_nanos length) max_nanos)

module _ (restarts : Restarts) (says : Bool → Type 0) (shows : Duration → Type 0) where
  -- a service may be started: nothing of it runs, there were fewer starts in a row than there may
  -- be, the stop function has said no, and the pause after the last of these starts has passed
  pub record MayStart (from : Stand) : Type 0 where
    pub idle : from.phase ≡ rests
    pub few : from.row < restarts.most
    pub asked : says false
    pub rested : 0 < from.row → HasRested shows restarts.pause restarts.greatest from.row

  -- why there is no further start of a service of which nothing runs
  abbrev pub MayLeave : Why → Stand → Type 0
  MayLeave Stopped from = says true
  MayLeave GaveUp from = restarts.most ≤ from.row
  MayLeave Failed from = ⊥

module _ {S E C F D : Type 0} (views : SystemViews S E C F D (Unit {0}) Bytes) where
  -- what is known of what runs
  abbrev pub known : RunningView C F D → Known
  known running = (seen views running, processes_of views running)

  -- the pool was given the children of what failed; or it is as before
  abbrev pub Spends : Bool → RunningView C F D → PoolView C → PoolView C → Type 0
  Spends true running before after = PoolGets views running.children before after
  Spends false running before after = after ≡ before

  -- whether no child was started between two states of a system, as the count of the pool says
  pub record StartedNone (before after : S × PoolView C) (none : Bool) : Type 0 where
    pub none_is : none ≡ true → children_in (added_between views before.0 after.0) ≡ []
    pub some_is : none ≡ false → children_in (added_between views before.0 after.0) ≡ []
        → before.1.given ≡ greatest

  module _ {H : Type 0} (allows : Allows H) (refuses : Refuses H) where
    -- what was sent signal 15 was polled, and had ended like this, or the grace had passed; and
    -- then what had not ended of it was killed, and the groups of its commands that lead one
    pub record Halts (shows : Duration → Type 0) (grace : Duration) (late : Late) (tries : Tries)
        (before : S × PoolView C) (killed : RunningView C F D) (after : S × PoolView C) : Type 0
      where
        pub kills : Tries
        pub polled : RunningView C F D
        pub led : map (λ t. is_some t) tries ≡ leaders (shape_view polled.shape)
        pub lapsed : HasLapsed views tries late.ended polled
        pub patient : UnlessEnded late.ended (HasPassed shows grace)
        pub ordered : OrdersAll views Kill allows refuses kills before polled late.killed after
            killed
        pub alike : RunsAlike views polled killed

    module _ (restarts : Restarts) (says : Bool → Type 0) (shows : Duration → Type 0)
        (root : Expression E H) where
      -- what is done for a service with this expression, which moves it from where it stands
      abbrev pub IsDeed : S × PoolView C → Stand → Deed C F D → S × PoolView C → Stand → Type 0
      IsDeed before from (starts running) after to =
          MayStart restarts says shows from
          × Launched views allows draining root before.0 after.0 before.1 after.1
          (Runs views running)
          × (to ≡ after_start from from.last (runs (known running)))
      IsDeed before from (refused e none) after to =
          MayStart restarts says shows from
          × LaunchRefused views allows refuses draining root before.0 after.0 before.1 after.1 e
          × StartedNone before after none × (to ≡ after_start from (Some (Err e)) (rests_if none))
      IsDeed before from (ends end waited is_healthy) after to =
          (from.phase ≡ runs (known waited)) × HasOrders views false waited
          × StoresEnd views (Some end) waited × HasPassedIf shows restarts.healthy is_healthy
          × (after.0 ≡ before.0) × Spends (gives (Some end)) waited before.1 after.1
          × (to ≡ after_end from end is_healthy)
      IsDeed before from (asks ran tries) after to =
          says true × (from.phase ≡ runs ran)
          × SignalsGroups views allows refuses (pos 15) ran.0.0 ran.1 tries before after
          × (to ≡ record from { phase = asked ran tries })
      IsDeed before from (halts late killed tries) after to =
          (from.phase ≡ asked (known killed) tries)
          × ((between : PoolView C)
          × Halts shows restarts.grace late tries before killed (after.0, between)
          × Spends (gives late.ended) killed between after.1)
          × (to ≡ record from { last = late.ended; phase = over Stopped })
      IsDeed before from (leaves why) after to =
          (from.phase ≡ rests) × MayLeave restarts says shows why from × (after ≡ before)
          × (to ≡ record from { phase = over why })

    module _ (restarts : Restarts) (says : Bool → Type 0) (shows : Duration → Type 0)
        (all : List (Expression E H)) where
      -- something is done for the service at a place, which moves it alone
      pub record IsTurn (before : (S × PoolView C) × List Stand) (turn : ℕ × Deed C F D)
          (after : (S × PoolView C) × List Stand) : Type 0 where
        pub root : Expression E H
        pub root_is : slice_get all turn.0 ≡ Some root
        pub from : Stand
        pub from_is : slice_get before.1 turn.0 ≡ Some from
        pub to : Stand
        pub to_is : after.1 ≡ set before.1 turn.0 to
        pub deed : IsDeed restarts says shows root before.0 from turn.1 after.0 to

      -- from before their first starts on, one thing after another is done for the services, until
      -- there is no further start of any; and this came of each
      pub record KeepsAll (before : S × PoolView C) (kept : List Kept) (after : S × PoolView C)
          : Type 0 where
        pub deeds : List (ℕ × Deed C F D)
        pub stands : List Stand
        pub went : FoldsTo IsTurn (before, map (λ root. fresh) all) deeds (after, stands)
        pub came : AllZip IsKept stands kept

-- it is not started again
abbrev pub IsOver : {R : Type 0} → State R → Type 0
IsOver (state.Rests from) = ⊥
IsOver (state.Runs live) = ⊥
IsOver (state.Over why) = Unit {0}

-- this came of a service
abbrev pub CameTo : {R : Type 0} → Service R → Kept → Type 0
CameTo service kept =
    (kept.starts ≡ service.starts) × (service.state ≡ state.Over kept.why)
    × (kept.last ≡ service.last)

-- a service before its first start
abbrev pub IsFresh : {R : Type 0} → Service R → Type 0
IsFresh service =
    (service.starts ≡ 0) × (service.row ≡ 0) × (as_nanos service.pause ≡ 0)
    × (service.last ≡ None) × ((from : Duration) × (service.state ≡ state.Rests from))

-- the same of a service
abbrev pub HasLeft : {R : Type 0} → Service R → Type 0
HasLeft service = IsOver service.state

module _ {S E C F D : Type 0} (views : SystemViews S E C F D (Unit {0}) Bytes) (restarts : Restarts)
    (shows : Duration → Type 0) where
  -- this moment is so long after one that the clock showed
  abbrev pub IsAfter : Duration → Duration → Type 0
  IsAfter length moment =
      (from : Duration) × shows from
      × (as_nanos moment ≡ min (as_nanos from + as_nanos length) max_nanos)

  -- what runs is in this phase
  abbrev pub IsLiveAt : Option Duration → Live (RunningView C F D) → Phase → Type 0
  IsLiveAt None live phase =
      (phase ≡ runs (known views live.running)) × HasOrders views false live.running
      × shows live.began
  IsLiveAt (Some last) live phase =
      (tries : Tries) × (phase ≡ asked (known views live.running) tries)
      × (map (λ t. is_some t) tries ≡ leaders (shape_view live.running.shape))
      × AreSignalled views tries live.running × IsAfter restarts.grace last

  -- a service with this pause stands there
  abbrev pub StandsAt : Duration → State (RunningView C F D) → Stand → Type 0
  StandsAt pause (state.Rests from) stand =
      (stand.phase ≡ rests) × (0 < stand.row → IsAfter pause from)
  StandsAt pause (state.Runs live) stand = IsLiveAt live.asked live stand.phase
  StandsAt pause (state.Over why) stand = stand.phase ≡ over why

  -- a service stands there
  pub record IsAt (service : Service (RunningView C F D)) (stand : Stand) : Type 0 where
    pub starts : service.starts ≡ stand.starts
    pub row : service.row ≡ stand.row
    pub last : service.last ≡ stand.last
    pub pause : as_nanos service.pause ≡ pause_after restarts.pause restarts.greatest stand.row
    pub at : StandsAt service.pause service.state stand

module _ {S E C F D : Type 0} (views : SystemViews S E C F D (Unit {0}) Bytes) {H K : Type 0}
    (may_show : K → Duration → Type 0) (services : Services E H K) where
  -- the moments of the clock of services
  abbrev pub shown : Duration → Type 0
  shown = may_show services.clock.now

  -- what runs of a service since this moment has ended by itself
  abbrev pub EndsByItself : Duration → Service (RunningView C F D) → End
      → Service (RunningView C F D) → Type 0
  EndsByItself began old end new = (from : Stand) → shown began
      → IsAt views services.restarts shown old from
      → (is_healthy : Bool) × HasPassedIf shown services.restarts.healthy is_healthy
      × IsAt views services.restarts shown new (after_end from end is_healthy)

  module _ (allows : Allows H) (refuses : Refuses H) (says : Bool → Type 0) where
    -- from where it stands, nothing or one thing is done for a service, and it stands here then
    abbrev pub Advances : Expression E H → S × PoolView C → Service (RunningView C F D)
        → S × PoolView C → Service (RunningView C F D) → Type 0
    Advances root before old after new = (from : Stand)
        → IsAt views services.restarts shown old from
        → (to : Stand) × IsAt views services.restarts shown new to
        × (((after ≡ before) × (to ≡ from)) ⊎ ((deed : Deed C F D)
        × IsDeed views allows refuses services.restarts says shown root before from deed after to))

    -- the same of several
    abbrev pub Goes : S × PoolView C → List (Service (RunningView C F D)) → S × PoolView C
        → List (Service (RunningView C F D)) → Type 0
    Goes before olds after news = (from : List Stand)
        → AllZip (IsAt views services.restarts shown) olds from
        → (to : List Stand) × AllZip (IsAt views services.restarts shown) news to
        × (deeds : List (ℕ × Deed C F D))
        × FoldsTo (IsTurn views allows refuses services.restarts says shown services.all.now)
        (before, from) deeds (after, to)

    -- this came of all; or there was no memory for it, and nothing was done
    abbrev pub IsAllKept : S × PoolView C → Result (List Kept) Error → S × PoolView C → Type 0
    IsAllKept before (Ok kept) after = KeepsAll views allows refuses services.restarts says shown
        services.all.now before kept after
    IsAllKept before (Err e) after = (e ≡ error.Memory) × (after ≡ before)
