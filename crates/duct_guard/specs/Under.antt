-- What a call promises that makes a guard, reads or runs an expression over it, and takes it apart.
use Rattle.std.specs.Prelude.{ℕ, List, [], ◌≡◌, length, Result}
use Rattle.duct_system.specs.declared.error.Error.{Error}
use Rattle.duct_system.specs.declared.system.Child as child_trait
use Rattle.duct_system.specs.declared.system.Numbered as numbered_trait
use Rattle.duct_system.specs.SystemViews.{SystemViews}
use Rattle.duct_guard.specs.Held.{IsCrew, counts_of, held_after, nothing_held}
use Rattle.duct_guard.specs.GuardView.{ForwardsAll, GuardView}
use Rattle.duct_guard.specs.declared.crew.GuardedChild.{GuardedChild}
use Rattle.duct_guard.specs.declared.counts.Held.{Held}
use Rattle.duct_guard.specs.declared.fixed.Fixed.{Fixed}
use Rattle.duct_guard.specs.declared.fixed.FixedRules as rules_trait
use Rattle.duct_guard.specs.declared.policy.Policy as policy_trait
use Rattle.duct_guard.specs.declared.under.Under.{Under}

-- what contracts read of a guard over a system with these views
abbrev pub guard_views : {S X E C F D V W : Type 0} {child : child_trait.Ghosts C}
    {numbered : numbered_trait.Ghosts C} → SystemViews S E C F D V W
    → SystemViews (GuardView S X) E (GuardedChild C child numbered) F D V W
guard_views views = record {
  journal = λ guard. guard.journal;
  number_of = views.number_of;
  child = λ it. views.child it.inner;
  may_answer = views.may_answer;
  may_obey = views.may_obey;
  feed = views.feed;
  feed_says = views.feed_says;
  feed_same = views.feed_same;
  feed_refusable = views.feed_refusable;
  drain = views.drain;
  drain_says = views.drain_says;
  drain_same = views.drain_same;
  drain_refusable = views.drain_refusable;
}

module _ {S E C F D V W P K : Type 0} (views : SystemViews S E C F D V W)
    (policy : policy_trait.Ghosts P) (fixed : rules_trait.Ghosts K) where
  -- a guard over such a system, by a policy whose rules are fixed
  abbrev pub FixedGuard : Type 0
  FixedGuard = GuardView S (Fixed P K policy fixed)

  -- what is left of a guard, which had held this before its journal began: the system below it,
  -- which was asked what it forwards and nothing else; and how much it holds and how many children
  -- run, by its journal
  pub record IsLeft {T : Type 0} (earlier : Held) (guard : FixedGuard) (left : Under S T)
      : Type 0 where
    pub forwards : ∥ ForwardsAll fixed.rules earlier guard.journal.entries
        (views.journal left.system).entries ∥₁
    pub held_is : left.held ≡ counts_of (held_after earlier guard.journal.entries)
    pub crew : List ℕ
    pub running_is : left.running ≡ length crew
    pub knows : ∥ IsCrew views.may_answer fixed.rules.at_once earlier.children
        guard.journal.entries crew ∥₁

  -- this was done to a new guard over a system, and to a pool, and this is left of the guard
  pub record Guards {T L : Type 0}
      (does : FixedGuard × L → Result T Error → FixedGuard × L → Type 0)
      (before : S × L) (after : Under S T × L) : Type 0 where
    pub begun : FixedGuard
    pub inner_is : begun.inner ≡ before.0
    pub journal_is : begun.journal
        ≡ record { entries = []; added = 0; next = (views.journal before.0).next; room = 0 }
    pub ended : FixedGuard
    pub done : does (begun, before.1) after.0.returned (ended, after.1)
    pub is_left : IsLeft nothing_held ended after.0
