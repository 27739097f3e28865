-- A run that reached its end is a start that succeeds.
use Rattle.std.proofs.Common.{◌≡◌, ℕ, ◌+◌, ◌*◌, ◌≤◌, List, [], ◌∷◌, ◌++◌, length, refl, ap, sym, ◌∙◌, arith, subst}
use Rattle.duct_run.proofs.Common.{append-nil, EntryView, JournalView, IsBalanced, count_of, IsClean, segment, trace, State, Allows, AsksPlan, FollowsWhole, ResourcesView, open_ends, Plan, AnswersUnder, RunContext, IsLater, RunInvariant, AreEarlier, GotNew, Grows, KeepsFewOpen, StartSucceeds, depth, Item, TreeView}
use Rattle.duct_run.proofs.Ceiling.{ceiling, ceiling_low}
use Rattle.duct_run.proofs.Stopping.{clean_stops}
use Rattle.duct_run.proofs.Sources.{exactly_answered, plan_asked}
use Rattle.duct_run.proofs.RunInvariant.{as_many}

pub segment-added : (old added : List EntryView) → segment old (old ++ added) ≡ added
segment-added [] added = refl
segment-added (entry ∷ old) added = segment-added old added

-- the segment is what was added
pub segment_is : (old new added : List EntryView) → new ≡ old ++ added → segment old new ≡ added
segment_is old new added is = ap (λ (l : List EntryView). segment old l) is ∙ segment-added old added

-- a journal to which these entries were added has grown by them
pub grows_by_added : (old new : JournalView) (added : List EntryView)
    → new.entries ≡ old.entries ++ added → new.added ≡ old.added + length added
    → old.next ≤ new.next → old.room ≤ new.room → Grows old new
grows_by_added old new added entries_are counted next room =
    let same = sym (segment_is old.entries new.entries added entries_are) in record {
      front = entries_are ∙ ap (λ (l : List EntryView). old.entries ++ l) same;
      counted = counted ∙ ap (λ (l : List EntryView). old.added + length l) same;
      next_grows = next;
      room_grows = room;
    }

-- no entry comes later
pub nothing_later : (context : RunContext) (next : ℕ) → IsLater context next []
nothing_later context next = record { fresh = λ number lt. refl }

module _ {E H : Type 0} (allows : Allows H) (number_of : E → ℕ) (tree : TreeView E H) (plan : Plan E H) (context : RunContext) (state : State E H) (old now : JournalView) (held : ResourcesView)
    (invariant : RunInvariant allows number_of context state now held)
    (old_is : context.old ≡ old) (base_is : context.base ≡ ceiling number_of tree) (bound_is : context.bound ≡ 2 * depth tree + 4) (items_are : state.plan.items ≡ plan.items) (all_spent : open_ends held ≡ []) where
  none_held : (n : ℕ) → count_of n (open_ends held) ≡ 0
  none_held n = ap (λ (l : List ℕ). count_of n l) all_spent

  early : AreEarlier number_of context.old tree → context.base ≤ context.old.next
  early earlier = omega (arith, base_is, ceiling_low number_of tree context.old earlier)

  answered : AnswersUnder context allows number_of invariant.added 0 plan.items (trace invariant.added)
  answered =
      subst (λ (items : List (Item E H)). AnswersUnder context allows number_of invariant.added 0 items (trace invariant.added)) items_are
      (subst (λ (l : List EntryView). AnswersUnder context allows number_of l 0 state.plan.items (trace invariant.added)) (append-nil invariant.added) (invariant.answers [] (nothing_later context now.next)))

  asks : AsksPlan allows number_of plan invariant.added
  asks = plan_asked context allows number_of invariant.added plan.items (trace invariant.added) answered

  whole : AreEarlier number_of context.old tree → FollowsWhole allows number_of plan invariant.added
  whole earlier = record {
    follows = record {
      answers = exactly_answered context allows number_of invariant.added plan.items (trace invariant.added) (early earlier) answered;
      stops = clean_stops invariant.added invariant.clean;
    };
    whole = as_many invariant ∙ ap (λ (items : List (Item E H)). length items) items_are;
    clean = invariant.clean;
  }

  succeeds : StartSucceeds allows number_of tree plan context.old now
  succeeds =
      let ledger = invariant.ledger in
      let same = sym (segment_is context.old.entries now.entries invariant.added ledger.entries_are) in record {
        grows = grows_by_added context.old now invariant.added ledger.entries_are ledger.counted ledger.next_grows (omega (arith, ledger.room_is));
        clean = subst IsClean same invariant.clean;
        long = ap (λ (l : List EntryView). length (trace l)) (sym same) ∙ as_many invariant ∙ ap (λ (items : List (Item E H)). length items) items_are;
        asks = subst (λ (l : List EntryView). AsksPlan allows number_of plan l) same asks;
        whole = λ earlier. subst (λ (l : List EntryView). FollowsWhole allows number_of plan l) same (whole earlier);
        balanced = subst IsBalanced same (λ n. (omega (arith, ledger.even n, none_held n), ledger.once n));
        got_new = subst (λ (l : List EntryView). GotNew context.old l) same ledger.above;
        few = subst (λ (l : List EntryView). KeepsFewOpen tree l) same (λ count. omega (arith, bound_is, invariant.few count));
      }

  -- a run that has made all requests of the plan and holds no end is a start that succeeds
  pub succeeded : StartSucceeds allows number_of tree plan old now
  succeeded = subst (λ (o : JournalView). StartSucceeds allows number_of tree plan o now) old_is succeeds
