-- What a request of a guard asks the system below.
use Rattle.std.proofs.Common.{◌≡◌, refl, sym, subst, ◌∙◌, arith, ℕ, [], ◌∷◌}
use Rattle.duct_guard.proofs.Common.{append-nil, EntryView, JournalView, GuardView, IsForwarded, OnlyForwards, Rules}
use Rattle.duct_guard.proofs.Counting.{Notes}

module _ {S P : Type 0} (journal_view : S → JournalView) (rules : P → Rules) where
  -- a request whose entry was added
  pub one_asked : {added room : ℕ} {more : JournalView} (was old new : GuardView S P)
      (entry : EntryView) → was ≡ old
      → IsForwarded (rules was.policy) was.held entry (journal_view was.inner) (journal_view new.inner)
      → Notes entry was.journal.entries added room more → new.journal.entries ≡ more.entries
      → new.policy ≡ was.policy
      → new.earlier ≡ was.earlier → OnlyForwards journal_view rules old new
  one_asked was old new entry same sent noted is policy earlier =
      subst (λ v. OnlyForwards journal_view rules v new) same (record {
        added = entry ∷ [];
        asked = sent.asked;
        forwards = (sent.asked, [], sym (append-nil sent.asked), sent.forwards, refl);
        added_are = is ∙ noted.entries_are;
        asked_are = sent.adds.entries_are;
        count_is = sent.adds.added_is;
        policy_is = policy;
        earlier_is = earlier;
      })

  -- a request for whose entry there was no memory
  pub none_asked : (old new : GuardView S P) → new ≡ old → OnlyForwards journal_view rules old new
  none_asked old new same =
      subst (λ v. OnlyForwards journal_view rules old v) (sym same) (record {
        added = [];
        asked = [];
        forwards = refl;
        added_are = sym (append-nil old.journal.entries);
        asked_are = sym (append-nil (journal_view old.inner).entries);
        count_is = omega arith;
        policy_is = refl;
        earlier_is = refl;
      })
