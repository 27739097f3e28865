-- A start with its stdout at a caller's end that came before it, and with no other end.
use Rattle.std.proofs.Common.{◌≡◌, ℕ, ◌<◌, List, [], ◌∷◌, subst, sym, All}
use Rattle.std.proofs.lemmas.List.Elements.{All-cons, All-nil}
use Rattle.duct_system.specs.Journal.{JournalView}
use Rattle.duct_system.specs.Trace.{segment}
use Rattle.duct_start.specs.Chain.{Allows}
use Rattle.duct_start.specs.Follows.{FollowsWhole}
use Rattle.duct_start.specs.Plan.{plan_of}
use Rattle.duct_start.specs.Start.{AreEarlier, StartSucceeds, ends_in}
use Rattle.duct_start.specs.TreeView.{TreeView, around, stdout_file}

-- the start follows its whole plan
pub whole_to : {E H : Type 0} (allows : Allows H) (number_of : E → ℕ) (old new : JournalView) (end : E)
    (inner tree : TreeView E H) → tree ≡ around (stdout_file end) inner → ends_in inner ≡ []
    → number_of end < old.next → StartSucceeds allows number_of tree (plan_of tree) old new
    → FollowsWhole allows number_of (plan_of (around (stdout_file end) inner)) (segment old.entries new.entries)
whole_to {E} {H} allows number_of old new end inner tree made none earlier asked =
    let redirected : StartSucceeds allows number_of (around (stdout_file end) inner) (plan_of (around (stdout_file end) inner)) old new =
    subst (λ (tree : TreeView E H). StartSucceeds allows number_of tree (plan_of tree) old new) made asked in
    let early : AreEarlier number_of old (around (stdout_file end) inner) =
    subst (λ (ends : List E). All (λ end. number_of end < old.next) (end ∷ ends)) (sym none)
    (All-cons (λ end. number_of end < old.next) end [] earlier (All-nil (λ end. number_of end < old.next))) in
    redirected.whole early
