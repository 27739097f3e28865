-- What holds of a core after each event of a list.
use Rattle.std.proofs.Common.{◌≡◌, ℕ, suc, ◌+◌, ◌⊎◌, inl, inr, List, [], ◌∷◌, ◌++◌, length, refl, ap, sym, ◌∙◌, subst, arith, Bool, true, false, MatchBool, Some, None, append_assoc, ◌<◌, map, take, get_or, IfSome, Option}
use Rattle.std.proofs.lemmas.List.{append-nil, take_more, map-append}
use Rattle.duct_status.specs.declared.status.Drains.{Drains}
use Rattle.duct_status.specs.declared.status.Event.{Event}
use Rattle.duct_status.specs.declared.status.Reply.{Reply}
use Rattle.duct_status.specs.Outcome.{Responds, RespondsToAll}
use Rattle.duct_status.specs.EventView.{EventView, from_command, from_input, from_drain, conclude, event_view}
use Rattle.duct_status.specs.ShapeView.{ShapeView}
use Rattle.duct_status.specs.ReplyView.{ReplyView, noted, unknown, pending, faulted, answered, failed, no_memory, reply_view}
use Rattle.duct_status.specs.Standing.{standing_after, Again, Repeats, RepeatedBy, AllRepeated}
use Rattle.duct_status.specs.Latest.{Latest, latest_told, latest_after, is_known}
use Rattle.duct_status.proofs.Latest.{words_more}

-- each answer and each failure among the replies is the final reply
abbrev pub AllStand : Option ReplyView → List ReplyView → Type 0
AllStand standing [] = Unit {0}
AllStand standing (reply ∷ replies) = ((standing_after None reply ≡ None) ⊎ (standing_after None reply ≡ standing)) × AllStand standing replies

-- the final reply is an answer or a failure
abbrev pub IsStanding : Option ReplyView → Type 0
IsStanding standing = IfSome standing (λ answer. standing_after None answer ≡ Some answer)

pub record Ran (t : ShapeView) (drains : Drains) (words : Latest) (standing : Option ReplyView)
    (events : List EventView) (replies : List ReplyView) : Type 0 where
  pub told : words ≡ latest_told t drains events
  pub responds : RespondsToAll t drains [] events replies
  pub repeated : AllRepeated events replies
  pub all_stand : AllStand standing replies
  pub is_standing : IsStanding standing

-- before the first event
pub ran_none : (t : ShapeView) (drains : Drains) (words : Latest) (standing : Option ReplyView)
    (replies : List Reply) → words ≡ latest_told t drains [] → standing ≡ None → replies ≡ []
    → Ran t drains words standing [] (map reply_view replies)
ran_none t drains words standing replies told first none =
    let P : Option ReplyView → Type 0 = λ s. Ran t drains words s [] (map reply_view replies) in
    let Q : List Reply → Type 0 = λ rs. Ran t drains words None [] (map reply_view rs) in
    subst P (sym first) (subst Q (sym none) (record { told = told; responds = refl; repeated = tt; all_stand = tt; is_standing = tt }))

responds_length : (t : ShapeView) (drains : Drains) (before events : List EventView)
    (replies : List ReplyView) → RespondsToAll t drains before events replies
    → length events ≡ length replies
responds_length t drains before [] replies all = sym (ap length all)
responds_length t drains before (e ∷ es) [] all = absurd all
responds_length t drains before (e ∷ es) (r ∷ rs) all = ap suc (responds_length t drains (before ++ e ∷ []) es rs all.1)

responds_push : (t : ShapeView) (drains : Drains) (before es : List EventView)
    (rs : List ReplyView) (e : EventView) (r : ReplyView) → RespondsToAll t drains before es rs
    → Responds t (latest_told t drains (before ++ es)) e r
    → RespondsToAll t drains before (es ++ e ∷ []) (rs ++ r ∷ [])
responds_push t drains before [] [] e r all one = let P : List EventView → Type 0 = λ es. Responds t (latest_told t drains es) e r in (subst P (append-nil before) one, refl)
responds_push t drains before [] (q ∷ rs) e r all one = absurd (cc)
responds_push t drains before (d ∷ es) [] e r all one = absurd all
responds_push t drains before (d ∷ es) (q ∷ rs) e r all one =
    let P : List EventView → Type 0 = λ es. Responds t (latest_told t drains es) e r in
    (all.0, responds_push t drains (before ++ d ∷ []) es rs e r all.1 (subst P (sym (append_assoc before (d ∷ []) es)) one))

by_push : (q : ReplyView) (es : List EventView) (rs : List ReplyView) (e : EventView)
    (r : ReplyView) → length es ≡ length rs → RepeatedBy q es rs
    → Repeats (standing_after None q) e r → RepeatedBy q (es ++ e ∷ []) (rs ++ r ∷ [])
by_push q [] [] e r same by one = (one, tt)
by_push q [] (p ∷ rs) e r same by one = absurd (omega arith)
by_push q (d ∷ es) [] e r same by one = absurd (omega arith)
by_push q (d ∷ es) (p ∷ rs) e r same by one = (by.0, by_push q es rs e r (omega arith) by.1 one)

nothing_repeats : (standing : Option ReplyView) (e : EventView) (r : ReplyView) → standing ≡ None
    → Repeats standing e r
nothing_repeats standing conclude r is = let P : Option ReplyView → Type 0 = λ s. IfSome s (λ answer. Again answer r) in subst P (sym is) tt
nothing_repeats standing (from_command k heard) r is = tt
nothing_repeats standing (from_input k heard) r is = tt
nothing_repeats standing (from_drain stream heard) r is = tt

one_repeats : (standing : Option ReplyView) (q : ReplyView) (e : EventView) (r : ReplyView)
    → (standing_after None q ≡ None) ⊎ (standing_after None q ≡ standing) → Repeats standing e r
    → Repeats (standing_after None q) e r
one_repeats standing q e r (inl none) one = nothing_repeats (standing_after None q) e r none
one_repeats standing q e r (inr same) one = let P : Option ReplyView → Type 0 = λ s. Repeats s e r in subst P (sym same) one

repeated_push : (standing : Option ReplyView) (es : List EventView) (rs : List ReplyView)
    (e : EventView) (r : ReplyView) → length es ≡ length rs → AllStand standing rs
    → AllRepeated es rs → Repeats standing e r → AllRepeated (es ++ e ∷ []) (rs ++ r ∷ [])
repeated_push standing [] [] e r same stand all one = (tt, tt)
repeated_push standing [] (p ∷ rs) e r same stand all one = absurd (omega arith)
repeated_push standing (d ∷ es) [] e r same stand all one = absurd (omega arith)
repeated_push standing (d ∷ es) (p ∷ rs) e r same stand all one =
    (by_push p es rs e r (omega arith) all.0 (one_repeats standing p e r stand.0 one), repeated_push standing es rs e r (omega arith) stand.1 all.1 one)

-- a reply that was final stays final after one more reply
stands_on : (standing : Option ReplyView) (q r : ReplyView)
    → (standing_after None q ≡ None) ⊎ (standing_after None q ≡ standing)
    → (standing_after None q ≡ None) ⊎ (standing_after None q ≡ standing_after standing r)
stands_on standing q r (inl none) = inl none
stands_on None q r (inr same) = inl same
stands_on (Some a) q r (inr same) = inr same

no_answer : (known : Bool) (r : ReplyView) → MatchBool known (r ≡ noted) (r ≡ unknown)
    → standing_after None r ≡ None
no_answer true r is = ap (standing_after None) is
no_answer false r is = ap (standing_after None) is

again_stands : (a r : ReplyView) → standing_after None a ≡ Some a → Again a r
    → (standing_after None r ≡ None) ⊎ (standing_after None r ≡ Some a)
again_stands a r is (inl same) = inr (ap (standing_after None) same ∙ is)
again_stands a r is (inr none) = inl (ap (standing_after None) none)

new_stands : (t : ShapeView) (words : Latest) (standing : Option ReplyView) (e : EventView)
    (r : ReplyView) → IsStanding standing → Responds t words e r → Repeats standing e r
    → (standing_after None r ≡ None) ⊎ (standing_after None r ≡ standing_after standing r)
new_stands t words None e r is one again = inr refl
new_stands t words (Some a) conclude r is one again = again_stands a r is again
new_stands t words (Some a) (from_command k heard) r is one again = inl (no_answer (is_known t words (from_command k heard)) r one)
new_stands t words (Some a) (from_input k heard) r is one again = inl (no_answer (is_known t words (from_input k heard)) r one)
new_stands t words (Some a) (from_drain stream heard) r is one again = inl (no_answer (is_known t words (from_drain stream heard)) r one)

stand_push : (standing : Option ReplyView) (rs : List ReplyView) (r : ReplyView)
    → AllStand standing rs → (standing_after None r ≡ None) ⊎
    (standing_after None r ≡ standing_after standing r)
    → AllStand (standing_after standing r) (rs ++ r ∷ [])
stand_push standing [] r all one = (one, tt)
stand_push standing (q ∷ rs) r all one = (stands_on standing q r all.0, stand_push standing rs r all.1 one)

standing_next : (standing : Option ReplyView) (r : ReplyView) → IsStanding standing
    → IsStanding (standing_after standing r)
standing_next (Some a) r is = is
standing_next None (answered status out err) is = refl
standing_next None (failed text) is = refl
standing_next None noted is = tt
standing_next None unknown is = tt
standing_next None pending is = tt
standing_next None (faulted fault) is = tt
standing_next None no_memory is = tt

-- one more event
pub ran_more : (t : ShapeView) (drains : Drains) (words now : Latest)
    (standing next : Option ReplyView) (es : List EventView) (rs : List ReplyView) (e : EventView)
    (r : ReplyView) → Ran t drains words standing es rs → now ≡ latest_after words e
    → Responds t words e r → Repeats standing e r → next ≡ standing_after standing r
    → Ran t drains now next (es ++ e ∷ []) (rs ++ r ∷ [])
ran_more t drains words now standing next es rs e r ran after one again is =
    let P : Option ReplyView → Type 0 = λ s. AllStand s (rs ++ r ∷ []) in
    let Q : Latest → Type 0 = λ w. Responds t w e r in
    let same = responds_length t drains [] es rs ran.responds in
    record {
      told = after ∙ ap (λ w. latest_after w e) ran.told ∙ words_more t drains es e;
      responds = responds_push t drains [] es rs e r ran.responds (subst Q ran.told one);
      repeated = repeated_push standing es rs e r same ran.all_stand ran.repeated again;
      all_stand = subst P (sym is) (stand_push standing rs r ran.all_stand (new_stands t words standing e r ran.is_standing one again));
      is_standing = subst IsStanding (sym is) (standing_next standing r ran.is_standing);
    }

-- one more event of a slice, with its reply
pub ran_next : (t now : ShapeView) (drains : Drains) (words after : Latest)
    (standing next : Option ReplyView) (es : List Event) (i : ℕ) (d : Event) (rs : List Reply)
    (e : Event) (r : Reply) → i < length es → d ≡ get_or es i d → now ≡ t
    → event_view e ≡ event_view d
    → Ran t drains words standing (map event_view (take i es)) (map reply_view rs)
    → after ≡ latest_after words (event_view e) → Responds now words (event_view e) (reply_view r)
    → Repeats standing (event_view e) (reply_view r) → next ≡ standing_after standing (reply_view r)
    → Ran t drains after next (map event_view (take (i + 1) es)) (map reply_view (rs ++ r ∷ []))
ran_next t now drains words after standing next es i d rs e r low is shape same ran told one again stands =
    let P : List EventView → Type 0 = λ ns. Ran t drains after next ns (map reply_view (rs ++ r ∷ [])) in
    let Q : List ReplyView → Type 0 = λ qs. Ran t drains after next (map event_view (take i es) ++ event_view e ∷ []) qs in
    let R : ShapeView → Type 0 = λ o. Responds o words (event_view e) (reply_view r) in
    let more = ran_more t drains words after standing next (map event_view (take i es)) (map reply_view rs) (event_view e) (reply_view r) ran told (subst R shape one) again stands in
    let events : map event_view (take (i + 1) es) ≡ map event_view (take i es) ++ event_view e ∷ [] = rw (take_more es i d low, map-append event_view (take i es) (get_or es i d ∷ []), ← is, same) refl in
    subst P (sym events) (subst Q (sym (map-append reply_view rs (r ∷ []))) more)
