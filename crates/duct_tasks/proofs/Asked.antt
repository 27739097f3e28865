-- The last entry that is not a close, after one more entry.
use Rattle.std.proofs.Common.{◌≡◌, refl, sym, ◌∙◌, ap, ◌-◌, List, [], ◌∷◌, ◌++◌, length, not, true, false, Some, slice_get, arith, length-append, append-nil}
use Rattle.std.proofs.Math.Seq.{get_or-append_seam}
use Rattle.std.proofs.lemmas.List.Elements.{filter-append}
use Rattle.std.proofs.lemmas.Option.{slice_get_read}
use Rattle.duct_system.specs.EntryView.{EntryView}
use Rattle.duct_system.specs.Trace.{is_close}
use Rattle.duct_start.specs.Causes.{asked_in}
use Rattle.duct_tasks.specs.FailedRequest.{last_asked}

-- the last item of a list is the one that was added
last-push : (entries : List EntryView) (entry : EntryView)
    → slice_get (entries ++ entry ∷ []) (length (entries ++ entry ∷ []) - 1) ≡ Some entry
last-push entries entry =
    let place : length (entries ++ entry ∷ []) - 1 ≡ length entries = omega (arith, length-append entries (entry ∷ [])) in
    rw place (slice_get_read (entries ++ entry ∷ []) (length (entries ++ entry ∷ [])) (length entries) entry refl
    (omega (arith, length-append entries (entry ∷ []))) (sym (get_or-append_seam entries entry [] entry)))

asked-push : (entries more : List EntryView) → asked_in (entries ++ more) ≡ asked_in entries ++ asked_in more
asked-push entries more = filter-append (λ entry. not (is_close entry)) entries more

-- an added entry that is not a close is the last such entry
pub last_asked-push : (entries : List EntryView) (entry : EntryView) → is_close entry ≡ false
    → last_asked (entries ++ entry ∷ []) ≡ Some entry
last_asked-push entries entry open_is =
    let kept : asked_in (entry ∷ []) ≡ entry ∷ [] = rw open_is refl in
    let asked : asked_in (entries ++ entry ∷ []) ≡ asked_in entries ++ entry ∷ [] = asked-push entries (entry ∷ []) ∙ ap (λ (more : List EntryView). asked_in entries ++ more) kept in
    ap (λ (asked : List EntryView). slice_get asked (length asked - 1)) asked ∙ last-push (asked_in entries) entry

-- an added close changes nothing
pub last_asked-close : (entries : List EntryView) (entry : EntryView) → is_close entry ≡ true
    → last_asked (entries ++ entry ∷ []) ≡ last_asked entries
last_asked-close entries entry close_is =
    let left : asked_in (entry ∷ []) ≡ [] = rw close_is refl in
    let asked : asked_in (entries ++ entry ∷ []) ≡ asked_in entries = asked-push entries (entry ∷ []) ∙ ap (λ (more : List EntryView). asked_in entries ++ more) left ∙ append-nil (asked_in entries) in
    ap (λ (asked : List EntryView). slice_get asked (length asked - 1)) asked
