use Rattle.std.proofs.Common.{◌≡◌, ◌∙◌, ◌++◌, List, [], ◌∷◌, true, false, ap, sym, map}
use Rattle.std.proofs.lemmas.List.{map-append}
use Rattle.duct_system.specs.EntryView.{EntryView, entry_view}
use Rattle.duct_system.specs.Trace.{is_close}
use Rattle.duct_system.specs.declared.system.Entry.{Entry}
use Rattle.duct_tasks.specs.FailedRequest.{last_asked}
use Rattle.duct_tasks.proofs.Asked.{last_asked-close, last_asked-push}
use Rattle.duct_tasks.proofs.request.last_asked.Goals as goal

-- what the last entry of a list is, by the list's views
view_of : (rest earlier : List Entry) (last : Entry) → rest ≡ earlier ++ last ∷ []
    → last_asked (map entry_view rest) ≡ last_asked (map entry_view earlier ++ entry_view last ∷ [])
view_of rest earlier last is = ap (λ (l : List Entry). last_asked (map entry_view l)) is
    ∙ ap (λ (l : List EntryView). last_asked l) (map-append entry_view earlier (last ∷ []))

pub returns-then-not-is_close : goal.returns-then-not-is_close
returns-then-not-is_close c =
    let earlier = c.in-Some.earlier.now in
    let last = c.in-Some.last.now in
    let open_is : is_close (entry_view last) ≡ false = sym c.is_close.ensures ∙ c.if-not-is_close.true in
    sym (last_asked-push (map entry_view earlier) (entry_view last) open_is)
    ∙ sym (view_of c.loop-last.rest.now earlier last c.in-Some.ensures.cases.0) ∙ c.loop-last.invariant

pub loop-last-preserved : goal.loop-last-preserved
loop-last-preserved c =
    let earlier = c.in-Some.earlier.now in
    let last = c.in-Some.last.now in
    let close_is : is_close (entry_view last) ≡ true = sym c.is_close.ensures ∙ c.if-not-is_close.false in
    sym (last_asked-close (map entry_view earlier) (entry_view last) close_is)
    ∙ sym (view_of c.loop-last.rest.now earlier last c.in-Some.ensures.cases.0) ∙ c.loop-last.invariant
