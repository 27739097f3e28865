use Rattle.std.proofs.Common.{◌≡◌, ◌∙◌, ◌++◌, List, ℕ, [], ◌∷◌, true, false, ap, sym, length, take}
use Rattle.duct_handle.proofs.Common.{is_line_end, trimmed}
use Rattle.duct_handle.proofs.Trimming.{one_more, take_front, trimmed_end, trimmed_whole}
use Rattle.duct_handle.proofs.text.text_length.Goals as goal

pub returns-then-not-is_line_end : goal.returns-then-not-is_line_end
returns-then-not-is_line_end c =
    let (tail, split, same) = c.loop-last.invariant in
    let front = c.loop-last.front.now in
    let last = c.in-Some.last.now in
    let rest = c.in-Some.rest.now in
    let is : front ≡ rest ++ last ∷ [] = c.in-Some.ensures.cases.0 in
    let other : is_line_end last ≡ false = sym c.is_line_end.ensures ∙ c.if-not-is_line_end.true in
    let whole : front ≡ trimmed front = is ∙ sym (trimmed_whole rest last other) ∙ ap (λ (bytes : List ℕ). trimmed bytes) (sym is) in
    ap (λ (bytes : List ℕ). take (length front) bytes) split ∙ take_front front tail ∙ whole ∙ same

pub loop-last-preserved : goal.loop-last-preserved
loop-last-preserved c =
    let (tail, split, same) = c.loop-last.invariant in
    let last = c.in-Some.last.now in
    let rest = c.in-Some.rest.now in
    let is = c.in-Some.ensures.cases.0 in
    let ends : is_line_end last ≡ true = sym c.is_line_end.ensures ∙ c.if-not-is_line_end.false in (
      last ∷ tail,
      split ∙ ap (λ (bytes : List ℕ). bytes ++ tail) is ∙ one_more rest tail last,
      sym (trimmed_end rest last ends) ∙ ap (λ (bytes : List ℕ). trimmed bytes) (sym is) ∙ same,
    )
