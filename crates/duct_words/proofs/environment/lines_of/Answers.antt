use Rattle.std.proofs.Common.{◌≡◌, ◌≢◌, ℕ, ◌-◌, ◌==◌, List, [], ◌∷◌, ◌++◌, None, Some, MatchOption, Option, ap, arith, get_or, if◌then◌else◌, length, lit<, refl, sym, ◌∙◌, take}
use Rattle.std.proofs.lemmas.Bool.{eq-eqb, ne_eqb}
use Rattle.std.specs.Borrow.{Bor}
use Rattle.std.specs.Option.{unwrap_or}
use Rattle.std.specs.Str.Lines.{strip_carriage_return}
use Rattle.std.proofs.lemmas.Grind.{common_steps}
use Rattle.std.proofs.lemmas.Iterator.Consumers.{map_from_collect}
use Rattle.std.proofs.lemmas.Iterator.Splits.{YieldsList-from_lines}
use Rattle.std.proofs.lemmas.Str.Pattern.{strip_suffix_char}
use Rattle.duct_words.proofs.environment.lines_of.Goals as goal

-- the last byte of a list, behind those before
parted : (b : ℕ) (bytes : List ℕ) → get_or (b ∷ bytes) (length bytes) 0 ≡ 13
    → b ∷ bytes ≡ take (length bytes) (b ∷ bytes) ++ (13 ∷ [])
parted b [] last = ap (λ c. c ∷ []) last
parted b (c ∷ bytes) last = ap (λ rest. b ∷ rest) (parted c bytes last)

with_return : (text rest : List ℕ) → text ≡ rest ++ (13 ∷ []) → rest ≡ strip_carriage_return text
with_return text rest has =
    let last : get_or text (length text - 1) 0 ≡ 13 = grind (arith, common_steps) in
    let front : take (length text - 1) text ≡ rest = grind (arith, common_steps) in
    sym (ap (λ t. if t then take (length text - 1) text else text) (eq-eqb _ 13 last) ∙ front)

without : (text : List ℕ) → ((front : List ℕ) → text ≢ front ++ (13 ∷ []))
    → text ≡ strip_carriage_return text
without [] lacks = refl
without (b ∷ bytes) lacks =
    let other : get_or (b ∷ bytes) (length bytes) 0 ≢ 13 = λ last. lacks _ (parted b bytes last) in
    let at : length (b ∷ bytes) - 1 ≡ length bytes = omega arith in
    sym (ap (λ n. if get_or (b ∷ bytes) n 0 == 13 then take n (b ∷ bytes) else b ∷ bytes) at
    ∙ ap (λ t. if t then take (length bytes) (b ∷ bytes) else b ∷ bytes) (ne_eqb _ 13 other))

stripped : (text : Bor (List ℕ)) (r : Option (Bor (List ℕ)))
    → MatchOption r ((front : List ℕ) → text.now ≢ front ++ (13 ∷ [])) (λ x. text.now ≡ x.now ++ (13 ∷ []))
    → (unwrap_or r text).now ≡ strip_carriage_return text.now
stripped text None lacks = without text.now lacks
stripped text (Some x) has = with_return text.now x.now has

pub returns : goal.returns
returns c =
    map_from_collect _ c.collect.ensures.ran
    (YieldsList-from_lines _ (c.lines.ensures.rest ∙ ap (λ text. text.now) c.unwrap_or-text.ensures
    ∙ stripped c.args.text c.strip_suffix.result (strip_suffix_char 13 _ _ c.strip_suffix.ensures.cases (lit< tt))))
