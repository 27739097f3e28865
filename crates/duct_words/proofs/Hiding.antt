-- What is hidden of bytes before more follow stays hidden so.
use Rattle.std.proofs.Common.{◌≡◌, ℕ, zero, suc, ◌≤◌, Bool, true, false, ◌&&◌, List, [], ◌∷◌, ◌++◌, append-nil, append_assoc, arith, ap, subst, sym, ◌∙◌, refl, drop, inl, inr, length, nat_eq, nat_lt, not, codes, Option}
use Rattle.std.proofs.lemmas.Bool.{and_right, cases_Bool, cases_eq, eq-eqb, ne_eqb, or_parts}
use Rattle.std.proofs.lemmas.Bool.Decides.{nat_tests}
use Rattle.std.proofs.lemmas.List.{drop-append-le}
use Rattle.std.specs.List.{starts_with}
use Rattle.duct_base.specs.Transfer.{AppendsFront}
use Rattle.duct_words.specs.Hidden.{hidden, hidden_behind, is_begun, longest}

-- bytes that are not the beginning of a secret, or all of it, begin with it as do those with more
starts_with-append : (secret bytes others : List ℕ)
    → (nat_lt (length bytes) (length secret) && starts_with nat_eq secret bytes) ≡ false
    → starts_with nat_eq (bytes ++ others) secret ≡ starts_with nat_eq bytes secret
starts_with-append [] bytes others not_begun = refl
starts_with-append (s ∷ secret) [] others not_begun = grind (arith, nat_tests)
starts_with-append (s ∷ secret) (b ∷ bytes) others not_begun =
    elim (cases_eq s b) [
      | inl same ↦
          let e = eq-eqb b s (sym same) in
          let shorter : nat_lt (length bytes) (length secret) ≡ nat_lt (suc (length bytes)) (suc (length secret)) = grind (arith, nat_tests) in
          ap (λ more. nat_eq s b && more)
          (starts_with-append secret bytes others (rw shorter (rw e at not_begun)))
      | inr other ↦ rw (ne_eqb s b other)
    ]

-- a secret that bytes begin with is no longer than they are
length-starts_with : (secret bytes : List ℕ) → starts_with nat_eq bytes secret ≡ true
    → length secret ≤ length bytes
length-starts_with [] bytes begins = omega arith
length-starts_with (s ∷ secret) [] begins = cc
length-starts_with (s ∷ secret) (b ∷ bytes) begins =
    elim (cases_Bool (starts_with nat_eq bytes secret)) [
      | inl begun ↦ omega (arith, length-starts_with secret bytes begun)
      | inr other ↦ cc (and_right (nat_eq s b) _ other)
    ]

pub longest-within : (secrets : List (List ℕ)) (bytes : List ℕ)
    → longest secrets bytes ≤ length bytes
longest-within [] bytes = omega arith
longest-within (secret ∷ secrets) bytes =
    elim (cases_Bool (starts_with nat_eq bytes secret)) [
      | inl begun ↦
          rw begun
          (omega (arith, length-starts_with secret bytes begun, longest-within secrets bytes))
      | inr other ↦ rw other (omega (arith, longest-within secrets bytes))
    ]

longest-append : (secrets : List (List ℕ)) (bytes others : List ℕ) → is_begun secrets bytes ≡ false
    → longest secrets (bytes ++ others) ≡ longest secrets bytes
longest-append [] bytes others not_begun = refl
longest-append (secret ∷ secrets) bytes others not_begun =
    let parts = or_parts (nat_lt (length bytes) (length secret) && starts_with nat_eq secret bytes) (is_begun secrets bytes) not_begun in
    let first = starts_with-append secret bytes others parts.0 in
    let rest = longest-append secrets bytes others parts.1 in
    cc (first, rest)

hidden_behind-drop : (secrets : List (List ℕ)) (n : ℕ) (bytes : List ℕ)
    → hidden_behind secrets n bytes ≡ hidden secrets (drop n bytes)
hidden_behind-drop secrets zero bytes = refl
hidden_behind-drop secrets (suc n) [] = refl
hidden_behind-drop secrets (suc n) (b ∷ bytes) = hidden_behind-drop secrets n bytes

-- nothing follows, or the bytes are not the beginning of a secret
longest-decided : (secrets : List (List ℕ)) (at_end : Bool) (bytes others : List ℕ)
    → (at_end ≡ true → others ≡ []) → (not at_end && is_begun secrets bytes) ≡ false
    → longest secrets (bytes ++ others) ≡ longest secrets bytes
longest-decided secrets true bytes others none decided = rw (none refl, append-nil bytes)
longest-decided secrets false bytes others none decided =
    longest-append secrets bytes others decided

module _ (secrets : List (List ℕ)) (at_end : Bool) (first : ℕ) (rest others : List ℕ)
    (none : at_end ≡ true → others ≡ [])
    (decided : (not at_end && is_begun secrets (first ∷ rest)) ≡ false) where
  -- a byte that begins no secret is shown
  hidden-byte : longest secrets (first ∷ rest) ≡ 0
      → hidden secrets (first ∷ (rest ++ others)) ≡ first ∷ hidden secrets (rest ++ others)
  hidden-byte found =
      let is = longest-decided secrets at_end (first ∷ rest) others none decided ∙ found in
      rw (is, hidden_behind)

  -- a secret is replaced
  hidden-secret : (n : ℕ) → longest secrets (first ∷ rest) ≡ suc n
      → hidden secrets (first ∷ (rest ++ others)) ≡ codes "***" ++ hidden secrets (drop n rest ++ others)
  hidden-secret n found =
      let is = longest-decided secrets at_end (first ∷ rest) others none decided ∙ found in
      let within : n ≤ length rest = omega (arith, found, longest-within secrets (first ∷ rest)) in
      rw (is, hidden_behind)
      (ap (λ more. codes "***" ++ more)
      (hidden_behind-drop secrets n (rest ++ others) ∙ ap (hidden secrets) (drop-append-le n rest others within)))

module _ (secrets : List (List ℕ)) (at_end : Bool) (shown after others : List ℕ)
    (none : at_end ≡ true → others ≡ []) where
  -- after a byte that begins no secret
  pub shows-byte : (all : List ℕ) (first : ℕ) (rest : List ℕ) → all ≡ first ∷ rest
      → (not at_end && is_begun secrets all) ≡ false → longest secrets all ≡ 0
      → after ≡ shown ++ first ∷ []
      → shown ++ hidden secrets (all ++ others) ≡ after ++ hidden secrets (rest ++ others)
  shows-byte all first rest split =
      subst (λ bytes. (not at_end && is_begun secrets bytes) ≡ false → longest secrets bytes ≡ 0
      → after ≡ shown ++ first ∷ []
      → shown ++ hidden secrets (bytes ++ others) ≡ after ++ hidden secrets (rest ++ others))
      (sym split)
      (λ decided found is.
      ap (λ more. shown ++ more) (hidden-byte secrets at_end first rest others none decided found)
      ∙ sym (append_assoc shown (first ∷ []) _)
      ∙ ap (λ text. text ++ hidden secrets (rest ++ others)) (sym is))

  -- after a secret, of this length
  pub shows-secret : (all : List ℕ) (first : ℕ) (rest : List ℕ) → all ≡ first ∷ rest
      → (not at_end && is_begun secrets all) ≡ false
      → (n : ℕ) → longest secrets all ≡ n → (n ≡ 0 → ⊥) → after ≡ shown ++ codes "***"
      → shown ++ hidden secrets (all ++ others) ≡ after ++ hidden secrets (drop n all ++ others)
  shows-secret all first rest split decided zero found some is = absurd (some refl)
  shows-secret all first rest split decided (suc n) found some is =
      subst (λ bytes. (not at_end && is_begun secrets bytes) ≡ false
      → longest secrets bytes ≡ suc n
      → shown ++ hidden secrets (bytes ++ others)
      ≡ after ++ hidden secrets (drop (suc n) bytes ++ others))
      (sym split)
      (λ decided found.
      ap (λ more. shown ++ more) (hidden-secret secrets at_end first rest others none decided n found)
      ∙ sym (append_assoc shown (codes "***") _)
      ∙ ap (λ text. text ++ hidden secrets (drop n rest ++ others)) (sym is)) decided found

-- a front of what is shown is one of all
front_of_all : (old new : Option (List ℕ)) (shown more all : List ℕ) → all ≡ shown ++ more
    → AppendsFront old new shown → AppendsFront old new all
front_of_all old new shown more all split front = (
  front.0,
  front.1 ++ more,
  split ∙ ap (λ bytes. bytes ++ more) front.2 ∙ append_assoc front.0 front.1 more,
  front.3,
)

-- a front of what is shown of these bytes is one of what all show, whatever follows
pub passes-front : (secrets : List (List ℕ)) (held buf bytes before shown rest others : List ℕ)
    (old new : Option (List ℕ)) → before ≡ [] → bytes ≡ held ++ buf
    → before ++ hidden secrets (bytes ++ others) ≡ shown ++ hidden secrets (rest ++ others)
    → AppendsFront old new shown → AppendsFront old new (hidden secrets (held ++ (buf ++ others)))
passes-front secrets held buf bytes before shown rest others old new none same all front =
    let whole : hidden secrets (held ++ (buf ++ others)) ≡ shown ++ hidden secrets (rest ++ others) =
    cc (none, same, all, append_assoc held buf others) in
    front_of_all old new shown (hidden secrets (rest ++ others)) _ whole front

-- at the end all is shown
pub hidden-all : (secrets : List (List ℕ)) (held before shown rest : List ℕ) → before ≡ []
    → rest ≡ [] → before ++ hidden secrets (held ++ []) ≡ shown ++ hidden secrets (rest ++ [])
    → shown ≡ hidden secrets held
hidden-all secrets held before shown rest none empty all =
    cc (append-nil held, append-nil shown)
