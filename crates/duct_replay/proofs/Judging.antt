-- Two lists of entries that are the same up to a place, and what a verdict on them says of memory.
use Rattle.std.proofs.Common.{ℕ, List, [], ◌∷◌, ◌++◌, ◌+◌, ◌<◌, ◌||◌, Bool, true, map, take, length, suc, slice_get, get_or, Some, option_map, Option, ◌≡◌, refl, ap, sym, subst, ◌∙◌, arith}
use Rattle.std.specs.List.{list_any}
use Rattle.std.proofs.lemmas.List.{length-map, take-map}
use Rattle.std.proofs.lemmas.Option.{get_or_from_slice_get, slice_get-get_or, slice_get-map}
use Rattle.std.proofs.Math.Seq.{take-suc}
use Rattle.duct_system.specs.EntryView.{EntryView, entry_view}
use Rattle.duct_system.specs.declared.error.Error.{Error}
use Rattle.duct_system.specs.declared.system.Entry.{Entry}
use Rattle.duct_replay.specs.Judged.{HadMemory, IsLostSpawn, lacks_memory, stops_without_memory}

-- the view of the entry at a place
pub view_at : (entries : List Entry) (place : ℕ) (entry : Entry) → place < length entries
    → entry ≡ get_or entries place entry
    → slice_get (map entry_view entries) place ≡ Some (entry_view entry)
view_at entries place entry within is =
    slice_get-map entry_view entries place
    ∙ ap (λ (found : Option Entry). option_map entry_view found)
    (slice_get-get_or entries place entry within ∙ ap (λ (e : Entry). Some e) (sym is))

-- one more entry that is the same
pub same_more : (recorded made : List Entry) (place : ℕ) (one other : Entry)
    → place < length recorded → place < length made
    → one ≡ get_or recorded place one → other ≡ get_or made place other
    → entry_view one ≡ entry_view other
    → take place (map entry_view made) ≡ take place (map entry_view recorded)
    → take (place + 1) (map entry_view made) ≡ take (place + 1) (map entry_view recorded)
same_more recorded made place one other within also one_is other_is same before =
    let there : place < length (map entry_view recorded) = omega (arith, length-map recorded entry_view) in
    let here : place < length (map entry_view made) = omega (arith, length-map made entry_view) in
    let found = get_or_from_slice_get (map entry_view recorded) place (entry_view one) (entry_view one) (view_at recorded place one within one_is) in
    let got = get_or_from_slice_get (map entry_view made) place (entry_view other) (entry_view one) (view_at made place other also other_is) in
    let next : place + 1 ≡ suc place = omega arith in
    let last = got ∙ sym same ∙ sym found in
    ap (λ (n : ℕ). take n (map entry_view made)) next
    ∙ take-suc (map entry_view made) place (entry_view one) here
    ∙ (λ i. before i ++ last i ∷ [])
    ∙ sym (take-suc (map entry_view recorded) place (entry_view one) there)
    ∙ ap (λ (n : ℕ). take n (map entry_view recorded)) (sym next)

-- whether memory lacked, by the entries or by their views
pub list_any-entries : (entries : List Entry)
    → list_any (λ entry. lacks_memory (entry_view entry)) entries ≡ list_any lacks_memory (map entry_view entries)
list_any-entries [] = refl
list_any-entries (entry ∷ entries) =
    ap (λ (more : Bool). lacks_memory (entry_view entry) || more) (list_any-entries entries)

-- a verdict at this place had memory
pub had_memory : (there place : ℕ) (recorded made : List Entry) (error : Option Error)
    (one other : Option EntryView) → there ≡ place
    → (stops_without_memory error ≡ true → list_any (λ entry. lacks_memory (entry_view entry)) (take place made) ≡ true)
    → one ≡ slice_get (map entry_view recorded) place
    → other ≡ slice_get (map entry_view made) place
    → (IsLostSpawn one other → ⊥)
    → HadMemory there (map entry_view recorded) (map entry_view made) error
had_memory there place recorded made error one other is stops one_is other_is not_lost =
    rw is (record {
      stops = λ stopped. ap (λ (entries : List EntryView). list_any lacks_memory entries) (take-map entry_view place made)
          ∙ sym (list_any-entries (take place made)) ∙ stops stopped;
      spawns = λ lost. not_lost
          (subst (λ (o : Option EntryView). IsLostSpawn one o) (sym other_is)
          (subst (λ (o : Option EntryView). IsLostSpawn o (slice_get (map entry_view made) place)) (sym one_is) lost));
    })
