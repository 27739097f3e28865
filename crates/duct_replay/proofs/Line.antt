-- The text of an item, read back.
use Rattle.std.proofs.Common.{◌≡◌, ℕ, ◌≤◌, List, false, Some, Ok, ok_or, ap, sym, subst, ◌∙◌, arith}
use Rattle.serde_json.specs.Data.{Data, depth}
use Rattle.serde_json.specs.Written.{compact_text, has_float}
use Rattle.serde_json.specs.Read.{max_depth, read}
use Rattle.duct_replay.specs.Lines.{IsWritable, ItemView, item_data, item_line, item_meant, ◌>>=◌}
use Rattle.duct_replay.specs.declared.error.Refusal.TheVariants.{NotJson}
use Rattle.duct_replay.specs.declared.write.Values.{Values}
use Rattle.duct_replay.specs.declared.write.Values.TheVariants.{Shown}
use Rattle.duct_replay.proofs.RoundTrip.{item_back}
use Rattle.duct_replay.proofs.Shallow.{item_plain}

-- an item is shallow enough to be read back
pub read_again : (values : Values) (item : ItemView) (json : Data) (text : List ℕ)
    → json ≡ item_data values item → (depth json ≤ max_depth → read text ≡ Some json)
    → read text ≡ Some (item_data values item)
read_again values item json text is reads =
    let plain = item_plain values item in
    let low : depth (item_data values item) ≤ max_depth = omega (arith, plain.shallow) in
    reads (subst (λ json. depth json ≤ max_depth) (sym is) low) ∙ ap Some is

-- a line that shows all means its item
pub meant_again : (values : Values) (item : ItemView) (text : List ℕ) → IsWritable item
    → values ≡ Shown → read text ≡ Some (item_data values item) → item_line text ≡ Ok item
unfolding item_line
meant_again values item text writable shown is =
    ap (λ read. ok_or read NotJson >>= item_meant) (is ∙ ap (λ values. Some (item_data values item)) shown) ∙ item_back item writable

-- an item has no float, so its text is known
pub text_again : (values : Values) (item : ItemView) (json : Data) (text : List ℕ)
    → json ≡ item_data values item → (has_float json ≡ false → text ≡ compact_text json)
    → text ≡ compact_text (item_data values item)
text_again values item json text is writes =
    let plain = item_plain values item in
    writes (ap has_float is ∙ plain.exact) ∙ ap compact_text is
