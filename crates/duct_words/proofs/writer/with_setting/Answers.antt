use Rattle.std.proofs.Common.{rules, ◌≡◌, ◌==◌, ◌++◌, ◌∷◌, ◌∙◌, ℕ, List, [], Ok, false, ap, codes, length, sym}
use Rattle.duct_words.specs.ShellText.{is_setting, with_setting, word_text}
use Rattle.duct_words.proofs.writer.with_setting.Goals as goal

set : (settings name value setting quoted text : List ℕ) → (length name == 0) ≡ false
    → is_setting name ≡ false → setting ≡ name ++ (codes "=" ++ value) → quoted ≡ word_text setting
    → text ≡ settings ++ (codes " " ++ quoted) → with_setting settings name value ≡ Ok text
set settings [] value setting quoted text some plain one word all = absurd (cc)
set settings (b ∷ name) value setting quoted text some plain one word all =
    let same : word_text ((b ∷ name) ++ (codes "=" ++ value)) ≡ quoted =
    ap word_text (sym one) ∙ sym word in
    rw (plain, with_setting) (ap (λ q. Ok (settings ++ (codes " " ++ q))) same ∙ ap Ok (sym all))

pub returns : goal.returns
returns c =
    set _ _ _ c.as_str.result.now _ _ (sym c.is_empty.ensures ∙ c.if-is_empty.false)
    (sym c.is_setting.ensures ∙ c.if-is_setting.false) (search rules) c.in_ok-setting-2.ensures (search rules)
