-- What std's formatting prints for a form is its text, where that text is promised.
use Rattle.std.specs.declared.fmt.Error.{Error}
use Rattle.std.specs.declared.fmt.Formatter.{Formatter}
use Rattle.std.specs.List.{list_all}
use Rattle.std.specs.Fmt.{DisplaysOnOk, decimal}
use Rattle.std.proofs.Common.{◌≡◌, refl, subst, ℕ, List, [], ◌∷◌, Bool, true, false, Some, None, Result, if◌then◌else◌, Option}
use Rattle.std.proofs.lemmas.Bool.{and_parts}
use Rattle.duct_status.proofs.Quotes.{debug_str-printable, debug_list-listed, debug_list-printable}
use Rattle.duct_status.specs.Form.{Form, plain, quote, numbers, texts, before, form_text, is_form_printable, printed}

all_true : (xs : List ℕ) → list_all (λ x. true) xs ≡ true
all_true [] = refl
all_true (x ∷ xs) = all_true xs

-- a printable form prints its text
pub form_prints : (form : Form) → is_form_printable form ≡ true
    → printed form ≡ Some (form_text form)
form_prints (plain bytes) is = refl
form_prints (quote text) is = debug_str-printable text is
form_prints (numbers values) is = debug_list-listed (λ b. Some (decimal b)) decimal (λ b. true) (λ b e. refl) values (all_true values)
form_prints (texts all) is = debug_list-printable all is
form_prints (before form next) is =
    let both = and_parts (is_form_printable form) (is_form_printable next) is in
    rw (form_prints form both.0, form_prints next both.1) refl

-- what is promised where a test holds, from what is printed then
pub displays_if : {W : Type 0} (took : W → List ℕ → W → Type 0) (f : Formatter W)
    (r : Result (Unit {0}) Error) (g : Formatter W) (b : Bool) (o : Option (List ℕ))
    (bytes : List ℕ) → (b ≡ true → o ≡ Some bytes) → DisplaysOnOk took f r o g
    → DisplaysOnOk took f r (if b then Some bytes else None) g
displays_if took f r g true o bytes at writes = subst (λ (v : Option (List ℕ)). DisplaysOnOk took f r v g) (at refl) writes
displays_if took f r g false o bytes at writes = tt
