use Rattle.std.specs.Prelude.{◌||◌, codes, nat_eq, string_bytes}
use Rattle.std.specs.List.{ends_with}
use Rattle.std.specs.Str.{bytes_eq}
use Rattle.std.proofs.Common.{◌≡◌, ◌∙◌, ap, subst, sym, ℕ, Bool, false, List}
use Rattle.std.proofs.lemmas.Str.Pattern.{ends_text}
use Rattle.duct_system.proofs.Leading.{leads_first}
use Rattle.duct_system.specs.SpecView.{leads}
use Rattle.duct_system.proofs.spec.CommandSpec.leads.Goals as goal

pub returns-else-eq : goal.returns-else-eq
returns-else-eq c =
    let program = c.in-Some.program.now in
    let text : List ℕ = c.as_str-program.result.now in
    let same : text ≡ string_bytes program = c.as_str-program.ensures.value in
    let ends : c.ends_with.result ≡ ends_with nat_eq text (codes "/setsid") =
    ends_text c.ends_with.result (codes "/setsid") text c.ends_with.ensures.cases in
    let no : bytes_eq (string_bytes program) (codes "setsid") ≡ false =
    subst (λ (s : List ℕ). bytes_eq s (codes "setsid") ≡ false) same (sym c.if-eq.ensures) in
    leads_first c.words.result.now program c.ends_with.result c.in-Some.ensures.value
    (subst (λ (s : List ℕ). c.ends_with.result ≡ ends_with nat_eq s (codes "/setsid")) same ends
    ∙ sym (ap (λ (b : Bool). b || ends_with nat_eq (string_bytes program) (codes "/setsid")) no))
    ∙ ap leads c.words.ensures
