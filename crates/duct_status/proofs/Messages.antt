-- What std's forms print of a failure is its message.
use Rattle.std.specs.Fmt.{◌++?◌}
use Rattle.std.proofs.Common.{subst, sym, ◌∙◌, append_assoc, ◌≡◌, ℕ, List, ◌++◌, codes, IfSome, Option, Some}
use Rattle.duct_system.specs.declared.system.ExitStatus.{ExitStatus}
use Rattle.duct_status.specs.Message.{status_text, IsMessage, printed_message}
use Rattle.duct_status.specs.Form.{quoted_list}
use Rattle.duct_status.proofs.Quotes.{debug_list-printable}

joined : (a b c d : List ℕ) → a ++ (b ++ (c ++ d)) ≡ ((a ++ b) ++ c) ++ d
joined a b c d = sym (append_assoc (a ++ b) c d ∙ append_assoc a b (c ++ d))

pub from_printed : (texts : List (List ℕ)) (status : ExitStatus) (text : List ℕ)
    → IfSome (printed_message texts status) (λ bytes. text ≡ bytes) → IsMessage texts status text
from_printed texts status text printed is =
    let P : Option (List ℕ) → Type 0 = λ words. IfSome (Some (codes "command ") ++? words ++? Some (codes " exited with code ") ++? Some (status_text status)) (λ bytes. text ≡ bytes) in
    let e : text ≡ codes "command " ++ (quoted_list texts ++ (codes " exited with code " ++ status_text status)) = subst P (debug_list-printable texts is) printed in
    e ∙ joined (codes "command ") (quoted_list texts) (codes " exited with code ") (status_text status)
