-- The text of the failure, where there is memory for it.
use Rattle.std.proofs.Common.{◌≡◌, ◌++◌, ◌∙◌, ℕ, List, Ok, Err, Option, Result, String, Global, codes, string_bytes, IfOk, IfSome, subst, sym}
use Rattle.std.specs.Result.{result_ok}
use Rattle.duct_shell.specs.Converted.{NamesPath}
use Rattle.duct_shell.proofs.failure.Failure.at.Goals as goal
use Rattle.duct_shell.proofs.failure.Failure.at.Goals.{in-Ok, in-Err}

named : {E : Type 0} (path said : List ℕ) (made : Result (String Global) E)
    → IfOk made (λ line. string_bytes line ≡ path ++ (codes ": " ++ said))
    → IfSome (result_ok made) (λ text. NamesPath path (string_bytes text))
named path said (Ok line) is = (said, is)
named path said (Err error) is = tt

pub returns-clause-request : goal.returns-clause-request
returns-clause-request c =
    let Holds = λ (found : Option (String Global)). IfSome found (λ text. NamesPath c.args.path.now (string_bytes text)) in
    elim c.match-to_string.branch [
      | in-Ok w ↦ subst Holds (sym (w.request-is ∙ w.ok-request.ensures.value))
          (named c.args.path.now (string_bytes w.in-Ok.text) w.format.result w.format.ensures.ok)
      | in-Err w ↦ subst Holds (sym w.request-is) tt
    ]
