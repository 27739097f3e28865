-- The canonical path of a path is looked up by its text.
use Rattle.std.proofs.Common.{ap, ◌∙◌, refl, unwrap_or}
use Rattle.duct_script.proofs.Paths.{canonical_of-found}
use Rattle.duct_script.proofs.system.Script.canonical_text.Goals as goal

pub returns-in-Some : goal.returns-in-Some
returns-in-Some c = c.as_str.ensures.value ∙ ap (λ o. unwrap_or o c.args.path.now) (canonical_of-found c.args.path.now c.args.self.now.canonical.entries _ _ refl c.in-Some.ensures.value)

pub returns-in-None : goal.returns-in-None
returns-in-None c = ap (λ o. unwrap_or o c.args.path.now) (canonical_of-found c.args.path.now c.args.self.now.canonical.entries _ _ refl c.in-None.ensures.value)
