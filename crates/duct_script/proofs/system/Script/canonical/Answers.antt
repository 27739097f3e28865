-- The canonical path of a path is inserted.
use Rattle.std.proofs.Common.{refl}
use Rattle.duct_script.proofs.Paths.{insert_texts}
use Rattle.duct_script.proofs.system.Script.canonical.Goals as goal

pub returns-clause-ok : goal.returns-clause-ok
returns-clause-ok c = rw (c.in_ok-insert.ensures.entries, insert_texts, c.in_ok-path.ensures.ok, c.in_ok-text.ensures.ok) refl
