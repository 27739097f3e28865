-- The words of a command: the program, and copies of its arguments behind it.
use Rattle.std.proofs.Common.{ap, ◌∷◌}
use Rattle.std.proofs.lemmas.List.{map-append}
use Rattle.duct_system.specs.SpecView.{texts_of}
use Rattle.duct_start.specs.TreeView.{command}
use Rattle.duct.proofs.expression.cmd.Goals as goal

pub returns-clause-tree : goal.returns-clause-tree
returns-clause-tree g c =
    rw (c.in_ok-root.ensures.ok, c.in_ok-words.ensures.ok, c.in_ok-append.ensures.items, map-append _ _ _, c.in_ok-push.ensures.items, c.new-words.ensures.items, c.in_ok-copies_of_texts.ensures)
    (ap (λ program. command (program ∷ texts_of c.args.args.now)) c.in_ok-to_executable.ensures.text)
