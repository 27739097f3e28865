use Rattle.std.proofs.Common.{◌∙◌, ap, map, sym}
use Rattle.std.proofs.lemmas.List.{drop-map}
use Rattle.duct_system.specs.EntryView.{entry_view}
use Rattle.duct_shell.proofs.shell.after.Goals as goal

pub returns-in-Some : goal.returns-in-Some
returns-in-Some c =
    ap (map entry_view) c.in-Some.ensures.cases.2 ∙ sym (drop-map entry_view c.args.entries c.args.journal.now)
