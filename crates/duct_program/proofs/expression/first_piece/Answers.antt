-- The first piece, with and without a `|`.
use Rattle.std.proofs.Common.{string_bytes, sym, ◌∙◌}
use Rattle.duct_program.specs.Line.{is_bar}
use Rattle.duct_program.proofs.Cuts.{cut, uncut}
use Rattle.duct_program.proofs.expression.first_piece.Goals as goal

pub returns-in-Some : goal.returns-in-Some
returns-in-Some c = cut is_bar string_bytes c.args.args.now c.in-Some.at (sym c.bar.ensures ∙ c.in-Some.is)

pub returns-in-None : goal.returns-in-None
returns-in-None c = uncut is_bar string_bytes c.args.args.now (sym c.bar.ensures ∙ c.in-None.is)
