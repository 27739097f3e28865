use Rattle.std.proofs.Common.{◌≡◌, ℕ, List, Ok, ap, map, string_bytes, subst, IfOk, ◌∙◌}
use Rattle.std.proofs.lemmas.Iterator.Consumers.{map_from_collect}
use Rattle.std.proofs.lemmas.Iterator.Splits.{YieldsList-from_lines}
use Rattle.duct_system.specs.SpecView.{texts_of}
use Rattle.duct_replay.proofs.journal.all_lines.Goals as goal

pub returns : goal.returns
returns c =
    let pieces = map_from_collect {E = ℕ} (Ok c.in_ok-pieces.pieces) c.in_ok-pieces.ensures.ran
    (YieldsList-from_lines c.args.text.now c.lines.ensures.rest) in
    subst (λ (all : List (List ℕ)). IfOk c.copies_of_texts.result (λ copies. map string_bytes copies.items ≡ all))
    (ap texts_of c.as_slice.ensures.value ∙ pieces) c.copies_of_texts.ensures
