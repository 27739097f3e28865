-- The copies so far are those of the texts so far.
use Rattle.std.proofs.Common.{map, ◌≡◌, string_bytes, take}
use Rattle.duct_system.specs.SpecView.{texts_of}
use Rattle.duct_system.proofs.copy.copies_of_texts.Given as goal

abbrev pub invariant-loop-text : goal.invariant-loop-text
invariant-loop-text l = map string_bytes l.copies.items ≡ texts_of (take l.text-index l.texts)
