use Rattle.std.proofs.Common.{◌≡◌, map, drop, string_bytes}
use Rattle.duct_script.specs.Settings.{has_word}
use Rattle.duct_script.proofs.hook.contains.Given as goal

abbrev pub invariant-loop-other : goal.invariant-loop-other
invariant-loop-other l = has_word l.word (map string_bytes l.words) ≡ has_word l.word (map string_bytes (drop l.other-index l.words))
