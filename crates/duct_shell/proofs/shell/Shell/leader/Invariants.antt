-- The words so far are those of the texts so far.
use Rattle.std.proofs.Common.{◌≡◌, map, string_bytes, take}
use Rattle.duct_shell.proofs.shell.Shell.leader.Given as goal

abbrev pub invariant-loop-text : goal.invariant-loop-text
invariant-loop-text g l =
    map (λ word. word.now) l.words.items ≡ map string_bytes (take l.text-index l.texts)
