use Rattle.std.proofs.Common.{◌≡◌, ◌∷◌, [], fold, map, take}
use Rattle.std.specs.Char.{to_ascii_lowercase}
use Rattle.duct_system.proofs.names.EnvNameStringHash.hash.Given as goal

-- the bytes so far were written to the hasher
abbrev pub invariant-loop-byte : goal.invariant-loop-byte
invariant-loop-byte g l =
    l.state ≡ fold g.H.Hasher.write l.fn.state (map (λ byte. byte ∷ []) (map to_ascii_lowercase (take l.byte-index l.byte-items)))
