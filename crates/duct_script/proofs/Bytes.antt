-- The bytes that a read returns, and those that it leaves.
use Rattle.std.proofs.Common.{◌≡◌, ℕ, ◌+◌, List, ◌++◌, length, take, drop, sym, take_at, drop-drop}
use Rattle.std.proofs.lemmas.List.{take-append-drop}

-- the bytes left before the read are the first `count` bytes of the buffer, followed by those left
-- after it
pub left_before : (bytes front back : List ℕ) (given count : ℕ)
    → front ≡ take count (drop given bytes) → length front ≡ count →
    drop given bytes ≡ take count (front ++ back) ++ drop (given + count) bytes
left_before bytes front back given count is len =
    rw (take_at front back count len, is, ← drop-drop count given bytes) (sym (take-append-drop count (drop given bytes)))
