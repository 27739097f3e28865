use Rattle.std.proofs.Common.{◌≡◌, drop, map}
use Rattle.std.specs.Char.{to_ascii_lowercase}
use Rattle.std.specs.Cmp.Lexicographic.{slice_cmp}
use Rattle.std.specs.Ordering.{nat_cmp}
use Rattle.duct_system.proofs.names.order.Given as goal

-- the order is that of what is left of both texts
abbrev pub invariant-loop-i : goal.invariant-loop-i
invariant-loop-i l =
    slice_cmp nat_cmp (map to_ascii_lowercase l.one) (map to_ascii_lowercase l.other)
    ≡ slice_cmp nat_cmp (map to_ascii_lowercase (drop l.i l.one)) (map to_ascii_lowercase (drop l.i l.other))
