-- The lines before this place were handed on.
use Rattle.std.proofs.Common.{◌≤◌, ◌-◌, Ok, length, take}
use denote.Param.Always.{always_mut}
use Rattle.duct_tasks.specs.Streams.{Hands, HandsWhole}
use Rattle.duct_tasks.proofs.lines.hand_on.Given as goal

abbrev pub invariant-loop-line : goal.invariant-loop-line
invariant-loop-line g l =
    always_mut g.F.FnMut l.each
    × (l.told ≤ length l.bytes)
    × HandsWhole (Hands g.F.FnMut (Ok tt)) l.side l.initial.each (take l.told l.bytes) l.each

abbrev pub decreases-loop-line : goal.decreases-loop-line
decreases-loop-line g l = length l.bytes - l.told
