-- The node that is left is no deeper than the node that was dropped.
use Rattle.std.proofs.Common.{◌≤◌}
use Rattle.duct_tree.proofs.tree.Node.TheLaws.{the_size}
use Rattle.duct_tree.proofs.tree.Node.+drop.Given as goal

abbrev pub invariant-loop-self : goal.invariant-loop-self
invariant-loop-self g l = the_size g.row.E g.row.H g.E.laws g.H.laws l.self ≤ the_size g.row.E g.row.H g.E.laws g.H.laws l.fn.self
