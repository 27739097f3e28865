-- The rules are those of the policy.
use Rattle.duct_guard.proofs.under.read_under.Given as goal

abbrev pub ghosts-read_fixed : goal.ghosts-read_fixed
ghosts-read_fixed g a = record { rules = g.P.Policy.rules a.policy }
