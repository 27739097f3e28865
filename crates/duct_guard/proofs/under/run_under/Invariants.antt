-- The rules are those of the policy.
use Rattle.duct_guard.proofs.under.run_under.Given as goal

abbrev pub ghosts-run_fixed : goal.ghosts-run_fixed
ghosts-run_fixed g a = record { rules = g.P.Policy.rules a.policy }
