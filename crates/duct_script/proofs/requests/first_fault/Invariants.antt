use Rattle.std.proofs.Common.{◌≡◌, drop}
use Rattle.duct_script.specs.Settings.{fault_for}
use Rattle.duct_script.proofs.requests.first_fault.Given as goal

abbrev pub invariant-loop-refusal : goal.invariant-loop-refusal
invariant-loop-refusal l = fault_for l.place l.among_all l.among_sort l.refusals ≡ fault_for l.place l.among_all l.among_sort (drop l.refusal-index l.refusals)
