use Rattle.duct_script.proofs.checker.is_balanced.Goals as goal

pub returns : goal.returns
returns c = rw (← c.in_ok-got.ensures, ← c.in_ok-spent.ensures, ← c.as_slice.ensures.value, ← c.as_slice-2.ensures.value) c.balance.ensures
