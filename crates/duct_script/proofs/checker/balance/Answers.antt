use Rattle.duct_script.proofs.Balance.{balances_everywhere, balances_in}
use Rattle.duct_script.proofs.checker.balance.Goals as goal

pub returns-then-all_balance : goal.returns-then-all_balance
returns-then-all_balance c =
    let got = c.args.got.now in let spent = c.args.spent.now in (
      λ is. balances_everywhere got spent (c.all_balance.ensures.0 c.if-all_balance.true) (c.all_balance-then-all_balance.ensures.0 is),
      λ all. c.all_balance-then-all_balance.ensures.1 (balances_in got spent spent all),
    )

pub returns-else-all_balance : goal.returns-else-all_balance
returns-else-all_balance c =
    let got = c.args.got.now in let spent = c.args.spent.now in
    (λ is. cc, λ all. c.all_balance.ensures.1 (balances_in got spent got all))
