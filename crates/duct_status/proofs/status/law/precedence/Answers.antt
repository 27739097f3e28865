use Rattle.duct_status.proofs.Order.{strict_total_order, one_wins, chosen_wins, fails_where_some_fails, unchecked_keeps}
use Rattle.duct_status.proofs.status.law.precedence.Goals as goal

pub returns : goal.returns
returns c = record { order = strict_total_order; one = one_wins; choice = chosen_wins; failure = fails_where_some_fails; unchecked = unchecked_keeps }
