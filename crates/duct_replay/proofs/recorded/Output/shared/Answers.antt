use Rattle.std.proofs.Common.{ℕ, ap, Global, Vec}
use Rattle.duct_replay.proofs.Noting.{given_again}
use Rattle.duct_replay.proofs.recorded.Output.shared.Goals as goal

pub returns : goal.returns
returns g c =
    given_again _ _ _ _ _ _ (ap (λ (bytes : Vec ℕ Global). bytes.items) c.in_ok-try_clone.ensures) c.args.self.now.told
