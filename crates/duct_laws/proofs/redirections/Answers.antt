use Rattle.duct_laws.proofs.Opened.{still_opens}
use Rattle.duct_laws.proofs.Streams.{inner_counts, swaps_cancel}
use Rattle.duct_laws.proofs.redirections.Goals as goal

pub returns : goal.returns
returns g c = record { inner = inner_counts _ _; opened = still_opens _ _; swaps = swaps_cancel _ _ }
