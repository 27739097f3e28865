use Rattle.duct_start.proofs.Duplicates.{duplicate_origin}
use Rattle.duct_laws.proofs.duplicates.Goals as goal

pub returns : goal.returns
returns c = λ entries lent number. duplicate_origin lent entries number
