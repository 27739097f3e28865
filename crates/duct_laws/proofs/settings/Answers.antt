use Rattle.duct_laws.proofs.Surroundings.{inner_environment, inner_folder, inner_variable, nearest_variable}
use Rattle.duct_laws.proofs.settings.Goals as goal

pub returns : goal.returns
returns g c = record { folder = inner_folder _ _; nearest = nearest_variable _ _; variable = inner_variable _ _; environment = inner_environment _ _ }
