-- What was read so far, followed by what is read of the rest.
use Rattle.std.proofs.Common.{List, ◌++◌, Ok, Err, Result}
use Rattle.duct_replay.specs.declared.error.Refusal.{Refusal}

-- these values, followed by those that are read
abbrev pub behind : {A : Type 0} → List A → Result (List A) Refusal → Result (List A) Refusal
behind done (Ok more) = Ok (done ++ more)
behind done (Err refusal) = Err refusal
