-- What reading arguments returns.
use Rattle.std.specs.Prelude.{◌≡◌, Err, Ok, Result}
use Rattle.duct_program.specs.declared.usage.Usage.{Usage}
use Rattle.duct_program.specs.declared.usage.Usage.TheVariants.{Memory}

infixl 10 ◌>>=◌
-- a value goes on to the next step, and an error stays
abbrev pub ◌>>=◌ : {A B E : Type 0} → Result A E → (A → Result B E) → Result B E
(Ok value) >>= next = next value
(Err error) >>= next = Err error

-- the usage error is the one that is read, or an allocation failed
abbrev pub RefusesAs : {B : Type 0} → Usage → Result B Usage → Type 0
RefusesAs Memory read = Unit {0}
RefusesAs usage read = read ≡ Err usage

-- the result, seen by a view, is what is read, or an allocation failed
abbrev pub ParsesAs : {A B : Type 0} → (A → B) → Result A Usage → Result B Usage → Type 0
ParsesAs view (Ok value) read = read ≡ Ok (view value)
ParsesAs view (Err usage) read = RefusesAs usage read
