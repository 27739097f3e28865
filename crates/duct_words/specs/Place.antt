-- The words that run a command somewhere else.
use Rattle.std.specs.Prelude.{ℕ, List, [], ◌∷◌, ◌++◌, codes}
use Rattle.duct_system.specs.SpecView.{texts_of}
use Rattle.duct_words.specs.Quote.{quote_of}
use Rattle.duct_words.specs.declared.place.Place.{Place}
use Rattle.duct_words.specs.declared.place.Place.TheVariants.{Ssh, Srun, Behind}

-- the words that run the command of these words at a place
abbrev pub placed_words : Place → List (List ℕ) → List (List ℕ)
placed_words (Ssh machine) words =
    codes "ssh" ∷ machine.now ∷ codes "--" ∷ quote_of words ∷ []
placed_words Srun words = codes "srun" ∷ codes "-Qn1" ∷ words
placed_words (Behind before) words = texts_of before.now ++ words
