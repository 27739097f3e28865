-- The line of a command that is started, and what a trace gets of it.
use Rattle.std.specs.Prelude.{◌≡◌, ℕ, List, [], ◌∷◌, ◌++◌, None, Some, codes, Option}
use Rattle.std.specs.Io.KnownBytes.{Appends, Keeps}
use Rattle.std.specs.declared.io.ErrorKind.{ErrorKind}
use Rattle.duct_system.specs.SpecView.{SpecView}
use Rattle.duct_words.specs.Quote.{quote_of}
use Rattle.duct_base.specs.Transfer.{AppendsFront}

-- the line of this text of a command: after `+`, and in this folder if there is one
abbrev pub line_in : Option (List ℕ) → List ℕ → List ℕ
line_in None text = codes "+ " ++ (text ++ codes "\n")
line_in (Some folder) text =
    codes "+ (cd " ++ (quote_of (folder ∷ []) ++ (codes " && " ++ (text ++ codes ")\n")))

-- the line of a spec: its words in the quotes that a shell needs, in its folder if it has one
abbrev pub line_of : SpecView → List ℕ
line_of spec = line_in spec.folder (quote_of spec.words)

-- a trace that goes on gets this line, or a prefix of it if it ends there; one that has ended gets
-- nothing more
abbrev pub Traces : Option (List ℕ) → Option (List ℕ) → List ℕ → Option ErrorKind
    → Option ErrorKind → Type 0
Traces old new line None None = Appends old new line
Traces old new line None (Some kind) = AppendsFront old new line
Traces old new line (Some kind) stopped = Keeps old new × (stopped ≡ Some kind)
