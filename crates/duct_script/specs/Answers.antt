-- What calls return: the next result of a list that a test sets, or bytes that others own too.
use Rattle.std.specs.Prelude.{ℕ, ◌-◌, ◌^◌, max, List, [], ◌∷◌, ◌≡◌, Contains, Ok, Err, Result, Vec}
use Rattle.std.specs.declared.alloc.Global.{Global}
use Rattle.std.specs.declared.io.ErrorKind.{ErrorKind}
use Rattle.std.specs.declared.sync.Arc.{Arc}
use Rattle.std.specs.declared.time.Duration.{Duration}
use Rattle.std.specs.Arc.{arc_value}
use Rattle.duct_system.specs.declared.system.Said.{Said}
use Rattle.duct_system.specs.declared.system.Said.TheVariants as said
use Rattle.duct_script.specs.declared.reader.ReadStep.{ReadStep}
use Rattle.duct_script.specs.declared.reader.ReadStep.TheVariants.{Piece, Fault}

-- the next result, or another one if the list is empty
abbrev pub next_or : {T : Type 0} → T → List T → T
next_or other [] = other
next_or other (first ∷ rest) = first

-- what is left of the list after its next result is taken; the last one is repeated
abbrev pub left_of : {T : Type 0} → List T → List T
left_of [] = []
left_of (last ∷ []) = last ∷ []
left_of (first ∷ second ∷ rest) = second ∷ rest

-- the next item is the first of the list or, if the list is empty, something of this kind
abbrev pub IsNext : {T : Type 0} → List T → (T → Type 0) → T → Type 0
IsNext [] IsOther next = IsOther next
IsNext (first ∷ rest) IsOther next = next ≡ first

-- what a clock shows: one of the times, or its zero if there is none
abbrev pub Shows : List Duration → Duration → Type 0
Shows [] moment = moment ≡ record { secs = 0; nanos = 0 }
Shows (first ∷ rest) moment = Contains (first ∷ rest) moment

-- the most bytes that a read with these steps returns, or the kind of the error with which it fails
abbrev pub step_of : List ReadStep → Result ℕ ErrorKind
step_of [] = Ok (2 ^ 64 - 1)
step_of (Piece length ∷ rest) = Ok (max length 1)
step_of (Fault kind ∷ rest) = Err kind

-- an owner of bytes that may have other owners
abbrev pub Shared : Type 0
Shared = Arc (Vec ℕ Global) Global

-- two owners of equal bytes
abbrev pub SameBytes : Shared → Shared → Type 0
SameBytes one other = (arc_value other).items ≡ (arc_value one).items

-- the result with its bytes, whoever owns them
abbrev pub bytes_said : Said Shared → Said (List ℕ)
bytes_said said.Running = said.Running
bytes_said (said.Done bytes) = said.Done (arc_value bytes).items
bytes_said (said.Fault fault) = said.Fault fault
