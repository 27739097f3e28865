-- What is returned of all bytes of a start's reader.
use Rattle.std.specs.Prelude.{ℕ, ◌≡◌, ◌⊎◌, List, IfSome, string_bytes, Bool, if◌then◌else◌, ◌==◌, ◌||◌, [], ◌∷◌, IsUtf8, Option, String}
use Rattle.std.specs.declared.alloc.Global.{Global}
use Rattle.std.specs.declared.io.ErrorKind.{ErrorKind}
use Rattle.duct_base.specs.Pool.{PoolView}
use Rattle.duct_system.specs.declared.error.Error.{Error}
use Rattle.duct_system.specs.declared.error.Error.TheVariants as error
use Rattle.duct_system.specs.declared.system.ExitStatus.{ExitStatus}
use Rattle.duct_system.specs.declared.system.Fault.{Fault}
use Rattle.duct_status.specs.ReplyView.{answered}
use Rattle.duct_start.specs.Running.{RunningView}
use Rattle.duct_base.specs.Transfer.{IsDrainFault}
use Rattle.duct_run.specs.Requested.{PoolGets}
use Rattle.duct_system.specs.SystemViews.{SystemViews}
use Rattle.duct_running.specs.Polled.{StaysSame}
use Rattle.duct_running.specs.Stored.{Bytes}
use Rattle.duct_handle.specs.Finished.{RanUntil, RanUntilGiven, StoresError, StoresReply}

-- a newline or a carriage return
abbrev pub is_line_end : ℕ → Bool
is_line_end byte = (byte == 10) || (byte == 13)

-- a byte before what is left of those after it: a line end is dropped if none of them is left
abbrev pub before : ℕ → List ℕ → List ℕ
before byte [] = if is_line_end byte then [] else (byte ∷ [])
before byte (next ∷ rest) = byte ∷ next ∷ rest

-- the bytes without their longest suffix of newlines and carriage returns
abbrev pub trimmed : List ℕ → List ℕ
trimmed [] = []
trimmed (byte ∷ rest) = before byte (trimmed rest)

-- the error is the fault of what stopped a reader
abbrev pub IsReadFault : Option ErrorKind → Error → Type 0
IsReadFault stopped e = (fault : Fault) × IsDrainFault stopped fault × (e ≡ error.System fault)

-- the error is some fault
abbrev pub IsFault : Error → Type 0
IsFault e = (fault : Fault) × (e ≡ error.System fault)

module _ {S E C F D : Type 0} (views : SystemViews S E C F D (Unit {0}) Bytes) where
  -- some output is the outcome of what they store
  abbrev pub EndsWell : RunningView C F D → Type 0
  EndsWell waited = (status : ExitStatus) × (out : List ℕ) × (err : List ℕ)
      × StoresReply views waited (answered status out err)

  -- the text is all bytes that the reader had left, if it tells them, without the line ends at
  -- their end, and what ran ended with an output
  abbrev pub HasText : Option (List ℕ) → String Global → RunningView C F D → Type 0
  HasText left text waited =
      (bytes : List ℕ) × IfSome left (λ all. bytes ≡ all)
      × (string_bytes text ≡ trimmed bytes) × EndsWell waited

  -- what ran ended with this error, or an allocation failed; or it ended with an output, and the
  -- bytes without those line ends are not UTF-8
  abbrev pub HasNoText : Option (List ℕ) → Error → RunningView C F D → Type 0
  HasNoText left e waited =
      StoresError views waited e
      ⊎ ((e ≡ error.NotUtf8)
      × ((bytes : List ℕ) × IfSome left (λ all. bytes ≡ all) × (IsUtf8 (trimmed bytes) → ⊥))
      × EndsWell waited)

  -- the reader was stopped, and what runs was not waited for; or it was, and there is no text
  abbrev pub StopsReading : Option ErrorKind → Option (List ℕ) → Error → RunningView C F D
      → RunningView C F D → Type 0
  StopsReading stopped left e before after =
      (IsReadFault stopped e × (after ≡ before))
      ⊎ (StaysSame views before after × HasNoText left e after)

  -- all was read of the reader of what ran
  abbrev pub ReadsText : RunningView C F D → Option (List ℕ) → String Global → Type 0
  ReadsText running left text = RanUntil views running (HasText left text)

  -- the reader failed with a fault, and the pool was given the children, which nobody waited for;
  -- or they were waited for, there is no text, and the pool was given them
  abbrev pub FailsToRead : RunningView C F D → Option (List ℕ) → Error → PoolView C → PoolView C
      → Type 0
  FailsToRead running left e before after =
      (IsFault e × PoolGets views running.children before after)
      ⊎ RanUntilGiven views running (HasNoText left e) before after
