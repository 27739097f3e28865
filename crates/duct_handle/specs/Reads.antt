-- What a read of a handle's pipe returns, and what its token knows then.
use Rattle.std.specs.Prelude.{ℕ, ◌≡◌, ◌<◌, ◌⊎◌, IsSomeAnd, Ok, Err, Some, Result}
use Rattle.std.specs.declared.alloc.Global.{Global}
use Rattle.std.specs.declared.sync.Arc.{Arc}
use Rattle.duct_system.specs.declared.error.Error.{Error}
use Rattle.duct_system.specs.declared.error.Error.TheVariants as error
use Rattle.duct_system.specs.declared.system.Fault.{Fault}
use Rattle.duct_system.specs.declared.system.Output.{Output}
use Rattle.duct_system.specs.SystemViews.{SystemViews}
use Rattle.duct_running.specs.Polled.{Polled}
use Rattle.duct_running.specs.Stored.{Bytes}
use Rattle.duct_handle.specs.HandleView.{HandleView, SeenView}
use Rattle.duct_handle.specs.Waited.{IsOf, Waited, at_end}
use Rattle.std.specs.declared.io.ErrorKind.{ErrorKind}
use Rattle.std.specs.declared.io.ErrorKind.TheVariants as kind
use Rattle.duct_system.specs.Kinds.{name_of}

-- what a read returns after a wait: no bytes, or the error of the wait
abbrev pub at_close : Result (Arc Output Global) Error → Result ℕ Error
at_close (Ok output) = Ok 0
at_close (Err e) = Err e

-- a read into this much room: the pipe gave some bytes, or there was no room; or the pipe failed
-- with a fault; or it gave nothing, and the read waited for what runs, which may return this
abbrev pub ReadsOnce : (Polled → Type 0) → ℕ → Result ℕ Error → Type 0
ReadsOnce may_return room result =
    ((count : ℕ) × (result ≡ Ok count) × ((0 < count) ⊎ (room ≡ 0)))
    ⊎ ((fault : Fault) × (0 < room) × (result ≡ Err (error.System fault)))
    ⊎ ((waited : Result (Arc Output Global) Error) × (0 < room) × may_return (at_end waited)
    × (result ≡ at_close waited))

-- a wait may return an output
abbrev pub HasOutput : (Polled → Type 0) → Type 0
HasOutput may_return = (output : Arc Output Global) × may_return (Ok (Some output))

-- the token knows an output of this handle
abbrev pub KnowsOutput : HandleView → SeenView → Type 0
KnowsOutput handle seen =
    (output : Arc Output Global) × IsSomeAnd seen.known (IsOf handle (Ok (Some output)))

module _ {S E C F D : Type 0} (views : SystemViews S E C F D (Unit {0}) Bytes) where
  -- a read into this much room: the pipe gave some bytes, or there was no room; or the pipe failed
  -- with a fault; or it gave nothing, and the read waited for what runs
  abbrev pub ReadsAs : HandleView → ℕ → SeenView → SeenView → Result ℕ Error → Type 0
  ReadsAs handle room before after result =
      ((count : ℕ) × (result ≡ Ok count) × ((0 < count) ⊎ (room ≡ 0)) × (after ≡ before))
      ⊎ ((fault : Fault) × (0 < room) × (result ≡ Err (error.System fault)) × (after ≡ before))
      ⊎ ((waited : Result (Arc Output Global) Error) × (0 < room)
      × Waited views handle before after (at_end waited) × (result ≡ at_close waited))

  -- what a read returns at EOF, after a wait for what runs
  abbrev pub ClosesAs : HandleView → SeenView → SeenView → Result ℕ Error → Type 0
  ClosesAs handle before after result =
      (waited : Result (Arc Output Global) Error)
      × Waited views handle before after (at_end waited) × (result ≡ at_close waited)

-- the kind of a fault, `OutOfMemory` for an allocation failure, and `Other` for each other error
abbrev pub kind_read : Error → ErrorKind
kind_read (error.System fault) = name_of fault.kind
kind_read error.Memory = kind.OutOfMemory
kind_read (error.Checked text) = kind.Other
kind_read error.NotUtf8 = kind.Other
kind_read (error.Hook fault) = kind.Other
kind_read (error.HookEnd place) = kind.Other
kind_read error.Deadline = kind.Other
