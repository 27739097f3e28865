-- What streams give that are read on threads, and the lines that are handed on of them.
use Rattle.std.specs.Prelude.{ℕ, ◌≡◌, ◌<◌, ◌≤◌, ◌≢◌, ◌++◌, ◌==◌, Bool, List, [], ◌∷◌, length, map, take, drop, true, false, IfSome, Ok, Err, if◌then◌else◌, None, Option, Result}
use Rattle.std.specs.Borrow.{Bor}
use Rattle.std.specs.Fn.{Called, Mut}
use Rattle.std.specs.Io.{ReadsAtMost}
use Rattle.std.specs.Io.BufRead.{drop_through, ends_with_byte, first_line, strip_last}
use Rattle.std.specs.Io.KnownBytes.{Consumes, IsAtEnd, ReadConsumes}
use Rattle.std.specs.List.{FoldsTo, concat}
use Rattle.std.specs.declared.io.Error.{Error}
use Rattle.duct_system.specs.declared.system.Side.{Side}
use Rattle.duct_system.specs.declared.system.Side.TheVariants as side
use Rattle.duct_tasks.specs.declared.lines.BothLines.{BothLines}
use Rattle.duct_tasks.specs.declared.lines.Lines.{Lines}
use Rattle.duct_tasks.specs.declared.lines.LinesError.{LinesError}
use Rattle.duct_tasks.specs.declared.lines.LinesError.TheVariants as lines
use Rattle.duct_tasks.specs.declared.stream.Stream.{Stream}

-- what a read left, into a buffer that has room
abbrev pub IsBlock : Option (List ℕ) → Option (List ℕ) → Result ℕ Error → List ℕ → Type 0
IsBlock before after read buffer =
    (0 < length buffer) × ReadsAtMost read buffer × ReadConsumes before after read buffer

-- the bytes that a read put into the buffer
abbrev pub bytes_of : Result ℕ Error → List ℕ → List ℕ
bytes_of (Ok read) buffer = take read buffer
bytes_of (Err error) buffer = []

-- bytes were read, and appended to these
abbrev pub Takes : Option (List ℕ) → Option (List ℕ) → List ℕ → List ℕ → Type 0
Takes old new before after =
    (added : List ℕ) × (after ≡ before ++ added) × Consumes old new added

-- the part of a line before its newline
abbrev pub IsPart : List ℕ → Type 0
IsPart [] = Unit {0}
IsPart (byte ∷ bytes) = ((byte == 10) ≡ false) × IsPart bytes

-- a line with its newline
abbrev pub IsWhole : List ℕ → Type 0
IsWhole line = (front : List ℕ) × IsPart front × (line ≡ front ++ 10 ∷ [])

-- lines with their newlines
abbrev pub AreWhole : List (List ℕ) → Type 0
AreWhole [] = Unit {0}
AreWhole (line ∷ lines) = IsWhole line × AreWhole lines

-- a line without its `\n` or `\r\n`
abbrev pub without_end : List ℕ → List ℕ
without_end line =
    if ends_with_byte 10 line then strip_last 13 (strip_last 10 line) else strip_last 10 line

-- bytes with these lines, each without its `\n` or `\r\n`; no line follows the last `\n`
abbrev pub AreLines : List ℕ → List (List ℕ) → Type 0
AreLines bytes [] = bytes ≡ []
AreLines bytes (text ∷ texts) =
    (bytes ≢ []) × (text ≡ first_line bytes) × AreLines (drop_through 10 bytes) texts

module _ {R : Type 0} (remaining : R → Option (List ℕ)) where
  -- a read that goes on, or whose bytes were not taken yet, is one of a reader that has left what
  -- this one has; where there is none, and none has failed, nothing is left
  pub record IsStream (stream : Stream R) : Type 0 where
    pub goes_on : IfSome stream.reading
        (λ r. remaining r.thread.promise.0.value ≡ remaining stream.left.value)
    pub was_read : IfSome stream.block
        (λ b. IsBlock (remaining stream.left.value) (remaining b.reader) b.read b.buffer.items)
    pub one : IfSome stream.block (λ b. stream.reading ≡ None)
    pub is_over : stream.reading ≡ None → stream.block ≡ None → stream.fault ≡ None
        → IsAtEnd (remaining stream.left.value)

  -- the bytes are those that the reader gave, and all of them at EOF; no more than these were
  -- handed on
  pub record IsLines (lines : Lines R) : Type 0 where
    pub is_stream : IsStream lines.stream
    pub fits : lines.told ≤ length lines.bytes.items
    pub gave : Consumes (remaining lines.first.value) (remaining lines.stream.left.value)
        lines.bytes.items
    pub ended : lines.is_open ≡ false → IsAtEnd (remaining lines.stream.left.value)

-- a call of the closure f with a line of a stream gave this, and left f'
pub record Hands {F R : Type 0} (calls : Mut F (Side × (Bor (List ℕ) × Unit {0})) R) (r : R) (f : F)
    (line : Side × List ℕ) (f' : F) : Type 0 where
  pub shown : Bor (List ℕ)
  pub shows : shown.now ≡ line.1
  pub called : Called calls f (line.0, (shown, tt)) r f'

-- the texts of a stream, among those of both
abbrev pub texts_of : Side → List (Side × List ℕ) → List (List ℕ)
texts_of stream [] = []
texts_of side.Out ((side.Out, text) ∷ others) = text ∷ texts_of side.Out others
texts_of side.Out ((side.Err, text) ∷ others) = texts_of side.Out others
texts_of side.Err ((side.Out, text) ∷ others) = texts_of side.Err others
texts_of side.Err ((side.Err, text) ∷ others) = text ∷ texts_of side.Err others

module _ {F : Type 0} (Step : F → Side × List ℕ → F → Type 0) where
  -- these bytes are whole lines, and were handed on as lines of this stream, in order
  abbrev pub HandsWhole : Side → F → List ℕ → F → Type 0
  HandsWhole stream f bytes f' =
      (lines : List (List ℕ)) × AreWhole lines × (bytes ≡ concat lines)
      × FoldsTo Step f (map (λ line. (stream, without_end line)) lines) f'

  -- these bytes were handed on as one line of this stream, if there are any
  abbrev pub HandsRest : Side → F → List ℕ → F → Type 0
  HandsRest stream f [] f' = f' ≡ f
  HandsRest stream f (byte ∷ bytes) f' = Step f (stream, without_end (byte ∷ bytes)) f'

  -- bytes were added to those of a stream, of which so many had been handed on, and then those of
  -- the whole lines among the others were handed on; where those before were no more than a part of
  -- a line beyond, so are those after
  pub record Turns (stream : Side) (bytes : List ℕ) (told : ℕ) (f : F) (bytes' : List ℕ) (told' : ℕ)
      (f' : F) : Type 0 where
    pub added : List ℕ
    pub grows : bytes' ≡ bytes ++ added
    pub lines : List ℕ
    pub takes : take told' bytes' ≡ take told bytes ++ lines
    pub hands : HandsWhole stream f lines f'
    pub rest : IsPart (drop told bytes) → IsPart (drop told' bytes')

  -- all lines of both streams were handed on, those of each in their order
  pub record HandsBoth (f f' : F) (out err : List ℕ) : Type 0 where
    pub lines : List (Side × List ℕ)
    pub handed : FoldsTo Step f lines f'
    pub output : AreLines out (texts_of side.Out lines)
    pub error : AreLines err (texts_of side.Err lines)

  -- what was handed on of a stream: whole lines, which are so many bytes, and no more than a part
  -- of a line is left
  pub record Told (stream : Side) (handed : List (Side × List ℕ)) (bytes : List ℕ) (told : ℕ)
      : Type 0 where
    pub lines : List (List ℕ)
    pub whole : AreWhole lines
    pub takes : take told bytes ≡ concat lines
    pub texts : texts_of stream handed ≡ map without_end lines
    pub rest : IsPart (drop told bytes)

  -- lines of both streams were handed on
  pub record ToldBoth (f g : F) (out : List ℕ) (told : ℕ) (err : List ℕ) (told_err : ℕ)
      : Type 0 where
    pub handed : List (Side × List ℕ)
    pub steps : FoldsTo Step f handed g
    pub output : Told side.Out handed out told
    pub error : Told side.Err handed err told_err

  -- the lines of both streams were handed on, as far as they were read: all of them, or else those
  -- that are whole
  abbrev pub HandsTo : Bool → F → F → List ℕ → ℕ → List ℕ → ℕ → Type 0
  HandsTo true f f' out told err told_err = HandsBoth f f' out err
  HandsTo false f f' out told err told_err = ToldBoth f f' out told err told_err

module _ {F : Type 0} (Gives : Result (Unit {0}) Error → F → Side × List ℕ → F → Type 0) where
  -- where the error is one of the closure, its last call returned it
  abbrev pub FailedBy : LinesError → F → Type 0
  FailedBy (lines.Run e) f' = Unit {0}
  FailedBy (lines.Closure e) f' = (f : F) × (line : Side × List ℕ) × Gives (Err e) f line f'

  -- lines were handed on by calls that gave no error, or no more is read because of an error
  abbrev pub HandsUnless : Result Bool LinesError → F → F → List ℕ → ℕ → List ℕ → ℕ → Type 0
  HandsUnless (Ok over) f f' out told err told_err =
      HandsTo (Gives (Ok tt)) over f f' out told err told_err
  HandsUnless (Err error) f f' out told err told_err = FailedBy error f'

module _ {R : Type 0} (remaining : R → Option (List ℕ)) where
  -- both streams are read, and to EOF if that is said
  pub record ReadsBoth (both : BothLines R) : Type 0 where
    pub output : IsLines remaining both.out
    pub error : IsLines remaining both.err
    pub ends : both.over ≡ Ok true → (both.out.is_open ≡ false) × (both.err.is_open ≡ false)

  -- these bytes are what both readers gave, all of it if this says so, and their lines were handed
  -- on
  pub record GivesLines {F : Type 0} (Step : F → Side × List ℕ → F → Type 0) (over : Bool)
      (f f' : F) (out err : R) (stdout stderr : List ℕ) : Type 0 where
    pub out_left : R
    pub err_left : R
    pub told : ℕ
    pub told_err : ℕ
    pub output : Consumes (remaining out) (remaining out_left) stdout
    pub error : Consumes (remaining err) (remaining err_left) stderr
    pub handed : HandsTo Step over f f' stdout told stderr told_err
    pub ends : over ≡ true → IsAtEnd (remaining out_left) × IsAtEnd (remaining err_left)

module _ {R F : Type 0} (calls : Mut F (Side × (Bor (List ℕ) × Unit {0})) (Result (Unit {0}) Error))
  where
    -- the lines of both streams were handed on as far as they were read, or that has failed
    abbrev pub Handed : BothLines R → F → F → Type 0
    Handed both f f' = HandsUnless (Hands calls) both.over f f' both.out.bytes.items
        both.out.told both.err.bytes.items both.err.told
