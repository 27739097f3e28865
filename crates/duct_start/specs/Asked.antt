-- The spec and the streams that a tree gives a command, before its hooks.
use Rattle.std.specs.Prelude.{ℕ, List, [], ◌∷◌, ◌≡◌, None, Some, slice_index, slice_get, flat_map, option_to_list, Option}
use Rattle.duct_system.specs.Ledger.{opened_by}
use Rattle.duct_system.specs.EntryView.{EntryView}
use Rattle.duct_system.specs.Origin.{Origin, Opened, ParentOf, Lent}
use Rattle.duct_system.specs.SpecView.{SpecView, Vars, AreOrdered, variable_in, port_of}
use Rattle.duct_system.specs.declared.spec.Port.{Port}
use Rattle.duct_system.specs.declared.spec.Port.TheVariants as port
use Rattle.duct_system.specs.declared.spec.Stream.{Stream}
use Rattle.duct_system.specs.declared.spec.Stream.TheVariants.{In, Out, Err}
use Rattle.duct_system.specs.declared.system.Side.TheVariants as side
use Rattle.duct_system.specs.declared.system.Stdio.{Stdio}
use Rattle.duct_system.specs.declared.system.Stdio.TheVariants.{Inherit, Null, End}
use Rattle.duct_start.specs.Surroundings.{Surroundings, Target, Parents, Nothing, ReaderAt, WriterAt, FileAt, Lends, target_of, variable}

-- the port of a stream that goes there: it inherits the parent's own stream where that is the same
-- stream, or stdin, to which no other stream goes
abbrev pub port_to : {E : Type 0} → Stream → Target E → Port
port_to stream (Parents In) = port.Inherit
port_to Out (Parents Out) = port.Inherit
port_to Err (Parents Err) = port.Inherit
port_to stream Nothing = port.Null
port_to stream target = port.Given

-- the words with this program in place of the first word
abbrev pub with_program : List ℕ → List (List ℕ) → List (List ℕ)
with_program program [] = []
with_program program (word ∷ words) = program ∷ words

-- the spec has these words with this program, the folder and the variables of these surroundings,
-- each name once and in order, and for each stream the port of where it goes
pub record IsAsked {E H : Type 0} (pairs : Vars) (program : List ℕ) (found : Surroundings E H)
    (words : List (List ℕ)) (spec : SpecView) : Type 0 where
  pub words_are : spec.words ≡ with_program program words
  pub folder_is : spec.folder ≡ found.folder
  pub vars_are : (name : List ℕ) → variable_in name spec.vars ≡ variable pairs found.changes name
  pub vars_ordered : AreOrdered spec.vars
  pub ports_are : (stream : Stream) → port_of stream spec ≡ port_to stream (target_of found stream)

-- the number of an end that the entry at a place of the trace got; for a pipe, end 0 is the read
-- end and end 1 the write end
abbrev pub end_at : List EntryView → ℕ → ℕ → ℕ
end_at entries place which =
    slice_index (flat_map opened_by (option_to_list (slice_get entries place))) which

-- the origin of the end that a stream goes to, by the numbers of a trace and those of the caller's
-- ends; stdin of the parent has no end, since a stream can only inherit it
abbrev pub origin_to : {E : Type 0} → List EntryView → (E → ℕ) → Target E → Option Origin
origin_to entries number_of (Parents In) = None
origin_to entries number_of (Parents Out) = Some (ParentOf side.Out)
origin_to entries number_of (Parents Err) = Some (ParentOf side.Err)
origin_to entries number_of Nothing = None
origin_to entries number_of (ReaderAt place) = Some (Opened (end_at entries place 0))
origin_to entries number_of (WriterAt place) = Some (Opened (end_at entries place 1))
origin_to entries number_of (FileAt place) = Some (Opened (end_at entries place 0))
origin_to entries number_of (Lends end) = Some (Lent (number_of end))

-- the stream of a port, with the origin of its end where it is given one
abbrev pub stream_by : Port → Option Origin → Stdio Origin
stream_by port.Given (Some origin) = End origin
stream_by port.Given None = Inherit
stream_by port.Null origin = Null
stream_by port.Inherit origin = Inherit
stream_by (port.Place place) origin = Inherit

-- the stream that goes there, by the origin of its end, from the trace and the numbers of the
-- caller's ends
abbrev pub stream_to : {E : Type 0} → List EntryView → (E → ℕ) → Stream → Target E → Stdio Origin
stream_to entries number_of stream target =
    stream_by (port_to stream target) (origin_to entries number_of target)

-- the three streams of a command, in the order stdin, stdout, stderr
abbrev pub streams_to : {E H : Type 0} → List EntryView → (E → ℕ) → Surroundings E H → List
    (Stdio Origin)
streams_to entries number_of found =
    stream_to entries number_of In found.input ∷ stream_to entries number_of Out found.output
    ∷ stream_to entries number_of Err found.error ∷ []
