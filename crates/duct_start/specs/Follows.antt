-- When the entries that a start added to the journal follow a plan, as a whole or up to the first
-- refused request.
use Rattle.std.specs.Prelude.{ℕ, ◌+◌, ◌-◌, List, [], ◌∷◌, ◌≡◌, length, map, slice_get, Ok, Some, if◌then◌else◌, Option}
use Rattle.duct_system.specs.EntryView.{EntryView, Environment, Pipe, OpenRead, Create, Canonicalize, Spawn, Feed, Drain, Reader}
use Rattle.duct_system.specs.Origin.{Origin, Opened, origin}
use Rattle.duct_system.specs.SpecView.{SpecView, Vars}
use Rattle.duct_system.specs.Streams.{stream_of}
use Rattle.duct_system.specs.Trace.{trace, IsClean, StopsAtFault}
use Rattle.duct_system.specs.declared.system.Stdio.{Stdio}
use Rattle.duct_start.specs.Asked.{IsAsked, end_at, streams_to}
use Rattle.duct_start.specs.Chain.{SpecWithOrigins, Allows, HooksChange, hooks_by_origin}
use Rattle.duct_start.specs.Surroundings.{Surroundings}
use Rattle.duct_start.specs.Plan.{Plan, is_canonical, program_of}
use Rattle.duct_start.specs.Sources.{IsGivenFrom, Pairwise}
use Rattle.duct_start.specs.Step.{Item, AskEnvironment, AskPipe, AskOpenRead, AskCreate, AskCanonicalize, AskSpawn, AskFeed, AskDrain, AskReader}

-- the variables that the system returned, by the first entry of a trace
abbrev pub pairs_in : List EntryView → Vars
pairs_in (Environment (Ok pairs) ∷ entries) = pairs
pairs_in _ = []

-- the canonical path that the system returned, by this entry
abbrev pub text_in : Option EntryView → List ℕ
text_in (Some (Canonicalize path (Ok text))) = text
text_in _ = []

-- the program of the command whose spawn is at this place: the canonical path that the entry before
-- it returned, if one was requested, or else the first word
abbrev pub program_at : {E H : Type 0} → List EntryView → ℕ → Surroundings E H → List (List ℕ)
    → List ℕ
program_at entries place found words =
    if is_canonical found words then text_in (slice_get entries (place - 1)) else program_of words

-- the spec and the streams that the tree gives the command whose spawn is at this place, before its
-- hooks
pub record IsAskedAt {E H : Type 0} (entries : List EntryView) (number_of : E → ℕ) (place : ℕ)
    (found : Surroundings E H) (words : List (List ℕ)) (wired : SpecWithOrigins) : Type 0 where
  pub spec_is : IsAsked (pairs_in entries)
      (program_at entries place found words) found words wired.spec
  pub streams_are : wired.input ∷ wired.output ∷ wired.error ∷ []
      ≡ streams_to entries number_of found

-- a relation between the streams that a spawn is given, by number, and the origins that they should
-- have
abbrev pub StreamsRelation : Type 1
StreamsRelation = List (Stdio ℕ) → List (Stdio Origin) → Type 0

-- the spawn at this place is given what the hooks of the command make of the spec and the streams
-- that the tree gives it, and `gives` holds for its streams
abbrev pub IsSpawnedBy : {E H : Type 0} → (List (Stdio Origin) → Type 0) → Allows H → (E → ℕ)
    → List EntryView → ℕ → Surroundings E H → List (List ℕ) → SpecView → Type 0
IsSpawnedBy gives allows number_of entries place found words spec =
    (before : SpecWithOrigins) × (after : SpecWithOrigins)
    × IsAskedAt entries number_of place found words before
    × HooksChange allows (hooks_by_origin number_of found.hooks) before after
    × (spec ≡ after.spec) × gives (after.input ∷ after.output ∷ after.error ∷ [])

-- an entry of the trace matches the item at its place; a worker and the reader get an end of their
-- own pipe
abbrev pub AnswersBy : {E H : Type 0} → StreamsRelation → Allows H → (E → ℕ) → List EntryView → ℕ
    → Item E H → EntryView → Type 0
AnswersBy gives allows number_of added place AskEnvironment (Environment answer) = Unit {0}
AnswersBy gives allows number_of added place AskPipe (Pipe answer) = Unit {0}
AnswersBy gives allows number_of added place (AskOpenRead path) (OpenRead opened answer) =
    opened ≡ path
AnswersBy gives allows number_of added place (AskCreate path) (Create made answer) = made ≡ path
AnswersBy gives allows number_of added place (AskCanonicalize program) (Canonicalize path answer) =
    path ≡ program
AnswersBy gives allows number_of added place (AskSpawn found words) (Spawn spec io answer) =
    IsSpawnedBy (λ wanted. gives io wanted) allows number_of (trace added) place found words spec
AnswersBy gives allows number_of added place (AskFeed pipe bytes) (Feed end fed answer) =
    (fed ≡ bytes) × (origin added end ≡ Opened (end_at (trace added) pipe 1))
AnswersBy gives allows number_of added place (AskDrain pipe) (Drain end answer) =
    origin added end ≡ Opened (end_at (trace added) pipe 0)
AnswersBy gives allows number_of added place (AskReader pipe) (Reader end) =
    origin added end ≡ Opened (end_at (trace added) pipe 0)
AnswersBy gives allows number_of added place item entry = ⊥

-- the entries from this place on match the items from there on, one by one; there may be fewer
-- entries than items
abbrev pub AnswersFromBy : {E H : Type 0} → StreamsRelation → Allows H → (E → ℕ) → List EntryView
    → ℕ → List (Item E H) → List EntryView → Type 0
AnswersFromBy gives allows number_of added place items [] = Unit {0}
AnswersFromBy gives allows number_of added place [] (entry ∷ entries) = ⊥
AnswersFromBy gives allows number_of added place (item ∷ items) (entry ∷ entries) =
    AnswersBy gives allows number_of added place item entry
    × AnswersFromBy gives allows number_of added (place + 1) items entries

-- the streams have exactly these origins
abbrev pub GivesExactly : List EntryView → StreamsRelation
GivesExactly added io wanted = map (stream_of (origin added)) io ≡ wanted

-- an entry matches the item at its place, and its streams have exactly the origins that they should
-- have
abbrev pub Answers : {E H : Type 0} → Allows H → (E → ℕ) → List EntryView → ℕ → Item E H → EntryView
    → Type 0
Answers allows number_of added place item entry =
    AnswersBy (GivesExactly added) allows number_of added place item entry

abbrev pub AnswersFrom : {E H : Type 0} → Allows H → (E → ℕ) → List EntryView → ℕ → List (Item E H)
    → List EntryView → Type 0
AnswersFrom allows number_of added place items entries =
    AnswersFromBy (GivesExactly added) allows number_of added place items entries

-- the added entries make the requests of a prefix of the plan: each request has the kind, the
-- words, the paths, the folder, the variables and the bytes that the plan has there, for a spawn as
-- its hooks change them, and each stream comes from where the plan says. A stream that goes to a
-- caller's end is a duplicate of that end's number, whoever gave that number
abbrev pub AsksPlan : {E H : Type 0} → Allows H → (E → ℕ) → Plan E H → List EntryView → Type 0
AsksPlan allows number_of plan added =
    AnswersFromBy (λ io wanted. Pairwise (IsGivenFrom added) io wanted) allows number_of added 0
    plan.items (trace added)

-- the added entries follow a prefix of the plan, with only closes after a fault
pub record Follows {E H : Type 0} (allows : Allows H) (number_of : E → ℕ) (plan : Plan E H)
    (added : List EntryView) : Type 0 where
  pub answers : AnswersFrom allows number_of added 0 plan.items (trace added)
  pub stops : StopsAtFault added

-- the added entries follow the whole plan, without a fault
pub record FollowsWhole {E H : Type 0} (allows : Allows H) (number_of : E → ℕ) (plan : Plan E H)
    (added : List EntryView) : Type 0 where
  pub follows : Follows allows number_of plan added
  pub whole : length (trace added) ≡ length plan.items
  pub clean : IsClean added
