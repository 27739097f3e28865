-- Entries that match the items of a plan one by one start what the items start.
use Rattle.std.proofs.Common.{◌≡◌, ℕ, ◌+◌, List, [], ◌∷◌, length, map, refl, arith}
use Rattle.duct_system.specs.EntryView.{EntryView, Environment, Pipe, OpenRead, Create, Canonicalize, Spawn, Feed, Drain, Reader}
use Rattle.duct_start.specs.Chain.{Allows}
use Rattle.duct_start.specs.Follows.{AnswersBy, AnswersFromBy, StreamsRelation}
use Rattle.duct_start.specs.Step.{Item, AskEnvironment, AskPipe, AskOpenRead, AskCreate, AskCanonicalize, AskSpawn, AskFeed, AskDrain, AskReader}
use Rattle.duct_run.specs.Kinds.{entry_kind, item_kind}

module _ {E H : Type 0} (gives : StreamsRelation) (allows : Allows H) (number_of : E → ℕ) (added : List EntryView) where
  same_kind : (place : ℕ) (item : Item E H) (entry : EntryView)
      → AnswersBy gives allows number_of added place item entry
      → entry_kind entry ≡ item_kind item
  same_kind place AskEnvironment (Environment answer) answers = refl
  same_kind place AskPipe (Pipe answer) answers = refl
  same_kind place (AskOpenRead path) (OpenRead opened answer) answers = refl
  same_kind place (AskCreate path) (Create made answer) answers = refl
  same_kind place (AskCanonicalize program) (Canonicalize path answer) answers = refl
  same_kind place (AskSpawn found words) (Spawn spec io answer) answers = refl
  same_kind place (AskFeed pipe bytes) (Feed end fed answer) answers = refl
  same_kind place (AskDrain pipe) (Drain end answer) answers = refl
  same_kind place (AskReader pipe) (Reader end) answers = refl
  same_kind place item entry answers = absurd answers

  pub same_kinds : (place : ℕ) (items : List (Item E H)) (entries : List EntryView)
      → AnswersFromBy gives allows number_of added place items entries
      → length entries ≡ length items
      → map (λ entry. entry_kind entry) entries ≡ map (λ item. item_kind item) items
  same_kinds place [] [] answers long = refl
  same_kinds place [] (entry ∷ entries) answers long = absurd answers
  same_kinds place (item ∷ items) [] answers long = absurd (omega (arith, long))
  same_kinds place (item ∷ items) (entry ∷ entries) answers long =
      let first = same_kind place item entry answers.0 in
      let rest = same_kinds (place + 1) items entries answers.1 (omega (arith, long)) in
      λ i. first i ∷ rest i
