-- What an item of a plan starts, and what an entry of a trace started: a child, a feed worker, or
-- neither.
use Rattle.std.specs.Prelude.{ℕ, ◌+◌, List, [], ◌∷◌, map}
use Rattle.duct_system.specs.EntryView.{EntryView, Spawn, Feed}
use Rattle.duct_start.specs.Step.{Item, AskSpawn, AskFeed}

-- a child, a feed worker, or neither
pub data ItemKind : Type 0 where
  of_spawn : ItemKind
  of_feed : ItemKind
  of_other : ItemKind

-- what an entry started, if its request was not refused
abbrev pub entry_kind : EntryView → ItemKind
entry_kind (Spawn spec io answer) = of_spawn
entry_kind (Feed number bytes answer) = of_feed
entry_kind _ = of_other

-- what an item starts
abbrev pub item_kind : {E H : Type 0} → Item E H → ItemKind
item_kind (AskSpawn found words) = of_spawn
item_kind (AskFeed place bytes) = of_feed
item_kind _ = of_other

-- how many of these kinds are children
abbrev pub spawns : List ItemKind → ℕ
spawns [] = 0
spawns (of_spawn ∷ kinds) = spawns kinds + 1
spawns (_ ∷ kinds) = spawns kinds

-- how many of these kinds are feed workers
abbrev pub feeds : List ItemKind → ℕ
feeds [] = 0
feeds (of_feed ∷ kinds) = feeds kinds + 1
feeds (_ ∷ kinds) = feeds kinds

-- how many children these items start
abbrev pub spawns_asked : {E H : Type 0} → List (Item E H) → ℕ
spawns_asked items = spawns (map (λ item. item_kind item) items)

-- how many feed workers these items start
abbrev pub feeds_asked : {E H : Type 0} → List (Item E H) → ℕ
feeds_asked items = feeds (map (λ item. item_kind item) items)
