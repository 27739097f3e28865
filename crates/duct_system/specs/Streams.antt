-- The three streams of a child: their ends, and that they fit in memory.
use Rattle.std.specs.Prelude.{◌*◌, ◌<◌, ◌^◌, List, [], ◌∷◌, flat_map, option_to_list, Option}
use Rattle.std.specs.Borrow.{RattleType}
use prog.Memory.{size}
use denote.Param.{layout}
use Rattle.duct_system.specs.contracts.system.Stdio.{the_row}
use Rattle.duct_system.specs.declared.system.Stdio.{Stdio}
use Rattle.duct_system.specs.declared.system.Stdio.TheVariants.{Inherit, Null, End}

-- three streams take fewer than 2 ^ 63 bytes
abbrev pub StreamsFit : RattleType → Type 0
StreamsFit E = 3 * size (layout (the_row E)) < 2 ^ 63

-- a stream with this function applied to its end
abbrev pub stream_of : {E F : Type 0} → (E → F) → Stdio E → Stdio F
stream_of f Inherit = Inherit
stream_of f Null = Null
stream_of f (End e) = End (f e)

-- the end of a stream, if it has one
abbrev pub end_of : {E : Type 0} → Stdio E → List E
end_of Inherit = []
end_of Null = []
end_of (End e) = e ∷ []

-- the ends of some streams, in their order
abbrev pub ends_of : {E : Type 0} → List (Stdio E) → List E
ends_of io = flat_map end_of io

-- the ends of a list in which some are missing
abbrev pub present : {E : Type 0} → List (Option E) → List E
present ends = flat_map option_to_list ends
