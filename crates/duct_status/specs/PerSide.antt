-- A value for each of the two output streams.
use Rattle.duct_system.specs.declared.system.Side.{Side}
use Rattle.duct_system.specs.declared.system.Side.TheVariants.{Out, Err}
use Rattle.duct_status.specs.declared.per_side.PerSide.{PerSide}

-- the value of a stream
abbrev pub at_side : {T : Type 0} → PerSide T → Side → T
at_side both Out = both.out
at_side both Err = both.err

-- the images of both values
abbrev pub map_sides : {S T : Type 0} → (S → T) → PerSide S → PerSide T
map_sides f both = record { out = f both.out; err = f both.err }

-- the same, but for this value of a stream
abbrev pub with_side : {T : Type 0} → PerSide T → Side → T → PerSide T
with_side both Out value = record both { out = value }
with_side both Err value = record both { err = value }
