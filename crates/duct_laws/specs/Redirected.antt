-- Which stream a node redirects.
use Rattle.std.specs.Prelude.{Bool, true, false, Some, None, Option}
use Rattle.duct_system.specs.declared.spec.Stream.{Stream}
use Rattle.duct_system.specs.declared.spec.Stream.TheVariants.{In, Out, Err}
use Rattle.duct_system.specs.declared.system.Side.{Side}
use Rattle.duct_system.specs.declared.system.Side.TheVariants as side
use Rattle.duct_start.specs.Row.{Route, as_outside, to_nothing, to_lent, to_opened, row}
use Rattle.duct_start.specs.TreeView.{ModifierView}

-- a route that does not lead to where stdin goes outside
abbrev pub moves_input : {K E : Type 0} → Route K E → Bool
moves_input (as_outside stream) = false
moves_input to_nothing = true
moves_input (to_lent end) = true
moves_input to_opened = true

-- a route of stdout or stderr that does not lead to where this one goes outside
abbrev pub moves : {E : Type 0} → Side → Route Side E → Bool
moves side.Out (as_outside side.Out) = false
moves side.Out (as_outside side.Err) = true
moves side.Err (as_outside side.Out) = true
moves side.Err (as_outside side.Err) = false
moves which to_nothing = true
moves which (to_lent end) = true
moves which to_opened = true

-- the one stream of three that is moved
abbrev pub only_moved : Bool → Bool → Bool → Option Stream
only_moved true false false = Some In
only_moved false true false = Some Out
only_moved false false true = Some Err
only_moved input output error = None

-- the one stream that a node redirects; there is none for a swap, which redirects two, and for the
-- nodes that redirect nothing
abbrev pub redirected : {E H : Type 0} → ModifierView E H → Option Stream
redirected modifier =
    let r = row modifier in
    only_moved (moves_input r.input) (moves side.Out r.output) (moves side.Err r.error)
