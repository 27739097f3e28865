-- No change of a hook gives a stream an end.
use Rattle.std.proofs.Common.{List, [], ◌∷◌, ◌≡◌, refl}
use Rattle.duct_system.specs.declared.spec.Port.TheVariants.{Given}
use Rattle.duct_system.specs.declared.spec.Stream.{Stream}
use Rattle.duct_system.specs.declared.spec.Stream.TheVariants.{In, Out, Err}
use Rattle.duct_system.specs.SpecView.{SpecView, GivesNothing}
use Rattle.duct_script.specs.declared.hook.Destination.{Destination}
use Rattle.duct_script.specs.declared.hook.Destination.TheVariants.{Inherit, Null, HookEnd}
use Rattle.duct_script.specs.declared.hook.SpecChange.{SpecChange}
use Rattle.duct_script.specs.declared.hook.SpecChange.TheVariants.{Word, Var, NoVar, NoVars, Folder, Port}
use Rattle.duct_script.specs.Settings.{port_to, with_port, changed_by, changed}

-- no destination becomes the port `Given`
destination_not_given : (to : Destination) → port_to to ≡ Given → ⊥
destination_not_given Inherit is = cc
destination_not_given Null is = cc
destination_not_given (HookEnd place) is = cc

-- redirecting a stream to a destination gives no stream an end
with_port_gives_nothing : (stream : Stream) (to : Destination) (spec : SpecView)
    → GivesNothing spec (with_port stream (port_to to) spec)
with_port_gives_nothing In to spec In is = absurd (destination_not_given to is)
with_port_gives_nothing In to spec Out is = is
with_port_gives_nothing In to spec Err is = is
with_port_gives_nothing Out to spec In is = is
with_port_gives_nothing Out to spec Out is = absurd (destination_not_given to is)
with_port_gives_nothing Out to spec Err is = is
with_port_gives_nothing Err to spec In is = is
with_port_gives_nothing Err to spec Out is = is
with_port_gives_nothing Err to spec Err is = absurd (destination_not_given to is)

-- a change that keeps all ports gives no stream an end
same_ports : (before after : SpecView) → after.input ≡ before.input → after.output ≡ before.output
    → after.error ≡ before.error → GivesNothing before after
same_ports before after input output error In is = cc
same_ports before after input output error Out is = cc
same_ports before after input output error Err is = cc

-- one change gives no stream an end
change_gives_nothing : (change : SpecChange) (spec : SpecView)
    → GivesNothing spec (changed_by change spec)
change_gives_nothing (Word word) spec = same_ports spec (changed_by (Word word) spec) refl refl refl
change_gives_nothing (Var name value) spec = same_ports spec (changed_by (Var name value) spec) refl refl refl
change_gives_nothing (NoVar name) spec = same_ports spec (changed_by (NoVar name) spec) refl refl refl
change_gives_nothing NoVars spec = same_ports spec (changed_by NoVars spec) refl refl refl
change_gives_nothing (Folder folder) spec = same_ports spec (changed_by (Folder folder) spec) refl refl refl
change_gives_nothing (Port stream to) spec = with_port_gives_nothing stream to spec

-- a list of changes gives no stream an end
pub changes_give_nothing : (changes : List SpecChange) (spec : SpecView)
    → GivesNothing spec (changed changes spec)
changes_give_nothing [] spec = λ stream is. is
changes_give_nothing (first ∷ rest) spec =
    λ stream is. change_gives_nothing first spec stream (changes_give_nothing rest (changed_by first spec) stream is)
