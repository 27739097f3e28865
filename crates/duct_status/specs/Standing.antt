-- The final reply of a core, which every later question gets again.
use Rattle.std.specs.Prelude.{◌≡◌, ◌⊎◌, List, [], ◌∷◌, IfSome, Some, None, Option}
use Rattle.duct_status.specs.EventView.{EventView, from_command, from_input, from_drain, conclude}
use Rattle.duct_status.specs.ReplyView.{ReplyView, noted, unknown, pending, faulted, answered, failed, no_memory}

-- the final reply after a reply: the first answer or failure is final
abbrev pub standing_after : Option ReplyView → ReplyView → Option ReplyView
standing_after (Some standing) reply = Some standing
standing_after None (answered status out err) = Some (answered status out err)
standing_after None (failed text) = Some (failed text)
standing_after None noted = None
standing_after None unknown = None
standing_after None pending = None
standing_after None (faulted fault) = None
standing_after None no_memory = None

-- the same reply, or no_memory if one more owner of it couldn't be made
abbrev pub Again : ReplyView → ReplyView → Type 0
Again standing reply = (reply ≡ standing) ⊎ (reply ≡ no_memory)

-- the question gets the final reply again, if there is one
abbrev pub Repeats : Option ReplyView → EventView → ReplyView → Type 0
Repeats standing conclude reply = IfSome standing (λ answer. Again answer reply)
Repeats standing (from_command k heard) reply = Unit {0}
Repeats standing (from_input k heard) reply = Unit {0}
Repeats standing (from_drain side heard) reply = Unit {0}

-- if this reply is an answer or a failure, each of these questions gets it again
abbrev pub RepeatedBy : ReplyView → List EventView → List ReplyView → Type 0
RepeatedBy reply [] later = Unit {0}
RepeatedBy reply (event ∷ events) [] = Unit {0}
RepeatedBy reply (event ∷ events) (other ∷ later) =
    Repeats (standing_after None reply) event other × RepeatedBy reply events later

-- after an answer or a failure, every later question gets it again
abbrev pub AllRepeated : List EventView → List ReplyView → Type 0
AllRepeated [] replies = Unit {0}
AllRepeated (event ∷ events) [] = Unit {0}
AllRepeated (event ∷ events) (reply ∷ replies) =
    RepeatedBy reply events replies × AllRepeated events replies
