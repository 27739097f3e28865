-- A reply as contracts see it: an answer as its status and its bytes, a failure as the bytes of its
-- message.
use Rattle.std.specs.Prelude.{ℕ, List, string_bytes}
use Rattle.std.specs.Arc.{arc_value}
use Rattle.duct_system.specs.declared.system.ExitStatus.{ExitStatus}
use Rattle.duct_system.specs.declared.system.Fault.{Fault}
use Rattle.duct_status.specs.declared.status.Reply.{Reply}
use Rattle.duct_status.specs.declared.status.Reply.TheVariants as reply

-- an answer has the exit status, then stdout, then stderr
pub data ReplyView : Type 0 where
  noted : ReplyView
  unknown : ReplyView
  pending : ReplyView
  faulted : Fault → ReplyView
  answered : ExitStatus → List ℕ → List ℕ → ReplyView
  failed : List ℕ → ReplyView
  no_memory : ReplyView

-- what contracts see of a reply
abbrev pub reply_view : Reply → ReplyView
reply_view reply.Noted = noted
reply_view reply.Unknown = unknown
reply_view reply.Pending = pending
reply_view (reply.Fault fault) = faulted fault
reply_view (reply.Answer output) =
    answered (arc_value output).status (arc_value output).stdout.items
    (arc_value output).stderr.items
reply_view (reply.Failed text) = failed (string_bytes (arc_value text))
reply_view reply.Memory = no_memory
