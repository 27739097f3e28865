-- A capture worker of the scripted system can be sent to another thread.
use denote.Param.Send.{IsSend, sendable}
use Rattle.std.proofs.Crossing.{crosses}
use Rattle.duct_script.specs.contracts.job.ScriptDrain

pub drain_send : IsSend ScriptDrain.the_row
drain_send = search (sendable, crosses) depth 30
