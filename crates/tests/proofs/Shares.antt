-- What the threads of these tests share: a handle and a reader handle of the scripted system, and
-- the closures that borrow them.
use mathlib.Core.List.{List, [], ◌∷◌}
use mir.Syntax.{Lifetime, Sym}
use base.Fml.{Lft}
use denote.Param.Send.{IsSend, IsSync, recorded_send, sendable, shr_send, struct_send}
use denote.RattleType.{RattleType}
use denote.Ref.{ShrRef}
use denote.Struct.Declared.{shape}
use denote.Struct.Tuple.{TupleAt, type_at}
use Rattle.duct_system.proofs.Threads.{two_refs_send}
use Rattle.duct_handle.proofs.Threads.{handle_sync}
use Rattle.duct_handle.specs.contracts.handle.Handle
use Rattle.duct_handle.proofs.ReaderThreads.{reader_handle_sync}
use Rattle.duct_handle.specs.contracts.reader.ReaderHandle
use Rattle.duct_script.proofs.Threads.{drain_send}
use Rattle.duct_script.proofs.child.ScriptChild.TheSendSync as child
use Rattle.duct_script.proofs.job.ScriptFeed.TheSendSync as feed
use Rattle.duct_script.proofs.reader.ScriptReader.TheSendSync as reader
use Rattle.duct_script.specs.contracts.child.ScriptChild
use Rattle.duct_script.specs.contracts.child.ScriptChildChild.TheImpl as child_child
use Rattle.duct_script.specs.contracts.child.ScriptChildNumbered.TheImpl as child_numbered
use Rattle.duct_script.specs.contracts.job.ScriptDrain
use Rattle.duct_script.specs.contracts.job.ScriptDrainJob.TheImpl as drain_job
use Rattle.duct_script.specs.contracts.job.ScriptDrainNumbered.TheImpl as drain_numbered
use Rattle.duct_script.specs.contracts.job.ScriptFeed
use Rattle.duct_script.specs.contracts.job.ScriptFeedJob.TheImpl as feed_job
use Rattle.duct_script.specs.contracts.job.ScriptFeedNumbered.TheImpl as feed_numbered
use Rattle.duct_script.specs.contracts.reader.ScriptReader
use Rattle.duct_script.specs.contracts.reader.ScriptReaderRead.TheImpl as reader_read
use Rattle.duct_script.specs.contracts.system.Script
use Rattle.duct_script.specs.contracts.system.ScriptEnd
use Rattle.duct_script.specs.contracts.system.ScriptEndNumbered.TheImpl as end_numbered
use Rattle.duct_script.specs.contracts.system.ScriptSystem.TheImpl as script_system

-- a handle of the scripted system
abbrev pub script_handle : RattleType
script_handle = Handle.the_row Script.the_row ScriptEnd.the_row ScriptChild.the_row ScriptFeed.the_row
    ScriptDrain.the_row ScriptReader.the_row script_system.ghosts end_numbered.ghosts
    child_child.ghosts child_numbered.ghosts feed_job.ghosts feed_numbered.ghosts drain_job.ghosts
    drain_numbered.ghosts reader_read.ghosts

pub script_handle_sync : IsSync script_handle
script_handle_sync = handle_sync Script.the_row ScriptEnd.the_row ScriptChild.the_row ScriptFeed.the_row
    ScriptDrain.the_row ScriptReader.the_row script_system.ghosts end_numbered.ghosts
    child_child.ghosts child_numbered.ghosts feed_job.ghosts feed_numbered.ghosts drain_job.ghosts
    drain_numbered.ghosts reader_read.ghosts child.the_send feed.the_send drain_send

-- a closure that borrows a runtime and a handle may be sent to another thread
pub waits_send : (ν : Sym) (ℓ ℓ' : Lifetime) (κ κ' : Lft) (R : RattleType) → IsSync R
    → IsSend (TupleAt ν (ShrRef ℓ κ R ∷ ShrRef ℓ' κ' script_handle ∷ []))
waits_send ν ℓ ℓ' κ κ' R runtime =
    two_refs_send ν ℓ ℓ' κ κ' R script_handle runtime script_handle_sync

-- a reader handle of the scripted system that keeps a runtime of this type
abbrev pub script_reader : RattleType → RattleType
script_reader R = ReaderHandle.the_row Script.the_row R ScriptEnd.the_row ScriptChild.the_row
    ScriptFeed.the_row ScriptDrain.the_row ScriptReader.the_row script_system.ghosts end_numbered.ghosts
    child_child.ghosts child_numbered.ghosts feed_job.ghosts feed_numbered.ghosts drain_job.ghosts
    drain_numbered.ghosts reader_read.ghosts

pub script_reader_sync : (R : RattleType) → IsSync R → IsSync (script_reader R)
script_reader_sync R runtime = reader_handle_sync Script.the_row R ScriptEnd.the_row ScriptChild.the_row
    ScriptFeed.the_row ScriptDrain.the_row ScriptReader.the_row script_system.ghosts end_numbered.ghosts
    child_child.ghosts child_numbered.ghosts feed_job.ghosts feed_numbered.ghosts drain_job.ghosts
    drain_numbered.ghosts reader_read.ghosts runtime child.the_send feed.the_send drain_send
    (search (reader.the_send, sendable) depth 20)

-- a closure that borrows a reader handle may be sent to another thread
pub reads_send : (ν : Sym) (ℓ : Lifetime) (κ : Lft) (R : RattleType) → IsSync R
    → IsSend (TupleAt ν (ShrRef ℓ κ (script_reader R) ∷ []))
reads_send ν ℓ κ R runtime =
    let Ts : List RattleType = ShrRef ℓ κ (script_reader R) ∷ [] in
    recorded_send _ _ _ (type_at ν Ts).to_one
    (struct_send (shape (type_at ν Ts)) (shr_send ℓ κ (script_reader R) (script_reader_sync R runtime), tt))
