-- A reader handle may be shared between threads if its children, its workers and its reader may be
-- sent to another thread, and its runtime may be shared.
use denote.Param.Send.{IsSend, IsSync, struct_sync, view_sync, recorded_sync}
use denote.RattleType.{RattleType}
use denote.Struct.Declared.{shape}
use denote.Struct.Field
use Rattle.std.proofs.sync.Mutex.TheSendSync as mutex
use Rattle.std.specs.declared.alloc.Global
use Rattle.std.specs.declared.io.traits.Read
use Rattle.std.specs.declared.sync.Arc
use Rattle.std.specs.declared.vec.Vec
use Rattle.duct_system.specs.declared.system.Child
use Rattle.duct_system.specs.declared.system.Job
use Rattle.duct_system.specs.declared.system.Numbered
use Rattle.duct_system.specs.declared.system.System
use Rattle.duct_handle.proofs.Threads.{handle_sync}
use Rattle.duct_handle.specs.contracts.pipe.Pipe
use Rattle.duct_handle.specs.contracts.reader.ReaderHandle
use Rattle.duct_handle.specs.contracts.reader.ReaderHandle.TheInside

module _ (S W E C F D R : RattleType)
    (s : System.Ghosts S.Denot E.Denot C.Denot F.Denot D.Denot R.Denot)
    (e : Numbered.Ghosts E.Denot)
    (c : Child.Ghosts C.Denot) (cn : Numbered.Ghosts C.Denot)
    (f : Job.Ghosts F.Denot (Field.unit-field).Value) (fn : Numbered.Ghosts F.Denot)
    (d : Job.Ghosts D.Denot (Arc.Arc (Vec.Vec (Field.u8-field).Value Global.Global) Global.Global))
    (dn : Numbered.Ghosts D.Denot)
    (r : Read.Ghosts R.Denot) where
  pipe_field_sync : IsSend R → IsSync (Pipe.the_field S E C F D R).row
  pipe_field_sync reader = struct_sync (shape (Pipe.the_type S E C F D R))
      (mutex.the_sync R reader, tt)

  fields_sync : IsSync W → IsSend C → IsSend F → IsSend D → IsSend R
      → IsSync (TheInside.the_field S W E C F D R s e c cn f fn d dn r).row
  fields_sync runtime child feed drain reader = struct_sync
      (shape (TheInside.the_type S W E C F D R s e c cn f fn d dn r)) (
        runtime,
        (
          handle_sync S E C F D R s e c cn f fn d dn r child feed drain,
          (pipe_field_sync reader, tt),
        ),
      )

  inside_sync : IsSync W → IsSend C → IsSend F → IsSend D → IsSend R
      → IsSync (TheInside.the_row S W E C F D R s e c cn f fn d dn r)
  inside_sync runtime child feed drain reader = recorded_sync _ _ _
      (TheInside.the_type S W E C F D R s e c cn f fn d dn r).to_one
      (fields_sync runtime child feed drain reader)

  pub reader_handle_sync : IsSync W → IsSend C → IsSend F → IsSend D → IsSend R
      → IsSync (ReaderHandle.the_row S W E C F D R s e c cn f fn d dn r)
  reader_handle_sync runtime child feed drain reader = view_sync
      (TheInside.the_row S W E C F D R s e c cn f fn d dn r) _ _ _ _
      (inside_sync runtime child feed drain reader)
