-- A running expression may be sent to another thread where its children and workers may.
use denote.Builtin.{u32}
use denote.Param.Send.{IsSend, sendable, struct_send, view_send, recorded_send}
use denote.RattleType.{RattleType}
use denote.Struct.Declared.{shape}
use denote.Struct.Field
use Rattle.std.proofs.Crossing.{Vec-send}
use Rattle.std.specs.declared.alloc.Global
use Rattle.std.proofs.option.Option.TheSendSync as option
use Rattle.std.specs.contracts.option.Option
use Rattle.std.specs.declared.io.traits.Read
use Rattle.std.specs.declared.sync.Arc
use Rattle.std.specs.declared.vec.Vec
use Rattle.duct_system.specs.declared.system.Child
use Rattle.duct_system.specs.declared.system.Job
use Rattle.duct_system.specs.declared.system.Numbered
use Rattle.duct_system.specs.declared.system.System
use Rattle.duct_base.specs.contracts.pool.Place
use Rattle.duct_base.proofs.pool.Place.TheSendSync as place
use Rattle.duct_status.proofs.Threads.{core_field_send}
use Rattle.duct_status.proofs.per_side.PerSide.TheSendSync as sides
use Rattle.duct_running.specs.contracts.running.Running
use Rattle.duct_running.specs.contracts.running.Running.TheInside

module _ (S E C F D R : RattleType)
    (s : System.Ghosts S.Denot E.Denot C.Denot F.Denot D.Denot R.Denot)
    (e : Numbered.Ghosts E.Denot)
    (c : Child.Ghosts C.Denot) (cn : Numbered.Ghosts C.Denot)
    (f : Job.Ghosts F.Denot (Field.unit-field).Value) (fn : Numbered.Ghosts F.Denot)
    (d : Job.Ghosts D.Denot (Arc.Arc (Vec.Vec (Field.u8-field).Value Global.Global) Global.Global))
    (dn : Numbered.Ghosts D.Denot)
    (r : Read.Ghosts R.Denot) where
  fields_send : IsSend C → IsSend F → IsSend D
      → IsSend (TheInside.the_field S E C F D R s e c cn f fn d dn r).row
  fields_send child feed drain = struct_send (shape (TheInside.the_type S E C F D R s e c cn f fn d dn r)) (
    core_field_send,
    (
      Vec-send u32 (search sendable),
      (
        Vec-send (Place.the_row C) (place.the_send C child),
        (
          Vec-send F feed,
          (
            sides.the_field_send (Option.the_row D) (option.the_send D drain),
            (Vec-send D drain, tt),
          ),
        ),
      ),
    ),
  )

  inside_send : IsSend C → IsSend F → IsSend D
      → IsSend (TheInside.the_row S E C F D R s e c cn f fn d dn r)
  inside_send child feed drain = recorded_send _ _ _
      (TheInside.the_type S E C F D R s e c cn f fn d dn r).to_one
      (fields_send child feed drain)

  pub running_send : IsSend C → IsSend F → IsSend D
      → IsSend (Running.the_row S E C F D R s e c cn f fn d dn r)
  running_send child feed drain = view_send
      (TheInside.the_row S E C F D R s e c cn f fn d dn r) _ _ _ _
      (inside_send child feed drain)
