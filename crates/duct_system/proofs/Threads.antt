-- A closure that holds references is Send if what they refer to is Sync.
use mathlib.Core.List.{List, [], ◌∷◌}
use mir.Syntax.{Lifetime, Sym}
use base.Fml.{Lft}
use denote.Param.Send.{AllSend, IsSend, IsSync, recorded_send, shr_send, struct_send}
use denote.RattleType.{RattleType}
use denote.Ref.{ShrRef}
use denote.Struct.Declared.{shape}
use denote.Struct.Tuple.{TupleAt, type_at}

closure_send : (ν : Sym) (Ts : List RattleType) → AllSend (shape (type_at ν Ts)).fields
    → IsSend (TupleAt ν Ts)
closure_send ν Ts held = recorded_send _ _ _ (type_at ν Ts).to_one (struct_send (shape (type_at ν Ts)) held)

module _ (ν : Sym) (ℓ ℓ' : Lifetime) (κ κ' : Lft) (R S : RattleType) where
  -- a closure that holds two references
  pub two_refs_send : IsSync R → IsSync S → IsSend (TupleAt ν (ShrRef ℓ κ R ∷ ShrRef ℓ' κ' S ∷ []))
  two_refs_send one other =
      let Ts : List RattleType = ShrRef ℓ κ R ∷ ShrRef ℓ' κ' S ∷ [] in
      let held : AllSend Ts = (shr_send ℓ κ R one, (shr_send ℓ' κ' S other, tt)) in
      closure_send ν Ts held
