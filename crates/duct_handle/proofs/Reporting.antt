-- What children store is what children of their numbers may report.
use Rattle.std.specs.Prelude.{ℕ, List, [], ◌∷◌, All, IfSome, map, Ok, Err, Some, None, Option}
use Rattle.std.specs.List.{AllZip}
use Rattle.std.proofs.lemmas.List.Elements.{All-head, All-tail}
use Rattle.duct_handle.proofs.Common.{Answer, ChildView, SystemViews, ChildAnswersAllowed}
use Rattle.duct_system.specs.declared.system.ExitStatus.{ExitStatus}
use Rattle.duct_running.specs.Allowed.{MayReport}
use Rattle.duct_running.specs.Stored.{Bytes, stored_word}

module _ {S E C F D : Type 0} (views : SystemViews S E C F D (Unit {0}) Bytes) where
  reported_by : (number : ℕ) (ending : Option ExitStatus) (last : Option Answer)
      → IfSome ending (λ status. views.may_answer number (Ok (Some status)))
      → IfSome last (λ answer. views.may_answer number answer)
      → MayReport views number (stored_word ending last)
  reported_by number (Some status) last ended answered = ended
  reported_by number None (Some (Err fault)) ended answered = answered
  reported_by number None (Some (Ok found)) ended answered = tt
  reported_by number None None ended answered = tt

  pub all_reported : (children : List ChildView) → All (ChildAnswersAllowed views.may_answer) children
      → AllZip (MayReport views) (map (λ (c : ChildView). c.number) children)
      (map (λ (c : ChildView). stored_word c.ending c.last) children)
  all_reported [] told = tt
  all_reported (child ∷ children) told = (
    (let head = All-head (ChildAnswersAllowed views.may_answer) child children told in
        reported_by child.number child.ending child.last head.ended head.answered),
    all_reported children (All-tail (ChildAnswersAllowed views.may_answer) child children told),
  )
