use Rattle.std.proofs.Common.{refl, ap, arith, [], ◌∷◌, ◌∙◌, ◌-◌}
use Rattle.duct_guard.proofs.Common.{JournalView, with_ends}
use Rattle.duct_guard.proofs.Below.{none_asked, one_asked}
use Rattle.duct_guard.proofs.Counting.{noted_one, notes}
use Rattle.duct_guard.proofs.guard.GuardedSystem.pipe.Goals as goal

pub invariant_of-self-inside-in-Ok : goal.invariant_of-self-inside-in-Ok
invariant_of-self-inside-in-Ok g c =
    (noted_one c.self.inside.keeps c.in-Ok.ensures.forwards (notes c.in_ok-prepare.ensures.ok c.add.ensures (cc)) (omega arith) refl (rw (c.number-read.ensures, c.number-write.ensures) at (c.open-in-Ok.ensures ∙ ap (λ held. with_ends held (c.number-write.result ∷ [])) c.open.ensures)), tt)

pub invariant_of-self-inside-in-Err : goal.invariant_of-self-inside-in-Err
invariant_of-self-inside-in-Err g c =
    let ready = c.give_back.ensures ∙ ap (λ (j : JournalView). record j { room = j.room - 2 }) c.in_ok-prepare.ensures.ok in
    (noted_one c.self.inside.keeps c.in-Err.ensures.forwards (notes ready c.add-in-Err.ensures refl) (omega arith) refl refl, tt)

pub returns-in_err-prepare-clause-below : goal.returns-in_err-prepare-clause-below
returns-in_err-prepare-clause-below g c = none_asked _ _ _ _ (cc (c.self.view_is, c.in_err-prepare.ensures.unchanged))

pub returns-in-Ok-clause-below : goal.returns-in-Ok-clause-below
returns-in-Ok-clause-below g c =
    one_asked _ _ _ _ _ _ c.self.view_is c.in-Ok.ensures.forwards (notes c.in_ok-prepare.ensures.ok c.add.ensures (cc)) refl refl refl

pub returns-in-Err-clause-below : goal.returns-in-Err-clause-below
returns-in-Err-clause-below g c =
    let ready = c.give_back.ensures ∙ ap (λ (j : JournalView). record j { room = j.room - 2 }) c.in_ok-prepare.ensures.ok in
    one_asked _ _ _ _ _ _ c.self.view_is c.in-Err.ensures.forwards (notes ready c.add-in-Err.ensures refl) refl refl refl
