use Rattle.std.proofs.Common.{ap, sym, ◌∙◌, []}
use Rattle.std.proofs.lemmas.List.{append-nil}
use Rattle.duct_base.proofs.Sieving.{takes_kept, takes_reaped, takes_lost}
use Rattle.duct_base.proofs.pool.pool_take.Goals as goal

pub returns-in-Ok-None : goal.returns-in-Ok-None
returns-in-Ok-None g c = record {
  counts = c.keep.ensures.counts;
  stays = c.keep.ensures.stays;
  takes = λ fits.
      takes_kept g.C.Child.may_answer g.C.Child.child_view _ _ _ _ (rw (c.in-Ok-None.field-0-is, c.place.view_is) at c.in-Ok-None.ensures) (c.keep.ensures.keeps fits);
}

pub returns-in-Ok-Some : goal.returns-in-Ok-Some
returns-in-Ok-Some g c = record {
  counts = ap (λ p. p.given) c.reap.ensures;
  stays = ([], ap (λ p. p.children) c.reap.ensures ∙ sym (append-nil _));
  takes = λ fits.
      takes_reaped g.C.Child.may_answer g.C.Child.child_view _ _ _ _ (rw (c.in-Ok-Some.field-0-is, c.place.view_is) at c.in-Ok-Some.ensures).told c.reap.ensures;
}

pub returns-in-Err : goal.returns-in-Err
returns-in-Err g c = record {
  counts = ap (λ p. p.given) c.lose.ensures;
  stays = ([], ap (λ p. p.children) c.lose.ensures ∙ sym (append-nil _));
  takes = λ fits.
      takes_lost g.C.Child.may_answer g.C.Child.child_view _ _ _ _ (rw c.place.view_is at c.in-Err.ensures).told c.lose.ensures;
}
