use Rattle.std.proofs.Common.{All, List, [], ◌∷◌, ap, arith, length, length-append, subst, sym}
use Rattle.duct_tasks.proofs.Common.{All-push}
use Rattle.duct_tasks.specs.Services.{IsFresh}
use Rattle.duct_tasks.specs.declared.service.Service.{Service}
use Rattle.duct_tasks.proofs.keeper.before_starts.Goals as goal

pub loop-preserved : goal.loop-preserved
loop-preserved g c =
    let i = c.loop.invariant in
    let items = c.push_reserved.ensures.items in
    record {
      count = omega (
        arith,
        i.count,
        ap (λ (all : List (Service _)). length all) items,
        length-append c.loop.kept.items (c.new.result ∷ []),
      );
      room = rw c.push_reserved.ensures.capacity i.room;
      fresh = subst (λ (all : List (Service _)). All IsFresh all) (sym items)
          (All-push IsFresh c.loop.kept.items c.new.result i.fresh c.new.ensures);
    }
