use Rattle.std.proofs.Common.{map, arith, subst}
use Rattle.duct_guard.proofs.Common.{HasEnded}
use Rattle.duct_guard.proofs.Crews.{one_left, read_twice}
use Rattle.duct_guard.proofs.crew.forget_ended.Goals as goal

pub loop-place-preserved-then-has_ended : goal.loop-place-preserved-then-has_ended
loop-place-preserved-then-has_ended g c =
    let within = c.loop-place-test.true in
    let taken = read_twice c.loop-place.crew.items c.loop-place.place c.index-member.result.now c.swap_remove.result (omega (arith, within)) c.index-member.ensures c.swap_remove.ensures.value in
    one_left g.C.Child.may_answer (λ m. m.number) (map (λ m. m.number) c.args.crew.now.items) c.loop-place.crew.items c.swap_remove.new.self.items c.loop-place.place c.swap_remove.result
    (omega (arith, within)) c.swap_remove.ensures.value c.swap_remove.ensures.items
    (subst (λ m. HasEnded g.C.Child.may_answer m.number) taken (c.has_ended.ensures c.if-has_ended.true)) c.loop-place.invariant
