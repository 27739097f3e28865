use Rattle.std.proofs.Common.{refl}
use Rattle.duct_tasks.proofs.Jobs.{unless_final, unless_over}
use Rattle.duct_tasks.proofs.job.has_lapsed.Goals as goal

pub returns-then-is_final : goal.returns-then-is_final
returns-then-is_final g c = λ is. unless_final c.args.ended.now _ (c.is_final.ensures.some c.if-is_final.true)
    (c.is_final.ensures.memory c.if-is_final.true refl)

pub returns : goal.returns
returns g c = λ is. unless_over c.args.ended.now _ (c.is_over.ensures.over is)
