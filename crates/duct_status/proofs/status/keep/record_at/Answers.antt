use Rattle.std.proofs.Common.{arith, sym}
use Rattle.duct_status.specs.Latest.{word_after}
use Rattle.duct_status.proofs.Changes.{changed_set, changed_past}
use Rattle.duct_status.proofs.status.keep.record_at.Goals as goal

pub returns-then-at-len-clause-items : goal.returns-then-at-len-clause-items
returns-then-at-len-clause-items c = sym (changed_past (λ old. word_after old c.args.heard) c.args.at c.args.commands.now.items (omega (arith, c.args.commands.now.ok.0)))

pub returns-clause-items : goal.returns-clause-items
returns-clause-items c =
    changed_set (λ old. word_after old c.args.heard) c.args.at c.args.commands.now.items c.index.result.now c.after.result (omega (arith, c.args.commands.now.ok.0)) c.index.ensures c.after.ensures
