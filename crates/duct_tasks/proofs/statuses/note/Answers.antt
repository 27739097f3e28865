use Rattle.std.proofs.Common.{◌≡◌, ◌+◌, ℕ, suc, length, map, arith, slice_index_or, slice_set, subst, ap, sym, ◌∙◌}
use Rattle.duct_tasks.specs.Statuses.{with_reports, words_of}
use Rattle.duct_tasks.proofs.Noting.{noted_all, noted_next, noted_up_to}
use Rattle.duct_tasks.proofs.statuses.note.Goals as goal

pub loop-at-preserved : goal.loop-at-preserved
loop-at-preserved c =
    let at = c.loop-at.at in
    let reports = c.args.reports.now in
    let changed = slice_set c.loop-at.commands at (record { words = (slice_index_or c.loop-at.commands at c.index-commands-at.result).words; status = c.ending-command.result }) in
    let next : suc at ≡ at + 1 = omega arith in
    subst (λ (n : ℕ). noted_up_to n changed reports ≡ with_reports (map words_of c.args.commands.now) reports) next
    (noted_next at c.loop-at.commands reports c.index-commands-at.result c.ending-command.result (omega arith)
    c.ending-command.ensures ∙ c.loop-at.invariant)

pub returns : goal.returns
returns c =
    let commands = c.loop-at.commands in
    let reports = c.args.reports.now in
    let end : length commands ≡ c.loop-at.at = omega arith in
    sym (noted_all commands reports) ∙ ap (λ (n : ℕ). noted_up_to n commands reports) end ∙ c.loop-at.invariant
