-- The commands in front have their endings, and those behind get them.
use Rattle.std.proofs.Common.{◌≡◌, map}
use Rattle.duct_tasks.specs.Statuses.{with_reports, words_of}
use Rattle.duct_tasks.proofs.Noting.{noted_up_to}
use Rattle.duct_tasks.proofs.statuses.note.Given as goal

abbrev pub invariant-loop-at : goal.invariant-loop-at
invariant-loop-at l =
    noted_up_to l.at l.commands l.reports ≡ with_reports (map words_of l.initial.commands) l.reports
