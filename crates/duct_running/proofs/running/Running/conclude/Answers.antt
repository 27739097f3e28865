use Rattle.std.proofs.Common.{sym, subst, ℕ, List}
use Rattle.duct_status.specs.Endings.{Endings, Way}
use Rattle.duct_running.proofs.Common.{OutcomeView, waits, faults, finished, AnswersFor, AnswersOutcome, IsConclusion}
use Rattle.duct_status.specs.ReplyView.{ReplyView, noted, unknown, pending, faulted, answered, failed, no_memory}
use Rattle.duct_running.proofs.running.Running.conclude.Goals as goal

of_winner : (t : Endings) (way : Way t) (output error : List ℕ) (reply : ReplyView)
    → AnswersFor t way output error reply → IsConclusion reply
of_winner t way output error noted answers = absurd answers
of_winner t way output error unknown answers = absurd answers
of_winner t way output error pending answers = absurd answers
of_winner t way output error (faulted fault) answers = absurd answers
of_winner t way output error (answered status out err) answers = tt
of_winner t way output error (failed text) answers = tt
of_winner t way output error no_memory answers = tt

is_conclusion : (o : OutcomeView) (t : Endings) (reply : ReplyView) → AnswersOutcome o t reply
    → IsConclusion reply
is_conclusion waits t reply answers = subst (λ r. IsConclusion r) (sym answers) tt
is_conclusion (faults fault) t reply answers = subst (λ r. IsConclusion r) (sym answers) tt
is_conclusion (finished output error) t reply answers = of_winner t answers.0 output error reply answers.2

pub answer-requires : goal.answer-requires
answer-requires g c = is_conclusion _ _ _ c.step.ensures.reply
