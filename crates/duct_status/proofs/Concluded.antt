-- A reply that fits the reports is that of their outcome: a reply for the chosen command is one for
-- the winning command.
use Rattle.std.proofs.Common.{◌≡◌, true, refl, sym, subst}
use Rattle.duct_status.specs.declared.status.Reply.{Reply}
use Rattle.duct_status.specs.declared.status.Reply.TheVariants as reply
use Rattle.duct_status.specs.Winner.{chosen}
use Rattle.duct_status.specs.Outcome.{AnswersFor, AnswersOutcome, Concludes, OutcomeView, waits, faults, finished, outcome}
use Rattle.duct_status.specs.Endings.{Endings, endings_of}
use Rattle.duct_status.specs.Fits.{Fits, is_finished, output_of, error_of}
use Rattle.duct_status.specs.ShapeView.{ShapeView}
use Rattle.duct_status.specs.ReplyView.{ReplyView, reply_view, no_memory}
use Rattle.duct_status.specs.Latest.{Latest}
use Rattle.duct_status.proofs.Order.{chosen_wins}

-- if all have ended, a reply for the chosen command is one for the winning command
for_outcome : (v : OutcomeView) (t : Endings) (r : ReplyView) → is_finished v ≡ true
    → AnswersFor t (chosen t) (output_of v) (error_of v) r → AnswersOutcome v t r
for_outcome (finished output error) t r over h = (chosen t, chosen_wins t, h)
for_outcome waits t r over h = absurd (cc)
for_outcome (faults fault) t r over h = absurd (cc)

-- a reply that fits the reports is that of their outcome
pub fits_concludes : (shape : ShapeView) (words : Latest) (made : Reply) → Fits shape words made
    → Concludes shape words (reply_view made)
fits_concludes shape words reply.Pending fits = let P : OutcomeView → Type 0 = λ v. AnswersOutcome v (endings_of shape 0 words.commands) (reply_view reply.Pending) in subst P (sym fits) refl
fits_concludes shape words (reply.Fault fault) fits = let P : OutcomeView → Type 0 = λ v. AnswersOutcome v (endings_of shape 0 words.commands) (reply_view (reply.Fault fault)) in subst P (sym fits) refl
fits_concludes shape words (reply.Answer output) fits = for_outcome (outcome shape words) (endings_of shape 0 words.commands) (reply_view (reply.Answer output)) fits.ended (fits.checked, fits.status, fits.stdout, fits.stderr)
fits_concludes shape words (reply.Failed text) fits = let t = endings_of shape 0 words.commands in for_outcome (outcome shape words) t (reply_view (reply.Failed text)) fits.ended (fits.checked, fits.text)
fits_concludes shape words reply.Memory fits = for_outcome (outcome shape words) (endings_of shape 0 words.commands) no_memory fits tt
fits_concludes shape words reply.Noted fits = absurd fits
fits_concludes shape words reply.Unknown fits = absurd fits
