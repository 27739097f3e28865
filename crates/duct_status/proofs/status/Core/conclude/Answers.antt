use Rattle.duct_status.specs.CoreView.{shape_in, latest_in}
use Rattle.duct_status.proofs.Concluded.{fits_concludes}
use Rattle.duct_status.proofs.status.Core.conclude.Goals as goal

pub returns-in-Some-clause-reply : goal.returns-in-Some-clause-reply
returns-in-Some-clause-reply c =
    let s = c.args.self.now in
    fits_concludes (shape_in s) (latest_in s) c.in-Some.reply c.in-Some.ensures.fits

pub returns-clause-reply : goal.returns-clause-reply
returns-clause-reply c =
    let s = c.args.self.now in
    fits_concludes (shape_in s) (latest_in s) c.keep_answer.result c.keep_answer.ensures.fits
