use Rattle.std.specs.Prelude.{ℕ, ◌≡◌, Ok, Err, Result}
use Rattle.duct_handle.proofs.Common.{Error, SystemViews, views_of, Bytes, HandleView, SeenView}
use Rattle.duct_handle.specs.Reads.{ClosesAs, KnowsOutput}
use Rattle.duct_handle.proofs.reader.ReaderHandle.read_as.Goals as goal

-- if a read at EOF doesn't fail, the token knows the output
closes_known : {S E C F D : Type 0} (views : SystemViews S E C F D (Unit {0}) Bytes)
    (handle : HandleView) (before after : SeenView) (result : Result ℕ Error)
    → ClosesAs views handle before after result → result ≡ Ok 0 → KnowsOutput handle after
closes_known views handle before after result (Ok output, waited, is) nothing = (output, waited.knows)
closes_known views handle before after result (Err e, waited, is) nothing = absurd (cc)

pub returns-clause-ended : goal.returns-clause-ended
returns-clause-ended g c = λ nothing room.
    closes_known (views_of g.S.System g.S.End.Numbered g.S.Child.Child g.S.Feed.Job g.S.Drain.Job) c.args.self.now c.args.seen.now c.close_as.new.seen
    c.close_as.result c.close_as.ensures nothing
