use Rattle.std.proofs.Common.{inl, inr}
use Rattle.duct_handle.proofs.Common.{PoolView, SystemViews, views_of, NumbersView, numbers_view}
use Rattle.duct_handle.specs.Finished.{AreGiven}
use Rattle.duct_handle.proofs.output.checked_output_or_give_up.Goals as goal

-- what may be lost in any case may be lost where this holds
given_if : {S E C F D V W : Type 0} (views : SystemViews S E C F D V W) (numbers : NumbersView)
    {A : Type 0} (a : A) (before after : PoolView C)
    → AreGiven views numbers (Unit {0}) before after → AreGiven views numbers A before after
given_if views numbers a before after (children, given, gets, inl same) =
    (children, given, gets, inl same)
given_if views numbers a before after (children, given, gets, inr (any, lost)) =
    (children, given, gets, inr (a, lost))

pub returns-then-not-is_of-clause-given : goal.returns-then-not-is_of-clause-given
returns-then-not-is_of-clause-given g c =
    let views = views_of g.S.System g.S.End.Numbered g.S.Child.Child g.S.Feed.Job g.S.Drain.Job in
    given_if views (numbers_view c.args.released.2) c.mismatch_error.ensures c.args.pool.now
    c.give_up_released.new.pool c.give_up_released.ensures
