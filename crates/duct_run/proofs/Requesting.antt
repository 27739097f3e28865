-- A request that succeeded, and one that failed.
use Rattle.std.specs.Prelude.{Ok, Err}
use Rattle.duct_run.proofs.Common.{Error, Action, Allows, HasSameWorkers, SystemViews, Resources}
use Rattle.duct_run.specs.Requested.{HoldsUnasked, RequestSucceeds, RequestFails, Requested}

pub goes_on : {S E H C F D V W : Type 0} {views : SystemViews S E C F D V W} {allows : Allows H}
    {act : Action E H} {sys after : S} {held kept : Resources E C F D}
    → RequestSucceeds views allows act sys after held kept → (HoldsUnasked views held → HoldsUnasked views kept)
    → HasSameWorkers held kept → Requested views allows act (Ok tt) sys after held kept
goes_on goes new workers = record { ok = goes; err = tt; new = new; workers = workers }

pub stops : {S E H C F D V W : Type 0} {views : SystemViews S E C F D V W} {allows : Allows H}
    {act : Action E H} {error : Error} {sys after : S} {held kept : Resources E C F D}
    → RequestFails views allows act sys after held kept error
    → (HoldsUnasked views held → HoldsUnasked views kept) → HasSameWorkers held kept
    → Requested views allows act (Err error) sys after held kept
stops quits new workers = record { ok = tt; err = quits; new = new; workers = workers }
