-- The views of a system, by the members of its traits.
use Rattle.duct_run.proofs.Common.{Vec, SystemViews}
use Rattle.std.specs.Prelude.{ℕ}
use Rattle.std.specs.declared.alloc.Global.{Global}
use Rattle.std.specs.declared.sync.Arc.{Arc}
use Rattle.duct_system.specs.declared.system.Child
use Rattle.duct_system.specs.declared.system.Job
use Rattle.duct_system.specs.declared.system.Numbered
use Rattle.duct_system.specs.declared.system.System

-- the views that the trait `Viewed` gives
abbrev pub views_of : {S E C F D R : Type 0} → System.Ghosts S E C F D R → Numbered.Ghosts E
    → Child.Ghosts C → Job.Ghosts F (Unit {0}) → Job.Ghosts D (Arc (Vec ℕ Global) Global)
    → SystemViews S E C F D (Unit {0}) (Arc (Vec ℕ Global) Global)
views_of system end child feed drain = record {
  journal = system.journal_view;
  number_of = end.number_of;
  child = child.child_view;
  may_answer = child.may_answer;
  may_obey = child.may_obey;
  feed = feed.job_view;
  feed_says = feed.may_say;
  feed_same = feed.same;
  feed_refusable = feed.refusable;
  drain = drain.job_view;
  drain_says = drain.may_say;
  drain_same = drain.same;
  drain_refusable = drain.refusable;
}
