use Rattle.duct_status.specs.ShapeView.{command_count}
use Rattle.std.proofs.Common.{◌≡◌, ◌≤◌, List, length, map}
use Rattle.duct_running.specs.Ordered.{leftmost}
use Rattle.duct_tasks.proofs.Common.{views_of, shape_view}
use Rattle.duct_tasks.proofs.Signalled.{GivenFrom}
use Rattle.duct_tasks.proofs.Trying.{TriedFrom}
use Rattle.duct_tasks.specs.Groups.{Given, leaders, processes_of, signal_of}
use Rattle.duct_tasks.proofs.group.order_all.Given as goal

abbrev pub invariant-loop-at : goal.invariant-loop-at
invariant-loop-at g l =
    let views = views_of g.S.System g.S.End.Numbered g.S.Child.Child g.S.Feed.Job g.S.Drain.Job in
    record {
      shape : l.running.shape ≡ l.initial.running.shape;
      feeds : l.running.feeds ≡ l.initial.running.feeds;
      output : l.running.output ≡ l.initial.running.output;
      error : l.running.error ≡ l.initial.running.error;
      count : length l.running.children ≡ length l.initial.running.children;
      within : l.at ≤ length l.initial.running.children;
      place : l.at ≤ command_count (shape_view l.initial.running.shape);
      ordered : (givens : List Given) × (l.answer ≡ leftmost (map (λ g. g.1) givens))
          × GivenFrom views.may_obey l.fn.order l.at (map views.child l.initial.running.children)
          givens (map views.child l.running.children)
          × TriedFrom views g.H.Hook.allows g.H.Hook.refuses (signal_of l.fn.order) l.at
          (leaders (shape_view l.initial.running.shape)) (processes_of views l.initial.running)
          (map (λ g. g.0) givens) (l.initial.sys, l.initial.pool) (l.sys, l.pool);
    }
