use Rattle.duct_running.proofs.Common.{length-set, RunningView}
use Rattle.std.proofs.Common.{ap, sym, ◌∙◌, map, option_map, inl, inr}
use Rattle.duct_running.proofs.Orders.{unordered_in, ordered_in, id_kept, words_in_order}
use Rattle.duct_running.proofs.Polls.{named_in, same_child, within}
use Rattle.duct_running.proofs.Told.{ordered_told}
use Rattle.duct_running.proofs.running.Running.order_at.Goals.{else-not-is_due-via-then-not-is_due+else-not-leads, else-not-is_due-via-else-not-is_due}
use Rattle.duct_running.proofs.running.Running.order_at.Goals as goal

pub invariant_of-self : goal.invariant_of-self
invariant_of-self g c = record {
  heard = words_in_order g.S.Child.Child.may_obey c.args.order g.S.Child.Child.child_view (map g.S.Feed.Job.job_view c.self.inside.feeds.items) (option_map g.S.Drain.Job.job_view c.self.inside.drains.out) (option_map g.S.Drain.Job.job_view c.self.inside.drains.err)
      c.self.inside.children.items c.args.self.now.children c.args.at c.index_mut.result.now c.give.new.child c.give.result _ (ap (λ (r : RunningView _ _ _). r.children) c.self.view_is)
      c.self.invariant.heard c.requires c.index_mut.ensures.value c.give.ensures;
  told = ordered_told g.S.Child.Child.may_answer g.S.Feed.Job.may_say g.S.Drain.Job.may_say g.S.Child.Child.child_view (map g.S.Feed.Job.job_view c.self.inside.feeds.items) (option_map g.S.Drain.Job.job_view c.self.inside.drains.out) (option_map g.S.Drain.Job.job_view c.self.inside.drains.err)
      c.self.inside.children.items c.args.self.now.children c.args.at c.index_mut.result.now c.give.new.child (ap (λ (r : RunningView _ _ _). r.children) c.self.view_is) c.requires c.index_mut.ensures.value g.S.Child.Child.may_obey c.args.order c.give.result c.give.ensures c.self.invariant.told;
  commands = length-set c.self.inside.children.items c.args.at c.give.new.child ∙ c.self.invariant.commands;
  inputs = c.self.invariant.inputs;
  named = named_in g.S.Child.Child.child_view c.self.inside.children.items c.args.self.now.children c.args.at c.index_mut.result.now c.give.new.child _ (ap (λ (r : RunningView _ _ _). r.children) c.self.view_is)
      c.requires c.index_mut.ensures.value (id_kept g.S.Child.Child.may_obey c.args.order _ _ c.give.result c.give.ensures) c.self.invariant.named;
  empty = c.self.invariant.empty;
  fits = c.self.invariant.fits;
}

pub returns-then-not-leads-clause-ordered : goal.returns-then-not-leads-clause-ordered
returns-then-not-leads-clause-ordered g c =
    unordered_in g.S.Child.Child.may_obey c.args.order g.S.Child.Child.child_view (map g.S.Feed.Job.job_view c.self.inside.feeds.items) (option_map g.S.Drain.Job.job_view c.self.inside.drains.out) (option_map g.S.Drain.Job.job_view c.self.inside.drains.err)
    c.self.inside.children.items c.args.self.now.children c.args.at c.index.result.now _ (ap (λ (r : RunningView _ _ _). r.children) c.self.view_is) c.self.invariant.heard c.requires (sym c.if-not-is_due.ensures)
    c.index.ensures (sym c.if-not-leads.ensures)

pub returns-clause-ordered : goal.returns-clause-ordered
returns-clause-ordered g c =
    ordered_in g.S.Child.Child.may_obey c.args.order g.S.Child.Child.child_view (map g.S.Feed.Job.job_view c.self.inside.feeds.items) (option_map g.S.Drain.Job.job_view c.self.inside.drains.out) (option_map g.S.Drain.Job.job_view c.self.inside.drains.err)
    c.self.inside.children.items c.args.self.now.children c.args.at c.index_mut.result.now c.give.new.child c.give.result _ (ap (λ (r : RunningView _ _ _). r.children) c.self.view_is) c.self.invariant.heard c.requires
    (elim c.else-not-is_due.branch [
      | else-not-is_due-via-then-not-is_due+else-not-leads w ↦ inr (
          ap (λ (child : _). (g.S.Child.Child.child_view child).leads) (same_child g.S.Child.Child.child_view c.self.inside.children.items c.args.at c.index_mut.result.now w.index.result.now (within g.S.Child.Child.child_view c.self.inside.children.items c.args.self.now.children c.args.at (ap (λ (r : RunningView _ _ _). r.children) c.self.view_is) c.requires) c.index_mut.ensures.value w.index.ensures)
          ∙ sym w.if-not-leads.ensures)
      | else-not-is_due-via-else-not-is_due w ↦ inl (sym w.if-not-is_due.ensures)
    ]) c.index_mut.ensures.value c.give.ensures
