use Rattle.duct_running.proofs.Common.{command_count, input_count, shape_view, length-set, RunningView, ChildView}
use Rattle.std.proofs.Common.{ap, sym, ◌∙◌, map, option_map}
use Rattle.duct_running.proofs.Polls.{not_asked_in, asked_in, named_in, words_in_step}
use Rattle.duct_running.proofs.Told.{polled_told}
use Rattle.duct_running.proofs.running.Running.poll_child.Goals as goal

pub returns-then-not-is_due-clause-asked : goal.returns-then-not-is_due-clause-asked
returns-then-not-is_due-clause-asked g c =
    not_asked_in g.S.Child.Child.child_view g.S.Child.Child.may_answer (map g.S.Feed.Job.job_view c.self.inside.feeds.items) (option_map g.S.Drain.Job.job_view c.self.inside.drains.out) (option_map g.S.Drain.Job.job_view c.self.inside.drains.err)
    c.self.inside.children.items c.args.self.now.children c.args.at _ (ap (λ (r : RunningView _ _ _). r.children) c.self.view_is) c.self.invariant.heard c.requires (sym c.if-not-is_due.ensures)

pub invariant_of-self : goal.invariant_of-self
invariant_of-self g c = record {
  heard = words_in_step g.S.Child.Child.child_view g.S.Child.Child.may_answer (map g.S.Feed.Job.job_view c.self.inside.feeds.items) (option_map g.S.Drain.Job.job_view c.self.inside.drains.out) (option_map g.S.Drain.Job.job_view c.self.inside.drains.err)
      c.self.inside.children.items c.args.self.now.children c.args.at c.index_mut.result.now c.poll.new.self c.poll.result _ _ c.word-heard.result (ap (λ (r : RunningView _ _ _). r.children) c.self.view_is)
      c.self.invariant.heard c.requires (sym c.if-not-is_due.ensures) c.index_mut.ensures.value c.poll.ensures c.word-heard.ensures c.step.ensures.words;
  told = polled_told g.S.Child.Child.may_answer g.S.Feed.Job.may_say g.S.Drain.Job.may_say g.S.Child.Child.child_view (map g.S.Feed.Job.job_view c.self.inside.feeds.items) (option_map g.S.Drain.Job.job_view c.self.inside.drains.out) (option_map g.S.Drain.Job.job_view c.self.inside.drains.err)
      c.self.inside.children.items c.args.self.now.children c.args.at c.index_mut.result.now c.poll.new.self (ap (λ (r : RunningView _ _ _). r.children) c.self.view_is) c.requires c.index_mut.ensures.value c.poll.result c.poll.ensures c.self.invariant.told;
  commands = length-set c.self.inside.children.items c.args.at c.poll.new.self ∙ c.self.invariant.commands ∙ ap (λ s. command_count s) (sym c.step.ensures.shape);
  inputs = c.self.invariant.inputs ∙ ap (λ s. input_count s) (sym c.step.ensures.shape);
  named = named_in g.S.Child.Child.child_view c.self.inside.children.items c.args.self.now.children c.args.at c.index_mut.result.now c.poll.new.self _ (ap (λ (r : RunningView _ _ _). r.children) c.self.view_is)
      c.requires c.index_mut.ensures.value (ap (λ (v : ChildView). v.process) c.poll.ensures.after_is) c.self.invariant.named;
  empty = c.self.invariant.empty;
  fits = c.self.invariant.fits;
}

pub returns-clause-shape : goal.returns-clause-shape
returns-clause-shape g c = c.step.ensures.shape ∙ ap (λ (r : RunningView _ _ _). shape_view r.shape) c.self.view_is

pub returns-clause-asked : goal.returns-clause-asked
returns-clause-asked g c =
    asked_in g.S.Child.Child.child_view g.S.Child.Child.may_answer (map g.S.Feed.Job.job_view c.self.inside.feeds.items) (option_map g.S.Drain.Job.job_view c.self.inside.drains.out) (option_map g.S.Drain.Job.job_view c.self.inside.drains.err)
    c.self.inside.children.items c.args.self.now.children c.args.at c.index_mut.result.now c.poll.new.self c.poll.result _ (ap (λ (r : RunningView _ _ _). r.children) c.self.view_is) c.self.invariant.heard c.requires
    (sym c.if-not-is_due.ensures) c.index_mut.ensures.value c.poll.ensures
