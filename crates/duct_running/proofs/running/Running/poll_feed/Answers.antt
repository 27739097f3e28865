use Rattle.duct_running.proofs.Common.{command_count, input_count, shape_view, length-set, RunningView}
use Rattle.std.proofs.Common.{ap, sym, ◌∙◌, map, option_map}
use Rattle.duct_running.proofs.Jobs.{not_asked_in, asked_in, words_in_step}
use Rattle.duct_running.proofs.Told.{feed_told}
use Rattle.duct_running.proofs.running.Running.poll_feed.Goals as goal

pub returns-then-not-is_input_due-clause-asked : goal.returns-then-not-is_input_due-clause-asked
returns-then-not-is_input_due-clause-asked g c =
    not_asked_in g.S.Feed.Job.job_view g.S.Feed.Job.may_say g.S.Feed.Job.same g.S.Feed.Job.refusable (map g.S.Child.Child.child_view c.self.inside.children.items) (option_map g.S.Drain.Job.job_view c.self.inside.drains.out) (option_map g.S.Drain.Job.job_view c.self.inside.drains.err)
    c.self.inside.feeds.items c.args.self.now.feeds c.args.at _ (ap (λ (r : RunningView _ _ _). r.feeds) c.self.view_is) c.self.invariant.heard c.requires (sym c.if-not-is_input_due.ensures)

pub invariant_of-self : goal.invariant_of-self
invariant_of-self g c = record {
  heard = words_in_step g.S.Feed.Job.job_view g.S.Feed.Job.may_say g.S.Feed.Job.same g.S.Feed.Job.refusable (map g.S.Child.Child.child_view c.self.inside.children.items) (option_map g.S.Drain.Job.job_view c.self.inside.drains.out) (option_map g.S.Drain.Job.job_view c.self.inside.drains.err)
      c.self.inside.feeds.items c.args.self.now.feeds c.args.at c.index_mut.result.now c.poll-heard.new.self c.poll-heard.result _ _ (ap (λ (r : RunningView _ _ _). r.feeds) c.self.view_is)
      c.self.invariant.heard c.requires c.index_mut.ensures.value c.poll-heard.ensures c.step.ensures.words;
  told = feed_told g.S.Child.Child.may_answer g.S.Feed.Job.may_say g.S.Drain.Job.may_say g.S.Feed.Job.job_view (map g.S.Child.Child.child_view c.self.inside.children.items) (option_map g.S.Drain.Job.job_view c.self.inside.drains.out) (option_map g.S.Drain.Job.job_view c.self.inside.drains.err)
      c.self.inside.feeds.items c.args.self.now.feeds c.args.at c.index_mut.result.now c.poll-heard.new.self (ap (λ (r : RunningView _ _ _). r.feeds) c.self.view_is) c.requires c.index_mut.ensures.value g.S.Feed.Job.same g.S.Feed.Job.refusable c.poll-heard.result c.poll-heard.ensures c.self.invariant.told;
  commands = c.self.invariant.commands ∙ ap (λ s. command_count s) (sym c.step.ensures.shape);
  inputs = length-set c.self.inside.feeds.items c.args.at c.poll-heard.new.self ∙ c.self.invariant.inputs ∙ ap (λ s. input_count s) (sym c.step.ensures.shape);
  named = c.self.invariant.named;
  empty = c.self.invariant.empty;
  fits = c.self.invariant.fits;
}

pub returns-clause-shape : goal.returns-clause-shape
returns-clause-shape g c = c.step.ensures.shape ∙ ap (λ (r : RunningView _ _ _). shape_view r.shape) c.self.view_is

pub returns-clause-asked : goal.returns-clause-asked
returns-clause-asked g c =
    asked_in g.S.Feed.Job.job_view g.S.Feed.Job.may_say g.S.Feed.Job.same g.S.Feed.Job.refusable (map g.S.Child.Child.child_view c.self.inside.children.items) (option_map g.S.Drain.Job.job_view c.self.inside.drains.out) (option_map g.S.Drain.Job.job_view c.self.inside.drains.err)
    c.self.inside.feeds.items c.args.self.now.feeds c.args.at c.index_mut.result.now c.poll-heard.new.self c.poll-heard.result _ (ap (λ (r : RunningView _ _ _). r.feeds) c.self.view_is) c.self.invariant.heard c.requires
    (sym c.if-not-is_input_due.ensures) c.index_mut.ensures.value c.poll-heard.ensures
