-- A node that is entered by its row is entered.
use Rattle.std.proofs.Common.{◌≡◌, ◌+◌, length, ap, ◌∙◌}
use Rattle.duct_run.specs.Flat.{on_side, source_inside}
use Rattle.duct_run.specs.ActionList.{scope_index}
use Rattle.duct_run.specs.ActionView.{actions_view, scopes_view}
use Rattle.duct_tree.proofs.Rows.{entered}
use Rattle.duct_tree.specs.EffectView.{effect_view}
use Rattle.duct_tree.specs.ActionListView.{sources_view, action_list_view, with_scope}
use Rattle.duct_tree.proofs.compile.enter.Goals as goal

pub returns-clause-list : goal.returns-clause-list
returns-clause-list g c = λ modifier tree is.
    let r = effect_view c.args.effect in
    let outer = c.args.inside.scope in
    let around = sources_view c.args.inside in
    let source = c.in_ok-opened.ensures.source in
    let actions : actions_view c.scoped.new.list.actions.items ≡ actions_view c.open.new.list.actions.items = cc in
    let scopes : scopes_view c.open.new.list.scopes.items ≡ scopes_view c.args.list.now.scopes.items = cc in
    entered r modifier c.args.inside _
    (action_list_view c.args.list.now) (action_list_view c.scoped.new.list) is
    (record {
      actions_are = actions ∙ c.in_ok-opened.ensures.actions;
      scopes_are = c.in_ok-scope.ensures.scopes ∙ ap (λ s. with_scope r.says outer s) scopes;
      scope_is = c.in_ok-scope.ensures.index ∙ ap (λ s. scope_index r.says outer (length s + 1)) scopes;
      wires_are = λ j. record {
        input = (c.input_source.ensures ∙ ap (λ w. source_inside (λ stream. around.input) r.input w) source) j;
        output = (c.output_source.ensures ∙ ap (λ w. source_inside (on_side around) r.output w) source) j;
        error = (c.output_source-2.ensures ∙ ap (λ w. source_inside (on_side around) r.error w) source) j;
      };
      depth_is = c.in_ok-opened.ensures.depth;
    }) tree
