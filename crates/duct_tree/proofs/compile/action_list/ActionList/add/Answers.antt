-- An action that is added is counted and noted.
use Rattle.std.proofs.Common.{◌≡◌, ◌++◌, [], ◌∷◌, ap, ◌∙◌, rules}
use Rattle.std.proofs.lemmas.List.{map-append}
use Rattle.duct_system.specs.declared.system.Side.TheVariants as side
use Rattle.duct_run.specs.Actions.{captures_in}
use Rattle.duct_run.specs.ActionView.{action_view, actions_view}
use Rattle.duct_tree.specs.ActionCounts.{feed_count, spawn_count}
use Rattle.duct_tree.proofs.Counts.{captures_noted, feeds_push, spawns_push}
use Rattle.duct_tree.proofs.compile.action_list.ActionList.add.Goals as goal

pub invariant_of-self-2-clause-commands_counted : goal.invariant_of-self-2-clause-commands_counted
invariant_of-self-2-clause-commands_counted g c =
    let before = c.args.self.now in
    let after = actions_view c.push.new.self.items in
    let pushed : after ≡ actions_view before.actions.items ++ action_view c.args.action ∷ [] =
    ap (λ l. actions_view l) c.in_ok-push.ensures.items ∙ map-append action_view before.actions.items (c.args.action ∷ []) in
    let was : before.commands ≡ spawn_count (actions_view before.actions.items) = search rules in
    spawns_push before.commands c.started-starts.result.0 c.in_ok-commands.commands (actions_view before.actions.items) after (action_view c.args.action) was c.started-starts.ensures.commands c.in_ok-commands.ensures.sum pushed

pub invariant_of-self-2-clause-inputs_counted : goal.invariant_of-self-2-clause-inputs_counted
invariant_of-self-2-clause-inputs_counted g c =
    let before = c.args.self.now in
    let after = actions_view c.push.new.self.items in
    let pushed : after ≡ actions_view before.actions.items ++ action_view c.args.action ∷ [] =
    ap (λ l. actions_view l) c.in_ok-push.ensures.items ∙ map-append action_view before.actions.items (c.args.action ∷ []) in
    let was : before.inputs ≡ feed_count (actions_view before.actions.items) = search rules in
    feeds_push before.inputs c.started-starts.result.1 c.in_ok-inputs.inputs (actions_view before.actions.items) after (action_view c.args.action) was c.started-starts.ensures.inputs c.in_ok-inputs.ensures.sum pushed

pub invariant_of-self-2-clause-output_noted : goal.invariant_of-self-2-clause-output_noted
invariant_of-self-2-clause-output_noted g c =
    let before = c.args.self.now in
    let after = actions_view c.push.new.self.items in
    let pushed : after ≡ actions_view before.actions.items ++ action_view c.args.action ∷ [] =
    ap (λ l. actions_view l) c.in_ok-push.ensures.items ∙ map-append action_view before.actions.items (c.args.action ∷ []) in
    let was : before.captures.out ≡ captures_in side.Out (actions_view before.actions.items) = search rules in
    captures_noted side.Out before.captures.out c.noted-captures.result.out (actions_view before.actions.items) after (action_view c.args.action) was c.noted-captures.ensures.out pushed

pub invariant_of-self-2-clause-error_noted : goal.invariant_of-self-2-clause-error_noted
invariant_of-self-2-clause-error_noted g c =
    let before = c.args.self.now in
    let after = actions_view c.push.new.self.items in
    let pushed : after ≡ actions_view before.actions.items ++ action_view c.args.action ∷ [] =
    ap (λ l. actions_view l) c.in_ok-push.ensures.items ∙ map-append action_view before.actions.items (c.args.action ∷ []) in
    let was : before.captures.err ≡ captures_in side.Err (actions_view before.actions.items) = search rules in
    captures_noted side.Err before.captures.err c.noted-captures.result.err (actions_view before.actions.items) after (action_view c.args.action) was c.noted-captures.ensures.err pushed
