-- The reports are those that the children store, whose numbers are the handle's.
use Rattle.std.proofs.Common.{ap, map, refl, rules, subst, sym, ◌≡◌, ◌∙◌, List, ℕ}
use Rattle.duct_system.specs.Child.{ChildView}
use Rattle.duct_status.specs.declared.status.Word.{Word}
use Rattle.duct_running.specs.Allowed.{HaveReported}
use Rattle.duct_handle.proofs.Common.{∥∥₁_map, views_of, NumbersView}
use Rattle.duct_handle.proofs.Reporting.{all_reported}
use Rattle.duct_handle.proofs.reports.reports.Goals as goal

pub returns-clause-reports : goal.returns-clause-reports
returns-clause-reports g c =
    let views = views_of g.S.System g.S.End.Numbered g.S.Child.Child g.S.Feed.Job g.S.Drain.Job in
    let children = map g.S.Child.Child.child_view c.args.running.now.children in
    let numbers = ap (λ (n : NumbersView). n.children) (c.if-not-is_of.ensures.0 refl).1 in
    let words : c.in_ok-to_vec.field-0.items ≡ c.reports.result.now =
    c.in_ok-to_vec.ensures.items_if_clones_equal (λ x y same. search rules) in
    subst (λ (ns : List ℕ). HaveReported views ns c.in_ok-to_vec.field-0.items) numbers
    (subst (λ (ws : List Word). HaveReported views (map (λ (c : ChildView). c.number) children) ws) (sym (words ∙ c.reports.ensures))
    (∥∥₁_map c.answers_allowed.ensures (λ t. all_reported views children t.children_told)))
