use Rattle.std.proofs.Common.{◌++◌, ◌∙◌, ap, is_ok}
use Rattle.duct_base.specs.Pool.{in_nodes}
use Rattle.duct_base.proofs.Sieving.{in_nodes_after}
use Rattle.duct_base.proofs.pool.Pool.keep.Goals as goal
use Rattle.duct_base.proofs.pool.Pool.keep.Goals.{then-is_err, else-is_err}

pub returns-clause-stays : goal.returns-clause-stays
returns-clause-stays g c =
    let s = in_nodes_after c.self.inside.nodes c.append.new.self c.fill.new.node c.args.child (is_ok c.append.result) c.fill.ensures c.append.ensures.items in
    let stays = s.1 ∙ ap (λ p. p.children ++ s.0) c.self.view_is in
    elim c.if-is_err.branch [
      | then-is_err w ↦ (s.0, ap (λ i. in_nodes i.nodes) w.self-inside-is ∙ stays)
      | else-is_err w ↦ (s.0, ap (λ i. in_nodes i.nodes) w.self-inside-is ∙ stays)
    ]
