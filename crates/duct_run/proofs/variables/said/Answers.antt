-- One more pair is inserted, and at the end all are.
use Rattle.std.proofs.Common.{ap, ◌∙◌, ◌++◌, [], ◌∷◌, map, take, subst, sym}
use Rattle.duct_run.proofs.Common.{take_more, are_ordered, pair_text}
use Rattle.duct_run.proofs.Changed.{FindsSaid, finds_more}
use Rattle.duct_run.proofs.variables.said.Goals as goal

pub loop-name-preserved : goal.loop-name-preserved
loop-name-preserved c =
    let i = c.loop-name.name-index in let pairs = c.args.pairs.now in let item = c.loop-name-item.result in
    record {
      found = subst (λ xs. FindsSaid c.insert.new.self.entries (map pair_text xs))
          (sym (take_more pairs i item c.loop-name-test.true ∙ ap (λ p. take i pairs ++ p ∷ []) (sym c.loop-name-item.is)))
          (finds_more c.loop-name.vars.entries c.insert.new.self.entries (take i pairs) item _ _ c.loop-name.invariant.found c.loop-name.invariant.ordered
          c.in_ok-insert.ensures.entries (c.from.ensures ∙ c.in_ok-clone.ensures.cases) c.in_ok-clone-2.ensures.cases);
      ordered = c.in_ok-insert.ensures.ordered;
    }

pub returns-clause-ordered : goal.returns-clause-ordered
returns-clause-ordered c = are_ordered c.loop-name.vars.entries c.loop-name.invariant.ordered
