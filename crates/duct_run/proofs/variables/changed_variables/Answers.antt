-- The furthest remaining change is applied, and at the end all are.
use Rattle.std.proofs.Common.{◌∙◌, ap, map, subst, sym}
use Rattle.duct_run.proofs.Common.{AreOrdered, pair_text, var_view, variable_in}
use Rattle.duct_run.proofs.Gathering.{begun_whole, begun_said, one_made}
use Rattle.duct_run.proofs.variables.changed_variables.Goals as goal
use Rattle.duct_run.proofs.variables.changed_variables.Goals.{in-Some+in_ok-vars-in-Some, in-None+in_ok-vars-in-None}

pub loop-change-init : goal.loop-change-init
loop-change-init c =
    let pairs = map pair_text c.args.pairs.now in
    let changes = c.args.changes in
    elim c.match-whole.branch [
      | in-Some+in_ok-vars-in-Some w ↦ record {
        found = λ name.
            begun_whole changes w.in-Some.whole (map var_view c.match-whole.vars.entries) w.in-Some.is
            (ap (λ m. map var_view m.entries) w.vars-is ∙ w.in_ok-vars-in-Some.ensures.vars) pairs name;
        ordered = subst (λ m. AreOrdered (map var_view m.entries)) (sym w.vars-is) w.in_ok-vars-in-Some.ensures.ordered;
      }
      | in-None+in_ok-vars-in-None w ↦ record {
        found = λ name.
            begun_said changes (map var_view c.match-whole.vars.entries) pairs w.in-None.is
            (λ other. ap (λ m. variable_in other (map var_view m.entries)) w.vars-is ∙ w.in_ok-vars-in-None.ensures.found other) name;
        ordered = subst (λ m. AreOrdered (map var_view m.entries)) (sym w.vars-is) w.in_ok-vars-in-None.ensures.ordered;
      }
    ]

pub loop-change-preserved : goal.loop-change-preserved
loop-change-preserved c =
    let pairs = map pair_text c.args.pairs.now in
    record {
      found = λ name.
          one_made c.loop-change.single.items c.pop.new.self.items c.in-Some-pop.change (map var_view c.loop-change.vars.entries) (map var_view c.in_ok-vars.vars.entries) pairs
          c.in-Some-pop.ensures.items (c.in_ok-vars.ensures.found pairs) name
          ∙ c.loop-change.invariant.found name;
      ordered = c.in_ok-vars.ensures.ordered;
    }
