-- One more end is closed.
use Rattle.std.proofs.Common.{◌∷◌, [], ℕ, List, arith, sym, subst, map}
use Rattle.duct_run.proofs.Common.{common_steps, map-append, Closes}
use Rattle.duct_run.proofs.Closes.{closes_next}
use Rattle.duct_run.proofs.ending.close_stack.Goals as goal

pub loop-end-preserved : goal.loop-end-preserved
loop-end-preserved g c =
    let number_of = g.S.End.Numbered.number_of in
    let journal = g.S.System.journal_view in
    let done = c.loop-end.yielded in
    let then = journal c.close.new.self in record {
      closed = subst (λ (l : List ℕ). Closes l (journal c.args.sys.now) then) (sym (map-append number_of done (c.in-Some.end ∷ [])))
          (closes_next (map number_of done) (number_of c.in-Some.end) (journal c.args.sys.now) (journal c.loop-end.sys) then c.loop-end.invariant.closed c.close.ensures);
      whole = grind (arith, common_steps);
      many = grind (arith, common_steps);
    }
