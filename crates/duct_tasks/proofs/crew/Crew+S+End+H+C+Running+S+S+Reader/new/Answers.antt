use Rattle.std.proofs.Common.{List, ap, arith, length, sum_by, sym}
use Rattle.duct_tasks.proofs.Common.{Task, failed_of, running_of}
use Rattle.duct_tasks.proofs.crew.Crew+S+End+H+C+Running+S+S+Reader.new.Goals as goal

pub invariant_of-result : goal.invariant_of-result
invariant_of-result g c =
    let items = c.in_ok-started.ensures.items in
    record {
      some = c.requires.some;
      few = omega arith;
      runs = sym (ap (λ (ts : List (Task _ _)). sum_by (λ t. running_of t) ts) items);
      fails = λ no. absurd (cc);
      well = λ is. ap (λ (ts : List (Task _ _)). sum_by (λ t. failed_of t) ts) items;
      stops = λ no. absurd (cc);
      room = omega (arith, c.in_ok-started.ensures.capacity);
      within = omega (arith, ap (λ (ts : List (Task _ _)). length ts) items);
    }
