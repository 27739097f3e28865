use Rattle.std.proofs.Common.{◌≡◌, List, [], ◌∷◌, ap, arith, length, length-append, map, sum_by}
use Rattle.std.specs.Vec.Iter.{into_iter_items}
use Rattle.duct_tasks.proofs.Common.{sum_by-cons, running_of, Task, Ended}
use Rattle.duct_tasks.specs.declared.finished.Finished.{Finished}
use Rattle.duct_tasks.proofs.Ends.{all_made, one_more}
use Rattle.duct_tasks.proofs.task.ends_of.Goals as goal

pub loop-preserved : goal.loop-preserved
loop-preserved g c =
    let i = c.loop.invariant in
    let rest = into_iter_items c.next.new.self in
    let items : into_iter_items c.loop.tasks ≡ Ended c.in-Some-Ended.finished ∷ rest =
    rw c.in-Some-Ended.field-0-is at c.in-Some-Ended.ensures.items in
    let fewer = ap (λ (tasks : List (Task g.row.R.Denot g.row.L.Denot)). length tasks) items in
    record {
      ends = rw c.push_reserved.ensures.items (one_more c.args.tasks.items
          (into_iter_items c.loop.tasks) rest c.loop.room.items c.in-Some-Ended.finished items i.ends);
      none = omega (
        arith,
        i.none,
        ap (λ (tasks : List (Task g.row.R.Denot g.row.L.Denot)). sum_by running_of tasks) items,
        sum_by-cons running_of (Ended c.in-Some-Ended.finished) rest,
      );
      left = omega (arith, i.left, c.in-Some-Ended.ensures.len);
      many = omega (arith, i.many, c.in-Some-Ended.ensures.len, fewer);
      room = omega (
        arith,
        i.room,
        fewer,
        c.push_reserved.ensures.capacity,
        ap
            (λ (ends : List Finished). length ends) c.push_reserved.ensures.items,
        length-append
            c.loop.room.items (c.in-Some-Ended.finished ∷ []),
      );
    }

pub returns : goal.returns
returns g c =
    let i = c.loop.invariant in
    all_made c.args.tasks.items (map (λ e. Ended e) c.loop.room.items)
    (into_iter_items c.loop.tasks) (omega (arith, i.left, i.many, c.loop-test.false)) i.ends
