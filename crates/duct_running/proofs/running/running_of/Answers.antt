use Rattle.std.proofs.Common.{◌≤◌, ◌++◌, ap, ◌∙◌, arith, length, map, None, Some, option_to_list, Option}
use Rattle.duct_running.proofs.Common.{ChildView, views_of, AreUnasked}
use Rattle.duct_system.specs.declared.system.Side.TheVariants as side
use Rattle.duct_running.proofs.Told.{none_told}
use Rattle.duct_running.proofs.Unasked.{unasked_words}
use Rattle.duct_status.specs.CoreView.{latest_in, shape_in}
use Rattle.duct_running.proofs.running.running_of.Goals as goal

at_most_two : {D : Type 0} (output error : Option D) → length (option_to_list output ++ option_to_list error) ≤ 2
at_most_two None None = omega arith
at_most_two None (Some error) = omega arith
at_most_two (Some output) None = omega arith
at_most_two (Some output) (Some error) = omega arith

pub invariant_of-result : goal.invariant_of-result
invariant_of-result g c =
    let views = views_of g.S.System g.S.End.Numbered g.S.Child.Child g.S.Feed.Job g.S.Drain.Job in
    let kept = c.args.kept in
    let new = c.requires.new in
    let unasked : AreUnasked views kept.children.items kept.feeds.items kept.drains.out kept.drains.err = record {
      children_unasked = new.children;
      feeds_unpolled = new.feeds;
      output_unpolled = new.drains side.Out;
      error_unpolled = new.drains side.Err;
    } in
    record {
      heard = unasked_words views (shape_in c.args.core) (latest_in c.args.core) kept.children.items kept.feeds.items
          kept.drains.out kept.drains.err c.requires.silent c.requires.commands c.requires.inputs unasked;
      told = none_told views kept.children.items kept.feeds.items kept.drains.out kept.drains.err unasked;
      commands = c.requires.commands;
      inputs = c.requires.inputs;
      named = c.note_ids.ensures ∙ ap (λ l. map (λ (v : ChildView). v.process) (map g.S.Child.Child.child_view l)) c.deref.ensures.value;
      empty = c.requires.room.empty;
      fits = omega (arith, c.requires.room.drained, at_most_two kept.drains.out kept.drains.err);
    }
