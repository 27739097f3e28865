use Rattle.std.proofs.Common.{◌∙◌, ◌++◌, List, Ok, ap, arith, inl, inr, length, map, refl, sym, ℕ}
use Rattle.duct_system.specs.Started.{children_in}
use Rattle.duct_start.specs.ShapeOfTree.{shape_of_tree}
use Rattle.duct_tree.specs.NodeView.{node_view}
use Rattle.duct_tasks.proofs.Common.{ShapeView, shape_view, added_between, counted, err_from_is_err_and, length-map, views_of}
use Rattle.duct_tasks.proofs.Jobs.{length_commands}
use Rattle.duct_tasks.proofs.Signalled.{no_orders}
use Rattle.duct_tasks.specs.Statuses.{commands_in, words_of}
use Rattle.duct_tasks.proofs.job.Job+Running+S+S+Reader.start.Goals as goal

pub returns-in_err-running-clause-err : goal.returns-in_err-running-clause-err
returns-in_err-running-clause-err g c =
    let views = views_of g.S.System g.S.End.Numbered g.S.Child.Child g.S.Feed.Job g.S.Drain.Job in
    let l = c.in_err-running.ensures.refused in
    let p = err_from_is_err_and c.from_residual-in_err-running.result
    c.from_residual-in_err-running.ensures.1 in
    let added = added_between views c.piped.new.sys c.launch_reader.new.sys in
    rw (p.1, p.2) (
      length (children_in added),
      inr (inr (inl (record {
        piped = c.piped.new.sys;
        inside = c.in_ok-inside.inside;
        err = c.in_ok-inside.err;
        pipes = c.in_ok-inside.ensures.ok;
        asked = l.asked;
        given_is = refl;
      }))),
      l.given.3.given_is ∙ ap (λ (n : ℕ). counted c.args.pool.now.given n)
          (sym (length-map l.given.0 (λ c. c.number))
          ∙ ap (λ (numbers : List ℕ). length numbers) l.given.1),
    )

pub returns-in-Ok-clause-ok : goal.returns-in-Ok-clause-ok
returns-in-Ok-clause-ok g c =
    let views = views_of g.S.System g.S.End.Numbered g.S.Child.Child g.S.Feed.Job g.S.Drain.Job in
    let l = c.in_ok-running.ensures.launched in
    let running = c.in_ok-running.running in
    record {
      made = Ok (record {
        running = running;
        out = c.in_ok-running.out;
        err = c.in_ok-inside.err;
      });
      given = 0;
      makes = (
        record {
          piped = c.piped.new.sys;
          inside = c.in_ok-inside.inside;
          pipes = c.in_ok-inside.ensures.ok;
          asked = l.asked;
          makes = l.makes;
        },
        refl,
      );
      counts = l.swept.given_is;
      at = record {
        alike = refl;
        at_step = no_orders views running.children l.makes.0.unasked;
        out = c.in-Ok.ensures.out;
        err = c.in-Ok.ensures.err;
        words_are = c.in_ok-add_commands.ensures
            ∙ ap (λ xs. map words_of xs
            ++ commands_in (shape_of_tree (node_view c.root.result.now))) c.new-commands.ensures.items
            ∙ ap (λ t. commands_in (shape_of_tree t)) c.root.ensures;
        noted = tt;
      };
      none = refl;
      fresh = tt;
    }

pub returns-in-Ok-clause-ready : goal.returns-in-Ok-clause-ready
returns-in-Ok-clause-ready g c = record {
  reads = c.in-Ok.ensures.both;
  began = c.now-began.ensures;
  count =
      let views = views_of g.S.System g.S.End.Numbered g.S.Child.Child g.S.Feed.Job g.S.Drain.Job in
      let running = c.in_ok-running.running in
      let children = map views.child running.children in
      let tree = c.in_ok-inside.ensures.ok.tree in
      let words = c.in_ok-add_commands.ensures
      ∙ ap (λ xs. map words_of xs ++ commands_in (shape_of_tree (node_view c.root.result.now)))
      c.new-commands.ensures.items
      ∙ ap (λ t. commands_in (shape_of_tree t)) c.root.ensures
      ∙ ap (λ t. commands_in (shape_of_tree t)) (sym tree)
      ∙ ap (λ (s : ShapeView). commands_in s)
      (sym c.in_ok-running.ensures.launched.makes.0.shape_is) in
      omega (
        arith,
        length-map c.add_commands.new.commands.items words_of,
        ap (λ (ws : List (List (List ℕ))). length ws) words,
        length_commands (shape_view running.shape),
        c.pids-ids.ensures.count,
        ap (λ (ids : List ℕ). length ids) c.pids-ids.ensures.ids,
        length-map children (λ c. c.process),
        length-map children (λ c. c.number),
      );
  until = tt;
}

pub returns-in-Err-clause-err : goal.returns-in-Err-clause-err
returns-in-Err-clause-err g c =
    let l = c.in_ok-running.ensures.launched in (
      length c.in_ok-running.running.children,
      inr (inr (inr (record {
        launch = record {
          running = c.in_ok-running.running;
          out = c.in_ok-running.out;
          err = c.in_ok-inside.err;
        };
        launches = record {
          piped = c.piped.new.sys;
          inside = c.in_ok-inside.inside;
          pipes = c.in_ok-inside.ensures.ok;
          asked = l.asked;
          makes = l.makes;
        };
        fault = (c.in-Err.fault, refl);
        given_is = refl;
      }))),
      c.give_up.ensures.counts
          ∙ ap (λ (n : ℕ). counted n (length c.in_ok-running.running.children)) l.swept.given_is,
    )
