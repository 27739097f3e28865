use Rattle.std.proofs.Common.{◌≡◌, ◌∙◌, Err, List, Option, ap, drop, if◌then◌else◌, is_some, true, length, map, refl, subst, sym, ℕ}
use Rattle.std.proofs.lemmas.List.{drop-map}
use Rattle.duct_system.specs.EntryView.{EntryView, entry_view}
use Rattle.duct_tasks.proofs.Common.{added_between, length-map, views_of}
use Rattle.duct_tasks.specs.FailedRequest.{Names}
use Rattle.duct_tasks.specs.Tasks.{is_failure}
use Rattle.duct_tasks.specs.declared.finished.TaskEnd.{TaskEnd}
use Rattle.duct_tasks.specs.declared.statuses.CommandStatus.{CommandStatus}
use Rattle.duct_tasks.proofs.task.started.Goals as goal

pub returns-in-Err-clause-starts : goal.returns-in-Err-clause-starts
returns-in-Err-clause-starts g c =
    let views = views_of g.S.System g.S.End.Numbered g.S.Child.Child g.S.Feed.Job g.S.Drain.Job in
    let fails = c.in-Err.ensures.err in
    let entries = c.journal.result.now in
    let count : ℕ = length c.journal-before.result.now in
    let before : count ≡ length (views.journal c.args.sys.now).entries =
    sym (length-map c.journal-before.result.now entry_view)
    ∙ ap (λ (es : List EntryView). length es) c.journal-before.ensures in
    let added : map entry_view c.added_since-added.result.now
    ≡ added_between views c.args.sys.now c.start.new.sys =
    ap (λ (es : List _). map entry_view es) c.added_since-added.ensures
    ∙ sym (drop-map entry_view count entries)
    ∙ ap (λ (es : List EntryView). drop count es) c.journal.ensures
    ∙ ap (λ (n : ℕ). drop n (views.journal c.start.new.sys).entries) before in
    record {
      made = Err (record {
        error = c.in-Err.error;
        added = added_between views c.args.sys.now c.start.new.sys;
      });
      given = fails.0;
      makes = (fails.1, refl);
      counts = fails.2;
      at = (
        c.refused.ensures.end,
        c.refused.ensures.commands,
        c.refused.ensures.stdout,
        c.refused.ensures.stderr,
        subst (λ (r : Option _). Names (added_between views c.args.sys.now c.start.new.sys) r)
            (sym c.refused.ensures.request)
            (subst (λ (es : List EntryView). Names es c.request_of-request.result) added
            c.request_of-request.ensures),
      );
      none = ap (λ (e : TaskEnd). if (if is_failure e then true else
          is_some c.refused.result.unread) then length c.refused.result.commands.items else 0)
          c.refused.ensures.end
          ∙ ap (λ (cs : List CommandStatus). length cs) c.refused.ensures.commands;
      fresh = tt;
    }
