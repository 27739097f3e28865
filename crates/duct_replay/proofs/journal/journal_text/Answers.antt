-- The text of all means all.
use Rattle.std.proofs.Common.{map, ◌++◌, ap, subst, ◌∙◌, flat_map}
use Rattle.duct_system.specs.EntryView.{entry_view}
use Rattle.duct_replay.specs.Lines.{Noted, item_text, AllRead}
use Rattle.duct_replay.proofs.JournalLines.{journal_back, map_map}
use Rattle.duct_replay.proofs.journal.journal_text.Goals as goal

pub returns-clause-text : goal.returns-clause-text
returns-clause-text c =
    c.in_ok-push_lines.ensures.text ∙ ap (λ text. text ++ flat_map (item_text c.args.values) (map (λ entry. Noted (entry_view entry)) c.args.entries.now)) c.new-text.ensures.bytes
    ∙ ap (flat_map (item_text c.args.values)) (map_map Noted entry_view c.args.entries.now)

pub returns-clause-shown : goal.returns-clause-shown
returns-clause-shown c shown =
    let all = subst (AllRead c.args.values) (map_map Noted entry_view c.args.entries.now) (c.in_ok-push_lines.ensures.shown shown) in
    journal_back c.args.values (map entry_view c.args.entries.now) _ all (returns-clause-text c)
