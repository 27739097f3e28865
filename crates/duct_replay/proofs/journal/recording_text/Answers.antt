-- The text of all means all.
use Rattle.std.proofs.Common.{map, ap, ◌∙◌}
use Rattle.duct_system.specs.EntryView.{entry_view}
use Rattle.duct_replay.specs.Lines.{Ended, Noted, Read, output_view, recorded_view}
use Rattle.duct_replay.proofs.JournalLines.{all_read, all_written, map_map, recording_back}
use Rattle.duct_replay.proofs.journal.recording_text.Goals as goal

pub returns-clause-text : goal.returns-clause-text
returns-clause-text c =
    let entries = map_map Noted entry_view c.entries.result.now ∙ ap (map Noted) c.entries.ensures in
    let endings = ap (map Ended) c.endings.ensures in
    let outputs = map_map Read output_view c.outputs.result.now ∙ ap (λ outputs. map Read (map output_view outputs)) c.outputs.ensures in
    all_written c.args.values (recorded_view c.args.recording.now) _ _ _ entries endings outputs _ _ _ _ c.new-text.ensures.bytes c.in_ok-push_lines.ensures.text c.in_ok-push_lines-2.ensures.text c.in_ok-push_lines-3.ensures.text

pub returns-clause-shown : goal.returns-clause-shown
returns-clause-shown c shown =
    let entries = map_map Noted entry_view c.entries.result.now ∙ ap (map Noted) c.entries.ensures in
    let endings = ap (map Ended) c.endings.ensures in
    let outputs = map_map Read output_view c.outputs.result.now ∙ ap (λ outputs. map Read (map output_view outputs)) c.outputs.ensures in
    let all = all_read c.args.values (recorded_view c.args.recording.now) _ _ _ entries endings outputs (c.in_ok-push_lines.ensures.shown shown) (c.in_ok-push_lines-2.ensures.shown shown) (c.in_ok-push_lines-3.ensures.shown shown) in
    recording_back c.args.values (recorded_view c.args.recording.now) _ all (returns-clause-text c)
