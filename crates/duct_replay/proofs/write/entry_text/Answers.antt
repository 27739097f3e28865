-- The text reads back as the entry's JSON.
use Rattle.std.proofs.Common.{ap, string_bytes}
use Rattle.std.proofs.lemmas.Result.{IfOk-weaker}
use Rattle.serde_json.specs.View.{view}
use Rattle.duct_system.specs.EntryView.{entry_view}
use Rattle.duct_replay.specs.Lines.{Noted, item_data, ◌>>=◌, line_meant, only_entry}
use Rattle.duct_replay.proofs.Line.{read_again, meant_again, text_again}
use Rattle.duct_replay.proofs.write.entry_text.Goals as goal

pub returns-clause-text : goal.returns-clause-text
unfolding item_data
returns-clause-text c =
    let json = view c.in_ok-value.value in
    IfOk-weaker c.to_string.result _ _ (λ text writes. text_again c.args.values (Noted (entry_view c.args.entry.now)) json (string_bytes text) c.in_ok-value.ensures.value writes) c.to_string.ensures.text

pub returns-clause-json : goal.returns-clause-json
unfolding item_data
returns-clause-json c =
    let json = view c.in_ok-value.value in
    IfOk-weaker c.to_string.result _ _ (λ text reads. read_again c.args.values (Noted (entry_view c.args.entry.now)) json (string_bytes text) c.in_ok-value.ensures.value reads) c.to_string.ensures.reads_back

pub returns-clause-shown : goal.returns-clause-shown
unfolding line_meant
returns-clause-shown c shown =
    let json = view c.in_ok-value.value in
    let item = Noted (entry_view c.args.entry.now) in
    IfOk-weaker c.to_string.result _ _ (λ text reads. ap (λ read. read >>= only_entry) (meant_again c.args.values item (string_bytes text) c.in_ok-value.ensures.writable shown (read_again c.args.values item json (string_bytes text) c.in_ok-value.ensures.value reads))) c.to_string.ensures.reads_back
