-- The line of an item is read back.
use Rattle.std.proofs.Common.{◌≡◌, ℕ, List, [], ◌∷◌, ◌++◌, Some, ap, subst, ◌∙◌}
use Rattle.serde_json.specs.Read.{read}
use Rattle.duct_replay.specs.Lines.{item_data, item_text}
use Rattle.duct_replay.proofs.JournalLines.{item_reads}
use Rattle.duct_replay.proofs.Line.{read_again, text_again}
use Rattle.duct_replay.proofs.write.line.Goals as goal

pub returns-clause-text : goal.returns-clause-text
unfolding item_text lib.Utf8.encode
returns-clause-text g c =
    let item = g.T.Written.item c.args.item.now in
    let text = text_again c.args.values item _ _ c.in_ok-value.ensures.value c.in_ok-line.ensures.text in
    let pushed = rw c.in_ok-push.was at c.push.ensures.bytes in
    pushed ∙ ap (λ (text : List ℕ). text ++ 10 ∷ []) text

pub returns-clause-shown : goal.returns-clause-shown
returns-clause-shown g c shown =
    let item = g.T.Written.item c.args.item.now in
    let text = text_again c.args.values item _ _ c.in_ok-value.ensures.value c.in_ok-line.ensures.text in
    let json = read_again c.args.values item _ _ c.in_ok-value.ensures.value c.in_ok-line.ensures.reads_back in
    item_reads c.args.values item c.in_ok-value.ensures.writable shown
    (subst (λ (bytes : List ℕ). read bytes ≡ Some (item_data c.args.values item)) text json)
