use Rattle.std.proofs.Common.{map, List, ℕ, string_bytes}
use Rattle.duct_status.specs.Message.{IsMessage}
use Rattle.duct_status.proofs.Messages.{from_printed}
use Rattle.duct_status.proofs.status.answer.failure.Goals as goal

pub returns : goal.returns
returns c =
    let texts = map string_bytes c.args.words.now.items in
    let P : List ℕ → Type 0 = λ text. IsMessage texts c.args.status text in
    rw c.in_ok-made.ensures.ok (from_printed texts c.args.status (string_bytes c.in_ok-text.text) c.in_ok-text.ensures)
