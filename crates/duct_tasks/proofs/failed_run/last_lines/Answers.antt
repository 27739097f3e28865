use Rattle.std.proofs.Common.{◌-◌, List, ℕ, length, drop, ap, sym, subst, ◌∙◌, arith}
use Rattle.std.proofs.lemmas.List.{length-drop, take_rest}
use Rattle.std.specs.Io.BufRead.{drop_through}
use Rattle.duct_tasks.specs.FailedText.{BeginsLine}
use Rattle.duct_tasks.proofs.Tails.{after-shorter, after_place}
use Rattle.duct_tasks.proofs.failed_run.last_lines.Goals as goal

pub returns-clause-few : goal.returns-clause-few
returns-clause-few c =
    let bytes = c.args.bytes.now in
    let place = length c.args.bytes.now - c.args.most - 1 in
    let is = c.after_newline.ensures ∙ ap (drop_through 10) (take_rest bytes place) in
    omega (arith, after-shorter (drop place bytes), ap length is, length-drop place bytes)

pub returns-clause-whole : goal.returns-clause-whole
returns-clause-whole c =
    let bytes = c.args.bytes.now in
    let place = length c.args.bytes.now - c.args.most - 1 in
    let is = c.after_newline.ensures ∙ ap (drop_through 10) (take_rest bytes place) in
    subst (λ (tail : List ℕ). BeginsLine bytes tail) (sym is) (after_place bytes place)
