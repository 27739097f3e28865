-- The status and the line are those of the verdict, where both were written.
use Rattle.std.proofs.Common.{◌≡◌, ◌⊎◌, ◌≤◌, ◌∙◌, ℕ, List, Some, None, Option, IfSome, map, refl, string_bytes, subst, inl, inr, arith}
use Rattle.std.specs.Io.KnownBytes.{Appends}
use Rattle.duct.specs.TreeView.{tree_view}
use Rattle.duct_system.specs.EntryView.{EntryView, entry_view}
use Rattle.trace.specs.Commands.{verdict_text}
use Rattle.trace.proofs.commands.judge_line.Goals as goal

-- a status that isn't that of a failed write
known : (result status : ℕ) → (result ≡ status) ⊎ (result ≡ 3) → result ≤ 1 → result ≡ status
known result status (inl is) small = is
known result status (inr is) small = absurd (omega (arith, is, small))

-- a line that was written has the text of a verdict, where that is specified
said : (shown : Option (List ℕ)) (line : List ℕ) (Says : List ℕ → Type 0)
    → IfSome shown (λ text. line ≡ text) → Says line → IfSome shown Says
said None line Says is holds = tt
said (Some text) line Says is holds = subst Says is holds

pub returns-in-Ok-verdict_line-clause-judged : goal.returns-in-Ok-verdict_line-clause-judged
returns-in-Ok-verdict_line-clause-judged g c small =
    let told = c.tell-in-Ok-verdict_line in
    let Says = λ (line : List ℕ). Appends (g.O.Write.contents c.args.out.now) (g.O.Write.contents told.new.err) line in
    let status = known told.result c.in-Ok-verdict_line.status told.ensures.status small in
    let line = said _ (string_bytes c.in-Ok-verdict_line.line) Says c.in-Ok-verdict_line.ensures.line
    (subst Says c.as_str.ensures.value (told.ensures.text (λ is. absurd (omega (arith, is, small))))) in (
      (
        tree_view c.in-Ok.expression,
        c.in-Ok.ensures,
        (
          c.in-Ok-judge.verdict,
          c.in-Ok-judge.replay.journal,
          c.in-Ok-judge.ensures,
          (
            status ∙ c.in-Ok-verdict_line.ensures.status,
            subst (λ (made : List EntryView). IfSome (verdict_text c.in-Ok-judge.verdict (map entry_view c.args.entries.now) made) Says)
                c.journal.ensures line,
          ),
        ),
      ),
      refl,
    )
