-- The text or the error of an expression is that of its start and of what was read.
use Rattle.std.proofs.Common.{rules, ◌⊎◌, inl, inr}
use Rattle.duct.specs.TreeView.{tree_view}
use Rattle.duct_program.proofs.program.answer.Goals as goal

either_way : {A B C D : Type 0} → (A → C) → (B → D) → A ⊎ B → C ⊎ D
either_way first second (inl a) = inl (first a)
either_way first second (inr b) = inr (second b)

pub returns-in-Ok-clause-text : goal.returns-in-Ok-clause-text
returns-in-Ok-clause-text g c =
    let l = c.in-Ok.ensures.text in
    (tree_view c.in_ok-expression.expression, search rules, (l.asked, l.makes))

pub returns-clause-err : goal.returns-clause-err
returns-clause-err g c = (
  tree_view c.in_ok-expression.expression,
  search rules,
  either_way (λ refused. refused.asked) (λ failed. (failed.asked, (failed.waited, failed.ran, failed.returns))) c.in-Err.ensures.failed,
)
