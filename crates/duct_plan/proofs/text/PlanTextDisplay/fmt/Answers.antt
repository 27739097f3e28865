-- A plan prints the promised text.
use Rattle.std.proofs.Common.{Ok, arith, map, refl}
use Rattle.duct_status.specs.Form.{form_text, is_form_printable, printed}
use Rattle.duct_status.proofs.Printing.{form_prints, displays_if}
use Rattle.duct_plan.specs.PlanView.{item_of}
use Rattle.duct_plan.specs.PlanForm.{line_form, lines_form}
use Rattle.duct_base.proofs.Written.{continues_more, continues_end}
use Rattle.duct_plan.proofs.text.PlanTextDisplay.fmt.Goals as goal

pub loop-place-preserved : goal.loop-place-preserved
loop-place-preserved g c =
    continues_more g.W.Write.write_str_gives
    (λ place items. printed (lines_form place (map item_of items))) _ _ _ _ c.loop-place.place
    (λ place item. printed (line_form place (item_of item))) c.write_line.new.f c.item-item.result
    (λ place item items. refl) c.loop-place-test.true c.item-item.is c.in_ok-write_line.ensures
    c.loop-place.invariant

pub returns-clause-writes : goal.returns-clause-writes
returns-clause-writes g c =
    let form = lines_form 0 (map item_of c.args.self.now.0.now.items.items) in
    displays_if g.W.Write.write_str_gives _ (Ok tt) c.before.loop-place.f (is_form_printable form) (printed form) (form_text form) (form_prints form)
    (continues_end g.W.Write.write_str_gives
    (λ place items. printed (lines_form place (map item_of items)))
    _ _ _ _ c.loop-place.place refl (omega arith) c.loop-place.invariant)
