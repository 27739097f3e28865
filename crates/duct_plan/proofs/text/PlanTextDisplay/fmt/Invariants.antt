-- The lines that are left complete the text.
use Rattle.std.proofs.Common.{drop, map}
use Rattle.duct_status.specs.Form.{printed}
use Rattle.duct_plan.specs.PlanForm.{lines_form}
use Rattle.duct_plan.specs.PlanView.{item_of}
use Rattle.duct_base.proofs.Written.{Continues}
use Rattle.duct_plan.proofs.text.PlanTextDisplay.fmt.Given as goal

abbrev pub invariant-loop-place : goal.invariant-loop-place
invariant-loop-place g l =
    Continues g.W.Write.write_str_gives l.fn.f
    (printed (lines_form 0 (map item_of l.fn.self.0.now.items.items))) l.f
    (printed (lines_form l.place (map item_of (drop l.place l.item-items))))
