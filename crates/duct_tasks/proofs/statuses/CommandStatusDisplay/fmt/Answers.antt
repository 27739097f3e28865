use Rattle.std.proofs.Common.{codes, refl, string_bytes, Ok, Some}
use Rattle.std.proofs.Output.{displays_on_IsOk_append}
use Rattle.std.specs.Arc.{arc_value}
use Rattle.std.specs.Fmt.{DisplaysOnOk, ◌++?◌, debug_list, debug_str}
use Rattle.duct_status.proofs.Shown.{list_of_map}
use Rattle.duct_tasks.specs.Statuses.{ending_text, words_of}
use Rattle.duct_tasks.proofs.statuses.CommandStatusDisplay.fmt.Goals as goal

pub returns-clause-writes : goal.returns-clause-writes
returns-clause-writes g c =
    let took = g.W.Write.write_str_gives in
    let command = c.args.self.now in
    let words = Some (codes "command ") ++? debug_list debug_str (words_of command) in
    let wrote : DisplaysOnOk took c.args.f.now (Ok tt) words c.write.new.self =
    rw (list_of_map debug_str string_bytes (arc_value command.words).items, ← c.deref.ensures, ← c.as_slice.ensures.value) c.in_ok-write.ensures.writes in
    displays_on_IsOk_append took c.args.f.now c.write.new.self c.write_ending.new.f (Ok tt) c.write_ending.result
    words (Some (ending_text command.status)) (λ ok. refl) wrote c.write_ending.ensures
