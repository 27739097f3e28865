-- What was added has no end of a line, or its whole lines were handed on.
use Rattle.std.proofs.Common.{◌∙◌, Ok, List, ℕ, ap, subst, take, drop}
use Rattle.std.proofs.lemmas.List.{take_rest}
use Rattle.duct_tasks.specs.Streams.{Hands, HandsWhole, IsPart}
use Rattle.duct_tasks.proofs.Lining.{turn_quiet, turn_told}
use Rattle.duct_tasks.proofs.lines.Lines.turn.Goals as goal

pub returns-in-Ok-false-clause-ok : goal.returns-in-Ok-false-clause-ok
returns-in-Ok-false-clause-ok g c =
    let took = c.take.ensures.grows in
    turn_quiet (Hands g.F.FnMut (Ok tt)) c.args.side c.args.each.now c.args.self.now.bytes.items c.take.new.self.bytes.items
    c.args.self.now.told c.take.new.self.told took.0 c.requires.lines.fits took.1 c.take.ensures.told
    (took.2 (c.in-Ok-false.is ∙ ap (λ b. Ok b) c.in-Ok-false.field-0-test))

pub returns-in-Ok-clause-ok : goal.returns-in-Ok-clause-ok
returns-in-Ok-clause-ok g c =
    let took = c.take.ensures.grows in
    let bytes = c.take.new.self.bytes.items in
    let told = c.take.new.self.told in
    let slice = take_rest c.deref.result.now told ∙ ap (λ (l : List ℕ). drop told l) c.deref.ensures.value in
    turn_told (Hands g.F.FnMut (Ok tt)) c.args.side c.args.each.now c.hand_on.new.each c.args.self.now.bytes.items bytes
    c.args.self.now.told told c.in-Ok.told took.0 c.requires.lines.fits took.1 c.take.ensures.told
    (subst (λ (l : List ℕ). HandsWhole (Hands g.F.FnMut (Ok tt)) c.args.side c.args.each.now (take c.in-Ok.told l) c.hand_on.new.each)
    slice c.in-Ok.ensures.ok)
    (subst (λ (l : List ℕ). IsPart (drop c.in-Ok.told l)) slice c.in-Ok.ensures.rest)
