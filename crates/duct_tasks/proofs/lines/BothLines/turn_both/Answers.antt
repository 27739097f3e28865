-- The lines that were handed on so far, and at the end the rest of both streams.
use Rattle.std.proofs.Common.{Ok}
use Rattle.duct_tasks.specs.Streams.{Hands}
use Rattle.duct_tasks.proofs.Lining.{both_told, error_told, output_told}
use Rattle.duct_tasks.proofs.lines.BothLines.turn_both.Goals as goal

pub returns-then-self-clause-ok : goal.returns-then-self-clause-ok
returns-then-self-clause-ok g c =
    let step = Hands g.F.FnMut (Ok tt) in
    let self = c.args.self.now in
    let out = c.turn.new.self in
    let err = c.turn-2.new.self in
    λ f was. error_told step f c.turn.new.each c.turn-2.new.each out.bytes.items
    self.err.bytes.items err.bytes.items out.told self.err.told err.told
    (output_told step f c.args.each.now c.turn.new.each self.out.bytes.items out.bytes.items
    self.err.bytes.items self.out.told out.told self.err.told was c.in_ok-turn.ensures.ok)
    c.in_ok-turn-2.ensures.ok

pub returns-clause-ok : goal.returns-clause-ok
returns-clause-ok g c =
    let step = Hands g.F.FnMut (Ok tt) in
    let self = c.args.self.now in
    let out = c.turn.new.self in
    let err = c.turn-2.new.self in
    λ f was. both_told step f c.turn-2.new.each c.hand_on_rest.new.each c.hand_on_rest-2.new.each
    out.bytes.items err.bytes.items out.told err.told
    (error_told step f c.turn.new.each c.turn-2.new.each out.bytes.items
    self.err.bytes.items err.bytes.items out.told self.err.told err.told
    (output_told step f c.args.each.now c.turn.new.each self.out.bytes.items out.bytes.items
    self.err.bytes.items self.out.told out.told self.err.told was c.in_ok-turn.ensures.ok)
    c.in_ok-turn-2.ensures.ok) c.in_ok-hand_on_rest.ensures.ok c.in_ok-hand_on_rest-2.ensures.ok
