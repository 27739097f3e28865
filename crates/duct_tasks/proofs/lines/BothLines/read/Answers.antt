use Rattle.std.proofs.Common.{◌∙◌, refl}
use Rattle.duct_tasks.proofs.lines.BothLines.read.Goals as goal

pub loop-init : goal.loop-init
loop-init g c = record {
  can = tt;
  ends = tt;
  callable = c.requires.callable;
  both = c.requires.both;
  out = refl;
  err = refl;
  hands = λ f was. was;
  failed = λ e. e;
}

pub loop-preserved : goal.loop-preserved
loop-preserved g c =
    let i = c.loop.invariant in
    record {
      can = tt;
      ends = tt;
      callable = c.turn.ensures.callable;
      both = c.turn.ensures.both;
      out = c.turn.ensures.out ∙ i.out;
      err = c.turn.ensures.err ∙ i.err;
      hands = λ f was. c.turn.ensures.hands f (i.hands f was);
      failed = λ e. c.turn.ensures.failed (i.failed e);
    }
