-- The lines that were handed on so far, behind those before.
use Rattle.std.proofs.Common.{◌≡◌, IsErr}
use denote.Param.Always.{always_mut}
use Rattle.duct_tasks.specs.Streams.{Handed, ReadsBoth}
use Rattle.duct_tasks.proofs.lines.BothLines.read.Given as goal

abbrev pub invariant-loop : goal.invariant-loop
invariant-loop g l = record {
  can : (goal.iterator-loop g).can_next l.iterator';
  ends : (goal.iterator-loop g).is_finite l.iterator';
  callable : always_mut g.F.FnMut l.each;
  both : ReadsBoth g.R.Read.remaining l.self;
  out : l.self.out.first.value ≡ l.initial.self.out.first.value;
  err : l.self.err.first.value ≡ l.initial.self.err.first.value;
  hands : (f : _) → Handed g.F.FnMut l.initial.self f l.initial.each
      → Handed g.F.FnMut l.self f l.each;
  failed : IsErr l.initial.self.over → IsErr l.self.over;
}
