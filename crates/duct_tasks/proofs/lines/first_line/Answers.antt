use Rattle.std.proofs.Common.{◌≡◌, ◌+◌, ◌==◌, ◌<◌, suc, false, rules, arith, length, take, slice_index_or, subst, ap, ◌∙◌, ℕ}
use Rattle.duct_tasks.specs.Streams.{IsPart}
use Rattle.duct_tasks.proofs.Lining.{found, part_more}
use Rattle.duct_tasks.proofs.lines.first_line.Goals as goal

pub returns-then-bytes-at-eq10-clause-line : goal.returns-then-bytes-at-eq10-clause-line
returns-then-bytes-at-eq10-clause-line c =
    let bytes = c.args.bytes.now in
    let at = c.loop-at.at in
    let there : at < length bytes = search rules in
    let is : slice_index_or bytes at 0 ≡ 10 = search rules in
    let next : at + 1 ≡ suc at = omega arith in
    ap (λ (n : ℕ). take n bytes) next ∙ found bytes at there c.loop-at.invariant is

pub loop-at-preserved : goal.loop-at-preserved
loop-at-preserved c =
    let bytes = c.args.bytes.now in
    let at = c.loop-at.at in
    let there : at < length bytes = search rules in
    let is : (slice_index_or bytes at 0 == 10) ≡ false = search rules in
    let next : suc at ≡ at + 1 = omega arith in
    subst (λ (n : ℕ). IsPart (take n bytes)) next (part_more bytes at there c.loop-at.invariant is)
