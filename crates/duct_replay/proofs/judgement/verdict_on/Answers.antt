use Rattle.std.proofs.Common.{◌≡◌, ◌∙◌, sym, true, take, arith}
use Rattle.std.proofs.lemmas.Grind.{common_steps}
use Rattle.std.specs.List.{list_any}
use Rattle.duct_system.specs.EntryView.{entry_view}
use Rattle.duct_replay.specs.Judged.{lacks_memory, stops_without_memory}
use Rattle.duct_replay.proofs.Judging.{had_memory}
use Rattle.duct_replay.proofs.judgement.verdict_on.Goals as goal
use Rattle.duct_replay.proofs.judgement.verdict_on.Goals.{else-stops_without_memory-via-then-stops_without_memory+else-not-any, else-stops_without_memory-via-else-stops_without_memory}

pub returns-clause-memory : goal.returns-clause-memory
returns-clause-memory c =
    let place = c.in_ok-place.place in
    let known : stops_without_memory c.args.error.now ≡ true
    → list_any (λ entry. lacks_memory (entry_view entry)) (take place c.args.made.now) ≡ true =
    elim c.else-stops_without_memory.branch [
      | else-stops_without_memory-via-then-stops_without_memory+else-not-any w ↦
          λ stops. (let found : w.any.result ≡ list_any (λ entry. lacks_memory (entry_view entry)) (take place c.args.made.now) = grind (arith, common_steps) in sym found ∙ w.if-not-any.false)
      | else-stops_without_memory-via-else-stops_without_memory w ↦
          λ stops. cc (c.stops_without_memory.ensures, w.if-stops_without_memory.false)
    ] in
    had_memory _ place c.args.recorded.now c.args.made.now c.args.error.now _ _ c.verdict_at.ensures.place known
    c.entry_at.ensures c.entry_at-2.ensures (λ lost. cc (c.in_ok-is_lost_spawn.ensures.1 lost, c.if-branch.false))
