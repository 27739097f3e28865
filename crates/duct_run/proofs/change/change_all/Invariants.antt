-- The hooks that have run and the remaining ones are all hooks.
use Rattle.std.proofs.Common.{◌≡◌, ◌≤◌, ◌+◌, ◌++◌, List, vec_len}
use Rattle.duct_run.proofs.Common.{HooksSucceed, hooks_of, many_ends, streams_view}
use Rattle.duct_run.proofs.change.change_all.Given as goal

abbrev pub invariant-loop-hook : goal.invariant-loop-hook
invariant-loop-hook g l =
    let num = g.S.End.Numbered.number_of in
    let journal = g.S.System.journal_view in record {
      ran : (some : List (g.row.H.Denot × List g.row.S-End.Denot)) × (some ++ hooks_of l.hooks.items ≡ hooks_of l.fn.hooks.items)
          × HooksSucceed g.H.Hook.allows num some (journal l.fn.sys) (journal l.sys) l.fn.spec l.spec (streams_view num l.fn.streams) (streams_view num l.streams);
      room : many_ends l.streams + (journal l.fn.sys).room ≤ (journal l.sys).room + many_ends l.fn.streams;
    }

abbrev pub decreases-loop-hook : goal.decreases-loop-hook
decreases-loop-hook g l = vec_len l.hooks
