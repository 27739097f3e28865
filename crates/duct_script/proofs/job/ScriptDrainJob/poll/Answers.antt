use Rattle.std.proofs.Common.{rules}
use Rattle.duct_script.proofs.Said.{says_again}
use Rattle.duct_script.proofs.job.ScriptDrainJob.poll.Goals as goal

pub returns-then-not-is_running : goal.returns-then-not-is_running
returns-then-not-is_running c = record {
  told = tt;
  again = rw c.unwrap_or.ensures (says_again _ _ _ c.args.self.now.same_word c.said_again.ensures.same c.said_again.ensures.refused);
  after_is = search rules;
}
