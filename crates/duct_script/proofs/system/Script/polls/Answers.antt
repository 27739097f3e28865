-- The script of a child whose orders succeed is added.
use Rattle.std.proofs.Common.{◌∙◌}
use Rattle.duct_script.proofs.system.Script.polls.Goals as goal

pub returns-clause-ok : goal.returns-clause-ok
returns-clause-ok c = let r = c.running-script.ensures in (
  _,
  c.in_ok-child.ensures.ok,
  record {
    polls_are = c.of.ensures ∙ c.in_ok-from_slice.ensures.items;
    kills_are = r.kills_are;
    signals_are = r.signals_are;
    gate_is = r.gate_is;
  },
)
