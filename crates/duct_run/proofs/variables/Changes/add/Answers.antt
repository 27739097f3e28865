-- A change outside of variables that replace all others is not read.
use Rattle.std.proofs.Common.{map, ◌∙◌, sym}
use Rattle.duct_run.proofs.Common.{change_of}
use Rattle.duct_run.proofs.Gathering.{not_read}
use Rattle.duct_run.proofs.variables.Changes.add.Goals as goal

pub returns-then-is_some-clause-adds : goal.returns-then-is_some-clause-adds
returns-then-is_some-clause-adds c = λ outer pairs name.
    not_read (map change_of c.args.self.now.single.items) c.args.self.now.whole (sym c.is_some.ensures ∙ c.if-is_some.true) outer (change_of c.args.change) pairs name
