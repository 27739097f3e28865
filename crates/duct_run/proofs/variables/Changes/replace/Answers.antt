-- Of variables that replace all others the first count.
use Rattle.std.proofs.Common.{map, ap, ◌∙◌, ◌++◌}
use Rattle.duct_run.proofs.Common.{variable, change_of, whole_of}
use Rattle.duct_run.proofs.Gathering.{first_kept}
use Rattle.duct_run.proofs.variables.Changes.replace.Goals as goal

pub returns : goal.returns
returns c = λ outer pairs name.
    let single = map change_of c.args.self.now.single.items in
    ap (λ o. variable pairs ((single ++ whole_of o) ++ outer) name) c.or-self.ensures
    ∙ first_kept single c.args.self.now.whole c.args.vars outer pairs name
