use Rattle.std.proofs.Common.{string_bytes}
use Rattle.duct_system.proofs.Texts.{texts_decide}
use Rattle.duct_status.proofs.status.same.same_words.Goals as goal

pub returns : goal.returns
returns c = texts_decide string_bytes c.args.one.now c.args.other.now c.eq.result c.eq.ensures
