use Rattle.std.proofs.Common.{None, IfOk, arith, option_map, ◌≡◌, subst}
use Rattle.std.proofs.lemmas.Str.Pattern.{strip_prefix_char}
use Rattle.duct_system.specs.SpecView.{pair_text}
use Rattle.duct_host.proofs.Entries.{parted_unsigned}
use Rattle.duct_host.proofs.environment.split_entry.Goals as goal

pub returns-in-None : goal.returns-in-None
returns-in-None c =
    let unsigned = strip_prefix_char 61 c.args.entry.now None c.in-None.ensures.cases (omega arith) in
    subst (λ parts. IfOk c.split_behind-in-None.result (λ found. option_map pair_text found ≡ parts))
    (parted_unsigned c.args.entry.now unsigned) c.split_behind-in-None.ensures
