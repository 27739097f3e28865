use Rattle.std.proofs.Common.{Some, None, arith, option_map, ap, sym, ◌∙◌}
use Rattle.std.proofs.lemmas.Str.Pattern.{split_parts}
use Rattle.duct_host.specs.Entries.{with_front, parts_at_sign}
use Rattle.duct_host.proofs.Entries.{never_parted, parted_first}
use Rattle.duct_host.proofs.environment.split_behind.Goals as goal

pub returns-in_default : goal.returns-in_default
returns-in_default c =
    let lacks = split_parts 61 c.args.text.now None c.in_default.ensures.cases (omega arith) in
    sym (ap (option_map (with_front c.args.front.now)) (never_parted c.args.text.now lacks))

pub returns : goal.returns
returns c =
    let parts = split_parts 61 c.args.text.now (Some (c.in-Some.back, c.in-Some.value)) c.in-Some.ensures.cases (omega arith) in
    let parted = ap parts_at_sign parts.0 ∙ parted_first c.in-Some.back.now c.in-Some.value.now parts.1 in
    grind (arith, ap (option_map (with_front c.args.front.now)) parted, c.push_str.ensures.bytes, c.in_ok-name.ensures.ok, c.in_ok-from_str.ensures.ok)
