use Rattle.std.proofs.Common.{rules, tests, ◌∙◌, false, ap, option_map, sym}
use Rattle.std.proofs.lemmas.Iterator.Adapters.{YieldsList-from_bytes}
use Rattle.std.proofs.lemmas.Iterator.Search.{any_from_yields_List}
use Rattle.std.specs.List.{list_any}
use Rattle.std.specs.Option.{option_map_or}
use Rattle.duct_words.specs.Variables.{is_quote}
use Rattle.duct_words.proofs.environment.has_quoted_name.Goals as goal

pub returns-in-Some : goal.returns-in-Some
returns-in-Some c =
    any_from_yields_List is_quote _ _ _ c.any.ensures.ran
    (YieldsList-from_bytes c.in-Some.name.now c.bytes.ensures.rest)
    (λ x b q k. search (rules, tests))
    ∙ ap (λ parts. option_map_or (λ parts. list_any is_quote parts.0) parts false)
    (sym (ap (option_map (λ parts. (parts.0.now, parts.1.now))) c.in-Some.is) ∙ c.parts_of.ensures)
