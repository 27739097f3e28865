use Rattle.std.proofs.Common.{◌++◌, ◌∙◌, ap, map, sym}
use Rattle.duct_words.specs.Hidden.{hidden}
use Rattle.duct_words.proofs.Hiding.{shows-byte, shows-secret}
use Rattle.duct_words.proofs.redacted.push_hidden.Goals as goal

pub loop-first-preserved-then-found-eq0 : goal.loop-first-preserved-then-found-eq0
loop-first-preserved-then-found-eq0 g c others none =
    c.loop-first.invariant others none
    ∙ shows-byte _ c.args.at_end c.loop-first.shown.items c.push.new.self.items others none _ _ _
    c.in-Some.ensures.cases.0 (sym c.may_grow.ensures ∙ c.if-may_grow.false)
    (sym c.longest-found.ensures.value ∙ c.if-found-eq0.true) c.in_ok-push.ensures.items

pub loop-first-preserved : goal.loop-first-preserved
loop-first-preserved g c others none =
    c.loop-first.invariant others none
    ∙ shows-secret _ c.args.at_end c.loop-first.shown.items c.extend_from_slice.new.self.items others none _ _ _
    c.in-Some.ensures.cases.0 (sym c.may_grow.ensures ∙ c.if-may_grow.false)
    _ (sym c.longest-found.ensures.value) c.if-found-eq0.false c.in_ok-extend_from_slice.ensures.items
    ∙ ap (λ rest. c.extend_from_slice.new.self.items ++ hidden (map g.T.AsStr.text c.args.secrets.now) (rest ++ others)) (sym c.split_at.ensures.back)
