use Rattle.std.proofs.Common.{◌∙◌, [], ap, map, refl, subst}
use Rattle.std.specs.Io.KnownBytes.{Appends}
use Rattle.duct_base.specs.Transfer.{AppendsFront}
use Rattle.duct_words.specs.Hidden.{hidden}
use Rattle.duct_words.proofs.Hiding.{hidden-all}
use Rattle.duct_words.proofs.redacted.Redacted.finish.Goals as goal

pub returns-clause-ok : goal.returns-clause-ok
returns-clause-ok g c =
    let secrets = map g.T.AsStr.text c.args.self.now.secrets.now in
    let all = hidden-all secrets _ _ _ _ c.new-all.ensures.items (c.in_ok-push_hidden.ensures.end refl) (c.in_ok-push_hidden.ensures.hides [] (λ _. refl)) in
    subst (Appends _ _) (c.as_slice-2.ensures.value ∙ all ∙ ap (hidden secrets) c.as_slice.ensures.value)
    c.in_ok-write_front.ensures.ok

pub returns-clause-front : goal.returns-clause-front
returns-clause-front g c =
    let secrets = map g.T.AsStr.text c.args.self.now.secrets.now in
    let all = hidden-all secrets _ _ _ _ c.new-all.ensures.items (c.in_ok-push_hidden.ensures.end refl) (c.in_ok-push_hidden.ensures.hides [] (λ _. refl)) in
    subst (AppendsFront _ _) (c.as_slice-2.ensures.value ∙ all ∙ ap (hidden secrets) c.as_slice.ensures.value)
    c.write_front.ensures.front

pub returns-in_err-write_front-clause-front : goal.returns-in_err-write_front-clause-front
returns-in_err-write_front-clause-front g c =
    let secrets = map g.T.AsStr.text c.args.self.now.secrets.now in
    let all = hidden-all secrets _ _ _ _ c.new-all.ensures.items (c.in_ok-push_hidden.ensures.end refl) (c.in_ok-push_hidden.ensures.hides [] (λ _. refl)) in
    subst (AppendsFront _ _) (c.as_slice-2.ensures.value ∙ all ∙ ap (hidden secrets) c.as_slice.ensures.value)
    c.write_front.ensures.front
