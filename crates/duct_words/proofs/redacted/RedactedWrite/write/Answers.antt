use Rattle.std.proofs.Common.{rules, ◌≡◌, ◌++◌, map, subst}
use Rattle.duct_base.specs.Transfer.{AppendsFront}
use Rattle.duct_words.proofs.Hiding.{passes-front}
use Rattle.duct_words.proofs.redacted.RedactedWrite.write.Goals as goal

pub returns-in_err-write_front-clause-front : goal.returns-in_err-write_front-clause-front
returns-in_err-write_front-clause-front g c others =
    let held = c.args.self.now.held.items in
    let all : c.as_slice-2.result.now ≡ held ++ c.args.buf.now = search rules in
    passes-front (map g.T.AsStr.text c.args.self.now.secrets.now) held c.args.buf.now _ _ _ _ others _ _
    c.new-shown.ensures.items all (c.in_ok-rest.ensures.hides others (λ end. absurd (cc)))
    (subst (AppendsFront _ _) c.as_slice-3.ensures.value c.write_front.ensures.front)

pub returns-clause-front : goal.returns-clause-front
returns-clause-front g c others =
    let held = c.args.self.now.held.items in
    let all : c.as_slice-2.result.now ≡ held ++ c.args.buf.now = search rules in
    passes-front (map g.T.AsStr.text c.args.self.now.secrets.now) held c.args.buf.now _ _ _ _ others _ _
    c.new-shown.ensures.items all (c.in_ok-rest.ensures.hides others (λ end. absurd (cc)))
    (subst (AppendsFront _ _) c.as_slice-3.ensures.value c.write_front.ensures.front)
