use Rattle.duct_run.proofs.Common.{arc_value, Canonicalize, Asks, asks_canonical_path}
use Rattle.std.proofs.Common.{◌≡◌, ap, sym, ◌∙◌, subst, map, string_bytes, true, Ok, is_some, Some, None, Bor, refl, option_copied, Option}
use Rattle.duct_base.specs.Executable.{asks_canonical}
use Rattle.duct_run.proofs.Commanding.{names_some}
use Rattle.duct_run.proofs.command.canonical.Goals as goal

some_copied : {A : Type 0} (o : Option (Bor A)) → is_some o ≡ is_some (option_copied o)
some_copied None = refl
some_copied (Some x) = refl

pub returns-clause-ok : goal.returns-clause-ok
returns-clause-ok g c = λ scope folder.
    let texts = map string_bytes (arc_value c.args.words.now).items in
    let some : c.is_some.result ≡ is_some scope.folder = c.is_some.ensures ∙ some_copied c.args.folder ∙ ap (λ o. is_some o) folder in
    let is : asks_canonical_path scope texts ≡ true = sym (λ i. asks_canonical (c.program_of-program.ensures i) (some i)) ∙ sym c.asks_canonical.ensures ∙ c.if-not-asks_canonical.false in
    names_some g.H.Hook.allows g.S.End.Numbered.number_of scope texts _ _ _ is
    (subst (λ p. Asks (Canonicalize p (Ok (string_bytes c.in_ok-canonicalize.field-0))) (g.S.System.journal_view c.args.sys.now) (g.S.System.journal_view c.canonicalize.new.self)) c.program_of-program.ensures c.in_ok-canonicalize.ensures.ok)
