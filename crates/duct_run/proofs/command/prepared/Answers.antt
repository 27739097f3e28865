-- What is asked for before a command, or what makes that fail.
use Rattle.duct_run.proofs.Common.{arc_value, err_from_is_err_and, pair_text, scope_in, ports_view, scopes_view, changes_of, program_text, variable}
use Rattle.std.proofs.Common.{ap, ◌∙◌, map, string_bytes}
use Rattle.duct_run.proofs.Commanding.{name_refused, spec_refused, unasked_refused}
use Rattle.duct_run.proofs.Setting.{changes_found, folder_found, hooks_found}
use Rattle.duct_run.proofs.Pushed.{still}
use Rattle.duct_run.proofs.command.prepared.Goals as goal

pub returns-in_err-reservation-clause-err : goal.returns-in_err-reservation-clause-err
returns-in_err-reservation-clause-err g c =
    let p = err_from_is_err_and c.from_residual.result c.from_residual.ensures.1 in
    let num = g.S.End.Numbered.number_of in
    let allows = g.H.Hook.allows in
    let pairs = map pair_text c.args.pairs.now.items in
    let scope = scope_in (scopes_view c.args.scopes.now) c.args.scope in
    let texts = map string_bytes (arc_value c.args.words.now).items in
    let ports = ports_view c.args.ports in
    let start = g.S.System.journal_view c.args.sys.now in
    rw (p.1, p.2) (λ held. unasked_refused allows num scope texts g.H.Hook.refuses pairs ports start held start _ (still start) tt)

pub returns-in_err-folder-clause-err : goal.returns-in_err-folder-clause-err
returns-in_err-folder-clause-err g c =
    let p = err_from_is_err_and c.from_residual-in_err-folder.result c.from_residual-in_err-folder.ensures.1 in
    let num = g.S.End.Numbered.number_of in
    let allows = g.H.Hook.allows in
    let pairs = map pair_text c.args.pairs.now.items in
    let scope = scope_in (scopes_view c.args.scopes.now) c.args.scope in
    let texts = map string_bytes (arc_value c.args.words.now).items in
    let ports = ports_view c.args.ports in
    let start = g.S.System.journal_view c.args.sys.now in
    rw (p.1, p.2, c.in_err-folder.ensures.memory) (λ held. unasked_refused allows num scope texts g.H.Hook.refuses pairs ports start held start _ (still start) tt)

pub returns-in_err-program-clause-err : goal.returns-in_err-program-clause-err
returns-in_err-program-clause-err g c =
    let p = err_from_is_err_and c.from_residual-in_err-program.result c.from_residual-in_err-program.ensures.1 in
    let num = g.S.End.Numbered.number_of in
    let allows = g.H.Hook.allows in
    let pairs = map pair_text c.args.pairs.now.items in
    let scope = scope_in (scopes_view c.args.scopes.now) c.args.scope in
    let texts = map string_bytes (arc_value c.args.words.now).items in
    let ports = ports_view c.args.ports in
    let start = g.S.System.journal_view c.args.sys.now in
    let e = c.in_err-program.ensures.err scope (folder_found c.in_ok-folder.field-0 scope c.in_ok-folder.ensures.sets) in
    rw (p.1, p.2, e.error_is) (λ held. name_refused allows num scope texts g.H.Hook.refuses pairs ports start held (g.S.System.journal_view c.canonical.new.sys) e.fault e.asked e.refused)

pub returns-in_err-spec-clause-err : goal.returns-in_err-spec-clause-err
returns-in_err-spec-clause-err g c =
    let p = err_from_is_err_and c.from_residual-in_err-spec.result c.from_residual-in_err-spec.ensures.1 in
    let num = g.S.End.Numbered.number_of in
    let allows = g.H.Hook.allows in
    let pairs = map pair_text c.args.pairs.now.items in
    let scope = scope_in (scopes_view c.args.scopes.now) c.args.scope in
    let texts = map string_bytes (arc_value c.args.words.now).items in
    let ports = ports_view c.args.ports in
    let start = g.S.System.journal_view c.args.sys.now in
    let names = c.in_ok-program.ensures.ok scope (folder_found c.in_ok-folder.field-0 scope c.in_ok-folder.ensures.sets) in
    rw (p.1, p.2, c.in_err-spec.ensures.memory) (λ held. spec_refused allows num scope texts g.H.Hook.refuses pairs ports start held (g.S.System.journal_view c.canonical.new.sys) (program_text c.in_ok-program.program texts) names _ tt)

pub returns-clause-ok : goal.returns-clause-ok
returns-clause-ok g c =
    let scope = scope_in (scopes_view c.args.scopes.now) c.args.scope in
    let texts = map string_bytes (arc_value c.args.words.now).items in
    let settings = c.in_ok-folder.field-0 in
    let sets = c.in_ok-folder.ensures.sets in
    let folder = folder_found settings scope sets in
    let asked = c.in_ok-spec.ensures.asked in
    record {
      program = program_text c.in_ok-program.program texts;
      names = c.in_ok-program.ensures.ok scope folder;
      made = record {
        words_are = asked.words_are;
        folder_is = asked.folder_is ∙ folder;
        vars_are = λ name. asked.vars_are name
            ∙ ap (λ l. variable (map pair_text l) (changes_of settings.changes) name) c.deref.ensures.value
            ∙ changes_found settings scope sets (map pair_text c.args.pairs.now.items) name;
        vars_ordered = asked.vars_ordered;
        ports_are = asked.ports_are;
      };
    }

pub returns-clause-hooks : goal.returns-clause-hooks
returns-clause-hooks g c =
    hooks_found c.in_ok-folder.field-0 (scope_in (scopes_view c.args.scopes.now) c.args.scope) c.in_ok-folder.ensures.sets
