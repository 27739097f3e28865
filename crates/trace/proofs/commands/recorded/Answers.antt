-- What was recorded is in the file that was opened at the path that the arguments ask for.
use Rattle.std.proofs.Common.{◌∙◌, ℕ, List, Some, ap, arith, map, string_bytes, sym}
use Rattle.trace.proofs.commands.recorded.Goals as goal

pub returns-in-Ok-clause-file : goal.returns-in-Ok-clause-file
returns-in-Ok-clause-file g c small =
    let done = c.record.ensures.journal (omega (arith, small)) in (
      c.in-Ok.opened,
      done.0,
      c.record.new.journal,
      c.in-Ok.ensures.mode,
      done.1,
      done.2,
      (
        c.in-Some.values,
        map (λ word. string_bytes word) c.in-Some.words.now,
        c.in-Some.ensures
            ∙ ap (λ (path : List ℕ). Some (c.in-Some.values, path, map (λ word. string_bytes word) c.in-Some.words.now))
            (sym c.in-Ok.ensures.path),
        done.3,
      ),
    )
