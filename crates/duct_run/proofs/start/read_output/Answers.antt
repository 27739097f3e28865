-- Both ends of stdout's capture pipe are given away, the write end first.
use Rattle.std.proofs.Common.{ap, sym, ◌∙◌}
use Rattle.duct_run.proofs.Common.{pipe_view}
use Rattle.duct_run.proofs.start.read_output.Goals as goal

pub returns-clause-read : goal.returns-clause-read
returns-clause-read g c = record {
  read_end = g.S.End.Numbered.number_of c.in-Some.reader;
  write_end = g.S.End.Numbered.number_of c.in-Some.writer;
  between = g.S.System.journal_view c.close.new.self;
  pipe_is = ap (λ o. pipe_view g.S.End.Numbered.number_of o) (sym c.take.ensures.value ∙ c.in-Some.is);
  closed = c.close.ensures;
  made = c.reader.ensures.added;
  told = c.reader.ensures.told;
}
