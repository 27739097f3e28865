-- What was read so far, followed by what is read of the other lines.
use Rattle.std.proofs.Common.{◌++◌, Ok, Err, Result}
use Rattle.duct_replay.specs.Lines.{RecordedView}
use Rattle.duct_replay.specs.declared.error.LineRefusal.{LineRefusal}

abbrev pub joined : RecordedView → RecordedView → RecordedView
joined done more = record {
  entries = done.entries ++ more.entries;
  endings = done.endings ++ more.endings;
  outputs = done.outputs ++ more.outputs;
}

abbrev pub in_front : RecordedView → Result RecordedView LineRefusal
    → Result RecordedView LineRefusal
in_front done (Ok more) = Ok (joined done more)
in_front done (Err refusal) = Err refusal
