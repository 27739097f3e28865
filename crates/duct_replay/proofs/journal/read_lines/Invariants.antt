-- What was read so far, followed by what is read of the rest, is what is read of all.
use Rattle.std.proofs.Common.{◌≡◌, ◌≤◌, ◌+◌, ◌-◌, map, string_bytes, length}
use Rattle.duct_replay.specs.Lines.{lines_meant, recorded_view}
use Rattle.duct_replay.proofs.JournalReading.{in_front}
use Rattle.duct_replay.proofs.journal.read_lines.Given as goal

abbrev pub invariant-loop-text : goal.invariant-loop-text
invariant-loop-text l = record {
  within : length l.rest ≤ length l.lines;
  read : in_front (recorded_view l.recording) (lines_meant (length l.lines - length l.rest + 1) (map string_bytes l.rest)) ≡ lines_meant 1 (map string_bytes l.lines);
}

abbrev pub decreases-loop-text : goal.decreases-loop-text
decreases-loop-text l = length l.rest
