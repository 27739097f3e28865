-- The three streams of a command, as contracts see them.
use Rattle.std.specs.Prelude.{ℕ, ◌+◌, length}
use Rattle.duct_system.specs.Streams.{end_of, stream_of}
use Rattle.duct_system.specs.declared.system.Stdio.{Stdio}
use Rattle.duct_run.specs.Actions.{PerStream}
use Rattle.duct_run.specs.declared.streams.Streams.{Streams}

-- the three streams, with ends by number
abbrev pub streams_view : {E : Type 0} → (E → ℕ) → Streams E → PerStream (Stdio ℕ)
streams_view number_of streams = record {
  input = stream_of number_of streams.input;
  output = stream_of number_of streams.output;
  error = stream_of number_of streams.error;
}

-- how many ends the three streams have
abbrev pub many_ends : {E : Type 0} → Streams E → ℕ
many_ends streams =
    length (end_of streams.input) + (length (end_of streams.output) + length (end_of streams.error))
