-- Sources and sinks in memory: what they hold, how much they move in a call, and which calls fail.
-- Source: this project.
use Rattle.std.specs.Prelude.{ℕ, ◌-◌, min, List, length}

-- bytes still to come, at most `step` of them in a call
pub record SourceBytes : Type 0 where
  pub left : List ℕ
  pub step : ℕ

-- bytes held, of at most `room`, at most `step` more in a call
pub record SinkBytes : Type 0 where
  pub held : List ℕ
  pub room : ℕ
  pub step : ℕ
  pub faults : ℕ

-- a source of which the calls whose numbers, from 1, are in `fails` fail; `calls` of them were made
pub record FailingSourceBytes : Type 0 where
  pub inner : SourceBytes
  pub fails : List ℕ
  pub calls : ℕ
  pub faults : ℕ

-- a sink of which the calls whose numbers, from 1, are in `fails` fail as well; `calls` of them were made
pub record FailingSinkBytes : Type 0 where
  pub inner : SinkBytes
  pub fails : List ℕ
  pub calls : ℕ
  pub faults : ℕ

-- how many bytes a read with this much room gives
abbrev pub given_count : SourceBytes → ℕ → ℕ
given_count source room = min (min source.step room) (length source.left)

-- how many of n bytes a write takes
abbrev pub written_count : SinkBytes → ℕ → ℕ
written_count sink n = min (min sink.step n) (sink.room - length sink.held)
