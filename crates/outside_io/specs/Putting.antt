-- What writing appends to a sink.
-- Source: this project; `Appends` is std's.
use Rattle.std.specs.Prelude.{◌≡◌, ℕ, List, ◌++◌}
use Rattle.std.specs.declared.option.Option.{Option}
use Rattle.std.specs.Io.KnownBytes.{Appends}

-- What stands before the rest of the bytes was appended.
pub record AppendsBefore (old new : Option (List ℕ)) (bytes rest : List ℕ) : Type 0 where
  pub front : List ℕ
  pub whole : bytes ≡ front ++ rest
  pub appended : Appends old new front

-- A front of the bytes was appended, maybe none of them, maybe all.
abbrev pub AppendsFront : Option (List ℕ) → Option (List ℕ) → List ℕ → Type 0
AppendsFront old new bytes = (rest : List ℕ) × AppendsBefore old new bytes rest
