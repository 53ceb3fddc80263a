-- What reading to the end takes from a source.
-- Source: this project; `Consumes` is std's.
use Rattle.std.specs.Prelude.{◌≡◌, ℕ, ◌+◌, ◌≤◌, List, length, take, drop, None, Some}
use Rattle.std.specs.declared.option.Option.{Option}
use Rattle.std.specs.Io.KnownBytes.{Consumes}
use Rattle.outside_io.specs.Causes.{IsCounted}
use Rattle.outside_io.specs.declared.reading.ReadAllFault.{ReadAllFault}
use Rattle.outside_io.specs.declared.reading.ReadAllFault.TheVariants.{SourceFault, TooLong, Memory}

-- The bytes are all that the source had left, or its first limit + 1 where it had more, and the rest is left.
abbrev pub IsRead : ℕ → Option (List ℕ) → Option (List ℕ) → List ℕ → Type 0
IsRead limit None new bytes = length bytes ≤ limit + 1
IsRead limit (Some left) None bytes = ⊥
IsRead limit (Some left) (Some left') bytes = (bytes ≡ take (limit + 1) left) × (left' ≡ drop (limit + 1) left)

-- All that the source had left was read, and it is within the limit.
pub record ReadsWhole (limit : ℕ) (old new : Option (List ℕ)) (bytes : List ℕ) : Type 0 where
  pub read : IsRead limit old new bytes
  pub within : length bytes ≤ limit

-- The source had more than the limit, and its first limit + 1 bytes were taken.
pub record ReadsPast (limit : ℕ) (old new : Option (List ℕ)) (bytes : List ℕ) : Type 0 where
  pub read : IsRead limit old new bytes
  pub past : length bytes ≡ limit + 1

-- Some front of what the source had left was taken, of at most limit + 1 bytes.
pub record TakesFront (limit : ℕ) (old new : Option (List ℕ)) (bytes : List ℕ) : Type 0 where
  pub taken : Consumes old new bytes
  pub within : length bytes ≤ limit + 1

-- At most a byte more than the limit was taken.
abbrev pub TakesWithin : ℕ → Option (List ℕ) → Option (List ℕ) → Type 0
TakesWithin limit old new = (bytes : List ℕ) × TakesFront limit old new bytes

-- What each refusal took.
abbrev pub TakesUpTo : ℕ → Option (List ℕ) → Option (List ℕ) → ReadAllFault → Type 0
TakesUpTo limit old new SourceFault = TakesWithin limit old new
TakesUpTo limit old new TooLong = (bytes : List ℕ) × ReadsPast limit old new bytes
TakesUpTo limit old new Memory = TakesWithin limit old new

-- A fault of the source is answered exactly where its count went up.
abbrev pub HasReadCause : ℕ → ℕ → ReadAllFault → Type 0
HasReadCause before now SourceFault = IsCounted before now
HasReadCause before now TooLong = now ≡ before
HasReadCause before now Memory = now ≡ before
