-- What the tables of rows hold. No public clause rests on these.
use Rattle.std.specs.Prelude.{ℕ, Bool, List, [], Option, None, slice_index_or, ◌==◌, ◌&&◌}
use Rattle.std.specs.Map.{lookup}
use Rattle.word_terms.specs.Signature.{Signature}
use Rattle.egraph.specs.declared.row_index.RowKey.{RowKey}

-- the keys are the same in each part
abbrev pub same_key : RowKey → RowKey → Bool
same_key a b =
    (a.kind == b.kind) && ((a.number == b.number) && ((a.first == b.first)
    && ((a.second == b.second) && ((a.third == b.third) && (a.fourth == b.fourth)))))

-- the place that stands with the key
abbrev pub indexed_place : List (RowKey × ℕ) → RowKey → Option ℕ
indexed_place entries key = lookup (same_key key) entries

-- the list of a class
abbrev pub listed_at : List (List ℕ) → ℕ → List ℕ
listed_at lists class = slice_index_or lists class []

-- the constant of a class
abbrev pub constant_at : List (Option ℕ) → ℕ → Option ℕ
constant_at constants class = slice_index_or constants class None

-- the key of an operator and operands
abbrev pub key_of_row : {O : Type 0} → Signature O → O → List ℕ → RowKey
key_of_row s op operands = record {
  kind = (s.key op).0;
  number = (s.key op).1;
  first = slice_index_or operands 0 0;
  second = slice_index_or operands 1 0;
  third = slice_index_or operands 2 0;
  fourth = slice_index_or operands 3 0;
}
