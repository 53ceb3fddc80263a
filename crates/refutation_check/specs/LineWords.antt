-- Which words of a text are a line of a refutation: `ID LITERALS 0 HINTS 0` in decimal without needless zeros, each
-- number below 2 ^ 31: this project.
use Rattle.std.specs.Prelude.{◌≡◌, ℕ, ◌+◌, ◌^◌, ◌<◌, ◌≤◌, ◌⊎◌, List, [], ◌∷◌, ◌++◌, map, drop, length, codes, decimal, if◌then◌else◌, ⊤}
use Rattle.std.specs.List.{All, slice_index_or}
use Rattle.cnf_core.specs.declared.literal.Lit.{Lit}
use Rattle.cnf_core.specs.declared.line.Line.{Line}
use Rattle.text_core.specs.declared.faults.TextFault.{TextFault}
use Rattle.text_core.specs.declared.faults.TextFault.TheVariants.{Fault, Memory}
use Rattle.text_core.specs.declared.faults.Kind.TheVariants.{BadLine}
use Rattle.text_core.specs.Lines.{BeginsAt, line_at}
use Rattle.text_core.specs.Lines.{Line as TextLine}

-- the number of the variable, with a minus before a negated one
abbrev pub literal_word : Lit → List ℕ
literal_word l = if l.positive then decimal l.var else codes "-" ++ decimal l.var

abbrev pub line_words : Line → List (List ℕ)
line_words line =
    decimal line.id ∷ (map literal_word line.lits ++ codes "0" ∷ (map decimal line.hints ++ codes "0" ∷ []))

-- a number that a word may have, and one that isn't 0
abbrev pub IsSmall : ℕ → Type 0
IsSmall n = n < 2 ^ 31

abbrev pub IsId : ℕ → Type 0
IsId n = (1 ≤ n) × (n < 2 ^ 31)

abbrev pub IsIdLiteral : Lit → Type 0
IsIdLiteral l = IsId l.var

-- the line can be read back
pub record IsReadableLine (line : Line) : Type 0 where
  pub id : IsSmall line.id
  pub lits : All IsIdLiteral line.lits
  pub hints : All IsId line.hints

-- the words are this line
pub record IsLineOf (row : List (List ℕ)) (line : Line) : Type 0 where
  pub words : row ≡ line_words line
  pub readable : IsReadableLine line

-- so many lines of the text from one on are these
pub record AreLinesAt (text : List TextLine) (from count : ℕ) (lines : List Line) : Type 0 where
  pub size : length lines ≡ count
  pub each : (k : ℕ) (d : Line) → k < count → (from + k < length text)
      × IsLineOf (line_at text (from + k)).words (slice_index_or lines k d)

-- the first of so many lines of the text from one on that isn't a line of a refutation, or is missing
pub record IsFirstBadLine (text : List TextLine) (from count at : ℕ) : Type 0 where
  pub among : at < count
  pub before : (k : ℕ) → k < at → (line : Line) × IsLineOf (line_at text (from + k)).words line
  pub bad : (from + at ≡ length text)
      ⊎ ((from + at < length text) × ((line : Line) → IsLineOf (line_at text (from + at)).words line → ⊥))

-- a fault of kind BadLine where the line begins
abbrev pub IsBadLineAt : List TextLine → ℕ → TextFault → Type 0
IsBadLineAt text line (Fault fault) = (fault.kind ≡ BadLine) × BeginsAt text line fault.place
IsBadLineAt text line Memory = ⊥

-- a fault names the first bad line
abbrev pub IsReadFault : List TextLine → ℕ → ℕ → TextFault → Type 0
IsReadFault text from count (Fault fault) =
    (at : ℕ) × IsFirstBadLine text from count at × IsBadLineAt text (from + at) (Fault fault)
IsReadFault text from count Memory = ⊤

-- the words from a place on are these items and a zero
pub record IsRun {X : Type 0} (word_of : X → List ℕ) (IsFine : X → Type 0) (row : List (List ℕ)) (from : ℕ)
    (items : List X) (after : ℕ) : Type 0 where
  pub fine : All IsFine items
  pub words : drop from row ≡ map word_of items ++ codes "0" ∷ drop after row
  pub within : after ≤ length row

-- the words from a place on are no items and a zero
abbrev pub IsNoRun : {X : Type 0} → (X → List ℕ) → (X → Type 0) → List (List ℕ) → ℕ → Type 0
IsNoRun {X} word_of IsFine row from =
    (items : List X) (rest : List (List ℕ)) → All IsFine items → drop from row ≡ map word_of items ++ codes "0" ∷ rest
    → ⊥
