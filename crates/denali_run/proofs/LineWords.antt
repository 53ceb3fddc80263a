-- Words that a line may have, and lines of such words.
use Rattle.std.proofs.Common.{ℕ, ◌<◌, ◌^◌, List, [], ◌∷◌, ◌++◌, map, decimal}
use Rattle.std.specs.Prelude.{All}
use Rattle.std.proofs.lemmas.List.Elements.{All-nil, All-cons, All-head, All-tail}
use Rattle.text_core.specs.LineTexts.{Words, CanBeLine}
use Rattle.text_core.specs.Lines.{IsLineWord}

-- ---- lists of words, and of lines

pub data AreWords : Words → Type 0 where
  no_words : AreWords []
  a_word : {word : List ℕ} {words : Words} → IsLineWord word → AreWords words → AreWords (word ∷ words)

each_word : {words : Words} → AreWords words → All IsLineWord words
each_word no_words = All-nil IsLineWord
each_word (a_word {word = w} {words = ws} is more) = All-cons IsLineWord w ws is (each_word more)

pub can_be : {word : List ℕ} {words : Words} → AreWords (word ∷ words) → CanBeLine (word ∷ words)
can_be are = record { some = λ e. cc; each = each_word are }

pub data CanBeLines : List Words → Type 0 where
  no_lines : CanBeLines []
  a_line : {words : Words} {lines : List Words} → CanBeLine words → CanBeLines lines → CanBeLines (words ∷ lines)

pub each_line : {lines : List Words} → CanBeLines lines → All CanBeLine lines
each_line no_lines = All-nil CanBeLine
each_line (a_line {words = ws} {lines = ls} is more) = All-cons CanBeLine ws ls is (each_line more)

pub lines_from : (lines : List Words) → All CanBeLine lines → CanBeLines lines
lines_from [] each = no_lines
lines_from (words ∷ lines) each =
    a_line (All-head CanBeLine words lines each) (lines_from lines (All-tail CanBeLine words lines each))

pub and_lines : {lines : List Words} (others : List Words) → CanBeLines lines → CanBeLines others
    → CanBeLines (lines ++ others)
and_lines others no_lines more = more
and_lines others (a_line is rest) more = a_line is (and_lines others rest more)

-- the lines of items
pub lines_of : {X : Type 0} (f : X → Words) (Fine : X → Type 0) (can : (x : X) → Fine x → CanBeLine (f x)) (xs : List X)
    → All Fine xs → CanBeLines (map f xs)
lines_of f Fine can [] each = no_lines
lines_of f Fine can (x ∷ xs) each =
    a_line (can x (All-head Fine x xs each)) (lines_of f Fine can xs (All-tail Fine x xs each))

abbrev pub NumbersAreWords : Type 0
NumbersAreWords = (n : ℕ) → n < 2 ^ 64 → IsLineWord (decimal n)
