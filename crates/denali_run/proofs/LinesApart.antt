-- A text of printed lines is that of one list of lines.
use Rattle.std.proofs.Common.{◌≡◌, ℕ, ◌+◌, List, [], ◌∷◌, length, refl, sym, ap, subst, ◌∙◌}
use Rattle.std.specs.Prelude.{All}
use Rattle.text_core.specs.LineTexts.{Words, CanBeLine, line_text, lines_text, placed_lines, words_of_lines}
use Rattle.text_core.specs.Lines.{Line, AreLines, HasLines}

pub words_placed : (place : ℕ) (lines : List Words) → words_of_lines (placed_lines place lines) ≡ lines
words_placed place [] = refl
words_placed place (words ∷ lines) = ap (λ ls. words ∷ ls) (words_placed (place + length (line_text words)) lines)

abbrev pub PrintedAreLines : Type 0
PrintedAreLines = (place : ℕ) (lines : List Words) → All CanBeLine lines
    → AreLines place (placed_lines place lines) (lines_text lines)

abbrev pub LinesAreOne : Type 0
LinesAreOne = (text : List ℕ) (lines others : List Line) → HasLines text lines → HasLines text others → lines ≡ others

pub lines_once : PrintedAreLines → LinesAreOne → (lines others : List Words) → All CanBeLine lines → All CanBeLine others
    → lines_text lines ≡ lines_text others → lines ≡ others
lines_once printed one lines others a b e =
    sym (words_placed 0 lines)
    ∙ ap words_of_lines
    (one (lines_text lines) (placed_lines 0 lines) (placed_lines 0 others) (printed 0 lines a)
    (subst (λ t. HasLines t (placed_lines 0 others)) (sym e) (printed 0 others b)))
    ∙ words_placed 0 others
