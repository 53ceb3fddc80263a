-- What is printed as lines is lines of the same words, and each text of lines is what its words print.
use Rattle.std.proofs.Common.{◌≡◌, ◌≢◌, ℕ, ◌+◌, ◌<◌, ◌^◌, ◌&&◌, Bool, true, false, List, [], ◌∷◌, ◌++◌, All, length, refl, sym, ap, ap₂, ◌∙◌, arith, decimal}
use Rattle.std.specs.List.{list_all}
use Rattle.std.specs.Str.Parse.{AllDigits}
use Rattle.std.proofs.lemmas.Str.Parse.{digit_from_value}
use Rattle.std.proofs.lemmas.Bool.Decides.{nat_tests}
use Rattle.std.proofs.lemmas.Fmt.{decimal_is_IsNumeral}
use Rattle.std.proofs.lemmas.List.Concat.{flat_map-cons}
use Rattle.std.proofs.lemmas.List.Elements.{All-nil, All-cons, All-head, All-tail}
use Rattle.text_core.specs.Names.{IsName}
use Rattle.text_core.specs.Pieces.{is_word_byte}
use Rattle.text_core.specs.Lines.{Line, IsLineWord, IsLine, AreLines, is_printed}
use Rattle.text_core.specs.Lines.IsLine.{last, word}
use Rattle.text_core.specs.Lines.AreLines.{none, line}
use Rattle.text_core.specs.LineTexts.{Words, CanBeLine, placed_lines, words_of_lines, line_text, lines_text}

one_line : (w : List ℕ) (ws : Words) → IsLineWord w → All IsLineWord ws → IsLine (w ∷ ws) (line_text (w ∷ ws))
one_line w [] first rest = last first refl
one_line w (v ∷ vs) first rest =
    word (line_text (v ∷ vs)) first (one_line v vs (All-head IsLineWord v vs rest) (All-tail IsLineWord v vs rest)) refl

line_of : (ws : Words) → CanBeLine ws → IsLine ws (line_text ws)
line_of [] p = absurd (p.some refl)
line_of (w ∷ ws) p = one_line w ws (All-head IsLineWord w ws p.each) (All-tail IsLineWord w ws p.each)

pub lines_of : (place : ℕ) (lines : List Words) → All CanBeLine lines → AreLines place (placed_lines place lines) (lines_text lines)
lines_of place [] p = none
lines_of place (ws ∷ lines) p =
    line (line_text ws) (lines_text lines) (line_of ws (All-head CanBeLine ws lines p))
    (lines_of (place + length (line_text ws)) lines (All-tail CanBeLine ws lines p)) (flat_map-cons line_text ws lines)

-- the bytes of a line are those that its words print
text_of_line : {ws : Words} {text : List ℕ} → IsLine ws text → text ≡ line_text ws
text_of_line (last is same) = same
text_of_line (word {word = w} {words = []} rest is more same) = elim more [ ]
text_of_line (word {word = w} {words = v ∷ vs} rest is more same) = same ∙ ap (λ xs. w ++ 32 ∷ xs) (text_of_line more)

can_be : {ws : Words} {text : List ℕ} → IsLine ws text → CanBeLine ws
can_be (last {word = w} is same) = record { some = λ e. cc; each = All-cons IsLineWord w [] is (All-nil IsLineWord) }
can_be (word {word = w} {words = ws} rest is more same) =
    record { some = λ e. cc; each = All-cons IsLineWord w ws is (can_be more).each }

pub text_of_lines : {place : ℕ} {lines : List Line} {text : List ℕ} → AreLines place lines text → text ≡ lines_text (words_of_lines lines)
text_of_lines none = refl
text_of_lines (line {words = ws} {lines = ls} front rest is more same) =
    same ∙ (ap₂ (λ xs ys. xs ++ ys) (text_of_line is) (text_of_lines more) ∙ sym (flat_map-cons line_text ws (words_of_lines ls)))

pub lines_placed : {place : ℕ} {lines : List Line} {text : List ℕ} → AreLines place lines text → lines ≡ placed_lines place (words_of_lines lines)
lines_placed none = refl
lines_placed {place} (line {words = ws} {lines = ls} front rest is more same) =
    ap (λ (others : List Line). (record { place = place; words = ws }) ∷ others)
    (lines_placed more ∙ ap (λ xs. placed_lines (place + length xs) (words_of_lines ls)) (text_of_line is))

pub lines_can_be : {place : ℕ} {lines : List Line} {text : List ℕ} → AreLines place lines text → All CanBeLine (words_of_lines lines)
lines_can_be none = All-nil CanBeLine
lines_can_be (line {words = ws} {lines = ls} front rest is more same) =
    All-cons CanBeLine ws (words_of_lines ls) (can_be is) (lines_can_be more)

digits_printed : (ds : List ℕ) → AllDigits 10 ds → list_all is_printed ds ≡ true
digits_printed [] h = refl
digits_printed (c ∷ cs) h =
    let range = digit_from_value c h.0 in
    let first : is_printed c ≡ true = grind (arith, nat_tests) in
    ap (λ (b : Bool). b && list_all is_printed cs) first ∙ digits_printed cs h.1

pub number_word : (n : ℕ) → n < 2 ^ 64 → IsLineWord (decimal n)
number_word n small =
    let digits = (decimal_is_IsNumeral n small).0 in
    let some = digits.0 in
    record {
      some = λ e. (let size : length (decimal n) ≡ 0 = ap length e in absurd (omega arith));
      printed = digits_printed (decimal n) digits.1;
    }

both : (a b : Bool) → a && b ≡ true → (a ≡ true) × (b ≡ true)
both true b h = (refl, h)
both false b h = cc

name_printed : (bytes : List ℕ) → list_all is_word_byte bytes ≡ true → list_all is_printed bytes ≡ true
name_printed [] h = refl
name_printed (c ∷ cs) h =
    let parts = both (is_word_byte c) _ h in
    let one = parts.0 in
    let first : is_printed c ≡ true = grind (arith, nat_tests, one) in
    ap (λ (b : Bool). b && list_all is_printed cs) first ∙ name_printed cs parts.1

name_some : (bytes : List ℕ) → IsName bytes → bytes ≢ []
name_some [] h = λ e. (let begins = h.begins in cc)
name_some (b ∷ bs) h = λ e. cc

pub name_word : (bytes : List ℕ) → IsName bytes → IsLineWord bytes
name_word bytes h = record { some = name_some bytes h; printed = name_printed bytes h.each }
