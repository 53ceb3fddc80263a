-- Hexadecimal digits, one after another.
use Rattle.std.proofs.Common.{◌≡◌, ℕ, suc, ◌+◌, ◌-◌, ◌*◌, ◌/◌, ◌%◌, ◌^◌, ◌<◌, arith, List, [], ◌∷◌, ◌++◌, ap, ◌∙◌, append_assoc}
use Rattle.answer_texts.specs.AnswerLines.{hex_digit, hex_digits}

hex_step : (word k : ℕ) (digit : ℕ) (text : List ℕ) → digit ≡ hex_digit (word / 2 ^ (4 * k) % 16) → (text ++ digit ∷ []) ++ hex_digits k word ≡ text ++ hex_digits (suc k) word
hex_step word k digit text is = append_assoc text (digit ∷ []) (hex_digits k word) ∙ ap (λ d. text ++ d ∷ hex_digits k word) is

-- the next digit, after those so far
pub hex_more : (target text new : List ℕ) (word at digit : ℕ) → at < 8 → text ++ hex_digits (8 - at) word ≡ target → new ≡ text ++ digit ∷ [] → digit ≡ hex_digit (word / 2 ^ (28 - 4 * at) % 16) → new ++ hex_digits (8 - (at + 1)) word ≡ target
hex_more target text new word at digit lt so_far more is =
    let place : 28 - 4 * at ≡ 4 * (8 - (at + 1)) = omega arith in
    let left : suc (8 - (at + 1)) ≡ 8 - at = omega arith in
    ap (λ l. l ++ hex_digits (8 - (at + 1)) word) more
    ∙ hex_step word (8 - (at + 1)) digit text (is ∙ ap (λ n. hex_digit (word / 2 ^ n % 16)) place)
    ∙ ap (λ n. text ++ hex_digits n word) left ∙ so_far
