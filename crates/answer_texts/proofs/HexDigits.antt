-- The hexadecimal digits of a word, one more at a time, and that no other word has them.
use Rattle.std.proofs.Common.{◌≡◌, ℕ, zero, suc, ◌+◌, ◌*◌, ◌/◌, ◌%◌, ◌^◌, ◌<◌, ◌≤◌, List, [], ◌∷◌, ◌++◌, Bool, true, false, cond, nat_lt, length, take, get_or, refl, sym, ap, ap₂, ◌∙◌, arith, add-one, mod-lt}
use Rattle.std.proofs.Math.Nat.{div-div-eq-div-mul, pow-le-pow_right}
use Rattle.std.proofs.lemmas.Bool.Decides.{nat_tests}
use Rattle.std.proofs.lemmas.List.{take_all, take_more, same_from_push}
use Rattle.std.proofs.lemmas.Nat.{div-mul-add, mod-mul-add, pow-add}
use Rattle.answer_texts.specs.AnswerLines.{hex_digit, hex_digits, hex_text}

hex_length : (k word : ℕ) → length (hex_digits k word) ≡ k
hex_length zero word = refl
hex_length (suc k) word = ap suc (hex_length k word)

sixteens : (k : ℕ) → 16 * 2 ^ (4 * k) ≡ 2 ^ (4 * suc k)
sixteens k = (let e : 4 * suc k ≡ 4 + 4 * k = omega arith in sym (ap (λ n. 2 ^ n) e ∙ pow-add 2 4 (4 * k)))

-- the last digit is that of the lowest four bits
hex_push : (k word : ℕ) → hex_digits (suc k) word ≡ hex_digits k (word / 16) ++ hex_digit (word % 16) ∷ []
hex_push zero word = (let e : word / 1 ≡ word = omega arith in ap (λ n. hex_digit (n % 16) ∷ []) e)
hex_push (suc k) word =
    let same : word / 2 ^ (4 * suc k) ≡ word / 16 / 2 ^ (4 * k) =
    ap (λ n. word / n) (sym (sixteens k)) ∙ sym (div-div-eq-div-mul word 16 (2 ^ (4 * k))) in
    ap₂ (λ n l. hex_digit (n % 16) ∷ l) same (hex_push k word)

hex_next : (k word d : ℕ) → d < 16 → hex_digits k word ++ hex_digit d ∷ [] ≡ hex_digits (k + 1) (word * 16 + d)
hex_next k word d low =
    sym (ap (λ n. hex_digits n (word * 16 + d)) (add-one k) ∙ hex_push k (word * 16 + d)
    ∙ ap₂ (λ n m. hex_digits k n ++ hex_digit m ∷ []) (div-mul-add word 16 d low) (mod-mul-add word 16 d low))

-- ---- a number whose digits are the first bytes

pub record IsFront (bytes : List ℕ) (i word : ℕ) : Type 0 where
  pub digits : take i bytes ≡ hex_digits i word
  pub low : word < 16 ^ i

pub no_digits : (bytes : List ℕ) → IsFront bytes 0 0
no_digits bytes = record { digits = refl; low = omega arith }

pub one_digit : (bytes : List ℕ) (i word byte d next : ℕ) → IsFront bytes i word → i < length bytes → byte ≡ get_or bytes i 0
    → byte ≡ hex_digit d → d < 16 → next ≡ word * 16 + d → IsFront bytes (i + 1) next
one_digit bytes i word byte d next h lt at is low sum =
    let more = pow-add 16 i 1 in
    let before : word < 16 ^ i = h.low in
    record {
      digits = take_more bytes i 0 lt ∙ ap₂ (λ l b. l ++ b ∷ []) h.digits (sym at ∙ is) ∙ hex_next i word d low
          ∙ ap (hex_digits (i + 1)) (sym sum);
      low = omega (arith, more, before);
    }

pub eight_low : (bytes : List ℕ) (i word : ℕ) → IsFront bytes i word → i ≤ 8 → word < 2 ^ 32
eight_low bytes i word h few =
    let more : 16 ^ i ≤ 16 ^ 8 = pow-le-pow_right (omega arith) few in
    let before : word < 16 ^ i = h.low in
    omega (arith, more, before)

pub whole_text : (bytes : List ℕ) (i word : ℕ) → IsFront bytes i word → length bytes ≡ 8 → i ≡ 8 → bytes ≡ hex_text word
unfolding hex_text
whole_text bytes i word h eight all =
    sym (take_all i bytes (omega arith)) ∙ h.digits ∙ ap (λ n. hex_digits n word) all

pub not_eight : (bytes : List ℕ) (word : ℕ) → (length bytes ≡ 8 → ⊥) → bytes ≡ hex_text word → ⊥
unfolding hex_text
not_eight bytes word never is = never (ap length is ∙ hex_length 8 word)

-- each of the digits is one
record IsDigit (byte : ℕ) : Type 0 where
  pub value : ℕ
  pub low : value < 16
  pub is : byte ≡ hex_digit value

digit_at : (k word i : ℕ) → i < k → IsDigit (get_or (hex_digits k word) i 0)
digit_at zero word i lt = absurd (omega arith)
digit_at (suc k) word zero lt =
    record { value = word / 2 ^ (4 * k) % 16; low = mod-lt (word / 2 ^ (4 * k)) (omega arith); is = refl }
digit_at (suc k) word (suc i) lt = digit_at k word i (omega arith)

pub no_digit : (bytes : List ℕ) (i byte word : ℕ) → i < length bytes → byte ≡ get_or bytes i 0
    → ((n : ℕ) → n < 16 → byte ≡ hex_digit n → ⊥) → bytes ≡ hex_text word → ⊥
unfolding hex_text
no_digit bytes i byte word lt at never is =
    let few : length bytes ≡ 8 = ap length is ∙ hex_length 8 word in
    let one : IsDigit (get_or (hex_digits 8 word) i 0) = digit_at 8 word i (omega arith) in
    never one.value one.low (at ∙ ap (λ (l : List ℕ). get_or l i 0) is ∙ one.is)

-- ---- one word

same_digit : (m n : ℕ) (a b : Bool) → nat_lt m 10 ≡ a → nat_lt n 10 ≡ b → m < 16 → n < 16
    → cond a (48 + m) (55 + m) ≡ cond b (48 + n) (55 + n) → m ≡ n
same_digit m n true true s t l k e = omega (arith, e)
same_digit m n true false s t l k e = grind (arith, nat_tests, e, s, t)
same_digit m n false true s t l k e = grind (arith, nat_tests, e, s, t)
same_digit m n false false s t l k e = omega (arith, e)

one_value : (m n : ℕ) → m < 16 → n < 16 → hex_digit m ≡ hex_digit n → m ≡ n
one_value m n l k e = same_digit m n (nat_lt m 10) (nat_lt n 10) refl refl l k e

one_number : (k v w : ℕ) → v < 16 ^ k → w < 16 ^ k → hex_digits k v ≡ hex_digits k w → v ≡ w
one_number zero v w l m e = omega (arith, l, m)
one_number (suc k) v w l m e =
    let more : 16 ^ suc k ≡ 16 * 16 ^ k = ap (λ n. 16 ^ n) (omega arith) ∙ pow-add 16 1 k in
    let both = same_from_push (hex_digits k (v / 16)) (hex_digits k (w / 16)) (hex_digit (v % 16)) (hex_digit (w % 16))
    (sym (hex_push k v) ∙ e ∙ hex_push k w) in
    let low : v % 16 ≡ w % 16 = one_value (v % 16) (w % 16) (mod-lt v (omega arith)) (mod-lt w (omega arith)) both.1 in
    let high : v / 16 ≡ w / 16 = one_number k (v / 16) (w / 16) (omega (arith, more, l)) (omega (arith, more, m)) both.0 in
    omega (arith, low, high)

pub one_word : (v w : ℕ) → v < 2 ^ 32 → w < 2 ^ 32 → hex_text v ≡ hex_text w → v ≡ w
unfolding hex_text
one_word v w l m e = one_number 8 v w (omega (arith, l)) (omega (arith, m)) e
