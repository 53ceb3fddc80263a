-- Lists and words that are equal, part by part.
use Rattle.std.proofs.Common.{◌≡◌, ℕ, zero, suc, ◌+◌, ◌*◌, ◌/◌, ◌%◌, ◌<◌, ◌^◌, Bool, true, false, cond, List, [], ◌∷◌, ◌++◌, length, map, get_or, refl, sym, ap, subst, ◌∙◌, arith, nat_lt, length-append, mod-lt}
use Rattle.std.specs.Prelude.{All, AllPairs}
use Rattle.std.proofs.lemmas.Bool.Decides.{nat_tests}
use Rattle.std.proofs.lemmas.List.{get_or_append_left}
use Rattle.std.proofs.lemmas.List.Elements.{All-head, All-tail}
use Rattle.std.proofs.lemmas.Nat.{mod-pow-add}
use Rattle.text_core.specs.LineTexts.{Words}
use Rattle.answer_texts.specs.AnswerLines.{hex_digit, hex_digits, hex_text}

pub head_same : {X : Type 0} (x y : X) (xs ys : List X) → x ∷ xs ≡ y ∷ ys → x ≡ y
head_same x y xs ys e = cc

pub rest_same : {X : Type 0} (x y : X) (xs ys : List X) → x ∷ xs ≡ y ∷ ys → xs ≡ ys
rest_same x y xs ys e = cc

-- a word of lines that are equal, and a byte of such a word
pub word_same : (k : ℕ) (ws vs : Words) → ws ≡ vs → get_or ws k [] ≡ get_or vs k []
word_same k ws vs e = ap (λ (l : Words). get_or l k []) e

pub byte_same : (k i : ℕ) (ws vs : Words) → ws ≡ vs → get_or (get_or ws k []) i 0 ≡ get_or (get_or vs k []) i 0
byte_same k i ws vs e = ap (λ (l : Words). get_or (get_or l k []) i 0) e

-- ---- fronts of lists

pub all_front : {X : Type 0} (P : X → Type 0) (xs ys : List X) → All P (xs ++ ys) → All P xs
all_front P xs ys h k d lt =
    subst P (get_or_append_left xs ys d k lt) (h k d (let n = length-append xs ys in omega (arith, n, lt)))

pub pairs_front : {X : Type 0} (R : X → X → Type 0) (xs ys : List X) → AllPairs R (xs ++ ys) → AllPairs R xs
pairs_front R xs ys h i j d less lt =
    let n = length-append xs ys in
    let low : i < length xs = omega (arith, less, lt) in
    subst (λ a. R a (get_or xs j d)) (get_or_append_left xs ys d i low)
    (subst (λ b. R (get_or (xs ++ ys) i d) b) (get_or_append_left xs ys d j lt) (h i j d less (omega (arith, n, lt))))

-- items whose words are equal, where each item's are its own
pub each_once : {X W : Type 0} (f : X → W) (Fine : X → Type 0)
    (one : (x y : X) → Fine x → Fine y → f x ≡ f y → x ≡ y) (xs ys : List X) → All Fine xs → All Fine ys
    → map f xs ≡ map f ys → xs ≡ ys
each_once f Fine one [] [] a b e = refl
each_once f Fine one [] (y ∷ ys) a b e = cc
each_once f Fine one (x ∷ xs) [] a b e = cc
each_once f Fine one (x ∷ xs) (y ∷ ys) a b e =
    ap (λ z. z ∷ xs)
    (one x y (All-head Fine x xs a) (All-head Fine y ys b) (head_same (f x) (f y) (map f xs) (map f ys) e))
    ∙ ap (λ zs. y ∷ zs)
    (each_once f Fine one xs ys (All-tail Fine x xs a) (All-tail Fine y ys b)
    (rest_same (f x) (f y) (map f xs) (map f ys) e))

-- ---- hexadecimal numbers

digit_by : (m n : ℕ) (b c : Bool) → nat_lt m 10 ≡ b → nat_lt n 10 ≡ c → m < 16 → n < 16
    → cond b (48 + m) (55 + m) ≡ cond c (48 + n) (55 + n) → m ≡ n
digit_by m n true true p q lt less e = omega (arith, e)
digit_by m n true false p q lt less e = grind (arith, nat_tests, p, q, e)
digit_by m n false true p q lt less e = grind (arith, nat_tests, p, q, e)
digit_by m n false false p q lt less e = omega (arith, e)

digit_once : (m n : ℕ) → m < 16 → n < 16 → hex_digit m ≡ hex_digit n → m ≡ n
digit_once m n lt less e = digit_by m n (nat_lt m 10) (nat_lt n 10) refl refl lt less e

digits_once : (k word other : ℕ) → hex_digits k word ≡ hex_digits k other → word % 2 ^ (4 * k) ≡ other % 2 ^ (4 * k)
digits_once zero word other e = omega arith
digits_once (suc k) word other e =
    let size : 4 * suc k ≡ 4 + 4 * k = omega arith in
    let low = digits_once k word other
    (rest_same (hex_digit (word / 2 ^ (4 * k) % 16)) (hex_digit (other / 2 ^ (4 * k) % 16)) (hex_digits k word)
    (hex_digits k other) e) in
    let high = digit_once (word / 2 ^ (4 * k) % 16) (other / 2 ^ (4 * k) % 16)
    (mod-lt (word / 2 ^ (4 * k)) (omega arith)) (mod-lt (other / 2 ^ (4 * k)) (omega arith))
    (head_same (hex_digit (word / 2 ^ (4 * k) % 16)) (hex_digit (other / 2 ^ (4 * k) % 16)) (hex_digits k word)
    (hex_digits k other) e) in
    ap (λ n. word % 2 ^ n) size ∙ mod-pow-add word 4 (4 * k)
    ∙ ap (λ d. d * 2 ^ (4 * k) + word % 2 ^ (4 * k)) high
    ∙ ap (λ l. (other / 2 ^ (4 * k) % 16) * 2 ^ (4 * k) + l) low
    ∙ sym (mod-pow-add other 4 (4 * k)) ∙ ap (λ n. other % 2 ^ n) (sym size)

pub hex_once : (word other : ℕ) → word < 2 ^ 32 → other < 2 ^ 32 → hex_text word ≡ hex_text other → word ≡ other
unfolding hex_text
hex_once word other lt less e =
    let same : word % 2 ^ 32 ≡ other % 2 ^ 32 = digits_once 8 word other e in
    omega (arith, same, lt, less)
