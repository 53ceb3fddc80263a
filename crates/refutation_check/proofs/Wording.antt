-- A word that is a number begins with a digit, and is this number and no other.
use Rattle.std.proofs.Common.{refl, ◌≡◌, ℕ, Bool, true, false, cond, List, [], ◌∷◌, ◌++◌, ◌^◌, ◌<◌, length, take, drop, get_or, sym, ap, ◌∙◌, arith, Some}
use Rattle.std.specs.Prelude.{decimal, codes, Option, None, IfNone}
use lib.Pointwise.{pointwise}
use lib.Dec.{eqb}
use Rattle.std.proofs.lemmas.Bool.{false≢true, eqb-true, and_parts}
use Rattle.std.specs.Str.Parse.{digits_value}
use Rattle.std.proofs.lemmas.Str.Parse.{digit_at}
use Rattle.std.proofs.lemmas.Fmt.{decimal_is_IsNumeral, decimal_digit}
use Rattle.cnf_core.specs.declared.literal.Lit.{Lit}
use Rattle.refutation_check.specs.LineWords.{IsSmall, IsId, IsIdLiteral, literal_word}

-- two numbers whose words are equal
pub decimal-same : (m n : ℕ) → m < 2 ^ 64 → n < 2 ^ 64 → decimal m ≡ decimal n → m ≡ n
decimal-same m n a b is = sym (decimal_is_IsNumeral m a).1 ∙ ap (digits_value 10) is ∙ (decimal_is_IsNumeral n b).1

pub decimal-one : (m n : ℕ) → IsSmall m → IsSmall n → decimal m ≡ decimal n → m ≡ n
decimal-one m n a b is = decimal-same m n (omega arith) (omega arith) is

-- no number begins with a minus
pub number-no_minus : (n : ℕ) (ds : List ℕ) → IsSmall n → decimal n ≡ 45 ∷ ds → ⊥
number-no_minus n ds small is =
    let range = digit_at (decimal n) 0 (decimal_is_IsNumeral n (omega arith)).0.1 (let size = ap length is in omega arith) in
    let first : get_or (decimal n) 0 0 ≡ 45 = ap (λ (xs : List ℕ). get_or xs 0 0) is in
    let low = range.0 in
    absurd (omega arith)

minus-cases : (positive : Bool) (var : ℕ) (word digits : List ℕ) → word ≡ 45 ∷ digits → word ≡ cond positive (decimal var) (codes "-" ++ decimal var) → IsSmall var → digits ≡ decimal var
minus-cases true var word digits is word-is small = absurd (number-no_minus var digits small (sym word-is ∙ is))
minus-cases false var word digits is word-is small = ap (λ (xs : List ℕ). drop 1 xs) (sym is ∙ word-is)

-- a literal that begins with a minus has its number after it
literal-minus : (word digits : List ℕ) (l : Lit) → word ≡ 45 ∷ digits → IsIdLiteral l → word ≡ literal_word l → digits ≡ decimal l.var
literal-minus word digits l is fine word-is = minus-cases l.positive l.var word digits is word-is fine.1

-- a word whose first byte is a minus
pub minus-first : (word digits : List ℕ) → pointwise eqb (take 1 word) (45 ∷ []) ≡ true → digits ≡ drop 1 word → word ≡ 45 ∷ digits
minus-first [] digits first rest = absurd (false≢true first)
minus-first (x ∷ xs) digits first rest =
    let is : x ≡ 45 = eqb-true x 45 (and_parts (eqb x 45) _ first).0 in
    ap (λ (y : ℕ). y ∷ xs) is ∙ ap (λ (ys : List ℕ). 45 ∷ ys) (sym rest)

-- no literal where there is no number
pub no-literal : {A : Type 0} (r : Option A) (word digits : List ℕ) → word ≡ 45 ∷ digits → IfNone r ((n : ℕ) → IsId n → digits ≡ decimal n → ⊥) → IfNone r ((l : Lit) → IsIdLiteral l → word ≡ literal_word l → ⊥)
no-literal None word digits is none = λ l fine word-is. none l.var fine (literal-minus word digits l is fine word-is)
no-literal (Some x) word digits is none = none

-- no id and no literal is the word 0
pub id-not_zero : (n : ℕ) → IsId n → decimal n ≡ codes "0" → ⊥
id-not_zero n fine is = (let same = decimal-one n 0 fine.1 (omega arith) (is ∙ sym (decimal_digit 0 (omega arith))) in let some = fine.0 in absurd (omega arith))

not-both : (n : ℕ) → n ≡ 45 → n ≡ 48 → ⊥
not-both n a b = absurd (omega arith)

literal-not_zero-by : (positive : Bool) (var : ℕ) → IsId var → cond positive (decimal var) (codes "-" ++ decimal var) ≡ codes "0" → ⊥
literal-not_zero-by true var fine is = id-not_zero var fine is
literal-not_zero-by false var fine is = not-both (get_or (codes "-" ++ decimal var) 0 0) refl (ap (λ (xs : List ℕ). get_or xs 0 0) is)

pub literal-not_zero : (l : Lit) → IsIdLiteral l → literal_word l ≡ codes "0" → ⊥
literal-not_zero l fine is = literal-not_zero-by l.positive l.var fine is
