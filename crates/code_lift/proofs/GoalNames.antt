-- The names of inputs, lets and sets in the goals of lifts: they are names, differ, and aren't those of operators.
use Rattle.std.proofs.Common.{◌≡◌, ◌≢◌, ℕ, ◌<◌, ◌^◌, ◌&&◌, ◌||◌, ◌==◌, Bool, true, false, None, List, [], ◌∷◌, refl, sym, ap, ap₂, ◌∙◌, arith, bytes_eq, codes, decimal}
use Rattle.std.specs.Prelude.{is_some}
use Rattle.std.specs.Char.{digit_value}
use Rattle.std.specs.List.{list_all}
use Rattle.std.specs.Str.Parse.{AllDigits, digits_value}
use Rattle.std.proofs.lemmas.Bool.Decides.{nat_tests}
use Rattle.std.proofs.lemmas.Fmt.{decimal_is_IsNumeral}
use Rattle.std.proofs.lemmas.Str.Parse.{digit_from_value}
use Rattle.goal_meaning.specs.Names.{is_reserved, memory_operator_named}
use Rattle.goal_reader.proofs.Names.{built_in_other}
use Rattle.text_core.specs.Names.{IsName}
use Rattle.text_core.specs.Pieces.{is_word_byte}
use Rattle.word_ops.specs.Names.{name_of}
use Rattle.word_ops.specs.declared.operates.Operate.TheVariants as operates
use Rattle.word_ops.specs.declared.operators.WordOp.{WordOp}
use Rattle.word_ops.specs.declared.operators.WordOp.TheVariants as words
use Rattle.code_lift.specs.Lifted.{let_name, register_name}

-- ---- numbers in decimal

decimal_once : (m n : ℕ) → m < 2 ^ 64 → n < 2 ^ 64 → decimal m ≡ decimal n → m ≡ n
decimal_once m n low other e = sym (decimal_is_IsNumeral m low).1 ∙ ap (digits_value 10) e ∙ (decimal_is_IsNumeral n other).1

digit_word : (b : ℕ) → digit_value b < 10 → is_word_byte b ≡ true
digit_word b h = let r = digit_from_value b h in grind (arith, nat_tests, r.0, r.1)

digits_words : (bs : List ℕ) → AllDigits 10 bs → list_all is_word_byte bs ≡ true
digits_words [] h = refl
digits_words (b ∷ bs) h = ap₂ (λ x y. x && y) (digit_word b h.0) (digits_words bs h.1)

decimal_words : (n : ℕ) → n < 2 ^ 64 → list_all is_word_byte (decimal n) ≡ true
decimal_words n low = digits_words (decimal n) (decimal_is_IsNumeral n low).0.1

-- ---- names

rest_same : (b c : ℕ) (xs ys : List ℕ) → b ∷ xs ≡ c ∷ ys → xs ≡ ys
rest_same b c xs ys e = cc

pub register_named : (r : ℕ) → r < 2 ^ 64 → IsName (register_name r)
register_named r low = record { begins = refl; each = decimal_words r low }

pub let_named : (k : ℕ) → k < 2 ^ 64 → IsName (let_name k)
let_named k low = record { begins = refl; each = decimal_words k low }

pub memory_named : IsName (codes "M")
memory_named = record { begins = refl; each = refl }

pub register_once : (q r : ℕ) → q < 2 ^ 64 → r < 2 ^ 64 → register_name q ≡ register_name r → q ≡ r
register_once q r low other e = decimal_once q r low other (rest_same 114 114 (decimal q) (decimal r) e)

pub let_once : (j k : ℕ) → j < 2 ^ 64 → k < 2 ^ 64 → let_name j ≡ let_name k → j ≡ k
let_once j k low other e = decimal_once j k low other (rest_same 116 116 (decimal j) (decimal k) e)

begins_with : ℕ → List ℕ → Bool
begins_with b [] = false
begins_with b (x ∷ xs) = x == b

pub register_no_let : (r k : ℕ) → register_name r ≢ let_name k
unfolding begins_with
register_no_let r k e = let f : true ≡ false = ap (begins_with 114) e in cc

pub register_no_memory : (r : ℕ) → register_name r ≢ codes "M"
unfolding begins_with
register_no_memory r e = let f : true ≡ false = ap (begins_with 114) e in cc

-- ---- names of operators

no_r : (op : WordOp) → begins_with 114 (name_of op) ≡ false
unfolding begins_with
no_r (words.Operate operates.Addl) = refl
no_r (words.Operate _) = refl
no_r _ = refl

no_t : (op : WordOp) → begins_with 116 (name_of op) ≡ false
unfolding begins_with
no_t (words.Operate operates.Addl) = refl
no_t (words.Operate _) = refl
no_t _ = refl

pub register_free : (r : ℕ) → is_reserved (register_name r) ≡ false
unfolding begins_with
register_free r = ap (λ o. is_some o || bytes_eq (register_name r) (codes "M")) (built_in_other (register_name r) other ∙ none)
  where
    other : (op : WordOp) → name_of op ≢ register_name r
    other op e = (let f : true ≡ false = sym (ap (begins_with 114) e) ∙ no_r op in cc)

    none : memory_operator_named (register_name r) ≡ None
    none = refl

pub let_free : (k : ℕ) → is_reserved (let_name k) ≡ false
unfolding begins_with
let_free k = ap (λ o. is_some o || bytes_eq (let_name k) (codes "M")) (built_in_other (let_name k) other ∙ none)
  where
    other : (op : WordOp) → name_of op ≢ let_name k
    other op e = (let f : true ≡ false = sym (ap (begins_with 116) e) ∙ no_t op in cc)

    none : memory_operator_named (let_name k) ≡ None
    none = refl
