-- The words of an instruction's text can stand in a line, and so can those of the line of its word.
use Rattle.std.proofs.Common.{◌≡◌, ◌≢◌, ℕ, ℤ, pos, negsuc, zero, suc, ◌+◌, ◌*◌, ◌/◌, ◌%◌, ◌<◌, ◌^◌, ◌&&◌, Bool, true, false, cond, List, [], ◌∷◌, ◌++◌, refl, sym, ap, subst, ◌∙◌, arith, codes, decimal, nat_lt, mod-lt, Some}
use Rattle.std.specs.Prelude.{All, Contains, FitsSigned}
use Rattle.std.specs.Fmt.{signed_decimal}
use Rattle.std.specs.Int.{w16}
use Rattle.std.specs.List.{list_all}
use Rattle.std.proofs.lemmas.Bool.{and_parts}
use Rattle.std.proofs.lemmas.Bool.Decides.{nat_tests}
use Rattle.std.proofs.lemmas.List.Elements.{All-nil, All-cons, All-contains}
use Rattle.std.proofs.lemmas.List.Folds.{list_all-append}
use Rattle.alpha_encode.specs.Codes.{is_unary}
use Rattle.alpha_encode.specs.Decoded.{decoded}
use Rattle.alpha_encode.specs.Formats.{FitsBits, IsSecond, IsWellFormed, encoded}
use Rattle.alpha_encode.specs.Texts.{register, second_text}
use Rattle.alpha_encode.specs.declared.instructions.Instr.{Instr}
use Rattle.alpha_encode.specs.declared.instructions.Instr.TheVariants.{Operate, Lda, Ldah, Load, Store, Ldq, Stq, Beq}
use Rattle.alpha_encode.specs.declared.instructions.Second.{Second}
use Rattle.alpha_encode.specs.declared.instructions.Second.TheVariants.{Reg, Literal}
use Rattle.text_core.specs.LineTexts.{Words, CanBeLine}
use Rattle.text_core.specs.Lines.{IsLineWord, is_printed}
use Rattle.word_ops.specs.Names.{name_of}
use Rattle.word_ops.specs.Operators.{operators}
use Rattle.word_ops.specs.declared.operators.WordOp.{WordOp}
use Rattle.word_ops.specs.declared.operators.WordOp.TheVariants as operators_of
use Rattle.word_ops.specs.declared.sorts.Access.{Access}
use Rattle.word_ops.specs.declared.sorts.Access.TheVariants.{Quad, Byte, Word, Long}
use Rattle.machine_table.specs.InstrOrder.{instr_name}
use Rattle.machine_table.specs.declared.tables.InstrKind.TheVariants as kinds
use Rattle.answer_texts.specs.AnswerLines.{hex_digits, hex_text, before_comma, memory_words, instr_words, text_words, word_words}

data AreWords : Words → Type 0 where
  no_words : AreWords []
  a_word : {word : List ℕ} {words : Words} → IsLineWord word → AreWords words → AreWords (word ∷ words)

each_word : {words : Words} → AreWords words → All IsLineWord words
each_word no_words = All-nil IsLineWord
each_word (a_word {word = w} {words = ws} is more) = All-cons IsLineWord w ws is (each_word more)

-- ---- words

append_none : (a b : List ℕ) → a ≢ [] → a ++ b ≢ []
append_none [] b some = absurd (some refl)
append_none (x ∷ a) b some = λ e. cc

joined : (a b : List ℕ) → IsLineWord a → IsLineWord b → IsLineWord (a ++ b)
joined a b f g = record {
  some = append_none a b f.some;
  printed = list_all-append is_printed a b ∙ ap (λ t. t && list_all is_printed b) f.printed ∙ g.printed;
}

comma : IsLineWord (codes ",")
comma = record { some = λ e. cc; printed = refl }

-- ---- operators

-- the name isn't empty, and its bytes are printed
abbrev is_word : List ℕ → Bool
is_word [] = false
is_word (b ∷ bytes) = list_all is_printed (b ∷ bytes)

word_from : (bytes : List ℕ) → is_word bytes ≡ true → IsLineWord bytes
word_from [] is = cc
word_from (b ∷ bytes) is = record { some = λ e. cc; printed = is }

named_by : (ops : List WordOp) → list_all (λ op. is_word (name_of op)) ops ≡ true → All (λ op. IsLineWord (name_of op)) ops
named_by [] is = All-nil (λ op. IsLineWord (name_of op))
named_by (op ∷ ops) is =
    let parts = and_parts (is_word (name_of op)) (list_all (λ op. is_word (name_of op)) ops) is in
    All-cons (λ op. IsLineWord (name_of op)) op ops (word_from (name_of op) parts.0) (named_by ops parts.1)

abbrev pub OperatorsAreListed : Type 0
OperatorsAreListed = (op : WordOp) → Contains operators op

operator_word : OperatorsAreListed → (op : WordOp) → IsLineWord (name_of op)
operator_word listed op = All-contains (λ o. IsLineWord (name_of o)) operators op (named_by operators refl) (listed op)

-- the mnemonics of loads and stores
load_word : (access : Access) → IsLineWord (instr_name (kinds.Load access))
load_word Quad = record { some = λ e. cc; printed = refl }
load_word Byte = record { some = λ e. cc; printed = refl }
load_word Word = record { some = λ e. cc; printed = refl }
load_word Long = record { some = λ e. cc; printed = refl }

store_word : (access : Access) → IsLineWord (instr_name (kinds.Store access))
store_word Quad = record { some = λ e. cc; printed = refl }
store_word Byte = record { some = λ e. cc; printed = refl }
store_word Word = record { some = λ e. cc; printed = refl }
store_word Long = record { some = λ e. cc; printed = refl }

-- ---- hexadecimal digits

digit_printed : (n : ℕ) (b : Bool) → nat_lt n 10 ≡ b → n < 16 → is_printed (cond b (48 + n) (55 + n)) ≡ true
digit_printed n true is lt = grind (arith, nat_tests, is)
digit_printed n false is lt = grind (arith, nat_tests, is)

digits_printed : (k word : ℕ) → list_all is_printed (hex_digits k word) ≡ true
digits_printed zero word = refl
digits_printed (suc k) word =
    ap (λ b. b && list_all is_printed (hex_digits k word))
    (digit_printed (word / 2 ^ (4 * k) % 16) (nat_lt (word / 2 ^ (4 * k) % 16) 10) refl
    (mod-lt (word / 2 ^ (4 * k)) (omega arith)))
    ∙ digits_printed k word

hex_word : (word : ℕ) → IsLineWord (hex_text word)
unfolding hex_text
hex_word word = record { some = λ e. cc; printed = digits_printed 8 word }

-- ---- the words of an instruction

abbrev pub NumbersAreWords : Type 0
NumbersAreWords = (n : ℕ) → n < 2 ^ 64 → IsLineWord (decimal n)

-- the number of a displacement
abbrev IsSmallSigned : ℤ → Type 0
IsSmallSigned (pos n) = n < 2 ^ 31
IsSmallSigned (negsuc n) = n < 2 ^ 31

of_sixteen : (z : ℤ) → FitsSigned w16 z → IsSmallSigned z
of_sixteen (pos n) fits = (let f = fits.sfits in omega (arith, f))
of_sixteen (negsuc n) fits = (let f = fits.sfits in omega (arith, f))

of_twenty_one : (z : ℤ) → FitsBits 21 z → IsSmallSigned z
of_twenty_one (pos n) fits = (let f : n < 2 ^ 20 = fits in omega (arith, f))
of_twenty_one (negsuc n) fits = (let f : n < 2 ^ 20 = fits in omega (arith, f))

module _ (number : NumbersAreWords) (listed : OperatorsAreListed) where
  register_word : (r : ℕ) → r < 32 → IsLineWord (register r)
  register_word r low =
      joined (codes "$") (decimal r) (record { some = λ e. cc; printed = refl }) (number r (omega (arith, low)))

  comma_word : (r : ℕ) → r < 32 → IsLineWord (before_comma r)
  comma_word r low = joined (register r) (codes ",") (register_word r low) comma

  second_word : (second : Second) → IsSecond second → IsLineWord (second_text second)
  second_word (Reg r) low = register_word r low
  second_word (Literal n) low = number n (omega (arith, low))

  signed_word : (z : ℤ) → IsSmallSigned z → IsLineWord (signed_decimal z)
  signed_word (pos n) low = number n (omega (arith, low))
  signed_word (negsuc n) low =
      joined (codes "-") (decimal (suc n)) (record { some = λ e. cc; printed = refl }) (number (suc n) (omega (arith, low)))

  operate_words : (b : Bool) (ra : ℕ) (words : Words) → ra < 32 → AreWords words
      → AreWords (cond b [] (before_comma ra ∷ []) ++ words)
  operate_words true ra words low are = are
  operate_words false ra words low are = a_word (comma_word ra low) are

  disp_words : (name : List ℕ) (ra rb : ℕ) (disp : ℤ) → IsLineWord name → ra < 32 → rb < 32
      → IsLineWord (signed_decimal disp) → AreWords (memory_words name ra rb disp)
  disp_words name ra rb disp is low less fits =
      a_word is
      (a_word (comma_word ra low)
      (a_word
      (joined (signed_decimal disp ++ codes "(" ++ register rb) (codes ")")
      (joined (signed_decimal disp ++ codes "(") (register rb)
      (joined (signed_decimal disp) (codes "(") fits (record { some = λ e. cc; printed = refl })) (register_word rb less))
      (record { some = λ e. cc; printed = refl }))
      no_words))

  instr_line_words : (i : Instr) → IsWellFormed i → AreWords (instr_words i)
  instr_line_words (Operate op ra second rc) is =
      a_word (operator_word listed (operators_of.Operate op))
      (operate_words (is_unary op) ra ((second_text second ++ codes ",") ∷ register rc ∷ []) is.0
      (a_word (joined (second_text second) (codes ",") (second_word second is.1) comma)
      (a_word (register_word rc is.2) no_words)))
  instr_line_words (Lda ra rb disp) is =
      disp_words (codes "lda") ra rb disp (record { some = λ e. cc; printed = refl }) is.0 is.1
      (signed_word disp (of_sixteen disp is.2))
  instr_line_words (Ldah ra rb disp) is =
      disp_words (codes "ldah") ra rb disp (record { some = λ e. cc; printed = refl }) is.0 is.1
      (signed_word disp (of_sixteen disp is.2))
  instr_line_words (Load access ra rb disp) is =
      disp_words (instr_name (kinds.Load access)) ra rb disp (load_word access) is.0 is.1
      (signed_word disp (of_sixteen disp is.2))
  instr_line_words (Store access ra rb disp) is =
      disp_words (instr_name (kinds.Store access)) ra rb disp (store_word access) is.0 is.1
      (signed_word disp (of_sixteen disp is.2))
  instr_line_words (Ldq ra rb disp) is =
      disp_words (codes "ldq") ra rb disp (record { some = λ e. cc; printed = refl }) is.0 is.1
      (signed_word disp (of_sixteen disp is.2))
  instr_line_words (Stq ra rb disp) is =
      disp_words (codes "stq") ra rb disp (record { some = λ e. cc; printed = refl }) is.0 is.1
      (signed_word disp (of_sixteen disp is.2))
  instr_line_words (Beq ra disp) is =
      a_word (record { some = λ e. cc; printed = refl })
      (a_word (comma_word ra is.0) (a_word (signed_word disp (of_twenty_one disp is.1)) no_words))

  pub instr_words_are_words : (i : Instr) → IsWellFormed i → All IsLineWord (instr_words i)
  instr_words_are_words i is = each_word (instr_line_words i is)

  module _ (forth : (word : ℕ) (instr : Instr) → word < 2 ^ 32 → decoded word ≡ Some instr
      → IsWellFormed instr × (encoded instr ≡ word)) where
    pub word_line : (word : ℕ) (instr : Instr) → word < 2 ^ 32 → decoded word ≡ Some instr
        → CanBeLine (word_words word)
    word_line word instr low is = record {
      some = λ e. cc;
      each = each_word
          (a_word (record { some = λ e. cc; printed = refl })
          (a_word (hex_word word)
          (subst (λ o. AreWords (text_words o)) (sym is) (instr_line_words instr (forth word instr low is).0))));
    }
