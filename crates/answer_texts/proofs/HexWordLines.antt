-- The line of a word of the machine.
use Rattle.std.proofs.Common.{◌≡◌, ℕ, ◌<◌, ◌≤◌, ◌^◌, Option, None, Some, [], ◌∷◌, length, drop, get_or, refl, sym, ap, ap₂, ◌∙◌, codes, arith}
use Rattle.std.specs.Prelude.{IsTrue, is_some}
use Rattle.std.proofs.lemmas.Bool.{false≢true}
use Rattle.std.proofs.lemmas.List.Elements.{All-nil, All-cons, All-head}
use Rattle.alpha_encode.specs.Decoded.{decoded}
use Rattle.alpha_encode.specs.declared.instructions.Instr.{Instr}
use Rattle.alpha_encode.specs.declared.instructions.Instr.TheVariants.{Operate, Lda, Ldah, Load, Store, Ldq, Stq, Beq}
use Rattle.text_core.specs.LineTexts.{Words}
use Rattle.answer_texts.specs.AnswerLines.{hex_text, instr_words, text_words, word_words}
use Rattle.answer_texts.specs.AnswerParts.{AreCodes}
use Rattle.answer_texts.proofs.HexDigits.{one_word}

-- the words say none of the machine
abbrev pub IsNoCode : Words → Type 0
IsNoCode words = (word : ℕ) → words ≡ word_words word → AreCodes (word ∷ []) → ⊥

abbrev IsCode : ℕ → Type 0
IsCode word = (word < 2 ^ 32) × IsTrue (is_some (decoded word))

of_one : (word : ℕ) → AreCodes (word ∷ []) → IsCode word
of_one word are = All-head IsCode word [] are

some_words : (i : Instr) → 1 ≤ length (instr_words i)
some_words (Operate op ra second rc) = omega arith
some_words (Lda ra rb disp) = omega arith
some_words (Ldah ra rb disp) = omega arith
some_words (Load access ra rb disp) = omega arith
some_words (Store access ra rb disp) = omega arith
some_words (Ldq ra rb disp) = omega arith
some_words (Stq ra rb disp) = omega arith
some_words (Beq ra disp) = omega arith

some_text : (o : Option Instr) → IsTrue (is_some o) → 1 ≤ length (text_words o)
some_text None is = absurd (false≢true is)
some_text (Some i) is = some_words i

three : (words : Words) → 3 ≤ length words → words ≡ get_or words 0 [] ∷ get_or words 1 [] ∷ drop 2 words
three [] l = absurd (omega arith)
three (a ∷ []) l = absurd (omega arith)
three (a ∷ b ∷ words) l = refl

module _ (words : Words) where
  pub short : length words < 3 → IsNoCode words
  short few word is are =
      let some = some_text (decoded word) (of_one word are).1 in
      let count = ap (λ (l : Words). length l) is in
      omega (arith, few, some, count)

  pub other_word : (get_or words 0 [] ≡ codes "word" → ⊥) → IsNoCode words
  other_word never word is are = never (ap (λ (l : Words). get_or l 0 []) is)

  pub no_hex : ((word : ℕ) → word < 2 ^ 32 → get_or words 1 [] ≡ hex_text word → ⊥) → IsNoCode words
  no_hex never word is are = never word (of_one word are).0 (ap (λ (l : Words). get_or l 1 []) is)

  module _ (w : ℕ) (low : w < 2 ^ 32) (hex : get_or words 1 [] ≡ hex_text w) where
    same : (word : ℕ) → words ≡ word_words word → AreCodes (word ∷ []) → word ≡ w
    same word is are = one_word word w (of_one word are).0 low (sym (ap (λ (l : Words). get_or l 1 []) is) ∙ hex)

    pub no_instr : decoded w ≡ None → IsNoCode words
    no_instr none word is are =
        let o : decoded word ≡ None = ap decoded (same word is are) ∙ none in
        false≢true (sym (ap (λ (x : Option Instr). is_some x) o) ∙ (of_one word are).1)

    pub other_text : (i : Instr) → decoded w ≡ Some i → (drop 2 words ≡ instr_words i → ⊥) → IsNoCode words
    other_text i some never word is are =
        let o : decoded word ≡ Some i = ap decoded (same word is are) ∙ some in
        never (ap (λ (l : Words). drop 2 l) is ∙ ap text_words o)

    pub the_code : (i : Instr) → 3 ≤ length words → get_or words 0 [] ≡ codes "word" → decoded w ≡ Some i
        → drop 2 words ≡ instr_words i → (words ≡ word_words w) × AreCodes (w ∷ [])
    the_code i long begins some text =
        let behind : drop 2 words ≡ text_words (decoded w) = text ∙ sym (ap text_words some) in (
          three words long ∙ ap (λ a. a ∷ get_or words 1 [] ∷ drop 2 words) begins
              ∙ ap₂ (λ b l. codes "word" ∷ b ∷ l) hex behind,
          All-cons IsCode w [] (low, ap (λ (x : Option Instr). is_some x) some) (All-nil IsCode),
        )
