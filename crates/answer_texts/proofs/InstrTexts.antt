-- The text of an instruction is that of its words, with a space before each. Source: this project.
use Rattle.std.proofs.Common.{◌≡◌, ℕ, ℤ, Bool, true, false, cond, List, [], ◌∷◌, ◌++◌, refl, sym, ap, ◌∙◌, append_assoc, append-nil, codes}
use Rattle.std.specs.Fmt.{signed_decimal}
use Rattle.alpha_encode.specs.Codes.{is_unary}
use Rattle.alpha_encode.specs.Texts.{register, second_text, text_of, memory_text}
use Rattle.alpha_encode.specs.declared.instructions.Instr.{Instr}
use Rattle.alpha_encode.specs.declared.instructions.Instr.TheVariants.{Operate, Lda, Ldah, Load, Store, Ldq, Stq, Beq}
use Rattle.launch_graph.specs.LineParts.{words_behind}
use Rattle.word_ops.specs.Operates.{row_of}
use Rattle.word_ops.specs.declared.operates.Operate.{Operate as OperateOf}
use Rattle.word_ops.specs.declared.sorts.Access.TheVariants.{Quad, Byte, Word, Long}
use Rattle.answer_texts.specs.AnswerLines.{before_comma, memory_words, instr_words}

-- pieces that were put together from the left
four : (a b c d : List ℕ) → ((a ++ b) ++ c) ++ d ≡ a ++ (b ++ (c ++ d))
four a b c d = append_assoc (a ++ b) c d ∙ append_assoc a b (c ++ d)

five : (a b c d e : List ℕ) → (((a ++ b) ++ c) ++ d) ++ e ≡ a ++ (b ++ (c ++ (d ++ e)))
five a b c d e = append_assoc ((a ++ b) ++ c) d e ∙ four a b c (d ++ e)

six : (a b c d e f : List ℕ) → ((((a ++ b) ++ c) ++ d) ++ e) ++ f ≡ a ++ (b ++ (c ++ (d ++ (e ++ f))))
six a b c d e f = append_assoc (((a ++ b) ++ c) ++ d) e f ∙ five a b c d (e ++ f)

seven : (a b c d e f g : List ℕ)
    → (((((a ++ b) ++ c) ++ d) ++ e) ++ f) ++ g ≡ a ++ (b ++ (c ++ (d ++ (e ++ (f ++ g)))))
seven a b c d e f g = append_assoc ((((a ++ b) ++ c) ++ d) ++ e) f g ∙ six a b c d e (f ++ g)

comma : (w rest : List ℕ) → (w ++ codes ",") ++ (codes " " ++ rest) ≡ w ++ (codes ", " ++ rest)
comma w rest = append_assoc w (codes ",") (codes " " ++ rest)

last_word : (w last : List ℕ) → (w ++ codes ",") ++ (codes " " ++ (last ++ [])) ≡ w ++ (codes ", " ++ last)
last_word w last = comma w (last ++ []) ∙ ap (λ t. w ++ (codes ", " ++ t)) (append-nil last)

-- the text with a space before it is the words with a space before each
operate_behind : (op : OperateOf) (ra : ℕ) (second : List ℕ) (rc : ℕ) (b : Bool)
    → words_behind ((row_of op).name ∷ (cond b [] (before_comma ra ∷ []) ++ ((second ++ codes ",") ∷ register rc ∷ [])))
    ≡ codes " " ++ ((row_of op).name ++ codes " " ++ cond b [] (register ra ++ codes ", ") ++ second ++ codes ", " ++ register rc)
operate_behind op ra second rc true =
    ap (λ t. codes " " ++ ((row_of op).name ++ (codes " " ++ t))) (last_word second (register rc))
    ∙ sym (ap (λ t. codes " " ++ t) (six (row_of op).name (codes " ") [] second (codes ", ") (register rc)))
operate_behind op ra second rc false =
    ap (λ t. codes " " ++ ((row_of op).name ++ (codes " " ++ t)))
    (comma (register ra) ((second ++ codes ",") ++ (codes " " ++ (register rc ++ [])))
    ∙ ap (λ t. register ra ++ (codes ", " ++ t)) (last_word second (register rc))
    ∙ sym (append_assoc (register ra) (codes ", ") (second ++ (codes ", " ++ register rc))))
    ∙ sym (ap (λ t. codes " " ++ t)
    (six (row_of op).name (codes " ") (register ra ++ codes ", ") second (codes ", ") (register rc)))

disp_behind : (name first : List ℕ) (ra rb : ℕ) (disp : ℤ) → first ≡ name ++ codes " "
    → words_behind (memory_words name ra rb disp) ≡ codes " " ++ memory_text first ra rb disp
disp_behind name first ra rb disp is =
    let tail : List ℕ = signed_decimal disp ++ codes "(" ++ register rb ++ codes ")" in
    let flat : memory_text first ra rb disp ≡ first ++ (register ra ++ (codes ", " ++ tail)) =
    seven first (register ra) (codes ", ") (signed_decimal disp) (codes "(") (register rb) (codes ")")
    ∙ ap (λ t. first ++ (register ra ++ (codes ", " ++ t)))
    (sym (four (signed_decimal disp) (codes "(") (register rb) (codes ")"))) in
    ap (λ t. codes " " ++ (name ++ (codes " " ++ t))) (last_word (register ra) tail)
    ∙ ap (λ t. codes " " ++ t) (sym (append_assoc name (codes " ") (register ra ++ (codes ", " ++ tail))))
    ∙ ap (λ f. codes " " ++ (f ++ (register ra ++ (codes ", " ++ tail)))) (sym is)
    ∙ ap (λ t. codes " " ++ t) (sym flat)

pub instr_text : (i : Instr) → words_behind (instr_words i) ≡ codes " " ++ text_of i
instr_text (Operate op ra second rc) = operate_behind op ra (second_text second) rc (is_unary op)
instr_text (Lda ra rb disp) = disp_behind (codes "lda") (codes "lda ") ra rb disp refl
instr_text (Ldah ra rb disp) = disp_behind (codes "ldah") (codes "ldah ") ra rb disp refl
instr_text (Load Quad ra rb disp) = disp_behind (codes "ldq_u") (codes "ldq_u ") ra rb disp refl
instr_text (Load Byte ra rb disp) = disp_behind (codes "ldbu") (codes "ldbu ") ra rb disp refl
instr_text (Load Word ra rb disp) = disp_behind (codes "ldwu") (codes "ldwu ") ra rb disp refl
instr_text (Load Long ra rb disp) = disp_behind (codes "ldl") (codes "ldl ") ra rb disp refl
instr_text (Store Quad ra rb disp) = disp_behind (codes "stq_u") (codes "stq_u ") ra rb disp refl
instr_text (Store Byte ra rb disp) = disp_behind (codes "stb") (codes "stb ") ra rb disp refl
instr_text (Store Word ra rb disp) = disp_behind (codes "stw") (codes "stw ") ra rb disp refl
instr_text (Store Long ra rb disp) = disp_behind (codes "stl") (codes "stl ") ra rb disp refl
instr_text (Ldq ra rb disp) = disp_behind (codes "ldq") (codes "ldq ") ra rb disp refl
instr_text (Stq ra rb disp) = disp_behind (codes "stq") (codes "stq ") ra rb disp refl
instr_text (Beq ra disp) =
    ap (λ t. codes " " ++ (codes "beq " ++ t)) (last_word (register ra) (signed_decimal disp))
    ∙ sym (ap (λ t. codes " " ++ t) (four (codes "beq ") (register ra) (codes ", ") (signed_decimal disp)))
