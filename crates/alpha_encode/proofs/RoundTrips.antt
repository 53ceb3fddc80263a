-- A word's instruction has that word, and an instruction's word has that instruction.
use Rattle.std.proofs.Common.{◌≡◌, ℕ, ◌/◌, ◌%◌, ◌^◌, ◌<◌, ℤ, pos, negsuc, FitsSigned, List, [], ◌∷◌, Bool, true, false, cond, if◌then◌else◌, ◌==◌, Option, Some, None, MatchOption, IsTrue, IfSome, IfNone, ◌≢◌, find, refl, sym, ap, ap₂, subst, ◌∙◌, arith, rules}
use Rattle.std.proofs.lemmas.Bool.{false≢true}
use Rattle.std.proofs.lemmas.Bool.Decides.{nat_tests}
use Rattle.std.specs.Int.{w16}
use Rattle.std.specs.Option.{option_map, option_and_then}
use Rattle.word_ops.specs.declared.operates.Operate.{Operate as OperateOf}
use Rattle.word_ops.specs.declared.sorts.Access.TheVariants.{Quad, Byte, Word, Long}
use Rattle.word_ops.specs.Operates.{operates, code_of, has_code}
use Rattle.alpha_encode.specs.declared.instructions.Second.{Second}
use Rattle.alpha_encode.specs.declared.instructions.Second.TheVariants.{Reg, Literal}
use Rattle.alpha_encode.specs.declared.instructions.Instr.{Instr}
use Rattle.alpha_encode.specs.declared.instructions.Instr.TheVariants.{Operate, Lda, Ldah, Load, Store, Ldq, Stq, Beq}
use Rattle.alpha_encode.specs.Codes.{lda_opcode, ldah_opcode, load_opcode, store_opcode, ldq_opcode, stq_opcode, operate_of, is_unary}
use Rattle.alpha_encode.specs.Formats.{IsWellFormed, IsSecond, bits_of, operate_word, second_bits, memory_word, encoded}
use Rattle.alpha_encode.specs.Decoded.{field, opcode, ra, rb, displacement, branch_displacement, second, allows_ra, operate_with, operate, load_in, store_in, decoded}
use Rattle.alpha_encode.proofs.CodeSearch.{IsOperateCode, code_in_range, find-own_code}

-- the fields of an operate's word
pub record AreFields (word opcode' ra' second' function' rc' : ℕ) : Type 0 where
  pub opcode_is : opcode word ≡ opcode'
  pub ra_is : ra word ≡ ra'
  pub literal_flag : field word 12 1 ≡ second' % 2
  pub literal_is : field word 13 8 ≡ second' / 2
  pub zeros : field word 13 3 ≡ second' / 2 % 8
  pub rb_is : rb word ≡ second' / 16
  pub function_is : field word 5 7 ≡ function'
  pub rc_is : field word 0 5 ≡ rc'

operate_fields : (o r s f c : ℕ) → o < 64 → r < 32 → s < 2 ^ 9 → f < 128 → c < 32 → AreFields (operate_word (o, f) r s c) o r s f c
operate_fields o r s f c ho hr hs hf hc = record {
  opcode_is = omega arith;
  ra_is = omega arith;
  literal_flag = omega arith;
  literal_is = omega arith;
  zeros = omega arith;
  rb_is = omega arith;
  function_is = omega arith;
  rc_is = omega arith;
}

-- a word whose opcode is that of an operate
decoded-operate : (word : ℕ) → 15 < opcode word → opcode word < 40 → decoded word ≡ operate word
decoded-operate word l h = grind (arith, nat_tests)

second_back : (word o r f c : ℕ) (s : Second) → IsSecond s → AreFields word o r (second_bits s) f c → second word ≡ Some s
second_back word o r f c (Reg b) h e = grind (arith, nat_tests, e.literal_flag, e.zeros, e.rb_is)
second_back word o r f c (Literal n) h e = grind (arith, nat_tests, e.literal_flag, e.literal_is)

second_bits-lt : (s : Second) → IsSecond s → second_bits s < 2 ^ 9
second_bits-lt (Reg b) h = omega arith
second_bits-lt (Literal n) h = omega arith

allowed : (op : OperateOf) (r : ℕ) → (IsTrue (is_unary op) → r ≡ 31) → allows_ra op r ≡ true
allowed op r h = at (is_unary op) h
  where
    at : (b : Bool) → (IsTrue b → r ≡ 31) → cond b (r == 31) true ≡ true
    at true h = let e = h refl in grind (arith, nat_tests)
    at false h = refl

abbrev built : OperateOf → Bool → ℕ → ℕ → Option Second → Option Instr
built op b r c s = if b then option_map (λ second. Operate op r second c) s else None

operate_back : (op : OperateOf) (code : ℕ × ℕ) (r : ℕ) (s : Second) (c : ℕ) → IsOperateCode code → find (has_code code.0 code.1) operates ≡ Some op →
    r < 32 → IsSecond s → c < 32 → (IsTrue (is_unary op) → r ≡ 31) → decoded (operate_word code r (second_bits s) c) ≡ Some (Operate op r s c)
operate_back op code r s c ranges own hr hs hc unary =
    let word : ℕ = operate_word code r (second_bits s) c in
    let e : AreFields word code.0 r (second_bits s) code.1 c = operate_fields code.0 r (second_bits s) code.1 c (omega (arith, ranges.opcode.1)) hr (second_bits-lt s hs) ranges.function hc in
    decoded-operate word (rw e.opcode_is ranges.opcode.0) (rw e.opcode_is ranges.opcode.1)
    ∙ ap (option_and_then (operate_with word)) (ap (λ o. operate_of o (field word 5 7)) e.opcode_is ∙ ap (operate_of code.0) e.function_is ∙ own)
    ∙ ap (λ n. built op (allows_ra op n) n (field word 0 5) (second word)) e.ra_is
    ∙ ap (λ b. built op b r (field word 0 5) (second word)) (allowed op r unary)
    ∙ ap₂ (λ n o. built op true r n o) e.rc_is (second_back word code.0 r code.1 c s hs e)

displacement_back : (o r b : ℕ) (d : ℤ) → FitsSigned w16 d → displacement (memory_word o r b d) ≡ d
displacement_back o r b (pos n) h = grind (arith, nat_tests)
displacement_back o r b (negsuc n) h = grind (arith, nat_tests)

-- a load's, a store's or an address's word has that instruction, where its opcode tells this
memory_back : (k : ℕ → ℕ → ℤ → Instr) (o r b : ℕ) (d : ℤ) →
    ((word : ℕ) → opcode word ≡ o → decoded word ≡ Some (k (ra word) (rb word) (displacement word))) →
    o < 64 → (r < 32) × (b < 32) × FitsSigned w16 d → decoded (memory_word o r b d) ≡ Some (k r b d)
memory_back k o r b d tells ho h =
    let word : ℕ = memory_word o r b d in
    let low : bits_of 16 d < 2 ^ 16 = bits_fit d h.2 in
    let first : opcode word ≡ o = omega (arith, h.0, h.1) in
    let second : ra word ≡ r = omega (arith, h.0, h.1) in
    let third : rb word ≡ b = omega (arith, h.0, h.1) in
    tells word first
    ∙ ap (λ n. Some (k n (rb word) (displacement word))) second
    ∙ ap (λ n. Some (k r n (displacement word))) third
    ∙ ap (λ z. Some (k r b z)) (displacement_back o r b d h.2)
  where
    bits_fit : (d : ℤ) → FitsSigned w16 d → bits_of 16 d < 2 ^ 16
    bits_fit (pos n) h = omega arith
    bits_fit (negsuc n) h = omega arith

-- an instruction's word has that instruction
pub decoded_encoded : (i : Instr) → IsWellFormed i → decoded (encoded i) ≡ Some i
decoded_encoded (Operate op ra second rc) h = operate_back op (code_of op) ra second rc (code_in_range op) (find-own_code op) h.0 h.1 h.2 h.3
decoded_encoded (Lda ra rb disp) h = memory_back Lda lda_opcode ra rb disp (λ word e. rw e) (omega arith) h
decoded_encoded (Ldah ra rb disp) h = memory_back Ldah ldah_opcode ra rb disp (λ word e. rw e) (omega arith) h
decoded_encoded (Load Quad ra rb disp) h =
    memory_back (Load Quad) (load_opcode Quad) ra rb disp (λ word e. rw e) (omega arith) h
decoded_encoded (Load Byte ra rb disp) h =
    memory_back (Load Byte) (load_opcode Byte) ra rb disp (λ word e. rw e) (omega arith) h
decoded_encoded (Load Word ra rb disp) h =
    memory_back (Load Word) (load_opcode Word) ra rb disp (λ word e. rw e) (omega arith) h
decoded_encoded (Load Long ra rb disp) h =
    memory_back (Load Long) (load_opcode Long) ra rb disp (λ word e. rw e) (omega arith) h
decoded_encoded (Store Quad ra rb disp) h =
    memory_back (Store Quad) (store_opcode Quad) ra rb disp (λ word e. rw e) (omega arith) h
decoded_encoded (Store Byte ra rb disp) h =
    memory_back (Store Byte) (store_opcode Byte) ra rb disp (λ word e. rw e) (omega arith) h
decoded_encoded (Store Word ra rb disp) h =
    memory_back (Store Word) (store_opcode Word) ra rb disp (λ word e. rw e) (omega arith) h
decoded_encoded (Store Long ra rb disp) h =
    memory_back (Store Long) (store_opcode Long) ra rb disp (λ word e. rw e) (omega arith) h
decoded_encoded (Ldq ra rb disp) h = memory_back Ldq ldq_opcode ra rb disp (λ word e. rw e) (omega arith) h
decoded_encoded (Stq ra rb disp) h = memory_back Stq stq_opcode ra rb disp (λ word e. rw e) (omega arith) h
decoded_encoded (Beq ra (pos n)) h = grind (arith, nat_tests)
decoded_encoded (Beq ra (negsuc n)) h = grind (arith, nat_tests)

-- a word's instruction has that word
abbrev IsSound : ℕ → Option Instr → Type 0
IsSound word found = MatchOption found (Unit {0}) (λ i. IsWellFormed i × (encoded i ≡ word))

choose : {X : Type 0} (P : X → Type 0) (b : Bool) (x y : X) → (b ≡ true → P x) → (b ≡ false → P y) → P (if b then x else y)
choose P true x y f g = f refl
choose P false x y f g = g refl

lda_sound : (word : ℕ) → word < 2 ^ 32 → (opcode word == 0x08) ≡ true → IsSound word (Some (Lda (ra word) (rb word) (displacement word)))
lda_sound word h e = search rules

ldah_sound : (word : ℕ) → word < 2 ^ 32 → (opcode word == 0x09) ≡ true → IsSound word (Some (Ldah (ra word) (rb word) (displacement word)))
ldah_sound word h e = search rules

ldq_u_sound : (word : ℕ) → word < 2 ^ 32 → (opcode word == 0x0B) ≡ true → IsSound word (load_in Quad word)
ldq_u_sound word h e = search rules

stq_u_sound : (word : ℕ) → word < 2 ^ 32 → (opcode word == 0x0F) ≡ true → IsSound word (store_in Quad word)
stq_u_sound word h e = search rules

ldbu_sound : (word : ℕ) → word < 2 ^ 32 → (opcode word == 0x0A) ≡ true → IsSound word (load_in Byte word)
ldbu_sound word h e = search rules

ldwu_sound : (word : ℕ) → word < 2 ^ 32 → (opcode word == 0x0C) ≡ true → IsSound word (load_in Word word)
ldwu_sound word h e = search rules

ldl_sound : (word : ℕ) → word < 2 ^ 32 → (opcode word == 0x28) ≡ true → IsSound word (load_in Long word)
ldl_sound word h e = search rules

stb_sound : (word : ℕ) → word < 2 ^ 32 → (opcode word == 0x0E) ≡ true → IsSound word (store_in Byte word)
stb_sound word h e = search rules

stw_sound : (word : ℕ) → word < 2 ^ 32 → (opcode word == 0x0D) ≡ true → IsSound word (store_in Word word)
stw_sound word h e = search rules

stl_sound : (word : ℕ) → word < 2 ^ 32 → (opcode word == 0x2C) ≡ true → IsSound word (store_in Long word)
stl_sound word h e = search rules

ldq_sound : (word : ℕ) → word < 2 ^ 32 → (opcode word == 0x29) ≡ true →
    IsSound word (Some (Ldq (ra word) (rb word) (displacement word)))
ldq_sound word h e = search rules

stq_sound : (word : ℕ) → word < 2 ^ 32 → (opcode word == 0x2D) ≡ true →
    IsSound word (Some (Stq (ra word) (rb word) (displacement word)))
stq_sound word h e = search rules

beq_sound : (word : ℕ) → word < 2 ^ 32 → (opcode word == 0x39) ≡ true → IsSound word (Some (Beq (ra word) (branch_displacement word)))
beq_sound word h e = search rules

abbrev IsSecondOf : ℕ → Option Second → Type 0
IsSecondOf word found = MatchOption found (Unit {0}) (λ s. IsSecond s × (second_bits s ≡ field word 12 9))

literal_sound : (word : ℕ) → (field word 12 1 == 1) ≡ true → IsSecondOf word (Some (Literal (field word 13 8)))
literal_sound word e = (omega arith, grind (arith, nat_tests, e))

register_sound : (word : ℕ) → (field word 12 1 == 1) ≡ false → (field word 13 3 == 0) ≡ true → IsSecondOf word (Some (Reg (rb word)))
register_sound word l e = (omega arith, grind (arith, nat_tests, l, e))

second_sound : (word : ℕ) → IsSecondOf word (second word)
second_sound word =
    choose (IsSecondOf word) _ _ _ (literal_sound word)
    (λ l. choose (IsSecondOf word) _ _ _ (register_sound word l) (λ _. tt))

-- the word that its fields make
operate_word_of_fields : (word : ℕ) (code : ℕ × ℕ) (s : ℕ) → word < 2 ^ 32 → opcode word ≡ code.0 → field word 5 7 ≡ code.1 → s ≡ field word 12 9 →
    operate_word code (ra word) s (field word 0 5) ≡ word
operate_word_of_fields word code s h o f e = omega (arith, h, o, f, e)

some_is : {X : Type 0} (a b : X) → Some a ≡ Some b → a ≡ b
some_is a b e = cc

none_some : {X : Type 0} (a : X) → None ≡ Some a → ⊥
none_some a e = cc

found_true : (p : OperateOf → Bool) (ops : List OperateOf) (op : OperateOf) → find p ops ≡ Some op → p op ≡ true
found_true p [] op e = absurd (none_some op e)
found_true p (first ∷ rest) op e = at (p first) refl e (found_true p rest op)
  where
    at : (b : Bool) → p first ≡ b → cond b (Some first) (find p rest) ≡ Some op → (find p rest ≡ Some op → p op ≡ true) → p op ≡ true
    at true t e later = subst (λ x. p x ≡ true) (some_is first op e) t
    at false t e later = later e

code_found : (o f : ℕ) (op : OperateOf) → has_code o f op ≡ true → code_of op ≡ (o, f)
code_found o f op e =
    let first : (code_of op).0 ≡ o = grind (arith, nat_tests, e) in
    let last : (code_of op).1 ≡ f = grind (arith, nat_tests, e) in
    ap₂ (λ x y. (x, y)) first last

only_31 : (unary : Bool) (r : ℕ) → cond unary (r == 31) true ≡ true → unary ≡ true → r ≡ 31
only_31 true r e u = grind (arith, nat_tests, e)
only_31 false r e u = absurd (false≢true u)

operate_of_sound : (op : OperateOf) (word : ℕ) → word < 2 ^ 32 → code_of op ≡ (opcode word, field word 5 7) → allows_ra op (ra word) ≡ true →
    (s : Second) → IsSecond s × (second_bits s ≡ field word 12 9) → IsSound word (Some (Operate op (ra word) s (field word 0 5)))
operate_of_sound op word h code allows s f = (
  (omega arith, f.0, omega arith, only_31 (is_unary op) (ra word) allows),
  ap (λ c. operate_word c (ra word) (second_bits s) (field word 0 5)) code
      ∙ operate_word_of_fields word (opcode word, field word 5 7) (second_bits s) h refl refl f.1,
)

operate_with_sound : (word : ℕ) → word < 2 ^ 32 → (op : OperateOf) → code_of op ≡ (opcode word, field word 5 7) → IsSound word (operate_with word op)
operate_with_sound word h op code =
    choose (IsSound word) _ _ _ (λ e. with_second (second word) (second_sound word) e) (λ _. tt)
  where
    with_second : (s : Option Second) → IsSecondOf word s → allows_ra op (ra word) ≡ true → IsSound word (option_map (λ second. Operate op (ra word) second (field word 0 5)) s)
    with_second None f e = tt
    with_second (Some s) f e = operate_of_sound op word h code e s f

operate_sound : (word : ℕ) → word < 2 ^ 32 → IsSound word (operate word)
operate_sound word h = at (operate_of (opcode word) (field word 5 7)) refl
  where
    at : (found : Option OperateOf) → operate_of (opcode word) (field word 5 7) ≡ found → IsSound word (option_and_then (operate_with word) found)
    at None e = tt
    at (Some op) e = operate_with_sound word h op (code_found (opcode word) (field word 5 7) op (found_true (has_code (opcode word) (field word 5 7)) operates op e))

pub sound : (word : ℕ) → word < 2 ^ 32 → IsSound word (decoded word)
sound word h =
    choose (IsSound word) _ _ _ (lda_sound word h) (λ _.
    choose (IsSound word) _ _ _ (ldah_sound word h) (λ _.
    choose (IsSound word) _ _ _ (ldq_u_sound word h) (λ _.
    choose (IsSound word) _ _ _ (stq_u_sound word h) (λ _.
    choose (IsSound word) _ _ _ (ldbu_sound word h) (λ _.
    choose (IsSound word) _ _ _ (ldwu_sound word h) (λ _.
    choose (IsSound word) _ _ _ (ldl_sound word h) (λ _.
    choose (IsSound word) _ _ _ (stb_sound word h) (λ _.
    choose (IsSound word) _ _ _ (stw_sound word h) (λ _.
    choose (IsSound word) _ _ _ (stl_sound word h) (λ _.
    choose (IsSound word) _ _ _ (ldq_sound word h) (λ _.
    choose (IsSound word) _ _ _ (stq_sound word h) (λ _.
    choose (IsSound word) _ _ _ (beq_sound word h) (λ _.
    operate_sound word h)))))))))))))

-- a word that has no instruction is none's
pub none_sound : (word : ℕ) → decoded word ≡ None → (i : Instr) → IsWellFormed i → encoded i ≡ word → ⊥
none_sound word e i h w = none_some i (sym e ∙ ap decoded (sym w) ∙ decoded_encoded i h)

pub some_sound : (word : ℕ) (i : Instr) → word < 2 ^ 32 → decoded word ≡ Some i → IsWellFormed i × (encoded i ≡ word)
some_sound word i h e = subst (IsSound word) e (sound word h)

pub found_sound : (word : ℕ) (found : Option Instr) → word < 2 ^ 32 → found ≡ decoded word → IfSome found (λ i. IsWellFormed i × (encoded i ≡ word))
found_sound word None h e = tt
found_sound word (Some i) h e = some_sound word i h (sym e)

pub not_found_sound : (word : ℕ) (found : Option Instr) → found ≡ decoded word → IfNone found ((i : Instr) → IsWellFormed i → encoded i ≢ word)
not_found_sound word None e = none_sound word (sym e)
not_found_sound word (Some i) e = tt

-- no two instructions share a word
pub same_instruction : (i j : Instr) → IsWellFormed i → IsWellFormed j → encoded i ≡ encoded j → i ≡ j
same_instruction i j h k e = some_is i j (sym (decoded_encoded i h) ∙ ap decoded e ∙ decoded_encoded j k)
