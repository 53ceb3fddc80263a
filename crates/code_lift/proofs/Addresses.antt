-- The addresses of a lift: which of them are there behind some words, and when an instruction traps.
use Rattle.std.proofs.Common.{◌≡◌, ℕ, zero, suc, ℤ, ◌+◌, ◌-◌, ◌%◌, ◌^◌, ◌<◌, ◌&&◌, not, List, [], ◌∷◌, ◌++◌, refl, sym, ◌∙◌, ap, subst, inl, inr, arith, Bool, true, false, ◌==◌, Option, Some, None}
use Rattle.std.specs.Prelude.{All, Contains, bit_and, is_some, option_map, slice_index, if◌then◌else◌}
use Rattle.std.specs.List.{list_any}
use Rattle.std.proofs.lemmas.Bool.Decides.{eqb_tells}
use Rattle.std.proofs.lemmas.List.Elements.{All-append, All-cons, All-nil, Contains-append_left, Contains-append_right}
use Rattle.std.proofs.lemmas.Map.Views.{Contains-from_any}
use Rattle.std.proofs.lemmas.Nat.{and_mask}
use Rattle.std.proofs.lemmas.Option.{none-some, same_Some}
use Rattle.word_ops.specs.Memory as accesses
use Rattle.word_ops.specs.declared.operates.Operate.TheVariants.{Addq, And}
use Rattle.word_ops.specs.declared.operators.WordOp.TheVariants as ops
use Rattle.word_ops.specs.declared.sorts.Access.{Access}
use Rattle.word_ops.specs.declared.sorts.Access.TheVariants as access_kinds
use Rattle.word_ops.specs.declared.sorts.Op.{Op}
use Rattle.word_ops.specs.Meanings.{as_word}
use Rattle.word_ops.specs.Operators.{operate_value, value_at}
use Rattle.word_ops.specs.Values.{and}
use Rattle.word_ops.specs.Worlds.{World, word}
use Rattle.word_terms.specs.Building.{constant, o2}
use Rattle.word_terms.specs.Tree.{Tree, substituted}
use Rattle.alpha_encode.specs.Formats.{IsWellFormed}
use Rattle.alpha_encode.specs.declared.instructions.Instr.{Instr}
use Rattle.alpha_encode.specs.declared.instructions.Instr.TheVariants.{Operate, Lda, Ldah, Load, Store, Ldq, Stq, Beq}
use Rattle.alpha_machine.specs.States.{MachineState}
use Rattle.alpha_machine.specs.Steps.{is_multiple, place_of, traps}
use Rattle.goal_meaning.specs.Expanded.{expanded_sides}
use Rattle.goal_meaning.specs.Holds.{IsMet}
use Rattle.code_check.specs.Terms.{needed_alignment, sign_extended}
use Rattle.code_lift.specs.Lifted.{Lifting, multiple_from, assume_of, counts, is_same_address, is_same_value, latest_of, lift_step, lifted_by, sum_term, trapping_address, value_term, with_address}
use Rattle.code_lift.specs.declared.lifting.Address.{Address}
use Rattle.code_lift.specs.declared.lifting.Value.{Value}
use Rattle.code_lift.specs.declared.lifting.Value.TheVariants.{Entry, Let, Zero}
use Rattle.code_lift.proofs.LetValues.{AreWords, Fits, V, one_times, sum_is, terms_of}

-- ---- booleans

true_false : {P : Type 0} → true ≡ false → P
true_false e = absurd (apart e)
  where
    apart : true ≡ false → ⊥
    apart e = cc

and_false : (b : Bool) → b && false ≡ false
and_false true = refl
and_false false = refl

and_true : (b : Bool) → b && true ≡ b
and_true true = refl
and_true false = refl

both : (a b : Bool) → a && b ≡ true → (a ≡ true) × (b ≡ true)
both true true e = (refl, refl)
both true false e = true_false (sym e)
both false b e = true_false (sym e)

-- ---- the same address

is_equal : (m n : ℕ) → (m == n) ≡ true → m ≡ n
is_equal m n e = elim (eqb_tells m n) [ inl k ↦ k.1 | inr k ↦ true_false (sym e ∙ k.0) ]

same_value : (v w : Value) → is_same_value v w ≡ true → v ≡ w
same_value (Entry q) (Entry r) e = ap Entry (is_equal q r e)
same_value (Entry q) Zero e = true_false (sym e)
same_value (Entry q) (Let n) e = true_false (sym e)
same_value Zero (Entry r) e = true_false (sym e)
same_value Zero Zero e = refl
same_value Zero (Let n) e = true_false (sym e)
same_value (Let m) (Entry r) e = true_false (sym e)
same_value (Let m) Zero e = true_false (sym e)
same_value (Let m) (Let n) e = ap Let (is_equal m n e)

pub same_address : (a b : Address) → is_same_address a b ≡ true → a ≡ b
same_address a b e =
    let first = both (is_same_value a.value b.value) ((a.displacement == b.displacement) && (a.power == b.power)) e in
    let second = both (a.displacement == b.displacement) (a.power == b.power) first.1 in
    ap (λ v. record { value = v; displacement = a.displacement; power = a.power }) (same_value a.value b.value first.0)
    ∙ ap (λ d. record { value = b.value; displacement = d; power = a.power }) (is_equal a.displacement b.displacement second.0)
    ∙ ap (λ p. record { value = b.value; displacement = b.displacement; power = p }) (is_equal a.power b.power second.1)

-- ---- which addresses are there

alone : (a : Address) → Contains (a ∷ []) a
alone a = (0, omega arith, refl)

is_there : (before : List Address) (a : Address) → Contains (with_address before (Some a)) a
is_there before a = by (list_any (is_same_address a) before) refl
  where
    by : (b : Bool) → list_any (is_same_address a) before ≡ b → Contains (if b then before else before ++ a ∷ []) a
    by true e = Contains-from_any {eq = is_same_address} same_address a before e
    by false e = Contains-append_right before (a ∷ []) a (alone a)

still_there : (before : List Address) (o : Option Address) (a : Address) → Contains before a → Contains (with_address before o) a
still_there before None a h = h
still_there before (Some c) a h = by (list_any (is_same_address c) before)
  where
    by : (b : Bool) → Contains (if b then before else before ++ c ∷ []) a
    by true = h
    by false = Contains-append_left before (c ∷ []) a h

pub stays_there : (at : ℕ) (i : Instr) (s : Lifting) (a : Address) → Contains s.addresses a → Contains (lift_step at i s).addresses a
stays_there at i s a h = by (counts i)
  where
    by : (b : Bool) → Contains (if b then lifted_by at i s else s).addresses a
    by true = still_there s.addresses (trapping_address i s) a h
    by false = h

-- what holds of the addresses before and of the instruction's holds of all
all_with : (P : Address → Type 0) (before : List Address) (o : Option Address) → All P before → ((a : Address) → o ≡ Some a → P a) → All P (with_address before o)
all_with P before None h own = h
all_with P before (Some a) h own = by (list_any (is_same_address a) before)
  where
    by : (b : Bool) → All P (if b then before else before ++ a ∷ [])
    by true = h
    by false = All-append P before (a ∷ []) h (All-cons P a [] (own a refl) (All-nil P))

pub all_behind : (P : Address → Type 0) (at : ℕ) (i : Instr) (s : Lifting) → All P s.addresses → ((a : Address) → trapping_address i s ≡ Some a → P a) → All P (lift_step at i s).addresses
all_behind P at i s h own = by (counts i)
  where
    by : (b : Bool) → All P (if b then lifted_by at i s else s).addresses
    by true = all_with P s.addresses (trapping_address i s) h own
    by false = h

-- an instruction that has an address counts
has_none : {P : Type 0} (v : Value) (k : ℕ) (o : Option ℕ) (a : Address) → o ≡ None → option_map (multiple_from v k) o ≡ Some a → P
has_none v k o a none e = absurd (none-some a (sym (ap (option_map (multiple_from v k)) none) ∙ e))

counting : (at : ℕ) (i : Instr) (s : Lifting) (a : Address) → counts i ≡ true → trapping_address i s ≡ Some a → Contains (lift_step at i s).addresses a
counting at i s a c e =
    subst (λ (b : Bool). Contains (if b then lifted_by at i s else s).addresses a) (sym c)
    (subst (λ o. Contains (with_address s.addresses o) a) (sym e) (is_there s.addresses a))

pub is_put : (at : ℕ) (i : Instr) (s : Lifting) (a : Address) → trapping_address i s ≡ Some a → Contains (lift_step at i s).addresses a
is_put at (Operate op ra second rc) s a e = absurd (none-some a e)
is_put at (Lda ra rb disp) s a e = absurd (none-some a e)
is_put at (Ldah ra rb disp) s a e = absurd (none-some a e)
is_put at (Load access ra rb disp) s a e = by (ra == 31) refl
  where
    by : (b : Bool) → (ra == 31) ≡ b → Contains (lift_step at (Load access ra rb disp) s).addresses a
    by true t = has_none (latest_of s rb) (sign_extended disp) (if ra == 31 then None else needed_alignment (accesses.alignment access)) a
        (ap (λ b. if b then None else needed_alignment (accesses.alignment access)) t) e
    by false t = counting at (Load access ra rb disp) s a (ap (λ b. is_some (if b then None else Some ra)) t) e
is_put at (Store access ra rb disp) s a e = counting at (Store access ra rb disp) s a refl e
is_put at (Ldq ra rb disp) s a e = by (ra == 31) refl
  where
    by : (b : Bool) → (ra == 31) ≡ b → Contains (lift_step at (Ldq ra rb disp) s).addresses a
    by true t = has_none (latest_of s rb) (sign_extended disp) (if ra == 31 then None else Some 3) a (ap (λ b. if b then None else Some 3) t) e
    by false t = counting at (Ldq ra rb disp) s a (ap (λ b. is_some (if b then None else Some ra)) t) e
is_put at (Stq ra rb disp) s a e = counting at (Stq ra rb disp) s a refl e
is_put at (Beq ra disp) s a e = absurd (none-some a e)

-- the value of an address is a register's latest one
value_of_some : (P : Value → Type 0) (v : Value) (k : ℕ) (o : Option ℕ) (a : Address) → P v → option_map (multiple_from v k) o ≡ Some a → P a.value
value_of_some P v k None a h e = absurd (none-some a e)
value_of_some P v k (Some n) a h e = subst (λ (x : Address). P x.value) (same_Some (multiple_from v k n) a e) h

pub address_value : (P : Value → Type 0) (i : Instr) (s : Lifting) (a : Address) → ((r : ℕ) → P (latest_of s r)) → trapping_address i s ≡ Some a → P a.value
address_value P (Operate op ra second rc) s a h e = absurd (none-some a e)
address_value P (Lda ra rb disp) s a h e = absurd (none-some a e)
address_value P (Ldah ra rb disp) s a h e = absurd (none-some a e)
address_value P (Load access ra rb disp) s a h e =
    value_of_some P (latest_of s rb) (sign_extended disp) (if ra == 31 then None else needed_alignment (accesses.alignment access)) a (h rb) e
address_value P (Store access ra rb disp) s a h e = value_of_some P (latest_of s rb) (sign_extended disp) (needed_alignment (accesses.alignment access)) a (h rb) e
address_value P (Ldq ra rb disp) s a h e = value_of_some P (latest_of s rb) (sign_extended disp) (if ra == 31 then None else Some 3) a (h rb) e
address_value P (Stq ra rb disp) s a h e = value_of_some P (latest_of s rb) (sign_extended disp) (Some 3) a (h rb) e
address_value P (Beq ra disp) s a h e = absurd (none-some a e)

-- ---- arithmetic

and_value : (a b c : ℕ) → value_at (ops.Operate And) a b c ≡ bit_and a b
unfolding value_at operate_value and
and_value a b c = refl

rest_same : (x k n : ℕ) → n < 4 → k % 2 ^ n ≡ 0 → (x + 0) % 2 ^ 64 % 2 ^ n ≡ (x + k) % 2 ^ 64 % 2 ^ n
rest_same x k zero low e = omega arith
rest_same x k (suc zero) low e = omega (arith, e)
rest_same x k (suc (suc zero)) low e = omega (arith, e)
rest_same x k (suc (suc (suc zero))) low e = omega (arith, e)
rest_same x k (suc (suc (suc (suc n)))) low e = absurd (omega (arith, low))

-- a displacement that is such a multiple itself changes nothing
rest_is : (x k n : ℕ) → n < 4 → (x + (if k % 2 ^ n == 0 then 0 else k)) % 2 ^ 64 % 2 ^ n ≡ (x + k) % 2 ^ 64 % 2 ^ n
rest_is x k n low = elim (eqb_tells (k % 2 ^ n) 0) [
  | inl z ↦ ap (λ b. (x + (if b then 0 else k)) % 2 ^ 64 % 2 ^ n) z.0 ∙ rest_same x k n low z.1
  | inr z ↦ ap (λ b. (x + (if b then 0 else k)) % 2 ^ 64 % 2 ^ n) z.0
]

module _ (w : World) where
  -- the low bits of the address are 0
  abbrev pub IsMetBy : List (Tree Op) → Address → Type 0
  IsMetBy es a = IsMet [] w (expanded_sides es (assume_of a))

  -- what lets stand for is all that counts
  sum_moves : (es fs : List (Tree Op)) (base : Tree Op) (d : ℕ) → substituted es base ≡ substituted fs base → substituted es (sum_term base d) ≡ substituted fs (sum_term base d)
  sum_moves es fs base d e = by (d == 0)
    where
      by : (b : Bool) → substituted es (if b then base else o2 Addq base (constant d)) ≡ substituted fs (if b then base else o2 Addq base (constant d))
      by true = e
      by false = ap (λ t. o2 Addq t (constant d)) e

  pub met_moves : (es fs : List (Tree Op)) (a : Address) → substituted es (value_term a.value) ≡ substituted fs (value_term a.value) → IsMetBy es a → IsMetBy fs a
  met_moves es fs a e h = sym (ap (λ t. V w (o2 And t (constant (2 ^ a.power - 1)))) (sum_moves es fs (value_term a.value) a.displacement e)) ∙ h

  module _ (s : Lifting) (m : MachineState) (h : Fits w s m) (are : AreWords m) (rb : ℕ) (low : rb < 32) (disp : ℤ) where
    abbrev there : ℕ → Address
    there n = multiple_from (latest_of s rb) (sign_extended disp) n

    low_bits : (n : ℕ) → n < 4 → V w (substituted (terms_of s) (o2 And (sum_term (value_term (there n).value) (there n).displacement) (constant (2 ^ n - 1)))) ≡ word (place_of m rb disp % 2 ^ n)
    low_bits n few =
        let x = are.words rb low in
        let d = (there n).displacement in
        ap (λ y. word (value_at (ops.Operate And) (as_word y) (2 ^ n - 1) 0)) (sum_is w (terms_of s) (value_term (latest_of s rb)) (slice_index m.registers rb) d x (h.registers rb low))
        ∙ ap word (and_value ((slice_index m.registers rb + d) % 2 ^ 64) (2 ^ n - 1) 0 ∙ and_mask ((slice_index m.registers rb + d) % 2 ^ 64) n
        ∙ rest_is (slice_index m.registers rb) (sign_extended disp) n few ∙ ap (λ y. y % 2 ^ n) (one_times (slice_index m.registers rb) (sign_extended disp)))

    pub met_is : (n : ℕ) → n < 4 → IsMetBy (terms_of s) (there n) → place_of m rb disp % 2 ^ n ≡ 0
    met_is n few met = ap as_word (sym (low_bits n few) ∙ met)

    pub is_met : (n : ℕ) → n < 4 → place_of m rb disp % 2 ^ n ≡ 0 → IsMetBy (terms_of s) (there n)
    is_met n few e = low_bits n few ∙ ap word e

    -- an access of 2 to the n bytes; b says that it never traps
    abbrev is_off : ℕ → Bool → Bool
    is_off n b = not (is_multiple n (place_of m rb disp)) && not b

    abbrev asked : ℕ → Bool → Option Address
    asked n b = option_map (multiple_from (latest_of s rb) (sign_extended disp)) (if b then None else needed_alignment n)

    safe : (n : ℕ) (b : Bool) → n < 4 → ((a : Address) → asked n b ≡ Some a → IsMetBy (terms_of s) a) → is_off n b ≡ false
    safe zero b few met = refl
    safe (suc n) true few met = and_false (not (is_multiple (suc n) (place_of m rb disp)))
    safe (suc n) false few met = ap (λ r. not (r == 0) && true) (met_is (suc n) few (met (there (suc n)) refl))

    unsafe : (n : ℕ) (b : Bool) → n < 4 → is_off n b ≡ false → (a : Address) → asked n b ≡ Some a → IsMetBy (terms_of s) a
    unsafe zero true few off a e = absurd (none-some a e)
    unsafe zero false few off a e = absurd (none-some a e)
    unsafe (suc n) true few off a e = absurd (none-some a e)
    unsafe (suc n) false few off a e =
        subst (IsMetBy (terms_of s)) (same_Some (there (suc n)) a e) (is_met (suc n) few (elim (eqb_tells (place_of m rb disp % 2 ^ suc n) 0) [
          | inl k ↦ k.1
          | inr k ↦ true_false (ap (λ b. not b && true) (sym k.0) ∙ off)
        ]))

  low_access : (access : Access) → accesses.alignment access < 4
  low_access access_kinds.Quad = omega arith
  low_access access_kinds.Byte = omega arith
  low_access access_kinds.Word = omega arith
  low_access access_kinds.Long = omega arith

  -- ---- when an instruction traps

  module _ (s : Lifting) (m : MachineState) (h : Fits w s m) (are : AreWords m) where
    pub no_trap : (i : Instr) → IsWellFormed i → ((a : Address) → trapping_address i s ≡ Some a → IsMetBy (terms_of s) a) → traps i m ≡ false
    no_trap (Operate op ra second rc) wf met = refl
    no_trap (Lda ra rb disp) wf met = refl
    no_trap (Ldah ra rb disp) wf met = refl
    no_trap (Load access ra rb disp) wf met = safe s m h are rb wf.1 disp (accesses.alignment access) (ra == 31) (low_access access) met
    no_trap (Store access ra rb disp) wf met =
        sym (and_true (not (is_multiple (accesses.alignment access) (place_of m rb disp))))
        ∙ safe s m h are rb wf.1 disp (accesses.alignment access) false (low_access access) met
    no_trap (Ldq ra rb disp) wf met = safe s m h are rb wf.1 disp 3 (ra == 31) (omega arith) met
    no_trap (Stq ra rb disp) wf met =
        sym (and_true (not (is_multiple 3 (place_of m rb disp)))) ∙ safe s m h are rb wf.1 disp 3 false (omega arith) met
    no_trap (Beq ra disp) wf met = refl

    pub met_without_trap : (i : Instr) → IsWellFormed i → traps i m ≡ false → (a : Address) → trapping_address i s ≡ Some a → IsMetBy (terms_of s) a
    met_without_trap (Operate op ra second rc) wf off a e = absurd (none-some a e)
    met_without_trap (Lda ra rb disp) wf off a e = absurd (none-some a e)
    met_without_trap (Ldah ra rb disp) wf off a e = absurd (none-some a e)
    met_without_trap (Load access ra rb disp) wf off a e = unsafe s m h are rb wf.1 disp (accesses.alignment access) (ra == 31) (low_access access) off a e
    met_without_trap (Store access ra rb disp) wf off a e =
        unsafe s m h are rb wf.1 disp (accesses.alignment access) false (low_access access)
        (and_true (not (is_multiple (accesses.alignment access) (place_of m rb disp))) ∙ off) a e
    met_without_trap (Ldq ra rb disp) wf off a e = unsafe s m h are rb wf.1 disp 3 (ra == 31) (omega arith) off a e
    met_without_trap (Stq ra rb disp) wf off a e =
        unsafe s m h are rb wf.1 disp 3 false (omega arith) (and_true (not (is_multiple 3 (place_of m rb disp))) ∙ off) a e
    met_without_trap (Beq ra disp) wf off a e = absurd (none-some a e)
