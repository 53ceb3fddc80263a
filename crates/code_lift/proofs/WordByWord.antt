-- Lifting word by word.
use Rattle.std.proofs.Common.{◌≡◌, ℕ, suc, ◌+◌, ◌<◌, List, [], ◌∷◌, ◌++◌, ◌==◌, length, take, refl, sym, ◌∙◌, ap, arith, Bool, true, false, Option, Some, None}
use Rattle.std.specs.Prelude.{All, IfSome, filter_map, slice_index, option_map, if◌then◌else◌}
use Rattle.std.specs.List.{cons_option, list_any}
use Rattle.std.proofs.lemmas.List.{length-take-le, take_more}
use Rattle.std.proofs.lemmas.List.Elements.{All-append, All-cons, All-head, All-nil, All-tail, All-take, filter_map-append}
use Rattle.std.proofs.lemmas.Option.{none-some}
use Rattle.word_ops.specs.Memory as accesses
use Rattle.word_ops.specs.declared.sorts.Access.{Access}
use Rattle.word_ops.specs.declared.sorts.Access.TheVariants as access_kinds
use Rattle.alpha_encode.specs.Decoded.{decoded}
use Rattle.alpha_encode.specs.declared.instructions.Instr.{Instr}
use Rattle.alpha_encode.specs.declared.instructions.Instr.TheVariants.{Operate, Lda, Ldah, Load, Store, Ldq, Stq, Beq}
use Rattle.code_check.specs.Terms.{alignment, needed_alignment, sign_extended}
use Rattle.code_lift.specs.Lifted.{Lifting, multiple_from, at_start, counts, is_same_address, latest_of, lift_step, lifted, lifted_by, lifted_from, trapping_address, with_address}
use Rattle.code_lift.specs.WellFormed.{IsPlainWord}
use Rattle.code_lift.specs.declared.lifting.Address.{Address}
use Rattle.code_lift.specs.declared.lifting.Value.{Value}

-- ---- one instruction more

pub from_more : (at : ℕ) (is : List Instr) (i : Instr) (s : Lifting) → lifted_from at (is ++ i ∷ []) s ≡ lift_step (at + length is) i (lifted_from at is s)
from_more at [] i s = (let same : at ≡ at + 0 = omega arith in ap (λ n. lift_step n i s) same)
from_more at (j ∷ is) i s =
    let same : at + 1 + length is ≡ at + suc (length is) = omega arith in
    from_more (at + 1) is i (lift_step at j s) ∙ ap (λ n. lift_step n i (lifted_from (at + 1) is (lift_step at j s))) same

-- each word is an instruction
pub as_many : (words : List ℕ) → All IsPlainWord words → length (filter_map decoded words) ≡ length words
as_many [] plain = refl
as_many (w ∷ words) plain =
    ap (λ o. length (cons_option o (filter_map decoded words))) (All-head IsPlainWord w words plain).is
    ∙ ap suc (as_many words (All-tail IsPlainWord w words plain))

pub lifted_behind : (words : List ℕ) (word : ℕ) (i : Instr) → All IsPlainWord words → decoded word ≡ Some i → lifted (words ++ word ∷ []) ≡ lift_step (length words) i (lifted words)
lifted_behind words word i plain e =
    let first = filter_map decoded words in
    let instrs : filter_map decoded (words ++ word ∷ []) ≡ first ++ i ∷ [] = filter_map-append decoded words (word ∷ []) ∙ ap (λ o. first ++ cons_option o []) e in
    let count : length first ≡ length words = as_many words plain in
    let at : 0 + length first ≡ length words = omega (arith, count) in
    ap (λ is. lifted_from 0 is at_start) instrs ∙ from_more 0 first i at_start ∙ ap (λ n. lift_step n i (lifted words)) at

pub lifted_more : (words : List ℕ) (k : ℕ) (i : Instr) → k < length words → All IsPlainWord words → decoded (slice_index words k) ≡ Some i → lifted (take (k + 1) words) ≡ lift_step k i (lifted (take k words))
lifted_more words k i lt plain e =
    let first = filter_map decoded (take k words) in
    let instrs : filter_map decoded (take (k + 1) words) ≡ first ++ i ∷ [] =
    ap (filter_map decoded) (take_more words k 0 lt) ∙ filter_map-append decoded (take k words) (slice_index words k ∷ [])
    ∙ ap (λ o. first ++ cons_option o []) e in
    let count : length first ≡ k = as_many (take k words) (All-take IsPlainWord k words plain) ∙ length-take-le k words (omega (arith, lt)) in
    let at : 0 + length first ≡ k = omega (arith, count) in
    ap (λ is. lifted_from 0 is at_start) instrs ∙ from_more 0 first i at_start ∙ ap (λ n. lift_step n i (lifted (take k words))) at

pub never_none : (words : List ℕ) (k : ℕ) → k < length words → All IsPlainWord words → decoded (slice_index words k) ≡ None → ⊥
never_none words k lt plain e = none-some (plain k 0 lt).instr (sym e ∙ (plain k 0 lt).is)

-- ---- how small the powers are

abbrev IsSmall : Address → Type 0
IsSmall a = a.power < 4

pub few_with : (before : List Address) (o : Option Address) → All IsSmall before → IfSome o IsSmall → All IsSmall (with_address before o)
few_with before None h e = h
few_with before (Some a) h e = by (list_any (is_same_address a) before)
  where
    by : (b : Bool) → All IsSmall (if b then before else before ++ a ∷ [])
    by true = h
    by false = All-append IsSmall before (a ∷ []) h (All-cons IsSmall a [] e (All-nil IsSmall))

abbrev Low : Option ℕ → Type 0
Low o = IfSome o (λ n. n < 4)

low_access : (access : Access) → Low (needed_alignment (accesses.alignment access))
low_access access_kinds.Quad = tt
low_access access_kinds.Byte = tt
low_access access_kinds.Word = omega arith
low_access access_kinds.Long = omega arith

low_load : (access : Access) (b : Bool) → Low (if b then None else needed_alignment (accesses.alignment access))
low_load access true = tt
low_load access false = low_access access

low_quad : (b : Bool) → Low (if b then None else Some 3)
low_quad true = tt
low_quad false = omega arith

small : (v : Value) (n : ℕ) (o : Option ℕ) → Low o → IfSome (option_map (multiple_from v n) o) IsSmall
small v n None h = tt
small v n (Some k) h = h

small_address : (i : Instr) (s : Lifting) → IfSome (trapping_address i s) IsSmall
small_address (Operate op ra second rc) s = tt
small_address (Lda ra rb disp) s = tt
small_address (Ldah ra rb disp) s = tt
small_address (Load access ra rb disp) s = small (latest_of s rb) (sign_extended disp) (alignment (Load access ra rb disp)) (low_load access (ra == 31))
small_address (Store access ra rb disp) s = small (latest_of s rb) (sign_extended disp) (alignment (Store access ra rb disp)) (low_access access)
small_address (Ldq ra rb disp) s = small (latest_of s rb) (sign_extended disp) (alignment (Ldq ra rb disp)) (low_quad (ra == 31))
small_address (Stq ra rb disp) s = small (latest_of s rb) (sign_extended disp) (Some 3) (omega arith)
small_address (Beq ra disp) s = tt

small_step : (at : ℕ) (i : Instr) (s : Lifting) → All IsSmall s.addresses → All IsSmall (lift_step at i s).addresses
small_step at i s h = by (counts i)
  where
    by : (b : Bool) → All IsSmall (if b then lifted_by at i s else s).addresses
    by true = few_with s.addresses (trapping_address i s) h (small_address i s)
    by false = h

small_from : (at : ℕ) (is : List Instr) (s : Lifting) → All IsSmall s.addresses → All IsSmall (lifted_from at is s).addresses
small_from at [] s h = h
small_from at (i ∷ is) s h = small_from (at + 1) is (lift_step at i s) (small_step at i s h)

pub small_powers : (words : List ℕ) → All (λ (a : Address). a.power < 4) (lifted words).addresses
small_powers words = small_from 0 (filter_map decoded words) at_start (All-nil IsSmall)
