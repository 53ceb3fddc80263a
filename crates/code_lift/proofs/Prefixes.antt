-- Fewer words have no more inputs and assumptions, and fewer registers no more sets.
use Rattle.std.proofs.Common.{◌≡◌, ◌≢◌, ℕ, ◌+◌, ◌<◌, ◌≤◌, ◌==◌, ◌++◌, ◌⊎◌, if◌then◌else◌, cond, Bool, true, false, Option, None, Some, List, [], ◌∷◌, length, map, set, refl, sym, ap, ◌∙◌, subst, arith, inl, inr}
use Rattle.std.specs.Prelude.{AllPairs, filter, filter_map, slice_index_or}
use Rattle.std.specs.List.{list_any}
use Rattle.std.proofs.lemmas.Bool.{cases_lt}
use Rattle.std.proofs.lemmas.Bool.Decides.{Decides-eqb}
use Rattle.std.proofs.lemmas.List.{append-nil, append_assoc, get_or-set_other, get_or-set_same, get_or_past, length-append, length-map}
use Rattle.std.proofs.lemmas.List.Elements.{filter-append, filter_map-append}
use Rattle.alpha_encode.specs.Decoded.{decoded}
use Rattle.alpha_encode.specs.declared.instructions.Instr.{Instr}
use Rattle.goal_reader.proofs.Walks.{register_new}
use Rattle.register_assign.specs.Obeys.{reads}
use Rattle.code_lift.specs.Lifted.{Lifting, at_start, counts, first_numbers, has_let, inputs_read, is_entry, is_same_address, lift_step, lifted, lifted_by, lifted_from, memory_sets, read_also, register_set, sets_of, trapping_address, with_address}
use Rattle.code_lift.specs.LiftRoles.{each_once}
use Rattle.code_lift.specs.declared.lifting.Address.{Address}
use Rattle.code_lift.specs.declared.lifting.Value.{Value}
use Rattle.code_lift.specs.declared.lifting.Value.TheVariants.{Zero}

-- ---- lists

-- where more pass, as many or more are kept
pub kept_more : (p q : ℕ → Bool) → ((r : ℕ) → p r ≡ true → q r ≡ true) → (xs : List ℕ) → length (filter p xs) ≤ length (filter q xs)
kept_more p q more [] = omega arith
kept_more p q more (x ∷ xs) = by (p x) (q x) (more x) (kept_more p q more xs)
  where
    by : (a b : Bool) → (a ≡ true → b ≡ true) → length (filter p xs) ≤ length (filter q xs) → length (cond a (x ∷ filter p xs) (filter p xs)) ≤ length (cond b (x ∷ filter q xs) (filter q xs))
    by true true h l = omega (arith, l)
    by true false h l = (let e = h refl in cc)
    by false true h l = omega (arith, l)
    by false false h l = l

-- ---- words

abbrev pub IsRead : Lifting → ℕ → Type 0
IsRead s r = slice_index_or s.is_read r false ≡ true

set_keeps : (flags : List Bool) (x r : ℕ) → slice_index_or flags r false ≡ true → slice_index_or (set flags x true) r false ≡ true
set_keeps flags x r e = by (r == x) refl
  where
    within : (n : ℕ) → (n < length flags) ⊎ (length flags ≤ n) → slice_index_or flags n false ≡ true → n < length flags
    within n (inl l) h = l
    within n (inr g) h = (let f : false ≡ true = sym (get_or_past flags n false g) ∙ h in cc)

    by : (b : Bool) → (r == x) ≡ b → slice_index_or (set flags x true) r false ≡ true
    by true t =
        (let is : r ≡ x = (Decides-eqb r x).0 t in
        let l = within r (cases_lt r (length flags)) e in
        ap (λ n. slice_index_or (set flags n true) r false) (sym is) ∙ get_or-set_same flags r true false l)
    by false f = get_or-set_other flags x r true false (λ is. (let g : false ≡ true = sym f ∙ (Decides-eqb r x).1 is in cc)) ∙ e

pub read_keeps : (rs : List ℕ) (latest : List Value) (flags : List Bool) (r : ℕ) → slice_index_or flags r false ≡ true → slice_index_or (read_also rs latest flags) r false ≡ true
read_keeps [] latest flags r e = e
read_keeps (x ∷ rs) latest flags r e = read_keeps rs latest (if is_entry (slice_index_or latest x Zero) then set flags x true else flags) r (by (is_entry (slice_index_or latest x Zero)))
  where
    by : (b : Bool) → slice_index_or (if b then set flags x true else flags) r false ≡ true
    by true = set_keeps flags x r e
    by false = e

step_keeps : (at : ℕ) (i : Instr) (s : Lifting) (r : ℕ) → IsRead s r → IsRead (lift_step at i s) r
step_keeps at i s r e = by (counts i)
  where
    by : (b : Bool) → IsRead (if b then lifted_by at i s else s) r
    by true = read_keeps (reads i) s.latest s.is_read r e
    by false = e

pub from_keeps : (at : ℕ) (is : List Instr) (s : Lifting) (r : ℕ) → IsRead s r → IsRead (lifted_from at is s) r
from_keeps at [] s r e = e
from_keeps at (i ∷ is) s r e = from_keeps (at + 1) is (lift_step at i s) r (step_keeps at i s r e)

with_more : (before : List Address) (o : Option Address) → length before ≤ length (with_address before o)
with_more before None = omega arith
with_more before (Some a) = by (list_any (is_same_address a) before)
  where
    by : (b : Bool) → length before ≤ length (if b then before else before ++ a ∷ [])
    by true = omega arith
    by false = (let l = length-append before (a ∷ []) in omega (arith, l))

step_more : (at : ℕ) (i : Instr) (s : Lifting) → length s.addresses ≤ length (lift_step at i s).addresses
step_more at i s = by (counts i)
  where
    by : (b : Bool) → length s.addresses ≤ length (if b then lifted_by at i s else s).addresses
    by true = with_more s.addresses (trapping_address i s)
    by false = omega arith

addresses_more : (at : ℕ) (is : List Instr) (s : Lifting) → length s.addresses ≤ length (lifted_from at is s).addresses
addresses_more at [] s = omega arith
addresses_more at (i ∷ is) s = (let one = step_more at i s in let rest = addresses_more (at + 1) is (lift_step at i s) in omega (arith, one, rest))

from_both : (at : ℕ) (is js : List Instr) (s : Lifting) → (n : ℕ) × (lifted_from at (is ++ js) s ≡ lifted_from n js (lifted_from at is s))
from_both at [] js s = (at, refl)
from_both at (i ∷ is) js s = from_both (at + 1) is js (lift_step at i s)

-- the words of the front are known behind fewer inputs and assumptions
pub front_inputs : (xs ys : List ℕ) → length (inputs_read (lifted xs)) ≤ length (inputs_read (lifted (xs ++ ys)))
front_inputs xs ys =
    let js = filter_map decoded ys in
    let both = from_both 0 (filter_map decoded xs) js at_start in
    let whole : lifted (xs ++ ys) ≡ lifted_from both.0 js (lifted xs) = ap (λ is. lifted_from 0 is at_start) (filter_map-append decoded xs ys) ∙ both.1 in
    subst (λ (s : Lifting). length (inputs_read (lifted xs)) ≤ length (inputs_read s)) (sym whole)
    (kept_more (λ r. slice_index_or (lifted xs).is_read r false) (λ r. slice_index_or (lifted_from both.0 js (lifted xs)).is_read r false) (from_keeps both.0 js (lifted xs)) (first_numbers 31))

pub front_assumes : (xs ys : List ℕ) → length (lifted xs).addresses ≤ length (lifted (xs ++ ys)).addresses
front_assumes xs ys =
    let js = filter_map decoded ys in
    let both = from_both 0 (filter_map decoded xs) js at_start in
    let whole : lifted (xs ++ ys) ≡ lifted_from both.0 js (lifted xs) = ap (λ is. lifted_from 0 is at_start) (filter_map-append decoded xs ys) ∙ both.1 in
    subst (λ (s : Lifting). length (lifted xs).addresses ≤ length s.addresses) (sym whole) (addresses_more both.0 js (lifted xs))

-- ---- sets

pub count_sets : (s : Lifting) (out : List ℕ) → length (sets_of s out) ≡ length (memory_sets s.memory) + length (filter (has_let s) out)
count_sets s out =
    let both = length-append (memory_sets s.memory) (map (register_set s) (filter (has_let s) out)) in
    let many = length-map (filter (has_let s) out) (register_set s) in
    omega (arith, both, many)

pub front_sets : (s : Lifting) (xs ys : List ℕ) → length (sets_of s xs) ≤ length (sets_of s (xs ++ ys))
front_sets s xs ys =
    let few = count_sets s xs in
    let many = count_sets s (xs ++ ys) in
    let split = ap length (filter-append (has_let s) xs ys) ∙ length-append (filter (has_let s) xs) (filter (has_let s) ys) in
    omega (arith, few, many, split)

-- registers that differ are each there once
pub each_once_all : (before xs : List ℕ) → AllPairs (λ a b. a ≢ b) (before ++ xs) → each_once before xs ≡ before ++ xs
each_once_all before [] h = sym (append-nil before)
each_once_all before (x ∷ xs) h =
    ap (λ b. each_once (if b then before else before ++ x ∷ []) xs) (register_new (before ++ x ∷ xs) before x xs refl h)
    ∙ each_once_all (before ++ x ∷ []) xs (subst (AllPairs (λ a b. a ≢ b)) (sym (append_assoc before (x ∷ []) xs)) h)
    ∙ append_assoc before (x ∷ []) xs
