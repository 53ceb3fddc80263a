-- The rows by which the graph knows of which numbers addresses are multiples: they are rows of a launch graph.
use Rattle.std.proofs.Common.{◌≡◌, ℕ, zero, suc, ℤ, pos, negsuc, ◌-◌, ◌^◌, ◌<◌, ◌≤◌, ◌==◌, Bool, true, false, List, [], ◌∷◌, ◌++◌, length, Option, Some, None, refl, sym, ◌∙◌, subst, arith, fold, is_some, if◌then◌else◌, slice_index, All, Contains, FitsSigned, w16}
use Rattle.std.proofs.lemmas.List.Elements.{All-head, All-tail, All-weaker}
use Rattle.std.proofs.lemmas.Option.{none-some}
use Rattle.word_ops.specs.Meanings.{constant_in}
use Rattle.word_ops.specs.Words.{IsWord}
use Rattle.word_ops.specs.declared.operates.Operate.TheVariants.{And}
use Rattle.word_ops.specs.declared.operators.WordOp.{WordOp}
use Rattle.word_ops.specs.declared.operators.WordOp.TheVariants as words
use Rattle.word_ops.specs.declared.sorts.Access.{Access}
use Rattle.word_ops.specs.declared.sorts.Op.{Op}
use Rattle.word_ops.specs.declared.sorts.Op.TheVariants as ops
use Rattle.word_ops.specs.declared.sorts.Sort.TheVariants as sorts
use Rattle.graph_meaning.specs.Graphs.{plain_row}
use Rattle.graph_meaning.specs.WellFormed.{declared_index, next_class, register_of_input}
use Rattle.graph_meaning.specs.declared.graphs.LaunchRow.{LaunchRow}
use Rattle.code_check.specs.Terms.{sign_extended}
use Rattle.code_lift.specs.declared.lifting.Address.{Address}
use Rattle.code_lift.specs.declared.lifting.Value.{Value}
use Rattle.code_lift.specs.declared.lifting.Value.TheVariants.{Entry, Let, Zero}
use Rattle.own_graph.specs.Own.{address_part, and_op, number, stands_in, value_part, with_address, with_low_bits, with_multiple, with_row_of, with_zero}
use Rattle.own_graph.specs.Rows.{applied_class, class_in, class_of_part, with_applied, with_leaves}
use Rattle.own_graph.specs.declared.operands.Part.{Part}
use Rattle.own_graph.specs.declared.operands.Part.TheVariants.{Class}
use Rattle.own_graph.proofs.FoundRows.{IsLonger, applied_behind, have_rows, leaves_behind, longer_still, not_longer, row_of_behind}
use Rattle.own_graph.proofs.OwnRows.{AreAlike, AreOwnRows, HasSort, IsOwnOp, IsPart, TakesSorts, applied_keeps, applied_sort, below_next, leaves_keep, own_push, part_sort, part_stays_own, sort_stays}

-- ---- operators

own_other : (op : Op) → constant_in op ≡ None → register_of_input op ≡ None → declared_index op ≡ None → IsOwnOp op
own_other op e f g = record { word = λ n h. absurd (none-some n (sym e ∙ h)); register = λ n h. absurd (none-some n (sym f ∙ h)); undeclared = g }

pub own_word : (op : WordOp) → IsOwnOp (ops.Word op)
own_word op = own_other (ops.Word op) refl refl refl

pub own_select : (access : Access) → IsOwnOp (ops.Select access)
own_select access = own_other (ops.Select access) refl refl refl

pub own_load : (access : Access) → IsOwnOp (ops.Load access)
own_load access = own_other (ops.Load access) refl refl refl

pub own_store : (access : Access) → IsOwnOp (ops.Store access)
own_store access = own_other (ops.Store access) refl refl refl

pub own_put : (access : Access) → IsOwnOp (ops.Put access)
own_put access = own_other (ops.Put access) refl refl refl

pub own_constant : (n : ℕ) → IsWord n → IsOwnOp (ops.Constant n)
own_constant n low = record {
  word = λ m e. (let k : n ≡ m = cc in subst IsWord k low);
  register = λ m e. absurd (none-some m e);
  undeclared = refl;
}

pub own_input_op : (r : ℕ) → r < 31 → IsOwnOp (ops.Input r)
own_input_op r low = record {
  word = λ m e. absurd (none-some m e);
  register = λ m e. (let k : r ≡ m = cc in subst (λ q. q < 31) k low);
  undeclared = refl;
}

pub own_entry : IsOwnOp ops.Entry
own_entry = own_other ops.Entry refl refl refl

pub number_is : (rows : List LaunchRow) (n : ℕ) → IsWord n → IsPart rows sorts.Word (number n)
number_is rows n low = (own_constant n low, refl, refl)

-- ---- the row that is 0

pub two_sorts : (rows : List LaunchRow) (a b : ℕ) → HasSort rows sorts.Word a → HasSort rows sorts.Word b → TakesSorts rows and_op (a ∷ b ∷ [])
two_sorts rows a b h k zero l = h
two_sorts rows a b h k (suc zero) l = k
two_sorts rows a b h k (suc (suc at)) l = absurd (omega (arith, l))

module _ (rows : List LaunchRow) (zero_class : ℕ) (own : AreOwnRows rows) (is_zero : HasSort rows sorts.Word zero_class) where
  alike_zero : (a b : ℕ) (s : LaunchRow) → Contains rows s → s.class ≡ zero_class → AreAlike s (plain_row zero_class and_op (a ∷ b ∷ []))
  alike_zero a b s h e =
      let same = own.alike s is_zero.1 h (is_zero.0, is_zero.2, is_zero.3) (e ∙ sym is_zero.4.0) in
      record { sort = same.sort ∙ is_zero.4.1; constant = λ m n f g. absurd (none-some n g) }

  pub and_keeps : (a b : ℕ) → HasSort rows sorts.Word a → HasSort rows sorts.Word b → AreOwnRows (with_row_of zero_class rows and_op (a ∷ b ∷ []))
  and_keeps a b h k = by (class_in rows and_op (a ∷ b ∷ [])) refl
    where
      next : zero_class ≤ next_class rows
      next = let l = below_next rows is_zero.1 (is_zero.0, is_zero.2, is_zero.3) in omega (arith, l, is_zero.4.0)

      by : (o : Option ℕ) → class_in rows and_op (a ∷ b ∷ []) ≡ o → AreOwnRows (if is_some o then rows else rows ++ plain_row zero_class and_op (a ∷ b ∷ []) ∷ [])
      by (Some class) e = own
      by None e =
          own_push rows (plain_row zero_class and_op (a ∷ b ∷ [])) own
          (record { op_is = own_word (words.Operate And); arity = refl; operands = two_sorts rows a b h k; unnamed = refl })
          e next (alike_zero a b)

  pub zero_keeps : (a mask : ℕ) → HasSort rows sorts.Word a → HasSort rows sorts.Word mask → AreOwnRows (with_zero rows zero_class a mask)
  zero_keeps a mask h k = by (stands_in rows zero_class and_op (a ∷ mask ∷ [])) (is_some (class_in rows and_op (a ∷ mask ∷ [])))
    where
      by : (b c : Bool) → AreOwnRows (if b then rows else if c then with_row_of zero_class rows and_op (mask ∷ a ∷ []) else with_row_of zero_class rows and_op (a ∷ mask ∷ []))
      by true c = own
      by false true = and_keeps mask a k h
      by false false = and_keeps a mask h k

pub zero_behind : (rows : List LaunchRow) (zero_class a mask : ℕ) → IsLonger rows (with_zero rows zero_class a mask)
zero_behind rows zero_class a mask = by (stands_in rows zero_class and_op (a ∷ mask ∷ [])) (is_some (class_in rows and_op (a ∷ mask ∷ [])))
  where
    by : (b c : Bool) → IsLonger rows (if b then rows else if c then with_row_of zero_class rows and_op (mask ∷ a ∷ []) else with_row_of zero_class rows and_op (a ∷ mask ∷ []))
    by true c = not_longer rows
    by false true = row_of_behind zero_class rows and_op (mask ∷ a ∷ [])
    by false false = row_of_behind zero_class rows and_op (a ∷ mask ∷ [])

-- ---- the low bits of an address

abbrev three_parts : Part → ℕ → List Part
three_parts address mask = address ∷ number mask ∷ number 0 ∷ []

pub low_bits_keep : (rows : List LaunchRow) (address : Part) (mask : ℕ) → AreOwnRows rows → IsPart rows sorts.Word address → IsWord mask → AreOwnRows (with_low_bits rows address mask)
low_bits_keep rows address mask own is low =
    let parts = three_parts address mask in
    let all = with_leaves rows parts in
    let longer = leaves_behind rows parts in
    zero_keeps all (class_of_part all (number 0)) (leaves_keep (λ at. sorts.Word) rows parts own (is, (number_is rows mask low, (number_is rows 0 (omega arith), tt))))
    (part_sort all sorts.Word (number 0) (number_is all 0 (omega arith)) (have_rows rows parts 2 (Class 0) (omega arith)))
    (class_of_part all address) (class_of_part all (number mask))
    (part_sort all sorts.Word address (part_stays_own rows all sorts.Word address longer is) (have_rows rows parts 0 (Class 0) (omega arith)))
    (part_sort all sorts.Word (number mask) (number_is all mask low) (have_rows rows parts 1 (Class 0) (omega arith)))

pub low_bits_behind : (rows : List LaunchRow) (address : Part) (mask : ℕ) → IsLonger rows (with_low_bits rows address mask)
low_bits_behind rows address mask =
    let parts = three_parts address mask in
    let all = with_leaves rows parts in
    longer_still rows all (with_low_bits rows address mask) (leaves_behind rows parts)
    (zero_behind all (class_of_part all (number 0)) (class_of_part all address) (class_of_part all (number mask)))

-- ---- the sum of an address

pub address_keeps : (rows : List LaunchRow) (base : Part) (n : ℕ) → AreOwnRows rows → IsPart rows sorts.Word base → IsWord n → AreOwnRows (with_address rows base n)
address_keeps rows base n own is low = by (n == 0)
  where
    by : (b : Bool) → AreOwnRows (if b then rows else with_applied rows (ops.Word words.Lda) (base ∷ number n ∷ []))
    by true = own
    by false = applied_keeps rows (ops.Word words.Lda) (base ∷ number n ∷ []) own (own_word words.Lda) refl (is, (number_is rows n low, tt))

pub address_behind : (rows : List LaunchRow) (base : Part) (n : ℕ) → IsLonger rows (with_address rows base n)
address_behind rows base n = by (n == 0)
  where
    by : (b : Bool) → IsLonger rows (if b then rows else with_applied rows (ops.Word words.Lda) (base ∷ number n ∷ []))
    by true = not_longer rows
    by false = applied_behind rows (ops.Word words.Lda) (base ∷ number n ∷ [])

pub address_is : (rows : List LaunchRow) (base : Part) (n : ℕ) → IsPart rows sorts.Word base → IsPart (with_address rows base n) sorts.Word (address_part rows base n)
address_is rows base n is = by (n == 0)
  where
    by : (b : Bool) → IsPart (if b then rows else with_applied rows (ops.Word words.Lda) (base ∷ number n ∷ [])) sorts.Word (if b then base else Class (applied_class rows (ops.Word words.Lda) (base ∷ number n ∷ [])))
    by true = is
    by false = applied_sort rows (ops.Word words.Lda) (base ∷ number n ∷ [])

-- ---- of addresses

-- what the value of a register is where the classes are given: an input, 0, or a class of a word
abbrev pub IsKnownValue : List LaunchRow → List ℕ → Value → Type 0
IsKnownValue rows values (Entry r) = r < 31
IsKnownValue rows values Zero = Unit {0}
IsKnownValue rows values (Let n) = (n < length values) × HasSort rows sorts.Word (slice_index values n)

pub extended_word : (disp : ℤ) → FitsSigned w16 disp → IsWord (sign_extended disp)
extended_word (pos n) h = let l = h.sfits in omega (arith, l)
extended_word (negsuc n) h = omega arith

-- the word of a displacement
pub record IsShort (n : ℕ) : Type 0 where
  pub disp : ℤ
  pub fits : FitsSigned w16 disp
  pub is : n ≡ sign_extended disp

pub short_word : (n : ℕ) → IsShort n → IsWord n
short_word n h = subst IsWord (sym h.is) (extended_word h.disp h.fits)

pub record IsKnownAddress (rows : List LaunchRow) (values : List ℕ) (a : Address) : Type 0 where
  pub value : IsKnownValue rows values a.value
  pub short : IsShort a.displacement
  pub power : a.power < 4

pub value_is : (rows : List LaunchRow) (values : List ℕ) (v : Value) → IsKnownValue rows values v → IsPart rows sorts.Word (value_part values v)
value_is rows values (Entry r) h = (own_input_op r h, refl, refl)
value_is rows values Zero h = number_is rows 0 (omega arith)
value_is rows values (Let n) h = h.1

pub value_stays : (rows longer : List LaunchRow) (values : List ℕ) (v : Value) → IsLonger rows longer → IsKnownValue rows values v → IsKnownValue longer values v
value_stays rows longer values (Entry r) h k = k
value_stays rows longer values Zero h k = k
value_stays rows longer values (Let n) h k = (k.0, sort_stays rows longer sorts.Word (slice_index values n) h k.1)

pub address_stays : (rows longer : List LaunchRow) (values : List ℕ) → IsLonger rows longer → (a : Address) → IsKnownAddress rows values a → IsKnownAddress longer values a
address_stays rows longer values h a k = record { value = value_stays rows longer values a.value h k.value; short = k.short; power = k.power }

pub low_mask : (power : ℕ) → power < 4 → IsWord (2 ^ power - 1)
low_mask zero l = omega arith
low_mask (suc zero) l = omega arith
low_mask (suc (suc zero)) l = omega arith
low_mask (suc (suc (suc zero))) l = omega arith
low_mask (suc (suc (suc (suc power)))) l = absurd (omega (arith, l))

pub multiple_keeps : (rows : List LaunchRow) (values : List ℕ) (a : Address) → AreOwnRows rows → IsKnownAddress rows values a → AreOwnRows (with_multiple values rows a)
multiple_keeps rows values a own is =
    let base = value_part values a.value in
    let base_is = value_is rows values a.value is.value in
    low_bits_keep (with_address rows base a.displacement) (address_part rows base a.displacement) (2 ^ a.power - 1)
    (address_keeps rows base a.displacement own base_is (short_word a.displacement is.short))
    (address_is rows base a.displacement base_is) (low_mask a.power is.power)

pub multiple_behind : (rows : List LaunchRow) (values : List ℕ) (a : Address) → IsLonger rows (with_multiple values rows a)
multiple_behind rows values a =
    let base = value_part values a.value in
    longer_still rows (with_address rows base a.displacement) (with_multiple values rows a) (address_behind rows base a.displacement)
    (low_bits_behind (with_address rows base a.displacement) (address_part rows base a.displacement) (2 ^ a.power - 1))

pub multiples_keep : (rows : List LaunchRow) (values : List ℕ) (addresses : List Address) → AreOwnRows rows → All (IsKnownAddress rows values) addresses → AreOwnRows (fold (with_multiple values) rows addresses)
multiples_keep rows values [] own is = own
multiples_keep rows values (a ∷ addresses) own is =
    let first = with_multiple values rows a in
    multiples_keep first values addresses (multiple_keeps rows values a own (All-head (IsKnownAddress rows values) a addresses is))
    (All-weaker (IsKnownAddress rows values) (IsKnownAddress first values) (address_stays rows first values (multiple_behind rows values a)) addresses (All-tail (IsKnownAddress rows values) a addresses is))

pub multiples_behind : (rows : List LaunchRow) (values : List ℕ) (addresses : List Address) → IsLonger rows (fold (with_multiple values) rows addresses)
multiples_behind rows values [] = not_longer rows
multiples_behind rows values (a ∷ addresses) =
    let first = with_multiple values rows a in
    longer_still rows first (fold (with_multiple values) first addresses) (multiple_behind rows values a) (multiples_behind first values addresses)
