-- What rows are placed for parts and for addresses, put together from what is placed for each.
use Rattle.std.proofs.Common.{◌≡◌, ℕ, zero, suc, ◌+◌, ◌-◌, ◌*◌, ◌%◌, ◌^◌, ◌<◌, ◌≤◌, ◌==◌, Bool, true, false, Option, Some, None, is_some, unwrap_or, List, [], ◌∷◌, ◌++◌, length, fold, take, All, get_or, refl, sym, ap, ap₂, ◌∙◌, arith, if◌then◌else◌}
use Rattle.std.proofs.lemmas.List.{take_more}
use Rattle.std.proofs.lemmas.List.Elements.{All-contains}
use Rattle.word_ops.specs.declared.operators.WordOp.TheVariants.{Lda}
use Rattle.word_ops.specs.declared.sorts.Op.{Op}
use Rattle.word_ops.specs.declared.sorts.Op.TheVariants.{Constant, Word}
use Rattle.graph_meaning.specs.Graphs.{plain_row}
use Rattle.graph_meaning.specs.WellFormed.{next_class}
use Rattle.graph_meaning.specs.declared.graphs.LaunchRow.{LaunchRow}
use Rattle.code_lift.specs.declared.lifting.Address.{Address}
use Rattle.own_graph.specs.Own.{address_part, and_op, number, stands_in, value_part, with_address, with_low_bits, with_multiple, with_row_of, with_zero}
use Rattle.own_graph.specs.Rows.{HasRoom, class_in, class_of_part, class_with, classes_of, with_applied, with_leaves}
use Rattle.own_graph.specs.declared.operands.Part.{Part}
use Rattle.own_graph.proofs.FoundRows.{classes_then, found, leaves_then}
use Rattle.own_graph.proofs.OwnRows.{next_few}
use Rattle.own_graph.proofs.Rooms.{applied_room, leaves_room, less_room, room_behind}

-- ---- parts one after another

module _ (rows : List LaunchRow) (parts : List Part) (at : ℕ) (d : Part) (l : at < length parts) where
  abbrev front : List Part
  front = take at parts

  abbrev part : Part
  part = get_or parts at d

  more : take (at + 1) parts ≡ front ++ part ∷ []
  more = take_more parts at d l

  pub rows_more : (old made : List LaunchRow) → old ≡ with_leaves rows front → made ≡ with_leaves old (part ∷ []) → made ≡ with_leaves rows (take (at + 1) parts)
  rows_more old made e f = f ∙ ap (λ rs. with_leaves rs (part ∷ [])) e ∙ sym (leaves_then rows front (part ∷ [])) ∙ ap (with_leaves rows) (sym more)

  pub classes_more : (old : List LaunchRow) (classes all : List ℕ) (class : ℕ) → old ≡ with_leaves rows front → classes ≡ classes_of (with_leaves rows front) front → class ≡ class_of_part old part
      → all ≡ classes ++ class ∷ [] → all ≡ classes_of (with_leaves rows (take (at + 1) parts)) (take (at + 1) parts)
  classes_more old classes all class e f g h =
      let last : class ≡ class_of_part (with_leaves rows front) part = g ∙ ap (λ rs. class_of_part rs part) e in
      h ∙ ap₂ (λ (cs : List ℕ) (k : ℕ). cs ++ k ∷ []) f last
      ∙ sym (classes_then rows front part) ∙ ap (λ ps. classes_of (with_leaves rows ps) ps) (sym more)

-- ---- the low bits

abbrev low_bits_by : List LaunchRow → Part → Part → Part → List LaunchRow
low_bits_by rows address mask none =
    let all = with_leaves rows (address ∷ mask ∷ none ∷ []) in
    with_zero all (class_of_part all none) (class_of_part all address) (class_of_part all mask)

pub low_bits_are : (rows all : List LaunchRow) (address m z : Part) (mask : ℕ) (classes : List ℕ) (none a k : ℕ) → m ≡ number mask → z ≡ number 0
    → all ≡ with_leaves rows (address ∷ m ∷ z ∷ []) → classes ≡ classes_of (with_leaves rows (address ∷ m ∷ z ∷ [])) (address ∷ m ∷ z ∷ [])
    → none ≡ get_or classes 2 none → a ≡ get_or classes 0 a → k ≡ get_or classes 1 k → with_zero all none a k ≡ with_low_bits rows address mask
low_bits_are rows all address m z mask classes none a k m_is z_is rows_are classes_are none_is a_is k_is =
    let made = with_leaves rows (address ∷ m ∷ z ∷ []) in
    let third : none ≡ class_of_part made z = none_is ∙ ap (λ cs. get_or cs 2 none) classes_are in
    let first : a ≡ class_of_part made address = a_is ∙ ap (λ cs. get_or cs 0 a) classes_are in
    let second : k ≡ class_of_part made m = k_is ∙ ap (λ cs. get_or cs 1 k) classes_are in
    ap (λ rs. with_zero rs none a k) rows_are
    ∙ ap (λ c. with_zero made c a k) third
    ∙ ap (λ c. with_zero made (class_of_part made z) c k) first
    ∙ ap (λ c. with_zero made (class_of_part made z) (class_of_part made address) c) second
    ∙ ap₂ (low_bits_by rows address) m_is z_is

-- ---- the sum and the mask

pub address_room : (n : ℕ) (rows : List LaunchRow) (base : Part) (k : ℕ) → HasRoom (n + 3) rows → HasRoom n (with_address rows base k)
address_room n rows base k h = by (k == 0)
  where
    by : (b : Bool) → HasRoom n (if b then rows else with_applied rows (Word Lda) (base ∷ number k ∷ []))
    by true = less_room n (n + 3) rows (omega arith) h
    by false = applied_room n rows (Word Lda) (base ∷ number k ∷ []) (less_room (n + 1 + 2) (n + 3) rows (omega arith) h)

pub mask_is : (power : ℕ) → power < 4 → (1 * 2 ^ power) % 2 ^ 64 - 1 ≡ 2 ^ power - 1
mask_is zero l = refl
mask_is (suc zero) l = refl
mask_is (suc (suc zero)) l = refl
mask_is (suc (suc (suc zero))) l = refl
mask_is (suc (suc (suc (suc power)))) l = absurd (omega (arith, l))

-- ---- addresses

class_low : (rows : List LaunchRow) (op : Op) (operands : List ℕ) → All (λ (r : LaunchRow). r.class < length rows) rows → class_with rows op operands ≤ length rows
class_low rows op operands low = by (class_in rows op operands) refl
  where
    by : (o : Option ℕ) → class_in rows op operands ≡ o → unwrap_or o (next_class rows) ≤ length rows
    by None e = next_few rows low
    by (Some class) e =
        let f = found rows op operands class e in
        let l = All-contains (λ (r : LaunchRow). r.class < length rows) rows f.row low f.there in
        let same = f.of_class in
        omega (arith, l, same)

row_of_room : (n class : ℕ) (rows : List LaunchRow) (op : Op) (operands : List ℕ) → class ≤ length rows → HasRoom (n + 1) rows → HasRoom n (with_row_of class rows op operands)
row_of_room n class rows op operands l h = by (is_some (class_in rows op operands))
  where
    by : (b : Bool) → HasRoom n (if b then rows else rows ++ plain_row class op operands ∷ [])
    by true = less_room n (n + 1) rows (omega arith) h
    by false = room_behind n rows (plain_row class op operands) l h

zero_room : (n : ℕ) (rows : List LaunchRow) (none a mask : ℕ) → none ≤ length rows → HasRoom (n + 1) rows → HasRoom n (with_zero rows none a mask)
zero_room n rows none a mask l h = by (stands_in rows none and_op (a ∷ mask ∷ [])) (is_some (class_in rows and_op (a ∷ mask ∷ [])))
  where
    by : (b c : Bool) → HasRoom n (if b then rows else if c then with_row_of none rows and_op (mask ∷ a ∷ []) else with_row_of none rows and_op (a ∷ mask ∷ []))
    by true c = less_room n (n + 1) rows (omega arith) h
    by false true = row_of_room n none rows and_op (mask ∷ a ∷ []) l h
    by false false = row_of_room n none rows and_op (a ∷ mask ∷ []) l h

low_bits_room : (n : ℕ) (rows : List LaunchRow) (address : Part) (mask : ℕ) → HasRoom (n + 4) rows → HasRoom n (with_low_bits rows address mask)
low_bits_room n rows address mask h =
    let parts = address ∷ number mask ∷ number 0 ∷ [] in
    let all = with_leaves rows parts in
    let room = leaves_room (n + 1) rows parts (less_room (n + 1 + 3) (n + 4) rows (omega arith) h) in
    zero_room n all (class_of_part all (number 0)) (class_of_part all address) (class_of_part all (number mask))
    (class_low all (Constant 0) [] room.low) room

pub multiple_room : (n : ℕ) (values : List ℕ) (rows : List LaunchRow) (a : Address) → HasRoom (n + 7) rows → HasRoom n (with_multiple values rows a)
multiple_room n values rows a h =
    let base = value_part values a.value in
    low_bits_room n (with_address rows base a.displacement) (address_part rows base a.displacement) (2 ^ a.power - 1)
    (address_room (n + 4) rows base a.displacement (less_room (n + 4 + 3) (n + 7) rows (omega arith) h))

pub multiples_room : (n : ℕ) (values : List ℕ) (rows : List LaunchRow) (addresses : List Address) → HasRoom (n + 7 * length addresses) rows → HasRoom n (fold (with_multiple values) rows addresses)
multiples_room n values rows [] h = less_room n (n + 7 * 0) rows (omega arith) h
multiples_room n values rows (a ∷ addresses) h =
    multiples_room n values (with_multiple values rows a) addresses
    (multiple_room (n + 7 * length addresses) values rows a (less_room (n + 7 * length addresses + 7) (n + 7 * suc (length addresses)) rows (omega arith) h))
