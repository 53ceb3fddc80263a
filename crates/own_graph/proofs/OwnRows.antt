-- What a launch graph says of its rows, said of a list of rows, and which rows can be put behind others so that it stays.
use Rattle.std.proofs.Common.{◌≡◌, ℕ, zero, suc, ◌+◌, ◌<◌, ◌≤◌, max, true, List, [], ◌∷◌, ◌++◌, length, take, get_or, slice_index, Option, Some, None, refl, sym, ap, ◌∙◌, subst, ⊎_elim, arith, fold, is_some, if◌then◌else◌, All, AllPairs, Any, Contains}
use Rattle.std.proofs.lemmas.Bool.{cases_lt}
use Rattle.std.proofs.lemmas.List.{get_or_append_left, get_or_push, get_or-map, length-map, length_push, take-append-le, take_at}
use Rattle.std.proofs.lemmas.List.Elements.{All-head, All-push, All-tail, All-weaker, Contains-append_left, Contains-push_cases}
use Rattle.std.proofs.lemmas.List.Quantifiers.{all_pairs_push}
use Rattle.std.proofs.lemmas.Option.{get_or_from_slice_get, slice_get_read, slice_get_within}
use Rattle.word_ops.specs.Meanings.{arity_of_op, constant_in, operand_sort, sort_of}
use Rattle.word_ops.specs.Words.{IsWord}
use Rattle.word_ops.specs.declared.sorts.Op.{Op}
use Rattle.word_ops.specs.declared.sorts.Sort.{Sort}
use Rattle.graph_meaning.specs.Graphs.{plain_row}
use Rattle.graph_meaning.specs.WellFormed.{AreInOrder, declared_index, next_class, register_of_input}
use Rattle.graph_meaning.specs.declared.graphs.LaunchRow.{LaunchRow}
use Rattle.own_graph.specs.Rows.{HasItsRow, applied_class, class_in, class_of_part, class_with, classes_of, with_applied, with_leaves, with_row}
use Rattle.own_graph.specs.declared.operands.Part.{Part}
use Rattle.own_graph.specs.declared.operands.Part.TheVariants.{Class, Leaf}
use Rattle.own_graph.proofs.FoundRows.{IsLonger, class_is, found, have_rows, leaves_behind, not_found, row_behind}

-- ---- the next class

abbrev past : ℕ → LaunchRow → ℕ
past n r = max n (r.class + 1)

past_start : (n : ℕ) (rows : List LaunchRow) → n ≤ fold past n rows
past_start n [] = omega arith
past_start n (r ∷ rows) = let rest = past_start (past n r) rows in omega (arith, rest)

past_each : (n : ℕ) (rows : List LaunchRow) (k : ℕ) (d : LaunchRow) → k < length rows → (get_or rows k d).class < fold past n rows
past_each n [] k d l = absurd (omega arith)
past_each n (r ∷ rows) zero d l = let rest = past_start (past n r) rows in omega (arith, rest)
past_each n (r ∷ rows) (suc k) d l = past_each (past n r) rows k d (omega arith)

pub below_next : (rows : List LaunchRow) (r : LaunchRow) → Contains rows r → r.class < next_class rows
below_next rows r h = subst (λ (s : LaunchRow). s.class < next_class rows) h.2 (past_each 0 rows h.0 r h.1)

past_few : (most n : ℕ) (rows : List LaunchRow) → n ≤ most → All (λ (r : LaunchRow). r.class < most) rows → fold past n rows ≤ most
past_few most n [] l low = l
past_few most n (r ∷ rows) l low =
    let first : r.class < most = All-head (λ (r : LaunchRow). r.class < most) r rows low in
    past_few most (past n r) rows (omega arith) (All-tail (λ (r : LaunchRow). r.class < most) r rows low)

pub next_few : (rows : List LaunchRow) → All (λ (r : LaunchRow). r.class < length rows) rows → next_class rows ≤ length rows
next_few rows low = past_few (length rows) 0 rows (omega arith) low

-- ---- rows

-- some row of the class gives a value of this sort
abbrev pub HasSort : List LaunchRow → Sort → ℕ → Type 0
HasSort rows sort class = Any (λ (r : LaunchRow). (r.class ≡ class) × (sort_of r.op ≡ sort)) rows

-- each operand is of a class that has the sort that the operator takes there
abbrev pub TakesSorts : List LaunchRow → Op → List ℕ → Type 0
TakesSorts rows op operands = (at : ℕ) → at < length operands → HasSort rows (operand_sort op at) (slice_index operands at)

-- no declared operator; a constant is a word, and an input has a register below 31
pub record IsOwnOp (op : Op) : Type 0 where
  pub word : (n : ℕ) → constant_in op ≡ Some n → IsWord n
  pub register : (n : ℕ) → register_of_input op ≡ Some n → n < 31
  pub undeclared : declared_index op ≡ None

pub record IsOwnRow (rows : List LaunchRow) (r : LaunchRow) : Type 0 where
  pub op_is : IsOwnOp r.op
  pub arity : length r.operands ≡ arity_of_op r.op
  pub operands : TakesSorts rows r.op r.operands
  pub unnamed : r.name ≡ []

-- rows that can be in one class
pub record AreAlike (r s : LaunchRow) : Type 0 where
  pub sort : sort_of r.op ≡ sort_of s.op
  pub constant : (m n : ℕ) → constant_in r.op ≡ Some m → constant_in s.op ≡ Some n → m ≡ n

pub record AreOwnRows (rows : List LaunchRow) : Type 0 where
  pub each : All (IsOwnRow rows) rows
  pub distinct : AllPairs (λ (r s : LaunchRow). ¬ ((r.op ≡ s.op) × (r.operands ≡ s.operands))) rows
  pub classes : AreInOrder rows
  pub low : All (λ (r : LaunchRow). r.class < length rows) rows
  pub alike : (r s : LaunchRow) → Contains rows r → Contains rows s → r.class ≡ s.class → AreAlike r s

pub sort_stays : (rows longer : List LaunchRow) (sort : Sort) (class : ℕ) → IsLonger rows longer → HasSort rows sort class → HasSort longer sort class
sort_stays rows longer sort class h k =
    let there = Contains-append_left rows h.more k.1 (k.0, k.2, k.3) in
    subst (λ rs. HasSort rs sort class) (sym h.is) (there.0, k.1, there.1, there.2, k.4)

pub row_stays_own : (rows longer : List LaunchRow) → IsLonger rows longer → (r : LaunchRow) → IsOwnRow rows r → IsOwnRow longer r
row_stays_own rows longer h r k = record {
  op_is = k.op_is;
  arity = k.arity;
  operands = λ at l. sort_stays rows longer (operand_sort r.op at) (slice_index r.operands at) h (k.operands at l);
  unnamed = k.unnamed;
}

-- ---- one row more

module _ (rows : List LaunchRow) (r : LaunchRow) where
  abbrev pushed : List LaunchRow
  pushed = rows ++ r ∷ []

  behind : IsLonger rows pushed
  behind = record { more = r ∷ []; is = refl }

  order_push : AreInOrder rows → r.class ≤ next_class rows → AreInOrder pushed
  order_push order next i s e = ⊎_elim earlier last (cases_lt i (length rows))
    where
      at_there : get_or pushed i s ≡ s
      at_there = get_or_from_slice_get pushed i s s e

      within : i < length rows + 1
      within = let l = slice_get_within pushed i s e in omega (arith, l, length_push rows r)

      earlier : i < length rows → s.class ≤ next_class (take i pushed)
      earlier l =
          let there : get_or rows i s ≡ s = sym (get_or_append_left rows (r ∷ []) s i l) ∙ at_there in
          let old = order i s (slice_get_read rows (length rows) i s refl l (sym there)) in
          subst (λ rs. s.class ≤ next_class rs) (sym (take-append-le i rows (r ∷ []) (omega (arith, l)))) old

      last : length rows ≤ i → s.class ≤ next_class (take i pushed)
      last l =
          let here : length rows ≡ i = omega (arith, l, within) in
          let same : s ≡ r = sym at_there ∙ get_or_push rows r s i here in
          subst (λ rs. s.class ≤ next_class rs) (sym (take_at rows (r ∷ []) i here)) (subst (λ (t : LaunchRow). t.class ≤ next_class rows) (sym same) next)

  low_push : All (λ (s : LaunchRow). s.class < length rows) rows → r.class ≤ next_class rows → All (λ (s : LaunchRow). s.class < length pushed) pushed
  low_push low next =
      let count = length_push rows r in
      let few = next_few rows low in
      All-push (λ (s : LaunchRow). s.class < length pushed) rows r
      (All-weaker (λ (s : LaunchRow). s.class < length rows) (λ (s : LaunchRow). s.class < length pushed) (λ s l. omega (arith, l, count)) rows low)
      (omega (arith, next, few, count))

  alike_push : ((s t : LaunchRow) → Contains rows s → Contains rows t → s.class ≡ t.class → AreAlike s t) → ((s : LaunchRow) → Contains rows s → s.class ≡ r.class → AreAlike s r)
      → (s t : LaunchRow) → Contains pushed s → Contains pushed t → s.class ≡ t.class → AreAlike s t
  alike_push old new s t there_s there_t e = ⊎_elim first_old first_new (Contains-push_cases rows r s there_s)
    where
      turned : (a b : LaunchRow) → AreAlike a b → AreAlike b a
      turned a b h = record { sort = sym h.sort; constant = λ m n f g. sym (h.constant n m g f) }

      moved : (a b c : LaunchRow) → b ≡ c → AreAlike a b → AreAlike a c
      moved a b c f h = subst (AreAlike a) f h

      itself : (a : LaunchRow) → AreAlike a a
      itself a = record { sort = refl; constant = λ m n f g. let k : Some m ≡ Some n = sym f ∙ g in cc }

      first_old : Contains rows s → AreAlike s t
      first_old h = ⊎_elim (λ k. old s t h k e) (λ f. moved s r t f (new s h (e ∙ ap (λ (a : LaunchRow). a.class) (sym f)))) (Contains-push_cases rows r t there_t)

      first_new : r ≡ s → AreAlike s t
      first_new f =
          ⊎_elim
          (λ k. subst (λ (a : LaunchRow). AreAlike a t) f (turned t r (new t k (sym e ∙ ap (λ (a : LaunchRow). a.class) (sym f)))))
          (λ g. moved s s t (sym f ∙ g) (itself s))
          (Contains-push_cases rows r t there_t)

  pub own_push : AreOwnRows rows → IsOwnRow rows r → class_in rows r.op r.operands ≡ None → r.class ≤ next_class rows → ((s : LaunchRow) → Contains rows s → s.class ≡ r.class → AreAlike s r) → AreOwnRows pushed
  own_push own is new next alike = record {
    each = All-push (IsOwnRow pushed) rows r (All-weaker (IsOwnRow rows) (IsOwnRow pushed) (row_stays_own rows pushed behind) rows own.each) (row_stays_own rows pushed behind r is);
    distinct = all_pairs_push (λ (s t : LaunchRow). ¬ ((s.op ≡ t.op) × (s.operands ≡ t.operands))) rows r own.distinct (λ k d l same. not_found rows r.op r.operands k d new l same.0 same.1);
    classes = order_push own.classes next;
    low = low_push own.low next;
    alike = alike_push own.alike alike;
  }

-- ---- the row that applies an operator to operands

pub found_sort : (rows : List LaunchRow) (op : Op) (operands : List ℕ) (class : ℕ) → class_in rows op operands ≡ Some class → HasSort rows (sort_of op) class
found_sort rows op operands class e =
    let f = found rows op operands class e in
    (f.there.0, f.row, f.there.1, f.there.2, (f.of_class, ap sort_of f.op_is))

pub row_sort : (rows : List LaunchRow) (op : Op) (operands : List ℕ) → HasSort (with_row rows op operands) (sort_of op) (class_with rows op operands)
row_sort rows op operands = found_sort (with_row rows op operands) op operands (class_with rows op operands) (class_is rows op operands)

pub row_keeps : (rows : List LaunchRow) (op : Op) (operands : List ℕ) → AreOwnRows rows → IsOwnOp op → length operands ≡ arity_of_op op → TakesSorts rows op operands → AreOwnRows (with_row rows op operands)
row_keeps rows op operands own is arity sorts = by (class_in rows op operands) refl
  where
    new : LaunchRow
    new = plain_row (next_class rows) op operands

    never : (s : LaunchRow) → Contains rows s → s.class ≡ next_class rows → AreAlike s (plain_row (next_class rows) op operands)
    never s h e = absurd (let l = below_next rows s h in omega (arith, l, e))

    by : (o : Option ℕ) → class_in rows op operands ≡ o → AreOwnRows (if is_some o then rows else rows ++ plain_row (next_class rows) op operands ∷ [])
    by (Some class) e = own
    by None e = own_push rows (plain_row (next_class rows) op operands) own (record { op_is = is; arity = arity; operands = sorts; unnamed = refl }) e (omega arith) never

-- ---- parts

-- the part is of a class of this sort, or a leaf of it
abbrev pub IsPart : List LaunchRow → Sort → Part → Type 0
IsPart rows sort (Class c) = HasSort rows sort c
IsPart rows sort (Leaf op) = IsOwnOp op × (arity_of_op op ≡ 0) × (sort_of op ≡ sort)

-- parts of these sorts, place by place
abbrev pub AreParts : List LaunchRow → (ℕ → Sort) → List Part → Type 0
AreParts rows sorts [] = Unit {0}
AreParts rows sorts (part ∷ parts) = IsPart rows (sorts 0) part × AreParts rows (λ at. sorts (suc at)) parts

pub part_stays_own : (rows longer : List LaunchRow) (sort : Sort) (part : Part) → IsLonger rows longer → IsPart rows sort part → IsPart longer sort part
part_stays_own rows longer sort (Class c) h k = sort_stays rows longer sort c h k
part_stays_own rows longer sort (Leaf op) h k = k

pub parts_stay_own : (rows longer : List LaunchRow) (sorts : ℕ → Sort) (parts : List Part) → IsLonger rows longer → AreParts rows sorts parts → AreParts longer sorts parts
parts_stay_own rows longer sorts [] h k = tt
parts_stay_own rows longer sorts (part ∷ parts) h k = (part_stays_own rows longer (sorts 0) part h k.0, parts_stay_own rows longer (λ at. sorts (suc at)) parts h k.1)

part_at : (rows : List LaunchRow) (sorts : ℕ → Sort) (parts : List Part) (at : ℕ) (d : Part) → at < length parts → AreParts rows sorts parts → IsPart rows (sorts at) (get_or parts at d)
part_at rows sorts [] at d l h = absurd (omega (arith, l))
part_at rows sorts (part ∷ parts) zero d l h = h.0
part_at rows sorts (part ∷ parts) (suc at) d l h = part_at rows (λ at. sorts (suc at)) parts at d (omega (arith, l)) h.1

pub leaves_keep : (sorts : ℕ → Sort) (rows : List LaunchRow) (parts : List Part) → AreOwnRows rows → AreParts rows sorts parts → AreOwnRows (with_leaves rows parts)
leaves_keep sorts rows [] own h = own
leaves_keep sorts rows (Class c ∷ parts) own h = leaves_keep (λ at. sorts (suc at)) rows parts own h.1
leaves_keep sorts rows (Leaf op ∷ parts) own h =
    let first = with_row rows op [] in
    leaves_keep (λ at. sorts (suc at)) first parts
    (row_keeps rows op [] own h.0.0 (sym h.0.1) (λ at l. absurd (omega (arith, l))))
    (parts_stay_own rows first (λ at. sorts (suc at)) parts (row_behind rows op []) h.1)

-- a part that has its row is in a class of its sort
pub part_sort : (rows : List LaunchRow) (sort : Sort) (part : Part) → IsPart rows sort part → HasItsRow rows part → HasSort rows sort (class_of_part rows part)
part_sort rows sort (Class c) h k = h
part_sort rows sort (Leaf op) h k = by (class_in rows op []) refl k
  where
    by : (o : Option ℕ) → class_in rows op [] ≡ o → is_some o ≡ true → HasSort rows sort (class_with rows op [])
    by None e t = absurd (cc)
    by (Some class) e t =
        let settled : class_with rows op [] ≡ class = cc in
        subst (HasSort rows sort) (sym settled) (subst (λ s. HasSort rows s class) h.2 (found_sort rows op [] class e))

pub classes_sorts : (sorts : ℕ → Sort) (rows : List LaunchRow) (parts : List Part) → AreParts rows sorts parts → (at : ℕ) → at < length parts → HasSort (with_leaves rows parts) (sorts at) (slice_index (classes_of (with_leaves rows parts) parts) at)
classes_sorts sorts rows parts h at l =
    let all = with_leaves rows parts in
    let part = get_or parts at (Class 0) in
    let is = part_stays_own rows all (sorts at) part (leaves_behind rows parts) (part_at rows sorts parts at (Class 0) l h) in
    subst (HasSort all (sorts at)) (sym (get_or-map (class_of_part all) parts at (Class 0) 0 l)) (part_sort all (sorts at) part is (have_rows rows parts at (Class 0) l))

pub applied_keeps : (rows : List LaunchRow) (op : Op) (parts : List Part) → AreOwnRows rows → IsOwnOp op → length parts ≡ arity_of_op op → AreParts rows (operand_sort op) parts → AreOwnRows (with_applied rows op parts)
applied_keeps rows op parts own is arity h =
    let all = with_leaves rows parts in
    let count = length-map parts (class_of_part all) in
    row_keeps all op (classes_of all parts) (leaves_keep (operand_sort op) rows parts own h) is (count ∙ arity)
    (λ at l. classes_sorts (operand_sort op) rows parts h at (omega (arith, l, count)))

pub applied_sort : (rows : List LaunchRow) (op : Op) (parts : List Part) → HasSort (with_applied rows op parts) (sort_of op) (applied_class rows op parts)
applied_sort rows op parts = row_sort (with_leaves rows parts) op (classes_of (with_leaves rows parts) parts)
