-- What an insert keeps.
use Rattle.std.proofs.Common.{map, ◌≡◌, ℕ, ◌<◌, ◌^◌, List, [], ◌∷◌, ◌++◌, length, get_or, slice_index, Contains, All, Some, refl, sym, ap, ◌∙◌, subst, inl, inr, arith}
use Rattle.std.proofs.lemmas.List.{length-map, get_or-map, length_push, get_or_push, get_or_append_left}
use Rattle.std.proofs.lemmas.List.Elements.{All-map, All-push, All-weaker, Contains-get_or, Contains-push_cases, Contains-append_left, Contains-push}
use Rattle.std.proofs.lemmas.List.Quantifiers.{all_pairs_push}
use Rattle.word_terms.specs.Signature.{Signature, HasWordConstant}
use Rattle.egraph.specs.declared.rows.Row.{Row}
use Rattle.egraph.specs.Graph.{Graph, Agree, HasClass, IsPresent, IsGraph, HasOneConstantEach, HasOneSortEach, HasSortedOperands, HasRow, AreMade, read_through, IsInserted, with_row}
use Rattle.egraph.specs.Sorts.{FitOperator}
use Rattle.egraph.proofs.Merging.{row_made, operands_have, current_has}

-- the graph with a row that it lacked is a graph
module _ {O : Type 0} (s : Signature O) (g : Graph O) (is : IsGraph s g) (op : O) (operands : List ℕ)
    (arity : length operands ≡ s.arity op) (made : AreMade g.current operands) (sorts : FitOperator s g op operands) (own_word : HasWordConstant s op) (few : length g.current < 2 ^ 31)
    (absent : (c : ℕ) → ¬ HasRow g.rows op (read_through g operands) c) where
  abbrev next : ℕ
  next = length g.current

  abbrev grown : Graph O
  grown = with_row g op (read_through g operands)

  abbrev added : Row O
  added = record { op = op; operands = read_through g operands; class = next }

  still_has : (c : ℕ) → HasClass g c → HasClass grown c
  still_has c h = record { row = h.row; there = Contains-append_left g.rows (added ∷ []) h.row h.there; is = h.is }

  still_present : (c : ℕ) → IsPresent g c → IsPresent grown c
  still_present c h = record { made = omega (arith, h.made, length_push g.current next); itself = get_or_append_left g.current (next ∷ []) 0 c h.made ∙ h.itself }

  -- the class of an old row isn't the new one
  not_next : (r : Row O) → Contains g.rows r → (c : ℕ) → c ≡ next → r.class ≡ c → ⊥
  not_next r h c n e = let m = row_made s g is r h in absurd (omega (arith, m, n, e))

  class_next : (r : Row O) → added ≡ r → r.class ≡ next
  class_next r e = sym (ap (λ q. q.class) e)

  rows_of_one_sort : HasOneSortEach s grown.rows
  rows_of_one_sort r t h k e =
      elim (Contains-push_cases g.rows added r h) [
        | inl a ↦ elim (Contains-push_cases g.rows added t k) [
          | inl b ↦ is.one_sort r t a b e
          | inr b ↦ absurd (not_next r a t.class (class_next t b) e)
        ]
        | inr a ↦ elim (Contains-push_cases g.rows added t k) [
          | inl b ↦ absurd (not_next t b r.class (class_next r a) (sym e))
          | inr b ↦ ap (λ q. s.sort q.op) (sym a ∙ b)
        ]
      ]

  one_constant_each : HasOneConstantEach s grown.rows
  one_constant_each class x y h k =
      elim (Contains-push_cases g.rows added h.row h.there) [
        | inl a ↦ elim (Contains-push_cases g.rows added k.row k.there) [
          | inl b ↦ is.constants class x y (record { row = h.row; there = a; of_class = h.of_class; is = h.is }) (record { row = k.row; there = b; of_class = k.of_class; is = k.is })
          | inr b ↦ absurd (not_next h.row a k.row.class (class_next k.row b) (h.of_class ∙ sym k.of_class))
        ]
        | inr a ↦ elim (Contains-push_cases g.rows added k.row k.there) [
          | inl b ↦ absurd (not_next k.row b h.row.class (class_next h.row a) (k.of_class ∙ sym h.of_class))
          | inr b ↦ (let n : h.row ≡ k.row = sym a ∙ b in let p : s.constant h.row.op ≡ s.constant k.row.op = ap (λ q. s.constant q.op) n in let q : Some x ≡ Some y = sym h.is ∙ p ∙ k.is in cc)
        ]
      ]

  -- an operand of a row of the grown graph, and its sort: an old row's operands are old classes, and so are the new row's
  operands_of_sort : HasSortedOperands s grown.rows
  operands_of_sort r t n h k l e =
      elim (Contains-push_cases g.rows added r h) [
        | inl a ↦
            let has = operands_have s g is r a n 0 l in
            elim (Contains-push_cases g.rows added t k) [
              | inl b ↦ is.operand_sorts r t n a b l e
              | inr b ↦ absurd (not_next has.row has.there t.class (class_next t b) (has.is ∙ sym e))
            ]
        | inr a ↦
            let ops : r.operands ≡ read_through g operands = sym (ap (λ q. q.operands) a) in
            let b : n < length operands = omega (arith, l, ap length ops, length-map operands (slice_index g.current)) in
            let c = get_or operands n 0 in
            let at_c : get_or r.operands n 0 ≡ get_or g.current c 0 = ap (λ xs. get_or xs n 0) ops ∙ get_or-map (slice_index g.current) operands n 0 0 b in
            let has = current_has s g is c (made n 0 b) in
            elim (Contains-push_cases g.rows added t k) [
              | inl d ↦ ap (λ q. s.operand_sort q.op n) (sym a) ∙ sorts n t b d (e ∙ at_c)
              | inr d ↦ absurd (not_next has.row has.there t.class (class_next t d) (has.is ∙ sym at_c ∙ sym e))
            ]
      ]

  inserted_is_graph : IsGraph s grown
  inserted_is_graph = record {
    distinct = all_pairs_push (λ r t. ¬ Agree r t) g.rows added is.distinct (λ k d l e.
        let r = get_or g.rows k d in
        let same : r ≡ record { op = op; operands = read_through g operands; class = r.class } = λ i. record { op = e.op i; operands = e.operands i; class = r.class } in
        absent r.class (subst (Contains g.rows) same (Contains-get_or g.rows k d l)));
    classes = All-push (λ r. IsPresent grown r.class) g.rows added (All-weaker (λ r. IsPresent g r.class) (λ r. IsPresent grown r.class) (λ r. still_present r.class) g.rows is.classes)
        (record { made = omega (arith, length_push g.current next); itself = get_or_push g.current next 0 next refl });
    operands = All-push (λ r. All (HasClass grown) r.operands) g.rows added
        (All-weaker (λ r. All (HasClass g) r.operands) (λ r. All (HasClass grown) r.operands) (λ r. All-weaker (HasClass g) (HasClass grown) still_has r.operands) g.rows is.operands)
        (All-map (HasClass grown) (slice_index g.current) operands (λ k d l. still_has (slice_index g.current (get_or operands k d)) (current_has s g is (get_or operands k d) (made k d l))));
    inhabited = All-push (HasClass grown) g.current next (All-weaker (HasClass g) (HasClass grown) still_has g.current is.inhabited)
        (record { row = added; there = Contains-push g.rows added; is = refl });
    arities = All-push (λ r. length r.operands ≡ s.arity r.op) g.rows added is.arities (length-map operands (slice_index g.current) ∙ arity);
    one_sort = rows_of_one_sort;
    operand_sorts = operands_of_sort;
    constants = one_constant_each;
    words = All-push (λ r. HasWordConstant s r.op) g.rows added is.words own_word;
    few = omega (arith, few, length_push g.current next);
    few_rows = omega (arith, is.few_rows, length_push g.current next, length_push g.rows added);
  }

-- a graph is one after an insert
pub stays_graph : {O : Type 0} (s : Signature O) (old : Graph O) → IsGraph s old → (op : O) (operands : List ℕ) → length operands ≡ s.arity op → AreMade old.current operands → FitOperator s old op operands → HasWordConstant s op →
    length old.current < 2 ^ 31 → (class : ℕ) (new : Graph O) → IsInserted old op operands class new → IsGraph s new
stays_graph s old is op operands arity made sorts own_word few class new i =
    elim i [
      | inl h ↦ subst (IsGraph s) (sym h.1) is
      | inr h ↦ subst (IsGraph s) (sym h.2) (inserted_is_graph s old is op operands arity made sorts own_word few h.0)
    ]

-- what the code puts at the ends is the graph with one more row
pub inserted_view : {O : Type 0} (rows rows' : List (Row O)) (current current' : List ℕ) (op : O) (operands present : List ℕ) (class : ℕ) →
    rows' ≡ rows ++ record { op = op; operands = present; class = class } ∷ [] →
    current' ≡ current ++ class ∷ [] →
    present ≡ map (slice_index current) operands →
    class ≡ length current →
    ◌≡◌ {A = Graph O} (record { rows = rows'; current = current' }) (with_row (record { rows = rows; current = current }) op (map (slice_index current) operands))
inserted_view {O} rows rows' current current' op operands present class er ec ops len =
    let e : rows' ≡ rows ++ record { op = op; operands = map (slice_index current) operands; class = length current } ∷ [] = er ∙ (λ i. rows ++ record { op = op; operands = ops i; class = len i } ∷ []) in
    let f : current' ≡ current ++ length current ∷ [] = ec ∙ ap (λ n. current ++ n ∷ []) len in
    λ i. record { rows = e i; current = f i }
