-- The sorts of classes, after an insert and after a merge.
use Rattle.std.proofs.Common.{◌≡◌, ℕ, ◌<◌, List, length, slice_index, Contains, refl, sym, ap, ◌∙◌, subst, inl, inr, arith}
use Rattle.std.proofs.lemmas.List.{get_or_default, length_push, get_or_append_left}
use Rattle.std.proofs.lemmas.List.Elements.{Contains-append_left, Contains-push}
use Rattle.word_ops.specs.declared.sorts.Sort.{Sort}
use Rattle.word_terms.specs.Signature.{Signature}
use Rattle.egraph.specs.declared.rows.Row.{Row}
use Rattle.egraph.specs.Graph.{Graph, HasClass, IsGraph, AreMade, HasRow, IsInserted, read_through, with_row}
use Rattle.egraph.specs.Sorts.{IsOfSort, KeepsSorts, AreOfSorts, FitOperator, AreOfOneSort}
use Rattle.egraph.specs.Joined.{kept, relabel, IsMerged}
use Rattle.egraph.proofs.Merging.{row_present, has_made, has_present, operands_have, current_has}

module _ {O : Type 0} (s : Signature O) (g : Graph O) (is : IsGraph s g) where
  -- the class of a row is of the sort that the row gives
  pub row_of_sort : (r : Row O) → Contains g.rows r → IsOfSort s g r.class (s.sort r.op)
  row_of_sort r h = record {
    made = has_made s g is r.class (record { row = r; there = h; is = refl });
    row = r;
    there = h;
    in_class = sym (row_present s g is r h);
    sort_is = refl;
  }

  -- all rows of the class give the sort
  pub sort_of_rows : (class : ℕ) (sort : Sort) → IsOfSort s g class sort → (r : Row O) → Contains g.rows r → r.class ≡ slice_index g.current class → s.sort r.op ≡ sort
  sort_of_rows class sort h r k e = is.one_sort r h.row k h.there (e ∙ sym h.in_class) ∙ h.sort_is

  pub one_sort : (class : ℕ) (sort other : Sort) → IsOfSort s g class sort → IsOfSort s g class other → sort ≡ other
  one_sort class sort other h k = sym (sort_of_rows class sort h k.row k.there k.in_class) ∙ k.sort_is

  -- an operand of a row is of the sort that the row's operator takes there
  pub operand_of_sort : (r : Row O) (n : ℕ) → Contains g.rows r → n < length r.operands → IsOfSort s g (slice_index r.operands n) (s.operand_sort r.op n)
  operand_of_sort r n h l =
      let has = operands_have s g is r h n 0 l in
      record {
        made = has_made s g is (slice_index r.operands n) has;
        row = has.row;
        there = has.there;
        in_class = has.is ∙ sym (has_present s g is (slice_index r.operands n) has);
        sort_is = sym (is.operand_sorts r has.row n h has.there l has.is);
      }

  pub fit_operator : (op : O) (classes : List ℕ) → AreOfSorts s g (s.operand_sort op) classes → FitOperator s g op classes
  fit_operator op classes h n t l k e = sym (sort_of_rows (slice_index classes n) (s.operand_sort op n) (h n l) t k e)

  pub of_one_sort : (a b : ℕ) (sort : Sort) → IsOfSort s g a sort → IsOfSort s g b sort → AreOfOneSort s g a b
  of_one_sort a b sort h k r t hr ht er et = sort_of_rows a sort h r hr er ∙ sym (sort_of_rows b sort k t ht et)

pub are_made : {O : Type 0} (s : Signature O) (g : Graph O) (sort_at : ℕ → Sort) (classes : List ℕ) → AreOfSorts s g sort_at classes → AreMade g.current classes
are_made s g sort_at classes h n d l = subst (λ c. c < length g.current) (get_or_default classes n 0 d l) (h n l).made

-- ---- after an insert

module _ {O : Type 0} (g : Graph O) (op : O) (here : List ℕ) where
  pub longer : length g.current < length (with_row g op here).current
  longer = omega (arith, length_push g.current (length g.current))

  pub same_before : (x : ℕ) → x < length g.current → slice_index (with_row g op here).current x ≡ slice_index g.current x
  same_before x l = get_or_append_left g.current _ 0 x l

  pub rows_before : (r : Row O) → Contains g.rows r → Contains (with_row g op here).rows r
  rows_before r h = Contains-append_left g.rows _ r h

  pub row_added : HasRow (with_row g op here).rows op here (length g.current)
  row_added = Contains-push g.rows _

pub insert_keeps_sorts : {O : Type 0} (s : Signature O) (old : Graph O) (op : O) (operands : List ℕ) (class : ℕ) (new : Graph O) → IsInserted old op operands class new → KeepsSorts s old new
insert_keeps_sorts s old op operands class new i =
    elim i [
      | inl h ↦ subst (KeepsSorts s old) (sym h.1) (λ c sort k. k)
      | inr h ↦
          (let here = read_through old operands in
          subst (KeepsSorts s old) (sym h.2) (λ c sort k. record {
            made = let m = k.made in omega (arith, m, longer old op here);
            row = k.row;
            there = rows_before old op here k.row k.there;
            in_class = k.in_class ∙ sym (same_before old op here c k.made);
            sort_is = k.sort_is;
          }))
    ]

-- the row that was asked for is there
pub inserted_row : {O : Type 0} (old : Graph O) (op : O) (operands : List ℕ) (class : ℕ) (new : Graph O) → IsInserted old op operands class new → HasRow new.rows op (read_through old operands) class
inserted_row {O} old op operands class new i =
    elim i [
      | inl h ↦ subst (λ (g : Graph O). HasRow g.rows op (read_through old operands) class) (sym h.1) h.0
      | inr h ↦
          subst (λ (g : Graph O). HasRow g.rows op (read_through old operands) class) (sym h.2)
          (subst (λ c. HasRow (with_row old op (read_through old operands)).rows op (read_through old operands) c) (sym h.1) (row_added old op (read_through old operands)))
    ]

pub inserted_of_sort : {O : Type 0} (s : Signature O) (old : Graph O) (op : O) (operands : List ℕ) (class : ℕ) (new : Graph O) → IsGraph s new → IsInserted old op operands class new → IsOfSort s new class (s.sort op)
inserted_of_sort s old op operands class new is i = row_of_sort s new is (record { op = op; operands = read_through old operands; class = class }) (inserted_row old op operands class new i)

-- ---- after a merge

-- a class, and the one that it was in, are in one class
pub read_again : {O : Type 0} (s : Signature O) (old : Graph O) (is : IsGraph s old) (a b : ℕ) (new : Graph O) → IsMerged old a b new → (x : ℕ) → x < length old.current →
    slice_index new.current (slice_index old.current x) ≡ slice_index new.current x
read_again s old is a b new m x l =
    let h = current_has s old is x l in
    let lo = has_made s old is (slice_index old.current x) h in
    (m.joined (slice_index old.current x) x lo l).1 (kept (slice_index old.current x) x lo l (has_present s old is (slice_index old.current x) h))

pub merged_has : {O : Type 0} (old : Graph O) (a b : ℕ) (new : Graph O) → IsMerged old a b new → (c : ℕ) → HasClass old c → HasClass new (slice_index new.current c)
merged_has old a b new m c h = record { row = relabel (slice_index new.current) h.row; there = m.images h.row h.there; is = ap (slice_index new.current) h.is }

pub merge_keeps_sorts : {O : Type 0} (s : Signature O) (old : Graph O) (is : IsGraph s old) (a b : ℕ) (new : Graph O) → IsMerged old a b new → KeepsSorts s old new
merge_keeps_sorts s old is a b new m class sort h = record {
  made = let l = h.made in omega (arith, l, m.made);
  row = relabel (slice_index new.current) h.row;
  there = m.images h.row h.there;
  in_class = ap (slice_index new.current) h.in_class ∙ read_again s old is a b new m class h.made;
  sort_is = h.sort_is;
}
