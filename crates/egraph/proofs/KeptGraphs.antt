-- What the tables say of the graph's rows.
use Rattle.std.proofs.Common.{◌≡◌, ◌≢◌, ℕ, List, [], ◌∷◌, ◌++◌, length, get_or, filter_map, Contains, All, AllPairs, Option, Some, None, IsSome, MatchOption, true≢false, refl, sym, ap, ◌∙◌, subst, inl, inr, arith}
use Rattle.std.proofs.lemmas.Bool.{cases_eq}
use Rattle.std.proofs.lemmas.List.Elements.{Contains-push, Contains-append_left, filter_map-append, All-push, All-contains, Contains-get_or}
use Rattle.std.proofs.lemmas.List.Quantifiers.{all_pairs_push}
use Rattle.std.specs.List.{cons_option}
use Rattle.slab.specs.Slab.{Slab, get}
use Rattle.word_terms.specs.Signature.{Signature}
use Rattle.egraph.specs.declared.rows.Row.{Row}
use Rattle.egraph.specs.declared.row_index.RowKey.{RowKey}
use Rattle.egraph.specs.Graph.{Graph, IsGraph, HasRow, LacksRow, HasConstant, LacksConstant, HasOneConstantEach}
use Rattle.egraph.specs.Keys.{constant_at}
use Rattle.egraph.specs.Tables.{FitLists, IsIndexed, IsOrder, FitTables, RowsAreMade, ConstantRow, rows_in}
use Rattle.egraph.proofs.Merging.{row_made}
use Rattle.egraph.proofs.Orders.{filter_map_has, filter_map_from, rows_same}

module _ {O : Type 0} (s : Signature O) where
  pub lacks_row : (rows : Slab (Row O)) (order : List ℕ) (op : O) (operands : List ℕ) →
      ((place : ℕ) (r : Row O) → get rows place ≡ Some r → r.op ≡ op → r.operands ≢ operands) → LacksRow (rows_in rows order) op operands
  lacks_row rows order op operands none class h =
      let p = filter_map_from (get rows) order (record { op = op; operands = operands; class = class }) h in
      none p.0 (record { op = op; operands = operands; class = class }) p.2 refl refl

  pub has_row : (rows : Slab (Row O)) (order : List ℕ) → IsOrder rows order → (r : Row O) (place : ℕ) → get rows place ≡ Some r → Contains (rows_in rows order) r
  has_row rows order is r place e = filter_map_has (get rows) order place r (is.listed place r e) e

  pub lacks_constant : (rows : Slab (Row O)) (order : List ℕ) (constants : List (Option ℕ)) →
      ((place : ℕ) (r : Row O) (x : ℕ) → get rows place ≡ Some r → s.constant r.op ≡ Some x → constant_at constants r.class ≡ Some x) →
      (class : ℕ) → constant_at constants class ≡ None → LacksConstant s (rows_in rows order) class
  lacks_constant rows order constants each class none x h =
      let p = filter_map_from (get rows) order h.row h.there in
      let e : None ≡ Some x = sym none ∙ ap (constant_at constants) (sym h.of_class) ∙ each p.0 h.row x p.2 h.is in
      absurd (cc)

  pub one_constant_each : (rows : Slab (Row O)) (order : List ℕ) (constants : List (Option ℕ)) →
      ((place : ℕ) (r : Row O) (x : ℕ) → get rows place ≡ Some r → s.constant r.op ≡ Some x → constant_at constants r.class ≡ Some x) →
      HasOneConstantEach s (rows_in rows order)
  one_constant_each rows order constants each class x y h k =
      let p = filter_map_from (get rows) order h.row h.there in
      let q = filter_map_from (get rows) order k.row k.there in
      let e : Some x ≡ Some y = sym (each p.0 h.row x p.2 h.is) ∙ ap (constant_at constants) (h.of_class ∙ sym k.of_class) ∙ each q.0 k.row y q.2 k.is in
      cc

  pub has_constant : (rows : Slab (Row O)) (order : List ℕ) → IsOrder rows order → (class x : ℕ) → ConstantRow s rows class x → HasConstant s (rows_in rows order) class x
  has_constant rows order is class x h = record { row = h.row; there = has_row rows order is h.row h.place h.there; of_class = h.of_class; is = h.is }

  pub constant_answer : (rows : Slab (Row O)) (order : List ℕ) (own uses members : List (List ℕ)) (constants : List (Option ℕ)) (current : List ℕ) → FitLists s rows own uses members constants current → IsOrder rows order →
      (class : ℕ) (o : Option ℕ) → o ≡ constant_at constants class → MatchOption o (LacksConstant s (rows_in rows order) class) (HasConstant s (rows_in rows order) class)
  constant_answer rows order own uses members constants current is in_order class None e = lacks_constant rows order constants is.constant_of class (sym e)
  constant_answer rows order own uses members constants current is in_order class (Some x) e = has_constant rows order in_order class x (is.constant_there class x (sym e))

  pub row_answer : (rows : Slab (Row O)) (order : List ℕ) → IsOrder rows order → (op : O) (operands : List ℕ) (o : Option ℕ) →
      MatchOption o ((place : ℕ) (r : Row O) → get rows place ≡ Some r → r.op ≡ op → r.operands ≢ operands) (λ class. (place : ℕ) × (get rows place ≡ Some (record { op = op; operands = operands; class = class }))) →
      MatchOption o (LacksRow (rows_in rows order) op operands) (HasRow (rows_in rows order) op operands)
  row_answer rows order is op operands None h = lacks_row rows order op operands h
  row_answer rows order is op operands (Some class) h = has_row rows order is (record { op = op; operands = operands; class = class }) h.0 h.1

  pub rows_made : (rows : Slab (Row O)) (current order : List ℕ) → IsGraph s (record { rows = rows_in rows order; current = current }) → IsOrder rows order → RowsAreMade rows (length current)
  rows_made rows current order is in_order place r e = row_made s (record { rows = rows_in rows order; current = current }) is r (has_row rows order in_order r place e)

  -- the view of the rows with one more
  pub rows_added : (rows rows' : Slab (Row O)) (order : List ℕ) (place : ℕ) (r : Row O) → All (λ k. IsSome (get rows k)) order → get rows place ≡ None → get rows' place ≡ Some r → ((other : ℕ) → other ≢ place → get rows' other ≡ get rows other) →
      rows_in rows' (order ++ place ∷ []) ≡ rows_in rows order ++ r ∷ []
  rows_added rows rows' order place r held none there others =
      let old : rows_in rows' order ≡ rows_in rows order = rows_same rows rows' order (λ k c. others k (λ same.
      let some : IsSome (get rows k) = All-contains (λ j. IsSome (get rows j)) order k held c in
      true≢false (sym (subst IsSome (ap (get rows) same ∙ none) some)))) in
      filter_map-append (get rows') order (place ∷ []) ∙ ap (λ xs. xs ++ filter_map (get rows') (place ∷ [])) old ∙ ap (λ o. rows_in rows order ++ cons_option o []) there

  pub added_order : (rows rows' : Slab (Row O)) (order : List ℕ) (place : ℕ) (r : Row O) → IsOrder rows order → All (λ k. IsSome (get rows k)) order → get rows place ≡ None → get rows' place ≡ Some r → ((other : ℕ) → other ≢ place → get rows' other ≡ get rows other) →
      IsOrder rows' (order ++ place ∷ []) × All (λ k. IsSome (get rows' k)) (order ++ place ∷ [])
  added_order rows rows' order place r is held none there others =
      let fresh : (k : ℕ) → Contains order k → k ≢ place = λ k c same. true≢false (sym (subst IsSome (ap (get rows) same ∙ none) (All-contains (λ j. IsSome (get rows j)) order k held c))) in (
        record {
          listed = λ k q e. elim (cases_eq k place) [
            | inl same ↦ subst (Contains (order ++ place ∷ [])) (sym same) (Contains-push order place)
            | inr differs ↦ Contains-append_left order (place ∷ []) k (is.listed k q (sym (others k differs) ∙ e))
          ];
          once = all_pairs_push (λ x y. x ≢ y) order place is.once (λ k d l. fresh (get_or order k d) (Contains-get_or order k d l));
        },
        All-push (λ k. IsSome (get rows' k)) order place (λ k d l. let j = get_or order k d in subst IsSome (sym (others j (fresh j (Contains-get_or order k d l)))) (held k d l)) (subst IsSome (sym there) refl),
      )

-- the graph is the same where the same rows are under the keys
pub same_view : {O : Type 0} (rows rows' : Slab (Row O)) (current current' order order' : List ℕ) → ((place : ℕ) → get rows' place ≡ get rows place) → current' ≡ current → order' ≡ order →
    ◌≡◌ {A = Graph O} (record { rows = rows_in rows' order'; current = current' }) (record { rows = rows_in rows order; current = current })
same_view rows rows' current current' order order' same ec eo =
    let e = ap (rows_in rows') eo ∙ rows_same rows rows' order (λ k c. same k) in
    λ i. record { rows = e i; current = ec i }

pub kept_as_before : {O : Type 0} (s : Signature O) (rows rows' : Slab (Row O)) (index index' : List (RowKey × ℕ)) (own own' uses uses' members members' : List (List ℕ)) (constants constants' : List (Option ℕ)) (current current' order order' : List ℕ) →
    FitTables s rows index own uses members constants current order → ((place : ℕ) → get rows' place ≡ get rows place) → current' ≡ current → order' ≡ order →
    FitLists s rows' own' uses' members' constants' current' → IsIndexed s rows' index' → FitTables s rows' index' own' uses' members' constants' current' order'
kept_as_before s rows rows' index index' own own' uses uses' members members' constants constants' current current' order order' is same ec eo listed indexed =
    record {
      graph = subst (IsGraph s) (sym (same_view rows rows' current current' order order' same ec eo)) is.graph;
      listed = listed;
      indexed = indexed;
      in_order = record {
        listed = λ place r e. subst (λ xs. Contains xs place) (sym eo) (is.in_order.listed place r (sym (same place) ∙ e));
        once = subst (AllPairs (λ x y. x ≢ y)) (sym eo) is.in_order.once;
      };
      occupied = subst (All (λ k. IsSome (get rows' k))) (sym eo) (λ k d l. let j = get_or order k d in subst IsSome (sym (same j)) (is.occupied k d l));
    }

-- no rows and no classes
pub none_kept : {O : Type 0} (s : Signature O) (rows : Slab (Row O)) (index : List (RowKey × ℕ)) (own uses members : List (List ℕ)) (constants : List (Option ℕ)) (current order : List ℕ) →
    rows.slots ≡ [] → constants ≡ [] → current ≡ [] → order ≡ [] → FitTables s rows index own uses members constants current order
none_kept {O} s rows index own uses members constants current order er ek ec eo =
    let none : (place : ℕ) (r : Row O) → get rows place ≡ Some r → ⊥ = λ place r e. let f : None ≡ Some r = sym (ap (λ xs. get_or xs place None) er) ∙ e in cc in
    record {
      graph = subst (λ xs. IsGraph s (record { rows = filter_map (get rows) xs; current = current })) (sym eo) (subst (λ xs. IsGraph s (record { rows = []; current = xs })) (sym ec) (record {
        distinct = λ i j d l m. absurd (omega (arith, m));
        classes = λ k d l. absurd (omega (arith, l));
        operands = λ k d l. absurd (omega (arith, l));
        inhabited = λ k d l. absurd (omega (arith, l));
        arities = λ k d l. absurd (omega (arith, l));
        one_sort = λ r t h k e. absurd (omega (arith, h.1));
        operand_sorts = λ r t n h k l e. absurd (omega (arith, h.1));
        constants = λ class x y h k. absurd (omega (arith, h.there.1));
        words = λ k d l. absurd (omega (arith, l));
        few = omega arith;
        few_rows = omega arith;
      }));
      listed = record {
        arities = λ place r e. absurd (none place r e);
        own_rows = λ class place r e k. absurd (none place r e);
        used = λ class place r e k. absurd (none place r e);
        members_of = λ class x l e. absurd (omega (arith, l, ap length ec));
        constant_of = λ place r x e k. absurd (none place r e);
        constant_there = λ class x k. (let f : None ≡ Some x = sym (ap (λ xs. get_or xs class None) ek) ∙ k in absurd (cc));
      };
      indexed = λ place r e. absurd (none place r e);
      in_order = record { listed = λ place r e. absurd (none place r e); once = λ i j d l m. absurd (omega (arith, m, ap length eo)) };
      occupied = λ k d l. absurd (omega (arith, l, ap length eo));
    }
