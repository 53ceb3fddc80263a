-- The value that each class of rows has in a world: that of its first row.
use Rattle.std.proofs.Common.{◌≡◌, ℕ, suc, ◌+◌, ◌<◌, ◌≤◌, ◌==◌, max, Bool, true, false, List, [], ◌∷◌, ◌++◌, length, map, Option, Some, None, refl, sym, ap, ap₂, ◌∙◌, subst, inl, inr, arith, eq-eqb, fold, get_or, is_some, unwrap_or, if◌then◌else◌, slice_index, slice_index_or, All, IfSome, IsTrue}
use Rattle.std.proofs.lemmas.Bool.Decides.{eqb_tells}
use Rattle.std.proofs.lemmas.List.{append-nil, append_assoc, get_or_append_left, get_or-map, get_or_push, get_or_default, length-append, length-map, length_push}
use Rattle.std.proofs.lemmas.List.Elements.{All-contains, All-contains_itself, All-head, All-push, All-tail}
use Rattle.std.proofs.lemmas.List.Sums.{fold-append}
use Rattle.word_ops.specs.Meanings.{AreOperands, IsInRange, arity_of_op, constant_in, meaning, operand_sort, sort_of}
use Rattle.word_ops.specs.Words.{IsWord}
use Rattle.word_ops.specs.Worlds.{IsValue, Value, World, word}
use Rattle.word_ops.specs.declared.sorts.Op.{Op}
use Rattle.word_ops.specs.declared.sorts.Sort.{Sort}
use Rattle.graph_meaning.specs.Graphs.{plain_row, row_meaning}
use Rattle.graph_meaning.specs.WellFormed.{next_class}
use Rattle.graph_meaning.specs.declared.graphs.LaunchRow.{LaunchRow}
use Rattle.own_graph.specs.Rows.{HasItsRow, applied_class, class_in, class_of_part, classes_of, with_applied, with_leaves, with_row}
use Rattle.own_graph.specs.declared.operands.Part.{Part}
use Rattle.own_graph.specs.declared.operands.Part.TheVariants.{Class, Leaf}
use Rattle.own_graph.proofs.FoundRows.{IsLonger, applied_behind, class_is, class_stays, found, have_rows, row_behind, with_behind}
use Rattle.own_graph.proofs.OwnRows.{AreOwnRows, AreParts, HasSort, IsOwnOp, IsOwnRow, IsPart, TakesSorts, applied_keeps, below_next, classes_sorts, leaves_keep, parts_stay_own, row_keeps}

-- what is known of what operators give
abbrev pub MeaningsAreInRange : World → Type 0
MeaningsAreInRange w = (op : Op) (vs : List Value) → IsInRange op → AreOperands op vs → IsValue (sort_of op) (meaning w (λ n. []) op vs)

abbrev pub at : List Value → ℕ → Value
at vs c = slice_index_or vs c (word 0)

module _ (w : World) where
  abbrev pub M : Op → List Value → Value
  M op vs = meaning w (λ n. []) op vs

  abbrev pub row_value : List Value → LaunchRow → Value
  row_value vs r = row_meaning w r (map (at vs) r.operands)

  -- a class that is new gets the value of its row
  abbrev valued : List Value → LaunchRow → List Value
  valued vs r = if r.class == length vs then vs ++ row_value vs r ∷ [] else vs

  abbrev pub values_of : List LaunchRow → List Value
  values_of rows = fold valued [] rows

  abbrev pub V : List LaunchRow → ℕ → Value
  V rows c = at (values_of rows) c

  -- each class has a value of its sort, under which each row is true
  pub record AreTold (rows : List LaunchRow) : Type 0 where
    pub count : length (values_of rows) ≡ next_class rows
    pub is_true : All (λ (r : LaunchRow). V rows r.class ≡ row_value (values_of rows) r) rows
    pub sorts : All (λ (r : LaunchRow). IsValue (sort_of r.op) (V rows r.class)) rows

  -- ---- values stay

  grows : (vs : List Value) (rows : List LaunchRow) → (more : List Value) × (fold valued vs rows ≡ vs ++ more)
  grows vs [] = ([], sym (append-nil vs))
  grows vs (r ∷ rows) = by (r.class == length vs) (λ us. grows us rows)
    where
      by : (b : Bool) → ((us : List Value) → (more : List Value) × (fold valued us rows ≡ us ++ more))
          → (more : List Value) × (fold valued (if b then vs ++ row_value vs r ∷ [] else vs) rows ≡ vs ++ more)
      by true later =
          let h = later (vs ++ row_value vs r ∷ []) in
          (row_value vs r ∷ h.0, h.1 ∙ append_assoc vs (row_value vs r ∷ []) h.0)
      by false later = later vs

  longer_values : (rows longer : List LaunchRow) → IsLonger rows longer → (more : List Value) × (values_of longer ≡ values_of rows ++ more)
  longer_values rows longer h =
      let g = grows (values_of rows) h.more in
      (g.0, ap values_of h.is ∙ fold-append valued [] rows h.more ∙ g.1)

  pub more_values : (rows longer : List LaunchRow) → IsLonger rows longer → length (values_of rows) ≤ length (values_of longer)
  more_values rows longer h =
      let g = longer_values rows longer h in
      let many : length (values_of longer) ≡ length (values_of rows) + length g.0 = ap length g.1 ∙ length-append (values_of rows) g.0 in
      omega (arith, many)

  pub value_stays : (rows longer : List LaunchRow) (c : ℕ) → IsLonger rows longer → c < length (values_of rows) → V longer c ≡ V rows c
  value_stays rows longer c h l =
      let g = longer_values rows longer h in
      ap (λ vs. at vs c) g.1 ∙ get_or_append_left (values_of rows) g.0 (word 0) c l

  values_stay : (rows longer : List LaunchRow) (cs : List ℕ) → IsLonger rows longer → All (λ c. c < length (values_of rows)) cs → map (at (values_of longer)) cs ≡ map (at (values_of rows)) cs
  values_stay rows longer [] h low = refl
  values_stay rows longer (c ∷ cs) h low =
      ap₂ (λ (v : Value) (vs : List Value). v ∷ vs)
      (value_stays rows longer c h (All-head (λ d. d < length (values_of rows)) c cs low))
      (values_stay rows longer cs h (All-tail (λ d. d < length (values_of rows)) c cs low))

  module _ (rows : List LaunchRow) (told : AreTold rows) where
    pub class_low : (sort : Sort) (c : ℕ) → HasSort rows sort c → c < length (values_of rows)
    class_low sort c h =
        let l : h.1.class < next_class rows = below_next rows h.1 (h.0, h.2, h.3) in
        let same : h.1.class ≡ c = h.4.0 in
        let count : length (values_of rows) ≡ next_class rows = told.count in
        omega (arith, l, same, count)

    pub class_value : (sort : Sort) (c : ℕ) → HasSort rows sort c → IsValue sort (V rows c)
    class_value sort c h =
        subst (λ d. IsValue sort (V rows d)) h.4.0
        (subst (λ s. IsValue s (V rows h.1.class)) h.4.1
        (All-contains (λ (r : LaunchRow). IsValue (sort_of r.op) (V rows r.class)) rows h.1 told.sorts (h.0, h.2, h.3)))

    operands_low : (op : Op) (cs : List ℕ) → TakesSorts rows op cs → All (λ c. c < length (values_of rows)) cs
    operands_low op cs h k d l =
        subst (λ c. c < length (values_of rows)) (get_or_default cs k 0 d l)
        (class_low (operand_sort op k) (slice_index cs k) (h k l))

    are_operands : (op : Op) (cs : List ℕ) → length cs ≡ arity_of_op op → TakesSorts rows op cs → AreOperands op (map (at (values_of rows)) cs)
    are_operands op cs arity h = record {
      count = length-map cs (at (values_of rows)) ∙ arity;
      each = λ k l.
          let many = length-map cs (at (values_of rows)) in
          let low : k < length cs = omega (arith, l, many) in
          subst (IsValue (operand_sort op k)) (sym (get_or-map (at (values_of rows)) cs k 0 (word 0) low))
          (class_value (operand_sort op k) (slice_index cs k) (h k low));
    }

    -- the row that applies an operator to operands is true
    pub found_value : AreOwnRows rows → (op : Op) (operands : List ℕ) (class : ℕ) → class_in rows op operands ≡ Some class → V rows class ≡ M op (map (at (values_of rows)) operands)
    found_value own op operands class e =
        let f = found rows op operands class e in
        let r = f.row in
        let here = All-contains (λ (r : LaunchRow). V rows r.class ≡ row_value (values_of rows) r) rows r told.is_true f.there in
        let unnamed = (All-contains (IsOwnRow rows) rows r own.each f.there).unnamed in
        ap (V rows) (sym f.of_class) ∙ here
        ∙ ap (λ (n : List ℕ). meaning w (λ k. n) r.op (map (at (values_of rows)) r.operands)) unnamed
        ∙ ap₂ (λ (o : Op) (cs : List ℕ). M o (map (at (values_of rows)) cs)) f.op_is f.operands_are

  -- ---- one row more

  module _ (rows : List LaunchRow) (told : AreTold rows) (own : AreOwnRows rows) (r : LaunchRow) where
    abbrev pushed : List LaunchRow
    pushed = rows ++ r ∷ []

    behind : IsLonger rows pushed
    behind = with_behind rows r

    next_is : next_class pushed ≡ max (next_class rows) (r.class + 1)
    next_is = fold-append (λ (n : ℕ) (s : LaunchRow). max n (s.class + 1)) 0 rows (r ∷ [])

    values_are : values_of pushed ≡ (if r.class == length (values_of rows) then values_of rows ++ row_value (values_of rows) r ∷ [] else values_of rows)
    values_are = fold-append valued [] rows (r ∷ [])

    row_value_stays : (s : LaunchRow) → TakesSorts rows s.op s.operands → row_value (values_of pushed) s ≡ row_value (values_of rows) s
    row_value_stays s h = ap (row_meaning w s) (values_stay rows pushed s.operands behind (operands_low rows told s.op s.operands h))

    told_push : length (values_of pushed) ≡ next_class pushed → TakesSorts rows r.op r.operands → V pushed r.class ≡ row_value (values_of rows) r → IsValue (sort_of r.op) (V pushed r.class) → AreTold pushed
    told_push count takes is_true sort = record {
      count = count;
      is_true = All-push (λ (s : LaunchRow). V pushed s.class ≡ row_value (values_of pushed) s) rows r old_true (is_true ∙ sym (row_value_stays r takes));
      sorts = All-push (λ (s : LaunchRow). IsValue (sort_of s.op) (V pushed s.class)) rows r old_sort sort;
    }
      where
        old_class : (k : ℕ) (d : LaunchRow) → k < length rows → V pushed (get_or rows k d).class ≡ V rows (get_or rows k d).class
        old_class k d l =
            let s = get_or rows k d in
            let below : s.class < next_class rows = below_next rows s (All-contains_itself rows k d l) in
            let many : length (values_of rows) ≡ next_class rows = told.count in
            value_stays rows pushed s.class behind (omega (arith, below, many))

        old_true : All (λ (s : LaunchRow). V pushed s.class ≡ row_value (values_of pushed) s) rows
        old_true k d l =
            old_class k d l ∙ told.is_true k d l
            ∙ sym (row_value_stays (get_or rows k d) (own.each k d l).operands)

        old_sort : All (λ (s : LaunchRow). IsValue (sort_of s.op) (V pushed s.class)) rows
        old_sort k d l = subst (IsValue (sort_of (get_or rows k d).op)) (sym (old_class k d l)) (told.sorts k d l)

  not_last : (class n : ℕ) → class < n → (class == n) ≡ false
  not_last class n l = elim (eqb_tells class n) [
    | inl k ↦ absurd (let here = k.1 in omega (arith, l, here))
    | inr k ↦ k.0
  ]

  -- a row of a class that is there
  pub told_again : (rows : List LaunchRow) → AreTold rows → AreOwnRows rows → (class : ℕ) (op : Op) (operands : List ℕ) → HasSort rows (sort_of op) class → TakesSorts rows op operands
      → V rows class ≡ M op (map (at (values_of rows)) operands) → AreTold (rows ++ plain_row class op operands ∷ [])
  told_again rows told own class op operands there takes is_true =
      let r : LaunchRow = plain_row class op operands in
      let low = class_low rows told (sort_of op) class there in
      let many : length (values_of rows) ≡ next_class rows = told.count in
      let same : values_of (rows ++ r ∷ []) ≡ values_of rows =
      values_are rows told own r ∙ ap (λ b. if b then values_of rows ++ row_value (values_of rows) r ∷ [] else values_of rows) (not_last class (length (values_of rows)) low) in
      let next = next_is rows told own r in
      let here : V (rows ++ r ∷ []) class ≡ V rows class = ap (λ vs. at vs class) same in
      told_push rows told own r (ap length same ∙ many ∙ sym (next ∙ (omega (arith, low, many)))) takes (here ∙ is_true)
      (subst (IsValue (sort_of op)) (sym here) (class_value rows told (sort_of op) class there))

  module _ (in_range : MeaningsAreInRange w) where
    own_range : (op : Op) → IsOwnOp op → IsInRange op
    own_range op h = by (constant_in op) h.word
      where
        by : (o : Option ℕ) → ((n : ℕ) → o ≡ Some n → IsWord n) → IfSome o IsWord
        by None k = tt
        by (Some n) k = k n refl

    pub row_told : (rows : List LaunchRow) (op : Op) (operands : List ℕ) → AreTold rows → AreOwnRows rows → IsOwnOp op → length operands ≡ arity_of_op op → TakesSorts rows op operands → AreTold (with_row rows op operands)
    row_told rows op operands told own is arity takes = by (is_some (class_in rows op operands))
      where
        new : LaunchRow
        new = plain_row (next_class rows) op operands

        v : Value
        v = row_value (values_of rows) new

        values_now : values_of (rows ++ new ∷ []) ≡ values_of rows ++ v ∷ []
        values_now =
            values_are rows told own new
            ∙ ap (λ b. if b then values_of rows ++ v ∷ [] else values_of rows) (eq-eqb (next_class rows) (length (values_of rows)) (sym told.count))

        here : V (rows ++ new ∷ []) (next_class rows) ≡ v
        here = ap (λ vs. at vs (next_class rows)) values_now ∙ get_or_push (values_of rows) v (word 0) (next_class rows) told.count

        many : length (values_of (rows ++ new ∷ [])) ≡ next_class (rows ++ new ∷ [])
        many =
            let longer : length (values_of (rows ++ new ∷ [])) ≡ length (values_of rows) + 1 = ap length values_now ∙ length_push (values_of rows) v in
            let count : length (values_of rows) ≡ next_class rows = told.count in
            let next : next_class (rows ++ new ∷ []) ≡ max (next_class rows) (next_class rows + 1) = next_is rows told own new in
            omega (arith, longer, count, next)

        by : (b : Bool) → AreTold (if b then rows else rows ++ plain_row (next_class rows) op operands ∷ [])
        by true = told
        by false =
            told_push rows told own new many takes here
            (subst (IsValue (sort_of op)) (sym here) (in_range op (map (at (values_of rows)) operands) (own_range op is) (are_operands rows told op operands arity takes)))

    -- ---- parts

    abbrev pub P : List LaunchRow → Part → Value
    P rows (Class c) = V rows c
    P rows (Leaf op) = M op []

    pub leaves_told : (sorts : ℕ → Sort) (rows : List LaunchRow) (parts : List Part) → AreTold rows → AreOwnRows rows → AreParts rows sorts parts → AreTold (with_leaves rows parts)
    leaves_told sorts rows [] told own h = told
    leaves_told sorts rows (Class c ∷ parts) told own h = leaves_told (λ k. sorts (suc k)) rows parts told own h.1
    leaves_told sorts rows (Leaf op ∷ parts) told own h =
        let none : TakesSorts rows op [] = λ k l. absurd (omega (arith, l)) in
        leaves_told (λ k. sorts (suc k)) (with_row rows op []) parts
        (row_told rows op [] told own h.0.0 (sym h.0.1) none)
        (row_keeps rows op [] own h.0.0 (sym h.0.1) none)
        (parts_stay_own rows (with_row rows op []) (λ k. sorts (suc k)) parts (row_behind rows op []) h.1)

    -- the class of a part has its value, also behind further rows
    module _ (rows all longer : List LaunchRow) (behind : IsLonger rows longer) (after : IsLonger all longer) (told : AreTold rows) (told_then : AreTold longer) (own : AreOwnRows longer) where
      pub leaf_says : (op : Op) → HasItsRow all (Leaf op) → V longer (class_of_part all (Leaf op)) ≡ M op []
      leaf_says op has = by (class_in all op []) refl has
        where
          by : (o : Option ℕ) → class_in all op [] ≡ o → IsTrue (is_some o) → V longer (unwrap_or (class_in all op []) (next_class all)) ≡ M op []
          by None e t = absurd (let f : false ≡ true = t in cc)
          by (Some class) e t =
              ap (λ o. V longer (unwrap_or o (next_class all))) e
              ∙ found_value longer told_then own op [] class (class_stays all longer op [] class after e)

      pub part_says : (sort : Sort) (part : Part) → IsPart rows sort part → HasItsRow all part → V longer (class_of_part all part) ≡ P rows part
      part_says sort (Class c) is has = value_stays rows longer c behind (class_low rows told sort c is)
      part_says sort (Leaf op) is has = leaf_says op has

      parts_say : (sorts : ℕ → Sort) (parts : List Part) → AreParts rows sorts parts → All (HasItsRow all) parts → map (at (values_of longer)) (classes_of all parts) ≡ map (P rows) parts
      parts_say sorts [] are have = refl
      parts_say sorts (part ∷ parts) are have =
          ap₂ (λ (v : Value) (vs : List Value). v ∷ vs)
          (part_says (sorts 0) part are.0 (All-head (HasItsRow all) part parts have))
          (parts_say (λ k. sorts (suc k)) parts are.1 (All-tail (HasItsRow all) part parts have))

    -- the row that applies an operator to parts
    module _ (rows : List LaunchRow) (op : Op) (parts : List Part) (told : AreTold rows) (own : AreOwnRows rows) (is : IsOwnOp op)
        (arity : length parts ≡ arity_of_op op) (are : AreParts rows (operand_sort op) parts) where
      abbrev all : List LaunchRow
      all = with_leaves rows parts

      abbrev made : List LaunchRow
      made = with_applied rows op parts

      pub applied_told : AreTold made
      applied_told =
          let count = length-map parts (class_of_part all) in
          row_told all op (classes_of all parts) (leaves_told (operand_sort op) rows parts told own are) (leaves_keep (operand_sort op) rows parts own are) is (count ∙ arity)
          (λ k l. classes_sorts (operand_sort op) rows parts are k (omega (arith, l, count)))

      pub applied_says : V made (applied_class rows op parts) ≡ M op (map (P rows) parts)
      applied_says =
          let own_made = applied_keeps rows op parts own is arity are in
          found_value made applied_told own_made op (classes_of all parts) (applied_class rows op parts) (class_is all op (classes_of all parts))
          ∙ ap (M op) (parts_say rows all made (applied_behind rows op parts) (row_behind all op (classes_of all parts)) told applied_told own_made (operand_sort op) parts are
          (λ k d l. have_rows rows parts k d l))
