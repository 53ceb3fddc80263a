-- The steps of a merge, over the tables.
use Rattle.std.proofs.Common.{◌≡◌, ◌≢◌, ℕ, ◌<◌, ◌⊎◌, List, [], map, length, get_or, Contains, All, AllPairs, Option, Some, None, IsSome, true≢false, refl, sym, ap, ◌∙◌, subst, subst₂, inl, inr, arith}
use Rattle.std.proofs.lemmas.Bool.{cases_eq}
use Rattle.std.proofs.lemmas.Option.{slice_get-get_or}
use Rattle.slab.specs.Slab.{Slab, get}
use Rattle.word_terms.specs.Signature.{Signature}
use Rattle.egraph.specs.declared.rows.Row.{Row}
use Rattle.egraph.specs.declared.row_index.RowKey.{RowKey}
use Rattle.egraph.specs.declared.faults.MergeFault.{MergeFault}
use Rattle.egraph.specs.declared.faults.MergeFault.TheVariants.{NoWorld, Memory}
use Rattle.egraph.specs.Graph.{Graph, IsGraph, Agree, HasConstant}
use Rattle.egraph.specs.Joined.{kept, pair, symmetric, transitive, relabel, Clash}
use Rattle.egraph.specs.Steps.{moved}
use Rattle.egraph.specs.Faults.{FaultIs, NamesLowClass}
use Rattle.egraph.specs.Keys.{key_of_row, indexed_place, constant_at}
use Rattle.egraph.specs.Tables.{EachBecomes, FitLists, IsIndexed, IsOrder, IsTracked, Twins, TwoConstants, JoinedUp, rows_in}
use Rattle.egraph.proofs.Lists.{moved_to, at_map, contains_map}
use Rattle.egraph.proofs.Merging.{IsMerging, MayJoin, joined_up, step, start, agreeing_may_join, has_made, has_present, current_has}
use Rattle.egraph.proofs.MergeSteps.{moved_from, clash_from, clash_low, pair_kept}
use Rattle.egraph.proofs.Joins.{become_back, become_forth}
use Rattle.egraph.proofs.Orders.{filter_map_has, filter_map_from, rows_mapped, rows_fewer, rows_length, row_of}

abbrev pub graph_of : {O : Type 0} → Slab (Row O) → List ℕ → List ℕ → Graph O
graph_of rows order current = record { rows = rows_in rows order; current = current }

abbrev pub JoinedEither : {O : Type 0} → ℕ → ℕ → Slab (Row O) → Slab (Row O) → List ℕ → List ℕ → Type 0
JoinedEither x y rows rows' current current' = JoinedUp x y rows rows' current current' ⊎ JoinedUp y x rows rows' current current'

module _ {O : Type 0} (s : Signature O) (old : Graph O) (is : IsGraph s old) (a b : ℕ) where
  pub back_may_join : a < length old.current → b < length old.current → MayJoin s old is a b old (start s old is a b) (get_or old.current b 0) (get_or old.current a 0)
  back_may_join la lb =
      let ha = current_has s old is a la in
      let hb = current_has s old is b lb in
      let ma = has_made s old is (get_or old.current a 0) ha in
      let mb = has_made s old is (get_or old.current b 0) hb in
      let pa = has_present s old is (get_or old.current a 0) ha in
      let pb = has_present s old is (get_or old.current b 0) hb in
      record {
        to_made = ma;
        to_settled = pa;
        to_present = pa;
        forced = transitive (kept (get_or old.current b 0) b mb lb pb) (transitive (symmetric pair) (kept a (get_or old.current a 0) la ma (sym pa)));
      }

  module _ (rows : Slab (Row O)) (order current : List ℕ) (m : IsMerging old a b (graph_of rows order current)) where
    one_joined : (from to : ℕ) (rows' : Slab (Row O)) (current' : List ℕ) → MayJoin s old is a b (graph_of rows order current) m from to → JoinedUp from to rows rows' current current' → IsMerging old a b (graph_of rows' order current')
    one_joined from to rows' current' may j =
        subst₂ (λ rs cs. IsMerging old a b (record { rows = rs; current = cs })) (sym (rows_mapped (relabel (moved from to)) rows rows' j.rows_become order)) (sym j.current_is) (step s old is a b (graph_of rows order current) m from to may)

    pub joined_merging : (x y : ℕ) (rows' : Slab (Row O)) (current' : List ℕ) → MayJoin s old is a b (graph_of rows order current) m x y → MayJoin s old is a b (graph_of rows order current) m y x → JoinedEither x y rows rows' current current' → IsMerging old a b (graph_of rows' order current')
    joined_merging x y rows' current' may yam j = elim j [ inl h ↦ one_joined x y rows' current' may h | inr h ↦ one_joined y x rows' current' yam h ]

    module _ (own uses members : List (List ℕ)) (constants : List (Option ℕ)) (listed : FitLists s rows own uses members constants current) (in_order : IsOrder rows order) where
      moved_constant : (from to class x : ℕ) → constant_at constants class ≡ Some x → moved from to class ≡ to → HasConstant s (map (relabel (moved from to)) (rows_in rows order)) to x
      moved_constant from to class x e to_is =
          let h = listed.constant_there class x e in
          let f = moved from to in
          record {
            row = relabel f h.row;
            there = contains_map (relabel f) (rows_in rows order) h.row (filter_map_has (get rows) order h.place h.row (in_order.listed h.place h.row h.there) h.there);
            of_class = ap f h.of_class ∙ to_is;
            is = h.is;
          }

      fault_one : (from to : ℕ) → MayJoin s old is a b (graph_of rows order current) m from to → (fault : MergeFault) → TwoConstants constants from to fault → FaultIs s old a b fault
      fault_one from to may (NoWorld class x y) h =
          let g = graph_of rows order current in
          subst (λ c. Clash s old a b c x y) (sym h.0)
          (clash_from s old is a b (joined_up from to g) (step s old is a b g m from to may) to x y (record {
            first = moved_constant from to from x h.1 (moved_from from to);
            second = moved_constant from to to y h.2 (moved_to from to);
            differ = h.3;
          }))
      fault_one from to may Memory h = tt

      pub fault_is : (x y : ℕ) → MayJoin s old is a b (graph_of rows order current) m x y → MayJoin s old is a b (graph_of rows order current) m y x → (fault : MergeFault) → TwoConstants constants x y fault ⊎ TwoConstants constants y x fault → FaultIs s old a b fault
      fault_is x y may yam fault h = elim h [ inl k ↦ fault_one x y may fault k | inr k ↦ fault_one y x yam fault k ]

    -- rows that agree may have their classes joined, either way
    pub twins_may_join : (first second : ℕ) (t : Twins rows first second) → IsOrder rows order → MayJoin s old is a b (graph_of rows order current) m t.row.class t.other.class × MayJoin s old is a b (graph_of rows order current) m t.other.class t.row.class
    twins_may_join first second t in_order =
        let g = graph_of rows order current in
        let hr = filter_map_has (get rows) order first t.row (in_order.listed first t.row t.row_there) t.row_there in
        let ho = filter_map_has (get rows) order second t.other (in_order.listed second t.other t.other_there) t.other_there in (
          agreeing_may_join s old is a b g m t.other t.row ho hr (record { op = sym t.agree.op; operands = sym t.agree.operands }),
          agreeing_may_join s old is a b g m t.row t.other hr ho t.agree,
        )

    -- of two equal rows one may go
    pub thinner : (rows' : Slab (Row O)) (first second : ℕ) (r : Row O) → first ≢ second → get rows first ≡ Some r → get rows second ≡ Some r →
        IsOrder rows order → get rows' second ≡ None → ((k : ℕ) → k ≢ second → get rows' k ≡ get rows k) → IsMerging old a b (graph_of rows' order current)
    thinner rows' first second r differ at_first at_second in_order none others =
        let keeps : (q : Row O) → Contains (rows_in rows order) q → Contains (rows_in rows' order) q =
        λ q c.
        let p = filter_map_from (get rows) order q c in
        elim (cases_eq p.0 second) [
          | inl same ↦
              (let e : Some q ≡ Some r = sym p.2 ∙ ap (get rows) same ∙ at_second in
              let e' : q ≡ r = cc in
              subst (Contains (rows_in rows' order)) (sym e') (filter_map_has (get rows') order first r (in_order.listed first r at_first) (others first differ ∙ at_first)))
          | inr apart ↦ filter_map_has (get rows') order p.0 q p.1 (others p.0 apart ∙ p.2)
        ] in
        let back_to : (q : Row O) → Contains (rows_in rows' order) q → Contains (rows_in rows order) q =
        λ q c.
        let p = filter_map_from (get rows') order q c in
        elim (cases_eq p.0 second) [
          | inl same ↦ (let e : None ≡ Some q = sym none ∙ ap (get rows') (sym same) ∙ p.2 in absurd (cc))
          | inr apart ↦ filter_map_has (get rows) order p.0 q p.1 (sym (others p.0 apart) ∙ p.2)
        ] in
        let fewer : (k : ℕ) → (get rows' k ≡ None) ⊎ (get rows' k ≡ get rows k) = λ k. elim (cases_eq k second) [ inl same ↦ inl (ap (get rows') same ∙ none) | inr apart ↦ inr (others k apart) ] in
        record {
          made = m.made;
          sound = m.sound;
          below = m.below;
          settled = m.settled;
          was_present = m.was_present;
          follows = m.follows;
          images = λ q h. keeps (relabel (λ x. get_or current x 0) q) (m.images q h);
          from_old = λ q h. m.from_old q (back_to q h);
          no_more = omega (arith, m.no_more, rows_fewer rows rows' fewer order);
        }

  pub low_from : a < length old.current → b < length old.current → (fault : MergeFault) → FaultIs s old a b fault → NamesLowClass fault
  low_from la lb (NoWorld class x y) h = clash_low s old is a b la lb h
  low_from la lb Memory h = tt

-- the row under a key after a join
pub joined_row : {O : Type 0} (x y : ℕ) (rows rows' : Slab (Row O)) (current current' : List ℕ) → JoinedEither x y rows rows' current current' → (place : ℕ) (r : Row O) → get rows place ≡ Some r → IsSome (get rows' place)
joined_row x y rows rows' current current' j place r e = elim j [
  | inl h ↦ subst IsSome (sym (become_forth (relabel (moved x y)) rows rows' h.rows_become place r e)) refl
  | inr h ↦ subst IsSome (sym (become_forth (relabel (moved y x)) rows rows' h.rows_become place r e)) refl
]

-- rows that agreed are one row after their classes are joined
pub twins_equal : {O : Type 0} (rows rows' : Slab (Row O)) (current current' : List ℕ) (first second : ℕ) (t : Twins rows first second) → JoinedEither t.row.class t.other.class rows rows' current current' →
    (r : Row O) × (get rows' first ≡ Some r) × (get rows' second ≡ Some r)
twins_equal {O} rows rows' current current' first second t j = elim j [
  | inl h ↦ by t.row.class t.other.class h.rows_become (moved_from t.row.class t.other.class ∙ sym (moved_to t.row.class t.other.class))
  | inr h ↦ by t.other.class t.row.class h.rows_become (moved_to t.other.class t.row.class ∙ sym (moved_from t.other.class t.row.class))
]
  where
    by : (from to : ℕ) → EachBecomes (relabel (moved from to)) rows rows' → moved from to t.row.class ≡ moved from to t.other.class → (r : Row O) × (get rows' first ≡ Some r) × (get rows' second ≡ Some r)
    by from to each cls =
        let f = moved from to in
        let same : relabel f t.other ≡ relabel f t.row = sym (λ i. record { op = t.agree.op i; operands = map f (t.agree.operands i); class = cls i }) in
        (relabel f t.row, become_forth (relabel f) rows rows' each first t.row t.row_there, become_forth (relabel f) rows rows' each second t.other t.other_there ∙ ap Some same)

pub joined_pair : {O : Type 0} (x y : ℕ) (rows rows' : Slab (Row O)) (current current' : List ℕ) → JoinedEither x y rows rows' current current' → (a b : ℕ) → a < length current → b < length current → get_or current a 0 ≡ get_or current b 0 → get_or current' a 0 ≡ get_or current' b 0
joined_pair x y rows rows' current current' j a b la lb e = elim j [ inl h ↦ pair_kept (moved x y) current current' a b la lb h.current_is e | inr h ↦ pair_kept (moved y x) current current' a b la lb h.current_is e ]

pub first_pair : {O : Type 0} (a b : ℕ) (rows rows' : Slab (Row O)) (current current' : List ℕ) → a < length current → b < length current → JoinedEither (get_or current a 0) (get_or current b 0) rows rows' current current' → get_or current' a 0 ≡ get_or current' b 0
first_pair a b rows rows' current current' la lb j =
    let x = get_or current a 0 in
    let y = get_or current b 0 in
    elim j [
      | inl h ↦ ap (λ xs. get_or xs a 0) h.current_is ∙ at_map (moved x y) current a la ∙ moved_from x y ∙ sym (ap (λ xs. get_or xs b 0) h.current_is ∙ at_map (moved x y) current b lb ∙ moved_to x y)
      | inr h ↦ ap (λ xs. get_or xs a 0) h.current_is ∙ at_map (moved y x) current a la ∙ moved_to y x ∙ sym (ap (λ xs. get_or xs b 0) h.current_is ∙ at_map (moved y x) current b lb ∙ moved_from y x)
    ]

pub joined_order : {O : Type 0} (x y : ℕ) (rows rows' : Slab (Row O)) (current current' order : List ℕ) → JoinedEither x y rows rows' current current' → IsOrder rows order → IsOrder rows' order
joined_order x y rows rows' current current' order j is = record {
  listed = λ place r e. elim j [
    | inl h ↦ (let t = become_back (relabel (moved x y)) rows rows' h.rows_become place r e in is.listed place t.0 t.1)
    | inr h ↦ (let t = become_back (relabel (moved y x)) rows rows' h.rows_become place r e in is.listed place t.0 t.1)
  ];
  once = is.once;
}

pub joined_held : {O : Type 0} (x y : ℕ) (rows rows' : Slab (Row O)) (current current' order : List ℕ) → JoinedEither x y rows rows' current current' → All (λ k. IsSome (get rows k)) order → All (λ k. IsSome (get rows' k)) order
joined_held {O} x y rows rows' current current' order j held k d l = still (get rows (get_or order k d)) refl (held k d l)
  where
    still : (o : Option (Row O)) → get rows (get_or order k d) ≡ o → IsSome o → IsSome (get rows' (get_or order k d))
    still None e some = absurd (true≢false (sym some))
    still (Some r) e some = joined_row x y rows rows' current current' j (get_or order k d) r e

-- a row that has a twin under another key goes
module _ {O : Type 0} (s : Signature O) (rows rows' : Slab (Row O)) (first second : ℕ) (twin : Row O) (differ : first ≢ second) (at_first : get rows first ≡ Some twin) (at_second : get rows second ≡ Some twin)
    (none : get rows' second ≡ None) (others : (k : ℕ) → k ≢ second → get rows' k ≡ get rows k) where
  was : (k : ℕ) (r : Row O) → get rows' k ≡ Some r → get rows k ≡ Some r
  was k r e = elim (cases_eq k second) [
    | inl same ↦ (let f : None ≡ Some r = sym none ∙ ap (get rows') (sym same) ∙ e in absurd (cc))
    | inr apart ↦ sym (others k apart) ∙ e
  ]

  pub gone_order : (order : List ℕ) → IsOrder rows order → IsOrder rows' order
  gone_order order is = record { listed = λ place r e. is.listed place r (was place r e); once = is.once }

  pub gone_tracked : (index : List (RowKey × ℕ)) (waiting : List ℕ) (k : ℕ) → IsTracked s rows index waiting k → IsTracked s rows' index waiting k
  gone_tracked index waiting k h r e = h r (was k r e)

  pub gone_listed : (own uses members : List (List ℕ)) (constants : List (Option ℕ)) (current : List ℕ) → FitLists s rows own uses members constants current → FitLists s rows' own uses members constants current
  gone_listed own uses members constants current is = record {
    arities = λ place r e. is.arities place r (was place r e);
    own_rows = λ class place r e k. is.own_rows class place r (was place r e) k;
    used = λ class place r e k. is.used class place r (was place r e) k;
    members_of = is.members_of;
    constant_of = λ place r x e k. is.constant_of place r x (was place r e) k;
    constant_there = λ class x k.
        let h = is.constant_there class x k in
        elim (cases_eq h.place second) [
          | inl same ↦
              (let e : Some h.row ≡ Some twin = sym h.there ∙ ap (get rows) same ∙ at_second in
              let e' : h.row ≡ twin = cc in
              record { place = first; row = twin; there = others first differ ∙ at_first; of_class = ap (λ q. q.class) (sym e') ∙ h.of_class; is = ap (λ (q : Row O). s.constant q.op) (sym e') ∙ h.is })
          | inr apart ↦ record { place = h.place; row = h.row; there = others h.place apart ∙ h.there; of_class = h.of_class; is = h.is }
        ];
  }

-- no row waits any more
pub all_indexed : {O : Type 0} (s : Signature O) (rows : Slab (Row O)) (index : List (RowKey × ℕ)) (waiting : List ℕ) → waiting ≡ [] → ((k : ℕ) → IsTracked s rows index waiting k) → IsIndexed s rows index
all_indexed s rows index waiting none tracked place r e = elim (tracked place r e) [
  | inl h ↦ h
  | inr h ↦ absurd (let l = h.1 in omega (arith, l, ap length none))
]

-- rows with keys of their own in the index don't agree
pub kept_apart : {O : Type 0} (s : Signature O) (rows : Slab (Row O)) (index : List (RowKey × ℕ)) (order : List ℕ) → IsIndexed s rows index → All (λ k. IsSome (get rows k)) order → AllPairs (λ x y. x ≢ y) order → AllPairs (λ r t. ¬ Agree r t) (rows_in rows order)
kept_apart {O} s rows index order indexed held once i j d lt l agree =
    let n = rows_length rows order held in
    let lj : j < length order = omega (arith, l, n) in
    let li : i < length order = omega (arith, lj, lt) in
    let ki = get_or order i 0 in
    let kj = get_or order j 0 in
    let r = get_or (rows_in rows order) i d in
    let t = get_or (rows_in rows order) j d in
    let ri : get rows ki ≡ Some r = sym (row_of rows order held i li) ∙ slice_get-get_or (rows_in rows order) i d (omega (arith, li, n)) in
    let rj : get rows kj ≡ Some t = sym (row_of rows order held j lj) ∙ slice_get-get_or (rows_in rows order) j d l in
    let keys : key_of_row s r.op r.operands ≡ key_of_row s t.op t.operands = λ k. key_of_row s (agree.op k) (agree.operands k) in
    let e : Some ki ≡ Some kj = sym (indexed ki r ri) ∙ ap (indexed_place index) keys ∙ indexed kj t rj in
    once i j 0 lt lj (cc)

pub same_class : {O : Type 0} (rows : Slab (Row O)) (place : ℕ) (r t : Row O) → get rows place ≡ Some r → get rows place ≡ Some t → r.class ≡ t.class
same_class rows place r t e f = let h : Some r ≡ Some t = sym e ∙ f in let same : r ≡ t = cc in ap (λ q. q.class) same
