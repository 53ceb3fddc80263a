-- What the steps of a merge do to rows under keys, key by key.
use Rattle.std.proofs.Common.{◌≡◌, ◌≢◌, ℕ, zero, suc, ◌+◌, ◌-◌, ◌<◌, ◌≤◌, ◌⊎◌, slice_get, List, [], ◌∷◌, ◌++◌, map, length, get_or, drop, Contains, Option, Some, None, refl, sym, ap, ◌∙◌, subst, inl, inr, arith}
use Rattle.std.specs.Option.{option_map, option_to_list}
use Rattle.std.proofs.lemmas.Bool.{cases_eq}
use Rattle.std.proofs.lemmas.List.{drop_more, drop_all, length-map, same_lists, get_or-map, get_or_default, ext_get_or}
use Rattle.std.proofs.lemmas.List.Elements.{Contains-push, Contains-push_cases, Contains-append_left}
use Rattle.std.proofs.lemmas.Option.{slice_get_within, get_or_from_slice_get}
use Rattle.slab.specs.Slab.{Slab, get}
use Rattle.word_terms.specs.Signature.{Signature}
use Rattle.slab.proofs.SlabLemmas.{Contains-cons, Contains-cons_cases}
use Rattle.egraph.specs.declared.rows.Row.{Row}
use Rattle.egraph.specs.declared.row_index.RowKey.{RowKey}
use Rattle.egraph.specs.Graph.{Agree}
use Rattle.egraph.specs.Steps.{moved}
use Rattle.egraph.specs.Keys.{key_of_row, indexed_place}
use Rattle.egraph.specs.Tables.{reoperand, Becomes, ListsUsesOf, ListsMembersOf, HasArities, IsTracked}
use Rattle.egraph.proofs.Lists.{moved_cases, moved_to, map-map, map_agree}

pub moved_twice : (from to x : ℕ) → moved from to (moved from to x) ≡ moved from to x
moved_twice from to x = elim (moved_cases from to x) [
  | inl h ↦ ap (moved from to) h.1 ∙ moved_to from to ∙ sym h.1
  | inr h ↦ ap (moved from to) h.1
]

-- an operand list without `from` stays as it is
moved_or_there : (from to : ℕ) (xs : List ℕ) → (map (moved from to) xs ≡ xs) ⊎ Contains xs from
moved_or_there from to [] = inl refl
moved_or_there from to (x ∷ xs) = elim (moved_cases from to x) [
  | inl h ↦ inr (0, omega arith, h.0)
  | inr h ↦ elim (moved_or_there from to xs) [
    | inl e ↦ (let f = h.1 in inl cc)
    | inr c ↦ inr (Contains-cons x from xs c)
  ]
]

at_most_three : (P : ℕ → Type 0) → P 0 → P 1 → P 2 → P 3 → (k : ℕ) → k < 4 → P k
at_most_three P a b c d zero l = a
at_most_three P a b c d (suc zero) l = b
at_most_three P a b c d (suc (suc zero)) l = c
at_most_three P a b c d (suc (suc (suc zero))) l = d
at_most_three P a b c d (suc (suc (suc (suc k)))) l = absurd (omega arith)

module _ {O : Type 0} where
  reoperand_twice : (from to : ℕ) (r : Row O) → reoperand (moved from to) (reoperand (moved from to) r) ≡ reoperand (moved from to) r
  reoperand_twice from to r =
      let f = moved from to in
      let e : map f (map f r.operands) ≡ map f r.operands = map-map f f r.operands ∙ map_agree (λ x. f (f x)) f r.operands (λ k d l. moved_twice from to (get_or r.operands k d)) in
      cc

  pub uses_start : (rows : Slab (Row O)) (places : List ℕ) (from to : ℕ) → ListsUsesOf rows from places → (k : ℕ) →
      Becomes (reoperand (moved from to)) rows rows k ⊎ ((get rows k ≡ get rows k) × Contains places k)
  uses_start rows places from to listed k = by (get rows k) refl
    where
      by : (o : Option (Row O)) → get rows k ≡ o → Becomes (reoperand (moved from to)) rows rows k ⊎ ((get rows k ≡ get rows k) × Contains places k)
      by None e = inl (e ∙ ap (option_map (reoperand (moved from to))) (sym e))
      by (Some r) e = elim (moved_or_there from to r.operands) [
        | inl same ↦ inl (e ∙ ap (λ xs. Some (record { op = r.op; operands = xs; class = r.class })) (sym same) ∙ ap (option_map (reoperand (moved from to))) (sym e))
        | inr there ↦ inr (refl, listed k r e there)
      ]

  option_twice : (F : Row O → Row O) → ((r : Row O) → F (F r) ≡ F r) → (o : Option (Row O)) → option_map F (option_map F o) ≡ option_map F o
  option_twice F twice None = refl
  option_twice F twice (Some r) = ap Some (twice r)

  -- one more of the places is done
  pub more_done : (F : Row O → Row O) → ((r : Row O) → F (F r) ≡ F r) → (old now next : Slab (Row O)) (places : List ℕ) (i p : ℕ) →
      i < length places → p ≡ get_or places i 0 →
      ((k : ℕ) → Becomes F old now k ⊎ ((get now k ≡ get old k) × Contains (drop i places) k)) →
      Becomes F now next p → ((k : ℕ) → k ≢ p → get next k ≡ get now k) →
      (k : ℕ) → Becomes F old next k ⊎ ((get next k ≡ get old k) × Contains (drop (i + 1) places) k)
  more_done F twice old now next places i p l ep each becomes others k = elim (cases_eq k p) [
    | inl same ↦ elim (each p) [
      | inl b ↦ inl (ap (get next) same ∙ becomes ∙ ap (option_map F) b ∙ option_twice F twice (get old p) ∙ ap (λ j. option_map F (get old j)) (sym same))
      | inr b ↦ inl (ap (get next) same ∙ becomes ∙ ap (option_map F) b.0 ∙ ap (λ j. option_map F (get old j)) (sym same))
    ]
    | inr differs ↦ elim (each k) [
      | inl b ↦ inl (others k differs ∙ b)
      | inr b ↦
          let e : drop i places ≡ p ∷ drop (i + 1) places = drop_more places i 0 l ∙ ap (λ x. x ∷ drop (i + 1) places) (sym ep) in
          elim (Contains-cons_cases p k (drop (i + 1) places) (subst (λ xs. Contains xs k) e b.1)) [
            | inl here ↦ absurd (differs (sym here))
            | inr there ↦ inr (others k differs ∙ b.0, there)
          ]
    ]
  ]

  pub more_uses_done : (from to : ℕ) (old now next : Slab (Row O)) (places : List ℕ) (i p : ℕ) →
      i < length places → p ≡ get_or places i 0 →
      ((k : ℕ) → Becomes (reoperand (moved from to)) old now k ⊎ ((get now k ≡ get old k) × Contains (drop i places) k)) →
      Becomes (reoperand (moved from to)) now next p → ((k : ℕ) → k ≢ p → get next k ≡ get now k) →
      (k : ℕ) → Becomes (reoperand (moved from to)) old next k ⊎ ((get next k ≡ get old k) × Contains (drop (i + 1) places) k)
  more_uses_done from to = more_done (reoperand (moved from to)) (reoperand_twice from to)

  -- a row whose operands changed waits, and the others stay tracked
  pub still_tracked : (s : Signature O) (now next : Slab (Row O)) (index index' : List (RowKey × ℕ)) (waiting waiting' : List ℕ) (p : ℕ) →
      ((k : ℕ) → k ≢ p → get next k ≡ get now k) →
      ((k : ℕ) → k ≢ p → (key : RowKey) → indexed_place index key ≡ Some k → indexed_place index' key ≡ Some k) →
      waiting' ≡ waiting ++ p ∷ [] →
      (k : ℕ) → IsTracked s now index waiting k → IsTracked s next index' waiting' k
  still_tracked s now next index index' waiting waiting' p others keeps ew k h r e = elim (cases_eq k p) [
    | inl same ↦ inr (subst (λ xs. Contains xs k) (sym ew) (subst (Contains (waiting ++ p ∷ [])) (sym same) (Contains-push waiting p)))
    | inr differs ↦ elim (h r (sym (others k differs) ∙ e)) [
      | inl there ↦ inl (keeps k differs (key_of_row s r.op r.operands) there)
      | inr waits ↦ inr (subst (λ xs. Contains xs k) (sym ew) (Contains-append_left waiting (p ∷ []) k waits))
    ]
  ]

-- one more of the members is done
pub more_members : (from to : ℕ) (old now next : List ℕ) (places : List ℕ) (i p : ℕ) →
    i < length places → p ≡ get_or places i 0 → length now ≡ length old → length next ≡ length now →
    ((k : ℕ) → k < length now → (get_or now k 0 ≡ moved from to (get_or old k 0)) ⊎ ((get_or now k 0 ≡ get_or old k 0) × Contains (drop i places) k)) →
    (p < length now → get_or next p 0 ≡ moved from to (get_or now p 0)) → ((k : ℕ) → k ≢ p → get_or next k 0 ≡ get_or now k 0) →
    (k : ℕ) → k < length next → (get_or next k 0 ≡ moved from to (get_or old k 0)) ⊎ ((get_or next k 0 ≡ get_or old k 0) × Contains (drop (i + 1) places) k)
more_members from to old now next places i p l ep len len' each becomes others k lk = elim (cases_eq k p) [
  | inl same ↦
      let b : p < length now = omega (arith, lk, len', same) in
      let step = ap (λ j. get_or next j 0) same ∙ becomes b in
      elim (each p b) [
        | inl d ↦ inl (step ∙ ap (moved from to) d ∙ moved_twice from to (get_or old p 0) ∙ ap (λ j. moved from to (get_or old j 0)) (sym same))
        | inr d ↦ inl (step ∙ ap (moved from to) d.0 ∙ ap (λ j. moved from to (get_or old j 0)) (sym same))
      ]
  | inr differs ↦ elim (each k (omega (arith, lk, len'))) [
    | inl b ↦ inl (others k differs ∙ b)
    | inr b ↦
        let e : drop i places ≡ p ∷ drop (i + 1) places = drop_more places i 0 l ∙ ap (λ x. x ∷ drop (i + 1) places) (sym ep) in
        elim (Contains-cons_cases p k (drop (i + 1) places) (subst (λ xs. Contains xs k) e b.1)) [
          | inl here ↦ absurd (differs (sym here))
          | inr there ↦ inr (others k differs ∙ b.0, there)
        ]
  ]
]

-- when none is left, all are moved
pub members_done : (from to : ℕ) (old now : List ℕ) → length now ≡ length old →
    ((k : ℕ) → k < length now → get_or now k 0 ≡ moved from to (get_or old k 0)) → now ≡ map (moved from to) old
members_done from to old now len each =
    same_lists now (map (moved from to) old) (len ∙ sym (length-map old (moved from to))) (λ k d l.
    get_or_default now k d 0 l ∙ each k l ∙ sym (get_or-map (moved from to) old k 0 d (omega (arith, l, len))))

pub members_start : (from to : ℕ) (current members : List ℕ) → ListsMembersOf current from members → (k : ℕ) → k < length current →
    (get_or current k 0 ≡ moved from to (get_or current k 0)) ⊎ ((get_or current k 0 ≡ get_or current k 0) × Contains members k)
members_start from to current members listed k l = elim (moved_cases from to (get_or current k 0)) [
  | inl h ↦ inr (refl, listed k l h.0)
  | inr h ↦ inl (sym h.1)
]

-- the row under the key is of the class, or has it as an operand
abbrev pub IsOwn : {O : Type 0} → Slab (Row O) → ℕ → ℕ → Type 0
IsOwn {O} rows class place = (r : Row O) × (get rows place ≡ Some r) × (r.class ≡ class)

abbrev pub IsUse : {O : Type 0} → Slab (Row O) → ℕ → ℕ → Type 0
IsUse {O} rows class place = (r : Row O) × (get rows place ≡ Some r) × Contains r.operands class

-- of one place more it is settled whether it is kept
pub keeps_more : (P : ℕ → Type 0) (places kept kept' : List ℕ) (i p : ℕ) → i < length places → p ≡ get_or places i 0 → ((k : ℕ) → Contains kept k → Contains kept' k) → (P p → Contains kept' p) →
    ((k : ℕ) → P k → Contains kept k ⊎ Contains (drop i places) k) → (k : ℕ) → P k → Contains kept' k ⊎ Contains (drop (i + 1) places) k
keeps_more P places kept kept' i p l ep grows this each k pk = elim (each k pk) [
  | inl h ↦ inl (grows k h)
  | inr h ↦
      let e : drop i places ≡ p ∷ drop (i + 1) places = drop_more places i 0 l ∙ ap (λ x. x ∷ drop (i + 1) places) (sym ep) in
      elim (Contains-cons_cases p k (drop (i + 1) places) (subst (λ xs. Contains xs k) e h)) [
        | inl here ↦ inl (subst (Contains kept') here (this (subst P (sym here) pk)))
        | inr there ↦ inr there
      ]
]

pub all_kept : (places kept : List ℕ) (i : ℕ) → length places ≤ i → (k : ℕ) → Contains kept k ⊎ Contains (drop i places) k → Contains kept k
all_kept places kept i l k h = elim h [
  | inl c ↦ c
  | inr r ↦ (let c = subst (λ xs. Contains xs k) (drop_all i places l) r in absurd (omega (arith, c.1)))
]

pub no_more_left : {P Q : Type 0} (places : List ℕ) (i : ℕ) → length places ≤ i → (k : ℕ) → P ⊎ (Q × Contains (drop i places) k) → P
no_more_left places i l k h = elim h [
  | inl p ↦ p
  | inr q ↦ (let c = subst (λ xs. Contains xs k) (drop_all i places l) q.1 in absurd (omega (arith, c.1)))
]

module _ {O : Type 0} (s : Signature O) where
  -- rows with one key agree
  pub same_key_agrees : ((op other : O) → s.key op ≡ s.key other → op ≡ other) → ((op : O) → s.arity op ≤ 4) →
      (op other : O) (xs ys : List ℕ) → length xs ≡ s.arity op → length ys ≡ s.arity other →
      key_of_row s op xs ≡ key_of_row s other ys → (op ≡ other) × (xs ≡ ys)
  same_key_agrees own four op other xs ys lx ly e =
      let op_key : s.key op ≡ s.key other = λ i. ((e i).kind, (e i).number) in
      let op_is : op ≡ other = own op other op_key in
      let len : length xs ≡ length ys = lx ∙ ap s.arity op_is ∙ sym ly in
      let most : length xs ≤ 4 = omega (arith, four op, lx) in
      let e0 : get_or xs 0 0 ≡ get_or ys 0 0 = ap (λ k. k.first) e in
      let e1 : get_or xs 1 0 ≡ get_or ys 1 0 = ap (λ k. k.second) e in
      let e2 : get_or xs 2 0 ≡ get_or ys 2 0 = ap (λ k. k.third) e in
      let e3 : get_or xs 3 0 ≡ get_or ys 3 0 = ap (λ k. k.fourth) e in
      (op_is, ext_get_or 0 xs ys len (λ k l. at_most_three (λ j. get_or xs j 0 ≡ get_or ys j 0) e0 e1 e2 e3 k (omega (arith, l, most))))

  -- a row that is put into the index is tracked, and the others stay so
  pub noted_tracked : ((op other : O) → s.key op ≡ s.key other → op ≡ other) → ((op : O) → s.arity op ≤ 4) →
      (rows : Slab (Row O)) (index index' : List (RowKey × ℕ)) (waiting waiting' : List ℕ) (place : ℕ) (row : Row O) (key : RowKey) → key ≡ key_of_row s row.op row.operands →
      HasArities s rows → get rows place ≡ Some row →
      waiting ≡ waiting' ++ place ∷ [] →
      ((first : ℕ) (r : Row O) → indexed_place index key ≡ Some first → get rows first ≡ Some r → first ≢ place → ¬ Agree r row) →
      indexed_place index' key ≡ Some place →
      ((other : RowKey) → other ≢ key → indexed_place index' other ≡ indexed_place index other) →
      (k : ℕ) → IsTracked s rows index waiting k → IsTracked s rows index' waiting' k
  noted_tracked own four rows index index' waiting waiting' place row key is_key arities there ew alone noted others k h r e =
      let mine : k ≡ place → indexed_place index' (key_of_row s r.op r.operands) ≡ Some k =
      λ same. let er : Some r ≡ Some row = sym e ∙ ap (get rows) same ∙ there in
      let er' : r ≡ row = cc in
      ap (λ (q : Row O). indexed_place index' (key_of_row s q.op q.operands)) er' ∙ ap (indexed_place index') (sym is_key) ∙ noted ∙ ap Some (sym same) in
      elim (h r e) [
        | inl at ↦ elim (cases_eq k place) [
          | inl same ↦ inl (mine same)
          | inr differs ↦ inl (others (key_of_row s r.op r.operands) (λ same_key.
              let a = same_key_agrees own four r.op row.op r.operands row.operands (arities k r e) (arities place row there) (same_key ∙ is_key) in
              alone k r (ap (indexed_place index) (sym same_key) ∙ at) e differs (record { op = a.0; operands = a.1 })) ∙ at)
        ]
        | inr waits ↦ elim (Contains-push_cases waiting' place k (subst (λ xs. Contains xs k) ew waits)) [
          | inl before ↦ inr before
          | inr last ↦ inl (mine (sym last))
        ]
      ]

  -- a place without a row may be let go
  pub vacant_tracked : (rows : Slab (Row O)) (index : List (RowKey × ℕ)) (waiting waiting' : List ℕ) (place : ℕ) →
      get rows place ≡ None → waiting ≡ waiting' ++ place ∷ [] →
      (k : ℕ) → IsTracked s rows index waiting k → IsTracked s rows index waiting' k
  vacant_tracked rows index waiting waiting' place none ew k h r e = elim (h r e) [
    | inl at ↦ inl at
    | inr waits ↦ elim (Contains-push_cases waiting' place k (subst (λ xs. Contains xs k) ew waits)) [
      | inl before ↦ inr before
      | inr last ↦ (let f : None ≡ Some r = sym none ∙ ap (get rows) last ∙ e in absurd (cc))
    ]
  ]

-- what is popped is the last
pub popped : (xs ys : List ℕ) (r : Option ℕ) (x n : ℕ) → n ≡ length xs → xs ≡ ys ++ option_to_list r → ((d : ℕ) → 0 < n → r ≡ Some (get_or xs (n - 1) d)) → Some x ≡ slice_get xs (length xs - 1) → xs ≡ ys ++ x ∷ []
popped xs ys r x n len items value seen =
    let l = slice_get_within xs (length xs - 1) x (sym seen) in
    let e : get_or xs (length xs - 1) x ≡ x = get_or_from_slice_get xs (length xs - 1) x x (sym seen) in
    let v : r ≡ Some x = value x (omega (arith, l, len)) ∙ ap (λ k. Some (get_or xs (k - 1) x)) len ∙ ap Some e in
    items ∙ ap (λ o. ys ++ option_to_list o) v
