-- Lists that only grow, and what a new row leaves.
use Rattle.std.proofs.Common.{◌≡◌, ◌≢◌, ℕ, ◌+◌, ◌<◌, ◌≤◌, ◌⊎◌, List, ◌++◌, ◌∷◌, [], take, length, get_or, Contains, Option, Some, None, sym, ap, ◌∙◌, subst, inl, inr, arith}
use Rattle.std.proofs.lemmas.Bool.{cases_eq}
use Rattle.std.proofs.lemmas.List.{take_more, length_push, get_or_push, get_or_append_left}
use Rattle.std.proofs.lemmas.List.Elements.{Contains-push, Contains-push_cases, Contains-append_left}
use Rattle.slab.specs.Slab.{Slab, get}
use Rattle.word_terms.specs.Signature.{Signature}
use Rattle.egraph.specs.declared.rows.Row.{Row}
use Rattle.egraph.specs.declared.row_index.RowKey.{RowKey}
use Rattle.egraph.specs.Keys.{key_of_row, indexed_place, listed_at, constant_at}
use Rattle.egraph.specs.Tables.{Grows, FitLists, IsIndexed, RowsAreMade, ConstantRow}
use Rattle.egraph.proofs.Places.{same_key_agrees}

pub grows_same : (old new : List (List ℕ)) → ((class : ℕ) → listed_at new class ≡ listed_at old class) → Grows old new
grows_same old new same class place h = subst (λ xs. Contains xs place) (sym (same class)) h

pub grows_on : (a b c : List (List ℕ)) → Grows a b → Grows b c → Grows a c
grows_on a b c f g class place h = g class place (f class place h)

pub grows_added : (old new : List (List ℕ)) (at item : ℕ) → listed_at new at ≡ listed_at old at ++ item ∷ [] → ((class : ℕ) → class ≢ at → listed_at new class ≡ listed_at old class) → Grows old new
grows_added old new at item added others class place h = elim (cases_eq class at) [
  | inl same ↦ subst (λ c. Contains (listed_at new c) place) (sym same) (subst (λ xs. Contains xs place) (sym added) (Contains-append_left (listed_at old at) (item ∷ []) place (subst (λ c. Contains (listed_at old c) place) same h)))
  | inr differs ↦ subst (λ xs. Contains xs place) (sym (others class differs)) h
]

pub noted_more : (old new : List (List ℕ)) (operands : List ℕ) (i place : ℕ) → i < length operands → Grows old new →
    listed_at new (get_or operands i 0) ≡ listed_at old (get_or operands i 0) ++ place ∷ [] →
    ((class : ℕ) → Contains (take i operands) class → Contains (listed_at old class) place) →
    (class : ℕ) → Contains (take (i + 1) operands) class → Contains (listed_at new class) place
noted_more old new operands i place l grows added noted class h =
    let x = get_or operands i 0 in
    elim (Contains-push_cases (take i operands) x class (subst (λ xs. Contains xs class) (take_more operands i 0 l) h)) [
      | inl before ↦ grows class place (noted class before)
      | inr last ↦ subst (λ c. Contains (listed_at new c) place) last (subst (λ xs. Contains xs place) (sym added) (Contains-push (listed_at old x) place))
    ]

module _ {O : Type 0} (s : Signature O) where
  -- where no row changes, the tables may grow
  pub grown_listed : (rows rows' : Slab (Row O)) (own own' uses uses' members members' : List (List ℕ)) (constants constants' : List (Option ℕ)) (current current' : List ℕ) →
      FitLists s rows own uses members constants current → ((place : ℕ) → get rows' place ≡ get rows place) →
      Grows own own' → Grows uses uses' → Grows members members' → ((class : ℕ) → constant_at constants' class ≡ constant_at constants class) → current' ≡ current →
      FitLists s rows' own' uses' members' constants' current'
  grown_listed rows rows' own own' uses uses' members members' constants constants' current current' is same own_grows uses_grow members_grow constant ec =
      let was = λ (place : ℕ) (r : Row O) (e : get rows' place ≡ Some r). sym (same place) ∙ e in
      record {
        arities = λ place r e. is.arities place r (was place r e);
        own_rows = λ class place r e k. own_grows class place (is.own_rows class place r (was place r e) k);
        used = λ class place r e k. uses_grow class place (is.used class place r (was place r e) k);
        members_of = λ class x l e. members_grow class x (is.members_of class x (subst (λ xs. x < length xs) ec l) (ap (λ xs. get_or xs x 0) (sym ec) ∙ e));
        constant_of = λ place r x e k. constant r.class ∙ is.constant_of place r x (was place r e) k;
        constant_there = λ class x k. let h = is.constant_there class x (sym (constant class) ∙ k) in record { place = h.place; row = h.row; there = same h.place ∙ h.there; of_class = h.of_class; is = h.is };
      }

  -- a row of a class of its own is there
  module _ (rows rows' : Slab (Row O)) (place : ℕ) (row : Row O) (there : get rows' place ≡ Some row) (others : (other : ℕ) → other ≢ place → get rows' other ≡ get rows other) where
    -- a row is the new one or an old one
    new_or_old : (at : ℕ) (r : Row O) → get rows' at ≡ Some r → ((at ≡ place) × (r ≡ row)) ⊎ (get rows at ≡ Some r)
    new_or_old at r e = elim (cases_eq at place) [
      | inl same ↦ (let f : Some r ≡ Some row = sym e ∙ ap (get rows') same ∙ there in inl (same, cc))
      | inr differs ↦ inr (sym (others at differs) ∙ e)
    ]

    pub added_listed : (own own' uses uses' members members' : List (List ℕ)) (constants constants' : List (Option ℕ)) (current current' : List ℕ) →
        FitLists s rows own uses members constants current →
        length row.operands ≡ s.arity row.op → row.class ≡ length current → RowsAreMade rows (length current) →
        Grows own own' → Grows uses uses' → Grows members members' → get rows place ≡ None →
        Contains (listed_at own' row.class) place → ((used : ℕ) → Contains row.operands used → Contains (listed_at uses' used) place) → Contains (listed_at members' row.class) row.class →
        ((x : ℕ) → s.constant row.op ≡ Some x → constant_at constants' row.class ≡ Some x) →
        ((x : ℕ) → constant_at constants' row.class ≡ Some x → (s.constant row.op ≡ Some x) ⊎ (constant_at constants row.class ≡ Some x)) →
        ((other : ℕ) → other ≢ row.class → constant_at constants' other ≡ constant_at constants other) →
        current' ≡ current ++ row.class ∷ [] →
        FitLists s rows' own' uses' members' constants' current'
    added_listed own own' uses uses' members members' constants constants' current current' is arity class_is made own_grows uses_grow members_grow vacant in_own in_uses in_members constant no_other other_constants ec =
        let still : (at : ℕ) (r : Row O) → get rows at ≡ Some r → get rows' at ≡ Some r =
        λ at r e. elim (cases_eq at place) [
          | inl same ↦ (let f : None ≡ Some r = sym vacant ∙ ap (get rows) (sym same) ∙ e in absurd (cc))
          | inr differs ↦ others at differs ∙ e
        ] in
        let older : (class x : ℕ) → constant_at constants class ≡ Some x → ConstantRow s rows' class x =
        λ class x k. let h = is.constant_there class x k in record { place = h.place; row = h.row; there = still h.place h.row h.there; of_class = h.of_class; is = h.is } in
        record {
          arities = λ at r e. elim (new_or_old at r e) [
            | inl n ↦ ap (λ q. length q.operands) n.1 ∙ arity ∙ ap (λ q. s.arity q.op) (sym n.1)
            | inr o ↦ is.arities at r o
          ];
          own_rows = λ class at r e k. elim (new_or_old at r e) [
            | inl n ↦ subst (Contains (listed_at own' class)) (sym n.0) (subst (λ c. Contains (listed_at own' c) place) (ap (λ q. q.class) (sym n.1) ∙ k) in_own)
            | inr o ↦ own_grows class at (is.own_rows class at r o k)
          ];
          used = λ class at r e k. elim (new_or_old at r e) [
            | inl n ↦ subst (Contains (listed_at uses' class)) (sym n.0) (in_uses class (subst (λ xs. Contains xs class) (ap (λ (q : Row O). q.operands) n.1) k))
            | inr o ↦ uses_grow class at (is.used class at r o k)
          ];
          members_of = λ class x l e. elim (cases_eq x (length current)) [
            | inl last ↦
                let at_x : get_or current' x 0 ≡ row.class = ap (λ xs. get_or xs x 0) ec ∙ get_or_push current row.class 0 x (sym last) in
                let is_class : row.class ≡ class = sym at_x ∙ e in
                subst (Contains (listed_at members' class)) (class_is ∙ sym last) (subst (λ c. Contains (listed_at members' c) row.class) is_class in_members)
            | inr before ↦
                let b : x < length current = omega (arith, l, ap length ec, length_push current row.class, before) in
                let at_x : get_or current x 0 ≡ class = sym (get_or_append_left current (row.class ∷ []) 0 x b) ∙ ap (λ xs. get_or xs x 0) (sym ec) ∙ e in
                members_grow class x (is.members_of class x b at_x)
          ];
          constant_of = λ at r x e k. elim (new_or_old at r e) [
            | inl n ↦ ap (λ (q : Row O). constant_at constants' q.class) n.1 ∙ constant x (ap (λ (q : Row O). s.constant q.op) (sym n.1) ∙ k)
            | inr o ↦ (let m = made at r o in other_constants r.class (λ same. absurd (omega (arith, m, same, class_is))) ∙ is.constant_of at r x o k)
          ];
          constant_there = λ class x k. elim (cases_eq class row.class) [
            | inl same ↦ elim (no_other x (ap (constant_at constants') (sym same) ∙ k)) [
              | inl mine ↦ record { place = place; row = row; there = there; of_class = sym same; is = mine }
              | inr old ↦ older class x (ap (constant_at constants) same ∙ old)
            ]
            | inr differs ↦ older class x (sym (other_constants class differs) ∙ k)
          ];
        }

    pub added_indexed : ((op other : O) → s.key op ≡ s.key other → op ≡ other) → ((op : O) → s.arity op ≤ 4) →
        (index index' : List (RowKey × ℕ)) → IsIndexed s rows index → length row.operands ≡ s.arity row.op →
        ((at : ℕ) (r : Row O) → get rows at ≡ Some r → length r.operands ≡ s.arity r.op) →
        ((at : ℕ) (r : Row O) → get rows at ≡ Some r → r.op ≡ row.op → r.operands ≢ row.operands) →
        indexed_place index' (key_of_row s row.op row.operands) ≡ Some place →
        ((key : RowKey) → key ≢ key_of_row s row.op row.operands → indexed_place index' key ≡ indexed_place index key) →
        IsIndexed s rows' index'
    added_indexed own four index index' is arity arities absent noted rest at r e = elim (new_or_old at r e) [
      | inl n ↦ ap (λ (q : Row O). indexed_place index' (key_of_row s q.op q.operands)) n.1 ∙ noted ∙ ap Some (sym n.0)
      | inr o ↦ rest (key_of_row s r.op r.operands) (λ same.
          let a = same_key_agrees s own four r.op row.op r.operands row.operands (arities at r o) arity same in
          absent at r o a.0 a.1) ∙ is at r o
    ]

  -- the index of rows that stay, where another key's entry may change
  pub kept_indexed : ((op other : O) → s.key op ≡ s.key other → op ≡ other) → ((op : O) → s.arity op ≤ 4) →
      (rows rows' : Slab (Row O)) (op : O) (operands : List ℕ) (index index' : List (RowKey × ℕ)) → IsIndexed s rows index → length operands ≡ s.arity op →
      ((at : ℕ) (r : Row O) → get rows at ≡ Some r → length r.operands ≡ s.arity r.op) →
      ((at : ℕ) (r : Row O) → get rows at ≡ Some r → r.op ≡ op → r.operands ≢ operands) →
      ((place : ℕ) → get rows' place ≡ get rows place) →
      ((key : RowKey) → key ≢ key_of_row s op operands → indexed_place index' key ≡ indexed_place index key) →
      IsIndexed s rows' index'
  kept_indexed own four rows rows' op operands index index' is arity arities absent same rest at r e =
      let o = sym (same at) ∙ e in
      rest (key_of_row s r.op r.operands) (λ same_key.
      let a = same_key_agrees s own four r.op op r.operands operands (arities at r o) arity same_key in
      absent at r o a.0 a.1) ∙ is at r o
