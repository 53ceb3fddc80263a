-- What the tables keep when a class is put in place of another one.
use Rattle.std.proofs.Common.{◌≡◌, ◌≢◌, ℕ, ◌<◌, ◌⊎◌, List, ◌++◌, map, length, get_or, Contains, Option, Some, None, refl, sym, ap, ◌∙◌, subst, inl, inr, arith}
use Rattle.std.specs.Option.{option_map}
use Rattle.std.proofs.lemmas.Bool.{cases_eq}
use Rattle.std.proofs.lemmas.List.{length-map}
use Rattle.std.proofs.lemmas.List.Elements.{Contains-append_left, Contains-append_right}
use Rattle.slab.specs.Slab.{Slab, get}
use Rattle.word_terms.specs.Signature.{Signature}
use Rattle.egraph.specs.declared.rows.Row.{Row}
use Rattle.egraph.specs.declared.row_index.RowKey.{RowKey}
use Rattle.egraph.specs.Joined.{relabel}
use Rattle.egraph.specs.Steps.{moved}
use Rattle.egraph.specs.Keys.{key_of_row, indexed_place, listed_at, constant_at}
use Rattle.egraph.specs.Tables.{reclass, reoperand, EachBecomes, ListsUsesOf, IsTracked, FitLists}
use Rattle.egraph.proofs.Lists.{moved_cases, at_map, contains_map_back}
use Rattle.egraph.proofs.Places.{IsOwn, IsUse}

-- the row before
pub become_back : {O : Type 0} (F : Row O → Row O) (old new : Slab (Row O)) → EachBecomes F old new → (place : ℕ) (r : Row O) → get new place ≡ Some r → (t : Row O) × (get old place ≡ Some t) × (r ≡ F t)
become_back {O} F old new each place r e = by (get old place) refl
  where
    by : (o : Option (Row O)) → get old place ≡ o → (t : Row O) × (get old place ≡ Some t) × (r ≡ F t)
    by None f = (let g : None ≡ Some r = sym (each place ∙ ap (option_map F) f) ∙ e in absurd (cc))
    by (Some t) f = (let g : Some r ≡ Some (F t) = sym e ∙ each place ∙ ap (option_map F) f in (t, f, cc))

pub become_forth : {O : Type 0} (F : Row O → Row O) (old new : Slab (Row O)) → EachBecomes F old new → (place : ℕ) (t : Row O) → get old place ≡ Some t → get new place ≡ Some (F t)
become_forth F old new each place t e = each place ∙ ap (option_map F) e

-- the two changes of each row are one
pub both_changes : {O : Type 0} (f : ℕ → ℕ) (old mid new : Slab (Row O)) → EachBecomes (reclass f) old mid → EachBecomes (reoperand f) mid new → EachBecomes (relabel f) old new
both_changes {O} f old mid new each after place = after place ∙ ap (option_map (reoperand f)) (each place) ∙ twice (get old place)
  where
    twice : (o : Option (Row O)) → option_map (reoperand f) (option_map (reclass f) o) ≡ option_map (relabel f) o
    twice None = refl
    twice (Some r) = refl

-- of what stood at a class, all with P stands at the one that it is moved to
abbrev pub MovesTo : (P : ℕ → ℕ → Type 0) → ℕ → ℕ → List (List ℕ) → List (List ℕ) → Type 0
MovesTo P from to old new = (class place : ℕ) → P class place → Contains (listed_at old class) place → Contains (listed_at new (moved from to class)) place

pub lists_move : (P : ℕ → ℕ → Type 0) (from to : ℕ) (old mid new : List (List ℕ)) (taken : List ℕ) → from ≢ to → ((place : ℕ) → P from place → Contains (listed_at old from) place → Contains taken place) →
    ((class : ℕ) → class ≢ from → listed_at mid class ≡ listed_at old class) →
    listed_at new to ≡ listed_at mid to ++ taken →
    ((class : ℕ) → class ≢ to → listed_at new class ≡ listed_at mid class) → MovesTo P from to old new
lists_move P from to old mid new taken differ are_taken kept added others class place p h = elim (moved_cases from to class) [
  | inl e ↦ subst (λ c. Contains (listed_at new c) place) (sym e.1) (subst (λ xs. Contains xs place) (sym added)
      (Contains-append_right (listed_at mid to) taken place (are_taken place (subst (λ c. P c place) e.0 p) (subst (λ c. Contains (listed_at old c) place) e.0 h))))
  | inr e ↦ subst (λ c. Contains (listed_at new c) place) (sym e.1) (elim (cases_eq class to) [
    | inl same ↦ subst (λ c. Contains (listed_at new c) place) (sym same) (subst (λ xs. Contains xs place) (sym added)
        (Contains-append_left (listed_at mid to) taken place (subst (λ xs. Contains xs place) (sym (kept to (λ f. differ (sym f)))) (subst (λ c. Contains (listed_at old c) place) same h))))
    | inr apart ↦ subst (λ xs. Contains xs place) (sym (others class apart ∙ kept class e.0)) h
  ])
]

abbrev pub Anything : ℕ → ℕ → Type 0
Anything class place = Unit {0}

module _ {O : Type 0} (s : Signature O) where
  -- a row whose class alone changes has its key
  pub reclass_tracked : (f : ℕ → ℕ) (old new : Slab (Row O)) (index : List (RowKey × ℕ)) (waiting : List ℕ) → EachBecomes (reclass f) old new → (place : ℕ) → IsTracked s old index waiting place → IsTracked s new index waiting place
  reclass_tracked f old new index waiting each place h r e =
      let t = become_back (reclass f) old new each place r e in
      subst (λ (q : Row O). (indexed_place index (key_of_row s q.op q.operands) ≡ Some place) ⊎ Contains waiting place) (sym t.2) (h t.0 t.1)

  pub reclass_uses : (f : ℕ → ℕ) (old new : Slab (Row O)) → EachBecomes (reclass f) old new → (class : ℕ) (places : List ℕ) → ListsUsesOf old class places → ListsUsesOf new class places
  reclass_uses f old new each class places h place r e c =
      let t = become_back (reclass f) old new each place r e in
      h place t.0 t.1 (subst (λ xs. Contains xs class) (ap (λ (q : Row O). q.operands) t.2) c)

  pub joined_listed : (from to : ℕ) (rows rows' : Slab (Row O)) (own own' uses uses' members members' : List (List ℕ)) (constants constants' : List (Option ℕ)) (current current' : List ℕ) →
      FitLists s rows own uses members constants current →
      EachBecomes (relabel (moved from to)) rows rows' →
      MovesTo (IsOwn rows) from to own own' → MovesTo (IsUse rows) from to uses uses' → MovesTo Anything from to members members' →
      ((class x : ℕ) → constant_at constants class ≡ Some x → constant_at constants' (moved from to class) ≡ Some x) →
      ((class x : ℕ) → constant_at constants' class ≡ Some x → (before : ℕ) × (moved from to before ≡ class) × (constant_at constants before ≡ Some x)) →
      current' ≡ map (moved from to) current →
      FitLists s rows' own' uses' members' constants' current'
  joined_listed from to rows rows' own own' uses uses' members members' constants constants' current current' is each own_moves uses_move members_move forth back ec =
      let f = moved from to in
      let before = become_back (relabel f) rows rows' each in
      record {
        arities = λ place r e. let t = before place r e in ap (λ q. length q.operands) t.2 ∙ length-map t.0.operands f ∙ is.arities place t.0 t.1 ∙ ap (λ q. s.arity q.op) (sym t.2);
        own_rows = λ class place r e of_class.
            let t = before place r e in
            subst (λ c. Contains (listed_at own' c) place) (ap (λ q. q.class) (sym t.2) ∙ of_class) (own_moves t.0.class place (t.0, t.1, refl) (is.own_rows t.0.class place t.0 t.1 refl));
        used = λ class place r e c.
            let t = before place r e in
            let u = contains_map_back f t.0.operands class (subst (λ xs. Contains xs class) (ap (λ q. q.operands) t.2) c) in
            subst (λ c. Contains (listed_at uses' c) place) (sym u.2) (uses_move u.0 place (t.0, t.1, u.1) (is.used u.0 place t.0 t.1 u.1));
        members_of = λ class x l e.
            let b : x < length current = omega (arith, l, ap length ec, length-map current f) in
            let at : f (get_or current x 0) ≡ class = sym (at_map f current x b) ∙ ap (λ xs. get_or xs x 0) (sym ec) ∙ e in
            subst (λ c. Contains (listed_at members' c) x) at (members_move (get_or current x 0) x tt (is.members_of (get_or current x 0) x b refl));
        constant_of = λ place r x e k.
            let t = before place r e in
            ap (λ (q : Row O). constant_at constants' q.class) t.2 ∙ forth t.0.class x (is.constant_of place t.0 x t.1 (ap (λ (q : Row O). s.constant q.op) (sym t.2) ∙ k));
        constant_there = λ class x k.
            let b = back class x k in
            let r = is.constant_there b.0 x b.2 in
            record { place = r.place; row = relabel f r.row; there = become_forth (relabel f) rows rows' each r.place r.row r.there; of_class = ap f r.of_class ∙ b.1; is = r.is };
      }
