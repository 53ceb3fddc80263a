-- The constants of classes, and the rows that use a class, gathered in one pass over the rows.
use Rattle.std.proofs.Common.{◌≡◌, ℕ, suc, ◌+◌, ◌<◌, List, [], ◌∷◌, ◌++◌, length, set, get_or, drop, take, refl, sym, ◌∙◌, ap, subst, inl, inr, ◌⊎◌, arith, true, false, cond, Option, Some, None}
use Rattle.std.specs.Prelude.{Contains, ◌==◌, slice_index_or}
use Rattle.std.specs.Option.{option_or}
use Rattle.std.proofs.Math.Seq.{drop-cons}
use Rattle.std.proofs.lemmas.Bool.{cases_eq, cases_lt}
use Rattle.std.proofs.lemmas.Bool.Decides.{eqb_tells}
use Rattle.std.proofs.lemmas.List.{get_or-set_same, get_or-set_other, length-set, get_or_default, take_more}
use Rattle.std.proofs.lemmas.List.Elements.{Contains-append_left, Contains-push, Contains-push_cases}
use Rattle.word_ops.specs.Meanings.{constant_in}
use Rattle.graph_meaning.specs.Graphs.{constant_among}
use Rattle.graph_meaning.specs.Raising.{AreUses}
use Rattle.graph_meaning.specs.declared.graphs.LaunchRow.{LaunchRow}
use Rattle.graph_meaning.proofs.Lists.{number_itself}

-- ---- constants

or_assoc : (a b c : Option ℕ) → option_or (option_or a b) c ≡ option_or a (option_or b c)
or_assoc None b c = refl
or_assoc (Some k) b c = refl

or_none : (a : Option ℕ) → option_or a None ≡ a
or_none None = refl
or_none (Some k) = refl

own_class : (r : LaunchRow) (rest : List LaunchRow) (class : ℕ) → class ≡ r.class
    → constant_among (r ∷ rest) class ≡ option_or (constant_in r.op) (constant_among rest class)
own_class r rest class e =
    let t : (r.class == class) ≡ true = subst (λ k. (r.class == k) ≡ true) (sym e) (number_itself r.class) in
    ap (λ b. cond b (option_or (constant_in r.op) (constant_among rest class)) (constant_among rest class)) t

other_class : (r : LaunchRow) (rest : List LaunchRow) (class : ℕ) → (class ≡ r.class → ⊥)
    → constant_among (r ∷ rest) class ≡ constant_among rest class
other_class r rest class ne =
    let t : (r.class == class) ≡ false =
    elim (eqb_tells r.class class) [ inl h ↦ absurd (ne (sym h.1)) | inr h ↦ h.0 ] in
    ap (λ b. cond b (option_or (constant_in r.op) (constant_among rest class)) (constant_among rest class)) t

-- what the rows so far and the rest say together
abbrev pub IsSoFar : List (Option ℕ) → List LaunchRow → List LaunchRow → ℕ → Type 0
IsSoFar ks rest rows class = option_or (slice_index_or ks class None) (constant_among rest class)
    ≡ constant_among rows class

one_constant : (r : LaunchRow) (rest : List LaunchRow) (ks : List (Option ℕ)) (class : ℕ) → r.class < length ks
    → option_or (get_or (set ks r.class (option_or (get_or ks r.class None) (constant_in r.op))) class None)
    (constant_among rest class)
    ≡ option_or (get_or ks class None) (constant_among (r ∷ rest) class)
one_constant r rest ks class lt =
    let new = option_or (get_or ks r.class None) (constant_in r.op) in
    elim (cases_eq class r.class) [
      | inl e ↦
          ap (λ c. option_or (get_or (set ks r.class new) c None) (constant_among rest class)) e
          ∙ ap (λ o. option_or o (constant_among rest class)) (get_or-set_same ks r.class new None lt)
          ∙ or_assoc (get_or ks r.class None) (constant_in r.op) (constant_among rest class)
          ∙ ap (λ c. option_or (get_or ks c None) (option_or (constant_in r.op) (constant_among rest class))) (sym e)
          ∙ ap (λ o. option_or (get_or ks class None) o) (sym (own_class r rest class e))
      | inr ne ↦
          ap (λ o. option_or o (constant_among rest class)) (get_or-set_other ks r.class class new None ne)
          ∙ ap (λ o. option_or (get_or ks class None) o) (sym (other_class r rest class ne))
    ]

pub more_constants : (rows : List LaunchRow) (ks new : List (Option ℕ)) (i class : ℕ) (r : LaunchRow) → i < length rows
    → r ≡ get_or rows i r → r.class < length ks
    → new ≡ set ks r.class (option_or (get_or ks r.class None) (constant_in r.op))
    → IsSoFar ks (drop i rows) rows class → IsSoFar new (drop (i + 1) rows) rows class
more_constants rows ks new i class r lt is low e h =
    let n : i + 1 ≡ suc i = omega arith in
    let all : drop i rows ≡ r ∷ drop (suc i) rows = drop-cons rows i r lt ∙ ap (λ x. x ∷ drop (suc i) rows) (sym is) in
    ap (λ (xs : List (Option ℕ)). option_or (get_or xs class None) (constant_among (drop (i + 1) rows) class)) e
    ∙ ap (λ k. option_or (get_or (set ks r.class (option_or (get_or ks r.class None) (constant_in r.op))) class None)
    (constant_among (drop k rows) class)) n
    ∙ one_constant r (drop (suc i) rows) ks class low
    ∙ ap (λ xs. option_or (get_or ks class None) (constant_among xs class)) (sym all) ∙ h

pub all_constants : (rows : List LaunchRow) (ks : List (Option ℕ)) (i class : ℕ) → drop i rows ≡ []
    → IsSoFar ks (drop i rows) rows class
    → slice_index_or ks class None ≡ constant_among rows class
all_constants rows ks i class e h =
    sym (or_none (slice_index_or ks class None))
    ∙ ap (λ xs. option_or (slice_index_or ks class None) (constant_among xs class)) (sym e) ∙ h

-- ---- uses

abbrev pub uses_of : List (List ℕ) → ℕ → List ℕ
uses_of uses class = slice_index_or uses class []

-- one place put into the list of a class
module _ (uses new : List (List ℕ)) (class at : ℕ) (lt : class < length uses)
    (e : new ≡ set uses class (uses_of uses class ++ at ∷ [])) where
  pub put_size : length new ≡ length uses
  put_size = ap (λ (xs : List (List ℕ)). length xs) e ∙ length-set uses class (uses_of uses class ++ at ∷ [])

  put_same : (c : ℕ) → c ≡ class → uses_of new c ≡ uses_of uses c ++ at ∷ []
  put_same c same =
      ap (λ (xs : List (List ℕ)). uses_of xs c) e
      ∙ ap (uses_of (set uses class (uses_of uses class ++ at ∷ []))) same
      ∙ get_or-set_same uses class (uses_of uses class ++ at ∷ []) [] lt
      ∙ ap (λ k. uses_of uses k ++ at ∷ []) (sym same)

  put_other : (c : ℕ) → (c ≡ class → ⊥) → uses_of new c ≡ uses_of uses c
  put_other c ne =
      ap (λ (xs : List (List ℕ)). uses_of xs c) e ∙ get_or-set_other uses class c (uses_of uses class ++ at ∷ []) [] ne

  pub put_within : (c k : ℕ) → Contains (uses_of new c) k → Contains (uses_of uses c) k ⊎ (k ≡ at)
  put_within c k m =
      elim (cases_eq c class) [
        | inl same ↦ elim (Contains-push_cases (uses_of uses c) at k
            (subst (λ (xs : List ℕ). Contains xs k) (put_same c same) m)) [
              | inl o ↦ inl o
              | inr q ↦ inr (sym q)
            ]
        | inr ne ↦ inl (subst (λ (xs : List ℕ). Contains xs k) (put_other c ne) m)
      ]

  pub put_still : (c k : ℕ) → Contains (uses_of uses c) k → Contains (uses_of new c) k
  put_still c k m =
      elim (cases_eq c class) [
        | inl same ↦
            subst (λ (xs : List ℕ). Contains xs k) (sym (put_same c same))
            (Contains-append_left (uses_of uses c) (at ∷ []) k m)
        | inr ne ↦ subst (λ (xs : List ℕ). Contains xs k) (sym (put_other c ne)) m
      ]

  pub put_has : Contains (uses_of new class) at
  put_has = subst (λ (xs : List ℕ). Contains xs at) (sym (put_same class refl)) (Contains-push (uses_of uses class) at)

pub more_has : (uses new : List (List ℕ)) (operands : List ℕ) (i at : ℕ) → i < length operands
    → ((c k : ℕ) → Contains (uses_of uses c) k → Contains (uses_of new c) k)
    → ((c : ℕ) → Contains (take i operands) c → Contains (uses_of uses c) at)
    → Contains (uses_of new (get_or operands i 0)) at
    → (c : ℕ) → Contains (take (i + 1) operands) c → Contains (uses_of new c) at
more_has uses new operands i at lt still before now c m =
    elim (Contains-push_cases (take i operands) (get_or operands i 0) c
    (subst (λ (xs : List ℕ). Contains xs c) (take_more operands i 0 lt) m)) [
      | inl k ↦ still c at (before c k)
      | inr e ↦ subst (λ k. Contains (uses_of new k) at) e now
    ]

pub more_uses : (rows : List LaunchRow) (classes at : ℕ) (uses new : List (List ℕ)) (d : LaunchRow) → at < length rows
    → length new ≡ length uses
    → ((class k : ℕ) → Contains (uses_of new class) k → Contains (uses_of uses class) k ⊎ (k ≡ at))
    → ((class k : ℕ) → Contains (uses_of uses class) k → Contains (uses_of new class) k)
    → ((class : ℕ) → Contains (get_or rows at d).operands class → Contains (uses_of new class) at)
    → AreUses rows at classes uses → AreUses rows (at + 1) classes new
more_uses rows classes at uses new d lt size within still has before = record {
  size = size ∙ before.size;
  within = λ class k m. elim (within class k m) [
    | inl o ↦ before.within class k o
    | inr e ↦
        (let l = lt in omega arith)
  ];
  has = λ class k row l e m.
      elim (cases_lt k at) [
        | inl low ↦ still class k (before.has class k row low e m)
        | inr high ↦ (
            let same : k ≡ at = omega arith in
            let here : row ≡ get_or rows at d =
            sym e ∙ ap (λ j. get_or rows j row) same ∙ get_or_default rows at row d lt in
            subst (λ j. Contains (uses_of new class) j) (sym same)
            (has class (subst (λ (r : LaunchRow). Contains r.operands class) here m)))
      ];
}
