-- It can be told which class a term has in a graph.
use Rattle.std.proofs.Common.{◌≡◌, ◌≢◌, ℕ, zero, suc, ◌<◌, List, [], ◌∷◌, length, get_or, AllPairs, refl, ap, subst, inl, inr, ◌⊎◌, arith}
use Rattle.std.proofs.lemmas.Bool.{cases_lt}
use Rattle.std.proofs.lemmas.Bool.Decides.{eqb_tells}
use Rattle.word_ops.specs.declared.sorts.Op.{Op}
use Rattle.word_terms.specs.Keys.{key_of}
use Rattle.word_terms.specs.Laws.{op_key_is_own}
use Rattle.word_terms.specs.Tree.{Tree, Trees, variable, application, none, more}
use Rattle.egraph.specs.Graph.{Graph, Agree, HasRow}
use Rattle.egraph.specs.declared.rows.Row.{Row}
use Rattle.pattern_match.specs.Classes.{IsClass, AreClasses, at_variable, at_row, no_classes, classes}
use Rattle.saturation.proofs.Classes.{one_class, one_classes}

pub one_number : (a b : ℕ) → (a ≡ b) ⊎ (a ≢ b)
one_number a b = elim (eqb_tells a b) [ inl h ↦ inl h.1 | inr h ↦ inr h.1 ]

one_list : (xs ys : List ℕ) → (xs ≡ ys) ⊎ (xs ≢ ys)
one_list [] [] = inl refl
one_list [] (y ∷ ys) = inr (λ e. let l : 0 ≡ suc (length ys) = ap length e in omega (arith, l))
one_list (x ∷ xs) [] = inr (λ e. let l : suc (length xs) ≡ 0 = ap length e in omega (arith, l))
one_list (x ∷ xs) (y ∷ ys) =
    elim (one_number x y) [
      | inr n ↦ inr (λ e. n (ap (λ zs. get_or zs 0 0) e))
      | inl h ↦ elim (one_list xs ys) [
        | inl k ↦ inl (cc)
        | inr n ↦ inr (λ e. n (ap tail_of e))
      ]
    ]
  where
    tail_of : List ℕ → List ℕ
    tail_of [] = []
    tail_of (z ∷ zs) = zs

one_operator : (op other : Op) → (op ≡ other) ⊎ (op ≢ other)
one_operator op other =
    elim (one_number (key_of op).0 (key_of other).0) [
      | inr n ↦ inr (λ e. n (ap (λ o. (key_of o).0) e))
      | inl h ↦ elim (one_number (key_of op).1 (key_of other).1) [
        | inl k ↦ inl (op_key_is_own op other (pairs (key_of op) (key_of other) h k))
        | inr n ↦ inr (λ e. n (ap (λ o. (key_of o).1) e))
      ]
    ]
  where
    pairs : (p q : ℕ × ℕ) → p.0 ≡ q.0 → p.1 ≡ q.1 → p ≡ q
    pairs p q h k = λ i. (h i, k i)

module _ (op : Op) (cs : List ℕ) where
  abbrev Found : List (Row Op) → Type 0
  Found rows = ((c : ℕ) × HasRow rows op cs c) ⊎ ((c : ℕ) → ¬ HasRow rows op cs c)

  first_row : (r : Row Op) (rows : List (Row Op)) → r.op ≡ op → r.operands ≡ cs → HasRow (r ∷ rows) op cs r.class
  first_row r rows h k = (0, omega arith, λ i. record { op = h i; operands = k i; class = r.class })

  later_row : (r : Row Op) (rows : List (Row Op)) (c : ℕ) → HasRow rows op cs c → HasRow (r ∷ rows) op cs c
  later_row r rows c h = (suc h.0, omega (arith, h.1), h.2)

  other_row :
      (r : Row Op) (rows : List (Row Op)) →
      (r.op ≡ op → r.operands ≡ cs → ⊥) →
      ((c : ℕ) → ¬ HasRow rows op cs c) →
      (c : ℕ) →
      ¬ HasRow (r ∷ rows) op cs c
  other_row r rows differ f c (zero, l, e) = differ (ap (λ (t : Row Op). t.op) e) (ap (λ (t : Row Op). t.operands) e)
  other_row r rows differ f c (suc n, l, e) = f c (n, omega (arith, l), e)

  find_row : (rows : List (Row Op)) → Found rows
  find_row [] = inr (λ c h. omega (arith, h.1))
  find_row (r ∷ rows) =
      elim (find_row rows) [
        | inl h ↦ inl (h.0, later_row r rows h.0 h.1)
        | inr f ↦ elim (one_operator r.op op) [
          | inr n ↦ inr (other_row r rows (λ e k. n e) f)
          | inl h ↦ elim (one_list r.operands cs) [
            | inr n ↦ inr (other_row r rows (λ e k. n k) f)
            | inl k ↦ inl (r.class, first_row r rows h k)
          ]
        ]
      ]

module _ (g : Graph Op) (apart : AllPairs (λ r t. ¬ Agree r t) g.rows) (places : List ℕ) where
  variable_class : (n : ℕ) {c : ℕ} → IsClass g places (variable n) c → n < length places
  variable_class n (at_variable l) = l

  row_class :
      (op : Op) (ts : Trees Op) {c : ℕ} →
      IsClass g places (application op ts) c →
      (cs : List ℕ) × AreClasses g places ts cs × HasRow g.rows op cs c
  row_class op ts (at_row {cs} h k) = (cs, h, k)

  each_class :
      (t : Tree Op) (ts : Trees Op) {cs : List ℕ} →
      AreClasses g places (more t ts) cs →
      ((c : ℕ) × IsClass g places t c) × ((ds : List ℕ) × AreClasses g places ts ds)
  each_class t ts (classes {c} {cs} h k) = ((c, h), (cs, k))

  mutual
    pub find_class : (t : Tree Op) → ((c : ℕ) × IsClass g places t c) ⊎ ((c : ℕ) → ¬ IsClass g places t c)
    find_class (variable n) =
        elim (cases_lt n (length places)) [
          | inl l ↦ inl (get_or places n 0, at_variable l)
          | inr l ↦ inr (λ c h. let k = variable_class n h in omega (arith, k, l))
        ]
    find_class (application op ts) =
        elim (find_classes ts) [
          | inr f ↦ inr (λ c h. let k = row_class op ts h in f k.0 k.1)
          | inl h ↦ elim (find_row op h.0 g.rows) [
            | inl k ↦ inl (k.0, at_row h.1 k.1)
            | inr f ↦ inr (λ c m.
                let k = row_class op ts m in
                f c (subst (λ cs. HasRow g.rows op cs c) (one_classes g apart places k.1 h.1) k.2))
          ]
        ]

    find_classes : (ts : Trees Op) → ((cs : List ℕ) × AreClasses g places ts cs) ⊎ ((cs : List ℕ) → ¬ AreClasses g places ts cs)
    find_classes none = inl ([], no_classes)
    find_classes (more t ts) =
        elim (find_class t) [
          | inr f ↦ inr (λ cs h. let k = each_class t ts h in f k.0.0 k.0.1)
          | inl h ↦ elim (find_classes ts) [
            | inr f ↦ inr (λ cs m. let k = each_class t ts m in f k.1.0 k.1.1)
            | inl k ↦ inl (h.0 ∷ k.0, classes h.1 k.1)
          ]
        ]

  -- the term has the class, or it hasn't
  pub tell_class : (t : Tree Op) (c : ℕ) → IsClass g places t c ⊎ (¬ IsClass g places t c)
  tell_class t c =
      elim (find_class t) [
        | inr f ↦ inr (f c)
        | inl h ↦ elim (one_number h.0 c) [
          | inl e ↦ inl (subst (IsClass g places t) e h.1)
          | inr n ↦ inr (λ k. n (one_class g apart places h.1 k))
        ]
      ]
