-- What folding needs: the folds of each operator, counted.
use Rattle.std.proofs.Common.{◌≡◌, ℕ, zero, suc, ◌+◌, List, [], ◌∷◌, map, length, get_or, cond, eqb, refl, sym, ap, ◌∙◌, subst, inl, inr, arith, Bool, true, false, ◌⊎◌, Some, slice_get, eq-eqb}
use Rattle.std.specs.Prelude.{All, AllPairs, Contains}
use Rattle.std.proofs.lemmas.List.Elements.{Contains-get_or}
use Rattle.std.proofs.lemmas.List.Kept.{AllPairs-cons}
use Rattle.std.proofs.lemmas.Bool.Decides.{nat_tests}
use Rattle.word_ops.specs.Operators.{operators, number_of, at_its_number, value_of}
use Rattle.word_ops.specs.declared.operators.WordOp.{WordOp}
use Rattle.word_ops.specs.declared.operates.Operate.TheVariants.{Addl}
use Rattle.word_ops.specs.declared.operators.WordOp.TheVariants.{Operate}
use Rattle.word_ops.specs.declared.sorts.Op.{Op}
use Rattle.word_ops.specs.declared.sorts.Op.TheVariants.{Word}
use Rattle.axiom_base.specs.Schemes.{folding, IsOf}
use Rattle.egraph.specs.declared.rows.Row.{Row}
use Rattle.egraph.specs.Graph.{Graph, Agree}
use Rattle.pattern_match.specs.Listing.{Lists, Chosen, nothing, taken, left_out}
use Rattle.pattern_match.specs.Matches.{IsUnmet, IsUnmetOf, AreNeeds, no_need, one_need, IsUnmetFold, IsFoldOf}
use Rattle.pattern_match.specs.declared.found.Fold.{Fold}
use Rattle.pattern_match.proofs.MatchSorts.{fold_row, fold_only}

-- whether they are one operator, as a number
same_number : WordOp → WordOp → Bool
same_number op other = eqb (number_of op) (number_of other)

-- how many of the operators are this one
times : WordOp → List WordOp → ℕ
times op [] = 0
times op (o ∷ os) = cond (same_number op o) (suc (times op os)) (times op os)

listed_once : (op : WordOp) → times op operators ≡ 1
unfolding same_number times
listed_once (Operate Addl) = refl
listed_once (Operate _) = refl
listed_once _ = refl

-- equal numbers are of one operator
one_operator : (a b : WordOp) → same_number a b ≡ true → a ≡ b
unfolding same_number
one_operator a b h =
    let n : number_of a ≡ number_of b = grind (arith, nat_tests, h) in
    let s : Some a ≡ Some b = sym (at_its_number a) ∙ ap (slice_get operators) n ∙ at_its_number b in
    cc

one_number : (a b : WordOp) → a ≡ b → same_number a b ≡ true
unfolding same_number
one_number a b e = eq-eqb (number_of a) (number_of b) (ap number_of e)

-- ---- an item that is kept or left out

in_cond : (b : Bool) (x : List ℕ) (xs : List (List ℕ)) (z : List ℕ) → Contains (cond b (x ∷ xs) xs) z → ((b ≡ true) × (x ≡ z)) ⊎ Contains xs z
in_cond true x xs z (zero, l, e) = inl (refl, e)
in_cond true x xs z (suc k, l, e) = inr (k, omega (arith, l), e)
in_cond false x xs z h = inr h

put_here : (b : Bool) (x : List ℕ) (xs : List (List ℕ)) → b ≡ true → Contains (cond b (x ∷ xs) xs) x
put_here true x xs e = (0, omega arith, refl)
put_here false x xs e = absurd (cc)

put_later : (b : Bool) (x : List ℕ) (xs : List (List ℕ)) (z : List ℕ) → Contains xs z → Contains (cond b (x ∷ xs) xs) z
put_later true x xs z h = (suc h.0, omega (arith, h.1), h.2)
put_later false x xs z h = h

abbrev Differ : List ℕ → List ℕ → Type 0
Differ x y = x ≡ y → ⊥

pairs_cond : (b : Bool) (x : List ℕ) (xs : List (List ℕ)) → (b ≡ true → All (Differ x) xs) → AllPairs Differ xs → AllPairs Differ (cond b (x ∷ xs) xs)
pairs_cond true x xs h k = AllPairs-cons Differ x xs (h refl) k
pairs_cond false x xs h k = k

-- ---- the folds of an operator

module _ (g : Graph Op) where
  abbrev R : Row Op → Fold → Type 0
  R = IsFoldOf g

  by_op : (op : WordOp) {rows : List (Row Op)} {found : List Fold} → Chosen R rows found → List (List ℕ)
  by_op op nothing = []
  by_op op (taken {x} {y} {xs} {ys} r h) = cond (same_number r.unmet.op op) (x.operands ∷ by_op op h) (by_op op h)
  by_op op (left_out {x} {xs} {ys} n h) = by_op op h

  record IsFoldBy (op : WordOp) (rows : List (Row Op)) (cs : List ℕ) : Type 0 where
    row : Row Op
    there : Contains rows row
    operands_are : row.operands ≡ cs
    value : ℕ
    unmet : IsUnmetFold g row value
    op_is : unmet.op ≡ op

  module _ (op : WordOp) where
    sound : {rows : List (Row Op)} {found : List Fold} (h : Chosen R rows found) (cs : List ℕ) → Contains (by_op op h) cs → IsFoldBy op rows cs
    unfolding by_op
    sound nothing cs k = absurd (omega (arith, k.1))
    sound (taken {x} {y} {xs} {ys} r h) cs k =
        elim (in_cond (same_number r.unmet.op op) x.operands (by_op op h) cs k) [
          | inl a ↦ record { row = x; there = (0, omega arith, refl); operands_are = a.1; value = y.value; unmet = r.unmet; op_is = one_operator r.unmet.op op a.0 }
          | inr b ↦ (let s = sound h cs b in record { row = s.row; there = (suc s.there.0, omega (arith, s.there.1), s.there.2); operands_are = s.operands_are; value = s.value; unmet = s.unmet; op_is = s.op_is })
        ]
    sound (left_out {x} {xs} {ys} n h) cs k =
        let s = sound h cs k in
        record { row = s.row; there = (suc s.there.0, omega (arith, s.there.1), s.there.2); operands_are = s.operands_are; value = s.value; unmet = s.unmet; op_is = s.op_is }

    complete : {rows : List (Row Op)} {found : List Fold} (h : Chosen R rows found) (row : Row Op) → Contains rows row → (v : ℕ) (u : IsUnmetFold g row v) → u.op ≡ op → Contains (by_op op h) row.operands
    unfolding by_op
    complete nothing row k v u e = absurd (omega (arith, k.1))
    complete (taken {x} {y} {xs} {ys} r h) row (zero, l, is) v u e =
        let ops : Word r.unmet.op ≡ Word u.op = sym r.unmet.op_is ∙ ap (λ q. q.op) is ∙ u.op_is in
        let same : r.unmet.op ≡ op = first r.unmet.op u.op ops ∙ e in
        subst (Contains (cond (same_number r.unmet.op op) (x.operands ∷ by_op op h) (by_op op h))) (ap (λ q. q.operands) is) (put_here (same_number r.unmet.op op) x.operands (by_op op h) (one_number r.unmet.op op same))
      where
        first : (a b : WordOp) → Word a ≡ Word b → a ≡ b
        first a b p = cc
    complete (taken {x} {y} {xs} {ys} r h) row (suc k, l, is) v u e = put_later (same_number r.unmet.op op) x.operands (by_op op h) row.operands (complete h row (k, omega (arith, l), is) v u e)
    complete (left_out {x} {xs} {ys} n h) row (zero, l, is) v u e = absurd (n (record { class = row.class; value = v }) (record { class_is = ap (λ q. q.class) (sym is); unmet = subst (λ q. IsUnmetFold g q v) (sym is) u }))
    complete (left_out {x} {xs} {ys} n h) row (suc k, l, is) v u e = complete h row (k, omega (arith, l), is) v u e

    once : {rows : List (Row Op)} {found : List Fold} (h : Chosen R rows found) → AllPairs (λ r t. ¬ Agree r t) rows → AllPairs Differ (by_op op h)
    unfolding by_op
    once nothing d = λ i j z a b. absurd (omega (arith, a, b))
    once (taken {x} {y} {xs} {ys} r h) d =
        pairs_cond (same_number r.unmet.op op) x.operands (by_op op h)
        (λ b k z l e.
        let s = sound h (get_or (by_op op h) k z) (Contains-get_or (by_op op h) k z l) in
        let same : r.unmet.op ≡ op = one_operator r.unmet.op op b in
        let ops : x.op ≡ s.row.op = r.unmet.op_is ∙ ap Word (same ∙ sym s.op_is) ∙ sym s.unmet.op_is in
        let at = s.there in
        d 0 (suc at.0) s.row (omega arith) (omega (arith, at.1)) (subst (λ q. Agree x q) (sym at.2) (record { op = ops; operands = e ∙ sym s.operands_are })))
        (once h (λ i j z a b. d (suc i) (suc j) z (omega (arith, a)) (omega (arith, b))))
    once (left_out {x} {xs} {ys} n h) d = once h (λ i j z a b. d (suc i) (suc j) z (omega (arith, a)) (omega (arith, b)))

    module _ (distinct : AllPairs (λ r t. ¬ Agree r t) g.rows) {found : List Fold} (h : Chosen R g.rows found) where
      is_unmet_of : (cs : List ℕ) → IsFoldBy op g.rows cs → IsUnmetOf g (folding op) cs
      is_unmet_of cs s = record {
        rule = s.unmet.rule;
        of = subst (λ o. IsOf (folding o) s.unmet.rule) s.op_is s.unmet.of;
        class = s.row.class;
        unmet = subst (λ xs. IsUnmet g s.unmet.rule xs s.row.class) s.operands_are s.unmet.unmet;
      }

      is_by_op : (cs : List ℕ) → IsUnmetOf g (folding op) cs → Contains (by_op op h) cs
      is_by_op cs m =
          let o = fold_only (folding op) m.rule op refl m.of in
          let row : Row Op = record { op = Word op; operands = cs; class = m.class } in
          complete h row (fold_row g op m.rule cs m.class m.of m.unmet.match) (value_of op o.0)
          (record { op = op; op_is = refl; rule = m.rule; of = m.of; right_is = ap (λ r. r.right) o.3; unmet = m.unmet }) refl

      by_op_lists : Lists (IsUnmetOf g (folding op)) (by_op op h)
      by_op_lists = record {
        each = λ k d l. is_unmet_of (get_or (by_op op h) k d) (sound h (get_or (by_op op h) k d) (Contains-get_or (by_op op h) k d l));
        all = is_by_op;
        once = once h distinct;
      }

  total : List WordOp → {rows : List (Row Op)} {found : List Fold} → Chosen R rows found → ℕ
  total [] h = 0
  total (o ∷ os) h = length (by_op o h) + total os h

  one_more_fold : (b : Bool) (x : List ℕ) (xs : List (List ℕ)) (t n : ℕ) → length (cond b (x ∷ xs) xs) + (t + n) ≡ cond b (suc t) t + (length xs + n)
  one_more_fold true x xs t n = omega arith
  one_more_fold false x xs t n = omega arith

  total_taken : (os : List WordOp) {x : Row Op} {y : Fold} {xs : List (Row Op)} {ys : List Fold} (r : R x y) (h : Chosen R xs ys) → total os (taken r h) ≡ times r.unmet.op os + total os h
  unfolding total times by_op
  total_taken [] r h = refl
  total_taken (o ∷ os) {x} r h = let e = total_taken os r h in ap (λ n. length (cond (same_number r.unmet.op o) (x.operands ∷ by_op o h) (by_op o h)) + n) e ∙ one_more_fold (same_number r.unmet.op o) x.operands (by_op o h) (times r.unmet.op os) (total os h)

  total_left : (os : List WordOp) {x : Row Op} {xs : List (Row Op)} {ys : List Fold} (n : (y : Fold) → R x y → ⊥) (h : Chosen R xs ys) → total os (left_out n h) ≡ total os h
  unfolding total by_op
  total_left [] n h = refl
  total_left (o ∷ os) n h = let e = total_left os n h in ap (λ m. length (by_op o h) + m) e

  total_nothing : (os : List WordOp) → total os {rows = []} {found = []} nothing ≡ 0
  unfolding total by_op
  total_nothing [] = refl
  total_nothing (o ∷ os) = let e = total_nothing os in omega (arith, e)

  total_is : {rows : List (Row Op)} {found : List Fold} (h : Chosen R rows found) → total operators h ≡ length found
  total_is nothing = total_nothing operators
  total_is (taken {x} {y} {xs} {ys} r h) = let a = total_taken operators r h in let b = listed_once r.unmet.op in let c = total_is h in omega (arith, a, b, c)
  total_is (left_out {x} {xs} {ys} n h) = total_left operators n h ∙ total_is h

  each_need : AllPairs (λ r t. ¬ Agree r t) g.rows → {found : List Fold} (h : Chosen R g.rows found) (os : List WordOp) → AreNeeds g (map folding os) (total os h)
  unfolding total
  each_need distinct h [] = no_need
  each_need distinct h (o ∷ os) =
      one_need
      (record { matches = length (by_op o h); count = record { list = by_op o h; lists = by_op_lists o distinct h; length_is = refl }; is = omega arith })
      (each_need distinct h os)

  pub folds_need : AllPairs (λ r t. ¬ Agree r t) g.rows → {found : List Fold} → Chosen R g.rows found → AreNeeds g (map folding operators) (length found)
  folds_need distinct h = subst (AreNeeds g (map folding operators)) (total_is h) (each_need distinct h operators)
