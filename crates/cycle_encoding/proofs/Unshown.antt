-- Clauses with negated variables, by the things whose variables are false.
use Rattle.std.proofs.Common.{◌≡◌, ℕ, ◌+◌, Bool, true, false, not, cond, List, [], ◌∷◌, ◌++◌, map, refl, sym, ap, ◌∙◌, subst, inl, inr}
use Rattle.std.specs.Prelude.{◌||◌, Contains}
use Rattle.std.specs.List.{filter, list_any}
use Rattle.std.proofs.lemmas.List.Folds.{list_any-append}
use Rattle.std.proofs.lemmas.List.Elements.{All-contains}
use Rattle.cnf_core.specs.Formula.{lit_true, clause_true}
use Rattle.cycle_encoding.specs.Shapes.{numbered, positive, negative, vars_of, negated, shown}
use Rattle.cycle_encoding.proofs.Shown.{any_of, all_shown}
use Rattle.cycle_encoding.proofs.Members.{NoTwice, either, nothing, All-from_members}

abbrev pub flip : (ℕ → Bool) → ℕ → Bool
flip v n = not (v n)

-- the things whose variables are false
abbrev pub hidden : {X : Type 0} → (ℕ → Bool) → List (ℕ × X) → List X
hidden v ps = shown (flip v) ps

module _ {X : Type 0} (v : ℕ → Bool) where
  negated_is : (qs : List (ℕ × X)) → clause_true v (map (λ p. negative p.0) qs) ≡ clause_true (flip v) (map (λ p. positive p.0) qs)
  negated_is [] = refl
  negated_is (q ∷ qs) = ap (λ b. not (v q.0) || b) (negated_is qs)

  -- one of the negated variables is true exactly where a thing that is hidden passes
  pub negated-of : (test : X → Bool) (ps : List (ℕ × X)) → clause_true v (negated test ps) ≡ list_any test (hidden v ps)
  negated-of test ps = negated_is (filter (λ p. test p.1) ps) ∙ any_of (flip v) test ps

  pub shown-within : (n : ℕ) (xs : List X) (x : X) → Contains (shown v (numbered n xs)) x → Contains xs x
  shown-within n xs x h = All-contains (λ y. Contains xs y) (shown v (numbered n xs)) x (all_shown v (λ y. Contains xs y) n xs (All-from_members (λ y. Contains xs y) xs (λ y h. h))) h

-- some variable of the first list, or some negated one of the second
pub either-of : {X Y : Type 0} (v : ℕ → Bool) (p : X → Bool) (q : Y → Bool) (xs : List (ℕ × X)) (ys : List (ℕ × Y)) → clause_true v (vars_of p xs ++ negated q ys) ≡ (list_any p (shown v xs) || list_any q (hidden v ys))
either-of v p q xs ys =
    list_any-append (lit_true v) (vars_of p xs) (negated q ys)
    ∙ ap (λ b. b || clause_true v (negated q ys)) (any_of v p xs)
    ∙ ap (λ b. list_any p (shown v xs) || b) (negated-of v q ys)

-- no thing is shown and hidden
module _ {X : Type 0} (v : ℕ → Bool) where
  side_step : (m : ℕ) (y x : X) (ys : List X) (P Q : List (ℕ × X)) → ((z : X) → Contains (map (λ p. p.1) P) z → Contains ys z) → ((z : X) → Contains (map (λ p. p.1) Q) z → Contains ys z) → (Contains ys y → ⊥) → (Contains (map (λ p. p.1) P) x → Contains (map (λ p. p.1) Q) x → ⊥) → (b : Bool) → Contains (map (λ p. p.1) (cond b ((m, y) ∷ P) P)) x → Contains (map (λ p. p.1) (cond (not b) ((m, y) ∷ Q) Q)) x → ⊥
  side_step m y x ys P Q inP inQ once ih true h k =
      elim (either y x (map (λ p. p.1) P) h) [ inl e ↦ once (subst (λ z. Contains ys z) (sym e) (inQ x k)) | inr c ↦ ih c k ]
  side_step m y x ys P Q inP inQ once ih false h k =
      elim (either y x (map (λ p. p.1) Q) k) [ inl e ↦ once (subst (λ z. Contains ys z) (sym e) (inP x h)) | inr c ↦ ih h c ]

  pub one-side : (n : ℕ) (xs : List X) → NoTwice xs → (x : X) → Contains (shown v (numbered n xs)) x → Contains (hidden v (numbered n xs)) x → ⊥
  one-side n [] once x h k = nothing x h
  one-side n (y ∷ ys) once x h k =
      side_step (n + 1) y x ys (filter (λ p. v p.0) (numbered (n + 1) ys)) (filter (λ p. flip v p.0) (numbered (n + 1) ys))
      (λ z c. shown-within v (n + 1) ys z c) (λ z c. shown-within (flip v) (n + 1) ys z c) once.0
      (one-side (n + 1) ys once.1 x) (v (n + 1)) h k
