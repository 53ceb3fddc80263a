-- Things that stand in blocks, and those of one place of each block.
use Rattle.std.proofs.Common.{◌≡◌, ℕ, zero, suc, ◌+◌, ◌<◌, ◌≤◌, Bool, List, ◌∷◌, ◌++◌, [], length, map, take, get_or, refl, sym, ap, ◌∙◌, arith, inl, inr, length-append}
use Rattle.std.specs.Prelude.{◌==◌}
use Rattle.std.specs.List.{flat_map, range_with_len}
use Rattle.std.proofs.lemmas.Bool.{cases_eq, eq-eqb, ne_eqb}
use Rattle.std.proofs.lemmas.List.{append-nil, take_more, map-id}
use Rattle.std.proofs.lemmas.List.Concat.{flat_map-append}
use Rattle.std.proofs.lemmas.List.FromFn.{length-map-range_with_len, length-range_with_len}
use Rattle.cnf_core.specs.declared.literal.Lit.{Lit}
use Rattle.cycle_encoding.specs.Shapes.{numbered, positive, negative, vars_of, implied}
use Rattle.cycle_encoding.specs.Steps.{of_thing}
use Rattle.cycle_encoding.proofs.Tables.{table_more}
use Rattle.cycle_encoding.proofs.Launched.{size-map}
use Rattle.cycle_encoding.proofs.Rows.{range_more}
use Rattle.cycle_encoding.proofs.Walk.{numbered-append, vars-append}
use Rattle.cycle_encoding.proofs.Places.{no-item, at-item}

pub length-of : (var : ℕ) (cs : List (List Lit)) → length (of_thing var cs) ≡ length cs
length-of var cs = size-map (λ (c : List Lit). negative var ∷ c) cs

-- clauses that things imply, of which those of one number alone may have any
module _ {X : Type 0} (F : X → List (List Lit)) where
  pub implied-append : (old : ℕ) (xs ys : List X) → implied (numbered old (xs ++ ys)) F ≡ implied (numbered old xs) F ++ implied (numbered (old + length xs) ys) F
  implied-append old xs ys =
      ap (λ ps. implied ps F) (numbered-append old xs ys)
      ∙ flat_map-append (λ (p : ℕ × X). map (λ c. negative p.0 ∷ c) (F p.1)) (numbered old xs) (numbered (old + length xs) ys)

  implied-one : (m : ℕ) (x : X) → implied (numbered m (x ∷ [])) F ≡ of_thing (m + 1) (F x)
  implied-one m x = append-nil (of_thing (m + 1) (F x))

  module _ (c : ℕ) (f : ℕ → X) (others : (a : ℕ) → (a ≡ c → ⊥) → F (f a) ≡ []) (old : ℕ) where
    more : (n : ℕ) → implied (numbered old (map f (range_with_len 0 (suc n)))) F ≡ implied (numbered old (map f (range_with_len 0 n))) F ++ of_thing (old + n + 1) (F (f n))
    more n =
        let s : suc n ≡ n + 1 = omega arith in
        let size : old + length (map f (range_with_len 0 n)) ≡ old + n = ap (λ m. old + m) (length-map-range_with_len f 0 n) in
        ap (λ m. implied (numbered old (map f (range_with_len 0 m))) F) s
        ∙ ap (λ xs. implied (numbered old xs) F) (table_more f n)
        ∙ implied-append old (map f (range_with_len 0 n)) (f n ∷ [])
        ∙ ap (λ ys. implied (numbered old (map f (range_with_len 0 n))) F ++ ys) (implied-one (old + length (map f (range_with_len 0 n))) (f n) ∙ ap (λ m. of_thing (m + 1) (F (f n))) size)

    pub no-clause : (n : ℕ) → n ≤ c → implied (numbered old (map f (range_with_len 0 n))) F ≡ []
    no-clause zero le = refl
    no-clause (suc n) le =
        more n
        ∙ ap (λ ys. ys ++ of_thing (old + n + 1) (F (f n))) (no-clause n (omega arith))
        ∙ ap (of_thing (old + n + 1)) (others n (λ e. absurd (omega arith)))

    pub at-clause : (n : ℕ) → c < n → implied (numbered old (map f (range_with_len 0 n))) F ≡ of_thing (old + c + 1) (F (f c))
    at-clause zero lt = absurd (omega arith)
    at-clause (suc n) lt =
        elim (cases_eq n c) [
          | inl e ↦
              more n ∙ ap (λ ys. ys ++ of_thing (old + n + 1) (F (f n))) (no-clause n (omega arith)) ∙ ap (λ m. of_thing (old + m + 1) (F (f m))) e
          | inr ne ↦
              (more n
              ∙ ap (λ ys. ys ++ of_thing (old + n + 1) (F (f n))) (at-clause n (omega arith))
              ∙ ap (λ cs. of_thing (old + c + 1) (F (f c)) ++ of_thing (old + n + 1) cs) (others n ne)
              ∙ append-nil (of_thing (old + c + 1) (F (f c))))
        ]

-- ---- numbers of a range

pub same_range : (n : ℕ) → range_with_len 0 n ≡ map (λ (x : ℕ). x) (range_with_len 0 n)
same_range n = sym (map-id (range_with_len 0 n))

pub cycle_is : (first k cycle : ℕ) → cycle < k → positive (first + cycle + 1) ∷ [] ≡ vars_of (λ t. t == cycle) (numbered first (range_with_len 0 k))
cycle_is first k cycle lt =
    sym (ap (λ (xs : List ℕ). vars_of (λ t. t == cycle) (numbered first xs)) (same_range k)
    ∙ at-item (λ t. t == cycle) cycle (λ (x : ℕ). x) (λ a ne. ne_eqb a cycle ne) first k lt (eq-eqb cycle cycle refl))

pub no_cycle : (first k cycle : ℕ) → k ≤ cycle → [] ≡ vars_of (λ t. t == cycle) (numbered first (range_with_len 0 k))
no_cycle first k cycle le =
    sym (ap (λ (xs : List ℕ). vars_of (λ t. t == cycle) (numbered first xs)) (same_range k)
    ∙ no-item (λ t. t == cycle) cycle (λ (x : ℕ). x) (λ a ne. ne_eqb a cycle ne) first k le)

pub cycle_clause : (F : ℕ → List (List Lit)) (first k cycle : ℕ) → ((a : ℕ) → (a ≡ cycle → ⊥) → F a ≡ []) → cycle < k → implied (numbered first (range_with_len 0 k)) F ≡ of_thing (first + cycle + 1) (F cycle)
cycle_clause F first k cycle others lt = ap (λ (xs : List ℕ). implied (numbered first xs) F) (same_range k) ∙ at-clause F cycle (λ (x : ℕ). x) others first k lt

-- ---- blocks

module _ {X : Type 0} (block : ℕ → List X) (n : ℕ) (size : (c : ℕ) → length (block c) ≡ n) where
  pub blocks-more : (cs : List ℕ) (i d : ℕ) → i < length cs → flat_map block (take (i + 1) cs) ≡ flat_map block (take i cs) ++ block (get_or cs i d)
  blocks-more cs i d lt =
      ap (flat_map block) (take_more cs i d lt) ∙ flat_map-append block (take i cs) (get_or cs i d ∷ [])
      ∙ ap (λ ys. flat_map block (take i cs) ++ ys) (append-nil (block (get_or cs i d)))

  pub blocks-size : (cs : List ℕ) (i d : ℕ) → i < length cs → length (flat_map block (take (i + 1) cs)) ≡ length (flat_map block (take i cs)) + n
  blocks-size cs i d lt =
      ap (λ (xs : List X). length xs) (blocks-more cs i d lt) ∙ length-append (flat_map block (take i cs)) (block (get_or cs i d)) ∙ ap (λ m. length (flat_map block (take i cs)) + m) (size (get_or cs i d))

  pub blocks-clauses : (F : X → List (List Lit)) (first : ℕ) (cs : List ℕ) (i d : ℕ) → i < length cs → implied (numbered first (flat_map block (take (i + 1) cs))) F ≡ implied (numbered first (flat_map block (take i cs))) F ++ implied (numbered (first + length (flat_map block (take i cs))) (block (get_or cs i d))) F
  blocks-clauses F first cs i d lt =
      ap (λ xs. implied (numbered first xs) F) (blocks-more cs i d lt) ∙ implied-append F first (flat_map block (take i cs)) (block (get_or cs i d))

  pub blocks-vars : (test : X → Bool) (first : ℕ) (cs : List ℕ) (i d : ℕ) → i < length cs → vars_of test (numbered first (flat_map block (take (i + 1) cs))) ≡ vars_of test (numbered first (flat_map block (take i cs))) ++ vars_of test (numbered (first + length (flat_map block (take i cs))) (block (get_or cs i d)))
  blocks-vars test first cs i d lt =
      ap (λ xs. vars_of test (numbered first xs)) (blocks-more cs i d lt) ∙ vars-append test first (flat_map block (take i cs)) (block (get_or cs i d))

-- ---- clauses that numbers of a range imply, one more at a time

module _ (F : ℕ → List (List Lit)) (first : ℕ) where
  pub range-clauses : (i : ℕ) → implied (numbered first (range_with_len 0 (i + 1))) F ≡ implied (numbered first (range_with_len 0 i)) F ++ of_thing (first + i + 1) (F i)
  range-clauses i =
      ap (λ xs. implied (numbered first xs) F) (range_more i) ∙ implied-append F first (range_with_len 0 i) (i ∷ [])
      ∙ ap (λ ys. implied (numbered first (range_with_len 0 i)) F ++ ys) (implied-one F (first + length (range_with_len 0 i)) i ∙ ap (λ m. of_thing (first + m + 1) (F i)) (length-range_with_len 0 i))

  pub range-clauses-part : (i k : ℕ) → i < k → length (implied (numbered first (range_with_len 0 i)) F) + length (F i) ≤ length (implied (numbered first (range_with_len 0 k)) F)
  range-clauses-part i zero lt = absurd (omega arith)
  range-clauses-part i (suc k) lt =
      let s : suc k ≡ k + 1 = omega arith in
      let e =
      ap (λ m. length (implied (numbered first (range_with_len 0 m)) F)) s ∙ ap (λ (c : List (List Lit)). length c) (range-clauses k)
      ∙ length-append (implied (numbered first (range_with_len 0 k)) F) (of_thing (first + k + 1) (F k)) ∙ ap (λ n. length (implied (numbered first (range_with_len 0 k)) F) + n) (length-of (first + k + 1) (F k)) in
      elim (cases_eq i k) [
        | inl h ↦ (let a : length (implied (numbered first (range_with_len 0 i)) F) ≡ length (implied (numbered first (range_with_len 0 k)) F) = ap (λ m. length (implied (numbered first (range_with_len 0 m)) F)) h in let b : length (F i) ≡ length (F k) = ap (λ m. length (F m)) h in omega (arith, e, a, b))
        | inr ne ↦ (let r = range-clauses-part i k (omega arith) in omega (arith, e, r))
      ]
