-- Counters over the groups of a range, one more at a time.
use Rattle.std.proofs.Common.{◌≡◌, ℕ, ◌+◌, ◌<◌, ◌≤◌, ◌^◌, List, [], ◌∷◌, length, map, refl, sym, ap, ◌∙◌, subst, arith}
use Rattle.std.specs.List.{All, range_with_len}
use Rattle.std.proofs.lemmas.List.{length-append}
use Rattle.std.proofs.lemmas.List.Sums.{sum_by-cons}
use Rattle.cnf_core.specs.declared.literal.Lit.{Lit}
use Rattle.cnf_core.specs.Formula.{Formula, IsLitOf}
use Rattle.cnf_core.specs.Counter.{at_most_clauses, at_most_vars, at_most_size}
use Rattle.cycle_encoding.specs.Shapes.{counters, counters_vars, counters_size}
use Rattle.cycle_encoding.specs.Steps.{with_counters}
use Rattle.cycle_encoding.proofs.Tables.{table_more}
use Rattle.cycle_encoding.proofs.Rows.{vars-append, size-append, both-counters, counted, one_counter, part_of, counters-size}

module _ (group : ℕ → List Lit) where
  abbrev pub groups : ℕ → List (List Lit)
  groups n = map group (range_with_len 0 n)

  vars-part : (i k : ℕ) → i < k → counters_vars 1 (groups i) + at_most_vars 1 (length (group i)) ≤ counters_vars 1 (groups k)
  vars-part i k lt =
      let a = part_of (λ lits. at_most_vars 1 (length lits)) group (i + 1) k (omega arith) in
      let b = ap (counters_vars 1) (table_more group i) ∙ vars-append 1 (groups i) (group i ∷ []) in
      let z : counters_vars 1 [] ≡ 0 = refl in
      let c = sum_by-cons (λ (lits : List Lit). at_most_vars 1 (length lits)) (group i) [] in
      omega arith

  size-part : (i k : ℕ) → i < k → counters_size 1 (groups i) + at_most_size 1 (length (group i)) ≤ counters_size 1 (groups k)
  size-part i k lt =
      let a = part_of (λ lits. at_most_size 1 (length lits)) group (i + 1) k (omega arith) in
      let b = ap (counters_size 1) (table_more group i) ∙ size-append 1 (groups i) (group i ∷ []) in
      let z : counters_size 1 [] ≡ 0 = refl in
      let c = sum_by-cons (λ (lits : List Lit). at_most_size 1 (length lits)) (group i) [] in
      omega arith

  module _ (f h : Formula) (i : ℕ) (lits : List Lit) (e : h ≡ with_counters f (groups i)) (l : lits ≡ group i) where
    pub one_more : counted h lits ≡ with_counters f (groups (i + 1))
    one_more =
        ap (λ (h : Formula). counted h lits) e ∙ ap (counted (with_counters f (groups i))) l
        ∙ one_counter (with_counters f (groups i)) (group i)
        ∙ both-counters f (groups i) (group i ∷ [])
        ∙ ap (with_counters f) (sym (table_more group i))

    vars_now : h.vars ≡ f.vars + counters_vars 1 (groups i)
    vars_now = ap (λ (h : Formula). h.vars) e

    pub next_vars : (k : ℕ) → i < k → f.vars + counters_vars 1 (groups k) < 2 ^ 29 → h.vars + at_most_vars 1 (length lits) < 2 ^ 29
    next_vars k lt room =
        let a = vars-part i k lt in
        let b = vars_now in
        let c : at_most_vars 1 (length lits) ≡ at_most_vars 1 (length (group i)) = ap (λ (ls : List Lit). at_most_vars 1 (length ls)) l in
        omega arith

    pub next_room : ((old p : ℕ) (lits : List Lit) → length (at_most_clauses old p lits) ≡ at_most_size p (length lits)) → (k : ℕ) → i < k → length f.clauses + counters_size 1 (groups k) < 2 ^ 30 → length h.clauses + at_most_size 1 (length lits) < 2 ^ 30
    next_room size k lt room =
        let a = size-part i k lt in
        let b : length h.clauses ≡ length f.clauses + counters_size 1 (groups i) = ap (λ (h : Formula). length h.clauses) e ∙ length-append f.clauses (counters f.vars 1 (groups i)) ∙ ap (λ n. length f.clauses + n) (counters-size 1 size f.vars (groups i)) in
        let c : at_most_size 1 (length lits) ≡ at_most_size 1 (length (group i)) = ap (λ (ls : List Lit). at_most_size 1 (length ls)) l in
        omega arith

    -- the literals exist as they did before
    pub next_exist : (n : ℕ) → n ≤ f.vars → ((m : ℕ) → n ≤ m → All (IsLitOf m) (group i)) → All (IsLitOf h.vars) lits
    next_exist n le over = (let b = vars_now in subst (λ (ls : List Lit). All (IsLitOf h.vars) ls) (sym l) (over h.vars (omega arith)))
