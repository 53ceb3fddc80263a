-- Counters up to a number over groups of literals, one more at a time.
use Rattle.std.proofs.Common.{◌≡◌, ℕ, ◌+◌, ◌<◌, ◌≤◌, ◌^◌, List, ◌∷◌, ◌++◌, [], length, map, refl, sym, ap, ◌∙◌, subst, arith, length-append, append_assoc}
use Rattle.std.specs.List.{All, range_with_len}
use Rattle.std.proofs.lemmas.List.{append-nil}
use Rattle.std.proofs.lemmas.List.Sums.{sum_by-cons}
use Rattle.cnf_core.specs.declared.literal.Lit.{Lit}
use Rattle.cnf_core.specs.Formula.{Formula, IsLitOf}
use Rattle.cnf_core.specs.Counter.{at_most_clauses, at_most_size, at_most_vars}
use Rattle.cycle_encoding.specs.Shapes.{counters, counters_size, counters_vars}
use Rattle.cycle_encoding.proofs.Rows.{counters-append, counters-size, formula, part_of, size-append, vars-append}
use Rattle.cycle_encoding.proofs.Tables.{table_more}

module _ (p : ℕ) (group : ℕ → List Lit) where
  abbrev pub groups : ℕ → List (List Lit)
  groups n = map group (range_with_len 0 n)

  abbrev pub up_to : Formula → ℕ → Formula
  up_to f n = record { vars = f.vars + counters_vars p (groups n); clauses = f.clauses ++ counters f.vars p (groups n) }

  pub none_yet : (f : Formula) → f ≡ up_to f 0
  none_yet f =
      formula f.vars (f.vars + counters_vars p (groups 0)) f.clauses (f.clauses ++ counters f.vars p (groups 0))
      (let z : counters_vars p (groups 0) ≡ 0 = refl in omega (arith, z)) (sym (append-nil f.clauses))

  one_vars : (i : ℕ) → counters_vars p (groups (i + 1)) ≡ counters_vars p (groups i) + at_most_vars p (length (group i))
  one_vars i =
      let b = ap (counters_vars p) (table_more group i) ∙ vars-append p (groups i) (group i ∷ []) in
      let z : counters_vars p [] ≡ 0 = refl in
      let c = sum_by-cons (λ (lits : List Lit). at_most_vars p (length lits)) (group i) [] in
      omega (arith, b, z, c)

  one_size : (i : ℕ) → counters_size p (groups (i + 1)) ≡ counters_size p (groups i) + at_most_size p (length (group i))
  one_size i =
      let b = ap (counters_size p) (table_more group i) ∙ size-append p (groups i) (group i ∷ []) in
      let z : counters_size p [] ≡ 0 = refl in
      let c = sum_by-cons (λ (lits : List Lit). at_most_size p (length lits)) (group i) [] in
      omega (arith, b, z, c)

  one_clauses : (old i : ℕ) → counters old p (groups (i + 1)) ≡ counters old p (groups i) ++ at_most_clauses (old + counters_vars p (groups i)) p (group i)
  one_clauses old i =
      ap (counters old p) (table_more group i) ∙ counters-append p old (groups i) (group i ∷ [])
      ∙ ap (λ cs. counters old p (groups i) ++ cs) (append-nil (at_most_clauses (old + counters_vars p (groups i)) p (group i)))

  module _ (q : ℕ) (f h : Formula) (i : ℕ) (lits : List Lit) (e : h ≡ up_to f i) (l : lits ≡ group i) where
    vars_now : h.vars ≡ f.vars + counters_vars p (groups i)
    vars_now = ap (λ (h : Formula). h.vars) e

    clauses_now : h.clauses ≡ f.clauses ++ counters f.vars p (groups i)
    clauses_now = ap (λ (h : Formula). h.clauses) e

    same_vars : at_most_vars q (length lits) ≡ at_most_vars p (length lits) → at_most_vars q (length lits) ≡ at_most_vars p (length (group i))
    same_vars s = s ∙ ap (λ (ls : List Lit). at_most_vars p (length ls)) l

    abbrev pub with_one : Formula
    with_one = record { vars = h.vars + at_most_vars q (length lits); clauses = h.clauses ++ at_most_clauses h.vars q lits }

    pub one_more : at_most_vars q (length lits) ≡ at_most_vars p (length lits) → ((old : ℕ) → at_most_clauses old q lits ≡ at_most_clauses old p lits) → with_one ≡ up_to f (i + 1)
    one_more sv sc =
        formula (h.vars + at_most_vars q (length lits)) (f.vars + counters_vars p (groups (i + 1))) (h.clauses ++ at_most_clauses h.vars q lits) (f.clauses ++ counters f.vars p (groups (i + 1)))
        (let a = vars_now in let b = same_vars sv in let c = one_vars i in omega (arith, a, b, c))
        (ap (λ cs. h.clauses ++ cs) (sc h.vars ∙ ap (at_most_clauses h.vars p) l ∙ ap (λ n. at_most_clauses n p (group i)) vars_now)
        ∙ ap (λ cs. cs ++ at_most_clauses (f.vars + counters_vars p (groups i)) p (group i)) clauses_now
        ∙ append_assoc f.clauses (counters f.vars p (groups i)) (at_most_clauses (f.vars + counters_vars p (groups i)) p (group i))
        ∙ ap (λ cs. f.clauses ++ cs) (sym (one_clauses f.vars i)))

    pub next_vars : at_most_vars q (length lits) ≡ at_most_vars p (length lits) → (k : ℕ) → i < k → f.vars + counters_vars p (groups k) < 2 ^ 29 → h.vars + at_most_vars q (length lits) < 2 ^ 29
    next_vars sv k lt room =
        let a = part_of (λ lits. at_most_vars p (length lits)) group (i + 1) k (omega arith) in
        let b = vars_now in
        let c = same_vars sv in
        let d = one_vars i in
        omega (arith, a, b, c, d)

    pub next_room : at_most_size q (length lits) ≡ at_most_size p (length lits) → ((old p : ℕ) (lits : List Lit) → length (at_most_clauses old p lits) ≡ at_most_size p (length lits)) → (k : ℕ) → i < k → length f.clauses + counters_size p (groups k) < 2 ^ 30 → length h.clauses + at_most_size q (length lits) < 2 ^ 30
    next_room ss size k lt room =
        let a = part_of (λ lits. at_most_size p (length lits)) group (i + 1) k (omega arith) in
        let b : length h.clauses ≡ length f.clauses + counters_size p (groups i) = ap (λ (cs : List (List Lit)). length cs) clauses_now ∙ length-append f.clauses (counters f.vars p (groups i)) ∙ ap (λ n. length f.clauses + n) (counters-size p size f.vars (groups i)) in
        let c = ss ∙ ap (λ (ls : List Lit). at_most_size p (length ls)) l in
        let d = one_size i in
        omega (arith, a, b, c, d)

    pub next_exist : (n : ℕ) → n ≤ f.vars → ((m : ℕ) → n ≤ m → All (IsLitOf m) (group i)) → All (IsLitOf h.vars) lits
    next_exist n le over = (let b = vars_now in subst (λ (ls : List Lit). All (IsLitOf h.vars) ls) (sym l) (over h.vars (omega arith)))
