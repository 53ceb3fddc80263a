-- The formulas that come of the steps of memory, of a guard's branch, of registers and of pins, and the room that each step
-- takes.
use Rattle.std.proofs.Common.{◌≡◌, ℕ, ◌+◌, ◌<◌, ◌≤◌, ◌^◌, Bool, true, false, not, List, ◌∷◌, ◌++◌, [], length, refl, sym, ap, ◌∙◌, arith, length-append, append_assoc}
use Rattle.std.specs.Prelude.{is_some}
use Rattle.cycle_encoding.specs.Limits.{most_vars, most_clauses}
use Rattle.cnf_core.specs.declared.literal.Lit.{Lit}
use Rattle.cnf_core.specs.Formula.{Formula}
use Rattle.std.proofs.lemmas.List.{append-nil}
use Rattle.std.proofs.lemmas.List.Sums.{sum_by-cons}
use Rattle.std.proofs.lemmas.List.FromFn.{length-range_with_len}
use Rattle.cnf_core.specs.Counter.{at_most_clauses, at_most_size, at_most_vars}
use Rattle.std.specs.List.{range_with_len}
use Rattle.machine_table.specs.declared.tables.Table.{Table}
use Rattle.cycle_encoding.specs.Families.{any}
use Rattle.graph_meaning.specs.declared.graphs.LaunchGraph.{LaunchGraph}
use Rattle.schedule_meaning.specs.Launches.{launches, is_branch}
use Rattle.schedule_meaning.specs.declared.schedules.Launch.{Launch}
use Rattle.order_encoding.specs.OrderVariables.{Held, all_held, all_taken}
use Rattle.order_encoding.specs.OrderFamilies.{branches_by, entry_clauses, memory_clauses, kept_clauses, held_groups, store_groups, last_memory_clauses, comes_after}
use Rattle.order_encoding.specs.WholeFormula.{with_memory, formula_with_guard, formula_with_registers}
use Rattle.cycle_encoding.specs.Shapes.{numbered, vars_of, implied, when, counters, counters_vars, counters_size}
use Rattle.cycle_encoding.specs.Steps.{with_clauses, with_counters}
use Rattle.order_encoding.specs.PinFamilies.{pool_clauses}
use Rattle.cycle_encoding.proofs.Adding.{added}
use Rattle.cycle_encoding.proofs.Rows.{formula, counted, one_counter, both-counters, counters-size, size-append, vars-append}

-- memory: clauses, two rows of counters, and a last clause
module _ (E M K L G1 G2 : List (List Lit)) (n : ℕ) (f f1 f2 f3 f4 f5 f6 : Formula) (e1 : f1 ≡ record f { vars = n }) where
  abbrev pub all : List (List Lit)
  all = E ++ M ++ K ++ counters n 1 (G1 ++ G2) ++ L

  module _ (size : (old p : ℕ) (lits : List Lit) → length (at_most_clauses old p lits) ≡ at_most_size p (length lits)) (few : length (f.clauses ++ all) ≤ most_clauses) where
    total : length f.clauses + length E + length M + length K + counters_size 1 G1 + counters_size 1 G2 + length L ≤ most_clauses
    total =
        let a = length-append f.clauses all in
        let b = length-append (E ++ M ++ K ++ counters n 1 (G1 ++ G2)) L in
        let c = length-append (E ++ M ++ K) (counters n 1 (G1 ++ G2)) in
        let d = length-append (E ++ M) K in
        let e = length-append E M in
        let s = counters-size 1 size n (G1 ++ G2) in
        let t = size-append 1 G1 G2 in
        omega arith

    size1 : length f1.clauses ≡ length f.clauses
    size1 = ap (λ (f : Formula). length f.clauses) e1

    pub room1 : length f1.clauses + length E < 2 ^ 30
    room1 = (let a = total in let b = size1 in omega arith)

    module _ (e2 : f2 ≡ with_clauses f1 E) where
      size2 : length f2.clauses ≡ length f.clauses + length E
      size2 = (let a = ap (λ (f : Formula). length f.clauses) e2 ∙ length-append f1.clauses E in let b = size1 in omega arith)

      pub room2 : length f2.clauses + length M < 2 ^ 30
      room2 = (let a = total in let b = size2 in omega arith)

      module _ (e3 : f3 ≡ with_clauses f2 M) where
        size3 : length f3.clauses ≡ length f.clauses + length E + length M
        size3 = (let a = ap (λ (f : Formula). length f.clauses) e3 ∙ length-append f2.clauses M in let b = size2 in omega arith)

        pub room3 : length f3.clauses + length K < 2 ^ 30
        room3 = (let a = total in let b = size3 in omega arith)

        module _ (e4 : f4 ≡ with_clauses f3 K) where
          size4 : length f4.clauses ≡ length f.clauses + length E + length M + length K
          size4 = (let a = ap (λ (f : Formula). length f.clauses) e4 ∙ length-append f3.clauses K in let b = size3 in omega arith)

          pub room4 : length f4.clauses + counters_size 1 G1 < 2 ^ 30
          room4 = (let a = total in let b = size4 in omega arith)

          module _ (e5 : f5 ≡ with_counters f4 G1) where
            size5 : length f5.clauses ≡ length f.clauses + length E + length M + length K + counters_size 1 G1
            size5 =
                let a = ap (λ (f : Formula). length f.clauses) e5 ∙ length-append f4.clauses (counters f4.vars 1 G1) in
                let b = size4 in
                let c = counters-size 1 size f4.vars G1 in
                omega arith

            pub room5 : length f5.clauses + counters_size 1 G2 < 2 ^ 30
            room5 = (let a = total in let b = size5 in omega arith)

            module _ (e6 : f6 ≡ with_counters f5 G2) where
              size6 : length f6.clauses ≡ length f.clauses + length E + length M + length K + counters_size 1 G1 + counters_size 1 G2
              size6 =
                  let a = ap (λ (f : Formula). length f.clauses) e6 ∙ length-append f5.clauses (counters f5.vars 1 G2) in
                  let b = size5 in
                  let c = counters-size 1 size f5.vars G2 in
                  omega arith

              pub room6 : length f6.clauses + length L < 2 ^ 30
              room6 = (let a = total in let b = size6 in omega arith)

  -- variables
  pub vars4 : f2 ≡ with_clauses f1 E → f3 ≡ with_clauses f2 M → f4 ≡ with_clauses f3 K → f4.vars ≡ n
  vars4 e2 e3 e4 = ap (λ (f : Formula). f.vars) e4 ∙ ap (λ (f : Formula). f.vars) e3 ∙ ap (λ (f : Formula). f.vars) e2 ∙ ap (λ (f : Formula). f.vars) e1

  pub limit4 : (v : ℕ) → v ≡ n → n + counters_vars 1 (G1 ++ G2) ≤ most_vars → v + counters_vars 1 G1 < 2 ^ 29
  limit4 v e le = (let a = vars-append 1 G1 G2 in omega arith)

  pub limit5 : (v : ℕ) → v ≡ n → f4.vars ≡ v → f5 ≡ with_counters f4 G1 → n + counters_vars 1 (G1 ++ G2) ≤ most_vars → f5.vars + counters_vars 1 G2 < 2 ^ 29
  limit5 v e ev e5 le = (let a = vars-append 1 G1 G2 in let b = ap (λ (f : Formula). f.vars) e5 in omega arith)

  module _ (e2 : f2 ≡ with_clauses f1 E) (e3 : f3 ≡ with_clauses f2 M) (e4 : f4 ≡ with_clauses f3 K) (e5 : f5 ≡ with_counters f4 G1) (e6 : f6 ≡ with_counters f5 G2) where
    abbrev plain : List (List Lit)
    plain = E ++ M ++ K

    after4 : f4 ≡ with_clauses f1 plain
    after4 = added f1 f3 f4 K (E ++ M) plain (added f1 f2 f3 M E (E ++ M) e2 e3 refl) e4 refl

    after6 : f6 ≡ with_counters (with_clauses f1 plain) (G1 ++ G2)
    after6 = e6 ∙ ap (λ (h : Formula). with_counters h G2) e5 ∙ both-counters f4 G1 G2 ∙ ap (λ (h : Formula). with_counters h (G1 ++ G2)) after4

    abbrev pub ended : Formula
    ended = record { vars = n + counters_vars 1 (G1 ++ G2); clauses = f.clauses ++ all }

    pub memory-ends : with_clauses f6 L ≡ ended
    memory-ends =
        ap (λ (h : Formula). with_clauses h L) after6
        ∙ ap (λ (h : Formula). with_clauses (with_counters (with_clauses h plain) (G1 ++ G2)) L) e1
        ∙ formula (n + counters_vars 1 (G1 ++ G2)) (n + counters_vars 1 (G1 ++ G2)) (((f.clauses ++ plain) ++ counters n 1 (G1 ++ G2)) ++ L) (f.clauses ++ all) refl
        (ap (λ (cs : List (List Lit)). cs ++ L) (append_assoc f.clauses plain (counters n 1 (G1 ++ G2))) ∙ append_assoc f.clauses (plain ++ counters n 1 (G1 ++ G2)) L)

-- the formula with memory, by the numbers that the code has: cycles, the variables before what is held, before stores
-- and before counters
module _ (g : LaunchGraph) (xs : List (ℕ × Launch)) (f : Formula) (k : ℕ) where
  module _ (j first stores n : ℕ) where
    abbrev pub ms : List (ℕ × Held)
    ms = numbered first (all_held g j)

    abbrev pub ws : List (ℕ × ℕ)
    ws = numbered stores (range_with_len 0 j)

    abbrev pub by_numbers : Formula
    by_numbers = record {
      vars = n + counters_vars 1 (held_groups j ms ++ store_groups g k xs);
      clauses = f.clauses ++ (entry_clauses g ms
          ++ memory_clauses g xs ms ws
          ++ kept_clauses g j xs ms ws
          ++ counters n 1 (held_groups j ms ++ store_groups g k xs)
          ++ last_memory_clauses g j ms);
    }

  pub memory-by-numbers : (j first stores n : ℕ) → j ≡ k → first ≡ f.vars → stores ≡ f.vars + length (all_held g j) → n ≡ f.vars + length (all_held g j) + j → by_numbers j first stores n ≡ with_memory g k xs f
  memory-by-numbers j first stores n ej e1 e2 e3 =
      let h = length (all_held g k) in
      ap (λ j. by_numbers j first stores n) ej
      ∙ ap (λ x. by_numbers k x stores n) e1
      ∙ ap (λ x. by_numbers k f.vars x n) (e2 ∙ ap (λ j. f.vars + length (all_held g j)) ej)
      ∙ ap (λ x. by_numbers k f.vars (f.vars + h) x) (e3 ∙ ap (λ j. f.vars + length (all_held g j) + j) ej)

-- a guard's branch: a clause of its launches, a counter over them, and two families
module _ (lits : List Lit) (W C : List (List Lit)) (n : ℕ) (f f1 f2 f3 f4 : Formula) (e1 : f1 ≡ record f { vars = n }) where
  abbrev pub branch-all : List (List Lit)
  branch-all = (lits ∷ []) ++ counters n 1 (lits ∷ []) ++ W ++ C

  module _ (size : (old p : ℕ) (lits : List Lit) → length (at_most_clauses old p lits) ≡ at_most_size p (length lits)) (few : length (f.clauses ++ branch-all) ≤ most_clauses) where
    branch-total : length f.clauses + 1 + at_most_size 1 (length lits) + length W + length C ≤ most_clauses
    branch-total =
        let a = length-append f.clauses branch-all in
        let b = length-append ((lits ∷ []) ++ counters n 1 (lits ∷ []) ++ W) C in
        let c = length-append ((lits ∷ []) ++ counters n 1 (lits ∷ [])) W in
        let d : length ((lits ∷ []) ++ counters n 1 (lits ∷ [])) ≡ 1 + length (counters n 1 (lits ∷ [])) = length-append (lits ∷ []) (counters n 1 (lits ∷ [])) in
        let s = counters-size 1 size n (lits ∷ []) in
        let t = sum_by-cons (λ (c : List Lit). at_most_size 1 (length c)) lits [] in
        let z : counters_size 1 [] ≡ 0 = refl in
        omega arith

    branch1 : length f1.clauses ≡ length f.clauses
    branch1 = ap (λ (f : Formula). length f.clauses) e1

    pub branch-room1 : length f1.clauses < 2 ^ 30
    branch-room1 = (let a = branch-total in let b = branch1 in omega arith)

    module _ (e2 : f2 ≡ with_clauses f1 (lits ∷ [])) where
      branch2 : length f2.clauses ≡ length f.clauses + 1
      branch2 = ap (λ (f : Formula). length f.clauses) e2 ∙ length-append f1.clauses (lits ∷ []) ∙ ap (λ m. m + 1) branch1

      pub branch-room2 : length f2.clauses + at_most_size 1 (length lits) < 2 ^ 30
      branch-room2 = (let a = branch-total in let b = branch2 in omega arith)

      module _ (e3 : f3 ≡ counted f2 lits) where
        branch3 : length f3.clauses ≡ length f.clauses + 1 + at_most_size 1 (length lits)
        branch3 =
            let a = ap (λ (f : Formula). length f.clauses) e3 ∙ length-append f2.clauses (at_most_clauses f2.vars 1 lits) in
            let b = branch2 in
            let c = size f2.vars 1 lits in
            omega arith

        pub branch-room3 : length f3.clauses + length W < 2 ^ 30
        branch-room3 = (let a = branch-total in let b = branch3 in omega arith)

        module _ (e4 : f4 ≡ with_clauses f3 W) where
          branch4 : length f4.clauses ≡ length f.clauses + 1 + at_most_size 1 (length lits) + length W
          branch4 = (let a = ap (λ (f : Formula). length f.clauses) e4 ∙ length-append f3.clauses W in let b = branch3 in omega arith)

          pub branch-room4 : length f4.clauses + length C < 2 ^ 30
          branch-room4 = (let a = branch-total in let b = branch4 in omega arith)

  pub branch-vars2 : f2 ≡ with_clauses f1 (lits ∷ []) → f2.vars ≡ n
  branch-vars2 e2 = ap (λ (f : Formula). f.vars) e2 ∙ ap (λ (f : Formula). f.vars) e1

  pub branch-limit : f2 ≡ with_clauses f1 (lits ∷ []) → n + counters_vars 1 (lits ∷ []) ≤ most_vars → f2.vars + at_most_vars 1 (length lits) < 2 ^ 29
  branch-limit e2 le =
      let a = branch-vars2 e2 in
      let b = sum_by-cons (λ (c : List Lit). at_most_vars 1 (length c)) lits [] in
      let z : counters_vars 1 [] ≡ 0 = refl in
      omega arith

  module _ (e2 : f2 ≡ with_clauses f1 (lits ∷ [])) (e3 : f3 ≡ counted f2 lits) (e4 : f4 ≡ with_clauses f3 W) where
    after3 : f3 ≡ with_counters (with_clauses f1 (lits ∷ [])) (lits ∷ [])
    after3 = e3 ∙ one_counter f2 lits ∙ ap (λ (h : Formula). with_counters h (lits ∷ [])) e2

    pub branch-vars4 : f4.vars ≡ n + counters_vars 1 (lits ∷ [])
    branch-vars4 = ap (λ (f : Formula). f.vars) e4 ∙ ap (λ (f : Formula). f.vars) after3 ∙ ap (λ (f : Formula). f.vars + counters_vars 1 (lits ∷ [])) e1

    pub branch-ends : (let end : Formula = record { vars = n + counters_vars 1 (lits ∷ []); clauses = f.clauses ++ branch-all } in with_clauses f4 C ≡ end)
    branch-ends =
        ap (λ (h : Formula). with_clauses h C) e4
        ∙ ap (λ (h : Formula). with_clauses (with_clauses h W) C) after3
        ∙ ap (λ (h : Formula). with_clauses (with_clauses (with_counters (with_clauses h (lits ∷ [])) (lits ∷ [])) W) C) e1
        ∙ formula (n + counters_vars 1 (lits ∷ [])) (n + counters_vars 1 (lits ∷ [])) ((((f.clauses ++ lits ∷ []) ++ counters n 1 (lits ∷ [])) ++ W) ++ C) (f.clauses ++ branch-all) refl
        (ap (λ (cs : List (List Lit)). (cs ++ W) ++ C) (append_assoc f.clauses (lits ∷ []) (counters n 1 (lits ∷ [])))
        ∙ ap (λ (cs : List (List Lit)). cs ++ C) (append_assoc f.clauses ((lits ∷ []) ++ counters n 1 (lits ∷ [])) W)
        ∙ append_assoc f.clauses ((lits ∷ []) ++ counters n 1 (lits ∷ []) ++ W) C)

-- the formula with a guard's branch, where there is a guard
module _ (g : LaunchGraph) (k : ℕ) (xs : List (ℕ × Launch)) (f : Formula) where
  abbrev lits : List Lit
  lits = vars_of (launches g is_branch) xs

  module _ (cycles : List ℕ) (n : ℕ) where
    abbrev pub came : List (ℕ × ℕ)
    came = numbered f.vars cycles

    abbrev guard_by : Bool → Formula
    guard_by b = record {
      vars = n + counters_vars 1 (when b (lits ∷ []));
      clauses = f.clauses ++ (when b (lits ∷ [])
          ++ counters n 1 (when b (lits ∷ []))
          ++ when b (implied xs (comes_after g came))
          ++ when b (implied came (λ t. vars_of (branches_by g t) xs ∷ [])));
    }

  abbrev pub with_branch : ℕ → ℕ → List Lit → Formula
  with_branch first n ls = record {
    vars = n + counters_vars 1 (ls ∷ []);
    clauses = f.clauses ++ ((ls ∷ [])
        ++ counters n 1 (ls ∷ [])
        ++ implied xs (comes_after g (numbered first (range_with_len 0 k)))
        ++ implied (numbered first (range_with_len 0 k)) (λ t. vars_of (branches_by g t) xs ∷ []));
  }

  pub guard-by-numbers : (first n : ℕ) (ls : List Lit) → is_some g.guard ≡ true → first ≡ f.vars → n ≡ f.vars + k → ls ≡ lits → with_branch first n ls ≡ formula_with_guard g k xs f
  guard-by-numbers first n ls t ef en el =
      ap (with_branch first n) el
      ∙ ap (λ m. with_branch m n lits) ef
      ∙ ap (λ m. with_branch f.vars m lits) (en ∙ ap (λ m. f.vars + m) (sym (length-range_with_len 0 k)))
      ∙ ap (λ b. guard_by (when b (range_with_len 0 k)) (f.vars + length (when b (range_with_len 0 k))) b) (sym t)

-- registers: a family, and a counter up to the number of registers
module _ (lits : List Lit) (T : List (List Lit)) (p q n : ℕ) (f f1 f2 : Formula) (e1 : f1 ≡ record f { vars = n }) (same_vars : at_most_vars q (length lits) ≡ at_most_vars p (length lits)) (same_clauses : (old : ℕ) → at_most_clauses old q lits ≡ at_most_clauses old p lits) where
  module _ (size : (old p : ℕ) (lits : List Lit) → length (at_most_clauses old p lits) ≡ at_most_size p (length lits)) (few : length (f.clauses ++ (T ++ counters n p (lits ∷ []))) ≤ most_clauses) where
    pool-total : length f.clauses + length T + at_most_size p (length lits) ≤ most_clauses
    pool-total =
        let a = length-append f.clauses (T ++ counters n p (lits ∷ [])) in
        let b = length-append T (counters n p (lits ∷ [])) in
        let s = counters-size p size n (lits ∷ []) in
        let t = sum_by-cons (λ (c : List Lit). at_most_size p (length c)) lits [] in
        let z : counters_size p [] ≡ 0 = refl in
        omega arith

    pub pool-room1 : length f1.clauses + length T < 2 ^ 30
    pool-room1 = (let a = pool-total in let b = ap (λ (f : Formula). length f.clauses) e1 in omega arith)

    pub pool-room2 : f2 ≡ with_clauses f1 T → length f2.clauses + at_most_size q (length lits) < 2 ^ 30
    pool-room2 e2 =
        let a = pool-total in
        let b = ap (λ (f : Formula). length f.clauses) e1 in
        let c = ap (λ (f : Formula). length f.clauses) e2 ∙ length-append f1.clauses T in
        let s : at_most_size q (length lits) ≡ at_most_size p (length lits) = sym (size n q lits) ∙ ap (λ (cs : List (List Lit)). length cs) (same_clauses n) ∙ size n p lits in
        omega arith

  pub pool-vars2 : f2 ≡ with_clauses f1 T → f2.vars ≡ n
  pool-vars2 e2 = ap (λ (f : Formula). f.vars) e2 ∙ ap (λ (f : Formula). f.vars) e1

  pub pool-limit : f2 ≡ with_clauses f1 T → n + counters_vars p (lits ∷ []) ≤ most_vars → f2.vars + at_most_vars q (length lits) < 2 ^ 29
  pool-limit e2 le =
      let a = pool-vars2 e2 in
      let b = sum_by-cons (λ (c : List Lit). at_most_vars p (length c)) lits [] in
      let z : counters_vars p [] ≡ 0 = refl in
      omega (arith, a, b, z, same_vars)

  pub pool-ends : (e2 : f2 ≡ with_clauses f1 T) → (let before : Formula = record { vars = f2.vars + at_most_vars q (length lits); clauses = f2.clauses ++ at_most_clauses f2.vars q lits } in let end : Formula = record { vars = n + counters_vars p (lits ∷ []); clauses = f.clauses ++ (T ++ counters n p (lits ∷ [])) } in before ≡ end)
  pool-ends e2 =
      formula (f2.vars + at_most_vars q (length lits)) (n + counters_vars p (lits ∷ [])) (f2.clauses ++ at_most_clauses f2.vars q lits) (f.clauses ++ (T ++ counters n p (lits ∷ [])))
      (let a = pool-vars2 e2 in let b = sum_by-cons (λ (c : List Lit). at_most_vars p (length c)) lits [] in let z : counters_vars p [] ≡ 0 = refl in omega (arith, a, b, z, same_vars))
      (ap (λ m. f2.clauses ++ at_most_clauses m q lits) (pool-vars2 e2)
      ∙ ap (λ (cs : List (List Lit)). f2.clauses ++ cs) (same_clauses n ∙ sym (append-nil (at_most_clauses n p lits)))
      ∙ ap (λ (h : Formula). h.clauses ++ counters n p (lits ∷ [])) e2
      ∙ ap (λ (h : Formula). (h.clauses ++ T) ++ counters n p (lits ∷ [])) e1
      ∙ append_assoc f.clauses T (counters n p (lits ∷ [])))

abbrev pub the_formula : ℕ → List (List Lit) → Formula
the_formula n cs = record { vars = n; clauses = cs }

-- the formula with registers
module _ (g : LaunchGraph) (k : ℕ) (xs : List (ℕ × Launch)) (f : Formula) (table : Table) where
  abbrev pub with_registers : ℕ → ℕ → Formula
  with_registers first n = record {
    vars = n + counters_vars (length g.pool) (vars_of any (numbered first (all_taken table k)) ∷ []);
    clauses = f.clauses ++ (pool_clauses g xs (numbered first (all_taken table k))
        ++ counters n (length g.pool) (vars_of any (numbered first (all_taken table k)) ∷ []));
  }

  pub pool-by-numbers : (first n : ℕ) → first ≡ f.vars → n ≡ f.vars + length (all_taken table k) → with_registers first n ≡ formula_with_registers g k xs f table
  pool-by-numbers first n ef en = ap (λ x. with_registers x n) ef ∙ ap (with_registers f.vars) en

pub has_guard : (g h : LaunchGraph) (none : Bool) → h ≡ g → is_some h.guard ≡ not none → none ≡ false → is_some g.guard ≡ true
has_guard g h none e s n = ap (λ (x : LaunchGraph). is_some x.guard) (sym e) ∙ s ∙ ap not n

pub no_guard : (g h : LaunchGraph) (none : Bool) → h ≡ g → is_some h.guard ≡ not none → none ≡ true → is_some g.guard ≡ false
no_guard g h none e s n = ap (λ (x : LaunchGraph). is_some x.guard) (sym e) ∙ s ∙ ap not n

-- pins: two families, counters between them, and two last families
module _ (O P T A G : List (List Lit)) (f f1 f2 f3 f4 : Formula) where
  abbrev pub pins-all : List (List Lit)
  pins-all = O ++ counters f.vars 1 G ++ P ++ T ++ A

  module _ (size : (old p : ℕ) (lits : List Lit) → length (at_most_clauses old p lits) ≡ at_most_size p (length lits)) (few : length (f.clauses ++ pins-all) ≤ most_clauses) where
    pins-total : length f.clauses + length O + counters_size 1 G + length P + length T + length A ≤ most_clauses
    pins-total =
        let a = length-append f.clauses pins-all in
        let b = length-append (O ++ counters f.vars 1 G ++ P ++ T) A in
        let c = length-append (O ++ counters f.vars 1 G ++ P) T in
        let d = length-append (O ++ counters f.vars 1 G) P in
        let e = length-append O (counters f.vars 1 G) in
        let s = counters-size 1 size f.vars G in
        omega arith

    pub pins-room1 : length f.clauses + length O < 2 ^ 30
    pins-room1 = (let a = pins-total in omega arith)

    module _ (e1 : f1 ≡ with_clauses f O) where
      pins-size1 : length f1.clauses ≡ length f.clauses + length O
      pins-size1 = ap (λ (f : Formula). length f.clauses) e1 ∙ length-append f.clauses O

      pub pins-room2 : length f1.clauses + counters_size 1 G < 2 ^ 30
      pins-room2 = (let a = pins-total in let b = pins-size1 in omega arith)

      module _ (e2 : f2 ≡ with_counters f1 G) where
        pins-size2 : length f2.clauses ≡ length f.clauses + length O + counters_size 1 G
        pins-size2 =
            let a = ap (λ (f : Formula). length f.clauses) e2 ∙ length-append f1.clauses (counters f1.vars 1 G) in
            let b = pins-size1 in
            let c = counters-size 1 size f1.vars G in
            omega arith

        pub pins-room3 : length f2.clauses + length P < 2 ^ 30
        pins-room3 = (let a = pins-total in let b = pins-size2 in omega arith)

        module _ (e3 : f3 ≡ with_clauses f2 P) where
          pins-size3 : length f3.clauses ≡ length f.clauses + length O + counters_size 1 G + length P
          pins-size3 = (let b = pins-size2 in let c = ap (λ (f : Formula). length f.clauses) e3 ∙ length-append f2.clauses P in omega arith)

          pub pins-room4 : length f3.clauses + length T < 2 ^ 30
          pins-room4 = (let a = pins-total in let b = pins-size3 in omega arith)

          pub pins-room5 : f4 ≡ with_clauses f3 T → length f4.clauses + length A < 2 ^ 30
          pins-room5 e4 =
              let a = pins-total in
              let b = pins-size3 in
              let c = ap (λ (f : Formula). length f.clauses) e4 ∙ length-append f3.clauses T in
              omega arith

  module _ (e1 : f1 ≡ with_clauses f O) where
    pub pins-vars1 : f1.vars ≡ f.vars
    pins-vars1 = ap (λ (f : Formula). f.vars) e1

    module _ (e2 : f2 ≡ with_counters f1 G) where
      pub pins-vars2 : f2.vars ≡ f.vars + counters_vars 1 G
      pins-vars2 = ap (λ (f : Formula). f.vars) e2 ∙ ap (λ n. n + counters_vars 1 G) pins-vars1

      module _ (e3 : f3 ≡ with_clauses f2 P) where
        pub pins-vars3 : f3.vars ≡ f.vars + counters_vars 1 G
        pins-vars3 = ap (λ (f : Formula). f.vars) e3 ∙ pins-vars2

        module _ (e4 : f4 ≡ with_clauses f3 T) where
          pub pins-vars4 : f4.vars ≡ f.vars + counters_vars 1 G
          pins-vars4 = ap (λ (f : Formula). f.vars) e4 ∙ pins-vars3

          pub pins-end : (let end : Formula = record { vars = f.vars + counters_vars 1 G; clauses = f.clauses ++ pins-all } in with_clauses f4 A ≡ end)
          pins-end =
              ap (λ (h : Formula). with_clauses h A) e4
              ∙ ap (λ (h : Formula). with_clauses (with_clauses h T) A) e3
              ∙ ap (λ (h : Formula). with_clauses (with_clauses (with_clauses h P) T) A) e2
              ∙ ap (λ (h : Formula). with_clauses (with_clauses (with_clauses (with_counters h G) P) T) A) e1
              ∙ formula (f.vars + counters_vars 1 G) (f.vars + counters_vars 1 G) (((((f.clauses ++ O) ++ counters f.vars 1 G) ++ P) ++ T) ++ A) (f.clauses ++ pins-all) refl
              (ap (λ (cs : List (List Lit)). ((cs ++ P) ++ T) ++ A) (append_assoc f.clauses O (counters f.vars 1 G))
              ∙ ap (λ (cs : List (List Lit)). (cs ++ T) ++ A) (append_assoc f.clauses (O ++ counters f.vars 1 G) P)
              ∙ ap (λ (cs : List (List Lit)). cs ++ A) (append_assoc f.clauses (O ++ counters f.vars 1 G ++ P) T)
              ∙ append_assoc f.clauses (O ++ counters f.vars 1 G ++ P ++ T) A)
