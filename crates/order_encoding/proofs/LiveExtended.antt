-- The formula that comes of the steps of registers by live ranges, and the room that each step takes.
use Rattle.std.proofs.Common.{◌≡◌, ℕ, ◌+◌, ◌<◌, ◌≤◌, ◌^◌, ◌==◌, List, ◌++◌, length, refl, ap, ◌∙◌, arith, length-append, append_assoc}
use Rattle.cycle_encoding.specs.Limits.{most_clauses}
use Rattle.cnf_core.specs.declared.literal.Lit.{Lit}
use Rattle.cnf_core.specs.Formula.{Formula}
use Rattle.cnf_core.specs.Counter.{at_most_clauses, at_most_size}
use Rattle.machine_table.specs.declared.tables.Table.{Table}
use Rattle.graph_meaning.specs.declared.graphs.LaunchGraph.{LaunchGraph}
use Rattle.schedule_meaning.specs.declared.schedules.Launch.{Launch}
use Rattle.cycle_encoding.specs.Shapes.{counters, counters_size, counters_vars, numbered, vars_of}
use Rattle.cycle_encoding.specs.Steps.{with_clauses}
use Rattle.cycle_encoding.specs.Variables.{Overwritten}
use Rattle.cycle_encoding.proofs.Adding.{added}
use Rattle.cycle_encoding.proofs.Rows.{counters-size, formula}
use Rattle.order_encoding.specs.LiveVariables.{Hold, Need, all_holds, all_needs, pooled_classes}
use Rattle.order_encoding.specs.LiveFamilies.{need_clauses, earlier_clauses, last_need_clauses, hold_clauses, hold_groups}
use Rattle.order_encoding.specs.WholeFormula.{formula_with_live_ranges}

-- what is held in a cycle
abbrev pub held_group : List (ℕ × Hold) → ℕ → List Lit
held_group hs t = vars_of (λ h. h.cycle == t) hs

-- clauses of four kinds, and a row of counters
module _ (A B C D G : List (List Lit)) (p n : ℕ) (f f1 f2 f3 f4 f5 : Formula) (e1 : f1 ≡ record f { vars = n }) where
  abbrev pub all : List (List Lit)
  all = A ++ B ++ C ++ D ++ counters n p G

  module _ (size : (old p : ℕ) (lits : List Lit) → length (at_most_clauses old p lits) ≡ at_most_size p (length lits)) (few : length (f.clauses ++ all) ≤ most_clauses) where
    total : length f.clauses + length A + length B + length C + length D + counters_size p G ≤ most_clauses
    total =
        let a = length-append f.clauses all in
        let b = length-append (A ++ B ++ C ++ D) (counters n p G) in
        let c = length-append (A ++ B ++ C) D in
        let d = length-append (A ++ B) C in
        let e = length-append A B in
        let s = counters-size p size n G in
        omega arith

    size1 : length f1.clauses ≡ length f.clauses
    size1 = ap (λ (f : Formula). length f.clauses) e1

    pub room1 : length f1.clauses + length A < 2 ^ 30
    room1 = (let a = total in let b = size1 in omega arith)

    module _ (e2 : f2 ≡ with_clauses f1 A) where
      size2 : length f2.clauses ≡ length f.clauses + length A
      size2 = (let a = ap (λ (f : Formula). length f.clauses) e2 ∙ length-append f1.clauses A in let b = size1 in omega arith)

      pub room2 : length f2.clauses + length B < 2 ^ 30
      room2 = (let a = total in let b = size2 in omega arith)

      module _ (e3 : f3 ≡ with_clauses f2 B) where
        size3 : length f3.clauses ≡ length f.clauses + length A + length B
        size3 = (let a = ap (λ (f : Formula). length f.clauses) e3 ∙ length-append f2.clauses B in let b = size2 in omega arith)

        pub room3 : length f3.clauses + length C < 2 ^ 30
        room3 = (let a = total in let b = size3 in omega arith)

        module _ (e4 : f4 ≡ with_clauses f3 C) where
          size4 : length f4.clauses ≡ length f.clauses + length A + length B + length C
          size4 = (let a = ap (λ (f : Formula). length f.clauses) e4 ∙ length-append f3.clauses C in let b = size3 in omega arith)

          pub room4 : length f4.clauses + length D < 2 ^ 30
          room4 = (let a = total in let b = size4 in omega arith)

          pub room5 : f5 ≡ with_clauses f4 D → length f5.clauses + counters_size p G < 2 ^ 30
          room5 e5 =
              let a = total in
              let b = size4 in
              let c = ap (λ (f : Formula). length f.clauses) e5 ∙ length-append f4.clauses D in
              omega arith

  -- variables
  pub vars2 : f2 ≡ with_clauses f1 A → f2.vars ≡ n
  vars2 e2 = ap (λ (f : Formula). f.vars) e2 ∙ ap (λ (f : Formula). f.vars) e1

  pub vars3 : f2 ≡ with_clauses f1 A → f3 ≡ with_clauses f2 B → f3.vars ≡ n
  vars3 e2 e3 = ap (λ (f : Formula). f.vars) e3 ∙ vars2 e2

  pub vars4 : f2 ≡ with_clauses f1 A → f3 ≡ with_clauses f2 B → f4 ≡ with_clauses f3 C → f4.vars ≡ n
  vars4 e2 e3 e4 = ap (λ (f : Formula). f.vars) e4 ∙ vars3 e2 e3

  pub vars5 : f2 ≡ with_clauses f1 A → f3 ≡ with_clauses f2 B → f4 ≡ with_clauses f3 C → f5 ≡ with_clauses f4 D → f5.vars ≡ n
  vars5 e2 e3 e4 e5 = ap (λ (f : Formula). f.vars) e5 ∙ vars4 e2 e3 e4

  module _ (e2 : f2 ≡ with_clauses f1 A) (e3 : f3 ≡ with_clauses f2 B) (e4 : f4 ≡ with_clauses f3 C) (e5 : f5 ≡ with_clauses f4 D) where
    abbrev plain : List (List Lit)
    plain = A ++ B ++ C ++ D

    after5 : f5 ≡ with_clauses f1 plain
    after5 = added f1 f4 f5 D (A ++ B ++ C) plain (added f1 f3 f4 C (A ++ B) (A ++ B ++ C) (added f1 f2 f3 B A (A ++ B) e2 e3 refl) e4 refl) e5 refl

    abbrev counting : Formula → Formula
    counting h = record { vars = h.vars + counters_vars p G; clauses = h.clauses ++ counters h.vars p G }

    pub live-ends : (let end : Formula = record { vars = n + counters_vars p G; clauses = f.clauses ++ all } in counting f5 ≡ end)
    live-ends =
        ap counting after5 ∙ ap (λ (h : Formula). counting (with_clauses h plain)) e1
        ∙ formula (n + counters_vars p G) (n + counters_vars p G) ((f.clauses ++ plain) ++ counters n p G) (f.clauses ++ all) refl (append_assoc f.clauses plain (counters n p G))

-- the formula with live ranges, by the numbers that the code has: the variables before what is needed, before what is
-- held and before counters
module _ (g : LaunchGraph) (k : ℕ) (xs : List (ℕ × Launch)) (f : Formula) (table : Table) (vs : List (ℕ × Overwritten)) where
  abbrev pub ns : ℕ → ℕ → List (ℕ × Need)
  ns j first = numbered first (all_needs j (pooled_classes g xs))

  abbrev pub hs : ℕ → List (ℕ × Hold)
  hs second = numbered second (all_holds table k)

  abbrev pub live_by : ℕ → ℕ → ℕ → Formula
  live_by first second n = record {
    vars = n + counters_vars (length g.pool) (hold_groups k (hs second));
    clauses = f.clauses ++ (need_clauses g xs (ns k first) ++ earlier_clauses (ns k first) ++ last_need_clauses g k xs (ns k first) vs ++ hold_clauses g k xs (ns k first) (hs second) ++ counters n (length g.pool) (hold_groups k (hs second)));
  }

  pub live-by-numbers : (first second n : ℕ) → first ≡ f.vars → second ≡ f.vars + length (all_needs k (pooled_classes g xs)) → n ≡ f.vars + length (all_needs k (pooled_classes g xs)) + length (all_holds table k) → live_by first second n ≡ formula_with_live_ranges g k xs f table vs
  live-by-numbers first second n a b c =
      ap (λ x. live_by x second n) a ∙ ap (λ x. live_by f.vars x n) b ∙ ap (λ x. live_by f.vars (f.vars + length (all_needs k (pooled_classes g xs))) x) c

  -- and by the cycles and by what is overwritten that the steps have
  abbrev pub live_of : ℕ → List (ℕ × Overwritten) → ℕ → ℕ → ℕ → Formula
  live_of m us first second n = record {
    vars = n + counters_vars (length g.pool) (hold_groups k (hs second));
    clauses = f.clauses ++ (need_clauses g xs (ns m first) ++ earlier_clauses (ns m first) ++ last_need_clauses g m xs (ns m first) us ++ hold_clauses g m xs (ns m first) (numbered second (all_holds table m)) ++ counters n (length g.pool) (hold_groups k (hs second)));
  }

  pub live-by-steps : (m : ℕ) (us : List (ℕ × Overwritten)) (first second n : ℕ) → m ≡ k → us ≡ vs → first ≡ f.vars → second ≡ f.vars + length (all_needs m (pooled_classes g xs)) → n ≡ f.vars + length (all_needs m (pooled_classes g xs)) + length (all_holds table m) → live_of m us first second n ≡ formula_with_live_ranges g k xs f table vs
  live-by-steps m us first second n e d a b c =
      ap (λ x. live_of x us first second n) e ∙ ap (λ x. live_of k x first second n) d
      ∙ live-by-numbers first second n a (b ∙ ap (λ x. f.vars + length (all_needs x (pooled_classes g xs))) e)
      (c ∙ ap (λ x. f.vars + length (all_needs x (pooled_classes g xs)) + length (all_holds table x)) e)
