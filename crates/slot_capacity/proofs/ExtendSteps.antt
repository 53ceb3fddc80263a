-- The clause that a launch adds, and the formula that comes of all clauses of capacity with the room that each family
-- takes.
use Rattle.std.proofs.Common.{◌≡◌, ℕ, ◌+◌, ◌<◌, ◌≤◌, ◌^◌, Bool, true, false, List, [], ◌∷◌, ◌++◌, length, refl, sym, ap, ◌∙◌, subst, arith, append_assoc, length-append, Option, Some, None}
use Rattle.std.specs.Prelude.{◌&&◌, nat_le}
use Rattle.std.specs.Option.{option_map_or}
use Rattle.std.proofs.lemmas.Bool.{and_right, lt-leb}
use Rattle.cnf_core.specs.declared.literal.Lit.{Lit}
use Rattle.cnf_core.specs.Formula.{Formula}
use Rattle.graph_meaning.specs.declared.graphs.LaunchGraph.{LaunchGraph}
use Rattle.schedule_meaning.specs.Launches.{class_at}
use Rattle.schedule_meaning.specs.declared.schedules.Launch.{Launch}
use Rattle.cycle_encoding.specs.Limits.{most_clauses}
use Rattle.cycle_encoding.specs.Shapes.{negative, numbered, vars_of, when}
use Rattle.cycle_encoding.specs.Steps.{of_thing, with_clauses}
use Rattle.cycle_encoding.proofs.Adding.{with-none}
use Rattle.cycle_encoding.proofs.Rows.{formula}
use Rattle.slot_capacity.specs.CapacityClauses.{Launched, all_launched, end_clauses, is_launched_at, last_counted, limit_counters, limit_vars, made_clauses, makes_by, makes_counted, stay_clauses, with_capacity}
use Rattle.slot_capacity.specs.declared.limits.Capacity.{Capacity}
use Rattle.slot_capacity.specs.declared.limits.Limit.{Limit}
use Rattle.slot_capacity.specs.Makers.{makes_own}
use Rattle.slot_capacity.specs.declared.deadlines.Deadline.{Deadline}

-- ---- one launch

module _ (g : LaunchGraph) (counted : List Deadline) (ps : List (ℕ × Launched)) (l : Launch) (var : ℕ) (f : Formula)
  where
    abbrev lits : List Lit
    lits = vars_of (is_launched_at (class_at g l.row) l.cycle) ps

    abbrev by : Bool → Formula
    by b = with_clauses f (of_thing var (when b (lits ∷ [])))

    pub make-none : makes_by g counted l.row l.cycle ≡ false
        → f ≡ with_clauses f (of_thing var (makes_counted g counted ps l))
    make-none e = with-none f ∙ ap by (sym e)

    pub make-one : makes_by g counted l.row l.cycle ≡ true → (ls : List Lit) → ls ≡ lits → (new : Formula)
        → new ≡ with_clauses f ((negative var ∷ ls) ∷ []) → new
        ≡ with_clauses f (of_thing var (makes_counted g counted ps l))
    make-one e ls el new h =
        h ∙ ap (λ (ls : List Lit). with_clauses f ((negative var ∷ ls) ∷ [])) el ∙ ap by (sym e)

    pub make-room : makes_by g counted l.row l.cycle ≡ true
        → length f.clauses + length (makes_counted g counted ps l) < 2 ^ 30 → length f.clauses < 2 ^ 30
    make-room e room = omega arith

-- ---- whether a launch makes a counted class by its last cycle

module _ (g : LaunchGraph) (counted : List Deadline) (row cycle : ℕ) where
  abbrev made_by : Option ℕ → Bool
  made_by o = makes_own g row && option_map_or (λ last. nat_le cycle last) o false

  pub by-none : last_counted counted (class_at g row) ≡ None → false ≡ makes_by g counted row cycle
  by-none e = sym (ap made_by e ∙ and_right (makes_own g row) false refl)

  pub by-late : (last : ℕ) → last_counted counted (class_at g row) ≡ Some last → last < cycle
      → false ≡ makes_by g counted row cycle
  by-late last e lt = sym (ap made_by e ∙ and_right (makes_own g row) (nat_le cycle last) (lt-leb cycle last lt))

-- ---- all families

module _ (M S E L : List (List Lit)) (n : ℕ) (f f1 f2 f3 f4 : Formula) (e1 : f1 ≡ record f { vars = n }) where
  abbrev pub all : List (List Lit)
  all = M ++ S ++ E ++ L

  module _ (few : length (f.clauses ++ all) ≤ most_clauses) where
    total : length f.clauses + length M + length S + length E + length L ≤ most_clauses
    total =
        let a = length-append f.clauses all in
        let b = length-append (M ++ S ++ E) L in
        let c = length-append (M ++ S) E in
        let d = length-append M S in
        omega arith

    size1 : length f1.clauses ≡ length f.clauses
    size1 = ap (λ (f : Formula). length f.clauses) e1

    pub room1 : length f1.clauses + length M < 2 ^ 30
    room1 = (let a = total in let b = size1 in omega arith)

    module _ (e2 : f2 ≡ with_clauses f1 M) where
      size2 : length f2.clauses ≡ length f.clauses + length M
      size2 =
          let a = ap (λ (f : Formula). length f.clauses) e2 ∙ length-append f1.clauses M in
          let b = size1 in
          omega arith

      pub room2 : length f2.clauses + length S < 2 ^ 30
      room2 = (let a = total in let b = size2 in omega arith)

      module _ (e3 : f3 ≡ with_clauses f2 S) where
        size3 : length f3.clauses ≡ length f.clauses + length M + length S
        size3 =
            let a = ap (λ (f : Formula). length f.clauses) e3 ∙ length-append f2.clauses S in
            let b = size2 in
            omega arith

        pub room3 : length f3.clauses + length E < 2 ^ 30
        room3 = (let a = total in let b = size3 in omega arith)

        pub room4 : f4 ≡ with_clauses f3 E → length f4.clauses + length L < 2 ^ 30
        room4 e4 =
            let a = ap (λ (f : Formula). length f.clauses) e4 ∙ length-append f3.clauses E in
            let b = size3 in
            let t = total in
            omega arith

  module _ (e2 : f2 ≡ with_clauses f1 M) (e3 : f3 ≡ with_clauses f2 S) where
    pub vars3 : f3.vars ≡ n
    vars3 =
        ap (λ (f : Formula). f.vars) e3 ∙ ap (λ (f : Formula). f.vars) e2 ∙ ap (λ (f : Formula). f.vars) e1

    module _ (e4 : f4 ≡ with_clauses f3 E) where
      pub vars4 : f4.vars ≡ n
      vars4 = ap (λ (f : Formula). f.vars) e4 ∙ vars3

      clauses4 : f4.clauses ≡ f.clauses ++ M ++ S ++ E
      clauses4 =
          ap (λ (f : Formula). f.clauses) e4
          ∙ ap (λ (f : Formula). f.clauses ++ E) e3
          ∙ ap (λ (f : Formula). f.clauses ++ S ++ E) e2
          ∙ ap (λ (f : Formula). f.clauses ++ M ++ S ++ E) e1

      -- with the counters of limits, which stand behind the variable f4.vars
      pub extended : (counters : ℕ → List (List Lit)) (vars : ℕ) → counters n ≡ L
          → (let end : Formula = record { vars = f4.vars + vars; clauses = f4.clauses ++ counters f4.vars } in
          let is : Formula = record { vars = n + vars; clauses = f.clauses ++ all } in
          end ≡ is)
      extended counters vars e =
          formula (f4.vars + vars) (n + vars) (f4.clauses ++ counters f4.vars) (f.clauses ++ all)
          (ap (λ m. m + vars) vars4)
          (ap (λ m. f4.clauses ++ counters m) vars4
          ∙ ap (λ (cs : List (List Lit)). cs ++ counters n) clauses4
          ∙ ap (λ (cs : List (List Lit)). (f.clauses ++ M ++ S ++ E) ++ cs) e
          ∙ ap (λ (cs : List (List Lit)). (cs ++ E) ++ L) (append_assoc f.clauses M S)
          ∙ ap (λ (cs : List (List Lit)). cs ++ L) (append_assoc f.clauses (M ++ S) E)
          ∙ append_assoc f.clauses (M ++ S ++ E) L)

-- ---- the clauses of capacity, by the numbers and lists that the code has

module _ (g : LaunchGraph) (xs : List (ℕ × Launch)) (f : Formula) where
  abbrev pub things : ℕ → List Deadline → List (ℕ × Launched)
  things first counted = numbered first (all_launched counted)

  abbrev pub made_of : ℕ → List Deadline → List (List Lit)
  made_of first counted = made_clauses g counted xs (things first counted)

  abbrev pub stay_of : ℕ → List Deadline → List (List Lit)
  stay_of first counted = stay_clauses counted (things first counted)

  abbrev pub end_of : ℕ → List Deadline → List (List Lit)
  end_of first counted = end_clauses counted (things first counted)

  abbrev pub limits_of : ℕ → List Deadline → List Limit → List (List Lit)
  limits_of first counted limits =
      limit_counters (f.vars + length (all_launched counted)) (things first counted) limits

  abbrev pub built : ℕ → List Deadline → List Limit → Formula
  built first counted limits = record {
    vars = f.vars + length (all_launched counted) + limit_vars (things first counted) limits;
    clauses = f.clauses
        ++ (made_of first counted ++ stay_of first counted ++ end_of first counted ++ limits_of first counted limits);
  }

  pub by-numbers : (c : Capacity) (first : ℕ) (counted : List Deadline) (limits : List Limit) → first ≡ f.vars
      → counted ≡ c.counted → limits ≡ c.limits → built first counted limits ≡ with_capacity g c xs f
  by-numbers c first counted limits ef ec el =
      ap (λ n. built n counted limits) ef
      ∙ ap (λ (xs : List Deadline). built f.vars xs limits) ec
      ∙ ap (built f.vars c.counted) el

  module _ (c : Capacity) (first : ℕ) (counted : List Deadline) (limits : List Limit) (ef : first ≡ f.vars)
      (ec : counted ≡ c.counted) (el : limits ≡ c.limits)
      (few : length (with_capacity g c xs f).clauses ≤ most_clauses) where
    few_here : length (built first counted limits).clauses ≤ most_clauses
    few_here =
        subst (λ (h : Formula). length h.clauses ≤ most_clauses) (sym (by-numbers c first counted limits ef ec el)) few

    module _ (f1 : Formula) (e1 : f1 ≡ record f { vars = f.vars + length (all_launched counted) }) where
      abbrev n : ℕ
      n = f.vars + length (all_launched counted)

      pub made-room : length f1.clauses + length (made_of first counted) < 2 ^ 30
      made-room =
          room1 (made_of first counted) (stay_of first counted) (end_of first counted)
          (limits_of first counted limits) n f f1
          f1 f1 f1 e1 few_here

      module _ (f2 : Formula) (e2 : f2 ≡ with_clauses f1 (made_of first counted)) where
        pub stay-room : length f2.clauses + length (stay_of first counted) < 2 ^ 30
        stay-room =
            room2 (made_of first counted) (stay_of first counted) (end_of first counted)
            (limits_of first counted limits) n f
            f1 f2 f2 f2 e1 few_here e2

        module _ (f3 : Formula) (e3 : f3 ≡ with_clauses f2 (stay_of first counted)) where
          pub end-room : length f3.clauses + length (end_of first counted) < 2 ^ 30
          end-room =
              room3 (made_of first counted) (stay_of first counted) (end_of first counted)
              (limits_of first counted limits) n
              f f1 f2 f3 f3 e1 few_here e2 e3

          module _ (f4 : Formula) (e4 : f4 ≡ with_clauses f3 (end_of first counted)) where
            pub vars-before : f4.vars ≡ n
            vars-before =
                vars4 (made_of first counted) (stay_of first counted) (end_of first counted)
                (limits_of first counted limits) n f f1 f2 f3 f4 e1 e2 e3 e4

            pub limits-room : length f4.clauses + length (limit_counters f4.vars (things first counted) limits) < 2 ^ 30
            limits-room =
                let room =
                room4 (made_of first counted) (stay_of first counted) (end_of first counted)
                (limits_of first counted limits) n f f1 f2 f3 f4 e1 few_here e2 e3 e4 in
                let same = ap (λ v. length (limit_counters v (things first counted) limits)) vars-before in
                omega arith

            pub whole : (new : Formula)
                → new ≡ record {
                  vars = f4.vars + limit_vars (things first counted) limits;
                  clauses = f4.clauses ++ limit_counters f4.vars (things first counted) limits;
                } → new ≡ with_capacity g c xs f
            whole new e =
                e
                ∙ extended (made_of first counted) (stay_of first counted) (end_of first counted)
                (limits_of first counted limits) n f f1 f2 f3 f4 e1 e2 e3 e4
                (λ v. limit_counters v (things first counted) limits) (limit_vars (things first counted) limits) refl
                ∙ by-numbers c first counted limits ef ec el
