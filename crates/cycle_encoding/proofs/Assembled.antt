-- The families of one formula, by the variables that they are given, and the room that each takes.
use Rattle.std.proofs.Common.{◌≡◌, ℕ, ◌+◌, ◌<◌, ◌≤◌, ◌^◌, List, ◌++◌, [], length, sym, ap, ◌∙◌, subst, arith, length-append}
use Rattle.cycle_encoding.specs.Limits.{most_vars, most_clauses}
use Rattle.cnf_core.specs.declared.literal.Lit.{Lit}
use Rattle.cnf_core.specs.Formula.{Formula}
use Rattle.machine_table.specs.declared.tables.Table.{Table}
use Rattle.graph_meaning.specs.declared.graphs.LaunchGraph.{LaunchGraph}
use Rattle.schedule_meaning.specs.declared.schedules.Allocation.{Allocation}
use Rattle.schedule_meaning.specs.declared.schedules.Launch.{Launch}
use Rattle.cycle_encoding.specs.Shapes.{numbered, counters, counters_vars, counters_size}
use Rattle.cycle_encoding.specs.Variables.{Seen}
use Rattle.cycle_encoding.specs.Families.{seen_clauses, slot_rows, slot_groups}
use Rattle.cycle_encoding.specs.CycleFormula.{Listed}
use Rattle.cycle_encoding.specs.Variables.{Overwritten, all_overwritten}
use Rattle.cycle_encoding.specs.Families.{target_clauses, operand_clauses}
use Rattle.cycle_encoding.specs.CycleFormula.{before_counters, cycle_formula}
use Rattle.cycle_encoding.specs.Steps.{with_clauses}
use Rattle.cycle_encoding.proofs.Rows.{with_counters}
use Rattle.cycle_encoding.proofs.Built.{room_of_sights, room_of_slots, built}

module _ (g : LaunchGraph) (table : Table) (allocation : Allocation) (k : ℕ) (ls : List Launch) (ds : List Seen) where
  abbrev pub list : Listed
  list = record { allocation = allocation; launches = ls; seen = ds }

  abbrev n : ℕ
  n = before_counters g table k list

  abbrev xs : List (ℕ × Launch)
  xs = numbered 0 ls

  abbrev vs : List (ℕ × Overwritten)
  vs = numbered (length ls + length ds) (all_overwritten g k)

  abbrev T : List (List Lit)
  T = target_clauses g k xs vs

  abbrev O : List (List Lit)
  O = operand_clauses g table xs (numbered (length ls) ds) vs

  abbrev S : List (List Lit)
  S = seen_clauses g table xs (numbered (length ls) ds)

  abbrev groups : List (List Lit)
  groups = slot_groups table k xs

  abbrev C : List (List Lit)
  C = counters n 1 groups

  module _ (first next cycles : ℕ) (ef : first ≡ length ls) (en : next ≡ length ls + length ds) (ec : cycles ≡ k) where
    vs_are : numbered next (all_overwritten g cycles) ≡ vs
    vs_are = ap (λ (m : ℕ). numbered m (all_overwritten g cycles)) en ∙ ap (λ (j : ℕ). numbered (length ls + length ds) (all_overwritten g j)) ec

    targets-are : target_clauses g cycles xs (numbered next (all_overwritten g cycles)) ≡ T
    targets-are = ap (λ (j : ℕ). target_clauses g j xs (numbered next (all_overwritten g cycles))) ec ∙ ap (λ (ps : List (ℕ × Overwritten)). target_clauses g k xs ps) vs_are

    operands-are : operand_clauses g table xs (numbered first ds) (numbered next (all_overwritten g cycles)) ≡ O
    operands-are =
        ap (λ (m : ℕ). operand_clauses g table xs (numbered m ds) (numbered next (all_overwritten g cycles))) ef
        ∙ ap (λ (ps : List (ℕ × Overwritten)). operand_clauses g table xs (numbered (length ls) ds) ps) vs_are

    seen-are : seen_clauses g table xs (numbered first ds) ≡ S
    seen-are = ap (λ (m : ℕ). seen_clauses g table xs (numbered m ds)) ef

    module _ (f0 : Formula) (e0 : f0 ≡ record { vars = n; clauses = [] }) (le : length (cycle_formula g table k list).clauses ≤ most_clauses) where
      size0 : length f0.clauses ≡ 0
      size0 = ap (λ (f : Formula). length f.clauses) e0

      total : length (T ++ O ++ S ++ C) ≡ length T + length O + length S + length C
      total =
          let a = length-append (T ++ O ++ S) C in
          let b = length-append (T ++ O) S in
          let c = length-append T O in
          omega arith

      pub targets-room : length f0.clauses + length (target_clauses g cycles xs (numbered next (all_overwritten g cycles))) < 2 ^ 30
      targets-room =
          let a = size0 in
          let b = total in
          let c = ap (λ (cs : List (List Lit)). length cs) targets-are in
          omega arith

      module _ (f1 : Formula) (e1 : f1 ≡ with_clauses f0 (target_clauses g cycles xs (numbered next (all_overwritten g cycles)))) where
        own1 : f1 ≡ with_clauses f0 T
        own1 = e1 ∙ ap (with_clauses f0) targets-are

        pub operands-room : length f1.clauses + length (operand_clauses g table xs (numbered first ds) (numbered next (all_overwritten g cycles))) < 2 ^ 30
        operands-room =
            let a = size0 in
            let b = total in
            let c = ap (λ (cs : List (List Lit)). length cs) operands-are in
            let d = ap (λ (f : Formula). length f.clauses) own1 ∙ length-append f0.clauses T in
            omega arith

        module _ (f2 : Formula) (e2 : f2 ≡ with_clauses f1 (operand_clauses g table xs (numbered first ds) (numbered next (all_overwritten g cycles)))) where
          own2 : f2 ≡ with_clauses f1 O
          own2 = e2 ∙ ap (with_clauses f1) operands-are

          pub vars2 : f2.vars ≡ n
          vars2 = ap (λ (f : Formula). f.vars) own2 ∙ ap (λ (f : Formula). f.vars) own1 ∙ ap (λ (f : Formula). f.vars) e0

          pub seen-room : length f2.clauses + length (seen_clauses g table xs (numbered first ds)) < 2 ^ 30
          seen-room =
              subst (λ (s : List (List Lit)). length f2.clauses + length s < 2 ^ 30) (sym seen-are) (room_of_sights T O S groups n f0 f1 f2 f2 f2 e0 own1 own2 le)

          module _ (f3 : Formula) (e3 : f3 ≡ with_clauses f2 (seen_clauses g table xs (numbered first ds))) where
            own3 : f3 ≡ with_clauses f2 S
            own3 = e3 ∙ ap (with_clauses f2) seen-are

            pub vars3 : f3.vars ≡ n
            vars3 = ap (λ (f : Formula). f.vars) own3 ∙ vars2

            module _ (slots : ℕ) (es : slots ≡ length table.slots) where
              groups-are : slot_rows slots k xs ≡ groups
              groups-are = ap (λ (m : ℕ). slot_rows m k xs) es

              pub slots-vars : (cycle_formula g table k list).vars ≤ most_vars → f3.vars + counters_vars 1 (slot_rows slots k xs) < 2 ^ 29
              slots-vars few =
                  let a = vars3 in
                  let b = ap (λ (gs : List (List Lit)). counters_vars 1 gs) groups-are in
                  omega arith

              pub slots-room : length C ≡ counters_size 1 groups → length f3.clauses + counters_size 1 (slot_rows slots k xs) < 2 ^ 30
              slots-room size =
                  subst (λ (gs : List (List Lit)). length f3.clauses + counters_size 1 gs < 2 ^ 30) (sym groups-are) (room_of_slots T O S groups n f0 f1 f2 f3 f3 e0 own1 own2 own3 size le)

              pub all-built : (f4 : Formula) → f4 ≡ with_counters f3 (slot_rows slots k xs) → f4 ≡ cycle_formula g table k list
              all-built f4 e4 = built T O S groups n f0 f1 f2 f3 f4 e0 own1 own2 own3 (e4 ∙ ap (λ (gs : List (List Lit)). with_counters f3 gs) groups-are)
