-- Launches that keep the rules and have variables are what some values show that satisfy the clauses, where sets may have
-- pins.
use Rattle.std.proofs.Common.{◌≡◌, ℕ, ◌+◌, ◌≤◌, Bool, false, not, List, ◌++◌, length, sym, ap, ◌∙◌, subst, arith}
use Rattle.std.specs.Prelude.{Contains, ◌↔◌}
use Rattle.std.specs.List.{count_by}
use Rattle.cnf_core.specs.Formula.{Satisfies}
use Rattle.cnf_core.specs.Counter.{Extends, HasExtension}
use Rattle.machine_table.specs.declared.tables.Table.{Table}
use Rattle.graph_meaning.specs.declared.graphs.LaunchGraph.{LaunchGraph}
use Rattle.schedule_meaning.specs.declared.schedules.Allocation.{Allocation}
use Rattle.schedule_meaning.specs.declared.schedules.Launch.{Launch}
use Rattle.cycle_encoding.specs.Shapes.{shown, counters}
use Rattle.cycle_encoding.specs.Families.{is_at, seen_clauses, slot_groups}
use Rattle.cycle_encoding.specs.CycleFormula.{Listed, launch_vars, seen_vars}
use Rattle.cycle_encoding.specs.Variables.{all_overwritten, Overwritten}
use Rattle.cycle_encoding.specs.Families.{target_clauses, operand_clauses}
use Rattle.cycle_encoding.specs.CycleFormula.{overwritten_vars, before_overwritten, before_counters, after_counters, cycle_part}
use Rattle.cycle_encoding.specs.CycleRules.{KeepsCycleRules, AreShown, WasOverwritten}
use Rattle.cycle_encoding.proofs.Shown.{both}
use Rattle.cycle_encoding.proofs.Unshown.{flip, hidden}
use Rattle.cycle_encoding.proofs.Blocks.{AreExact, chosen, chosen-extends, chosen-shown, chosen-hidden, shown-extends, counters-in, counters-over, stays}
use Rattle.cycle_encoding.proofs.CycleSays.{seen-in}
use Rattle.cycle_encoding.proofs.Says.{SaysPinnedCycles, targets-in, operands-in}
use Rattle.cycle_encoding.proofs.Reading.{counted-before, counted-few}
use Rattle.cycle_encoding.proofs.Complete.{ServesPins, among, seen_now, over_now, launched, seen, over, not_over, launched-out, launched-in, slots-few, pinned_cycles, over-exact}

-- the numbers of variables rise from part to part
module _ (g : LaunchGraph) (table : Table) (k : ℕ) (e : Listed) where
  launches-first : 0 + length e.launches ≤ length e.launches
  launches-first = omega arith

  launches-seen : 0 + length e.launches ≤ before_overwritten e
  launches-seen = omega arith

  seen-itself : length e.launches + length e.seen ≤ before_overwritten e
  seen-itself = omega arith

  launches-slots : 0 + length e.launches ≤ before_counters g table k e
  launches-slots = omega arith

  launches-last : 0 + length e.launches ≤ after_counters g table k e
  launches-last = omega arith

  seen-slots : length e.launches + length e.seen ≤ before_counters g table k e
  seen-slots = omega arith

  seen-last : length e.launches + length e.seen ≤ after_counters g table k e
  seen-last = omega arith

  over-slots : before_overwritten e + length (all_overwritten g k) ≤ before_counters g table k e
  over-slots = omega arith

  over-last : before_overwritten e + length (all_overwritten g k) ≤ after_counters g table k e
  over-last = omega arith

  slots-itself : before_counters g table k e ≤ before_counters g table k e
  slots-itself = omega arith

flips : (m : ℕ) (v w : ℕ → Bool) → Extends m v w → Extends m (flip v) (flip w)
flips m v w e x l = ap not (e x l)

-- values for launches, for what is seen and for what is overwritten, and the counters that they satisfy
record Made (g : LaunchGraph) (table : Table) (k : ℕ) (ls : List Launch) (e : Listed) : Type 0 where
  values : ℕ → Bool
  launched_is : shown values (launch_vars e) ≡ launched g table k ls e
  seen_is : shown values (seen_vars e) ≡ seen g table k ls e
  over_is : shown values (overwritten_vars g table k e) ≡ over g table k ls e
  not_over_is : hidden values (overwritten_vars g table k e) ≡ not_over g table k ls e
  slots : Satisfies values (counters (before_counters g table k e) 1 (slot_groups table k (launch_vars e)))

module _ (exact : AreExact) (g : LaunchGraph) (table : Table) (k : ℕ) (e : Listed) (ls : List Launch) {allocation : Allocation}
    (serves : ServesPins g table allocation k e ls) (rules : KeepsCycleRules g table allocation k ls) where
  made : Made g table k ls e
  made =
      let n1 = length e.launches in
      let m2 = before_overwritten e in
      let n2 = before_counters g table k e in
      let v1 : ℕ → Bool = chosen (among ls) 0 e.launches (λ x. false) in
      let s1 : shown v1 (launch_vars e) ≡ launched g table k ls e = chosen-shown (among ls) 0 e.launches (λ x. false) in
      let v2 : ℕ → Bool = chosen (seen_now g table k ls e) n1 e.seen v1 in
      let s2 : shown v2 (seen_vars e) ≡ seen g table k ls e = chosen-shown (seen_now g table k ls e) n1 e.seen v1 in
      let x12 : Extends n1 v1 v2 = chosen-extends (seen_now g table k ls e) n1 e.seen v1 in
      let u2 : ℕ → Bool = chosen (over_now g table k ls e) m2 (all_overwritten g k) v2 in
      let x2u : Extends m2 v2 u2 = chosen-extends (over_now g table k ls e) m2 (all_overwritten g k) v2 in
      let o2 : shown u2 (overwritten_vars g table k e) ≡ over g table k ls e = chosen-shown (over_now g table k ls e) m2 (all_overwritten g k) v2 in
      let h2 : hidden u2 (overwritten_vars g table k e) ≡ not_over g table k ls e = chosen-hidden (over_now g table k ls e) m2 (all_overwritten g k) v2 in
      let su : shown u2 (seen_vars e) ≡ seen g table k ls e = shown-extends v2 u2 n1 m2 e.seen (seen-itself g table k e) x2u ∙ s2 in
      let b2 : shown v2 (launch_vars e) ≡ launched g table k ls e = shown-extends v1 v2 0 n1 e.launches (launches-first g table k e) x12 ∙ s1 in
      let a2 : shown u2 (launch_vars e) ≡ launched g table k ls e = shown-extends v2 u2 0 m2 e.launches (launches-seen g table k e) x2u ∙ b2 in
      let c4 = counted-few g table k e u2 (λ s t. subst (λ S. count_by (is_at s t) S ≤ 1) (sym a2) (slots-few g table k ls e serves rules s t)) in
      let h3 : HasExtension n2 u2 (counters n2 1 (slot_groups table k (launch_vars e))) = counters-in exact 1 n2 n2 u2 (slot_groups table k (launch_vars e)) (slots-itself g table k e) (counted-before g table k e) c4 in
      let v3 : ℕ → Bool = h3.0 in
      let x23 : Extends n2 u2 v3 = h3.1 in
      record {
        values = v3;
        launched_is = shown-extends u2 v3 0 n2 e.launches (launches-slots g table k e) x23 ∙ a2;
        seen_is = shown-extends u2 v3 n1 n2 e.seen (seen-slots g table k e) x23 ∙ su;
        over_is = shown-extends u2 v3 m2 n2 (all_overwritten g k) (over-slots g table k e) x23 ∙ o2;
        not_over_is = shown-extends (flip u2) (flip v3) m2 n2 (all_overwritten g k) (over-slots g table k e) (flips n2 u2 v3 x23) ∙ h2;
        slots = h3.2;
      }

  -- the same of all values that are these up to the last variable
  module _ (m : Made g table k ls e) (w : ℕ → Bool) (x : Extends (after_counters g table k e) m.values w) where
    launched-still : shown w (launch_vars e) ≡ launched g table k ls e
    launched-still = shown-extends m.values w 0 (after_counters g table k e) e.launches (launches-last g table k e) x ∙ m.launched_is

    seen-still : shown w (seen_vars e) ≡ seen g table k ls e
    seen-still = shown-extends m.values w (length e.launches) (after_counters g table k e) e.seen (seen-last g table k e) x ∙ m.seen_is

    over-still : shown w (overwritten_vars g table k e) ≡ over g table k ls e
    over-still = shown-extends m.values w (before_overwritten e) (after_counters g table k e) (all_overwritten g k) (over-last g table k e) x ∙ m.over_is

    not_over-still : hidden w (overwritten_vars g table k e) ≡ not_over g table k ls e
    not_over-still = shown-extends (flip m.values) (flip w) (before_overwritten e) (after_counters g table k e) (all_overwritten g k) (over-last g table k e) (flips (after_counters g table k e) m.values w x) ∙ m.not_over_is

    satisfied : Satisfies w (cycle_part g table k e)
    satisfied =
        let xs = launch_vars e in
        let ds = seen_vars e in
        let vs = overwritten_vars g table k e in
        let n2 = before_counters g table k e in
        let groups = slot_groups table k xs in
        let says : SaysPinnedCycles g table k (shown w xs) (shown w ds) (hidden w vs) = subst (λ S. SaysPinnedCycles g table k S (shown w ds) (hidden w vs)) (sym launched-still) (subst (λ D. SaysPinnedCycles g table k (launched g table k ls e) D (hidden w vs)) (sym seen-still) (subst (λ H. SaysPinnedCycles g table k (launched g table k ls e) (seen g table k ls e) H) (sym not_over-still) (pinned_cycles g table k ls e serves rules))) in
        let c1 = target_clauses g k xs vs in
        let c2 = operand_clauses g table xs ds vs in
        let c3 = seen_clauses g table xs ds in
        let c4 = counters n2 1 groups in
        let p4 : Satisfies w c4 = stays (after_counters g table k e) m.values w c4 x (counters-over exact 1 n2 n2 groups (slots-itself g table k e) (counted-before g table k e)) m.slots in
        both w (c1 ++ c2 ++ c3) c4 (both w (c1 ++ c2) c3 (both w c1 c2 (targets-in g table k w xs vs says.targets) (operands-in g table k w xs vs ds says.operands)) (seen-in g table k w xs ds says.seen)) p4

    show-same : (l : Launch) → Contains (shown w (launch_vars e)) l ↔ Contains ls l
    show-same l = (
      (λ h. launched-out g table k ls e serves rules l (subst (λ S. Contains S l) launched-still h)),
      (λ h. subst (λ S. Contains S l) (sym launched-still) (launched-in g table k ls e serves rules l h)),
    )

    overwrite-same : (v : Overwritten) → Contains (shown w (overwritten_vars g table k e)) v ↔ (Contains (all_overwritten g k) v × WasOverwritten ls v)
    overwrite-same v =
        let is = over-exact g table k ls e serves rules v in (
          (λ h. is.0 (subst (λ V. Contains V v) over-still h)),
          (λ h. subst (λ V. Contains V v) (sym over-still) (is.1 h)),
        )

  pub are_pinned_shown : AreShown g table k e ls
  are_pinned_shown = record {
    values = made.values;
    satisfy = λ w x. satisfied made w x;
    show = λ w x l. show-same made w x l;
    overwrite = λ w x v. overwrite-same made w x v;
  }
