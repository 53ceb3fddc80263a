-- Each class that a limit counts has the variable that the limit wants; and what an encoding says of due classes is
-- small.
use Rattle.std.proofs.Common.{◌≡◌, ℕ, ◌<◌, ◌≤◌, ◌^◌, min, List, [], Option, length, refl, sym, ap, ◌∙◌, subst, arith}
use Rattle.std.specs.Prelude.{◌==◌, Contains}
use Rattle.std.specs.List.{All, list_any}
use Rattle.std.proofs.lemmas.Bool.{eq-eqb}
use Rattle.std.proofs.lemmas.List.Elements.{All-nil}
use Rattle.machine_table.specs.Tables.{IsTable}
use Rattle.machine_table.specs.declared.tables.Table.{Table}
use Rattle.graph_meaning.specs.WellFormed.{IsLaunchGraph}
use Rattle.graph_meaning.specs.declared.graphs.LaunchGraph.{LaunchGraph}
use Rattle.schedule_meaning.specs.Limits.{most_cycles}
use Rattle.schedule_meaning.specs.declared.schedules.Allocation.{Allocation}
use Rattle.schedule_meaning.specs.declared.schedules.Allocation.TheVariants.{Block, Live}
use Rattle.schedule_meaning.specs.declared.schedules.Launch.{Launch}
use Rattle.cycle_encoding.specs.CycleFormula.{Scope, allocation_in, first_cycle_in, listed_in}
use Rattle.cycle_encoding.proofs.Members.{All-from_members, filter-in, nothing}
use Rattle.cycle_encoding.proofs.Tests.{some_in}
use Rattle.slot_capacity.specs.CapacityCounts.{IsSmall}
use Rattle.slot_capacity.specs.CapacitySteps.{AreApart}
use Rattle.slot_capacity.specs.Deadlines.{deadlines}
use Rattle.slot_capacity.specs.Limits.{all_limits, capacity_by, capacity_in, capacity_of, capacity_with, is_limited}
use Rattle.slot_capacity.specs.Spans.{spans_of}
use Rattle.slot_capacity.specs.declared.deadlines.Deadline.{Deadline}
use Rattle.slot_capacity.specs.declared.limits.Capacity.{Capacity}
use Rattle.slot_capacity.specs.declared.limits.Limit.{Limit}
use Rattle.slot_capacity.specs.declared.spans.Span.{Span}
use Rattle.slot_capacity.proofs.Bounds.{all-ordered, capacity-apart, capacity-small}
use Rattle.slot_capacity.proofs.CapacityTotals.{HasVars}
use Rattle.slot_capacity.proofs.Keeping.{deadlines-once, due-of, limit-is}
use Rattle.slot_capacity.proofs.Matching.{keys-filter}
use Rattle.slot_capacity.proofs.SpanFacts.{from-out}

-- launches that are listed end by k
pub listed-early : (g : LaunchGraph) (table : Table) (k : ℕ) (s : Scope) (l : Launch)
    → Contains (listed_in g table k s).launches l → l.cycle ≤ k
listed-early g table k s l h =
    let is = from-out g table (allocation_in s) k (first_cycle_in s) l h in
    let ends = is.ends in
    omega arith

module _ (g : LaunchGraph) (table : Table) (k : ℕ) (listed : List Launch)
    (early : (l : Launch) → Contains listed l → l.cycle ≤ k) where
  live_vars : HasVars (capacity_by g table k (spans_of g listed))
  live_vars =
      let spans = spans_of g listed in
      let xs = deadlines g table k spans in
      let limits = all_limits g table k spans xs in
      record {
        once = keys-filter (λ (x : Deadline). x.class) (is_limited limits) xs (deadlines-once g table k spans);
        there = λ m h x hx.
            let is = limit-is g table k spans xs m h in
            let due = due-of g table spans xs m is x hx in
            let ordered = all-ordered g listed table k early x due.among in
            let some = ordered.some in
            let comes = due.comes in (
              filter-in (is_limited limits) xs x due.among
                  (some_in (λ (m : Limit). list_any (λ (y : Deadline). y.class == x.class) m.due) limits m h
                  (some_in (λ (y : Deadline). y.class == x.class) m.due x hx (eq-eqb x.class x.class refl))),
              (let z : x.first ≤ min m.cycle x.last = omega arith in z),
            );
      }

  vars_by : (a : Allocation) → HasVars (capacity_of g table a k listed)
  vars_by Block = record { once = tt; there = λ m h x hx. absurd (nothing m h) }
  vars_by Live = live_vars

pub has-vars : (g : LaunchGraph) (table : Table) (k : ℕ) (s : Scope) → HasVars (capacity_in s g table k)
has-vars g table k s = vars_by g table k (listed_in g table k s).launches (listed-early g table k s) (allocation_in s)

module _ (g : LaunchGraph) (table : Table) (k : ℕ) (s : Scope) (well : IsLaunchGraph g) (is_table : IsTable table)
    (cycles : k ≤ most_cycles) where
  pub live-apart : AreApart (capacity_by g table k (spans_of g (listed_in g table k s).launches)).counted
  live-apart = capacity-apart g table k (listed_in g table k s).launches well is_table cycles (listed-early g table k s)

  pub live-small : IsSmall (capacity_by g table k (spans_of g (listed_in g table k s).launches))
  live-small = capacity-small g table k (listed_in g table k s).launches well is_table cycles (listed-early g table k s)

  small_by : (a : Allocation) → IsSmall (capacity_of g table a k (listed_in g table k s).launches)
  small_by Block = record {
    counted = (let z : length {A = Deadline} [] ≡ 0 = refl in omega (arith, z));
    early = All-nil (λ (x : Deadline). x.last ≤ most_cycles);
    limits = (let z : length {A = Limit} [] ≡ 0 = refl in omega (arith, z));
    due = All-nil (λ (m : Limit). length m.due ≤ length {A = Deadline} []);
    most = All-nil (λ (m : Limit). m.most ≤ 200);
  }
  small_by Live = live-small

  apart_by : (a : Allocation) → AreApart (capacity_of g table a k (listed_in g table k s).launches).counted
  apart_by Block = record {
    apart = λ i j d lt len e. (let z : length {A = Deadline} [] ≡ 0 = refl in omega (arith, z));
    some = All-nil (λ (x : Deadline). x.first ≤ x.last);
    early = All-nil (λ (x : Deadline). x.last < 2 ^ 29);
  }
  apart_by Live = live-apart

  -- deadlines and limits are small, and the classes differ
  pub small-capacity : (c : Capacity) → c ≡ capacity_in s g table k → IsSmall c
  small-capacity c e = subst IsSmall (sym e) (small_by (allocation_in s))

  pub apart-capacity : (c : Capacity) → c ≡ capacity_in s g table k → AreApart c.counted
  apart-capacity c e = subst (λ (c : Capacity). AreApart c.counted) (sym e) (apart_by (allocation_in s))

-- ---- what is found

module _ (g : LaunchGraph) (table : Table) (k : ℕ) (s : Scope) where
  abbrev launches : List Launch
  launches = (listed_in g table k s).launches

  pub early-deadlines : k ≤ most_cycles → (spans : List (Option Span)) → spans ≡ spans_of g launches
      → (xs : List Deadline)
      → xs ≡ deadlines g table k spans → All (λ x. x.last ≤ most_cycles) xs
  early-deadlines cycles spans es xs e =
      subst (λ (ys : List Deadline). All (λ (x : Deadline). x.last ≤ most_cycles) ys)
      (sym (e ∙ ap (deadlines g table k) es))
      (All-from_members (λ (x : Deadline). x.last ≤ most_cycles) (deadlines g table k (spans_of g launches)) (λ x h.
      let le = (all-ordered g launches table k (listed-early g table k s) x h).ends_by in
      (let z : x.last ≤ most_cycles = omega arith in z)))

  abbrev of_both : List Deadline → List Limit → Capacity
  of_both xs ms = record { counted = xs; limits = ms }

  pub found-capacity : (spans : List (Option Span)) → spans ≡ spans_of g launches → (xs : List Deadline)
      → xs ≡ deadlines g table k spans → (ms : List Limit) → ms ≡ all_limits g table k spans xs → (cs : List Deadline)
      → cs ≡ (capacity_with xs ms).counted → (c : Capacity) → c ≡ of_both cs ms
      → c ≡ capacity_by g table k (spans_of g launches)
  found-capacity spans es xs ex ms em cs ec c e =
      e ∙ ap (λ (cs : List Deadline). of_both cs ms) ec
      ∙ ap (λ (ms : List Limit). capacity_with xs ms) em
      ∙ ap (λ (xs : List Deadline). capacity_with xs (all_limits g table k spans xs)) ex
      ∙ ap (capacity_by g table k) es
