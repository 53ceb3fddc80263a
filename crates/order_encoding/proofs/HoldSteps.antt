-- What is held in one cycle, by slot and start.
use Rattle.std.proofs.Common.{◌≡◌, ℕ, zero, suc, ◌+◌, ◌-◌, ◌*◌, ◌<◌, ◌≤◌, ◌^◌, Bool, true, List, ◌∷◌, ◌++◌, [], length, map, refl, sym, ap, ◌∙◌, subst, arith, inl, inr}
use Rattle.std.specs.Prelude.{◌==◌}
use Rattle.std.specs.List.{All, filter, flat_map, range_with_len}
use Rattle.std.proofs.lemmas.List.Elements.{All-append, All-cons}
use Rattle.std.proofs.lemmas.List.FromFn.{length-map-range_with_len, map-range_with_len_more}
use Rattle.std.proofs.lemmas.Bool.{cases_lt, eq-eqb, ne_eqb}
use Rattle.std.proofs.lemmas.List.{append-nil}
use Rattle.cnf_core.specs.declared.literal.Lit.{Lit}
use Rattle.cnf_core.specs.Formula as formula
use Rattle.cnf_core.specs.Formula.{Formula, IsLitOf}
use Rattle.graph_meaning.specs.declared.graphs.LaunchGraph.{LaunchGraph}
use Rattle.schedule_meaning.specs.Launches.{class_at, takes_pool}
use Rattle.schedule_meaning.specs.declared.schedules.Launch.{Launch}
use Rattle.machine_table.specs.declared.tables.Table.{Table}
use Rattle.cycle_encoding.specs.Shapes.{numbered, positive, negative, negated, vars_of, when}
use Rattle.cycle_encoding.specs.Steps.{of_thing, with_clauses}
use Rattle.cycle_encoding.proofs.Adding.{added, size-with}
use Rattle.cycle_encoding.proofs.Listed.{flat_more}
use Rattle.cycle_encoding.proofs.Places.{no-item, at-item}
use Rattle.cycle_encoding.proofs.Walk.{vars-append}
use Rattle.order_encoding.specs.LiveVariables.{Hold, Need, all_holds, slot_holds, start_holds}
use Rattle.order_encoding.specs.LiveFamilies.{holds_register, holds_while, is_hold_at, is_need_at}
use Rattle.order_encoding.proofs.AddSteps.{of-append}
use Rattle.order_encoding.proofs.Grid.{length-of}
use Rattle.order_encoding.specs.OrderSteps.{slot_lits, starts_before}
use Rattle.order_encoding.proofs.LiveListing.{hold_at}
use Rattle.order_encoding.proofs.HoldPlaces.{from_start, is-hold, no-hold-cycle, starts-size, slots-size}

map-map : {X Y Z : Type 0} (f : Y → Z) (h : X → Y) (xs : List X) → map f (map h xs) ≡ map (λ x. f (h x)) xs
map-map f h [] = refl
map-map f h (x ∷ xs) = ap (λ ys. f (h x) ∷ ys) (map-map f h xs)

pub negated-vars : {X : Type 0} (test : X → Bool) (ps : List (ℕ × X)) → map formula.negated (vars_of test ps) ≡ negated test ps
negated-vars {X = X} test ps = map-map formula.negated (λ (p : ℕ × X). positive p.0) (filter (λ (p : ℕ × X). test p.1) ps)

module _ (table : Table) (k first cycle : ℕ) (lt : cycle < k) where
  abbrev C : Hold → Bool
  C h = h.cycle == cycle

  abbrev hs : List (ℕ × Hold)
  hs = numbered first (all_holds table k)

  abbrev one : ℕ → ℕ → List Lit
  one slot start = vars_of (is_hold_at slot start cycle) hs

  -- those of one start
  start-is : (slot start : ℕ) → slot < length table.slots → vars_of C (numbered (first + slot * starts_before k k + starts_before k start) (start_holds k slot start)) ≡ one slot start
  start-is slot start ls =
      let m : ℕ = first + slot * starts_before k k + starts_before k start in
      let at : m ≡ first + (slot * starts_before k k + starts_before k start) = omega arith in
      elim (cases_lt cycle start) [
        | inl early ↦
            ap (λ xs. vars_of C (numbered m xs)) (from_start (hold_at slot start) start (k - start))
            ∙ no-item C (k - start) (λ i. hold_at slot start (start + i)) (λ i _. ne_eqb (start + i) cycle (λ e. absurd (omega arith))) m (k - start) (omega arith)
            ∙ no-hold-cycle k slot start cycle table first (inl early)
        | inr le ↦
            ap (λ xs. vars_of C (numbered m xs)) (from_start (hold_at slot start) start (k - start))
            ∙ at-item C (cycle - start) (λ i. hold_at slot start (start + i)) (λ i ne. ne_eqb (start + i) cycle (λ e. ne (omega arith))) m (k - start) (omega arith) (eq-eqb (start + (cycle - start)) cycle (omega arith))
            ∙ ap (λ n. positive (n + (cycle - start) + 1) ∷ []) at
            ∙ sym (is-hold k slot start cycle table first ls le lt)
      ]

  -- those of the first starts of a slot
  starts-are : (slot : ℕ) → slot < length table.slots → (n : ℕ) → vars_of C (numbered (first + slot * starts_before k k) (flat_map (start_holds k slot) (range_with_len 0 n))) ≡ flat_map (one slot) (range_with_len 0 n)
  starts-are slot ls zero = refl
  starts-are slot ls (suc n) =
      let s : suc n ≡ n + 1 = omega arith in
      let m : ℕ = first + slot * starts_before k k in
      let before : List Hold = flat_map (start_holds k slot) (range_with_len 0 n) in
      ap (λ j. vars_of C (numbered m (flat_map (start_holds k slot) (range_with_len 0 j)))) s
      ∙ ap (λ xs. vars_of C (numbered m xs)) (flat_more (start_holds k slot) n)
      ∙ vars-append C m before (start_holds k slot n)
      ∙ ap (λ ys. ys ++ vars_of C (numbered (m + length before) (start_holds k slot n))) (starts-are slot ls n)
      ∙ ap (λ j. flat_map (one slot) (range_with_len 0 n) ++ vars_of C (numbered (m + j) (start_holds k slot n))) (starts-size k slot n)
      ∙ ap (λ ys. flat_map (one slot) (range_with_len 0 n) ++ ys) (start-is slot n ls)
      ∙ sym (flat_more (one slot) n)
      ∙ ap (λ j. flat_map (one slot) (range_with_len 0 j)) (sym s)

  -- later starts hold nothing in the cycle
  later-none : (slot d : ℕ) → flat_map (one slot) (range_with_len 0 (cycle + 1 + d)) ≡ slot_lits cycle hs slot
  later-none slot zero = (let e : cycle + 1 + 0 ≡ cycle + 1 = omega arith in ap (λ j. flat_map (one slot) (range_with_len 0 j)) e)
  later-none slot (suc d) =
      let e : cycle + 1 + suc d ≡ cycle + 1 + d + 1 = omega arith in
      ap (λ j. flat_map (one slot) (range_with_len 0 j)) e
      ∙ flat_more (one slot) (cycle + 1 + d)
      ∙ ap (λ ys. flat_map (one slot) (range_with_len 0 (cycle + 1 + d)) ++ ys) (sym (no-hold-cycle k slot (cycle + 1 + d) cycle table first (inl (omega arith))))
      ∙ append-nil (flat_map (one slot) (range_with_len 0 (cycle + 1 + d)))
      ∙ later-none slot d

  slot-is : (slot : ℕ) → slot < length table.slots → vars_of C (numbered (first + slot * starts_before k k) (slot_holds k slot)) ≡ slot_lits cycle hs slot
  slot-is slot ls =
      let e : k ≡ cycle + 1 + (k - (cycle + 1)) = omega arith in
      starts-are slot ls k ∙ ap (λ j. flat_map (one slot) (range_with_len 0 j)) e ∙ later-none slot (k - (cycle + 1))

  slots-are : (n : ℕ) → n ≤ length table.slots → vars_of C (numbered first (flat_map (slot_holds k) (range_with_len 0 n))) ≡ flat_map (slot_lits cycle hs) (range_with_len 0 n)
  slots-are zero le = refl
  slots-are (suc n) le =
      let s : suc n ≡ n + 1 = omega arith in
      let before : List Hold = flat_map (slot_holds k) (range_with_len 0 n) in
      ap (λ j. vars_of C (numbered first (flat_map (slot_holds k) (range_with_len 0 j)))) s
      ∙ ap (λ xs. vars_of C (numbered first xs)) (flat_more (slot_holds k) n)
      ∙ vars-append C first before (slot_holds k n)
      ∙ ap (λ ys. ys ++ vars_of C (numbered (first + length before) (slot_holds k n))) (slots-are n (omega arith))
      ∙ ap (λ j. flat_map (slot_lits cycle hs) (range_with_len 0 n) ++ vars_of C (numbered (first + j) (slot_holds k n))) (slots-size k n)
      ∙ ap (λ ys. flat_map (slot_lits cycle hs) (range_with_len 0 n) ++ ys) (slot-is n (omega arith))
      ∙ sym (flat_more (slot_lits cycle hs) n)
      ∙ ap (λ j. flat_map (slot_lits cycle hs) (range_with_len 0 j)) (sym s)

  pub cycle-lits : flat_map (slot_lits cycle hs) (range_with_len 0 (length table.slots)) ≡ vars_of C hs
  cycle-lits = sym (slots-are (length table.slots) (omega arith))

-- ---- clauses of one launch, one cycle more at a time

module _ (g : LaunchGraph) (ns : List (ℕ × Need)) (hs : List (ℕ × Hold)) (l : Launch) (own : List Lit) (var : ℕ) where
  abbrev pub up_to_cycle : ℕ → List (List Lit)
  up_to_cycle n = own ∷ map (holds_while g ns hs l) (range_with_len (l.cycle + 1) n)

  pub first_hold : (f new : Formula) (hold : List Lit) → hold ≡ own → new ≡ with_clauses f ((negative var ∷ hold) ∷ []) → new ≡ with_clauses f (of_thing var (up_to_cycle (1 - 1)))
  first_hold f new hold h e = e ∙ ap (λ ls. with_clauses f ((negative var ∷ ls) ∷ [])) h

  module _ (step : ℕ) (from : 1 ≤ step) (f mid : Formula) (is : mid ≡ with_clauses f (of_thing var (up_to_cycle (step - 1)))) where
    abbrev t : ℕ
    t = l.cycle + step

    abbrev need_lits : List Lit
    need_lits = vars_of (is_need_at (class_at g l.row) t) ns

    abbrev hold_lits : List Lit
    hold_lits = vars_of (is_hold_at l.slot l.cycle t) hs

    clause_is : (clause need hold : List Lit) → clause ≡ negative var ∷ (map formula.negated need ++ hold) → need ≡ need_lits → hold ≡ hold_lits → clause ≡ negative var ∷ holds_while g ns hs l t
    clause_is clause need hold e n h =
        e ∙ ap (λ ls. negative var ∷ (map formula.negated ls ++ hold)) n ∙ ap (λ ls. negative var ∷ (map formula.negated need_lits ++ ls)) h
        ∙ ap (λ ls. negative var ∷ (ls ++ hold_lits)) (negated-vars (is_need_at (class_at g l.row) t) ns)

    pub while_step : (new : Formula) (clause need hold : List Lit) → clause ≡ negative var ∷ (map formula.negated need ++ hold) → need ≡ need_lits → hold ≡ hold_lits → new ≡ record mid { clauses = mid.clauses ++ clause ∷ [] } → new ≡ with_clauses f (of_thing var (up_to_cycle (step + 1 - 1)))
    while_step new clause need hold e n h is_new =
        let a : step + 1 - 1 ≡ step - 1 + 1 = omega arith in
        let b : l.cycle + 1 + (step - 1) ≡ t = omega arith in
        added f mid new ((negative var ∷ holds_while g ns hs l t) ∷ []) (of_thing var (up_to_cycle (step - 1))) (of_thing var (up_to_cycle (step + 1 - 1))) is
        (is_new ∙ ap (λ (c : List Lit). with_clauses mid (c ∷ [])) (clause_is clause need hold e n h))
        (ap (λ m. of_thing var (up_to_cycle m)) a
        ∙ ap (λ cs. of_thing var (own ∷ cs)) (map-range_with_len_more (holds_while g ns hs l) (l.cycle + 1) (step - 1) t b)
        ∙ of-append var (up_to_cycle (step - 1)) (holds_while g ns hs l t ∷ []))

    pub while_room : (k : ℕ) → takes_pool g l ≡ true → own ≡ vars_of (is_hold_at l.slot l.cycle l.cycle) hs → step < k - l.cycle → length f.clauses + length (holds_register g k ns hs l) < 2 ^ 30 → length mid.clauses < 2 ^ 30
    while_room k takes eo lt room =
        let all : length (holds_register g k ns hs l) ≡ 1 + (k - (l.cycle + 1)) =
        ap (λ b. length (when b (vars_of (is_hold_at l.slot l.cycle l.cycle) hs ∷ map (holds_while g ns hs l) (range_with_len (l.cycle + 1) (k - (l.cycle + 1)))))) takes
        ∙ (let z = length-map-range_with_len (holds_while g ns hs l) (l.cycle + 1) (k - (l.cycle + 1)) in let s : length (vars_of (is_hold_at l.slot l.cycle l.cycle) hs ∷ map (holds_while g ns hs l) (range_with_len (l.cycle + 1) (k - (l.cycle + 1)))) ≡ suc (length (map (holds_while g ns hs l) (range_with_len (l.cycle + 1) (k - (l.cycle + 1))))) = refl in omega (arith, z, s)) in
        let some = size-with f mid (of_thing var (up_to_cycle (step - 1))) is in
        let size = length-of var (up_to_cycle (step - 1)) in
        let part = length-map-range_with_len (holds_while g ns hs l) (l.cycle + 1) (step - 1) in
        let s : length (up_to_cycle (step - 1)) ≡ suc (length (map (holds_while g ns hs l) (range_with_len (l.cycle + 1) (step - 1)))) = refl in
        omega (arith, all, some, size, part, s)

    pub while_exist : (clause need hold : List Lit) → clause ≡ negative var ∷ (map formula.negated need ++ hold) → need ≡ need_lits → hold ≡ hold_lits → IsLitOf mid.vars (negative var) → All (IsLitOf mid.vars) (negated (is_need_at (class_at g l.row) t) ns) → All (IsLitOf mid.vars) hold_lits → All (IsLitOf mid.vars) clause
    while_exist clause need hold e n h v a b =
        subst (λ (ls : List Lit). All (IsLitOf mid.vars) ls) (sym (clause_is clause need hold e n h))
        (All-cons (IsLitOf mid.vars) (negative var) (holds_while g ns hs l t) v (All-append (IsLitOf mid.vars) (negated (is_need_at (class_at g l.row) t) ns) hold_lits a b))

-- all cycles
pub all_while : (g : LaunchGraph) (k : ℕ) (ns : List (ℕ × Need)) (hs : List (ℕ × Hold)) (l : Launch) (var step : ℕ) (f : Formula) → takes_pool g l ≡ true → step - 1 ≡ k - (l.cycle + 1) → with_clauses f (of_thing var (up_to_cycle g ns hs l (vars_of (is_hold_at l.slot l.cycle l.cycle) hs) var (step - 1))) ≡ with_clauses f (of_thing var (holds_register g k ns hs l))
all_while g k ns hs l var step f takes e =
    ap (λ n. with_clauses f (of_thing var (up_to_cycle g ns hs l (vars_of (is_hold_at l.slot l.cycle l.cycle) hs) var n))) e
    ∙ ap (λ b. with_clauses f (of_thing var (when b (vars_of (is_hold_at l.slot l.cycle l.cycle) hs ∷ map (holds_while g ns hs l) (range_with_len (l.cycle + 1) (k - (l.cycle + 1))))))) (sym takes)
