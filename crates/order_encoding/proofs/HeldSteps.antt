-- Clauses and literals of what is held, class by class and cycle by cycle.
use Rattle.std.proofs.Common.{◌≡◌, ℕ, ◌+◌, ◌<◌, ◌≤◌, ◌^◌, List, ◌∷◌, ◌++◌, [], length, take, drop, get_or, refl, sym, ap, ◌∙◌, subst, arith, length-append}
use Rattle.std.specs.Prelude.{◌==◌, not, Option}
use Rattle.std.specs.List.{range_with_len}
use Rattle.std.proofs.lemmas.Bool.{eq-eqb, ne_eqb, and_left}
use Rattle.std.proofs.lemmas.List.{take-append-drop, take_all}
use Rattle.std.proofs.lemmas.List.Concat.{flat_map-append}
use Rattle.cnf_core.specs.declared.literal.Lit.{Lit}
use Rattle.cnf_core.specs.Formula.{Formula}
use Rattle.graph_meaning.specs.declared.graphs.LaunchGraph.{LaunchGraph}
use Rattle.schedule_meaning.specs.declared.schedules.Launch.{Launch}
use Rattle.cycle_encoding.specs.Shapes.{numbered, positive, negative, vars_of, implied, when}
use Rattle.cycle_encoding.specs.Steps.{of_thing, with_clauses}
use Rattle.cycle_encoding.proofs.Adding.{added, size-with}
use Rattle.order_encoding.specs.OrderVariables.{Held, all_held}
use Rattle.order_encoding.specs.OrderFamilies.{is_held_at, stores_at, not_at_entry, store_clause, stays}
use Rattle.order_encoding.specs.OrderSteps.{AreHeldVars, held_at, class_held, classes_held}
use Rattle.order_encoding.proofs.Grid.{length-of, cycle_is, cycle_clause, implied-append}
use Rattle.order_encoding.proofs.HeldPlaces.{held-classes, place-more, cycle-vars, cycle-clauses}

-- a part of the classes holds no more than all of them
module _ (n : ℕ) (cs : List ℕ) (i : ℕ) where
  split : classes_held n cs ≡ classes_held n (take i cs) ++ classes_held n (drop i cs)
  split = ap (classes_held n) (sym (take-append-drop i cs)) ∙ flat_map-append (class_held n) (take i cs) (drop i cs)

  pub held-part : length (classes_held n (take i cs)) ≤ length (classes_held n cs)
  held-part = (let e = ap (λ (xs : List Held). length xs) split ∙ length-append (classes_held n (take i cs)) (classes_held n (drop i cs)) in omega arith)

-- one more class of a list, whose place is i
module _ (k first cycle : ℕ) (items cs : List ℕ) (i d : ℕ) (same : items ≡ cs) (lt : i < length items) (le : cycle ≤ k) where
  abbrev pub place : ℕ
  place = length (classes_held (k + 1) (take i cs))

  below : i < length cs
  below = subst (λ (ys : List ℕ). i < length ys) same lt

  at : get_or cs i d ≡ get_or items i d
  at = ap (λ (ys : List ℕ). get_or ys i d) (sym same)

  pub next-place : length (classes_held (k + 1) (take (i + 1) cs)) ≡ place + (k + 1)
  next-place = place-more k first cycle cs i d below le

  pub place-within : place + (k + 1) ≤ length (classes_held (k + 1) cs)
  place-within = (let a = next-place in let b = held-part (k + 1) cs (i + 1) in omega arith)

  pub next-vars : (mid new : List Lit) (var : ℕ) → var ≡ first + place + cycle + 1 → mid ≡ vars_of (λ (m : Held). m.cycle == cycle) (numbered first (classes_held (k + 1) (take i cs))) → new ≡ mid ++ positive var ∷ [] → new ≡ vars_of (λ (m : Held). m.cycle == cycle) (numbered first (classes_held (k + 1) (take (i + 1) cs)))
  next-vars mid new var v m n =
      n ∙ ap (λ ys. ys ++ positive var ∷ []) m ∙ ap (λ x. vars_of (λ (m : Held). m.cycle == cycle) (numbered first (classes_held (k + 1) (take i cs))) ++ positive x ∷ []) v
      ∙ sym (cycle-vars k first cycle cs i d below le)

  module _ (F : Held → List (List Lit)) (others : (c a : ℕ) → (a ≡ cycle → ⊥) → F (held_at c a) ≡ []) (f mid : Formula) (is : mid ≡ with_clauses f (implied (numbered first (classes_held (k + 1) (take i cs))) F)) where
    more : implied (numbered first (classes_held (k + 1) (take (i + 1) cs))) F ≡ implied (numbered first (classes_held (k + 1) (take i cs))) F ++ of_thing (first + place + cycle + 1) (F (held_at (get_or items i d) cycle))
    more = cycle-clauses k first cycle cs i d below le F others ∙ ap (λ c. implied (numbered first (classes_held (k + 1) (take i cs))) F ++ of_thing (first + place + cycle + 1) (F (held_at c cycle))) at

    pub next-clauses : (new : Formula) (var : ℕ) → var ≡ first + place + cycle + 1 → new ≡ with_clauses mid (of_thing var (F (held_at (get_or items i d) cycle))) → new ≡ with_clauses f (implied (numbered first (classes_held (k + 1) (take (i + 1) cs))) F)
    next-clauses new var v n =
        added f mid new (of_thing var (F (held_at (get_or items i d) cycle))) (implied (numbered first (classes_held (k + 1) (take i cs))) F) (implied (numbered first (classes_held (k + 1) (take (i + 1) cs))) F) is n
        (more ∙ ap (λ x. implied (numbered first (classes_held (k + 1) (take i cs))) F ++ of_thing x (F (held_at (get_or items i d) cycle))) (sym v))

    whole : implied (numbered first (classes_held (k + 1) cs)) F ≡ implied (numbered first (classes_held (k + 1) (take (i + 1) cs))) F ++ implied (numbered (first + length (classes_held (k + 1) (take (i + 1) cs))) (classes_held (k + 1) (drop (i + 1) cs))) F
    whole = ap (λ xs. implied (numbered first xs) F) (split (k + 1) cs (i + 1)) ∙ implied-append F first (classes_held (k + 1) (take (i + 1) cs)) (classes_held (k + 1) (drop (i + 1) cs))

    pub next-room : length f.clauses + length (implied (numbered first (classes_held (k + 1) cs)) F) < 2 ^ 30 → length mid.clauses + length (F (held_at (get_or items i d) cycle)) < 2 ^ 30
    next-room room =
        let a = size-with f mid (implied (numbered first (classes_held (k + 1) (take i cs))) F) is in
        let b = ap (λ (c : List (List Lit)). length c) more ∙ length-append (implied (numbered first (classes_held (k + 1) (take i cs))) F) (of_thing (first + place + cycle + 1) (F (held_at (get_or items i d) cycle))) in
        let e = length-of (first + place + cycle + 1) (F (held_at (get_or items i d) cycle)) in
        let h = ap (λ (c : List (List Lit)). length c) whole ∙ length-append (implied (numbered first (classes_held (k + 1) (take (i + 1) cs))) F) (implied (numbered (first + length (classes_held (k + 1) (take (i + 1) cs))) (classes_held (k + 1) (drop (i + 1) cs))) F) in
        omega arith

-- all classes
pub all-taken : (g : LaunchGraph) (k : ℕ) (classes : List ℕ) (starts : List (Option ℕ)) (items : List ℕ) (i : ℕ) → AreHeldVars g k classes starts → items ≡ classes → length items ≤ i → classes_held (k + 1) (take i classes) ≡ all_held g k
all-taken g k classes starts items i is same le =
    ap (classes_held (k + 1)) (take_all i classes (subst (λ (ys : List ℕ). length ys ≤ i) same le)) ∙ held-classes g k classes starts is

-- ---- families

pub no_other_entry : (g : LaunchGraph) (c a : ℕ) → (a ≡ 0 → ⊥) → not_at_entry g (held_at c a) ≡ []
no_other_entry g c a ne = ap (λ b. when b ([] ∷ [])) (and_left (a == 0) (not (c == g.entry)) (ne_eqb a 0 ne))

pub no_other_stay : (ms : List (ℕ × Held)) (ws : List (ℕ × ℕ)) (t c a : ℕ) → (a ≡ t → ⊥) → stays ms ws t (held_at c a) ≡ []
no_other_stay ms ws t c a ne = ap (λ b. when b ((vars_of (λ c. c == t) ws ++ vars_of (is_held_at c (t + 1)) ms) ∷ [])) (ne_eqb a t ne)

pub stay_is : (ms : List (ℕ × Held)) (stores k t class var : ℕ) (lits : List Lit) → t < k → lits ≡ vars_of (is_held_at class (t + 1)) ms → (negative var ∷ positive (stores + t + 1) ∷ lits) ∷ [] ≡ of_thing var (stays ms (numbered stores (range_with_len 0 k)) t (held_at class t))
stay_is ms stores k t class var lits lt e =
    let ws = numbered stores (range_with_len 0 k) in
    let vs = vars_of (λ (c : ℕ). c == t) ws in
    ap (λ (w : List Lit). (negative var ∷ (w ++ lits)) ∷ []) (cycle_is stores k t lt)
    ∙ ap (λ (l : List Lit). (negative var ∷ (vs ++ l)) ∷ []) e
    ∙ ap (λ b. of_thing var (when b ((vs ++ vars_of (is_held_at class (t + 1)) ms) ∷ []))) (sym (eq-eqb t t refl))

pub stored_is : (g : LaunchGraph) (xs : List (ℕ × Launch)) (stores k t : ℕ) (clause : List Lit) → t < k → clause ≡ negative (stores + t + 1) ∷ vars_of (stores_at g t) xs → clause ∷ [] ≡ implied (numbered stores (range_with_len 0 k)) (store_clause g xs t)
stored_is g xs stores k t clause lt e =
    let vs = vars_of (stores_at g t) xs in
    ap (λ (c : List Lit). c ∷ []) e
    ∙ ap (λ b. of_thing (stores + t + 1) (when b (vs ∷ []))) (sym (eq-eqb t t refl))
    ∙ sym (cycle_clause (store_clause g xs t) stores k t (λ a ne. ap (λ b. when b (vs ∷ [])) (ne_eqb a t ne)) lt)
