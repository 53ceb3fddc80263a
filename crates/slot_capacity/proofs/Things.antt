-- The things that have variables: that a class is launched by a cycle, of each counted class from its first to its
-- last.
use Rattle.std.proofs.Common.{◌≡◌, ℕ, ◌+◌, ◌-◌, ◌≤◌, true, List, [], ◌∷◌, get_or, map, refl, sym, ap, ◌∙◌, subst, arith}
use Rattle.std.specs.Prelude.{◌==◌, Contains}
use Rattle.std.specs.List.{count_by, range_with_len}
use Rattle.std.proofs.lemmas.Bool.{and_from, and_parts, eq-eqb, eqb-true}
use Rattle.cycle_encoding.proofs.Counting.{count-none, count-one}
use Rattle.cycle_encoding.proofs.Members.{NoTwice, append-once, flat-in, flat-out, map-in, map-once, map-out, range-in, range-once, twice}
use Rattle.std.proofs.lemmas.List.Elements.{Contains-get_or}
use Rattle.slot_capacity.specs.CapacityClauses.{Launched, all_launched, class_launched, is_launched_at}
use Rattle.slot_capacity.specs.declared.deadlines.Deadline.{Deadline}

abbrev pub thing : ℕ → ℕ → Launched
thing class cycle = record { class = class; cycle = cycle }

pub thing-is : (p : Launched) (class cycle : ℕ) → is_launched_at class cycle p ≡ true → p ≡ thing class cycle
thing-is p class cycle h =
    let q = and_parts (p.class == class) (p.cycle == cycle) h in
    ap (λ c. thing c p.cycle) (eqb-true p.class class q.0) ∙ ap (thing class) (eqb-true p.cycle cycle q.1)

pub thing-itself : (class cycle : ℕ) → is_launched_at class cycle (thing class cycle) ≡ true
thing-itself class cycle = and_from (class == class) (cycle == cycle) (eq-eqb class class refl)
    (eq-eqb cycle cycle refl)

-- what stands where a list has no deadline
abbrev pub no_deadline : Deadline
no_deadline = record { class = 0; first = 0; last = 0 }

abbrev pub classes : List Deadline → List ℕ
classes xs = map (λ x. x.class) xs

-- ---- members

class_in : (x : Deadline) (t : ℕ) → x.first ≤ t → t ≤ x.last → Contains (class_launched x) (thing x.class t)
class_in x t le lt =
    map-in (λ t. thing x.class t) (range_with_len x.first (x.last + 1 - x.first)) t
    (range-in x.first (x.last + 1 - x.first) t le (omega arith))

pub thing-in : (counted : List Deadline) (x : Deadline) → Contains counted x → (t : ℕ) → x.first ≤ t → t ≤ x.last
    → Contains (all_launched counted) (thing x.class t)
thing-in counted x h t le lt = flat-in class_launched counted x (thing x.class t) h (class_in x t le lt)

class_out : (x : Deadline) (p : Launched) → Contains (class_launched x) p → p.class ≡ x.class
class_out x p h =
    let m = map-out (λ t. thing x.class t) (range_with_len x.first (x.last + 1 - x.first)) p h in
    ap (λ (p : Launched). p.class) (sym m.2)

thing_class : (counted : List Deadline) (p : Launched) → Contains (all_launched counted) p
    → Contains (classes counted) p.class
thing_class counted p h =
    let x = flat-out class_launched counted p h in
    subst (λ c. Contains (classes counted) c) (sym (class_out x.0 p x.2))
    (map-in (λ (x : Deadline). x.class) counted x.0 x.1)

-- ---- nothing twice

pub things-once : (counted : List Deadline) → NoTwice (classes counted) → NoTwice (all_launched counted)
things-once [] h = tt
things-once (x ∷ xs) h =
    append-once (class_launched x) (all_launched xs)
    (map-once (λ (p : Launched). p.cycle) (λ t. thing x.class t) (λ t. refl)
    (range_with_len x.first (x.last + 1 - x.first)) (range-once x.first (x.last + 1 - x.first)))
    (things-once xs h.1)
    (λ p a b. h.0 (subst (λ c. Contains (classes xs) c) (class_out x p a) (thing_class xs p b)))

-- of things that stand once one at most is that of a class and cycle
pub one-thing : (class cycle : ℕ) (ps : List Launched) → NoTwice ps → count_by (is_launched_at class cycle) ps ≤ 1
one-thing class cycle ps once =
    count-one (is_launched_at class cycle) ps (λ i j d lt len p q.
    twice ps once i j d lt len
    (thing-is (get_or ps i d) class cycle p ∙ sym (thing-is (get_or ps j d) class cycle q)))

pub no-thing : (class cycle : ℕ) (ps : List Launched) → (Contains ps (thing class cycle) → ⊥)
    → count_by (is_launched_at class cycle) ps ≡ 0
no-thing class cycle ps none =
    count-none (is_launched_at class cycle) ps (λ i d len p.
    none (subst (λ q. Contains ps q) (thing-is (get_or ps i d) class cycle p) (Contains-get_or ps i d len)))
