-- Which variable says that a class is launched by a cycle.
use Rattle.std.proofs.Common.{◌≡◌, ℕ, zero, suc, ◌+◌, ◌-◌, ◌<◌, ◌≤◌, Bool, true, false, cond, List, [], ◌∷◌, ◌++◌, length, drop, take, get_or, map, refl, sym, ap, ◌∙◌, subst, arith, inl, inr, ◌⊎◌, length-append}
use Rattle.std.specs.Prelude.{◌&&◌, ◌==◌, ◌≢◌, Contains}
use Rattle.std.specs.List.{AllPairs, filter, range_with_len}
use Rattle.std.proofs.lemmas.Bool.{cases_eq, cases_lt, eq-eqb, ne_eqb}
use Rattle.std.proofs.lemmas.List.{append-nil, get_or_default}
use Rattle.std.proofs.lemmas.List.Elements.{Contains-append_cases, Contains-get_or, filter-append}
use Rattle.std.proofs.lemmas.List.FromFn.{length-range_with_len}
use Rattle.cycle_encoding.specs.Shapes.{negative, numbered, positive, vars_of}
use Rattle.cycle_encoding.proofs.Launched.{size-map}
use Rattle.cycle_encoding.proofs.Members.{NoTwice, here, later, map-in, map-out, nothing}
use Rattle.cycle_encoding.proofs.Walk.{numbered-append}
use Rattle.slot_capacity.specs.CapacityClauses.{Launched, all_launched, class_launched, is_launched_at, stays_launched}
use Rattle.slot_capacity.specs.CapacitySteps.{stays_behind}
use Rattle.slot_capacity.specs.declared.deadlines.Deadline.{Deadline}
use Rattle.slot_capacity.proofs.Things.{classes, thing}

-- the things of a class and cycle, with their variables
abbrev pub at_of : ℕ → ℕ → List (ℕ × Launched) → List (ℕ × Launched)
at_of class cycle ps = filter (λ p. is_launched_at class cycle p.1) ps

-- ---- one class

module _ (class : ℕ) where
  abbrev things_from : ℕ → ℕ → List Launched
  things_from a m = map (λ t. thing class t) (range_with_len a m)

  front : (n a : ℕ) (cycle : ℕ) (b : Bool) (rest more : List (ℕ × Launched)) → (a == cycle) ≡ b → rest ≡ more
      → cond ((class == class) && (a == cycle)) ((n, thing class a) ∷ rest) rest
      ≡ cond b ((n, thing class a) ∷ more) more
  front n a cycle b rest more e r =
      ap (λ c. cond (c && (a == cycle)) ((n, thing class a) ∷ rest) rest) (eq-eqb class class refl)
      ∙ ap (λ c. cond c ((n, thing class a) ∷ rest) rest) e
      ∙ ap (λ (qs : List (ℕ × Launched)). cond b ((n, thing class a) ∷ qs) qs) r

  pub own-out : (m n a cycle : ℕ) → (cycle < a) ⊎ (a + m ≤ cycle) → at_of class cycle (numbered n (things_from a m))
      ≡ []
  own-out zero n a cycle out = refl
  own-out (suc m) n a cycle out =
      let away : (cycle < a + 1) ⊎ (a + 1 + m ≤ cycle) = elim out [
        | inl lt ↦ inl (let z : cycle < a + 1 = omega arith in z)
        | inr ge ↦ inr (let z : a + 1 + m ≤ cycle = omega arith in z)
      ] in
      let other : (a ≡ cycle) → ⊥ = λ e. elim out [ inl lt ↦ absurd (omega arith) | inr ge ↦ absurd (omega arith) ] in
      front (n + 1) a cycle false (at_of class cycle (numbered (n + 1) (things_from (a + 1) m))) []
      (ne_eqb a cycle other)
      (own-out m (n + 1) (a + 1) cycle away)

  pub own-in : (m n a cycle : ℕ) → a ≤ cycle → cycle < a + m
      → at_of class cycle (numbered n (things_from a m)) ≡ (n + (cycle - a) + 1, thing class cycle) ∷ []
  own-in zero n a cycle le lt = absurd (omega arith)
  own-in (suc m) n a cycle le lt = elim (cases_eq a cycle) [
    | inl e ↦
        front (n + 1) a cycle true (at_of class cycle (numbered (n + 1) (things_from (a + 1) m))) [] (eq-eqb a cycle e)
        (own-out m (n + 1) (a + 1) cycle (inl (let z : cycle < a + 1 = omega arith in z)))
        ∙ ap (λ i. (i, thing class a) ∷ []) (let z : n + 1 ≡ n + (cycle - a) + 1 = omega arith in z)
        ∙ ap (λ t. (n + (cycle - a) + 1, thing class t) ∷ []) e
    | inr ne ↦ (
        let above : a + 1 ≤ cycle = omega arith in
        front (n + 1) a cycle false (at_of class cycle (numbered (n + 1) (things_from (a + 1) m)))
        ((n + 1 + (cycle - (a + 1)) + 1, thing class cycle) ∷ []) (ne_eqb a cycle ne)
        (own-in m (n + 1) (a + 1) cycle above (omega arith))
        ∙ ap (λ i. (i, thing class cycle) ∷ []) (let z : n + 1 + (cycle - (a + 1)) + 1
        ≡ n + (cycle - a) + 1 = omega arith in z))
  ]

-- another class has none
pub other-out : (class cycle n : ℕ) (ps : List Launched) → ((p : Launched) → Contains ps p → (p.class ≡ class) → ⊥)
    → at_of class cycle (numbered n ps) ≡ []
other-out class cycle n [] h = refl
other-out class cycle n (p ∷ ps) h =
    ap (λ b. cond (b && (p.cycle == cycle)) ((n + 1, p) ∷ at_of class cycle (numbered (n + 1) ps))
    (at_of class cycle (numbered (n + 1) ps)))
    (ne_eqb p.class class (h p (here p ps)))
    ∙ other-out class cycle (n + 1) ps (λ q c. h q (later p q ps c))

-- ---- all classes

class_of : (x : Deadline) (p : Launched) → Contains (class_launched x) p → p.class ≡ x.class
class_of x p h =
    ap (λ (p : Launched). p.class)
    (sym (map-out (λ t. thing x.class t) (range_with_len x.first (x.last + 1 - x.first)) p h).2)

pub class-among : (xs : List Deadline) (p : Launched) → Contains (all_launched xs) p → Contains (classes xs) p.class
class-among xs p h = among xs h
  where
    among : (xs : List Deadline) → Contains (all_launched xs) p → Contains (classes xs) p.class
    among [] h = absurd (nothing p h)
    among (x ∷ xs) h = elim (Contains-append_cases (class_launched x) (all_launched xs) p h) [
      | inl a ↦ subst (λ c. Contains (x.class ∷ classes xs) c) (sym (class_of x p a)) (here x.class (classes xs))
      | inr b ↦ later x.class p.class (classes xs) (among xs b)
    ]

pub cycles-size : (x : Deadline) → length (class_launched x) ≡ x.last + 1 - x.first
cycles-size x =
    size-map (λ t. thing x.class t) (range_with_len x.first (x.last + 1 - x.first))
    ∙ length-range_with_len x.first (x.last + 1 - x.first)

module _ (class cycle n : ℕ) (x : Deadline) (xs : List Deadline) where
  split : at_of class cycle (numbered n (all_launched (x ∷ xs)))
      ≡ at_of class cycle (numbered n (class_launched x))
      ++ at_of class cycle (numbered (n + length (class_launched x)) (all_launched xs))
  split =
      ap (at_of class cycle) (numbered-append n (class_launched x) (all_launched xs))
      ∙ filter-append (λ p. is_launched_at class cycle p.1) (numbered n (class_launched x))
      (numbered (n + length (class_launched x)) (all_launched xs))

  -- the first class is another
  pub look-past : ¬ (x.class ≡ class) → at_of class cycle (numbered n (all_launched (x ∷ xs)))
      ≡ at_of class cycle (numbered (n + length (class_launched x)) (all_launched xs))
  look-past ne =
      split
      ∙ ap (λ (ps : List (ℕ × Launched)). ps ++ at_of class cycle
      (numbered (n + length (class_launched x)) (all_launched xs)))
      (other-out class cycle n (class_launched x) (λ p h e. ne (sym (class_of x p h) ∙ e)))

  -- the first class is this, and no other is
  pub look-here : x.class ≡ class → (Contains (classes xs) x.class → ⊥)
      → at_of class cycle (numbered n (all_launched (x ∷ xs))) ≡ at_of x.class cycle (numbered n (class_launched x))
  look-here e once =
      split
      ∙ ap (λ (ps : List (ℕ × Launched)). at_of class cycle (numbered n (class_launched x)) ++ ps)
      (other-out class cycle (n + length (class_launched x)) (all_launched xs)
      (λ p h s. once (subst (λ c. Contains (classes xs) c) (s ∙ sym e) (class-among xs p h))))
      ∙ append-nil (at_of class cycle (numbered n (class_launched x)))
      ∙ ap (λ c. at_of c cycle (numbered n (class_launched x))) (sym e)

-- ---- the class at a place of the list

pub once-drop : (xs : List Deadline) (i : ℕ) → NoTwice (classes xs) → NoTwice (classes (drop i xs))
once-drop xs zero h = h
once-drop [] (suc i) h = tt
once-drop (x ∷ xs) (suc i) h = once-drop xs i h.1

-- the variables of a counted class's cycles stand behind those of the classes before it
pub at-place : (xs : List Deadline) → NoTwice (classes xs) → (n i : ℕ) (d : Deadline) → i < length xs → (cycle : ℕ)
    → (get_or xs i d).first ≤ cycle → cycle ≤ (get_or xs i d).last
    → at_of (get_or xs i d).class cycle (numbered n (all_launched xs))
    ≡ (
      n + length (all_launched (take i xs)) + (cycle - (get_or xs i d).first) + 1,
      thing (get_or xs i d).class
          cycle,
    ) ∷ []
at-place [] once n i d lt cycle low high = (let z : length {A = Deadline} [] ≡ 0 = refl in absurd (omega (arith, z)))
at-place (x ∷ xs) once n zero d lt cycle low high =
    look-here x.class cycle n x xs refl once.0
    ∙ own-in x.class (x.last + 1 - x.first) n x.first cycle low (omega arith)
    ∙ ap (λ i. (i, thing x.class cycle) ∷ [])
    (let z : length (all_launched (take 0 (x ∷ xs))) ≡ 0 = refl in
    let s : n + (cycle - x.first) + 1 ≡ n + length (all_launched (take 0 (x ∷ xs))) + (cycle - x.first) + 1 = omega
    arith in s)
at-place (x ∷ xs) once n (suc i) d lt cycle low high =
    let y = get_or xs i d in
    let size : length (x ∷ xs) ≡ suc (length xs) = refl in
    let inside : i < length xs = omega arith in
    let other : ¬ (x.class ≡ y.class) =
    λ e. once.0 (subst (λ c. Contains (classes xs) c) (sym e)
    (map-in (λ (x : Deadline). x.class) xs y (Contains-get_or xs i d inside))) in
    let long = length-append (class_launched x) (all_launched (take i xs)) in
    look-past y.class cycle n x xs other
    ∙ at-place xs once.1 (n + length (class_launched x)) i d inside cycle low high
    ∙ ap (λ j. (j, thing y.class cycle) ∷ [])
    (let s : n + length (class_launched x) + length (all_launched (take i xs)) + (cycle - y.first) + 1
    ≡ n + length (class_launched x ++ all_launched (take i xs)) + (cycle - y.first) + 1 = omega arith in
    s)

-- ---- what the code adds of a class

module _ (xs : List Deadline) (once : NoTwice (classes xs)) (n i : ℕ) (d : Deadline) (lt : i < length xs) where
  abbrev x : Deadline
  x = get_or xs i d

  abbrev ps : List (ℕ × Launched)
  ps = numbered n (all_launched xs)

  abbrev before : ℕ
  before = n + length (all_launched (take i xs))

  stay_one : (place : ℕ) → 1 ≤ place → place < x.last + 1 - x.first
      → stays_launched ps x (x.first + place) ≡ stays_behind before place
  stay_one place low high =
      ap (λ (qs : List (ℕ × Launched)). map (λ p. negative p.0) qs
      ++ vars_of (is_launched_at x.class (x.first + place)) ps)
      (at-place xs once n i d lt (x.first + place - 1) (omega arith) (omega arith))
      ∙ ap (λ (qs : List (ℕ × Launched)). negative (before + (x.first + place - 1 - x.first) + 1) ∷ map
      (λ p. positive p.0) qs)
      (at-place xs once n i d lt (x.first + place) (omega arith) (omega arith))
      ∙ ap (λ v. negative v ∷ positive (before + (x.first + place - x.first) + 1) ∷ [])
      (let z : before + (x.first + place - 1 - x.first) + 1 ≡ before + place = omega arith in z)
      ∙ ap (λ v. negative (before + place) ∷ positive v ∷ [])
      (let z : before + (x.first + place - x.first) + 1 ≡ before + place + 1 = omega arith in z)

  stay_from : (m place : ℕ) → 1 ≤ place → place + m ≤ x.last + 1 - x.first
      → map (stays_launched ps x) (range_with_len (x.first + place) m)
      ≡ map (stays_behind before) (range_with_len place m)
  stay_from zero place low high = refl
  stay_from (suc m) place low high =
      ap (λ c. c ∷ map (stays_launched ps x) (range_with_len (x.first + place + 1) m))
      (stay_one place low (omega arith))
      ∙ ap (λ a. stays_behind before place ∷ map (stays_launched ps x) (range_with_len a m))
      (let z : x.first + place + 1 ≡ x.first + (place + 1) = omega arith in z)
      ∙ ap (λ cs. stays_behind before place ∷ cs) (stay_from m (place + 1) (omega arith) (omega arith))

  -- the clauses of a class, by places
  pub stays-by-place : (cycles : ℕ) → cycles ≡ x.last + 1 - x.first
      → map (stays_launched ps x) (range_with_len (x.first + 1) (x.last - x.first))
      ≡ map (stays_behind before) (range_with_len 1 (cycles - 1))
  stays-by-place cycles e =
      ap (λ m. map (stays_launched ps x) (range_with_len (x.first + 1) m))
      (let z : x.last - x.first ≡ cycles - 1 = omega arith in z)
      ∙ stay_all (cases_lt (x.last + 1 - x.first) 1)
    where
      stay_all : (x.last + 1 - x.first < 1) ⊎ (1 ≤ x.last + 1 - x.first)
          → map (stays_launched ps x) (range_with_len (x.first + 1) (cycles - 1))
          ≡ map (stays_behind before) (range_with_len 1 (cycles - 1))
      stay_all (inl none) =
          let z : cycles - 1 ≡ 0 = omega arith in
          ap (λ m. map (stays_launched ps x) (range_with_len (x.first + 1) m)) z
          ∙ sym (ap (λ m. map (stays_behind before) (range_with_len 1 m)) z)
      stay_all (inr some) = stay_from (cycles - 1) 1 (omega arith) (omega arith)

  -- the clause that it is launched by its last cycle
  pub end-by-place : x.first ≤ x.last → (var : ℕ) → var ≡ before + (x.last + 1 - x.first)
      → vars_of (is_launched_at x.class x.last) ps ≡ positive var ∷ []
  end-by-place some var e =
      ap (λ (qs : List (ℕ × Launched)). map (λ p. positive p.0) qs)
      (at-place xs once n i d lt x.last some (omega arith))
      ∙ ap (λ v. positive v ∷ []) (let z : before + (x.last - x.first) + 1 ≡ var = omega arith in z)

-- ---- classes that differ

pub apart-once : (xs : List Deadline) → AllPairs (λ x y. x.class ≢ y.class) xs → NoTwice (classes xs)
apart-once [] h = tt
apart-once (x ∷ xs) h =
    let size : length (x ∷ xs) ≡ suc (length xs) = refl in (
      (λ c.
          let m = map-out (λ (x : Deadline). x.class) xs x.class c in
          let there = m.1 in
          let lt = there.1 in
          h 0 (suc there.0) x (omega arith) (omega (arith, size))
          (sym m.2 ∙ ap (λ (y : Deadline). y.class) (sym there.2 ∙ get_or_default xs there.0 m.0 x there.1))),
      apart-once xs (λ i j d lt len. h (suc i) (suc j) d (omega arith) (omega (arith, size))),
    )

pub once-apart : (xs : List Deadline) → NoTwice (classes xs) → AllPairs (λ x y. x.class ≢ y.class) xs
once-apart [] h i j d lt len e = (let z : length {A = Deadline} [] ≡ 0 = refl in absurd (omega (arith, z)))
once-apart (x ∷ xs) h zero zero d lt len e = absurd (omega arith)
once-apart (x ∷ xs) h (suc i) zero d lt len e = absurd (omega arith)
once-apart (x ∷ xs) h zero (suc j) d lt len e =
    let size : length (x ∷ xs) ≡ suc (length xs) = refl in
    let inside : j < length xs = omega arith in
    h.0 (subst (λ c. Contains (classes xs) c) (sym e)
    (map-in (λ (x : Deadline). x.class) xs (get_or xs j d) (Contains-get_or xs j d inside)))
once-apart (x ∷ xs) h (suc i) (suc j) d lt len e =
    let size : length (x ∷ xs) ≡ suc (length xs) = refl in
    once-apart xs h.1 i j d (omega arith) (omega arith) e
