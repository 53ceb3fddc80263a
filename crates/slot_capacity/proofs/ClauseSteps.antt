-- The steps that add the clauses of capacity, class by class and limit by limit.
use Rattle.std.proofs.Common.{◌≡◌, ℕ, zero, suc, ◌+◌, ◌-◌, ◌<◌, ◌≤◌, ◌^◌, min, List, [], ◌∷◌, ◌++◌, length, drop, take, get_or, map, refl, sym, ap, ◌∙◌, subst, arith, inl, inr, ◌⊎◌, append_assoc, length-append}
use Rattle.std.specs.List.{All, flat_map, range_with_len}
use Rattle.std.proofs.Math.Seq.{drop-cons}
use Rattle.std.proofs.lemmas.Bool.{cases_lt}
use Rattle.std.proofs.lemmas.List.{append-nil, length-take, map_more, take_more}
use Rattle.std.proofs.lemmas.List.Concat.{flat_map-append}
use Rattle.std.proofs.lemmas.List.Elements.{All-append, All-cons, All-contains, All-head, All-nil, All-tail, Contains-get_or}
use Rattle.std.proofs.lemmas.List.FromFn.{length-range_with_len, map-range_with_len_more}
use Rattle.cnf_core.specs.declared.literal.Lit.{Lit}
use Rattle.cnf_core.specs.Counter.{at_most_clauses, at_most_size, at_most_vars}
use Rattle.cnf_core.specs.Formula.{Formula, IsLitOf}
use Rattle.cycle_encoding.specs.Shapes.{negative, numbered, positive, vars_of}
use Rattle.cycle_encoding.specs.Steps.{with_clauses}
use Rattle.cycle_encoding.proofs.Adding.{added, size-with}
use Rattle.cycle_encoding.proofs.Blocks.{vars-over}
use Rattle.cycle_encoding.proofs.Launched.{size-map}
use Rattle.cycle_encoding.proofs.Members.{NoTwice}
use Rattle.cycle_encoding.proofs.Rows.{formula}
use Rattle.cycle_encoding.proofs.Totals.{size-vars}
use Rattle.slot_capacity.specs.CapacityClauses.{Launched, all_launched, class_launched, is_launched_at, limit_counters, limit_lits, limit_vars, stays_launched}
use Rattle.slot_capacity.specs.CapacitySteps.{AreApart, stays_behind}
use Rattle.slot_capacity.specs.declared.deadlines.Deadline.{Deadline}
use Rattle.slot_capacity.specs.declared.limits.Limit.{Limit}
use Rattle.slot_capacity.proofs.LaunchedVars.{apart-once, at_of, cycles-size, end-by-place, look-here, look-past, once-drop, own-in, own-out, stays-by-place}
use Rattle.slot_capacity.proofs.Things.{classes, one-thing, things-once}

-- ---- lists

module _ {X A : Type 0} (f : X → List A) (xs : List X) (i : ℕ) (d : X) (lt : i < length xs) where
  pub flat-more : flat_map f (take (i + 1) xs) ≡ flat_map f (take i xs) ++ f (get_or xs i d)
  flat-more =
      ap (flat_map f) (take_more xs i d lt)
      ∙ flat_map-append f (take i xs) (get_or xs i d ∷ [])
      ∙ ap (λ (ys : List A). flat_map f (take i xs) ++ ys) (append-nil (f (get_or xs i d)))

  flat_size : length (flat_map f (take (i + 1) xs))
      ≡ length (flat_map f (take i xs)) + length (f (get_or xs i d))
  flat_size = ap (λ (ys : List A). length ys) flat-more ∙ length-append (flat_map f (take i xs)) (f (get_or xs i d))

flat_take : {X A : Type 0} (f : X → List A) (xs : List X) (i : ℕ)
    → length (flat_map f (take i xs)) ≤ length (flat_map f xs)
flat_take f [] zero = (let z : length (flat_map f (take 0 [])) ≤ length (flat_map f []) = omega arith in z)
flat_take f [] (suc i) = (let z : length (flat_map f (take (suc i) [])) ≤ length (flat_map f []) = omega arith in z)
flat_take f (x ∷ xs) zero = (let z : length (flat_map f (take 0 (x ∷ xs))) ≡ 0 = refl in omega arith)
flat_take f (x ∷ xs) (suc i) =
    let ih = flat_take f xs i in
    let a = length-append (f x) (flat_map f (take i xs)) in
    let b = length-append (f x) (flat_map f xs) in
    omega arith

pub flat-part : {X A : Type 0} (f : X → List A) (xs : List X) (i : ℕ) (d : X) → i < length xs
    → length (flat_map f (take i xs)) + length (f (get_or xs i d)) ≤ length (flat_map f xs)
flat-part f xs i d lt =
    let a = flat_size f xs i d lt in
    let b = flat_take f xs (i + 1) in
    omega arith

-- ---- variables before a class

module _ (xs : List Deadline) (n i : ℕ) (d : Deadline) (lt : i < length xs) where
  -- those of one class more
  pub before-more : (before new cycles : ℕ) → before ≡ n + length (all_launched (take i xs))
      → cycles ≡ length (class_launched (get_or xs i d)) → new ≡ before + cycles
      → new ≡ n + length (all_launched (take (i + 1) xs))
  before-more before new cycles b c e = (let s = flat_size class_launched xs i d lt in omega arith)

  pub before-within : (before cycles : ℕ) → before ≡ n + length (all_launched (take i xs))
      → cycles ≡ length (class_launched (get_or xs i d)) → before + cycles ≤ n + length (all_launched xs)
  before-within before cycles b c = (let s = flat-part class_launched xs i d lt in omega arith)

-- ---- the look-up of a variable

module _ (counted : List Deadline) (once : NoTwice (classes counted)) (i : ℕ) (d : Deadline) (lt : i < length counted)
    (class cycle : ℕ) where
  abbrev x : Deadline
  x = get_or counted i d

  abbrev rest : List Deadline
  rest = drop (suc i) counted

  opened : (n : ℕ) → at_of class cycle (numbered n (all_launched (drop i counted)))
      ≡ at_of class cycle (numbered n (all_launched (x ∷ rest)))
  opened n = ap (λ (ys : List Deadline). at_of class cycle (numbered n (all_launched ys))) (drop-cons counted i d lt)

  pub found-here : (n : ℕ) → x.class ≡ class
      → at_of x.class cycle (numbered n (class_launched x))
      ≡ at_of class cycle (numbered n (all_launched (drop i counted)))
  found-here n e =
      let tail = subst (λ (ys : List Deadline). NoTwice (classes ys)) (drop-cons counted i d lt)
      (once-drop counted i once) in
      sym (opened n ∙ look-here class cycle n x rest e tail.0)

  pub found-later : (n new cycles : ℕ) → ¬ (x.class ≡ class) → cycles ≡ length (class_launched x) → new ≡ n + cycles
      → at_of class cycle (numbered new (all_launched (drop (i + 1) counted)))
      ≡ at_of class cycle (numbered n (all_launched (drop i counted)))
  found-later n new cycles ne c e =
      let one : i + 1 ≡ suc i = omega arith in
      ap (λ j. at_of class cycle (numbered new (all_launched (drop j counted)))) one
      ∙ ap (λ m. at_of class cycle (numbered m (all_launched rest))) (e ∙ ap (λ m. n + m) c)
      ∙ sym (opened n ∙ look-past class cycle n x rest ne)

  pub room-later : (n new cycles m : ℕ) → cycles ≡ length (class_launched x) → new ≡ n + cycles
      → n + length (all_launched (drop i counted)) ≡ m → new + length (all_launched (drop (i + 1) counted)) ≡ m
  room-later n new cycles m c e h =
      let one : i + 1 ≡ suc i = omega arith in
      let later = ap (λ j. length (all_launched (drop j counted))) one in
      let a = ap (λ (ys : List Deadline). length (all_launched ys)) (drop-cons counted i d lt) in
      let b = length-append (class_launched x) (all_launched rest) in
      omega arith

  pub room-here : (n m : ℕ) → n + length (all_launched (drop i counted)) ≡ m → n + length (class_launched x) ≤ m
  room-here n m h =
      let a = ap (λ (ys : List Deadline). length (all_launched ys)) (drop-cons counted i d lt) in
      let b = length-append (class_launched x) (all_launched rest) in
      omega arith

pub found-none : (counted : List Deadline) (i class cycle n : ℕ) → length counted ≤ i
    → [] ≡ at_of class cycle (numbered n (all_launched (drop i counted)))
found-none [] zero class cycle n le = refl
found-none [] (suc i) class cycle n le = refl
found-none (x ∷ xs) zero class cycle n le = (let s : length (x ∷ xs)
    ≡ suc (length xs) = refl in absurd (omega (arith, s)))
found-none (x ∷ xs) (suc i) class cycle n le =
    (let s : length (x ∷ xs) ≡ suc (length xs) = refl in found-none xs i class cycle n (omega (arith, s)))

-- ---- the variable of a class's cycle

pub own-none : (x : Deadline) (cycle n : ℕ) → (cycle < x.first) ⊎ (x.last < cycle)
    → [] ≡ vars_of (is_launched_at x.class cycle) (numbered n (class_launched x))
own-none x cycle n out =
    sym (ap (map (λ p. positive p.0)) (own-out x.class (x.last + 1 - x.first) n x.first cycle (elim out [
      | inl lt ↦ inl lt
      | inr gt ↦ (away gt)
    ])))
  where
    away : x.last < cycle → (cycle < x.first) ⊎ (x.first + (x.last + 1 - x.first) ≤ cycle)
    away gt = elim (cases_lt cycle x.first) [
      | inl lt ↦ inl lt
      | inr ge ↦ inr (let z : x.first + (x.last + 1 - x.first) ≤ cycle = omega arith in z)
    ]

pub own-some : (x : Deadline) (cycle n : ℕ) → x.first ≤ cycle → cycle ≤ x.last
    → positive (n + (cycle - x.first) + 1) ∷ []
    ≡ vars_of (is_launched_at x.class cycle) (numbered n (class_launched x))
own-some x cycle n low high =
    sym (ap (map (λ p. positive p.0)) (own-in x.class (x.last + 1 - x.first) n x.first cycle low (omega arith)))

-- ---- what stays and what ends

module _ (xs : List Deadline) (apart : AreApart xs) (n i : ℕ) (d : Deadline) (lt : i < length xs) (start mid : Formula)
    (before cycles : ℕ) (here : before ≡ n + length (all_launched (take i xs)))
    (many : cycles ≡ length (class_launched (get_or xs i d))) where
  abbrev y : Deadline
  y = get_or xs i d

  abbrev ps : List (ℕ × Launched)
  ps = numbered n (all_launched xs)

  abbrev stays_of : Deadline → List (List Lit)
  stays_of x = map (stays_launched ps x) (range_with_len (x.first + 1) (x.last - x.first))

  stays_here : stays_of y ≡ map (stays_behind before) (range_with_len 1 (cycles - 1))
  stays_here =
      stays-by-place xs (apart-once xs apart.apart) n i d lt cycles (many ∙ cycles-size y)
      ∙ ap (λ b. map (stays_behind b) (range_with_len 1 (cycles - 1))) (sym here)

  pub stays-step : (new : Formula) → mid ≡ with_clauses start (flat_map stays_of (take i xs))
      → new ≡ with_clauses mid (map (stays_behind before) (range_with_len 1 (cycles - 1)))
      → new ≡ with_clauses start (flat_map stays_of (take (i + 1) xs))
  stays-step new is e =
      added start mid new (map (stays_behind before) (range_with_len 1 (cycles - 1))) (flat_map stays_of (take i xs))
      (flat_map stays_of (take (i + 1) xs)) is e
      (flat-more stays_of xs i d lt
      ∙ ap (λ (cs : List (List Lit)). flat_map stays_of (take i xs) ++ cs) stays_here)

  pub stays-room : mid ≡ with_clauses start (flat_map stays_of (take i xs))
      → length start.clauses + length (flat_map stays_of xs) < 2 ^ 30 → length mid.clauses + (cycles - 1) < 2 ^ 30
  stays-room is room =
      let a = flat-part stays_of xs i d lt in
      let b = size-with start mid (flat_map stays_of (take i xs)) is in
      let c = ap (λ (cs : List (List Lit)). length cs) stays_here
      ∙ size-map (stays_behind before) (range_with_len 1 (cycles - 1))
      ∙ length-range_with_len 1 (cycles - 1) in
      omega arith

  abbrev end_of : Deadline → List Lit
  end_of x = vars_of (is_launched_at x.class x.last) ps

  pub ends-step : (new : Formula) (var : ℕ) → var ≡ before + cycles → mid ≡ with_clauses start (map end_of (take i xs))
      → new ≡ record mid { clauses = mid.clauses ++ (positive var ∷ []) ∷ [] }
      → new ≡ with_clauses start (map end_of (take (i + 1) xs))
  ends-step new var ev is e =
      let some : y.first ≤ y.last = All-contains (λ (x : Deadline). x.first ≤ x.last) xs y apart.some
      (Contains-get_or xs i d lt) in
      let size = cycles-size y in
      let end : end_of y ≡ positive var ∷ [] =
      end-by-place xs (apart-once xs apart.apart) n i d lt some var (omega arith) in
      added start mid new ((positive var ∷ []) ∷ []) (map end_of (take i xs)) (map end_of (take (i + 1) xs)) is e
      (map_more end_of xs i d lt ∙ ap (λ (c : List Lit). map end_of (take i xs) ++ c ∷ []) end)

  -- its variable exists
  pub ends-exist : (m : ℕ) → n + length (all_launched xs) ≤ m → All (IsLitOf m) (positive (before + cycles) ∷ [])
  ends-exist m le =
      let some : y.first ≤ y.last = All-contains (λ (x : Deadline). x.first ≤ x.last) xs y apart.some
      (Contains-get_or xs i d lt) in
      let size = cycles-size y in
      let within = before-within xs n i d lt before cycles here many in
      All-cons (IsLitOf m) (positive (before + cycles)) [] (record { above = omega arith; within = omega arith })
      (All-nil (IsLitOf m))

  pub ends-room : mid ≡ with_clauses start (map end_of (take i xs))
      → length start.clauses + length (map end_of xs) < 2 ^ 30 → length mid.clauses < 2 ^ 30
  ends-room is room =
      let a = size-with start mid (map end_of (take i xs)) is in
      let b = size-map end_of (take i xs) in
      let c = size-map end_of xs in
      let t = length-take i xs in
      omega arith

-- ---- limits

-- a formula with a counter more
abbrev pub next_formula : Formula → ℕ → List Lit → Formula
next_formula f most ls = record {
  vars = f.vars + at_most_vars most (length ls);
  clauses = f.clauses ++ at_most_clauses f.vars most ls;
}

module _ (ps : List (ℕ × Launched)) where
  -- the literals of a limit are no more than its classes
  pub lits-few : ((class cycle : ℕ) → length (vars_of (is_launched_at class cycle) ps) ≤ 1) → (m : Limit)
      → length (limit_lits ps m) ≤ length m.due
  lits-few one m = few m.due
    where
      few : (due : List Deadline)
          → length (flat_map (λ x. vars_of (is_launched_at x.class (min m.cycle x.last)) ps) due) ≤ length due
      few [] = (let z : 0 ≤ 0 = omega arith in z)
      few (x ∷ due) =
          let a = length-append (vars_of (is_launched_at x.class (min m.cycle x.last)) ps)
          (flat_map (λ x. vars_of (is_launched_at x.class (min m.cycle x.last)) ps) due) in
          let b = one x.class (min m.cycle x.last) in
          let ih = few due in
          omega arith

  module _ (ms : List Limit) (i : ℕ) (d : Limit) (lt : i < length ms) (f : Formula) where
    abbrev m : Limit
    m = get_or ms i d

    abbrev lits : List Lit
    lits = limit_lits ps m

    pub limit-room-vars : (total : ℕ) → f.vars + limit_vars ps (drop i ms) ≡ total → total < 2 ^ 29
        → f.vars + at_most_vars m.most (length lits) < 2 ^ 29
    limit-room-vars total e few = (let a = ap (limit_vars ps) (drop-cons ms i d lt) in omega arith)

    pub limit-room : (total : List (List Lit)) → f.clauses ++ limit_counters f.vars ps (drop i ms) ≡ total
        → length total < 2 ^ 30
        → ((old p : ℕ) (lits : List Lit) → length (at_most_clauses old p lits) ≡ at_most_size p (length lits))
        → length f.clauses + at_most_size m.most (length lits) < 2 ^ 30
    limit-room total e few size =
        let a = ap (limit_counters f.vars ps) (drop-cons ms i d lt) in
        let next = f.vars + at_most_vars m.most (length lits) in
        let now = at_most_clauses f.vars m.most lits in
        let b = ap (λ (cs : List (List Lit)). length cs) (sym e ∙ ap (λ (cs : List (List Lit)). f.clauses ++ cs) a) in
        let c = length-append f.clauses (now ++ limit_counters next ps (drop (suc i) ms)) in
        let h = length-append now (limit_counters next ps (drop (suc i) ms)) in
        let s = size f.vars m.most lits in
        omega arith

    module _ (new : Formula) (ls : List Lit) (el : ls ≡ lits)
        (e : new ≡ next_formula f m.most ls) where
      vars_new : new.vars ≡ f.vars + at_most_vars m.most (length lits)
      vars_new = ap (λ (f : Formula). f.vars) e ∙ ap (λ (ls : List Lit). f.vars + at_most_vars m.most (length ls)) el

      pub limit-vars-step : (total : ℕ) → f.vars + limit_vars ps (drop i ms) ≡ total
          → new.vars + limit_vars ps (drop (i + 1) ms) ≡ total
      limit-vars-step total h =
          let a = ap (limit_vars ps) (drop-cons ms i d lt) in
          let one : i + 1 ≡ suc i = omega arith in
          let later = ap (λ j. limit_vars ps (drop j ms)) one in
          let v = vars_new in
          omega arith

      pub limit-clauses-step : (total : List (List Lit)) → f.clauses ++ limit_counters f.vars ps (drop i ms) ≡ total
          → new.clauses ++ limit_counters new.vars ps (drop (i + 1) ms) ≡ total
      limit-clauses-step total h =
          let one : i + 1 ≡ suc i = omega arith in
          let now = at_most_clauses f.vars m.most lits in
          let next = f.vars + at_most_vars m.most (length lits) in
          ap (λ (cs : List (List Lit)). cs ++ limit_counters new.vars ps (drop (i + 1) ms))
          (ap (λ (f : Formula). f.clauses) e ∙ ap (λ (ls : List Lit). f.clauses ++ at_most_clauses f.vars m.most ls) el)
          ∙ ap (λ v. (f.clauses ++ now) ++ limit_counters v ps (drop (i + 1) ms)) vars_new
          ∙ ap (λ j. (f.clauses ++ now) ++ limit_counters next ps (drop j ms)) one
          ∙ append_assoc f.clauses now (limit_counters next ps (drop (suc i) ms))
          ∙ ap (λ (cs : List (List Lit)). f.clauses ++ cs) (sym (ap (limit_counters f.vars ps) (drop-cons ms i d lt)))
          ∙ h

      pub limit-above : (old : ℕ) → old ≤ f.vars → old ≤ new.vars
      limit-above old le = (let v = vars_new in omega arith)

  pub limits-done : (ms : List Limit) (i : ℕ) (f old : Formula) → length ms ≤ i
      → f.vars + limit_vars ps (drop i ms) ≡ old.vars + limit_vars ps ms
      → f.clauses ++ limit_counters f.vars ps (drop i ms) ≡ old.clauses ++ limit_counters old.vars ps ms
      → f ≡ record { vars = old.vars + limit_vars ps ms; clauses = old.clauses ++ limit_counters old.vars ps ms }
  limits-done ms i f old le v c =
      let none : drop i ms ≡ [] = drop_all ms i le in
      let rest = ap (limit_vars ps) none in
      formula f.vars (old.vars + limit_vars ps ms) f.clauses (old.clauses ++ limit_counters old.vars ps ms)
      (omega arith)
      (sym (append-nil f.clauses)
      ∙ sym (ap (λ (ms : List Limit). f.clauses ++ limit_counters f.vars ps ms) none) ∙ c)
    where
      drop_all : (ms : List Limit) (i : ℕ) → length ms ≤ i → drop i ms ≡ []
      drop_all [] zero le = refl
      drop_all [] (suc i) le = refl
      drop_all (x ∷ xs) zero le = (let s : length (x ∷ xs) ≡ suc (length xs) = refl in absurd (omega (arith, s)))
      drop_all (x ∷ xs) (suc i) le = drop_all xs i (let s : length (x ∷ xs)
          ≡ suc (length xs) = refl in omega (arith, s))

-- the literals of a class and cycle are one at most, and no more than the variables
pub one-var : (n class cycle : ℕ) (counted : List Deadline) → NoTwice (classes counted)
    → length (vars_of (is_launched_at class cycle) (numbered n (all_launched counted))) ≤ 1
one-var n class cycle counted once =
    let a = size-vars (is_launched_at class cycle) n (all_launched counted) in
    let b = one-thing class cycle (all_launched counted) (things-once counted once) in
    omega arith

-- there are as many things as classes at least
pub many-things : (counted : List Deadline) → All (λ x. x.first ≤ x.last) counted
    → length counted ≤ length (all_launched counted)
many-things [] some = (let z : length {A = Deadline} [] ≤ length (all_launched []) = omega arith in z)
many-things (x ∷ xs) some =
    let now : x.first ≤ x.last = All-head (λ (x : Deadline). x.first ≤ x.last) x xs some in
    let ih = many-things xs (All-tail (λ (x : Deadline). x.first ≤ x.last) x xs some) in
    let a = length-append (class_launched x) (all_launched xs) in
    let b = cycles-size x in
    let s : length (x ∷ xs) ≡ suc (length xs) = refl in
    omega arith

pub limit-lits-over : (n m : ℕ) (counted : List Deadline) (l : Limit) → n + length (all_launched counted) ≤ m
    → All (IsLitOf m) (limit_lits (numbered n (all_launched counted)) l)
limit-lits-over n m counted l le = over l.due
  where
    over : (due : List Deadline)
        → All (IsLitOf m)
        (flat_map (λ x. vars_of (is_launched_at x.class (min l.cycle x.last)) (numbered n (all_launched counted))) due)
    over [] = All-nil (IsLitOf m)
    over (x ∷ due) =
        All-append (IsLitOf m)
        (vars_of (is_launched_at x.class (min l.cycle x.last)) (numbered n (all_launched counted)))
        (flat_map (λ x. vars_of (is_launched_at x.class (min l.cycle x.last)) (numbered n (all_launched counted))) due)
        (vars-over (is_launched_at x.class (min l.cycle x.last)) n m (all_launched counted) le) (over due)

-- ---- the clauses of one class

module _ (before place : ℕ) where
  -- one place more
  pub behind-step : (start mid : Formula) → 1 ≤ place → (new : Formula)
      → mid ≡ with_clauses start (map (stays_behind before) (range_with_len 1 (place - 1)))
      → new ≡ with_clauses mid ((negative (before + place) ∷ positive (before + place + 1) ∷ []) ∷ [])
      → new ≡ with_clauses start (map (stays_behind before) (range_with_len 1 (place + 1 - 1)))
  behind-step start mid le new is e =
      added start mid new (stays_behind before place ∷ []) (map (stays_behind before) (range_with_len 1 (place - 1)))
      (map (stays_behind before) (range_with_len 1 (place + 1 - 1))) is e
      (ap (λ m. map (stays_behind before) (range_with_len 1 m))
      (let z : place + 1 - 1 ≡ place - 1 + 1 = omega arith in z)
      ∙ map-range_with_len_more (stays_behind before) 1 (place - 1) place
      (let z : 1 + (place - 1) ≡ place = omega arith in z))

  pub behind-room : (cycles : ℕ) (start mid : Formula) → 1 ≤ place → place < cycles
      → mid ≡ with_clauses start (map (stays_behind before) (range_with_len 1 (place - 1)))
      → length start.clauses + (cycles - 1) < 2 ^ 30 → length mid.clauses < 2 ^ 30
  behind-room cycles start mid le lt is room =
      let a = size-with start mid (map (stays_behind before) (range_with_len 1 (place - 1))) is in
      let b = size-map (stays_behind before) (range_with_len 1 (place - 1)) in
      let c = length-range_with_len 1 (place - 1) in
      omega arith

-- ---- the variables

module _ (counted : List Deadline) (i : ℕ) (d : Deadline) (lt : i < length counted) (start mid : Formula) (cycles : ℕ)
    (is : mid ≡ record start { vars = start.vars + length (all_launched (take i counted)) })
    (many : cycles ≡ length (class_launched (get_or counted i d))) where
  vars_now : mid.vars ≡ start.vars + length (all_launched (take i counted))
  vars_now = ap (λ (f : Formula). f.vars) is

  pub vars-more : (new : Formula) → new ≡ record mid { vars = mid.vars + cycles }
      → new ≡ record start { vars = start.vars + length (all_launched (take (i + 1) counted)) }
  vars-more new e =
      e
      ∙ formula (mid.vars + cycles) (start.vars + length (all_launched (take (i + 1) counted))) mid.clauses
      start.clauses
      (let s = flat_size class_launched counted i d lt in let v = vars_now in omega arith)
      (ap (λ (f : Formula). f.clauses) is)

  pub vars-room : start.vars + length (all_launched counted) < 2 ^ 29 → mid.vars + cycles < 2 ^ 29
  vars-room few = (let s = flat-part class_launched counted i d lt in let v = vars_now in omega arith)

-- ---- literals

-- one thing's literals more
pub flat-pushed : {X A : Type 0} (f : X → List A) (items xs : List X) (i : ℕ) (d : X) → items ≡ xs → i < length items
    → (mid new more : List A) → mid ≡ flat_map f (take i xs) → new ≡ mid ++ more → more ≡ f (get_or items i d)
    → new ≡ flat_map f (take (i + 1) xs)
flat-pushed {X} {A} f items xs i d same lt mid new more is e m =
    e ∙ ap (λ (ys : List A). ys ++ more) is
    ∙ ap (λ (ys : List A). flat_map f (take i xs) ++ ys) (m ∙ ap (λ (zs : List X). f (get_or zs i d)) same)
    ∙ sym (flat-more f xs i d (subst (λ (zs : List X). i < length zs) same lt))
