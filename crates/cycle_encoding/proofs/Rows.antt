-- Counters that loops add, one more at a time.
use Rattle.std.proofs.Common.{◌≡◌, ℕ, suc, zero, ◌+◌, ◌<◌, ◌≤◌, ◌^◌, Bool, true, false, cond, List, [], ◌∷◌, ◌++◌, length, map, refl, sym, ap, ◌∙◌, subst, arith, inl, inr, append_assoc}
use Rattle.std.specs.List.{All, filter, flat_map, sum_by, range_with_len}
use Rattle.std.proofs.lemmas.List.{append-nil, length-append, map-id}
use Rattle.std.proofs.lemmas.Bool.{cases_eq}
use Rattle.std.proofs.lemmas.List.Sums.{sum_by-cons, sum_by-append, sum_by-take-le}
use Rattle.std.proofs.lemmas.List.FromFn.{map-range_with_len_more, take-map-range_with_len}
use Rattle.std.proofs.lemmas.List.Concat.{flat_map-append}
use Rattle.cnf_core.specs.declared.literal.Lit.{Lit}
use Rattle.cnf_core.specs.Formula.{Formula, IsLitOf}
use Rattle.cnf_core.specs.Counter.{at_most_clauses, at_most_vars, at_most_size}
use Rattle.schedule_meaning.specs.declared.schedules.Launch.{Launch}
use Rattle.cycle_encoding.specs.Shapes.{numbered, positive, vars_of, counters, counters_vars, counters_size}
use Rattle.cycle_encoding.specs.Families.{is_at, slot_row, slot_rows}
pub use Rattle.cycle_encoding.specs.Steps.{with_counters}
use Rattle.cycle_encoding.proofs.Blocks.{vars-over}

module _ (p : ℕ) where
  pub vars-append : (xs ys : List (List Lit)) → counters_vars p (xs ++ ys) ≡ counters_vars p xs + counters_vars p ys
  vars-append xs ys = sum_by-append (λ lits. at_most_vars p (length lits)) xs ys

  pub size-append : (xs ys : List (List Lit)) → counters_size p (xs ++ ys) ≡ counters_size p xs + counters_size p ys
  size-append xs ys = sum_by-append (λ lits. at_most_size p (length lits)) xs ys

  pub counters-append : (old : ℕ) (xs ys : List (List Lit)) → counters old p (xs ++ ys) ≡ counters old p xs ++ counters (old + counters_vars p xs) p ys
  counters-append old [] ys = (let z : old ≡ old + counters_vars p [] = (let n : counters_vars p [] ≡ 0 = refl in omega (arith, n)) in ap (λ m. counters m p ys) z)
  counters-append old (x ∷ xs) ys =
      let next = old + at_most_vars p (length x) in
      let total : next + counters_vars p xs ≡ old + counters_vars p (x ∷ xs) = omega (arith, sum_by-cons (λ lits. at_most_vars p (length lits)) x xs) in
      ap (λ cs. at_most_clauses old p x ++ cs) (counters-append next xs ys ∙ ap (λ m. counters next p xs ++ counters m p ys) total)
      ∙ sym (append_assoc (at_most_clauses old p x) (counters next p xs) (counters (old + counters_vars p (x ∷ xs)) p ys))

pub formula : (a b : ℕ) (c d : List (List Lit)) → a ≡ b → c ≡ d → (let f : Formula = record { vars = a; clauses = c } in let h : Formula = record { vars = b; clauses = d } in f ≡ h)
formula a b c d p q =
    let f : Formula = record { vars = a; clauses = c } in
    let m : Formula = record { vars = b; clauses = c } in
    let h : Formula = record { vars = b; clauses = d } in
    let x : f ≡ m = ap {A = ℕ} {B = Formula} (λ n. record { vars = n; clauses = c }) p in
    let y : m ≡ h = ap {A = List (List Lit)} {B = Formula} (λ cs. record { vars = b; clauses = cs }) q in
    x ∙ y

-- first some, then others
pub both-counters : (f : Formula) (xs ys : List (List Lit)) → with_counters (with_counters f xs) ys ≡ with_counters f (xs ++ ys)
both-counters f xs ys =
    formula (f.vars + counters_vars 1 xs + counters_vars 1 ys) (f.vars + counters_vars 1 (xs ++ ys)) ((f.clauses ++ counters f.vars 1 xs) ++ counters (f.vars + counters_vars 1 xs) 1 ys) (f.clauses ++ counters f.vars 1 (xs ++ ys))
    (omega (arith, vars-append 1 xs ys))
    (append_assoc f.clauses (counters f.vars 1 xs) (counters (f.vars + counters_vars 1 xs) 1 ys) ∙ ap (λ cs. f.clauses ++ cs) (sym (counters-append 1 f.vars xs ys)))

-- the formula that one counter leaves
abbrev pub counted : Formula → List Lit → Formula
counted f lits = record { vars = f.vars + at_most_vars 1 (length lits); clauses = f.clauses ++ at_most_clauses f.vars 1 lits }

pub one_counter : (f : Formula) (lits : List Lit) → counted f lits ≡ with_counters f (lits ∷ [])
one_counter f lits =
    formula (f.vars + at_most_vars 1 (length lits)) (f.vars + counters_vars 1 (lits ∷ [])) (f.clauses ++ at_most_clauses f.vars 1 lits) (f.clauses ++ counters f.vars 1 (lits ∷ []))
    (let z : counters_vars 1 [] ≡ 0 = refl in omega (arith, z, sum_by-cons (λ lits. at_most_vars 1 (length lits)) lits []))
    (ap (λ cs. f.clauses ++ cs) (sym (append-nil (at_most_clauses f.vars 1 lits))))

row_more : (s i : ℕ) (xs : List (ℕ × Launch)) → slot_row s (i + 1) xs ≡ slot_row s i xs ++ vars_of (is_at s i) xs ∷ []
row_more s i xs = map-range_with_len_more (λ t. vars_of (is_at s t) xs) 0 i i (omega arith)

pub range_more : (i : ℕ) → range_with_len 0 (i + 1) ≡ range_with_len 0 i ++ i ∷ []
range_more i = sym (map-id (range_with_len 0 (i + 1))) ∙ map-range_with_len_more (λ (x : ℕ). x) 0 i i (omega arith) ∙ ap (λ (xs : List ℕ). xs ++ i ∷ []) (map-id (range_with_len 0 i))

rows_more : (s k : ℕ) (xs : List (ℕ × Launch)) → slot_rows (s + 1) k xs ≡ slot_rows s k xs ++ slot_row s k xs
rows_more s k xs =
    ap (flat_map (λ s. slot_row s k xs)) (range_more s) ∙ flat_map-append (λ s. slot_row s k xs) (range_with_len 0 s) (s ∷ [])
    ∙ ap (λ (ys : List (List Lit)). slot_rows s k xs ++ ys) (append-nil (slot_row s k xs))

-- one more counter of a slot
pub one_added : (f h : Formula) (lits : List Lit) (s i : ℕ) (xs : List (ℕ × Launch)) → h ≡ with_counters f (slot_row s i xs) → lits ≡ vars_of (is_at s i) xs → counted h lits ≡ with_counters f (slot_row s (i + 1) xs)
one_added f h lits s i xs e l =
    ap (λ (h : Formula). counted h lits) e ∙ ap (counted (with_counters f (slot_row s i xs))) l
    ∙ one_counter (with_counters f (slot_row s i xs)) (vars_of (is_at s i) xs)
    ∙ both-counters f (slot_row s i xs) (vars_of (is_at s i) xs ∷ [])
    ∙ ap (with_counters f) (sym (row_more s i xs))

-- one more slot
pub slot_added : (f h : Formula) (s k : ℕ) (xs : List (ℕ × Launch)) → h ≡ with_counters f (slot_rows s k xs) → with_counters h (slot_row s k xs) ≡ with_counters f (slot_rows (s + 1) k xs)
slot_added f h s k xs e =
    ap (λ (h : Formula). with_counters h (slot_row s k xs)) e ∙ both-counters f (slot_rows s k xs) (slot_row s k xs) ∙ ap (with_counters f) (sym (rows_more s k xs))

pub none_added : (f : Formula) → f ≡ with_counters f []
none_added f = formula f.vars (f.vars + counters_vars 1 []) f.clauses (f.clauses ++ []) (let z : counters_vars 1 [] ≡ 0 = refl in omega (arith, z)) (sym (append-nil f.clauses))

-- ---- room

module _ (p : ℕ) (size : (old p : ℕ) (lits : List Lit) → length (at_most_clauses old p lits) ≡ at_most_size p (length lits)) where
  pub counters-size : (old : ℕ) (groups : List (List Lit)) → length (counters old p groups) ≡ counters_size p groups
  counters-size old [] = refl
  counters-size old (c ∷ cs) =
      length-append (at_most_clauses old p c) (counters (old + at_most_vars p (length c)) p cs)
      ∙ ap (λ n. n + length (counters (old + at_most_vars p (length c)) p cs)) (size old p c)
      ∙ ap (λ n. at_most_size p (length c) + n) (counters-size (old + at_most_vars p (length c)) cs)
      ∙ sym (sum_by-cons (λ lits. at_most_size p (length lits)) c cs)

short_step : {X : Type 0} (n : ℕ) (x : X) (ps : List (ℕ × X)) (b : Bool) → length (map (λ p. positive p.0) (cond b ((n, x) ∷ ps) ps)) ≤ suc (length (map (λ p. positive p.0) ps))
short_step n x ps true = (let z : length (map (λ p. positive p.0) ((n, x) ∷ ps)) ≡ suc (length (map (λ p. positive p.0) ps)) = refl in omega (arith, z))
short_step n x ps false = omega arith

pub vars-short : {X : Type 0} (test : X → Bool) (n : ℕ) (xs : List X) → length (vars_of test (numbered n xs)) ≤ length xs
vars-short test n [] = (let z : length (vars_of test []) ≡ 0 = refl in omega (arith, z))
vars-short test n (x ∷ xs) =
    let a = short_step (n + 1) x (filter (λ p. test p.1) (numbered (n + 1) xs)) (test x) in
    let b = vars-short test (n + 1) xs in
    let c : length (x ∷ xs) ≡ suc (length xs) = refl in
    omega arith

-- a part of the counters takes no more than all of them
pub part_of : (f : List Lit → ℕ) (g : ℕ → List Lit) (i k : ℕ) → i ≤ k → sum_by f (map g (range_with_len 0 i)) ≤ sum_by f (map g (range_with_len 0 k))
part_of f g i k le = (let e = ap (sum_by f) (take-map-range_with_len g 0 k i le) in let h = sum_by-take-le f (map g (range_with_len 0 k)) i in omega arith)

pub row_vars : (s i k : ℕ) (xs : List (ℕ × Launch)) → i < k → counters_vars 1 (slot_row s i xs) + at_most_vars 1 (length (vars_of (is_at s i) xs)) ≤ counters_vars 1 (slot_row s k xs)
row_vars s i k xs lt =
    let a = part_of (λ lits. at_most_vars 1 (length lits)) (λ t. vars_of (is_at s t) xs) (i + 1) k (omega arith) in
    let b = ap (counters_vars 1) (row_more s i xs) ∙ vars-append 1 (slot_row s i xs) (vars_of (is_at s i) xs ∷ []) in
    let z : counters_vars 1 [] ≡ 0 = refl in
    let c = sum_by-cons (λ lits. at_most_vars 1 (length lits)) (vars_of (is_at s i) xs) [] in
    omega arith

pub row_size : (s i k : ℕ) (xs : List (ℕ × Launch)) → i < k → counters_size 1 (slot_row s i xs) + at_most_size 1 (length (vars_of (is_at s i) xs)) ≤ counters_size 1 (slot_row s k xs)
row_size s i k xs lt =
    let a = part_of (λ lits. at_most_size 1 (length lits)) (λ t. vars_of (is_at s t) xs) (i + 1) k (omega arith) in
    let b = ap (counters_size 1) (row_more s i xs) ∙ size-append 1 (slot_row s i xs) (vars_of (is_at s i) xs ∷ []) in
    let z : counters_size 1 [] ≡ 0 = refl in
    let c = sum_by-cons (λ lits. at_most_size 1 (length lits)) (vars_of (is_at s i) xs) [] in
    omega arith

slots_part : (s n k : ℕ) (xs : List (ℕ × Launch)) → s < n → (ys : List (List Lit)) × (slot_rows n k xs ≡ slot_rows s k xs ++ slot_row s k xs ++ ys)
slots_part s zero k xs lt = absurd (omega arith)
slots_part s (suc n) k xs lt =
    let at : n + 1 ≡ suc n = omega arith in
    let next : slot_rows (suc n) k xs ≡ slot_rows n k xs ++ slot_row n k xs = ap (λ m. slot_rows m k xs) (sym at) ∙ rows_more n k xs in
    elim (cases_eq s n) [
      | inl e ↦ ([], next ∙ ap (λ m. slot_rows m k xs ++ slot_row m k xs) (sym e) ∙ sym (append-nil (slot_rows s k xs ++ slot_row s k xs)))
      | inr ne ↦
          (let r = slots_part s n k xs (omega arith) in
          (r.0 ++ slot_row n k xs, next ∙ ap (λ (zs : List (List Lit)). zs ++ slot_row n k xs) r.1 ∙ append_assoc (slot_rows s k xs ++ slot_row s k xs) r.0 (slot_row n k xs)))
    ]

pub slots_vars : (s n k : ℕ) (xs : List (ℕ × Launch)) → s < n → counters_vars 1 (slot_rows s k xs) + counters_vars 1 (slot_row s k xs) ≤ counters_vars 1 (slot_rows n k xs)
slots_vars s n k xs lt =
    let r = slots_part s n k xs lt in
    let a = ap (counters_vars 1) r.1 ∙ vars-append 1 (slot_rows s k xs ++ slot_row s k xs) r.0 in
    let b = vars-append 1 (slot_rows s k xs) (slot_row s k xs) in
    omega arith

pub slots_size : (s n k : ℕ) (xs : List (ℕ × Launch)) → s < n → counters_size 1 (slot_rows s k xs) + counters_size 1 (slot_row s k xs) ≤ counters_size 1 (slot_rows n k xs)
slots_size s n k xs lt =
    let r = slots_part s n k xs lt in
    let a = ap (counters_size 1) r.1 ∙ size-append 1 (slot_rows s k xs ++ slot_row s k xs) r.0 in
    let b = size-append 1 (slot_rows s k xs) (slot_row s k xs) in
    omega arith

-- what the next counter of a slot asks
module _ (f h : Formula) (s i k : ℕ) (ls : List Launch) (lits : List Lit) (e : h ≡ with_counters f (slot_row s i (numbered 0 ls))) (l : lits ≡ vars_of (is_at s i) (numbered 0 ls)) (lt : i < k) where
  pub next_vars : f.vars + counters_vars 1 (slot_row s k (numbered 0 ls)) < 2 ^ 29 → h.vars + at_most_vars 1 (length lits) < 2 ^ 29
  next_vars room =
      let a = row_vars s i k (numbered 0 ls) lt in
      let b : h.vars ≡ f.vars + counters_vars 1 (slot_row s i (numbered 0 ls)) = ap (λ (h : Formula). h.vars) e in
      let c : at_most_vars 1 (length lits) ≡ at_most_vars 1 (length (vars_of (is_at s i) (numbered 0 ls))) = ap (λ (ls : List Lit). at_most_vars 1 (length ls)) l in
      omega arith

  pub next_room : ((old p : ℕ) (lits : List Lit) → length (at_most_clauses old p lits) ≡ at_most_size p (length lits)) → length f.clauses + counters_size 1 (slot_row s k (numbered 0 ls)) < 2 ^ 30 → length h.clauses + at_most_size 1 (length lits) < 2 ^ 30
  next_room size room =
      let a = row_size s i k (numbered 0 ls) lt in
      let b : length h.clauses ≡ length f.clauses + counters_size 1 (slot_row s i (numbered 0 ls)) = ap (λ (h : Formula). length h.clauses) e ∙ length-append f.clauses (counters f.vars 1 (slot_row s i (numbered 0 ls))) ∙ ap (λ n. length f.clauses + n) (counters-size 1 size f.vars (slot_row s i (numbered 0 ls))) in
      let c : at_most_size 1 (length lits) ≡ at_most_size 1 (length (vars_of (is_at s i) (numbered 0 ls))) = ap (λ (ls : List Lit). at_most_size 1 (length ls)) l in
      omega arith

  pub next_exist : length ls ≤ f.vars → All (IsLitOf h.vars) lits
  next_exist exist =
      let b : h.vars ≡ f.vars + counters_vars 1 (slot_row s i (numbered 0 ls)) = ap (λ (h : Formula). h.vars) e in
      subst (All (IsLitOf h.vars)) (sym l) (vars-over (is_at s i) 0 h.vars ls (omega arith))

  pub next_short : length ls < 2 ^ 29 → length lits < 2 ^ 29
  next_short few = (let a = vars-short (is_at s i) 0 ls in let b = ap (λ (ls : List Lit). length ls) l in omega arith)

-- what the next slot asks
module _ (f h : Formula) (s n k : ℕ) (ls : List Launch) (e : h ≡ with_counters f (slot_rows s k (numbered 0 ls))) (lt : s < n) where
  pub slot_vars : f.vars + counters_vars 1 (slot_rows n k (numbered 0 ls)) < 2 ^ 29 → h.vars + counters_vars 1 (slot_row s k (numbered 0 ls)) < 2 ^ 29
  slot_vars room =
      let a = slots_vars s n k (numbered 0 ls) lt in
      let b : h.vars ≡ f.vars + counters_vars 1 (slot_rows s k (numbered 0 ls)) = ap (λ (h : Formula). h.vars) e in
      omega arith

  pub slot_room : ((old p : ℕ) (lits : List Lit) → length (at_most_clauses old p lits) ≡ at_most_size p (length lits)) → length f.clauses + counters_size 1 (slot_rows n k (numbered 0 ls)) < 2 ^ 30 → length h.clauses + counters_size 1 (slot_row s k (numbered 0 ls)) < 2 ^ 30
  slot_room size room =
      let a = slots_size s n k (numbered 0 ls) lt in
      let b : length h.clauses ≡ length f.clauses + counters_size 1 (slot_rows s k (numbered 0 ls)) = ap (λ (h : Formula). length h.clauses) e ∙ length-append f.clauses (counters f.vars 1 (slot_rows s k (numbered 0 ls))) ∙ ap (λ n. length f.clauses + n) (counters-size 1 size f.vars (slot_rows s k (numbered 0 ls))) in
      omega arith
