-- Lists of things that are sorted by a number, one thing more at a time.
use Rattle.std.proofs.Common.{◌≡◌, ℕ, zero, suc, ◌+◌, ◌<◌, ◌≤◌, Bool, true, false, cond, List, ◌∷◌, ◌++◌, [], length, map, take, get_or, set, refl, sym, ap, ◌∙◌, arith, inl, inr}
use Rattle.std.specs.Prelude.{◌==◌, ◌&&◌, nat_lt}
use Rattle.std.specs.List.{range_with_len}
use Rattle.std.proofs.lemmas.Bool.{cases_lt, eq-eqb, ne_eqb, lt-ltb, le-ltb}
use Rattle.std.proofs.lemmas.List.{append-nil}
use Rattle.std.proofs.lemmas.List.FromFn.{length-map-range_with_len, get_or-map-range_with_len}
use Rattle.cnf_core.specs.declared.literal.Lit.{Lit}
use Rattle.graph_meaning.specs.declared.graphs.LaunchGraph.{LaunchGraph}
use Rattle.schedule_meaning.specs.Launches.{launches, gives_word, gives, class_at}
use Rattle.schedule_meaning.specs.declared.schedules.Launch.{Launch}
use Rattle.cycle_encoding.specs.Shapes.{numbered, positive, vars_of}
use Rattle.cycle_encoding.specs.Families.{is_at}
use Rattle.cycle_encoding.specs.Steps.{given_in, at_in, put_at}
use Rattle.cycle_encoding.proofs.FamilySteps.{given-more}

module _ {X : Type 0} where
  pub map_same : (f h : ℕ → X) (s n : ℕ) → ((c : ℕ) → s ≤ c → c < s + n → h c ≡ f c) → map f (range_with_len s n) ≡ map h (range_with_len s n)
  map_same f h s zero e = refl
  map_same f h s (suc n) e = ap (λ x. x ∷ map f (range_with_len (s + 1) n)) (sym (e s (omega arith) (omega arith))) ∙ ap (λ xs. h s ∷ xs) (map_same f h (s + 1) n (λ c a b. e c (omega arith) (omega arith)))

  pub set_map : (f h : ℕ → X) (y : X) (s n i : ℕ) → i < n → h (s + i) ≡ y → ((c : ℕ) → s ≤ c → c < s + n → (c ≡ s + i → ⊥) → h c ≡ f c) → set (map f (range_with_len s n)) i y ≡ map h (range_with_len s n)
  set_map f h y s zero i lt at e = absurd (omega arith)
  set_map f h y s (suc n) zero lt at e =
      let z : s + 0 ≡ s = omega arith in
      ap (λ x. x ∷ map f (range_with_len (s + 1) n)) (sym at ∙ ap h z)
      ∙ ap (λ xs. h s ∷ xs) (map_same f h (s + 1) n (λ c a b. e c (omega arith) (omega arith) (λ q. absurd (omega arith))))
  set_map f h y s (suc n) (suc i) lt at e =
      let z : s + 1 + i ≡ s + suc i = omega arith in
      ap (λ x. x ∷ set (map f (range_with_len (s + 1) n)) i y) (sym (e s (omega arith) (omega arith) (λ q. absurd (omega arith))))
      ∙ ap (λ xs. h s ∷ xs) (set_map f h y (s + 1) n i (omega arith) (ap h z ∙ at) (λ c a b ne. e c (omega arith) (omega arith) (λ q. ne (omega arith))))

-- one thing more in the list of its number
module _ {X : Type 0} (f h : ℕ → List X) (n number : ℕ) (x : X) where
  pub put_more : ((b : ℕ) → h b ≡ f b ++ cond (number == b) (x ∷ []) []) → put_at (map f (range_with_len 0 n)) number x ≡ map h (range_with_len 0 n)
  put_more e =
      let xs = map f (range_with_len 0 n) in
      let size : length xs ≡ n = length-map-range_with_len f 0 n in
      elim (cases_lt number n) [
        | inl lt ↦
            (let in_range : nat_lt number (length xs) ≡ true = lt-ltb number (length xs) (omega arith) in
            let got : get_or xs number [] ≡ f number = get_or-map-range_with_len f 0 n number number [] lt (omega arith) in
            ap (λ b. cond b (set xs number (get_or xs number [] ++ x ∷ [])) xs) in_range
            ∙ ap (λ l. set xs number (l ++ x ∷ [])) got
            ∙ set_map f h (f number ++ x ∷ []) 0 n number lt (ap h (let z : 0 + number ≡ number = omega arith in z) ∙ e number ∙ ap (λ b. f number ++ cond b (x ∷ []) []) (eq-eqb number number refl))
            (λ c a b ne. e c ∙ ap (λ b. f c ++ cond b (x ∷ []) []) (ne_eqb number c (λ q. ne (omega arith))) ∙ append-nil (f c)))
        | inr le ↦
            (let out : nat_lt number (length xs) ≡ false = le-ltb number (length xs) (omega arith) in
            ap (λ b. cond b (set xs number (get_or xs number [] ++ x ∷ [])) xs) out
            ∙ map_same f h 0 n (λ c a b. e c ∙ ap (λ b. f c ++ cond b (x ∷ []) []) (ne_eqb number c (λ q. absurd (omega arith))) ∙ append-nil (f c)))
      ]

  -- or in none
  pub put_none : ((b : ℕ) → h b ≡ f b) → map f (range_with_len 0 n) ≡ map h (range_with_len 0 n)
  put_none e = map_same f h 0 n (λ c a b. e c)

-- the launches of each class, and those of each cycle of a slot
module _ (ls : List Launch) (i : ℕ) (d : Launch) (n : ℕ) (mid new : List (List (ℕ × Launch))) (lt : i < length ls) where
  abbrev this : Launch
  this = get_or ls i d

  module _ (sort : ℕ → List Launch → List (ℕ × Launch)) (number : ℕ) (given : Bool) (test : ℕ → Bool) (more : (b : ℕ) → sort b (take (i + 1) ls) ≡ sort b (take i ls) ++ cond (given && test b) ((i + 1, this) ∷ []) []) (tests : (b : ℕ) → test b ≡ (number == b)) (is : mid ≡ map (λ b. sort b (take i ls)) (range_with_len 0 n)) where
    sorted : (g : Bool) → given ≡ g → new ≡ cond g (put_at mid number (i + 1, this)) mid → new ≡ map (λ b. sort b (take (i + 1) ls)) (range_with_len 0 n)
    sorted true e p =
        p ∙ ap (λ (xs : List (List (ℕ × Launch))). put_at xs number (i + 1, this)) is
        ∙ put_more (λ b. sort b (take i ls)) (λ b. sort b (take (i + 1) ls)) n number (i + 1, this) (λ b. more b ∙ ap (λ c. sort b (take i ls) ++ cond (c && test b) ((i + 1, this) ∷ []) []) e ∙ ap (λ c. sort b (take i ls) ++ cond c ((i + 1, this) ∷ []) []) (tests b))
    sorted false e p =
        p ∙ is ∙ put_none (λ b. sort b (take i ls)) (λ b. sort b (take (i + 1) ls)) n 0 (i + 1, this) (λ b. more b ∙ ap (λ c. sort b (take i ls) ++ cond (c && test b) ((i + 1, this) ∷ []) []) e ∙ append-nil (sort b (take i ls)))

    pub sort_step : new ≡ cond given (put_at mid number (i + 1, this)) mid → new ≡ map (λ b. sort b (take (i + 1) ls)) (range_with_len 0 n)
    sort_step p = sorted given refl p

  given_by : (g : LaunchGraph) (b : ℕ) → given_in g b (take (i + 1) ls) ≡ given_in g b (take i ls) ++ cond (gives g b this) ((i + 1, this) ∷ []) []
  unfolding given_in
  given_by g b = given-more (gives g b) ls i d lt

  pub maker_step : (g : LaunchGraph) → mid ≡ map (λ b. given_in g b (take i ls)) (range_with_len 0 n) → new ≡ cond (launches g gives_word this) (put_at mid (class_at g this.row) (i + 1, this)) mid → new ≡ map (λ b. given_in g b (take (i + 1) ls)) (range_with_len 0 n)
  maker_step g is p = sort_step (given_in g) (class_at g this.row) (launches g gives_word this) (λ b. class_at g this.row == b) (given_by g) (λ b. refl) is p

  at_by : (slot b : ℕ) → at_in slot b (take (i + 1) ls) ≡ at_in slot b (take i ls) ++ cond (is_at slot b this) ((i + 1, this) ∷ []) []
  unfolding at_in
  at_by slot b = given-more (is_at slot b) ls i d lt

  pub slot_step : (slot : ℕ) → mid ≡ map (λ b. at_in slot b (take i ls)) (range_with_len 0 n) → new ≡ cond (this.slot == slot) (put_at mid this.cycle (i + 1, this)) mid → new ≡ map (λ b. at_in slot b (take (i + 1) ls)) (range_with_len 0 n)
  slot_step slot is p = sort_step (at_in slot) this.cycle (this.slot == slot) (λ b. this.cycle == b) (at_by slot) (λ b. refl) is p

pub given_empty : (g : LaunchGraph) (n : ℕ) → map {B = List (ℕ × Launch)} (λ b. []) (range_with_len 0 n) ≡ map (λ b. given_in g b []) (range_with_len 0 n)
unfolding given_in
given_empty g n = refl

pub at_empty : (slot n : ℕ) → map {B = List (ℕ × Launch)} (λ b. []) (range_with_len 0 n) ≡ map (λ b. at_in slot b []) (range_with_len 0 n)
unfolding at_in
at_empty slot n = refl

pub at_vars : (slot cycle : ℕ) (ls : List Launch) → map (λ (p : ℕ × Launch). positive p.0) (at_in slot cycle ls) ≡ vars_of (is_at slot cycle) (numbered 0 ls)
unfolding at_in
at_vars slot cycle ls = refl

-- the list of a cycle
module _ (slot k cycle : ℕ) (ls : List Launch) (lists xs : List (List (ℕ × Launch))) (is : lists ≡ map (λ t. at_in slot t ls) (range_with_len 0 k)) (same : xs ≡ lists) (lt : cycle < k) where
  pub list_below : cycle < length xs
  list_below = (let size = ap (λ (ys : List (List (ℕ × Launch))). length ys) (same ∙ is) ∙ length-map-range_with_len (λ t. at_in slot t ls) 0 k in omega arith)

  pub list_vars : (list some : List (ℕ × Launch)) (items lits : List Lit) → list ≡ get_or xs cycle list → some ≡ list → items ≡ map (λ (p : ℕ × Launch). positive p.0) some → lits ≡ items → lits ≡ vars_of (is_at slot cycle) (numbered 0 ls)
  list_vars list some items lits at s i l =
      l ∙ i ∙ ap (λ (ps : List (ℕ × Launch)). map (λ (p : ℕ × Launch). positive p.0) ps)
      (s ∙ at ∙ ap (λ (ys : List (List (ℕ × Launch))). get_or ys cycle list) (same ∙ is) ∙ get_or-map-range_with_len (λ t. at_in slot t ls) 0 k cycle cycle list lt (omega arith))
      ∙ at_vars slot cycle ls
