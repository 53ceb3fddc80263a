-- The lists of limits, one cycle or one group more.
use Rattle.std.proofs.Common.{◌≡◌, ℕ, ◌+◌, ◌-◌, ◌*◌, ◌<◌, ◌≤◌, Bool, true, false, cond, List, [], ◌∷◌, ◌++◌, length, map, refl, sym, ap, ◌∙◌, arith, append_assoc}
use Rattle.std.specs.List.{All, filter, flat_map, range_with_len}
use Rattle.std.proofs.lemmas.Bool.{le-ltb, lt-ltb}
use Rattle.std.proofs.lemmas.List.{append-nil}
use Rattle.std.proofs.lemmas.List.Concat.{flat_map-append}
use Rattle.std.proofs.lemmas.List.Elements.{All-contains, filter-append}
use Rattle.std.proofs.lemmas.List.FromFn.{map-range_with_len_more}
use Rattle.cycle_encoding.proofs.Members.{map-out}
use Rattle.cycle_encoding.proofs.Rows.{range_more}
use Rattle.slot_capacity.proofs.Extremes.{greatest-within}
use Rattle.slot_capacity.specs.Limits.{coming_by, from_cycle, is_first, last_of, later_limits, limit_at, member_limits}
use Rattle.slot_capacity.specs.declared.deadlines.Deadline.{Deadline}
use Rattle.slot_capacity.specs.declared.limits.Limit.{Limit}

map_itself : (xs : List ℕ) → map (λ x. x) xs ≡ xs
map_itself [] = refl
map_itself (x ∷ xs) = ap (λ ys. x ∷ ys) (map_itself xs)

pub range-end : (a n : ℕ) → range_with_len a (n + 1) ≡ range_with_len a n ++ (a + n) ∷ []
range-end a n =
    sym (map_itself (range_with_len a (n + 1)))
    ∙ map-range_with_len_more (λ x. x) a n (a + n) refl
    ∙ ap (λ (xs : List ℕ). xs ++ (a + n) ∷ []) (map_itself (range_with_len a n))

-- where each ends by a cycle, so does the last
pub last-early : (xs : List Deadline) (n : ℕ) → All (λ x. x.last ≤ n) xs → last_of xs ≤ n
last-early xs n all =
    greatest-within (map (λ (x : Deadline). x.last) xs) n (λ m h.
    let x = map-out (λ (x : Deadline). x.last) xs m h in
    let le = All-contains (λ (x : Deadline). x.last ≤ n) xs x.0 all x.1 in
    let e = x.2 in
    omega arith)

-- ---- from one cycle to another

module _ (group : List ℕ) (later : List Deadline) (e : ℕ) where
  abbrev up_to : ℕ → List Limit
  up_to n = flat_map (limit_at group later e) (range_with_len e n)

  more : (n cycle : ℕ) → cycle ≡ e + n → up_to (n + 1) ≡ up_to n ++ limit_at group later e cycle
  more n cycle is =
      ap (flat_map (limit_at group later e)) (range-end e n)
      ∙ flat_map-append (limit_at group later e) (range_with_len e n) ((e + n) ∷ [])
      ∙ ap (λ (ms : List Limit). up_to n ++ ms) (append-nil (limit_at group later e (e + n)))
      ∙ ap (λ t. up_to n ++ limit_at group later e t) (sym is)

  pub later-more : (old mid new : List Limit) (cycle : ℕ) → e ≤ cycle → mid ≡ old ++ up_to (cycle - e)
      → new ≡ mid ++ limit_at group later e cycle → new ≡ old ++ up_to (cycle + 1 - e)
  later-more old mid new cycle le is h =
      h ∙ ap (λ (ms : List Limit). ms ++ limit_at group later e cycle) is
      ∙ append_assoc old (up_to (cycle - e)) (limit_at group later e cycle)
      ∙ ap (λ (ms : List Limit). old ++ ms)
      (sym (more (cycle - e) cycle (let z : cycle ≡ e + (cycle - e) = omega arith in z))
      ∙ ap up_to (let z : cycle - e + 1 ≡ cycle + 1 - e = omega arith in z))

-- ---- from each first cycle

module _ (group : List ℕ) (members : List Deadline) (e : ℕ) where
  abbrev from_first : ℕ → List Limit
  from_first e = later_limits group (from_cycle e members) e

  one_more : (b : Bool) → is_first members e ≡ b
      → member_limits (e + 1) group members ≡ member_limits e group members ++ cond b (from_first e) []
  one_more b t =
      ap (λ (es : List ℕ). flat_map from_first (filter (is_first members) es)) (range_more e)
      ∙ ap (flat_map from_first) (filter-append (is_first members) (range_with_len 0 e) (e ∷ []))
      ∙ flat_map-append from_first (filter (is_first members) (range_with_len 0 e))
      (cond (is_first members e) (e ∷ []) [])
      ∙ ap (λ c. member_limits e group members ++ flat_map from_first (cond c (e ∷ []) [])) t
      ∙ ap (λ (ms : List Limit). member_limits e group members ++ ms) (by_case b)
    where
      by_case : (b : Bool) → flat_map from_first (cond b (e ∷ []) []) ≡ cond b (from_first e) []
      by_case true = append-nil (from_first e)
      by_case false = refl

  pub first-more : (old mid new : List Limit) → mid ≡ old ++ member_limits e group members
      → new ≡ mid ++ cond (is_first members e) (from_first e) [] → new ≡ old ++ member_limits (e + 1) group members
  first-more old mid new is h =
      let now = cond (is_first members e) (from_first e) [] in
      h ∙ ap (λ (ms : List Limit). ms ++ now) is
      ∙ append_assoc old (member_limits e group members) now
      ∙ ap (λ (ms : List Limit). old ++ ms) (sym (one_more (is_first members e) refl))

-- ---- one limit

module _ (group : List ℕ) (later : List Deadline) (e t most : ℕ) (due : List Deadline)
    (due_are : due ≡ coming_by t later)
    (most_is : most ≡ length group * (t + 1 - e)) (old : List Limit) where
  abbrev the : List Deadline → ℕ → Limit
  the due most = record { due = due; cycle = t; most = most }

  abbrev at_test : Bool → List Limit
  at_test b = cond b (the (coming_by t later) (length group * (t + 1 - e)) ∷ []) []

  -- the classes aren't too many
  pub limit-none : length due ≤ most → old ≡ old ++ limit_at group later e t
  limit-none le =
      let few = ap (λ (xs : List Deadline). length xs) due_are in
      sym (ap (λ b. old ++ at_test b)
      (le-ltb (length group * (t + 1 - e)) (length (coming_by t later)) (omega arith))
      ∙ append-nil old)

  -- they are
  pub limit-one : most < length due → (new : List Limit) → new ≡ old ++ the due most ∷ []
      → new ≡ old ++ limit_at group later e t
  limit-one lt new h =
      let many = ap (λ (xs : List Deadline). length xs) due_are in
      h ∙ ap (λ (xs : List Deadline). old ++ the xs most ∷ []) due_are
      ∙ ap (λ m. old ++ the (coming_by t later) m ∷ []) most_is
      ∙ sym (ap (λ b. old ++ at_test b)
      (lt-ltb (length group * (t + 1 - e)) (length (coming_by t later)) (omega arith)))
