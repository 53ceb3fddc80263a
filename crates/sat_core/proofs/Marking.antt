-- Marks of the steps that are needed, and how many are of the last level.
use Rattle.std.proofs.Common.{◌≡◌, ℕ, ◌+◌, ◌-◌, ◌<◌, ◌≤◌, Bool, true, false, cond, List, [], ◌∷◌, length, take, drop, set, get_or, refl, sym, ap, ◌∙◌, subst, arith, inl, inr, suc}
use Rattle.std.specs.List.{count_by}
use Rattle.std.proofs.lemmas.Bool.{cases_eq, cases_lt, cond-true, cond-false}
use Rattle.std.proofs.lemmas.List.{drop-set-add, drop-set-lt, get_or-drop, length-drop, length-set, get_or-set_same, get_or-set_other}
use Rattle.std.proofs.lemmas.List.Sums.{sum_by-set, sum_by-cons, count_by-le-length}
use Rattle.std.proofs.lemmas.List.Elements.{All-more, All-weaker}
use Rattle.cnf_core.specs.declared.literal.Lit.{Lit}
use Rattle.sat_core.specs.Walks.{trail_index, is_marked, last_level_count, AreUnmarked, AreUnmarkedBelow, MarksClause}

one : Bool → ℕ
one b = cond {A = ℕ} b 1 0

pub late_set : (last i : ℕ) (xs : List Bool) (v : Bool) → i < length xs → last ≤ i → last_level_count last (set xs i v) + cond {A = ℕ} (is_marked xs i) 1 0 ≡ last_level_count last xs + cond {A = ℕ} v 1 0
unfolding last_level_count
late_set last i xs v few low =
    let j = i - last in
    let at : last + j ≡ i = omega arith in
    let size = length-drop last xs in
    let moved : drop last (set xs i v) ≡ set (drop last xs) j v = subst (λ (k : ℕ). drop last (set xs k v) ≡ set (drop last xs) j v) at (drop-set-add last xs j v) in
    let here : get_or (drop last xs) j false ≡ is_marked xs i = get_or-drop last xs j false ∙ ap (λ (k : ℕ). get_or xs k false) at in
    let sum : count_by (λ b. b) (set (drop last xs) j v) + cond {A = ℕ} (get_or (drop last xs) j false) 1 0 ≡ count_by (λ b. b) (drop last xs) + cond {A = ℕ} v 1 0 =
    sum_by-set (λ (b : Bool). cond {A = ℕ} b 1 0) (drop last xs) j v false (omega arith) in
    subst (λ (ys : List Bool). count_by (λ b. b) ys + cond {A = ℕ} (is_marked xs i) 1 0 ≡ count_by (λ b. b) (drop last xs) + cond {A = ℕ} v 1 0) (sym moved)
    (subst (λ (b : Bool). count_by (λ b. b) (set (drop last xs) j v) + cond {A = ℕ} b 1 0 ≡ count_by (λ b. b) (drop last xs) + cond {A = ℕ} v 1 0) here sum)

pub late_early : (last i : ℕ) (xs : List Bool) (v : Bool) → i < last → last_level_count last (set xs i v) ≡ last_level_count last xs
unfolding last_level_count
late_early last i xs v early = ap (count_by (λ b. b)) (drop-set-lt last xs i v early)

one-true : (b : Bool) → b ≡ true → cond {A = ℕ} b 1 0 ≡ 1
one-true b e = cond-true {A = ℕ} b 1 0 e

one-false : (b : Bool) → b ≡ false → cond {A = ℕ} b 1 0 ≡ 0
one-false b e = cond-false {A = ℕ} b 1 0 e

pub late_marked : (last i : ℕ) (xs : List Bool) → i < length xs → last ≤ i → is_marked xs i ≡ false → last_level_count last (set xs i true) ≡ last_level_count last xs + 1
late_marked last i xs few low off =
    let e = late_set last i xs true few low in
    let zero' = one-false (is_marked xs i) off in
    omega arith

pub late_again : (last i : ℕ) (xs : List Bool) → i < length xs → is_marked xs i ≡ true → last_level_count last (set xs i true) ≡ last_level_count last xs
late_again last i xs few on =
    elim (cases_lt i last) [
      | inl early ↦ late_early last i xs true early
      | inr low ↦
          (let e = late_set last i xs true few low in
          let one' = one-true (is_marked xs i) on in
          omega arith)
    ]

pub late_unmarked : (last i : ℕ) (xs : List Bool) → i < length xs → last ≤ i → is_marked xs i ≡ true → last_level_count last xs ≡ last_level_count last (set xs i false) + 1
late_unmarked last i xs few low on =
    let e = late_set last i xs false few low in
    let one' = one-true (is_marked xs i) on in
    omega arith

count-clear : (xs : List Bool) → ((k : ℕ) → get_or xs k false ≡ false) → count_by (λ b. b) xs ≡ 0
count-clear [] clear = refl
count-clear (x ∷ xs) clear =
    let rest = count-clear xs (λ k. clear (suc k)) in
    let first = one-false x (clear 0) in
    let e : count_by (λ b. b) (x ∷ xs) ≡ cond {A = ℕ} x 1 0 + count_by (λ b. b) xs = sum_by-cons (λ (b : Bool). cond {A = ℕ} b 1 0) x xs in
    omega arith

-- where no step of the last level is marked
pub late-clear : (last : ℕ) (xs : List Bool) → AreUnmarked last xs → last_level_count last xs ≡ 0
unfolding last_level_count
late-clear last xs clear = count-clear (drop last xs) (λ k. get_or-drop last xs k false ∙ clear (last + k) (omega arith))

pub late-some : (last i : ℕ) (xs : List Bool) → i < length xs → last ≤ i → is_marked xs i ≡ true → 1 ≤ last_level_count last xs
late-some last i xs few low on = (let e = late_unmarked last i xs few low on in omega arith)

-- where the first step of the last level alone is marked
pub late-one : (last : ℕ) (xs : List Bool) → last < length xs → is_marked xs last ≡ true → AreUnmarked (last + 1) xs → last_level_count last xs ≡ 1
late-one last xs few on clear =
    let e = late_unmarked last last xs few (omega arith) on in
    let none = late-clear last (set xs last false) (λ k low. elim (cases_eq k last) [
      | inl same ↦ ap (λ (j : ℕ). is_marked (set xs last false) j) same ∙ get_or-set_same xs last false false few
      | inr other ↦ get_or-set_other xs last k false false other ∙ clear k (omega arith)
    ]) in
    omega arith

pub late-le : (last : ℕ) (xs : List Bool) → last_level_count last xs ≤ length xs
unfolding last_level_count
late-le last xs = (let a = count_by-le-length (λ (b : Bool). b) (drop last xs) in let b = length-drop last xs in omega arith)

-- the mark of a step is taken
pub clear-unmarked : (i : ℕ) (xs : List Bool) → i < length xs → AreUnmarked (i + 1) xs → AreUnmarked i (set xs i false)
clear-unmarked i xs few clear k low =
    elim (cases_eq k i) [
      | inl same ↦ ap (λ (j : ℕ). is_marked (set xs i false) j) same ∙ get_or-set_same xs i false false few
      | inr other ↦ get_or-set_other xs i k false false other ∙ clear k (omega arith)
    ]

-- one literal more
pub needs-more : (indices : List ℕ) (clause : List Lit) (last i : ℕ) (d : Lit) (old mid new : List Bool) (added more : ℕ)
    → i < length clause → trail_index indices (get_or clause i d) < length mid → MarksClause indices (take i clause) clause last old mid added
    → new ≡ set mid (trail_index indices (get_or clause i d)) true → last_level_count last new ≡ last_level_count last mid + more → MarksClause indices (take (i + 1) clause) clause last old new (added + more)
needs-more indices clause last i d old mid new added more few within h is count =
    let p = trail_index indices (get_or clause i d) in
    let kept : (k : ℕ) → is_marked mid k ≡ true → is_marked new k ≡ true = λ k on. ap (λ (ns : List Bool). is_marked ns k) is ∙ stays k on in
    record {
      size = ap length is ∙ length-set mid p true ∙ h.size;
      keeps = λ k on. kept k (h.keeps k on);
      all = All-more (λ l. is_marked new (trail_index indices l) ≡ true) clause i d few
          (All-weaker (λ l. is_marked mid (trail_index indices l) ≡ true) (λ l. is_marked new (trail_index indices l) ≡ true) (λ l on. kept (trail_index indices l) on) (take i clause) h.all)
          (ap (λ (ns : List Bool). is_marked ns p) is ∙ get_or-set_same mid p true false within);
      only = λ n steps clear k low.
          (let at = steps i d few in
          let before = at.before in
          ap (λ (ns : List Bool). is_marked ns k) is ∙ get_or-set_other mid p k true false (λ same. omega arith) ∙ h.only n steps clear k low);
      below = λ n steps clear k low.
          (let before = steps i d few in
          ap (λ (ns : List Bool). is_marked ns k) is ∙ get_or-set_other mid p k true false (λ same. omega arith) ∙ h.below n steps clear k low);
      count = (let c = h.count in omega arith);
    }
  where
    stays : (k : ℕ) → is_marked mid k ≡ true → is_marked (set mid (trail_index indices (get_or clause i d)) true) k ≡ true
    stays k on =
        elim (cases_eq k (trail_index indices (get_or clause i d))) [
          | inl same ↦ ap (λ (j : ℕ). is_marked (set mid (trail_index indices (get_or clause i d)) true) j) same ∙ get_or-set_same mid (trail_index indices (get_or clause i d)) true false within
          | inr other ↦ get_or-set_other mid (trail_index indices (get_or clause i d)) k true false other ∙ on
        ]

pub below-unmarked : (n i : ℕ) (xs : List Bool) → i < length xs → AreUnmarkedBelow n xs → AreUnmarkedBelow n (set xs i false)
below-unmarked n i xs few below k low =
    elim (cases_eq k i) [
      | inl same ↦ ap (λ (j : ℕ). is_marked (set xs i false) j) same ∙ get_or-set_same xs i false false few
      | inr other ↦ get_or-set_other xs i k false false other ∙ below k low
    ]
