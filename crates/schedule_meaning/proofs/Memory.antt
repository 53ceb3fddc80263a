-- The memory before a cycle: the function and the fact say the same.
use Rattle.std.proofs.Common.{◌≡◌, ℕ, suc, ◌+◌, ◌<◌, ◌≤◌, List, [], ◌∷◌, length, refl, sym, ◌∙◌, ap, subst, inl, inr, ◌⊎◌, arith, Bool, true, false, cond, ◌&&◌, get_or, Option, Some, None}
use Rattle.std.specs.Prelude.{All, AllPairs, Contains, IsTrue, Decides, nat_lt}
use Rattle.std.specs.Option.{option_map_or}
use Rattle.std.proofs.lemmas.Bool.{false≢true}
use Rattle.std.proofs.lemmas.Bool.Decides.{Decides-ltb, Decides-and, not_from_Decides}
use Rattle.std.proofs.lemmas.List.{get_or_default}
use Rattle.std.proofs.lemmas.List.Elements.{All-nil, All-cons, All-weaker, All-contains, All-head, All-tail}
use Rattle.schedule_meaning.specs.Launches.{launches, is_store, class_at, later, latest, memory_before, memory_after}
use Rattle.schedule_meaning.specs.Fits.{IsLatestStore, IsLeft}
use Rattle.graph_meaning.specs.declared.graphs.LaunchGraph.{LaunchGraph}
use Rattle.schedule_meaning.specs.declared.schedules.Launch.{Launch}

pub contains_first : {X : Type 0} (x : X) (xs : List X) → Contains (x ∷ xs) x
contains_first x xs = (0, omega arith, refl)

pub contains_later : {X : Type 0} (y x : X) (xs : List X) → Contains xs x → Contains (y ∷ xs) x
contains_later y x xs h = (suc h.0, (let l = h.1 in omega arith), h.2)

abbrev pub IsLatest : (Launch → Bool) → List Launch → Option Launch → Type 0
IsLatest test ls None = All (λ m. test m ≡ false) ls
IsLatest test ls (Some l) = Contains ls l × (test l ≡ true) × All (λ m. test m ≡ true → m.cycle ≤ l.cycle) ls

module _ (test : Launch → Bool) where
  later_step : (l m : Launch) (ls : List Launch) → test l ≡ true → IsLatest test ls (Some m) → (b : Bool) → Decides b (l.cycle < m.cycle) → IsLatest test (l ∷ ls) (cond b (Some m) (Some l))
  later_step l m ls e h true d = (contains_later l m ls h.0, h.1, All-cons (λ n. test n ≡ true → n.cycle ≤ m.cycle) l ls (λ _. let lt : l.cycle < m.cycle = d.0 refl in omega arith) h.2)
  later_step l m ls e h false d =
      let below : m.cycle ≤ l.cycle = (let n : ¬ (l.cycle < m.cycle) = not_from_Decides false d refl in omega arith) in
      (contains_first l ls, e, All-cons (λ n. test n ≡ true → n.cycle ≤ l.cycle) l ls (λ _. omega arith) (All-weaker (λ n. test n ≡ true → n.cycle ≤ m.cycle) (λ n. test n ≡ true → n.cycle ≤ l.cycle) (λ n f t. let p = f t in omega arith) ls h.2))

  latest_step : (l : Launch) (ls : List Launch) (b : Bool) → test l ≡ b → (o : Option Launch) → IsLatest test ls o → IsLatest test (l ∷ ls) (cond b (later l o) o)
  latest_step l ls false e None h = All-cons (λ m. test m ≡ false) l ls e h
  latest_step l ls false e (Some m) h = (contains_later l m ls h.0, h.1, All-cons (λ n. test n ≡ true → n.cycle ≤ m.cycle) l ls (λ t. absurd (false≢true (sym e ∙ t))) h.2)
  latest_step l ls true e None h = (contains_first l ls, e, All-cons (λ n. test n ≡ true → n.cycle ≤ l.cycle) l ls (λ _. omega arith) (All-weaker (λ n. test n ≡ false) (λ n. test n ≡ true → n.cycle ≤ l.cycle) (λ n f t. absurd (false≢true (sym f ∙ t))) ls h))
  latest_step l ls true e (Some m) h = later_step l m ls e h (nat_lt l.cycle m.cycle) (Decides-ltb l.cycle m.cycle)

  pub latest_is : (ls : List Launch) → IsLatest test ls (latest test ls)
  latest_is [] = All-nil (λ m. test m ≡ false)
  latest_is (l ∷ ls) = latest_step l ls (test l) refl (latest test ls) (latest_is ls)

module _ (g : LaunchGraph) (t : ℕ) where
  abbrev early : Launch → Bool
  early l = launches g is_store l && nat_lt l.cycle t

  early_decides : (l : Launch) → Decides (early l) (IsTrue (launches g is_store l) × (l.cycle < t))
  early_decides l = Decides-and (launches g is_store l) (nat_lt l.cycle t) ((λ h. h), (λ h. h)) (Decides-ltb l.cycle t)

  left_of : (ls : List Launch) (o : Option Launch) → IsLatest early ls o → IsLeft g ls t (option_map_or (λ l. class_at g l.row) o g.entry)
  left_of ls None h =
      inl (refl, All-weaker (λ m. early m ≡ false) (λ m. IsTrue (launches g is_store m) → t ≤ m.cycle) (λ m f s. let n : ¬ (IsTrue (launches g is_store m) × (m.cycle < t)) = not_from_Decides (early m) (early_decides m) f in let k : ¬ (m.cycle < t) = λ l. n (s, l) in omega arith) ls h)
  left_of ls (Some l) h =
      let d = early_decides l in
      let both : IsTrue (launches g is_store l) × (l.cycle < t) = d.0 h.1 in
      inr (h.0.0, l, h.0.1, h.0.2, (record { store = both.0; early = both.1; latest = All-weaker (λ m. early m ≡ true → m.cycle ≤ l.cycle) (λ m. IsTrue (launches g is_store m) → m.cycle < t → m.cycle ≤ l.cycle) (λ m f s lt. f ((early_decides m).1 (s, lt))) ls h.2 }, refl))

  -- the memory before a cycle is left by the stores of earlier cycles
  pub memory_before_is : (ls : List Launch) → IsLeft g ls t (memory_before g ls t)
  memory_before_is ls = left_of ls (latest early ls) (latest_is early ls)

module _ (g : LaunchGraph) (ls : List Launch) where
  abbrev pub IsSingle : Type 0
  IsSingle = AllPairs (λ l m. IsTrue (launches g is_store l) → IsTrue (launches g is_store m) → ¬ (l.cycle ≡ m.cycle)) ls

  -- two stores of one cycle at two places
  not_two : IsSingle → (i j : ℕ) (l m : Launch) → i < j → j < length ls → get_or ls i l ≡ l → get_or ls j m ≡ m → IsTrue (launches g is_store l) → IsTrue (launches g is_store m) → l.cycle ≡ m.cycle → ⊥
  not_two single i j l m lt len ei ej sl sm same =
      let P : Launch → Launch → Type 0 = λ a b. IsTrue (launches g is_store a) → IsTrue (launches g is_store b) → ¬ (a.cycle ≡ b.cycle) in
      let at_l : P (get_or ls i l) (get_or ls j l) = single i j l lt len in
      let at_m : P l (get_or ls j l) = subst (λ x. P x (get_or ls j l)) ei at_l in
      let both : P l m = subst (λ x. P l x) (get_or_default ls j l m len ∙ ej) at_m in
      both sl sm same

  same_store : IsSingle → (i j : ℕ) (l m : Launch) → i < length ls → j < length ls → get_or ls i l ≡ l → get_or ls j m ≡ m → IsTrue (launches g is_store l) → IsTrue (launches g is_store m) → l.cycle ≡ m.cycle → (i < j) ⊎ (j < i) ⊎ (i ≡ j) → l ≡ m
  same_store single i j l m li lj ei ej sl sm same (inl a) = absurd (not_two single i j l m a lj ei ej sl sm same)
  same_store single i j l m li lj ei ej sl sm same (inr (inl a)) = absurd (not_two single j i m l a li ej ei sm sl (sym same))
  same_store single i j l m li lj ei ej sl sm same (inr (inr a)) = sym ei ∙ get_or_default ls i l m li ∙ ap (λ k. get_or ls k m) a ∙ ej

  apart : (i j : ℕ) → (i < j) ⊎ (j < i) ⊎ (i ≡ j)
  apart i j = grind arith

  clash : (t : ℕ) (l : Launch) → Contains ls l → IsLatestStore g ls t l → All (λ m. IsTrue (launches g is_store m) → t ≤ m.cycle) ls → ⊥
  clash t l h s all =
      let le : t ≤ l.cycle = All-contains (λ m. IsTrue (launches g is_store m) → t ≤ m.cycle) ls l all h s.store in
      let lt : l.cycle < t = s.early in
      absurd (omega arith)

  -- where no cycle has two stores, one class is left
  pub left_once : IsSingle → (t a b : ℕ) → IsLeft g ls t a → IsLeft g ls t b → a ≡ b
  left_once single t a b (inl p) (inl q) = p.0 ∙ sym q.0
  left_once single t a b (inl p) (inr (k, l, lt, e, (s, c))) = absurd (clash t l (k, lt, e) s p.1)
  left_once single t a b (inr (k, l, lt, e, (s, c))) (inl q) = absurd (clash t l (k, lt, e) s q.1)
  left_once single t a b (inr (i, l, li, ei, (sl, cl))) (inr (j, m, lj, ej, (sm, cm))) =
      let ml : m.cycle ≤ l.cycle = All-contains (λ n. IsTrue (launches g is_store n) → n.cycle < t → n.cycle ≤ l.cycle) ls m sl.latest (j, lj, ej) sm.store sm.early in
      let lm : l.cycle ≤ m.cycle = All-contains (λ n. IsTrue (launches g is_store n) → n.cycle < t → n.cycle ≤ m.cycle) ls l sm.latest (i, li, ei) sl.store sl.early in
      let same : l.cycle ≡ m.cycle = omega arith in
      cl ∙ ap (λ n. class_at g n.row) (same_store single i j l m li lj ei ej sl.store sm.store same (apart i j)) ∙ sym cm

latest_agree : (p q : Launch → Bool) (ls : List Launch) → All (λ l. p l ≡ q l) ls → latest p ls ≡ latest q ls
latest_agree p q [] h = refl
latest_agree p q (l ∷ ls) h =
    ap (λ b. cond b (later l (latest p ls)) (latest p ls)) (All-head (λ l. p l ≡ q l) l ls h)
    ∙ ap (λ o. cond (q l) (later l o) o) (latest_agree p q ls (All-tail (λ l. p l ≡ q l) l ls h))

and_true : (b c : Bool) → c ≡ true → b ≡ (b && c)
and_true true c e = sym e
and_true false c e = refl

-- after all launches
pub after_is_before : (g : LaunchGraph) (ls : List Launch) (t : ℕ) → All (λ l. l.cycle < t) ls → memory_after g ls ≡ memory_before g ls t
after_is_before g ls t h =
    ap (λ o. option_map_or (λ l. class_at g l.row) o g.entry)
    (latest_agree (launches g is_store) (early g t) ls (All-weaker (λ l. l.cycle < t) (λ l. launches g is_store l ≡ early g t l) (λ l lt. and_true (launches g is_store l) (nat_lt l.cycle t) ((Decides-ltb l.cycle t).1 lt)) ls h))

-- some cycle is after all launches
pub after_all : (ls : List Launch) → (t : ℕ) × All (λ l. l.cycle < t) ls
after_all [] = (0, All-nil (λ l. l.cycle < 0))
after_all (l ∷ ls) =
    let r = after_all ls in
    (r.0 + l.cycle + 1, All-cons (λ m. m.cycle < r.0 + l.cycle + 1) l ls (omega arith) (All-weaker (λ m. m.cycle < r.0) (λ m. m.cycle < r.0 + l.cycle + 1) (λ m lt. omega arith) ls r.1))
