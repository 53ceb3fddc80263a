-- Marks of wanted classes, one more at a time.
use Rattle.std.proofs.Common.{◌≡◌, ℕ, zero, suc, ◌+◌, ◌<◌, ◌≤◌, Bool, true, false, cond, List, [], ◌∷◌, ◌++◌, length, map, take, set, get_or, refl, sym, ap, ◌∙◌, subst, arith, inl, inr, Option, Some, None, append_assoc}
use Rattle.std.specs.Prelude.{◌&&◌, ◌||◌, ◌==◌, ◌↔◌, not, Contains, is_some, slice_get}
use Rattle.std.specs.Option.{option_map_or}
use Rattle.std.specs.List.{count_by, filter, range_with_len}
use Rattle.std.proofs.lemmas.Bool.{false≢true, cases_Bool, cases_eq, eq-eqb, eqb-true, and_from, and_parts, or_cases, or_left, or_right, not-true, not_from_false}
use Rattle.std.proofs.lemmas.Option.{slice_get_within}
use Rattle.std.proofs.lemmas.List.{get_or-set_same, get_or-set_other, get_or_append_left, get_or_default, take_more, length-append, length-set, append-nil}
use Rattle.std.proofs.lemmas.List.Sums.{sum_by-cons, sum_by-set, count_by-le-length}
use Rattle.std.proofs.lemmas.List.Elements.{filter-append, Contains-append_left, Contains-push, Contains-push_cases}
use Rattle.graph_meaning.specs.Graphs.{is_memory_name}
use Rattle.graph_meaning.specs.WellFormed.{IsLaunchGraph, next_class}
use Rattle.graph_meaning.specs.declared.graphs.LaunchGraph.{LaunchGraph}
use Rattle.graph_meaning.specs.declared.graphs.LaunchRow.{LaunchRow}
use Rattle.graph_meaning.specs.declared.graphs.SetClass.{SetClass}
use Rattle.machine_table.specs.Tables.{ev6}
use Rattle.machine_table.specs.declared.tables.InstrKind.{InstrKind}
use Rattle.schedule_meaning.specs.declared.schedules.Operand.{Operand}
use Rattle.schedule_meaning.specs.Launches.{instr_at, gives_word, is_branch, is_store, class_at}
use Rattle.cycle_encoding.specs.Variables.{is_safe, row_numbers}
use Rattle.cycle_encoding.specs.Counts.{row_is}
use Rattle.cycle_encoding.specs.Narrow.{IsSafe, Lacks, Wanted, is_quad_store}
use Rattle.cycle_encoding.specs.Narrow.Wanted.{target, pinned, guard, store, quad_store, operand}
use Rattle.cycle_encoding.specs.declared.operands.There.TheVariants.{Always}
use Rattle.cycle_encoding.specs.Wanting.{is_marked_class, is_wanted_target, is_quad_row, is_root, giving_rows, AreWantedMarks, AreAllMarked, IsFollowed, IsLonger, StillMarked, wanted_needs}
use Rattle.cycle_encoding.proofs.Members.{here, nothing, filter-in, filter-out, range-in}
use Rattle.cycle_encoding.proofs.PinnedTests.{safe-is, safe-from}
use Rattle.cycle_encoding.proofs.PinnedRows.{within}
use Rattle.cycle_encoding.specs.Steps.{put_at}
use Rattle.cycle_encoding.proofs.Rows.{range_more}
use Rattle.cycle_encoding.proofs.Sorted.{put_more, put_none}
use Rattle.cycle_encoding.proofs.LackSteps.{need-in, need-out}
use Rattle.cycle_encoding.proofs.ComeSteps.{low-class, no-branch-word}
use Rattle.schedule_meaning.specs.declared.schedules.Allocation.TheVariants.{Block}

pub longer-same : (xs : List ℕ) → IsLonger xs xs
longer-same xs = ([], sym (append-nil xs))

pub longer-both : (xs ys zs : List ℕ) → IsLonger xs ys → IsLonger ys zs → IsLonger xs zs
longer-both xs ys zs a b = (a.0 ++ b.0, b.1 ∙ ap (λ (ws : List ℕ). ws ++ b.0) a.1 ∙ append_assoc xs a.0 b.0)

longer-in : (xs ys : List ℕ) (x : ℕ) → IsLonger xs ys → Contains xs x → Contains ys x
longer-in xs ys x l h = subst (λ (zs : List ℕ). Contains zs x) (sym l.1) (Contains-append_left xs l.0 x h)

longer-at : (xs ys : List ℕ) (i d : ℕ) → IsLonger xs ys → i < length xs → get_or ys i d ≡ get_or xs i d
longer-at xs ys i d l lt = ap (λ (zs : List ℕ). get_or zs i d) l.1 ∙ get_or_append_left xs l.0 d i lt

longer-size : (xs ys : List ℕ) → IsLonger xs ys → length xs ≤ length ys
longer-size xs ys l = (let e = ap (λ (zs : List ℕ). length zs) l.1 ∙ length-append xs l.0 in omega arith)

pub kept-marks : (old new : List Bool) (classes : List ℕ) → StillMarked old new → length new ≡ length old → AreAllMarked old classes → AreAllMarked new classes
kept-marks old new classes still size h c k lt = still c (h c k (omega arith))

pub one-mark : (marks : List Bool) (class : ℕ) → (class < length marks → is_marked_class marks class ≡ true) → AreAllMarked marks (class ∷ [])
one-mark marks class h c (zero, l, e) lt = subst (λ x. is_marked_class marks x ≡ true) e (h (let same : class ≡ c = e in omega arith))
one-mark marks class h c (suc i, l, e) lt = absurd (let z : length (class ∷ []) ≡ 1 = refl in omega (arith, z, l))

-- one class marked and listed
module _ (g : LaunchGraph) (old new : List Bool) (order longer : List ℕ) (class : ℕ) (lt : class < length old) (d : Bool) (free : get_or old class d ≡ false) (en : new ≡ set old class true) where
  other : (c : ℕ) → (c ≡ class → ⊥) → is_marked_class new c ≡ is_marked_class old c
  other c ne = ap (λ (xs : List Bool). get_or xs c false) en ∙ get_or-set_other old class c true false ne

  this : is_marked_class new class ≡ true
  this = ap (λ (xs : List Bool). get_or xs class false) en ∙ get_or-set_same old class true false lt

  size : length new ≡ length old
  size = ap (λ (xs : List Bool). length xs) en ∙ length-set old class true

  pub mark-still : StillMarked old new
  mark-still c h = elim (cases_eq c class) [ inl e ↦ subst (λ x. is_marked_class new x ≡ true) (sym e) this | inr ne ↦ other c ne ∙ h ]

  pub mark-has : AreAllMarked new (class ∷ [])
  mark-has = one-mark new class (λ _. this)

  pub mark-marks : longer ≡ order ++ class ∷ [] → Wanted g class → AreWantedMarks g old order → AreWantedMarks g new longer
  mark-marks eo w before = record {
    wanted = λ c h. elim (Contains-push_cases order class c (subst (λ (zs : List ℕ). Contains zs c) eo h)) [
      | inl k ↦ before.wanted c k
      | inr e ↦ subst (Wanted g) e w
    ];
    listed = λ c h. elim (cases_eq c class) [
      | inl e ↦ subst (λ (zs : List ℕ). Contains zs c) (sym eo) (subst (λ x. Contains (order ++ class ∷ []) x) (sym e) (Contains-push order class))
      | inr ne ↦ subst (λ (zs : List ℕ). Contains zs c) (sym eo) (Contains-append_left order (class ∷ []) c (before.listed c (sym (other c ne) ∙ h)))
    ];
    within = λ c h. (let s = size in elim (Contains-push_cases order class c (subst (λ (zs : List ℕ). Contains zs c) eo h)) [
      | inl k ↦ (let b = before.within c k in omega arith)
      | inr e ↦ omega arith
    ]);
    count =
        (let f : Bool → ℕ = λ b. cond {A = ℕ} b 1 0 in
        let a = ap (count_by (λ b. b)) en in
        let b = sum_by-set f old class true false lt in
        let z : f (get_or old class false) ≡ 0 = ap f (get_or_default old class false d lt ∙ free) in
        let o : f true ≡ 1 = refl in
        let k = before.count in
        let l = ap (λ (zs : List ℕ). length zs) eo ∙ length-append order (class ∷ []) in
        let one : length (class ∷ []) ≡ 1 = refl in
        omega arith);
  }

-- one more of several classes
pub more-marks : (old new : List Bool) (classes : List ℕ) (i d : ℕ) → i < length classes → StillMarked old new → length new ≡ length old → AreAllMarked old (take i classes) → AreAllMarked new (get_or classes i d ∷ []) → AreAllMarked new (take (i + 1) classes)
more-marks old new classes i d lt still size before now c k l =
    elim (Contains-push_cases (take i classes) (get_or classes i d) c (subst (λ (zs : List ℕ). Contains zs c) (take_more classes i d lt) k)) [
      | inl h ↦ still c (before c h (omega arith))
      | inr e ↦ now c (subst (λ x. Contains (get_or classes i d ∷ []) x) e (here (get_or classes i d) [])) l
    ]

-- ---- targets

pinned-wanted : (g : LaunchGraph) (s : SetClass) → Contains g.sets s → (o : Option ℕ) → s.pin ≡ o → is_some o ≡ true → Wanted g s.class
pinned-wanted g s h None e t = absurd (false≢true t)
pinned-wanted g s h (Some r) e t = pinned s r h e

pub target-wanted : (g : LaunchGraph) (s : SetClass) → Contains g.sets s → is_wanted_target g s ≡ true → Wanted g s.class
target-wanted g s h t =
    elim (or_cases (not (is_memory_name s.name) && not (is_safe g s.class)) (is_some s.pin) t) [
      | inl w ↦ (
          let p = and_parts (not (is_memory_name s.name)) (not (is_safe g s.class)) w in
          target s h (λ m. false≢true (sym (not-true (is_memory_name s.name) p.0) ∙ m)) (λ i. false≢true (sym (not-true (is_safe g s.class) p.1) ∙ safe-from g s.class i)))
      | inr p ↦ pinned-wanted g s h s.pin refl p
    ]

pub more-targets : (g : LaunchGraph) (old new : List Bool) (i : ℕ) (d s : SetClass) → i < length g.sets → s ≡ get_or g.sets i d → StillMarked old new → length new ≡ length old
    → ((x : SetClass) → Contains (take i g.sets) x → is_wanted_target g x ≡ true → AreAllMarked old (x.class ∷ []))
    → (is_wanted_target g s ≡ true → AreAllMarked new (s.class ∷ []))
    → (x : SetClass) → Contains (take (i + 1) g.sets) x → is_wanted_target g x ≡ true → AreAllMarked new (x.class ∷ [])
more-targets g old new i d s lt e still size before now x h t =
    elim (Contains-push_cases (take i g.sets) (get_or g.sets i d) x (subst (λ (zs : List SetClass). Contains zs x) (take_more g.sets i d lt) h)) [
      | inl k ↦ kept-marks old new (x.class ∷ []) still size (before x k t)
      | inr q ↦ (let same : s ≡ x = e ∙ q in subst (λ (y : SetClass). AreAllMarked new (y.class ∷ [])) same (now (subst (λ (y : SetClass). is_wanted_target g y ≡ true) (sym same) t)))
    ]

-- ---- stores and the branch

quad_in : (o : Option LaunchRow) → option_map_or (λ r. is_quad_store r.op) o false ≡ true
    → (r : LaunchRow) × (o ≡ Some r) × (is_quad_store r.op ≡ true)
quad_in None h = absurd (false≢true h)
quad_in (Some r) h = (r, refl, h)

instr_in : (test : InstrKind → Bool) (o : Option InstrKind) → option_map_or test o false ≡ true
    → (i : InstrKind) × (o ≡ Some i) × (test i ≡ true)
instr_in test None h = absurd (false≢true h)
instr_in test (Some i) h = (i, refl, h)

pub root-needs : (g : LaunchGraph) (row : ℕ) → is_root g row ≡ true → (class : ℕ) → Contains (wanted_needs g row) class → Wanted g class
root-needs g row h class k =
    let o = need-out Always g row class k in
    elim (or_cases (row_is g is_branch row) (row_is g is_store row || is_quad_row g row) h) [
      | inl b ↦ (let i = instr_in is_branch (instr_at g row) b in subst (Wanted g) o.2 (guard row o.0 i.0 i.1 i.2 o.1))
      | inr t ↦ elim (or_cases (row_is g is_store row) (is_quad_row g row) t) [
        | inl s ↦ (let i = instr_in is_store (instr_at g row) s in subst (Wanted g) o.2 (store row o.0 i.0 i.1 i.2 o.1))
        | inr q ↦
            (let r = quad_in (slice_get g.rows row) q in subst (Wanted g) o.2 (quad_store row r.0 o.0 r.1 r.2 o.1))
      ]
    ]

pub more-roots : (g : LaunchGraph) (old new : List Bool) (row : ℕ) → StillMarked old new → length new ≡ length old
    → ((r : ℕ) → r < row → is_root g r ≡ true → AreAllMarked old (wanted_needs g r))
    → (is_root g row ≡ true → AreAllMarked new (wanted_needs g row))
    → (r : ℕ) → r < row + 1 → is_root g r ≡ true → AreAllMarked new (wanted_needs g r)
more-roots g old new row still size before now r lt t =
    elim (cases_eq r row) [
      | inl e ↦ subst (λ x. is_root g x ≡ true → AreAllMarked new (wanted_needs g x)) (sym e) now t
      | inr ne ↦ kept-marks old new (wanted_needs g r) still size (before r (omega arith) t)
    ]

-- ---- rows of a wanted class

pub giving-out : (g : LaunchGraph) (class row : ℕ) → Contains (giving_rows g class) row → Contains (row_numbers g) row × (row_is g gives_word row ≡ true) × (class_at g row ≡ class)
giving-out g class row h =
    let f = filter-out (λ row. row_is g gives_word row && (class_at g row == class)) (row_numbers g) row h in
    let p = and_parts (row_is g gives_word row) (class_at g row == class) f.1 in
    (f.0, p.0, eqb-true (class_at g row) class p.1)

pub follow-wanted : (g : LaunchGraph) (class row c : ℕ) → Wanted g class → Contains (giving_rows g class) row → Contains (wanted_needs g row) c → Wanted g c
follow-wanted g class row c w h k =
    let r = giving-out g class row h in
    let i = instr_in gives_word (instr_at g row) r.1 in
    let o = need-out Always g row c k in
    subst (Wanted g) o.2 (operand row o.0 i.0 i.1 i.2 (subst (Wanted g) (sym r.2) w) o.1)

pub more-rows : (g : LaunchGraph) (old new : List Bool) (rows : List ℕ) (i d : ℕ) → i < length rows → StillMarked old new → length new ≡ length old
    → ((r : ℕ) → Contains (take i rows) r → AreAllMarked old (wanted_needs g r))
    → AreAllMarked new (wanted_needs g (get_or rows i d))
    → (r : ℕ) → Contains (take (i + 1) rows) r → AreAllMarked new (wanted_needs g r)
more-rows g old new rows i d lt still size before now r h =
    elim (Contains-push_cases (take i rows) (get_or rows i d) r (subst (λ (zs : List ℕ). Contains zs r) (take_more rows i d lt) h)) [
      | inl k ↦ kept-marks old new (wanted_needs g r) still size (before r k)
      | inr e ↦ subst (λ x. AreAllMarked new (wanted_needs g x)) e now
    ]

-- ---- one class more that is followed

module _ (g : LaunchGraph) (old new : List Bool) (order longer : List ℕ) (at : ℕ) (lt : at < length order) (still : StillMarked old new) (size : length new ≡ length old) (l : IsLonger order longer) where
  kept-followed : (class : ℕ) → IsFollowed g old class → IsFollowed g new class
  kept-followed class f row h = kept-marks old new (wanted_needs g row) still size (f row h)

  pub more-followed : IsFollowed g new (get_or order at 0) → ((p : ℕ) → p < at → p < length order → IsFollowed g old (get_or order p 0)) → (p : ℕ) → p < at + 1 → p < length longer → IsFollowed g new (get_or longer p 0)
  more-followed now before p small in_list =
      elim (cases_eq p at) [
        | inl e ↦ subst (IsFollowed g new) (sym (ap (λ i. get_or longer i 0) e ∙ longer-at order longer at 0 l lt)) now
        | inr ne ↦ subst (IsFollowed g new) (sym (longer-at order longer p 0 l (omega arith))) (kept-followed (get_or order p 0) (before p (omega arith) (omega arith)))
      ]

pub all-followed : (g : LaunchGraph) (marks : List Bool) (order : List ℕ) (at : ℕ) → length order ≤ at → ((p : ℕ) → p < at → p < length order → IsFollowed g marks (get_or order p 0)) → (class : ℕ) → Contains order class → IsFollowed g marks class
all-followed g marks order at le done class (p, lt, e) = subst (IsFollowed g marks) (get_or_default order p 0 class lt ∙ e) (done p (omega arith) lt)

-- no more classes are listed than there are
pub few-listed : (g : LaunchGraph) (marks : List Bool) (order : List ℕ) → AreWantedMarks g marks order → length order ≤ length marks
few-listed g marks order m = (let c = m.count in let l = count_by-le-length (λ (b : Bool). b) marks in omega arith)

-- ---- exactly the wanted classes are marked

-- each number of a row that can be launched is one of all
pub number-in : (g : LaunchGraph) (row : ℕ) (i : InstrKind) → instr_at g row ≡ Some i → Contains (row_numbers g) row
number-in g row i e = range-in 0 (length g.rows + 1 + length g.sets) row (omega arith) (let w = within g row i e in omega arith)

module _ (g : LaunchGraph) (well : IsLaunchGraph g) (marks : List Bool) (order : List ℕ) (size : length marks ≡ next_class g.rows) (are : AreWantedMarks g marks order)
    (targets : (s : SetClass) → Contains g.sets s → is_wanted_target g s ≡ true → AreAllMarked marks (s.class ∷ []))
    (roots : (row : ℕ) → Contains (row_numbers g) row → is_root g row ≡ true → AreAllMarked marks (wanted_needs g row))
    (followed : (class : ℕ) → Contains order class → IsFollowed g marks class) where
  abbrev is_wanting_store : ℕ → Bool
  is_wanting_store row = row_is g is_store row || is_quad_row g row

  root_marked : (row : ℕ) (o : Operand) → Contains (row_numbers g) row → is_root g row ≡ true → Lacks g (IsSafe g) row o
      → o.class < length marks → is_marked_class marks o.class ≡ true
  root_marked row o number root need lt = roots row number root o.class (need-in Always g row o need) lt

  all-marked : (class : ℕ) → Wanted g class → class < length marks → is_marked_class marks class ≡ true
  all-marked _ (target s h nm ns) lt =
      let memory : is_memory_name s.name ≡ false = elim (cases_Bool (is_memory_name s.name)) [ inl t ↦ absurd (nm t) | inr f ↦ f ] in
      let safe : is_safe g s.class ≡ false = elim (cases_Bool (is_safe g s.class)) [ inl t ↦ absurd (ns (safe-is g s.class t)) | inr f ↦ f ] in
      targets s h (or_left (not (is_memory_name s.name) && not (is_safe g s.class)) (is_some s.pin) (and_from (not (is_memory_name s.name)) (not (is_safe g s.class)) (not_from_false (is_memory_name s.name) memory) (not_from_false (is_safe g s.class) safe))) s.class (here s.class []) lt
  all-marked _ (pinned s r h e) lt =
      targets s h (or_right (not (is_memory_name s.name) && not (is_safe g s.class)) (is_some s.pin) (ap is_some e)) s.class (here s.class []) lt
  all-marked _ (guard row o i e b need) lt =
      let is : row_is g is_branch row ≡ true = ap (λ (o : Option InstrKind). option_map_or is_branch o false) e ∙ b in
      root_marked row o (number-in g row i e) (or_left (row_is g is_branch row) (is_wanting_store row) is) need lt
  all-marked _ (store row o i e s need) lt =
      let is : row_is g is_store row ≡ true = ap (λ (o : Option InstrKind). option_map_or is_store o false) e ∙ s in
      let wants : is_wanting_store row ≡ true = or_left (row_is g is_store row) (is_quad_row g row) is in
      root_marked row o (number-in g row i e) (or_right (row_is g is_branch row) (is_wanting_store row) wants) need lt
  all-marked _ (quad_store row r o e op need) lt =
      let is : is_quad_row g row ≡ true =
      ap (λ (o : Option LaunchRow). option_map_or (λ r. is_quad_store r.op) o false) e ∙ op in
      let wants : is_wanting_store row ≡ true = or_right (row_is g is_store row) (is_quad_row g row) is in
      let inside = slice_get_within g.rows row r e in
      let number = range-in 0 (length g.rows + 1 + length g.sets) row (omega arith) (omega arith) in
      root_marked row o number (or_right (row_is g is_branch row) (is_wanting_store row) wants) need lt
  all-marked _ (operand row o i e w inner need) lt =
      let bound = low-class g ev6 Block well row i e (no-branch-word i w) in
      let mark = all-marked (class_at g row) inner (omega arith) in
      let gives : row_is g gives_word row ≡ true = ap (λ (o : Option InstrKind). option_map_or gives_word o false) e ∙ w in
      let member : Contains (giving_rows g (class_at g row)) row = filter-in (λ r. row_is g gives_word r && (class_at g r == class_at g row)) (row_numbers g) row (number-in g row i e) (and_from (row_is g gives_word row) (class_at g row == class_at g row) gives (eq-eqb (class_at g row) (class_at g row) refl)) in
      followed (class_at g row) (are.listed (class_at g row) mark) row member o.class (need-in Always g row o need) lt

  pub marks-exact : (class : ℕ) → (is_marked_class marks class ≡ true) ↔ (Wanted g class × (class < next_class g.rows))
  marks-exact class = (
    (λ h. let c = are.listed class h in (are.wanted class c, (let b = are.within class c in omega arith))),
    (λ h. all-marked class h.0 (let b = h.1 in omega arith)),
  )

-- ---- rows by class, one more row

module _ (g : LaunchGraph) (n row : ℕ) (mid new : List (List ℕ)) where
  abbrev gives_it : ℕ → ℕ → Bool
  gives_it class r = row_is g gives_word r && (class_at g r == class)

  abbrev upto : ℕ → ℕ → List ℕ
  upto m class = filter (gives_it class) (range_with_len 0 m)

  upto_more : (class : ℕ) → upto (row + 1) class ≡ upto row class ++ cond (gives_it class row) (row ∷ []) []
  upto_more class = ap (filter (gives_it class)) (range_more row) ∙ filter-append (gives_it class) (range_with_len 0 row) (row ∷ [])

  rows_put : (b : Bool) → row_is g gives_word row ≡ b → mid ≡ map (upto row) (range_with_len 0 n) → new ≡ cond b (put_at mid (class_at g row) row) mid → new ≡ map (upto (row + 1)) (range_with_len 0 n)
  rows_put true e is p =
      p ∙ ap (λ (xs : List (List ℕ)). put_at xs (class_at g row) row) is
      ∙ put_more (upto row) (upto (row + 1)) n (class_at g row) row (λ class. upto_more class ∙ ap (λ c. upto row class ++ cond (c && (class_at g row == class)) (row ∷ []) []) e)
  rows_put false e is p =
      p ∙ is
      ∙ put_none (upto row) (upto (row + 1)) n 0 row (λ class. upto_more class ∙ ap (λ c. upto row class ++ cond (c && (class_at g row == class)) (row ∷ []) []) e ∙ append-nil (upto row class))

  pub rows-put : mid ≡ map (upto row) (range_with_len 0 n) → new ≡ cond (row_is g gives_word row) (put_at mid (class_at g row) row) mid → new ≡ map (upto (row + 1)) (range_with_len 0 n)
  rows-put = rows_put (row_is g gives_word row) refl

-- ---- at first nothing is marked

unmarked_at : (a n i : ℕ) → get_or (map {A = ℕ} (λ _. false) (range_with_len a n)) i false ≡ false
unmarked_at a zero i = refl
unmarked_at a (suc n) zero = refl
unmarked_at a (suc n) (suc i) = unmarked_at (a + 1) n i

none_count : (a n : ℕ) → count_by (λ b. b) (map {A = ℕ} (λ _. false) (range_with_len a n)) ≡ 0
none_count a zero = refl
none_count a (suc n) =
    let r = none_count (a + 1) n in
    let s = sum_by-cons (λ b. cond {A = ℕ} b 1 0) false (map {A = ℕ} (λ _. false) (range_with_len (a + 1) n)) in
    omega arith

pub none-marked : (g : LaunchGraph) (n : ℕ) (marks : List Bool) (order : List ℕ) → marks ≡ map (λ _. false) (range_with_len 0 n) → order ≡ [] → AreWantedMarks g marks order
none-marked g n marks order e eo =
    let nobody : (c : ℕ) → Contains order c → ⊥ = λ c h. nothing c (subst (λ (zs : List ℕ). Contains zs c) eo h) in
    let size : length order ≡ 0 = ap (λ (zs : List ℕ). length zs) eo in
    let count = ap (count_by (λ b. b)) e ∙ none_count 0 n in
    record {
      wanted = λ c h. absurd (nobody c h);
      listed = λ c h. absurd (false≢true (sym (unmarked_at 0 n c) ∙ ap (λ (xs : List Bool). get_or xs c false) (sym e) ∙ h));
      within = λ c h. absurd (nobody c h);
      count = omega arith;
    }
