-- What each step of a merge keeps, and what it gives at the end.
use Rattle.std.proofs.Common.{◌≡◌, ℕ, ◌<◌, ◌≤◌, map, length, get_or, Contains, AllPairs, All, remove, refl, sym, ap, ◌∙◌, subst, inl, inr, arith}
use Rattle.word_terms.specs.Signature.{Signature, HasWordConstant}
use Rattle.egraph.specs.declared.rows.Row.{Row}
use Rattle.egraph.specs.Graph.{Graph, Agree, HasClass, IsPresent, IsGraph, HasOneConstantEach, HasOneSortEach, HasSortedOperands}
use Rattle.egraph.specs.Sorts.{AreOfOneSort}
use Rattle.egraph.specs.Joined.{Joined, kept, pair, symmetric, transitive, congruent, relabel, IsMerged}
use Rattle.egraph.specs.Steps.{moved}
use Rattle.std.proofs.lemmas.List.{length-map, get_or-map, get_or_default}
use Rattle.std.proofs.lemmas.List.Elements.{All-contains, All-get_or, All-map, Contains-get_or}
use Rattle.std.proofs.lemmas.List.Edits.{length-remove}
use Rattle.egraph.proofs.Lists.{contains_map, contains_map_back, contains_remove, contains_remove_back, one_row, moved_cases, moved_to, at_map, map_at_same, map_agree, map-map, map_at_each, each_of_map, length_of_map}

-- what is true of the rows and classes before each turn of a merge's loop
pub record IsMerging {O : Type 0} (old : Graph O) (a b : ℕ) (new : Graph O) : Type 0 where
  pub made : length new.current ≡ length old.current
  pub sound : (x : ℕ) → x < length old.current → Joined old a b x (get_or new.current x 0)
  pub below : (x : ℕ) → x < length old.current → get_or new.current x 0 < length old.current
  pub settled : (x : ℕ) → x < length old.current → get_or new.current (get_or new.current x 0) 0 ≡ get_or new.current x 0
  pub was_present : (x : ℕ) → x < length old.current → get_or old.current (get_or new.current x 0) 0 ≡ get_or new.current x 0
  pub follows : (x : ℕ) → x < length old.current → get_or new.current (get_or old.current x 0) 0 ≡ get_or new.current x 0
  pub images : (r : Row O) → Contains old.rows r → Contains new.rows (relabel (λ x. get_or new.current x 0) r)
  pub from_old : (r : Row O) → Contains new.rows r → ((t : Row O) × Contains old.rows t × (r ≡ relabel (λ x. get_or new.current x 0) t))
  pub no_more : length new.rows ≤ length old.rows

-- the class that each class is in
abbrev pub at : {O : Type 0} → Graph O → ℕ → ℕ
at g x = get_or g.current x 0

-- `from` moved to `to` in all rows and classes
abbrev pub joined_up : {O : Type 0} → ℕ → ℕ → Graph O → Graph O
joined_up from to g = record { rows = map (relabel (moved from to)) g.rows; current = map (moved from to) g.current }

moved_joined : {O : Type 0} (old : Graph O) (a b from to x y : ℕ) → Joined old a b from to → Joined old a b x y → Joined old a b x (moved from to y)
moved_joined old a b from to x y j h =
    elim (moved_cases from to y) [
      | inl e ↦ subst (Joined old a b x) (sym e.1) (transitive (subst (Joined old a b x) e.0 h) j)
      | inr e ↦ subst (Joined old a b x) (sym e.1) h
    ]

-- what holds of y and of `to` holds of y moved
moved_holds : (P : ℕ → Type 0) (from to y : ℕ) → P to → P y → P (moved from to y)
moved_holds P from to y p q = elim (moved_cases from to y) [ inl e ↦ subst P (sym e.1) p | inr e ↦ subst P (sym e.1) q ]

-- the class of a row was made
pub row_made : {O : Type 0} (s : Signature O) (g : Graph O) (is : IsGraph s g) (r : Row O) → Contains g.rows r → r.class < length g.current
row_made s g is r h = (All-contains (λ t. IsPresent g t.class) g.rows r is.classes h).made

pub row_present : {O : Type 0} (s : Signature O) (g : Graph O) (is : IsGraph s g) (r : Row O) → Contains g.rows r → get_or g.current r.class 0 ≡ r.class
row_present s g is r h = (All-contains (λ t. IsPresent g t.class) g.rows r is.classes h).itself

pub has_made : {O : Type 0} (s : Signature O) (g : Graph O) (is : IsGraph s g) (c : ℕ) → HasClass g c → c < length g.current
has_made s g is c h = subst (λ x. x < length g.current) h.is (row_made s g is h.row h.there)

pub has_present : {O : Type 0} (s : Signature O) (g : Graph O) (is : IsGraph s g) (c : ℕ) → HasClass g c → get_or g.current c 0 ≡ c
has_present s g is c h = subst (λ x. get_or g.current x 0 ≡ x) h.is (row_present s g is h.row h.there)

pub operands_have : {O : Type 0} (s : Signature O) (g : Graph O) (is : IsGraph s g) (r : Row O) → Contains g.rows r → All (HasClass g) r.operands
operands_have s g is r h = All-contains (λ t. All (HasClass g) t.operands) g.rows r is.operands h

-- the class that a class ever made is in has a row
pub current_has : {O : Type 0} (s : Signature O) (g : Graph O) (is : IsGraph s g) (x : ℕ) → x < length g.current → HasClass g (get_or g.current x 0)
current_has s g is x l = All-get_or (HasClass g) g.current x 0 l is.inhabited

-- a row relabelled by two maps that agree on the classes ever made
same_relabel : {O : Type 0} (s : Signature O) (g : Graph O) (is : IsGraph s g) (f h : ℕ → ℕ) → ((x : ℕ) → x < length g.current → f x ≡ h x) → (r : Row O) → Contains g.rows r → relabel f r ≡ relabel h r
same_relabel s g is f h e r c =
    let ops : map f r.operands ≡ map h r.operands = map_agree f h r.operands (λ k d l. e (get_or r.operands k d) (has_made s g is (get_or r.operands k d) (operands_have s g is r c k d l))) in
    let cls : f r.class ≡ h r.class = e r.class (row_made s g is r c) in
    cc

relabel-relabel : {O : Type 0} (f h : ℕ → ℕ) (r : Row O) → relabel f (relabel h r) ≡ relabel (λ x. f (h x)) r
relabel-relabel f h r = let e = map-map f h r.operands in cc

module _ {O : Type 0} (s : Signature O) (old : Graph O) (is : IsGraph s old) (a b : ℕ) where
  pub joined_made : a < length old.current → b < length old.current → {x y : ℕ} → Joined old a b x y → (x < length old.current) × (y < length old.current)
  joined_made la lb (kept x y lx ly e) = (lx, ly)
  joined_made la lb pair = (la, lb)
  joined_made la lb (symmetric j) = let h = joined_made la lb j in (h.1, h.0)
  joined_made la lb (transitive j k) = ((joined_made la lb j).0, (joined_made la lb k).1)
  joined_made la lb (congruent r t h k op l each) = (row_made s old is r h, row_made s old is t k)

  -- rows of joined classes give one sort
  pub joined_one_sort : a < length old.current → b < length old.current → AreOfOneSort s old a b → {x y : ℕ} → Joined old a b x y →
      (r t : Row O) → Contains old.rows r → Contains old.rows t → r.class ≡ at old x → t.class ≡ at old y → s.sort r.op ≡ s.sort t.op
  joined_one_sort la lb one (kept x y lx ly e) r t h k er et = is.one_sort r t h k (er ∙ e ∙ sym et)
  joined_one_sort la lb one pair r t h k er et = one r t h k er et
  joined_one_sort la lb one (symmetric j) r t h k er et = sym (joined_one_sort la lb one j t r k h et er)
  joined_one_sort la lb one (transitive {y} i j) r t h k er et =
      let m = current_has s old is y (joined_made la lb i).1 in
      joined_one_sort la lb one i r m.row h m.there er m.is ∙ joined_one_sort la lb one j m.row t m.there k m.is et
  joined_one_sort la lb one (congruent u v hu hv op l each) r t h k er et =
      is.one_sort r u h hu (er ∙ row_present s old is u hu) ∙ ap s.sort op ∙ is.one_sort v t hv k (sym (row_present s old is v hv) ∙ sym et)

  pub start : IsMerging old a b old
  start =
      let twice : (x : ℕ) → x < length old.current → at old (at old x) ≡ at old x = λ x l. has_present s old is (at old x) (current_has s old is x l) in
      let below : (x : ℕ) → x < length old.current → at old x < length old.current = λ x l. has_made s old is (at old x) (current_has s old is x l) in
      let same : (r : Row O) → Contains old.rows r → relabel (at old) r ≡ r =
      λ r h. let ops : map (at old) r.operands ≡ r.operands = map_at_same (at old) r.operands (λ k d l. has_present s old is (get_or r.operands k d) (operands_have s old is r h k d l)) in
      let cls : at old r.class ≡ r.class = row_present s old is r h in
      λ i. record { op = r.op; operands = ops i; class = cls i } in
      record {
        made = refl;
        sound = λ x l. kept x (at old x) l (below x l) (sym (twice x l));
        below = below;
        settled = twice;
        was_present = twice;
        follows = twice;
        images = λ r h. subst (Contains old.rows) (sym (same r h)) h;
        from_old = λ r h. (r, h, sym (same r h));
        no_more = omega arith;
      }

module _ {O : Type 0} (s : Signature O) (old : Graph O) (is : IsGraph s old) (a b : ℕ) (new : Graph O) (m : IsMerging old a b new) (from to : ℕ) where
  moved_at : (x : ℕ) → x < length old.current → at (joined_up from to new) x ≡ moved from to (at new x)
  moved_at x l = at_map (moved from to) new.current x (omega (arith, m.made))

  now_made : (x : ℕ) → x < length old.current → at old x < length old.current
  now_made x l = has_made s old is (at old x) (current_has s old is x l)

  -- a class may be moved to a present one that the merge joins it with
  pub record MayJoin : Type 0 where
    pub to_made : to < length old.current
    pub to_settled : at new to ≡ to
    pub to_present : at old to ≡ to
    pub forced : Joined old a b from to

  pub step : MayJoin → IsMerging old a b (joined_up from to new)
  step may =
      let back_image : (r : Row O) → Contains old.rows r → relabel (moved from to) (relabel (at new) r) ≡ relabel (at (joined_up from to new)) r =
      λ r h. relabel-relabel (moved from to) (at new) r ∙ same_relabel s old is (λ x. moved from to (at new x)) (at (joined_up from to new)) (λ x l. sym (moved_at x l)) r h in
      record {
        made = length-map new.current (moved from to) ∙ m.made;
        sound = λ x l. subst (Joined old a b x) (sym (moved_at x l)) (moved_joined old a b from to x (at new x) may.forced (m.sound x l));
        below = λ x l. subst (λ y. y < length old.current) (sym (moved_at x l)) (moved_holds (λ y. y < length old.current) from to (at new x) may.to_made (m.below x l));
        settled = λ x l. elim (moved_cases from to (at new x)) [
          | inl e ↦ subst (λ z. at (joined_up from to new) z ≡ z) (sym (moved_at x l ∙ e.1)) (moved_at to may.to_made ∙ ap (moved from to) may.to_settled ∙ moved_to from to)
          | inr e ↦ subst (λ z. at (joined_up from to new) z ≡ z) (sym (moved_at x l ∙ e.1)) (moved_at (at new x) (m.below x l) ∙ ap (moved from to) (m.settled x l) ∙ e.1)
        ];
        was_present = λ x l. subst (λ y. get_or old.current y 0 ≡ y) (sym (moved_at x l)) (moved_holds (λ y. get_or old.current y 0 ≡ y) from to (at new x) may.to_present (m.was_present x l));
        follows = λ x l. moved_at (at old x) (now_made x l) ∙ ap (moved from to) (m.follows x l) ∙ sym (moved_at x l);
        images = λ r h. subst (Contains (joined_up from to new).rows) (back_image r h) (contains_map (relabel (moved from to)) new.rows (relabel (at new) r) (m.images r h));
        from_old = λ r h. let t = contains_map_back (relabel (moved from to)) new.rows r h in
            let u = m.from_old t.0 t.1 in
            (u.0, u.1, t.2 ∙ ap (relabel (moved from to)) u.2 ∙ back_image u.0 u.1);
        no_more = omega (arith, m.no_more, length-map new.rows (relabel (moved from to)));
      }

module _ {O : Type 0} (s : Signature O) (old : Graph O) (is : IsGraph s old) (a b : ℕ) (new : Graph O) (m : IsMerging old a b new) where
  -- rows that agree may have their classes joined
  pub agreeing_may_join : (r t : Row O) → Contains new.rows r → Contains new.rows t → Agree r t → MayJoin s old is a b new m t.class r.class
  agreeing_may_join r t h k e =
      let u = m.from_old r h in
      let v = m.from_old t k in
      let lu : u.0.class < length old.current = row_made s old is u.0 u.1 in
      let lv : v.0.class < length old.current = row_made s old is v.0 v.1 in
      let cu : r.class ≡ at new u.0.class = ap (λ x. x.class) u.2 in
      let cv : t.class ≡ at new v.0.class = ap (λ x. x.class) v.2 in
      let ops : map (at new) v.0.operands ≡ map (at new) u.0.operands = sym (ap (λ x. x.operands) v.2) ∙ sym e.operands ∙ ap (λ x. x.operands) u.2 in
      let length_vu = length_of_map (at new) v.0.operands u.0.operands ops in
      let each : (n : ℕ) → n < length v.0.operands → Joined old a b (get_or v.0.operands n 0) (get_or u.0.operands n 0) =
      λ n l.
      let x = get_or v.0.operands n 0 in
      let y = get_or u.0.operands n 0 in
      let lx : x < length old.current = has_made s old is x (operands_have s old is v.0 v.1 n 0 l) in
      let ly : y < length old.current = has_made s old is y (operands_have s old is u.0 u.1 n 0 (omega (arith, l, length_vu))) in
      transitive (m.sound x lx) (subst (λ z. Joined old a b z y) (sym (each_of_map (at new) v.0.operands u.0.operands ops n l)) (symmetric (m.sound y ly))) in
      let j : Joined old a b v.0.class u.0.class = congruent v.0 u.0 v.1 u.1 (sym (ap (λ x. x.op) v.2) ∙ sym e.op ∙ ap (λ x. x.op) u.2) length_vu each in
      record {
        to_made = subst (λ x. x < length old.current) (sym cu) (m.below u.0.class lu);
        to_settled = subst (λ x. at new x ≡ x) (sym cu) (m.settled u.0.class lu);
        to_present = subst (λ x. at old x ≡ x) (sym cu) (m.was_present u.0.class lu);
        forced = subst (λ x. Joined old a b x r.class) (sym cv) (subst (λ y. Joined old a b (at new v.0.class) y) (sym cu) (transitive (symmetric (m.sound v.0.class lv)) (transitive j (m.sound u.0.class lu))));
      }

  -- of two equal rows one may go
  pub drop_twin : (i j : ℕ) → i < j → j < length new.rows → ((d : Row O) → get_or new.rows i d ≡ get_or new.rows j d) → IsMerging old a b (record { rows = remove new.rows j; current = new.current })
  drop_twin i j lt l same = record {
    made = m.made;
    sound = m.sound;
    below = m.below;
    settled = m.settled;
    was_present = m.was_present;
    follows = m.follows;
    images = λ r h. contains_remove new.rows i j (relabel (at new) r) lt l same (m.images r h);
    from_old = λ r h. m.from_old r (contains_remove_back new.rows j r l h);
    no_more = omega (arith, m.no_more, length-remove new.rows j l);
  }

  -- classes that are one now were joined
  pub one_now : (x y : ℕ) → x < length old.current → y < length old.current → at new x ≡ at new y → Joined old a b x y
  one_now x y lx ly e = transitive (m.sound x lx) (subst (λ z. Joined old a b z y) (sym e) (symmetric (m.sound y ly)))

  module _ (la : a < length old.current) (lb : b < length old.current) (one : AreOfOneSort s old a b) where
    pub rows_of_one_sort : HasOneSortEach s new.rows
    rows_of_one_sort r t h k e =
        let u = m.from_old r h in
        let v = m.from_old t k in
        let lu = row_made s old is u.0 u.1 in
        let lv = row_made s old is v.0 v.1 in
        let c : at new u.0.class ≡ at new v.0.class = sym (ap (λ x. x.class) u.2) ∙ e ∙ ap (λ x. x.class) v.2 in
        let j = one_now u.0.class v.0.class lu lv c in
        ap (λ x. s.sort x.op) u.2 ∙ joined_one_sort s old is a b la lb one j u.0 v.0 u.1 v.1 (sym (row_present s old is u.0 u.1)) (sym (row_present s old is v.0 v.1)) ∙ sym (ap (λ x. s.sort x.op) v.2)

    pub operands_of_sort : HasSortedOperands s new.rows
    operands_of_sort r t n h k l e =
        let u = m.from_old r h in
        let v = m.from_old t k in
        let ops : r.operands ≡ map (at new) u.0.operands = ap (λ x. x.operands) u.2 in
        let ln : n < length u.0.operands = omega (arith, l, ap length ops, length-map u.0.operands (at new)) in
        let d = get_or u.0.operands n 0 in
        let has = operands_have s old is u.0 u.1 n 0 ln in
        let ld = has_made s old is d has in
        let lv = row_made s old is v.0 v.1 in
        let c : at new d ≡ at new v.0.class = sym (get_or-map (at new) u.0.operands n 0 0 ln) ∙ sym (ap (λ xs. get_or xs n 0) ops) ∙ sym e ∙ ap (λ x. x.class) v.2 in
        let j = one_now d v.0.class ld lv c in
        ap (λ x. s.operand_sort x.op n) u.2
        ∙ is.operand_sorts u.0 has.row n u.1 has.there ln has.is
        ∙ joined_one_sort s old is a b la lb one j has.row v.0 has.there v.1 (has.is ∙ sym (has_present s old is d has)) (sym (row_present s old is v.0 v.1))
        ∙ sym (ap (λ x. s.sort x.op) v.2)

  module _ (pair_joined : at new a ≡ at new b) (apart : AllPairs (λ r t. ¬ Agree r t) new.rows) where
    -- what the merge forces has been joined
    pub complete : {x y : ℕ} → Joined old a b x y → at new x ≡ at new y
    complete (kept x y lx ly e) = sym (m.follows x lx) ∙ ap (at new) e ∙ m.follows y ly
    complete pair = pair_joined
    complete (symmetric j) = sym (complete j)
    complete (transitive j k) = complete j ∙ complete k
    complete (congruent r t h k op l each) =
        let ops : map (at new) r.operands ≡ map (at new) t.operands = map_at_each (at new) r.operands t.operands l (λ n b. complete (each n b)) in
        ap (λ x. x.class) (one_row new.rows (relabel (at new) r) (relabel (at new) t) apart (m.images r h) (m.images t k) (record { op = op; operands = ops }))

    pub is_merged : IsMerged old a b new
    is_merged = record {
      made = m.made;
      joined = λ x y lx ly. (λ e. one_now x y lx ly e, λ j. complete j);
      below = m.below;
      was_present = m.was_present;
      settled = m.settled;
      images = m.images;
      from_old = m.from_old;
      no_more = m.no_more;
    }

    -- an old class has a row under its new name
    has_now : (c : ℕ) → HasClass old c → HasClass new (at new c)
    has_now c h = record { row = relabel (at new) h.row; there = m.images h.row h.there; is = ap (at new) h.is }

    pub is_graph : a < length old.current → b < length old.current → AreOfOneSort s old a b → HasOneConstantEach s new.rows → IsGraph s new
    is_graph la lb one constants = record {
      distinct = apart;
      classes = λ k d l.
          let u = m.from_old (get_or new.rows k d) (Contains-get_or new.rows k d l) in
          let lu = row_made s old is u.0 u.1 in
          subst (λ r. IsPresent new r.class) (sym u.2) (record { made = rw m.made (m.below u.0.class lu); itself = m.settled u.0.class lu });
      operands = λ k d l.
          let u = m.from_old (get_or new.rows k d) (Contains-get_or new.rows k d l) in
          subst (λ r. All (HasClass new) r.operands) (sym u.2) (All-map (HasClass new) (at new) u.0.operands (λ n e b. has_now (get_or u.0.operands n e) (operands_have s old is u.0 u.1 n e b)));
      inhabited = λ k d l.
          let b : k < length old.current = omega (arith, l, m.made) in
          let e : get_or new.current k d ≡ at new k = get_or_default new.current k d 0 l in
          subst (HasClass new) (sym (e ∙ sym (m.follows k b))) (has_now (at old k) (current_has s old is k b));
      arities = λ k d l.
          let u = m.from_old (get_or new.rows k d) (Contains-get_or new.rows k d l) in
          subst (λ r. length r.operands ≡ s.arity r.op) (sym u.2) (length-map u.0.operands (at new) ∙ All-contains (λ r. length r.operands ≡ s.arity r.op) old.rows u.0 is.arities u.1);
      one_sort = rows_of_one_sort la lb one;
      operand_sorts = operands_of_sort la lb one;
      constants = constants;
      words = λ k d l.
          let u = m.from_old (get_or new.rows k d) (Contains-get_or new.rows k d l) in
          subst (λ r. HasWordConstant s r.op) (sym u.2) (All-contains (λ r. HasWordConstant s r.op) old.rows u.0 is.words u.1);
      few = omega (arith, m.made, is.few);
      few_rows = omega (arith, m.made, m.no_more, is.few_rows);
    }
