-- From what the walk finds to lists of classes.
use Rattle.std.proofs.Common.{◌≡◌, ℕ, zero, suc, ◌<◌, ◌+◌, false, List, [], ◌∷◌, ◌++◌, map, length, replicate, take, get_or, Option, Some, None, All, Contains, refl, sym, ap, ◌∙◌, subst, subst₂, inl, inr, ◌⊎◌, arith}
use Rattle.std.specs.Prelude.{unwrap_or}
use Rattle.std.proofs.lemmas.List.{get_or-map, length-map, length-replicate, get_or_default, get_or_past, take_more, map-append, append_assoc, same_lists}
use Rattle.std.proofs.lemmas.List.Elements.{All-append, All-get_or, All-contains, Contains-get_or, Contains-append_left, Contains-append_right}
use Rattle.std.proofs.lemmas.Bool.{cases_lt}
use Rattle.std.proofs.lemmas.Option.{slice_get-get_or}
use Rattle.word_ops.specs.declared.sorts.Op.{Op}
use Rattle.word_terms.specs.Keys.{op_signature}
use Rattle.word_terms.specs.Tree.{Tree, Trees, application, AreBelow, EachBelow}
use Rattle.word_terms.specs.Sorting.{Occurs, OccursInOne, tree_count}
use Rattle.egraph.specs.declared.rows.Row.{Row}
use Rattle.egraph.specs.Graph.{Graph, Agree, HasClass, IsPresent, IsGraph}
use Rattle.pattern_match.specs.Classes.{IsClass, AreClasses, at_row}
use Rattle.pattern_match.specs.Listing.{Lists}
use Rattle.pattern_match.specs.Bindings.{Binding, known_class, Agrees, Covered, Finds, Keeps, IsBound, CanExtend, CanExtendAll, Extended, ExtendedAll, IsSubstitutionByClass, IsSubstitutionByRow, IsSubstitution, IsUnknown, AreMatches, substitution, substitution_match}
use Rattle.pattern_match.specs.Found.{classes_in}
use Rattle.pattern_match.specs.declared.found.Match.{Match}
use Rattle.pattern_match.proofs.Finding.{covered_one, one_covered, pairs_append}
use Rattle.pattern_match.proofs.RowSteps.{Skips}
use Rattle.pattern_match.proofs.Walking.{one_class, one_classes, count_of_classes}

-- ---- nothing known

known_in_none : (n v : ℕ) → known_class (replicate n None) v ≡ None
known_in_none zero v = refl
known_in_none (suc n) zero = refl
known_in_none (suc n) (suc v) = known_in_none n v

pub unknown_all : (n : ℕ) → IsUnknown n (replicate n None)
unknown_all n = record { length_is = length-replicate n None; each = known_in_none n }

unknown_agrees : (n : ℕ) (b : Binding) (cs : List ℕ) → IsUnknown n b → length cs ≡ n → Agrees b cs
unknown_agrees n b cs h l = record { count = l ∙ sym h.length_is; each = λ v x k. let e : None ≡ Some x = sym (h.each v) ∙ k in absurd (cc) }

-- ---- one item

pub operands_can_start : (ts : Trees Op) (n : ℕ) (b : Binding) → EachBelow n ts → IsUnknown n b → CanExtendAll ts (b ∷ [])
operands_can_start ts n b below h = record {
  count = n;
  counts = λ k d l. one_count k d l;
  below = below;
  apart = λ i j d a l. absurd (omega (arith, a, l));
}
  where
    one_count : (k : ℕ) (d : Binding) → k < length (b ∷ []) → length (get_or (b ∷ []) k d) ≡ n
    one_count zero d l = h.length_is
    one_count (suc k) d l = absurd (omega (arith, l))

pub walk_can : (p : Tree Op) (n : ℕ) (b : Binding) → AreBelow n p → IsUnknown n b → CanExtend p (b ∷ [])
walk_can p n b below h = record {
  count = n;
  counts = λ k d l. one_count k d l;
  below = below;
  apart = λ i j d a l. absurd (omega (arith, a, l));
}
  where
    one_count : (k : ℕ) (d : Binding) → k < length (b ∷ []) → length (get_or (b ∷ []) k d) ≡ n
    one_count zero d l = h.length_is
    one_count (suc k) d l = absurd (omega (arith, l))

-- ---- classes from what is known

substitution_agrees : (b : Binding) → Agrees b (substitution b)
substitution_agrees b = record {
  count = length-map b (λ o. unwrap_or o 0);
  each = λ v x k. elim (cases_lt v (length b)) [
    | inl l ↦ get_or-map (λ o. unwrap_or o 0) b v None 0 l ∙ ap (λ o. unwrap_or o 0) k
    | inr l ↦ absurd (let e : None ≡ Some x = sym (get_or_past b v None l) ∙ k in cc)
  ];
}

substitution_only : (b : Binding) (cs : List ℕ) → ((v : ℕ) → v < length b → IsBound b v) → Agrees b cs → cs ≡ substitution b
substitution_only b cs full h =
    same_lists cs (substitution b) (h.count ∙ sym (length-map b (λ o. unwrap_or o 0)))
    (λ k d l.
    let lb : k < length b = omega (arith, l, h.count) in
    let x = full k lb in
    get_or_default cs k d 0 l ∙ h.each k x.0 x.1 ∙ sym (ap (λ o. unwrap_or o 0) x.1) ∙ sym (get_or-map (λ o. unwrap_or o 0) b k None d lb))

-- ---- matches of what is known

contains_substitution : (out : List Binding) (b : Binding) → Contains out b → Contains (map substitution out) (substitution b)
contains_substitution out b h = (h.0, omega (arith, h.1, length-map out substitution), get_or-map substitution out h.0 b (substitution b) h.1 ∙ ap substitution h.2)

substitution_listed : (Q : List ℕ → Type 0) (n : ℕ) (out : List Binding) → Finds Q out → All (λ (x : Binding). (v : ℕ) → v < n → IsBound x v) out → All (λ (x : Binding). length x ≡ n) out → Lists Q (map substitution out)
substitution_listed Q n out h bound counts =
    let at : (k : ℕ) (d : List ℕ) → k < length (map substitution out) → get_or (map substitution out) k d ≡ substitution (get_or out k []) =
    λ k d l. get_or-map substitution out k [] d (omega (arith, l, length-map out substitution)) in
    let in_out : (k : ℕ) → k < length (map substitution out) → k < length out = λ k l. omega (arith, l, length-map out substitution) in
    record {
      each = λ k d l.
          let b = get_or out k [] in
          subst Q (sym (at k d l)) (h.sound (substitution b) (record { binding = b; there = Contains-get_or out k [] (in_out k l); agrees = substitution_agrees b }));
      all = λ cs q.
          let c = h.complete cs q in
          let full = All-contains (λ (x : Binding). (v : ℕ) → v < n → IsBound x v) out c.binding bound c.there in
          let count : length c.binding ≡ n = All-contains (λ (x : Binding). length x ≡ n) out c.binding counts c.there in
          subst (Contains (map substitution out)) (sym (substitution_only c.binding cs (λ v l. full v (omega (arith, l, count))) c.agrees)) (contains_substitution out c.binding c.there);
      once = λ i j d a l e.
          let bi = get_or out i [] in
          let bj = get_or out j [] in
          let li : i < length (map substitution out) = omega (arith, a, l) in
          let same : substitution bi ≡ substitution bj = sym (at i d li) ∙ e ∙ at j d l in
          h.apart i j [] a (in_out j l) (substitution bi) (substitution_agrees bi) (subst (Agrees bj) (sym same) (substitution_agrees bj));
    }

matches_classes : (class : ℕ) (out : List Binding) → map classes_in (map (substitution_match class) out) ≡ map substitution out
matches_classes class [] = refl
matches_classes class (b ∷ out) = let e = matches_classes class out in ap (λ xs. substitution b ∷ xs) e

lists_append : {X : Type 0} (P Q : X → Type 0) (xs ys : List X) → ((x : X) → P x → Q x → ⊥) → Lists P xs → Lists Q ys → Lists (λ x. P x ⊎ Q x) (xs ++ ys)
lists_append P Q xs ys never f g = record {
  each = All-append (λ x. P x ⊎ Q x) xs ys (λ k d l. inl (f.each k d l)) (λ k d l. inr (g.each k d l));
  all = λ x h. elim h [ inl p ↦ Contains-append_left xs ys x (f.all x p) | inr q ↦ Contains-append_right xs ys x (g.all x q) ];
  once = pairs_append (λ x y. ¬ (x ≡ y)) xs ys f.once g.once (λ x y h k e. never y (subst P e (All-contains P xs x f.each h)) (All-contains Q ys y g.each k));
}

module _ (g : Graph Op) (p : Tree Op) where
  pub matches_none : (Q : List ℕ → Type 0) → ((cs : List ℕ) → Q cs → ⊥) → AreMatches g p Q []
  matches_none Q never = record {
    lists = record { each = λ k d l. absurd (omega (arith, l)); all = λ cs q. absurd (never cs q); once = λ i j d a l. absurd (omega (arith, a, l)) };
    classes = λ k d l. absurd (omega (arith, l));
  }

  pub matches_same : (P Q : List ℕ → Type 0) (out : List Match) → ((cs : List ℕ) → P cs → Q cs) → ((cs : List ℕ) → Q cs → P cs) → AreMatches g p P out → AreMatches g p Q out
  matches_same P Q out there back h = record {
    lists = record { each = λ k d l. there (get_or (map classes_in out) k d) (h.lists.each k d l); all = λ cs q. h.lists.all cs (back cs q); once = h.lists.once };
    classes = h.classes;
  }

  -- what is found of a row or a class, as matches, behind the matches before
  module _ (P Q : List ℕ → Type 0) (class n : ℕ) (before : List Match) (found : List Binding)
      (never : (cs : List ℕ) → P cs → Q cs → ⊥)
      (h : AreMatches g p P before)
      (finds : Finds Q found)
      (bound : All (λ (x : Binding). (v : ℕ) → v < n → IsBound x v) found)
      (counts : All (λ (x : Binding). length x ≡ n) found)
      (class_is : (cs : List ℕ) → Q cs → IsClass g cs p class) where
    found_classes : All (λ (m : Match). IsClass g m.classes p m.class) (map (substitution_match class) found)
    found_classes = λ k d l.
        let lf : k < length found = omega (arith, l, length-map found (substitution_match class)) in
        let b = get_or found k [] in
        subst (λ (m : Match). IsClass g m.classes p m.class) (sym (get_or-map (substitution_match class) found k [] d lf))
        (class_is (substitution b) (finds.sound (substitution b) (record { binding = b; there = Contains-get_or found k [] lf; agrees = substitution_agrees b })))

    pub matches_more : AreMatches g p (λ cs. P cs ⊎ Q cs) (before ++ map (substitution_match class) found)
    matches_more = record {
      lists = subst (Lists (λ cs. P cs ⊎ Q cs))
          (sym (map-append classes_in before (map (substitution_match class) found) ∙ ap (λ xs. map classes_in before ++ xs) (matches_classes class found)))
          (lists_append P Q (map classes_in before) (map substitution found) never h.lists (substitution_listed Q n found finds bound counts));
      classes = All-append (λ (m : Match). IsClass g m.classes p m.class) before (map (substitution_match class) found) h.classes found_classes;
    }

-- what is known of one item that knows nothing, of all variables
known_all : (n : ℕ) (b : Binding) (V : ℕ → Type 0) (found : List Binding) → Keeps (b ∷ []) V found → ((v : ℕ) → v < n → V v) → All (λ (x : Binding). (v : ℕ) → v < n → IsBound x v) found
known_all n b V found keeps all = λ k d l v m. keeps.bound k d l v (inr (all v m))

known_counts : (n : ℕ) (b : Binding) (V : ℕ → Type 0) (found : List Binding) → Keeps (b ∷ []) V found → length b ≡ n → All (λ (x : Binding). length x ≡ n) found
known_counts n b V found keeps e = keeps.counts n (λ k d l. one_count k d l)
  where
    one_count : (k : ℕ) (d : Binding) → k < length (b ∷ []) → length (get_or (b ∷ []) k d) ≡ n
    one_count zero d l = e
    one_count (suc k) d l = absurd (omega (arith, l))

-- ---- a pattern among all classes

module _ (g : Graph Op) (is : IsGraph op_signature g) (p : Tree Op) (n : ℕ) where
  pub classes_none : AreMatches g p (IsSubstitutionByClass g p n 0) []
  classes_none = matches_none g p _ (λ cs h. absurd (let b = h.before in omega (arith, b)))

  module _ (class : ℕ) (out : List Match) (h : AreMatches g p (IsSubstitutionByClass g p n class) out) where
    one_later : (cs : List ℕ) → IsSubstitutionByClass g p n class cs → IsSubstitutionByClass g p n (class + 1) cs
    one_later cs k = record { length_is = k.length_is; class = k.class; before = let b = k.before in omega (arith, b); has = k.has; left = k.left }

    by_cases : (cs : List ℕ) → IsSubstitutionByClass g p n (class + 1) cs → IsSubstitutionByClass g p n class cs ⊎ ((length cs ≡ n) × HasClass g class × IsClass g cs p class)
    by_cases cs k =
        elim (cases_lt k.class class) [
          | inl b ↦ inl (record { length_is = k.length_is; class = k.class; before = b; has = k.has; left = k.left })
          | inr b ↦
              (let e : k.class ≡ class = let q = k.before in omega (arith, b, q) in
              inr (k.length_is, subst (HasClass g) e k.has, subst (IsClass g cs p) e k.left))
        ]

    pub classes_skip : (get_or g.current class 0 ≡ class → ⊥) → AreMatches g p (IsSubstitutionByClass g p n (class + 1)) out
    classes_skip never = matches_same g p _ _ out one_later (λ cs k. elim (by_cases cs k) [
      | inl a ↦ a
      | inr a ↦ absurd (let r = a.1 in never (subst (λ c. get_or g.current c 0 ≡ c) r.is (All-contains (λ t. IsPresent g t.class) g.rows r.row is.classes r.there).itself))
    ]) h

    pub classes_more : (b : Binding) (found : List Binding) → class < length g.current → get_or g.current class 0 ≡ class → IsUnknown n b → ((v : ℕ) → v < n → Occurs v p) → Extended g p class (b ∷ []) found →
        AreMatches g p (IsSubstitutionByClass g p n (class + 1)) (out ++ map (substitution_match class) found)
    classes_more b found l itself u all f =
        let has : HasClass g class = subst (HasClass g) itself (All-get_or (HasClass g) g.current class 0 l is.inhabited) in
        matches_same g p (λ cs. IsSubstitutionByClass g p n class cs ⊎ (Covered (b ∷ []) cs × IsClass g cs p class)) _ _
        (λ cs k. elim k [
          | inl a ↦ one_later cs a
          | inr a ↦ record { length_is = (one_covered b cs a.0).count ∙ u.length_is; class = class; before = omega arith; has = has; left = a.1 }
        ])
        (λ cs k. elim (by_cases cs k) [ inl a ↦ inl a | inr a ↦ inr (covered_one b cs (unknown_agrees n b cs u a.0), a.2) ])
        (matches_more g p (IsSubstitutionByClass g p n class) (λ cs. Covered (b ∷ []) cs × IsClass g cs p class) class n out found
        (λ cs k m. let e = one_class g is.distinct cs k.left m.1 in let q = k.before in omega (arith, e, q))
        h f.finds (known_all n b _ found f.keeps all) (known_counts n b _ found f.keeps u.length_is) (λ cs q. q.1))

  pub classes_all : (out : List Match) → AreMatches g p (IsSubstitutionByClass g p n (length g.current)) out → AreMatches g p (IsSubstitution g p n) out
  classes_all out h = matches_same g p _ _ out
      (λ cs k. record { length_is = k.length_is; class = k.class; has = k.has; left = k.left })
      (λ cs m.
      let has = m.has in
      record {
        length_is = m.length_is;
        class = m.class;
        before = subst (λ x. x < length g.current) has.is (All-contains (λ t. IsPresent g t.class) g.rows has.row is.classes has.there).made;
        has = has;
        left = m.left;
      })
      h

-- ---- an application among the rows of its operator

module _ (g : Graph Op) (is : IsGraph op_signature g) (op : Op) (ts : Trees Op) (n : ℕ) where
  pub among_none : AreMatches g (application op ts) (IsSubstitutionByRow g op ts n 0) []
  among_none = matches_none g (application op ts) _ (λ cs h. absurd (let b = h.before in omega (arith, b)))

  module _ (at : ℕ) (row : Row Op) (there : (d : Row Op) → get_or g.rows at d ≡ row) (out : List Match) (h : AreMatches g (application op ts) (IsSubstitutionByRow g op ts n at) out) where
    row_later : (cs : List ℕ) → IsSubstitutionByRow g op ts n at cs → IsSubstitutionByRow g op ts n (at + 1) cs
    row_later cs k = record { length_is = k.length_is; at = k.at; before = let b = k.before in omega (arith, b); row = k.row; there = k.there; op_is = k.op_is; operands = k.operands }

    row_cases : (cs : List ℕ) → IsSubstitutionByRow g op ts n (at + 1) cs → IsSubstitutionByRow g op ts n at cs ⊎ ((length cs ≡ n) × AreClasses g cs ts row.operands)
    row_cases cs k =
        elim (cases_lt k.at at) [
          | inl b ↦ inl (record { length_is = k.length_is; at = k.at; before = b; row = k.row; there = k.there; op_is = k.op_is; operands = k.operands })
          | inr b ↦
              (let e : k.at ≡ at = let q = k.before in omega (arith, b, q) in
              let same : k.row ≡ row = sym (k.there row) ∙ ap (λ i. get_or g.rows i row) e ∙ there row in
              inr (k.length_is, subst (λ (r : Row Op). AreClasses g cs ts r.operands) same k.operands))
        ]

    pub among_skip : (count : ℕ) → tree_count ts ≡ count → (length row.operands ≡ count → ⊥) → AreMatches g (application op ts) (IsSubstitutionByRow g op ts n (at + 1)) out
    among_skip count counted never = matches_same g (application op ts) _ _ out row_later (λ cs k. elim (row_cases cs k) [
      | inl a ↦ a
      | inr a ↦ absurd (never (count_of_classes g cs a.1 ∙ counted))
    ]) h

    pub among_more : (b : Binding) (found : List Binding) → at < length g.rows → row.op ≡ op → IsUnknown n b → ((v : ℕ) → v < n → OccursInOne v ts) → ExtendedAll g ts row.operands (b ∷ []) found →
        AreMatches g (application op ts) (IsSubstitutionByRow g op ts n (at + 1)) (out ++ map (substitution_match row.class) found)
    among_more b found l op_is u all f =
        let row_is : row ≡ record { op = op; operands = row.operands; class = row.class } = λ i. record { op = op_is i; operands = row.operands; class = row.class } in
        matches_same g (application op ts) (λ cs. IsSubstitutionByRow g op ts n at cs ⊎ (Covered (b ∷ []) cs × AreClasses g cs ts row.operands)) _ _
        (λ cs k. elim k [
          | inl a ↦ row_later cs a
          | inr a ↦ record { length_is = (one_covered b cs a.0).count ∙ u.length_is; at = at; before = omega arith; row = row; there = there; op_is = op_is; operands = a.1 }
        ])
        (λ cs k. elim (row_cases cs k) [ inl a ↦ inl a | inr a ↦ inr (covered_one b cs (unknown_agrees n b cs u a.0), a.1) ])
        (matches_more g (application op ts) (IsSubstitutionByRow g op ts n at) (λ cs. Covered (b ∷ []) cs × AreClasses g cs ts row.operands) row.class n out found
        (λ cs k m.
        let ops : k.row.operands ≡ row.operands = one_classes g is.distinct cs k.operands m.1 in
        is.distinct k.at at row k.before l (subst₂ (λ r t. Agree r t) (sym (k.there row)) (sym (there row)) (record { op = k.op_is ∙ sym op_is; operands = ops })))
        h f.finds (known_all n b _ found f.keeps all) (known_counts n b _ found f.keeps u.length_is)
        (λ cs q. at_row q.1 (subst (Contains g.rows) row_is (at, l, there row))))

  pub among_skips : (out : List Match) → Skips false g op 0 (λ end. AreMatches g (application op ts) (IsSubstitutionByRow g op ts n end) out)
  among_skips out i j l m never h = matches_same g (application op ts) _ _ out
      (λ cs k. record { length_is = k.length_is; at = k.at; before = let b = k.before in omega (arith, b, l); row = k.row; there = k.there; op_is = k.op_is; operands = k.operands })
      (λ cs k. elim (cases_lt k.at i) [
        | inl b ↦ record { length_is = k.length_is; at = k.at; before = b; row = k.row; there = k.there; op_is = k.op_is; operands = k.operands }
        | inr b ↦
            let q = k.before in
            absurd (never k.at (omega (arith, b)) q (record {
              row = k.row;
              there = slice_get-get_or g.rows k.at k.row (omega (arith, q, m)) ∙ ap Some (k.there k.row);
              op_is = k.op_is;
              class_is = refl;
            }))
      ])
      h

  matched_row : (cs : List ℕ) → IsSubstitution g (application op ts) n cs → IsSubstitutionByRow g op ts n (length g.rows) cs
  matched_row cs m = by_left m.class m.left
    where
      by_left : (c : ℕ) → IsClass g cs (application op ts) c → IsSubstitutionByRow g op ts n (length g.rows) cs
      by_left c (at_row {cs = ds} h k) = record {
        length_is = m.length_is;
        at = k.0;
        before = k.1;
        row = record { op = op; operands = ds; class = c };
        there = λ d. get_or_default g.rows k.0 d (record { op = op; operands = ds; class = c }) k.1 ∙ k.2;
        op_is = refl;
        operands = h;
      }

  row_matched : (cs : List ℕ) → IsSubstitutionByRow g op ts n (length g.rows) cs → IsSubstitution g (application op ts) n cs
  row_matched cs k =
      let same : k.row ≡ record { op = op; operands = k.row.operands; class = k.row.class } = λ i. record { op = k.op_is i; operands = k.row.operands; class = k.row.class } in
      let there : Contains g.rows k.row = (k.at, k.before, k.there k.row) in
      record {
        length_is = k.length_is;
        class = k.row.class;
        has = record { row = k.row; there = there; is = refl };
        left = at_row k.operands (subst (Contains g.rows) same there);
      }

  pub among_all : (out : List Match) → AreMatches g (application op ts) (IsSubstitutionByRow g op ts n (length g.rows)) out → AreMatches g (application op ts) (IsSubstitution g (application op ts) n) out
  among_all out h = matches_same g (application op ts) _ _ out row_matched matched_row h

-- ---- in the shapes of the loops

pub add_more : (class : ℕ) (bounds : List Binding) (k : ℕ) (b bound : Binding) (classes : List ℕ) (old now after : List Match) → k < length bounds → b ≡ get_or bounds k b → bound ≡ b → classes ≡ substitution bound → now ≡ old ++ map (substitution_match class) (take k bounds) →
    after ≡ now ++ record { classes = classes; class = class; given = None } ∷ [] → after ≡ old ++ map (substitution_match class) (take (k + 1) bounds)
add_more class bounds k b bound classes old now after l is e known now_is after_is =
    let one : take (k + 1) bounds ≡ take k bounds ++ b ∷ [] = take_more bounds k b l ∙ ap (λ x. take k bounds ++ x ∷ []) (sym is) in
    let m : map (substitution_match class) (take (k + 1) bounds) ≡ map (substitution_match class) (take k bounds) ++ substitution_match class b ∷ [] = ap (map (substitution_match class)) one ∙ map-append (substitution_match class) (take k bounds) (b ∷ []) in
    let c : classes ≡ substitution b = known ∙ ap substitution e in
    after_is
    ∙ ap (λ (cs : List ℕ). now ++ record { classes = cs; class = class; given = None } ∷ []) c
    ∙ ap (λ xs. xs ++ substitution_match class b ∷ []) now_is
    ∙ append_assoc old (map (substitution_match class) (take k bounds)) (substitution_match class b ∷ [])
    ∙ ap (λ xs. old ++ xs) (sym m)

pub substitution_more : (b : Binding) (k : ℕ) (x : Option ℕ) → k < length b → x ≡ get_or b k x → substitution (take (k + 1) b) ≡ substitution (take k b) ++ unwrap_or x 0 ∷ []
substitution_more b k x l is = ap substitution (take_more b k x l ∙ ap (λ y. take k b ++ y ∷ []) (sym is)) ∙ map-append (λ o. unwrap_or o 0) (take k b) (x ∷ [])
