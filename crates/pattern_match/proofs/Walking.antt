-- Steps of the walk.
use Rattle.std.proofs.Common.{◌≡◌, ◌≢◌, ℕ, zero, suc, ◌<◌, ◌≤◌, ◌+◌, List, [], ◌∷◌, ◌++◌, length, take, get_or, set, Some, All, AllPairs, Contains, refl, sym, ap, ◌∙◌, subst, subst₂, inl, inr, ◌⊎◌, arith, ⊎_elim}
use Rattle.std.proofs.lemmas.List.{get_or-map, length-map, get_or_default, length-set, get_or-take, length-take, take_more, take_all}
use Rattle.std.proofs.lemmas.List.Elements.{All-push, All-contains}
use Rattle.std.proofs.lemmas.Bool.{cases_lt}
use Rattle.word_ops.specs.declared.sorts.Op.{Op}
use Rattle.word_terms.specs.Keys.{op_signature}
use Rattle.word_terms.specs.Tree.{Tree, Trees, variable, application, none, operands_of, AreBelow, EachBelow}
use Rattle.word_terms.specs.View.{tree_step, tree_of, trees_of}
use Rattle.word_terms.specs.declared.term.Term.{Term, Term-F, fold-roll-Term}
use Rattle.word_terms.specs.declared.term.Term.TheVariants.{Var, App, rolls-Var, rolls-App}
use Rattle.std.specs.declared.vec.Vec.{Vec}
use Rattle.std.specs.declared.alloc.Global.{Global}
use Rattle.word_terms.specs.Sorting.{Occurs, OccursInOne, tree_count}
use Rattle.egraph.specs.declared.rows.Row.{Row}
use Rattle.egraph.specs.Graph.{Graph, Agree, IsGraph}
use Rattle.pattern_match.specs.Classes.{IsClass, AreClasses, at_variable, at_row, no_classes, classes}
use Rattle.pattern_match.specs.Bindings.{Binding, known_class, Agrees, Covered, Apart, Finds, IsBound, AreBound, Keeps, CanExtend, CanExtendAll, Extended, ExtendedAll, IsByRow, ExtendedBefore, node_count, node_count_all}
use Rattle.pattern_match.proofs.Finding.{covered_left, covered_right, covered_cases, covered_one, one_covered, finds_none, finds_one, finds_same, finds_append, keeps_none, keeps_append, keeps_itself, keeps_through, IsFree, set_agrees, agrees_set, set_bound}

-- ---- a variable

pub class_of_variable : (g : Graph Op) (cs : List ℕ) (v c : ℕ) → IsClass g cs (variable v) c → get_or cs v 0 ≡ c
class_of_variable g cs v c (at_variable l) = refl

-- of the list's items so far, those that agree with the class for the variable
pub record Binds (v c : ℕ) (done bs out : List Binding) : Type 0 where
  pub finds : Finds (λ cs. Covered done cs × (get_or cs v 0 ≡ c)) out
  pub keeps : Keeps bs (λ w. w ≡ v) out

pub binds_none : (v c : ℕ) (bs : List Binding) → Binds v c [] bs []
binds_none v c bs = record { finds = finds_none _ (λ cs h. absurd (let k = h.0.there in omega (arith, k.1))); keeps = keeps_none bs _ }

apart_before : (bs : List Binding) (i : ℕ) (b d : Binding) → AllPairs Apart bs → i < length bs → b ≡ get_or bs i b → Contains (take i bs) d → Apart d b
apart_before bs i b d apart l is h =
    let k = h.0 in
    let lk : k < i = omega (arith, h.1, length-take i bs) in
    let at : get_or bs k d ≡ d = sym (get_or-take i bs k d lk) ∙ h.2 in
    let it : get_or bs i d ≡ b = get_or_default bs i d b l ∙ sym is in
    subst₂ Apart at it (apart k i d lk l)

module _ (v c : ℕ) (bs : List Binding) (i : ℕ) (b : Binding) (l : i < length bs) (is : b ≡ get_or bs i b) (out : List Binding) (h : Binds v c (take i bs) bs out) where
  pub binds_skip : ((x : ℕ) × (known_class b v ≡ Some x) × (x ≢ c)) → Binds v c (take i bs ++ b ∷ []) bs out
  binds_skip other = record {
    finds = finds_same _ _ out
        (λ cs k. (covered_left (take i bs) (b ∷ []) cs k.0, k.1))
        (λ cs k. elim (covered_cases (take i bs) (b ∷ []) cs k.0) [
          | inl a ↦ (a, k.1)
          | inr a ↦ absurd (other.2 (sym ((one_covered b cs a).each v other.0 other.1) ∙ k.1))
        ])
        h.finds;
    keeps = h.keeps;
  }

  pub binds_more : (lv : v < length b) → IsFree b v c → AllPairs Apart bs → Binds v c (take i bs ++ b ∷ []) bs (out ++ set b v (Some c) ∷ [])
  binds_more lv free apart = record {
    finds = finds_same (λ cs. (Covered (take i bs) cs × (get_or cs v 0 ≡ c)) ⊎ Agrees (set b v (Some c)) cs) (λ cs. Covered (take i bs ++ b ∷ []) cs × (get_or cs v 0 ≡ c)) (out ++ set b v (Some c) ∷ [])
        (λ cs k. elim k [
          | inl a ↦ (covered_left (take i bs) (b ∷ []) cs a.0, a.1)
          | inr a ↦ (let s = set_agrees b v c cs lv free a in (covered_right (take i bs) (b ∷ []) cs (covered_one b cs s.0), s.1))
        ])
        (λ cs k. elim (covered_cases (take i bs) (b ∷ []) cs k.0) [
          | inl a ↦ inl (a, k.1)
          | inr a ↦ inr (agrees_set b v c cs lv (one_covered b cs a) k.1)
        ])
        (finds_append _ _ out (set b v (Some c) ∷ [])
        (λ cs k a. apart_before bs i b k.0.binding apart l is k.0.there cs k.0.agrees (set_agrees b v c cs lv free a).0)
        h.finds (finds_one (set b v (Some c))));
    keeps = keeps_append bs _ out (set b v (Some c) ∷ []) h.keeps (record {
      counts = λ n all k d m. made_count n all k d m;
      bound = λ k d m w q. made_bound w q k d m;
    });
  }
    where
      made_count : (n : ℕ) → All (λ x. length x ≡ n) bs → All (λ x. length x ≡ n) (set b v (Some c) ∷ [])
      made_count n all = All-push (λ x. length x ≡ n) [] (set b v (Some c)) (λ k d m. absurd (omega arith)) (length-set b v (Some c) ∙ subst (λ x. length x ≡ n) (sym is) (all i b l))

      made_bound : (w : ℕ) → AreBound bs w ⊎ (w ≡ v) → All (λ x. IsBound x w) (set b v (Some c) ∷ [])
      made_bound w q =
          All-push (λ x. IsBound x w) [] (set b v (Some c)) (λ k d m. absurd (omega arith))
          (set_bound b v c w lv (⊎_elim (λ (all : AreBound bs w). inl (subst (λ x. IsBound x w) (sym is) (all i b l))) (λ e. inr e) q))

pub binds_all : (g : Graph Op) (v c : ℕ) (bs out : List Binding) → CanExtend (variable v) bs → Binds v c bs bs out → Extended g (variable v) c bs out
binds_all g v c bs out can h = record {
  finds = finds_same _ _ out
      (λ cs k.
      let b = k.0 in
      let count : length b.binding ≡ can.count = All-contains (λ x. length x ≡ can.count) bs b.binding can.counts b.there in
      let lv : v < length cs = omega (arith, count, b.agrees.count, can.below) in
      (b, subst (IsClass g cs (variable v)) k.1 (at_variable lv)))
      (λ cs k. (k.0, class_of_variable g cs v c k.1))
      h.finds;
  keeps = h.keeps;
}

pub in_range : (v : ℕ) (bs : List Binding) (i : ℕ) (b : Binding) → CanExtend (variable v) bs → i < length bs → b ≡ get_or bs i b → v < length b
in_range v bs i b can l is = let e : length b ≡ can.count = subst (λ x. length x ≡ can.count) (sym is) (can.counts i b l) in omega (arith, e, can.below)

-- ---- the rows

-- two rows of a list without rows that agree are one where they agree
one_row_of : (rows : List (Row Op)) (r s : Row Op) → AllPairs (λ x y. ¬ Agree x y) rows → Contains rows r → Contains rows s → Agree r s → r ≡ s
one_row_of rows r s apart h k e =
    let f : get_or rows k.0 r ≡ s = get_or_default rows k.0 r s k.1 ∙ k.2 in
    let g : get_or rows h.0 s ≡ r = get_or_default rows h.0 s r h.1 ∙ h.2 in
    elim (cases_lt h.0 k.0) [
      | inl b ↦ absurd (apart h.0 k.0 r b k.1 (rw (h.2, f) e))
      | inr b ↦ elim (cases_lt k.0 h.0) [
        | inl d ↦ absurd (apart k.0 h.0 s d h.1 (rw (k.2, g) (record { op = sym e.op; operands = sym e.operands })))
        | inr d ↦ (let m : h.0 ≡ k.0 = omega arith in sym h.2 ∙ ap (λ y. get_or rows y r) m ∙ f)
      ]
    ]

module _ (g : Graph Op) (apart : AllPairs (λ r t. ¬ Agree r t) g.rows) where
  mutual
    -- a pattern has at most one class
    pub one_class : (places : List ℕ) {t : Tree Op} {c d : ℕ} → IsClass g places t c → IsClass g places t d → c ≡ d
    one_class places (at_variable l) (at_variable m) = refl
    one_class places (at_row {op} {ts} {cs} {c} h k) (at_row {cs = ds} {c = d} i l) =
        ap (λ r. r.class) (one_row_of g.rows (record { op = op; operands = cs; class = c }) (record { op = op; operands = ds; class = d }) apart k l (record { op = refl; operands = one_classes places h i }))

    pub one_classes : (places : List ℕ) {ts : Trees Op} {cs ds : List ℕ} → AreClasses g places ts cs → AreClasses g places ts ds → cs ≡ ds
    one_classes places no_classes no_classes = refl
    one_classes places (classes h i) (classes k l) = let e = one_class places h k in let f = one_classes places i l in cc

pub count_of_classes : (g : Graph Op) (cs : List ℕ) {ts : Trees Op} {ds : List ℕ} → AreClasses g cs ts ds → length ds ≡ tree_count ts
count_of_classes g cs no_classes = refl
count_of_classes g cs (classes h k) = let e = count_of_classes g cs k in omega (arith, e)

module _ (g : Graph Op) (op : Op) (ts : Trees Op) (c : ℕ) (bs : List Binding) where
  pub rows_none : ExtendedBefore g op ts c 0 bs []
  rows_none = record { finds = finds_none _ (λ cs h. absurd (let k = h.1.before in omega (arith, k))); keeps = keeps_none bs _ }

  module _ (at : ℕ) (row : Row Op) (there : (d : Row Op) → get_or g.rows at d ≡ row) (out : List Binding) (h : ExtendedBefore g op ts c at bs out) where
    one_later : (cs : List ℕ) → IsByRow g op ts c at cs → IsByRow g op ts c (at + 1) cs
    one_later cs k = record { at = k.at; before = let b = k.before in omega (arith, b); row = k.row; there = k.there; op_is = k.op_is; class_is = k.class_is; operands = k.operands }

    -- by a row before, or by this one
    by_cases : (cs : List ℕ) → IsByRow g op ts c (at + 1) cs → IsByRow g op ts c at cs ⊎ ((row.op ≡ op) × (row.class ≡ c) × AreClasses g cs ts row.operands)
    by_cases cs k =
        elim (cases_lt k.at at) [
          | inl b ↦ inl (record { at = k.at; before = b; row = k.row; there = k.there; op_is = k.op_is; class_is = k.class_is; operands = k.operands })
          | inr b ↦
              (let e : k.at ≡ at = let q = k.before in omega (arith, b, q) in
              let same : k.row ≡ row = sym (k.there row) ∙ ap (λ n. get_or g.rows n row) e ∙ there row in
              inr (ap (λ r. r.op) (sym same) ∙ k.op_is, ap (λ r. r.class) (sym same) ∙ k.class_is, subst (λ r. AreClasses g cs ts r.operands) same k.operands))
        ]

    pub rows_skip : (count : ℕ) → tree_count ts ≡ count → ((row.op ≡ op) × (row.class ≡ c) × (length row.operands ≡ count) → ⊥) → ExtendedBefore g op ts c (at + 1) bs out
    rows_skip count counted never = record {
      finds = finds_same _ _ out
          (λ cs k. (k.0, one_later cs k.1))
          (λ cs k. elim (by_cases cs k.1) [
            | inl a ↦ (k.0, a)
            | inr a ↦ absurd (never (a.0, a.1, count_of_classes g cs a.2 ∙ counted))
          ])
          h.finds;
      keeps = h.keeps;
    }

    pub rows_more : (found : List Binding) → IsGraph op_signature g → at < length g.rows → row.op ≡ op → row.class ≡ c → ExtendedAll g ts row.operands bs found → ExtendedBefore g op ts c (at + 1) bs (out ++ found)
    rows_more found is l op_is class_is f = record {
      finds = finds_same (λ cs. (Covered bs cs × IsByRow g op ts c at cs) ⊎ (Covered bs cs × AreClasses g cs ts row.operands)) (λ cs. Covered bs cs × IsByRow g op ts c (at + 1) cs) (out ++ found)
          (λ cs k. elim k [
            | inl a ↦ (a.0, one_later cs a.1)
            | inr a ↦ (a.0, record { at = at; before = omega arith; row = row; there = there; op_is = op_is; class_is = class_is; operands = a.1 })
          ])
          (λ cs k. elim (by_cases cs k.1) [ inl a ↦ inl (k.0, a) | inr a ↦ inr (k.0, a.2) ])
          (finds_append _ _ out found
          (λ cs k m.
          let b = k.1 in
          let ops : b.row.operands ≡ row.operands = one_classes g is.distinct cs b.operands m.1 in
          is.distinct b.at at row b.before l (subst₂ (λ r t. Agree r t) (sym (b.there row)) (sym (there row)) (record { op = b.op_is ∙ sym op_is; operands = ops })))
          h.finds f.finds);
      keeps = keeps_append bs _ out found h.keeps f.keeps;
    }

  by_row_of : (cs : List ℕ) → IsClass g cs (application op ts) c → IsByRow g op ts c (length g.rows) cs
  by_row_of cs (at_row {cs = ds} h k) = record {
    at = k.0;
    before = k.1;
    row = record { op = op; operands = ds; class = c };
    there = λ d. get_or_default g.rows k.0 d (record { op = op; operands = ds; class = c }) k.1 ∙ k.2;
    op_is = refl;
    class_is = refl;
    operands = h;
  }

  class_by_row : (cs : List ℕ) → IsByRow g op ts c (length g.rows) cs → IsClass g cs (application op ts) c
  class_by_row cs k =
      let same : k.row ≡ record { op = op; operands = k.row.operands; class = c } = λ i. record { op = k.op_is i; operands = k.row.operands; class = k.class_is i } in
      at_row k.operands (subst (Contains g.rows) same (k.at, k.before, k.there k.row))

  pub rows_all : (end : ℕ) (out : List Binding) → end ≡ length g.rows → ExtendedBefore g op ts c end bs out → Extended g (application op ts) c bs out
  rows_all end out e h =
      let f = subst (λ n. Finds (λ cs. Covered bs cs × IsByRow g op ts c n cs) out) e h.finds in
      record {
        finds = finds_same _ _ out (λ cs k. (k.0, class_by_row cs k.1)) (λ cs k. (k.0, by_row_of cs k.1)) f;
        keeps = h.keeps;
      }

-- ---- the operands

pub are_push : (g : Graph Op) (cs : List ℕ) (ts : List (Tree Op)) (p : Tree Op) {ds : List ℕ} {d : ℕ} → AreClasses g cs (operands_of ts) ds → IsClass g cs p d → AreClasses g cs (operands_of (ts ++ p ∷ [])) (ds ++ d ∷ [])
are_push g cs [] p no_classes k = classes k no_classes
are_push g cs (t ∷ ts) p (classes h i) k = classes h (are_push g cs ts p i k)

are_split : (g : Graph Op) (cs : List ℕ) (ts : List (Tree Op)) (p : Tree Op) (ds : List ℕ) (d : ℕ) → length ts ≡ length ds → AreClasses g cs (operands_of (ts ++ p ∷ [])) (ds ++ d ∷ []) → AreClasses g cs (operands_of ts) ds × IsClass g cs p d
are_split g cs [] p [] d e (classes h k) = (no_classes, h)
are_split g cs [] p (x ∷ ds) d e k = absurd (omega arith)
are_split g cs (t ∷ ts) p [] d e k = absurd (omega arith)
are_split g cs (t ∷ ts) p (x ∷ ds) d e (classes h k) = let r = are_split g cs ts p ds d (omega arith) k in (classes h r.0, r.1)

occurs_split : (v : ℕ) (ts : List (Tree Op)) (p : Tree Op) → OccursInOne v (operands_of (ts ++ p ∷ [])) → OccursInOne v (operands_of ts) ⊎ Occurs v p
occurs_split v [] p h = ⊎_elim (λ a. inr a) (λ b. absurd b) h
occurs_split v (t ∷ ts) p h = ⊎_elim (λ a. inl (inl a)) (λ b. ⊎_elim (λ x. inl (inr x)) (λ y. inr y) (occurs_split v ts p b)) h

pub all_none : (g : Graph Op) (bs : List Binding) → AllPairs Apart bs → ExtendedAll g none [] bs bs
all_none g bs apart = record {
  finds = record { sound = λ cs h. (h, no_classes); complete = λ cs h. h.0; apart = apart };
  keeps = keeps_itself bs _ (λ v h. h);
}

pub all_more : (g : Graph Op) (ts : List (Tree Op)) (ds : List ℕ) (p : Tree Op) (d : ℕ) (bs found out : List Binding) → length ts ≡ length ds → ExtendedAll g (operands_of ts) ds bs found → Extended g p d found out →
    ExtendedAll g (operands_of (ts ++ p ∷ [])) (ds ++ d ∷ []) bs out
all_more g ts ds p d bs found out e f h = record {
  finds = finds_same _ _ out
      (λ cs k. let m = f.finds.sound cs k.0 in (m.0, are_push g cs ts p m.1 k.1))
      (λ cs k. let r = are_split g cs ts p ds d e k.1 in (f.finds.complete cs (k.0, r.0), r.1))
      h.finds;
  keeps = keeps_through bs found _ _ _ out (λ v k. occurs_split v ts p k) f.keeps h.keeps;
}

pub below_at : (n : ℕ) (ts : List (Tree Op)) (k : ℕ) (d : Tree Op) → EachBelow n (operands_of ts) → k < length ts → AreBelow n (get_or ts k d)
below_at n [] k d h l = absurd (omega arith)
below_at n (t ∷ ts) zero d h l = h.0
below_at n (t ∷ ts) (suc k) d h l = below_at n ts k d h.1 (omega arith)

pub can_next : (g : Graph Op) (ts : List (Tree Op)) (bs found : List Binding) (k : ℕ) (d : Tree Op) (ds : List ℕ) → CanExtendAll (operands_of ts) bs → k < length ts → ExtendedAll g (operands_of (take k ts)) ds bs found → CanExtend (get_or ts k d) found
can_next g ts bs found k d ds can l h = record {
  count = can.count;
  counts = h.keeps.counts can.count can.counts;
  below = below_at can.count ts k d can.below l;
  apart = h.finds.apart;
}

-- ---- in the shapes of the loops

module _ (v c : ℕ) (bs : List Binding) (i : ℕ) (b bound : Binding) (l : i < length bs) (is : b ≡ get_or bs i b) (e : bound ≡ b) (out : List Binding) (h : Binds v c (take i bs) bs out) where
  taken : take (i + 1) bs ≡ take i bs ++ b ∷ []
  taken = take_more bs i b l ∙ ap (λ x. take i bs ++ x ∷ []) (sym is)

  pub bind_skips : ((x : ℕ) × (known_class bound v ≡ Some x) × (x ≡ c → ⊥)) → Binds v c (take (i + 1) bs) bs out
  bind_skips other = subst (λ d. Binds v c d bs out) (sym taken) (binds_skip v c bs i b l is out h (subst (λ y. (x : ℕ) × (known_class y v ≡ Some x) × (x ≢ c)) e other))

  pub bind_adds : (made : Binding) (after : List Binding) → CanExtend (variable v) bs → (made ≡ set bound v (Some c)) × IsFree bound v c → after ≡ out ++ made ∷ [] → Binds v c (take (i + 1) bs) bs after
  bind_adds made after can m a =
      let free = subst (λ y. IsFree y v c) e m.1 in
      let made_is : made ≡ set b v (Some c) = m.0 ∙ ap (λ y. set y v (Some c)) e in
      subst₂ (λ d o. Binds v c d bs o) (sym taken) (sym (a ∙ ap (λ y. out ++ y ∷ []) made_is)) (binds_more v c bs i b l is out h (in_range v bs i b can l is) free can.apart)

-- ---- terms

pub tree_of_variable : (n : ℕ) → tree_of {O = Op} (Var n) ≡ variable n
unfolding tree_of
tree_of_variable n = ap (tree_of {O = Op}) (sym (rolls-Var n)) ∙ fold-roll-Term Op (Tree Op) tree_step (Term-F.Var n)

pub tree_of_application : (op : Op) (v : Vec (Term Op) Global) → tree_of (App op v) ≡ application op (operands_of (trees_of v.items))
unfolding tree_of
tree_of_application op v = ap (tree_of {O = Op}) (sym (rolls-App op v)) ∙ fold-roll-Term Op (Tree Op) tree_step (Term-F.App op v)

pub variable_can : (p : Term Op) (n : ℕ) (bs : List Binding) → p ≡ Var n → CanExtend (tree_of p) bs → CanExtend (variable n) bs
variable_can p n bs is can = subst (λ t. CanExtend t bs) (ap tree_of is ∙ tree_of_variable n) can

pub variable_is : (p : Term Op) (n : ℕ) → p ≡ Var n → tree_of p ≡ variable n
variable_is p n is = ap tree_of is ∙ tree_of_variable n

pub application_is : (p : Term Op) (op : Op) (v : Vec (Term Op) Global) → p ≡ App op v → tree_of p ≡ application op (operands_of (trees_of v.items))
application_is p op v is = ap tree_of is ∙ tree_of_application op v

pub operands_can : (p : Term Op) (op : Op) (v : Vec (Term Op) Global) (items : List (Term Op)) (bs : List Binding) → p ≡ App op v → items ≡ v.items → CanExtend (tree_of p) bs → CanExtendAll (operands_of (trees_of items)) bs
operands_can p op v items bs is e can =
    let k : CanExtend (application op (operands_of (trees_of v.items))) bs = subst (λ t. CanExtend t bs) (application_is p op v is) can in
    subst (λ xs. CanExtendAll (operands_of (trees_of xs)) bs) (sym e) (record { count = k.count; counts = k.counts; below = k.below; apart = k.apart })

pub count_is : (items : List (Term Op)) → tree_count (operands_of (trees_of items)) ≡ length items
count_is [] = refl
count_is (t ∷ ts) = let e = count_is ts in omega (arith, e)

pub operands_smaller : (p : Term Op) (op : Op) (v : Vec (Term Op) Global) (items : List (Term Op)) → p ≡ App op v → items ≡ v.items → node_count_all (operands_of (trees_of items)) + 1 ≡ node_count (tree_of p)
operands_smaller p op v items is e =
    let w : node_count (tree_of p) ≡ 1 + node_count_all (operands_of (trees_of v.items)) = ap node_count (application_is p op v is) in
    let x : node_count_all (operands_of (trees_of items)) ≡ node_count_all (operands_of (trees_of v.items)) = ap (λ xs. node_count_all (operands_of (trees_of xs))) e in
    omega (arith, w, x)

nodes_at : (ts : List (Tree Op)) (k : ℕ) (d : Tree Op) → k < length ts → node_count (get_or ts k d) ≤ node_count_all (operands_of ts)
nodes_at [] k d l = absurd (omega arith)
nodes_at (t ∷ ts) zero d l = omega arith
nodes_at (t ∷ ts) (suc k) d l = let h = nodes_at ts k d (omega arith) in omega (arith, h)

module _ (items : List (Term Op)) (k : ℕ) (x : Term Op) (l : k < length items) (is : x ≡ get_or items k x) where
  pub in_trees : k < length (trees_of items)
  in_trees = omega (arith, l, length-map items (tree_of {O = Op}))

  pub at_tree : get_or (trees_of items) k (tree_of x) ≡ tree_of x
  at_tree = get_or-map tree_of items k x (tree_of x) l ∙ sym (ap tree_of is)

  pub one_more_tree : take (k + 1) (trees_of items) ≡ take k (trees_of items) ++ tree_of x ∷ []
  one_more_tree = take_more (trees_of items) k (tree_of x) in_trees ∙ ap (λ y. take k (trees_of items) ++ y ∷ []) at_tree

  pub operand_smaller : node_count (tree_of x) ≤ node_count_all (operands_of (trees_of items))
  operand_smaller = let h = nodes_at (trees_of items) k (tree_of x) in_trees in let e : node_count (get_or (trees_of items) k (tree_of x)) ≡ node_count (tree_of x) = ap node_count at_tree in omega (arith, h, e)

  pub next_can : (g : Graph Op) (bs found : List Binding) (ds : List ℕ) → CanExtendAll (operands_of (trees_of items)) bs → ExtendedAll g (operands_of (take k (trees_of items))) ds bs found → CanExtend (tree_of x) found
  next_can g bs found ds can h = subst (λ t. CanExtend t found) at_tree (can_next g (trees_of items) bs found k (tree_of x) ds can in_trees h)

  pub next_extended : (g : Graph Op) (places : List ℕ) (bs found out : List Binding) → length places ≡ length items → ExtendedAll g (operands_of (take k (trees_of items))) (take k places) bs found →
      Extended g (tree_of x) (get_or places k 0) found out → ExtendedAll g (operands_of (take (k + 1) (trees_of items))) (take (k + 1) places) bs out
  next_extended g places bs found out e f h =
      let lc : k < length places = omega (arith, l, e) in
      let lens : length (take k (trees_of items)) ≡ length (take k places) = omega (arith, length-take k (trees_of items), length-take k places, in_trees, lc) in
      subst₂ (λ ts ds. ExtendedAll g (operands_of ts) ds bs out) (sym one_more_tree) (sym (take_more places k 0 lc)) (all_more g (take k (trees_of items)) (take k places) (tree_of x) (get_or places k 0) bs found out lens f h)

pub all_extended : (g : Graph Op) (items : List (Term Op)) (k : ℕ) (places : List ℕ) (bs out : List Binding) → length items ≤ k → length places ≡ length items → ExtendedAll g (operands_of (take k (trees_of items))) (take k places) bs out →
    ExtendedAll g (operands_of (trees_of items)) places bs out
all_extended g items k places bs out l e h =
    subst₂ (λ ts ds. ExtendedAll g (operands_of ts) ds bs out) (take_all k (trees_of items) (omega (arith, l, length-map items (tree_of {O = Op})))) (take_all k places (omega (arith, l, e))) h
