-- Raises of classes one after another: what stands, the queue, and which rows are followed.
use Rattle.std.proofs.Common.{◌≡◌, ℕ, zero, suc, ◌+◌, ◌*◌, ◌<◌, ◌≤◌, List, [], ◌∷◌, ◌++◌, length, set, get_or, take, refl, sym, ◌∙◌, ap, subst, inl, inr, ◌⊎◌, arith, true, Option, Some, None, length-append}
use Rattle.std.specs.Prelude.{All, Contains, slice_index, slice_index_or, sum, Result, Ok, Err, OnOk}
use Rattle.std.specs.Option.{option_map_or}
use Rattle.std.proofs.lemmas.Bool.{cases_eq, cases_lt, false≢true}
use Rattle.std.proofs.lemmas.List.{get_or-set_same, get_or-set_other, get_or_append_left, get_or-append-add, length-set, get_or_default, take_more}
use Rattle.std.proofs.lemmas.List.Elements.{All-push, Contains-get_or, Contains-push_cases}
use Rattle.std.proofs.lemmas.List.Sums.{sum_by-set, sum_by-le}
use Rattle.word_ops.specs.declared.operates.Operate.{Operate as OperateOf}
use Rattle.word_ops.specs.declared.operates.Operate.TheVariants.{And}
use Rattle.word_ops.specs.declared.operators.WordOp.{WordOp}
use Rattle.word_ops.specs.declared.operators.WordOp.TheVariants.{Operate}
use Rattle.word_ops.specs.declared.sorts.Op.{Op}
use Rattle.word_ops.specs.declared.sorts.Op.TheVariants.{Word}
use Rattle.graph_meaning.specs.Graphs.{constant_among}
use Rattle.graph_meaning.specs.Multiples.{low_ones, pair_multiple, HasRow, IsShown, IsMultiple}
use Rattle.graph_meaning.specs.Multiples.IsShown.{by_nothing, by_mask, by_mask_before}
use Rattle.graph_meaning.specs.Raising.{AreConstants, AreUses, AreRaises, AreFollowed, IsBelow, IsFollowed, IsMasked, IsRaised, IsSeen, IsState, Waits, is_and, negated, said, row_says}
use Rattle.graph_meaning.specs.declared.graphs.LaunchRow.{LaunchRow}
use Rattle.graph_meaning.proofs.Shown.{here, there, said_shown, few, most}

-- ---- what a row says depends on its operands alone

pub said_same : (o : Op) (k l : ℕ → Option ℕ) (f g : ℕ → ℕ) (xs : List ℕ)
    → ((c : ℕ) → Contains xs c → (k c ≡ l c) × (f c ≡ g c)) → said o k f xs ≡ said o l g xs
said_same o k l f g [] h = refl
said_same o k l f g (x ∷ []) h = ap (negated o) (h x (here x [])).1
said_same o k l f g (x ∷ y ∷ []) h =
    let a = h x (here x (y ∷ [])) in
    let b = h y (there x y (y ∷ []) (here y [])) in
    ap (λ c. pair_multiple o c (f x) (f y)) b.0
    ∙ ap (λ n. pair_multiple o (l y) n (f y)) a.1
    ∙ ap (λ n. pair_multiple o (l y) (g x) n) b.1
said_same o k l f g (x ∷ y ∷ z ∷ xs) h = refl

cons_cases : (x : ℕ) (xs : List ℕ) (c : ℕ) → Contains (x ∷ xs) c → (x ≡ c) ⊎ Contains xs c
cons_cases x xs c (zero, l, e) = inl e
cons_cases x xs c (suc k, l, e) = inr (k, omega arith, e)

module _ (F W : ℕ → Type 0) where
  with_head : (x : ℕ) (xs : List ℕ) → F x → ((c : ℕ) → Contains xs c → F c) → (c : ℕ) → Contains (x ∷ xs) c → F c
  with_head x xs f all c m = elim (cons_cases x xs c m) [ inl e ↦ subst F e f | inr k ↦ all c k ]

  one_of : (xs : List ℕ) → ((c : ℕ) → F c ⊎ W c)
      → ((c : ℕ) → Contains xs c → F c) ⊎ ((c : ℕ) × Contains xs c × W c)
  one_of [] h = inl (λ c m. absurd (let l : m.0 < 0 = m.1 in omega arith))
  one_of (x ∷ xs) h =
      elim (h x) [
        | inr w ↦ inr (x, here x xs, w)
        | inl f ↦ elim (one_of xs h) [
          | inl all ↦ inl (with_head x xs f all)
          | inr p ↦ inr (p.0, there x p.0 xs p.1, p.2)
        ]
      ]

-- ---- what follows where there is a value

pub ok_then : {T E P Q : Type 0} (r : Result T E) → OnOk r P → (P → Q) → OnOk r Q
ok_then (Ok x) h f = f h
ok_then (Err e) h f = tt

pub ok_both : {T E P Q R : Type 0} (r : Result T E) → OnOk r P → OnOk r Q → (P → Q → R) → OnOk r R
ok_both (Ok x) h g f = f h g
ok_both (Err e) h g f = tt

-- ---- raises one after another

pub raises_none : (m q : List ℕ) → AreRaises m q m q
raises_none m q = record {
  size = refl;
  more = λ c. omega arith;
  longer = omega arith;
  same = λ k l. refl;
  waits = λ c. inl refl;
}

module _ (m q m' q' : List ℕ) (r : AreRaises m q m' q') where
  pub waits_on : (at c : ℕ) → Waits q at c → Waits q' at c
  waits_on at c w = (w.0, w.1, (let x = r.longer in let y = w.2 in omega arith), r.same w.0 w.2 ∙ w.3)

pub raises_both : (m q m' q' m'' q'' : List ℕ) → AreRaises m q m' q' → AreRaises m' q' m'' q'' → AreRaises m q m'' q''
raises_both m q m' q' m'' q'' a b = record {
  size = b.size ∙ a.size;
  more = λ c. (let x = a.more c in let y = b.more c in omega arith);
  longer = (let x = a.longer in let y = b.longer in omega arith);
  same = λ k l. (let x = a.longer in b.same k (omega arith) ∙ a.same k l);
  waits = λ c. elim (b.waits c) [
    | inr w ↦ inr (w.0, (let x = a.longer in let y = w.1 in omega arith), w.2, w.3)
    | inl e ↦ elim (a.waits c) [
      | inl f ↦ inl (e ∙ f)
      | inr w ↦ inr (waits_on m' q' m'' q'' b (length q) c w)
    ]
  ];
}

at_both : (P : List ℕ → List ℕ → Type 0) (a b c d : List ℕ) → a ≡ b → c ≡ d → P b d → P a c
at_both P a b c d e f p = subst (λ x. P x c) (sym e) (subst (λ y. P b y) (sym f) p)

module _ (m q : List ℕ) (class n : ℕ) (lt : class < length m) where
  set_same : (c : ℕ) → c ≡ class → slice_index (set m class n) c ≡ n
  set_same c e = ap (λ k. slice_index (set m class n) k) e ∙ get_or-set_same m class n 0 lt

  set_other : (c : ℕ) → (c ≡ class → ⊥) → slice_index (set m class n) c ≡ slice_index m c
  set_other c ne = get_or-set_other m class c n 0 ne

  size : length (q ++ class ∷ []) ≡ suc (length q)
  size = length-append q (class ∷ []) ∙ (let o : length (class ∷ []) ≡ 1 = refl in omega arith)

  new_waits : (c : ℕ) → c ≡ class → Waits (q ++ class ∷ []) (length q) c
  new_waits c e = (
    length q + 0,
    omega arith,
    (let s = size in omega arith),
    get_or-append-add q (class ∷ []) 0 0 ∙ sym e,
  )

  set_raises : slice_index m class < n → AreRaises m q (set m class n) (q ++ class ∷ [])
  set_raises h = record {
    size = length-set m class n;
    more = λ c. elim (cases_eq c class) [
      | inl e ↦ (let s = set_same c e in let b : slice_index m c
          ≡ slice_index m class = ap (slice_index m) e in omega arith)
      | inr ne ↦ (let s = set_other c ne in omega arith)
    ];
    longer = (let s = size in omega arith);
    same = λ k l. get_or_append_left q (class ∷ []) 0 k l;
    waits = λ c. elim (cases_eq c class) [ inl e ↦ inr (new_waits c e) | inr ne ↦ inl (set_other c ne) ];
  }

  set_state : (rows : List LaunchRow) → slice_index m class < n → IsState rows m q → IsShown rows class n
      → IsState rows (set m class n) (q ++ class ∷ [])
  set_state rows h state shown = record {
    shown = λ c l. elim (cases_eq c class) [
      | inl e ↦ subst (IsShown rows c) (sym (set_same c e)) (subst (λ k. IsShown rows k n) (sym e) shown)
      | inr ne ↦
          subst (IsShown rows c) (sym (set_other c ne)) (state.shown c (let s = length-set m class n in omega arith))
    ];
    few =
        (let a = sum_by-set (λ x. x) m class n 0 lt in
        let s = size in
        let b : length q ≤ sum m = state.few in
        omega arith);
    within = λ k d l. (
        let s = length-set m class n in
        let a : slice_index_or (q ++ class ∷ []) k d < length m =
        All-push (λ c. c < length m) q class state.within lt k d l in
        omega arith);
  }

  pub raised : (m' q' : List ℕ) → IsRaised m q class n m' q' → AreRaises m q m' q'
  raised m' q' (inl h) = at_both (λ x y. AreRaises m q x y) m' m q' q h.1 h.2 (raises_none m q)
  raised m' q' (inr h) =
      at_both (λ x y. AreRaises m q x y) m' (set m class n) q' (q ++ class ∷ []) h.1 h.2 (set_raises h.0)

  pub raised_state : (rows : List LaunchRow) (m' q' : List ℕ) → IsState rows m q → IsShown rows class n
      → IsRaised m q class n m' q' → IsState rows m' q'
  raised_state rows m' q' state shown (inl h) = at_both (λ x y. IsState rows x y) m' m q' q h.1 h.2 state
  raised_state rows m' q' state shown (inr h) =
      at_both (λ x y. IsState rows x y) m' (set m class n) q' (q ++ class ∷ []) h.1 h.2 (set_state rows h.0 state shown)

  pub raised_to : (m' q' : List ℕ) → IsRaised m q class n m' q' → n ≤ slice_index m' class
  raised_to m' q' (inl h) = subst (λ x. n ≤ slice_index x class) (sym h.1) h.0
  raised_to m' q' (inr h) =
      (let a = ap (λ (x : List ℕ). slice_index x class) h.1 in let b = set_same class refl in omega arith)

-- ---- which rows are followed

module _ (rows : List LaunchRow) (m q m' q' : List ℕ) (r : AreRaises m q m' q') where
  same_or_waits : (row : LaunchRow) → (row_says rows m' row ≡ row_says rows m row)
      ⊎ ((c : ℕ) × Contains row.operands c × Waits q' (length q) c)
  same_or_waits row =
      elim (one_of (λ c. slice_index m' c ≡ slice_index m c) (Waits q' (length q)) row.operands r.waits) [
        | inl same ↦ inl (said_same row.op (constant_among rows) (constant_among rows) (slice_index m')
            (slice_index m) row.operands
            (λ c h. (refl, same c h)))
        | inr w ↦ inr w
      ]

  -- a row that says no more than what stands now, by what stood before
  pub settles : (row : LaunchRow) → row_says rows m row ≤ slice_index m' row.class
      → IsFollowed rows m' q' (length q) row
  settles row h =
      elim (same_or_waits row) [
        | inl e ↦ inl (subst (λ k. k ≤ slice_index m' row.class) (sym e) h)
        | inr w ↦ inr w
      ]

  pub stays_followed : (at : ℕ) (row : LaunchRow) → at ≤ length q → IsFollowed rows m q at row
      → IsFollowed rows m' q' at row
  stays_followed at row l (inl h) =
      elim (settles row (let a = r.more row.class in omega (arith, h))) [
        | inl g ↦ inl g
        | inr w ↦ inr (w.0, w.1, (w.2.0, (let b = w.2.1 in omega arith), w.2.2, w.2.3))
      ]
  stays_followed at row l (inr w) = inr (w.0, w.1, waits_on m q m' q' r at w.0 w.2)

  pub stays_masked : (row : LaunchRow) → IsMasked rows m row → IsMasked rows m' row
  stays_masked row h x y o e z =
      let p = h x y o e z in (
        λ k s. (let a = p.0 k s in let b = r.more x in omega arith),
        λ k s. (let a = p.1 k s in let b = r.more y in omega arith),
      )

pub later_followed : (rows : List LaunchRow) (m q : List ℕ) (at later : ℕ) (row : LaunchRow) → at ≤ later
    → IsFollowed rows m q later row → IsFollowed rows m q at row
later_followed rows m q at later row l (inl h) = inl h
later_followed rows m q at later row l (inr w) = inr (w.0, w.1, (w.2.0, (let b = w.2.1 in omega arith), w.2.2, w.2.3))

-- ---- loops over rows, over the rows of a class and over the queue

pub same_row : (rows : List LaunchRow) (i k : ℕ) (row d : LaunchRow) → k ≡ i → i < length rows → row ≡ get_or rows i row
    → row ≡ get_or rows k d
same_row rows i k row d e lt h = h ∙ get_or_default rows i row d lt ∙ ap (λ j. get_or rows j d) (sym e)

-- a row looked at more
pub more_seen : (rows : List LaunchRow) (m q m' q' : List ℕ) (i : ℕ) (row : LaunchRow) → AreRaises m q m' q'
    → i < length rows
    → row ≡ get_or rows i row → ((k : ℕ) (d : LaunchRow) → k < i → IsSeen rows m q 0 (get_or rows k d))
    → IsSeen rows m' q' (length q) row → (k : ℕ) (d : LaunchRow) → k < i + 1 → IsSeen rows m' q' 0 (get_or rows k d)
more_seen rows m q m' q' i row r lt e before now k d l =
    elim (cases_lt k i) [
      | inl low ↦ (
        stays_followed rows m q m' q' r 0 (get_or rows k d) (omega arith) (before k d low).0,
        stays_masked rows m q m' q' r (get_or rows k d) (before k d low).1,
      )
      | inr high ↦
          subst (IsSeen rows m' q' 0) (same_row rows i k row d (omega arith) lt e)
          (later_followed rows m' q' 0 (length q) row (omega arith) now.0, now.1)
    ]

-- a row followed more
pub more_followed : (rows : List LaunchRow) (m q m' q' : List ℕ) (n i : ℕ) (places : List ℕ) (row : LaunchRow)
    → AreRaises m q m' q' → n ≤ length q → i < length places → get_or places i 0 < length rows
    → row ≡ get_or rows (get_or places i 0) row → AreFollowed rows m q n (take i places)
    → IsFollowed rows m' q' (length q) row → AreFollowed rows m' q' n (take (i + 1) places)
more_followed rows m q m' q' n i places row r le lt low e before now place other h f =
    elim (Contains-push_cases (take i places) (get_or places i 0) place
    (subst (λ (zs : List ℕ). Contains zs place) (take_more places i 0 lt) h)) [
      | inl k ↦ stays_followed rows m q m' q' r n other le (before place other k f)
      | inr p ↦
          subst (IsFollowed rows m' q' n) (same_row rows (get_or places i 0) place row other (sym p) low e ∙ f)
          (later_followed rows m' q' n (length q) row le now)
    ]

module _ (rows : List LaunchRow) (classes : ℕ) (uses : List (List ℕ)) (are : AreUses rows (length rows) classes uses)
    (m q m' q' : List ℕ) (r : AreRaises m q m' q') (at : ℕ) (lt : at < length q)
    (now : AreFollowed rows m' q' (length q) (slice_index_or uses (slice_index q at) [])) where
  still_followed : (k : ℕ) (row : LaunchRow) → slice_index_or rows k row ≡ row → k < length rows
      → IsFollowed rows m q at row
      → IsFollowed rows m' q' (at + 1) row
  still_followed k row e l (inl h) = stays_followed rows m q m' q' r (at + 1) row (omega arith) (inl h)
  still_followed k row e l (inr w) =
      elim (cases_eq w.2.0 at) [
        | inl same ↦ (
            let class : w.0 ≡ slice_index q at = sym w.2.3 ∙ ap (slice_index q) same in
            let used : Contains (slice_index_or uses (slice_index q at) []) k =
            subst (λ c. Contains (slice_index_or uses c []) k) class (are.has w.0 k row l e w.1) in
            later_followed rows m' q' (at + 1) (length q) row (omega arith) (now k row used e))
        | inr ne ↦
            stays_followed rows m q m' q' r (at + 1) row (omega arith)
            (inr (w.0, w.1, (w.2.0, (let a = w.2.1 in omega arith), w.2.2, w.2.3)))
      ]

  -- the first class that waited is done
  pub next_seen : All (IsSeen rows m q at) rows → All (IsSeen rows m' q' (at + 1)) rows
  next_seen seen k d l = (
    still_followed k (get_or rows k d) (get_or_default rows k (get_or rows k d) d l) l (seen k d l).0,
    stays_masked rows m q m' q' r (get_or rows k d) (seen k d l).1,
  )

module _ (rows : List LaunchRow) (m q : List ℕ) (state : IsState rows m q) where
  pub each_low : All (λ n. n ≤ 3) m
  each_low k d l = subst (λ n. n ≤ 3) (get_or_default m k 0 d l) (few rows (state.shown k l))

  pub queue_short : length q ≤ 3 * length m
  queue_short =
      let a : length q ≤ sum m = state.few in
      let b : sum m ≤ length m * 3 = sum_by-le (λ x. x) 3 m each_low in
      omega arith

  -- where no class waits, what stands is the greatest that is shown
  pub finished : (at : ℕ) → length q ≤ at → All (IsSeen rows m q at) rows → (class : ℕ) → class < length m
      → IsMultiple rows class (slice_index m class)
  finished at none seen class l = record {
    shown = state.shown class l;
    most = λ n h. most rows m (λ k d low. says (get_or rows k d) (seen k d low).0) (λ k d low. (seen k d low).1) h;
  }
    where
      says : (row : LaunchRow) → IsFollowed rows m q at row → row_says rows m row ≤ slice_index m row.class
      says row (inl h) = h
      says row (inr w) = absurd (let a = w.2.1 in let b = w.2.2 in omega arith)

pub first_state : (rows : List LaunchRow) (m : List ℕ) → ((class : ℕ) → slice_index m class ≡ 0) → IsState rows m []
first_state rows m none = record {
  shown = λ class l. subst (IsShown rows class) (sym (none class)) by_nothing;
  few = omega arith;
  within = λ k d l. absurd (let a : k < 0 = l in omega arith);
}

-- ---- one row

pub in_all : (P : ℕ → Type 0) (xs : List ℕ) (c : ℕ) → All P xs → Contains xs c → P c
in_all P xs c all h = subst P h.2 (all h.0 c h.1)

module _ (rows : List LaunchRow) (ks : List (Option ℕ)) (m q : List ℕ) (row : LaunchRow)
    (constants : AreConstants rows (length m) ks) (below : IsBelow (length m) row) where
  pub says_by : (n : ℕ) → n ≡ said row.op (λ c. slice_index_or ks c None) (slice_index m) row.operands → n
      ≡ row_says rows m row
  says_by n e =
      e
      ∙ said_same row.op (λ c. slice_index_or ks c None) (constant_among rows) (slice_index m)
      (slice_index m) row.operands
      (λ c h. (constants.each c (in_all (λ k. k < length m) row.operands c below.1 h), refl))

  pub says_shown : IsState rows m q → Contains rows row → IsShown rows row.class (row_says rows m row)
  says_shown state h =
      said_shown rows row.class row.op (slice_index m) row.operands (row, h, refl, refl, refl)
      (λ c k. state.shown c (in_all (λ j. j < length m) row.operands c below.1 k))

-- ---- an `and` that is 0

word_and : (op : WordOp) → is_and (Word op) ≡ true → op ≡ Operate And
word_and (Operate op) h = ap Operate (operate_and op h)
  where
    operate_and : (op : OperateOf) → is_and (Word (Operate op)) ≡ true → op ≡ And
    operate_and And h = refl
    operate_and _ h = absurd (false≢true h)
word_and _ h = absurd (false≢true h)

and_op : (o : Op) → is_and o ≡ true → o ≡ Word (Operate And)
and_op (Word op) h = ap Word (word_and op h)
and_op _ h = absurd (false≢true h)

module _ (rows : List LaunchRow) (row : LaunchRow) (h : Contains rows row) (a : is_and row.op ≡ true)
    (z : constant_among rows row.class ≡ Some 0) (x y : ℕ) (e : row.operands ≡ x ∷ y ∷ []) where
  mask_row : HasRow rows row.class (Word (Operate And)) (x ∷ y ∷ [])
  mask_row = (row, h, refl, and_op row.op a, e)

  mask_case : (k : Option ℕ) → constant_among rows y ≡ k → IsShown rows x (option_map_or low_ones k 0)
  mask_case None s = by_nothing
  mask_case (Some k) s = by_mask mask_row z s

  mask_case_before : (k : Option ℕ) → constant_among rows x ≡ k → IsShown rows y (option_map_or low_ones k 0)
  mask_case_before None s = by_nothing
  mask_case_before (Some k) s = by_mask_before mask_row z s

  pub mask_shown : (k : Option ℕ) → k ≡ constant_among rows y → IsShown rows x (option_map_or low_ones k 0)
  mask_shown k s = mask_case k (sym s)

  pub mask_shown_before : (k : Option ℕ) → k ≡ constant_among rows x → IsShown rows y (option_map_or low_ones k 0)
  mask_shown_before k s = mask_case_before k (sym s)

pub below_at : (rows : List LaunchRow) (n n' i : ℕ) (row : LaunchRow) → n ≡ n' → row ≡ get_or rows i row
    → i < length rows
    → All (IsBelow n') rows → IsBelow n row
below_at rows n n' i row e is lt all =
    subst (λ k. IsBelow k row) (sym e) (subst (IsBelow n') (sym is) (all i row lt))

-- ---- the class that is next in the queue, and its rows

pub taken_class : (q : List ℕ) (at class : ℕ) → at < length q → class ≡ get_or q at class → class ≡ slice_index q at
taken_class q at class lt e = e ∙ get_or_default q at class 0 lt

pub taken_low : (q : List ℕ) (n at class : ℕ) → at < length q → class ≡ get_or q at class → All (λ c. c < n) q
    → class < n
taken_low q n at class lt e all = subst (λ k. k < n) (sym e) (all at class lt)

pub taken_places : (uses : List (List ℕ)) (class : ℕ) (item places : List ℕ) → class < length uses → places ≡ item
    → item ≡ get_or uses class item → places ≡ slice_index_or uses class []
taken_places uses class item places lt e h = e ∙ h ∙ get_or_default uses class item [] lt

pub places_low : (rows : List LaunchRow) (before classes : ℕ) (uses : List (List ℕ)) (class : ℕ) (places : List ℕ)
    → AreUses rows before classes uses → places ≡ slice_index_or uses class [] → All (λ at. at < length rows) places
places_low rows before classes uses class places are e k d lt =
    are.within class (get_or places k d) (subst (λ (xs : List ℕ). Contains xs (get_or places k d)) e
    (Contains-get_or places k d lt))
