-- The lists of rows by operator and class: what making them keeps, and what a walk over one of them finds.
use Rattle.std.proofs.Common.{◌≡◌, ◌≢◌, ℕ, suc, ◌+◌, ◌-◌, ◌<◌, ◌≤◌, Bool, true, false, ◌==◌, ◌&&◌, List, length, slice_get, get_or, set, Option, Some, None, refl, sym, ap, ◌∙◌, subst, subst₂, inl, inr, arith}
use Rattle.std.proofs.lemmas.Bool.{cases_lt, cases_eq}
use Rattle.std.proofs.lemmas.Bool.Decides.{nat_tests}
use Rattle.std.proofs.lemmas.List.{get_or-set_same, get_or-set_other}
use Rattle.std.proofs.lemmas.Option.{slice_get_within, slice_get-get_or}
use Rattle.word_ops.specs.declared.sorts.Op.{Op}
use Rattle.word_ops.specs.declared.sorts.Op.TheVariants.{Entry}
use Rattle.word_terms.specs.Keys.{key_of}
use Rattle.word_terms.specs.Laws.{op_key_is_own}
use Rattle.word_terms.specs.Tree.{Tree, Trees, variable, application}
use Rattle.egraph.specs.declared.rows.Row.{Row}
use Rattle.egraph.specs.Graph.{Graph}
use Rattle.pattern_match.specs.declared.row_lists.ListKey.{ListKey}
use Rattle.pattern_match.specs.Bindings.{Binding, Covered, ExtendedBefore, IsByRow}
use Rattle.pattern_match.specs.ByOperator.{class_part, IsRowOf, IsNextRow, list_key, same_list, first_in, AreLists}
use Rattle.pattern_match.proofs.Finding.{finds_same}

-- ---- keys

both : (a b : Bool) → a && b ≡ true → (a ≡ true) × (b ≡ true)
both true b h = (refl, h)
both false b h = cc

equal : (m n : ℕ) → (m == n) ≡ true → m ≡ n
equal m n h = grind (arith, nat_tests, h)

abbrev key : ℕ → ℕ → ℕ → ListKey
key kind number class = record { kind = kind; number = number; class = class }

together : (a b : ListKey) → a.kind ≡ b.kind → a.number ≡ b.number → a.class ≡ b.class → a ≡ b
together a b e f g =
    ap (λ x. key (x) (a.number) (a.class)) e
    ∙ ap (λ x. key (b.kind) (x) (a.class)) f
    ∙ ap (λ x. key (b.kind) (b.number) (x)) g

pub lists_equal : (a b : ListKey) → same_list a b ≡ true → a ≡ b
lists_equal a b h =
    let h1 = both _ _ h in
    let h2 = both _ _ h1.1 in
    together a b (equal _ _ h1.0) (equal _ _ h2.0) (equal _ _ h2.1)

pub lists_apart : (a b : ListKey) → b ≢ a → same_list a b ≡ false
lists_apart a b h = by (same_list a b) refl
  where
    by : (t : Bool) → same_list a b ≡ t → t ≡ false
    by true e = absurd (h (sym (lists_equal a b e)))
    by false e = refl

-- one key is of one operator and class
same_of : (op other : Op) (c d : ℕ) → list_key op c ≡ list_key other d → (op ≡ other) × (c ≡ d)
same_of op other c d e =
    let k : key_of op ≡ key_of other = λ i. ((e i).kind, (e i).number) in
    (op_key_is_own op other k, ap (λ x. x.class) e)

-- ---- making the lists

module _ (by : Bool) (g : Graph Op) where
  pub lists_none : (from : ℕ) (firsts : List (ListKey × ℕ)) (nexts : List (Option ℕ)) → length g.rows ≤ from → ((k : ListKey) → first_in firsts k ≡ None) → AreLists by g from firsts nexts
  lists_none from firsts nexts l none = record {
    firsts_are = λ op class. subst (IsNextRow by g op class from) (sym (none (list_key op class))) (λ at m r. past at m r.row r.there);
    nexts_are = λ at row m e. absurd (past at m row e);
  }
    where
      past : (at : ℕ) → from ≤ at → (row : Row Op) → slice_get g.rows at ≡ Some row → ⊥
      past at m row e = let w = slice_get_within g.rows at row e in absurd (omega (arith, w, m, l))

  -- the same where the place itself has no such row
  sooner : (op : Op) (class at : ℕ) (o : Option ℕ) → ¬ IsRowOf by g op class at → IsNextRow by g op class (at + 1) o → IsNextRow by g op class at o
  sooner op class at None not h = λ k m r. elim (cases_eq k at) [
    | inl e ↦ not (subst (IsRowOf by g op class) e r)
    | inr e ↦ h k (omega (arith, m, e)) r
  ]
  sooner op class at (Some next) not h = (
    omega (arith, h.0),
    h.1,
    λ k m l r. elim (cases_eq k at) [
      | inl e ↦ not (subst (IsRowOf by g op class) e r)
      | inr e ↦ h.2 k (omega (arith, m, e)) l r
    ],
  )

  module _ (at : ℕ) (row : Row Op) (there : slice_get g.rows at ≡ Some row) (firsts firsts' : List (ListKey × ℕ)) (nexts nexts' : List (Option ℕ))
      (h : AreLists by g (at + 1) firsts nexts)
      (first : first_in firsts' (list_key row.op (class_part by row.class)) ≡ Some at)
      (others : (k : ListKey) → k ≢ list_key row.op (class_part by row.class) → first_in firsts' k ≡ first_in firsts k)
      (within : at < length nexts)
      (next : nexts' ≡ set nexts at (first_in firsts (list_key row.op (class_part by row.class)))) where
    row_is : (r : Row Op) → slice_get g.rows at ≡ Some r → row ≡ r
    row_is r e = let f : Some row ≡ Some r = sym there ∙ e in cc

    firsts_more : (op : Op) (class : ℕ) (t : Bool) → same_list (list_key row.op (class_part by row.class)) (list_key op class) ≡ t → IsNextRow by g op class at (first_in firsts' (list_key op class))
    firsts_more op class true e =
        let k = lists_equal (list_key row.op (class_part by row.class)) (list_key op class) e in
        let s = same_of row.op op (class_part by row.class) class k in
        subst (IsNextRow by g op class at) (sym (ap (first_in firsts') (sym k) ∙ first))
        (omega arith, record { row = row; there = there; op_is = s.0; class_is = s.1 }, λ n m l r. absurd (omega (arith, m, l)))
    firsts_more op class false e =
        let apart : list_key op class ≢ list_key row.op (class_part by row.class) = λ k. differ e (ap (same_list (list_key row.op (class_part by row.class))) k) in
        subst (IsNextRow by g op class at) (sym (others (list_key op class) apart))
        (sooner op class at (first_in firsts (list_key op class)) (λ r. let s = row_is r.row r.there in apart (sym (λ i. list_key ((ap (λ q. q.op) s ∙ r.op_is) i) ((ap (λ q. class_part by q.class) s ∙ r.class_is) i)))) (h.firsts_are op class))
      where
        itself : (m : ℕ) → (m == m) ≡ true
        itself m = grind (arith, nat_tests)

        differ : same_list (list_key row.op (class_part by row.class)) (list_key op class) ≡ false → same_list (list_key row.op (class_part by row.class)) (list_key op class) ≡ same_list (list_key row.op (class_part by row.class)) (list_key row.op (class_part by row.class)) → ⊥
        differ f e =
            let a = itself (key_of row.op).0 in
            let b = itself (key_of row.op).1 in
            let c = itself (class_part by row.class) in
            let whole : same_list (list_key row.op (class_part by row.class)) (list_key row.op (class_part by row.class)) ≡ true = rw (a, b, c) refl in
            let z : false ≡ true = sym f ∙ e ∙ whole in
            cc

    pub lists_more : AreLists by g at firsts' nexts'
    lists_more = record {
      firsts_are = λ op class. firsts_more op class (same_list (list_key row.op (class_part by row.class)) (list_key op class)) refl;
      nexts_are = λ k r m e. elim (cases_eq k at) [
        | inl same ↦
            let s = row_is r (ap (slice_get g.rows) (sym same) ∙ e) in
            let o : get_or nexts' k None ≡ first_in firsts (list_key row.op (class_part by row.class)) = ap (λ xs. get_or xs k None) next ∙ ap (λ n. get_or (set nexts at (first_in firsts (list_key row.op (class_part by row.class)))) n None) same ∙ get_or-set_same nexts at (first_in firsts (list_key row.op (class_part by row.class))) None within in
            subst₂ (λ q n. IsNextRow by g q.op (class_part by q.class) (n + 1) (get_or nexts' k None)) s (sym same) (subst (IsNextRow by g row.op (class_part by row.class) (at + 1)) (sym o) (h.firsts_are row.op (class_part by row.class)))
        | inr apart ↦
            let o : get_or nexts' k None ≡ get_or nexts k None = ap (λ xs. get_or xs k None) next ∙ get_or-set_other nexts at k (first_in firsts (list_key row.op (class_part by row.class))) None apart in
            subst (IsNextRow by g r.op (class_part by r.class) (k + 1)) (sym o) (h.nexts_are k r (omega (arith, m, apart)) e)
      ];
    }

-- ---- a walk over the rows of an operator, or of an operator and a class

-- what is found by the rows before a place, and the next place
pub record WalkedTo (by : Bool) (g : Graph Op) (op : Op) (c : ℕ) (place : Option ℕ) (Before : ℕ → Type 0) : Type 0 where
  pub end : ℕ
  pub within : end ≤ length g.rows
  pub next : IsNextRow by g op c end place
  pub before : Before end

-- the operator at the root; a variable has none, and any is given for it
abbrev pub root : Tree Op → Op
root (variable n) = Entry
root (application op ts) = op

-- how many rows are left at most
abbrev pub rows_left : ℕ → Option ℕ → ℕ
rows_left count None = 0
rows_left count (Some at) = suc (count - at)

-- a place that isn't there
pub place_none : (place : Option ℕ) → ((at : ℕ) → place ≡ Some at → ⊥) → place ≡ None
place_none None not = refl
place_none (Some at) not = absurd (not at refl)

module _ (by : Bool) (g : Graph Op) (op : Op) (c : ℕ) where
  -- what was found before a place is found before a later one, where no row between is of the list
  abbrev pub Skips : (ℕ → Type 0) → Type 0
  Skips Before = (i j : ℕ) → i ≤ j → j ≤ length g.rows → ((at : ℕ) → i ≤ at → at < j → ¬ IsRowOf by g op c at) → Before i → Before j

  module _ (Before : ℕ → Type 0) (skip : Skips Before) where
    -- no place is next
    pub walked_all : (place : Option ℕ) → place ≡ None → WalkedTo by g op c place Before → Before (length g.rows)
    walked_all place none h =
        let never = subst (IsNextRow by g op c h.end) none h.next in
        skip h.end (length g.rows) h.within (omega arith) (λ at l m. never at l) h.before

    -- the next place is `at`
    pub walked_to : (place : Option ℕ) (at : ℕ) → place ≡ Some at → WalkedTo by g op c place Before → IsRowOf by g op c at × Before at
    walked_to place at is h =
        let n = subst (IsNextRow by g op c h.end) is h.next in
        let w = slice_get_within g.rows at n.1.row n.1.there in
        (n.1, skip h.end at n.0 (omega (arith, w)) n.2 h.before)

  -- fewer rows are left behind the next one
  pub fewer_left : (at : ℕ) (place : Option ℕ) → at < length g.rows → IsNextRow by g op c (at + 1) place → rows_left (length g.rows) place < rows_left (length g.rows) (Some at)
  fewer_left at None l h = omega (arith, l)
  fewer_left at (Some next) l h = let w = slice_get_within g.rows next h.1.row h.1.there in omega (arith, l, w, h.0)

  -- what the tables give for a row is the next one
  pub next_is : (at : ℕ) (row : Row Op) (firsts : List (ListKey × ℕ)) (nexts : List (Option ℕ)) (place : Option ℕ) → AreLists by g 0 firsts nexts → slice_get g.rows at ≡ Some row → row.op ≡ op → class_part by row.class ≡ c → place ≡ get_or nexts at None →
      IsNextRow by g op c (at + 1) place
  next_is at row firsts nexts place lists there op_is class_is is =
      subst₂ (λ o k. IsNextRow by g o k (at + 1) place) op_is class_is (subst (IsNextRow by g row.op (class_part by row.class) (at + 1)) (sym is) (lists.nexts_are at row (omega arith) there))

  -- one row more is walked: what the tables give for it is next
  pub walked_more : (Before : ℕ → Type 0) (at : ℕ) (row : Row Op) (firsts : List (ListKey × ℕ)) (nexts : List (Option ℕ)) (place : Option ℕ) → AreLists by g 0 firsts nexts → slice_get g.rows at ≡ Some row → row.op ≡ op → class_part by row.class ≡ c → place ≡ get_or nexts at None →
      Before (at + 1) → WalkedTo by g op c place Before
  walked_more Before at row firsts nexts place lists there op_is class_is is before = record {
    end = at + 1;
    within = let w = slice_get_within g.rows at row there in omega (arith, w);
    next = next_is at row firsts nexts place lists there op_is class_is is;
    before = before;
  }

  -- the row that was read is of the operator and the class
  pub row_read : (at : ℕ) (row : Row Op) → slice_get g.rows at ≡ Some row → IsRowOf by g op c at → (row.op ≡ op) × (class_part by row.class ≡ c)
  row_read at row there h =
      let e : Some h.row ≡ Some row = sym h.there ∙ there in
      let f : h.row ≡ row = cc in
      (ap (λ r. r.op) (sym f) ∙ h.op_is, ap (λ r. class_part by r.class) (sym f) ∙ h.class_is)

module _ (g : Graph Op) (op : Op) (ts : Trees Op) (c : ℕ) (bs out : List Binding) where
  -- where no row between is of the operator and the class
  pub skip_rows : Skips true g op c (λ end. ExtendedBefore g op ts c end bs out)
  skip_rows i j l m never h = record {
    finds = finds_same (λ cs. Covered bs cs × IsByRow g op ts c i cs) (λ cs. Covered bs cs × IsByRow g op ts c j cs) out
        (λ cs k. (k.0, later cs k.1))
        (λ cs k. (k.0, earlier cs k.1))
        h.finds;
    keeps = h.keeps;
  }
    where
      later : (cs : List ℕ) → IsByRow g op ts c i cs → IsByRow g op ts c j cs
      later cs k = record { at = k.at; before = let b = k.before in omega (arith, b, l); row = k.row; there = k.there; op_is = k.op_is; class_is = k.class_is; operands = k.operands }

      earlier : (cs : List ℕ) → IsByRow g op ts c j cs → IsByRow g op ts c i cs
      earlier cs k = elim (cases_lt k.at i) [
        | inl b ↦ record { at = k.at; before = b; row = k.row; there = k.there; op_is = k.op_is; class_is = k.class_is; operands = k.operands }
        | inr b ↦
            let q = k.before in
            absurd (never k.at (omega (arith, b)) q (record {
              row = k.row;
              there = slice_get-get_or g.rows k.at k.row (omega (arith, q, m)) ∙ ap Some (k.there k.row);
              op_is = k.op_is;
              class_is = k.class_is;
            }))
      ]
