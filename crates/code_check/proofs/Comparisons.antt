-- What comparisons of classes tell of terms.
use Rattle.std.proofs.Common.{◌≡◌, ◌≢◌, ℕ, zero, suc, ◌+◌, ◌<◌, ◌≤◌, List, [], ◌∷◌, length, map, take, get_or, refl, sym, ◌∙◌, ap, subst, inl, inr, arith, Bool, true, false, cond, Option, Some, None}
use Rattle.std.specs.Prelude.{IsTrue, ◌↔◌, All, AllPairs, Contains, MatchOption, is_some, not, slice_get, slice_index, slice_index_or, if◌then◌else◌}
use Rattle.std.specs.List.{find, AllZip}
use Rattle.std.specs.Option.{option_map_or}
use Rattle.std.proofs.lemmas.Bool.Decides.{eqb_tells}
use Rattle.std.proofs.lemmas.Bool.{cases_lt}
use Rattle.std.proofs.lemmas.List.{get_or-map, length-map, take_all}
use Rattle.std.proofs.lemmas.List.Elements.{All-cons, All-contains}
use Rattle.std.proofs.lemmas.Option.{none-some, same_Some, slice_get_read}
use Rattle.word_ops.specs.declared.sorts.Op.{Op}
use Rattle.word_ops.specs.declared.sorts.Op.TheVariants.{Constant, Input}
use Rattle.word_terms.specs.Keys.{op_signature}
use Rattle.word_terms.specs.Tree.{AreBelow, Tree, application, none, substituted}
use Rattle.word_terms.specs.View.{tree_of}
use Rattle.word_terms.specs.Building.{constant}
use Rattle.egraph.specs.Graph.{Graph, HasClass, IsGraph, Agree, HasRow, LacksRow, read_through}
use Rattle.pattern_match.specs.Classes.{IsClass, at_row, at_variable, no_classes}
use Rattle.goal_meaning.specs.Expanded.{expanded_target}
use Rattle.goal_meaning.specs.Outcomes.{is_memory}
use Rattle.goal_meaning.specs.Views.{TargetTree, target_view}
use Rattle.goal_meaning.specs.declared.goals.Set.{Set}
use Rattle.saturation.specs.GoalTerms.{entry_term, input_term}
use Rattle.code_check.specs.Answers.{AreTargetsBelow}
use Rattle.code_check.specs.Compared.{ArePresentClasses, AreSameBelow, FindsClass, IsFirstDifferentTarget, IsPresentClass, IsPresentRegister, IsSameBranch, IsSameLeaving, IsSameTarget, TellsTarget, are_one}
use Rattle.code_check.specs.Same.{HaveSameClass, IsAsAtEntry, memory_target_term}
use Rattle.code_check.specs.Terms.{TermState, terms_at_entry}
use Rattle.code_check.specs.declared.branches.Branch.{Branch}
use Rattle.code_check.specs.declared.codes.At.{At}
use Rattle.goal_meaning.specs.declared.goals.InputReg.{InputReg}

-- a term has one class at most
abbrev pub HasOneClass : Type 0
HasOneClass =
    (g : Graph Op) (places : List ℕ) (t : Tree Op) (c d : ℕ) →
    AllPairs (λ x y. ¬ Agree x y) g.rows →
    IsClass g places t c →
    IsClass g places t d →
    c ≡ d

false_true : false ≡ true → ⊥
false_true e = cc

-- ---- two classes that were looked for

pub one_tells :
    HasOneClass →
    (g : Graph Op) →
    IsGraph op_signature g →
    (t u : Tree Op) (a b : Option ℕ) →
    FindsClass g t a →
    FindsClass g u b →
    (IsTrue (are_one a b) ↔ HaveSameClass g t u)
one_tells one g is t u None b h k = (λ e. absurd (false_true e), λ s. absurd (h s.class s.first))
one_tells one g is t u (Some c) None h k = (λ e. absurd (false_true e), λ s. absurd (k s.class s.second))
one_tells one g is t u (Some c) (Some d) h k = elim (eqb_tells c d) [
  | inl e ↦ (λ x. record { class = c; first = h; second = subst (IsClass g [] u) (sym e.1) k }, λ s. e.0)
  | inr e ↦ (
    λ x. absurd (false_true (sym e.0 ∙ x)),
    λ s. absurd (e.1 (one g [] t c s.class is.distinct h s.first ∙ one g [] u s.class d is.distinct s.second k)),
  )
]

-- what the result of a comparison tells
pub tells :
    HasOneClass →
    (g : Graph Op) →
    IsGraph op_signature g →
    (t u : Tree Op) (a b : Option ℕ) (same : Bool) →
    FindsClass g t a →
    FindsClass g u b →
    same ≡ are_one a b →
    (IsTrue same ↔ HaveSameClass g t u)
tells one g is t u a b same h k e = subst (λ s. IsTrue s ↔ HaveSameClass g t u) (sym e) (one_tells one g is t u a b h k)

-- ---- one class

pub leaf_row : (g : Graph Op) {op : Op} {c : ℕ} → IsClass g [] (application op none) c → HasRow g.rows op [] c
leaf_row g (at_row no_classes k) = k

pub leaf_found :
    (g : Graph Op) (op : Op) (found : Option ℕ) →
    MatchOption found (LacksRow g.rows op (read_through g [])) (HasRow g.rows op (read_through g [])) →
    FindsClass g (application op none) found
leaf_found g op None lacks = λ c h. lacks c (leaf_row g h)
leaf_found g op (Some c) has = at_row no_classes has

module _ (g : Graph Op) (classes : List (Option ℕ)) (r : ℕ) (below : r < 32) where
  pub written_found :
      (c x : ℕ) →
      slice_index_or classes r None ≡ Some c →
      x ≡ slice_index g.current c →
      (ts : TermState) (memory : ℕ) →
      ArePresentClasses g classes memory ts →
      IsClass g [] (ts.registers r) x
  written_found c x e at ts memory are =
      let h : IsPresentClass g c (ts.registers r) =
      subst (λ o. IsPresentRegister g o (ts.registers r) (terms_at_entry.registers r)) e (are.registers r below) in
      subst (IsClass g [] (ts.registers r)) (sym at) h.is

  -- the class was made
  pub written_made :
      (c : ℕ) →
      slice_index_or classes r None ≡ Some c →
      (ts : TermState) (memory : ℕ) →
      ArePresentClasses g classes memory ts →
      c < length g.current
  written_made c e ts memory are =
      let h : IsPresentClass g c (ts.registers r) =
      subst (λ o. IsPresentRegister g o (ts.registers r) (terms_at_entry.registers r)) e (are.registers r below) in
      h.made

  as_at_entry :
      slice_index_or classes r None ≡ None →
      (ts : TermState) (memory : ℕ) →
      ArePresentClasses g classes memory ts →
      ts.registers r ≡ terms_at_entry.registers r
  as_at_entry e ts memory are =
      subst (λ o. IsPresentRegister g o (ts.registers r) (terms_at_entry.registers r)) e (are.registers r below)

  pub zero_found :
      (found : Option ℕ) →
      slice_index_or classes r None ≡ None →
      r ≡ 31 →
      FindsClass g (application (Constant 0) none) found →
      (ts : TermState) (memory : ℕ) →
      ArePresentClasses g classes memory ts →
      FindsClass g (ts.registers r) found
  zero_found found e is h ts memory are =
      let same : constant 0 ≡ ts.registers r = sym (as_at_entry e ts memory are ∙ ap terms_at_entry.registers is) in
      subst (λ t. FindsClass g t found) same h

  pub input_found :
      (found : Option ℕ) →
      slice_index_or classes r None ≡ None →
      r ≢ 31 →
      FindsClass g (application (Input r) none) found →
      (ts : TermState) (memory : ℕ) →
      ArePresentClasses g classes memory ts →
      FindsClass g (ts.registers r) found
  input_found found e isnt h ts memory are = elim (eqb_tells r 31) [
    | inl k ↦ absurd (isnt k.1)
    | inr k ↦ (
        let same : input_term r ≡ ts.registers r =
        sym (as_at_entry e ts memory are ∙ ap (λ b. if b then constant 0 else input_term r) k.0) in
        subst (λ t. FindsClass g t found) same h)
  ]

-- ---- guard

pub no_guard_tells :
    (g : Graph Op) (o : Option (Tree Op)) (b : Option Branch) (ts : TermState) (same : Bool) →
    o ≡ None →
    is_some b ≡ not same →
    (IsTrue same ↔ IsSameBranch g o b ts)
no_guard_tells g o b ts same e f = subst (λ x. IsTrue same ↔ IsSameBranch g x b ts) (sym e) (by b same f)
  where
    by : (b : Option Branch) (same : Bool) → is_some b ≡ not same → (IsTrue same ↔ IsSameBranch g None b ts)
    by None true f = (λ e. tt, λ h. refl)
    by None false f = absurd (false_true f)
    by (Some b) true f = absurd (false_true (sym f))
    by (Some b) false f = (λ e. absurd (false_true e), λ h. absurd h)

pub no_branch_tells : (g : Graph Op) (guard : Tree Op) (b : Option Branch) (ts : TermState) → b ≡ None → (IsTrue false ↔ IsSameBranch g (Some guard) b ts)
no_branch_tells g guard b ts e = subst (λ x. IsTrue false ↔ IsSameBranch g (Some guard) x ts) (sym e) (λ f. absurd (false_true f), λ h. absurd h)

-- ---- exit

-- a class that is read as it is at present
pub present_found : (g : Graph Op) (c x : ℕ) (t : Tree Op) → x ≡ slice_index g.current c → IsPresentClass g c t → FindsClass g t (Some x)
present_found g c x t e h = subst (IsClass g [] t) (sym e) h.is

module _ (g : Graph Op) (inputs : List InputReg) (ts : TermState) where
  pub other_memory : (memory : Bool) → memory ≡ false → (IsTrue memory ↔ HaveSameClass g ts.memory entry_term) → (IsTrue false ↔ IsAsAtEntry g inputs ts)
  other_memory memory e h = (λ f. absurd (false_true f), λ k. absurd (false_true (sym e ∙ h.1 k.memory_is)))

  pub exit_tells :
      (memory same : Bool) →
      memory ≡ true →
      (IsTrue memory ↔ HaveSameClass g ts.memory entry_term) →
      (IsTrue same ↔ All (λ (i : InputReg). HaveSameClass g (ts.registers i.reg) (input_term i.reg)) inputs) →
      (IsTrue same ↔ IsAsAtEntry g inputs ts)
  exit_tells memory same e h k = (
    λ f. record { memory_is = h.0 e; inputs_are = k.0 f },
    λ is. k.1 is.inputs_are,
  )

pub no_branch_leaves : (g : Graph Op) (inputs : List InputReg) (b : Option Branch) (ts : TermState) → b ≡ None → (IsTrue true ↔ IsSameLeaving g inputs b ts)
no_branch_leaves g inputs b ts e = subst (λ x. IsTrue true ↔ IsSameLeaving g inputs x ts) (sym e) (λ f. tt, λ h. refl)

-- the input is as at entry
abbrev pub IsInputSame : Graph Op → TermState → InputReg → Type 0
IsInputSame g ts i = HaveSameClass g (ts.registers i.reg) (input_term i.reg)

-- the first k inputs are the same
abbrev pub AreSameUpTo : Graph Op → List InputReg → TermState → ℕ → Type 0
AreSameUpTo g inputs ts k = (j : ℕ) (d : InputReg) → j < k → IsInputSame g ts (get_or inputs j d)

abbrev pub AreAllSame : Graph Op → List InputReg → TermState → Type 0
AreAllSame g inputs ts = All (λ (i : InputReg). HaveSameClass g (ts.registers i.reg) (input_term i.reg)) inputs

read_input : (xs : List InputReg) (n : ℕ) (d e : InputReg) → n < length xs → get_or xs n d ≡ get_or xs n e
read_input [] n d e l = absurd (omega (arith, l))
read_input (x ∷ xs) zero d e l = refl
read_input (x ∷ xs) (suc n) d e l = read_input xs n d e (omega (arith, l))

pub none_same_inputs : (g : Graph Op) (inputs : List InputReg) (ts : TermState) → AreSameUpTo g inputs ts 0
none_same_inputs g inputs ts j d l = absurd (omega (arith, l))

module _ (g : Graph Op) (inputs : List InputReg) (ts : TermState) (k : ℕ) where
  pub all_same_inputs : length inputs ≤ k → AreSameUpTo g inputs ts k → (IsTrue true ↔ AreAllSame g inputs ts)
  all_same_inputs le same = (λ e n d l. same n d (omega (arith, l, le)), λ h. refl)

  module _ (i : InputReg) (lt : k < length inputs) (is : i ≡ get_or inputs k i) (same : Bool) where
    pub other_input : same ≡ false → (IsTrue same ↔ IsInputSame g ts i) → (IsTrue false ↔ AreAllSame g inputs ts)
    other_input e h = (λ f. absurd (false_true f), λ all. absurd (false_true (sym e ∙ h.1 (subst (IsInputSame g ts) (sym is) (all k i lt)))))

    pub one_more_input : same ≡ true → (IsTrue same ↔ IsInputSame g ts i) → AreSameUpTo g inputs ts k → AreSameUpTo g inputs ts (k + 1)
    one_more_input e h before j d l = elim (cases_lt j k) [
      | inl b ↦ before j d b
      | inr b ↦ (
          let at : k ≡ j = omega (arith, l, b) in
          subst (λ n. IsInputSame g ts (get_or inputs n d)) at
          (subst (IsInputSame g ts) (is ∙ read_input inputs k i d lt) (h.0 e)))
    ]

-- ---- targets

read_any : (xs : List At) (n : ℕ) (d e : At) → n < length xs → get_or xs n d ≡ get_or xs n e
read_any [] n d e l = absurd (omega (arith, l))
read_any (x ∷ xs) zero d e l = refl
read_any (x ∷ xs) (suc n) d e l = read_any xs n d e (omega (arith, l))

-- a target has one register at most
pub one_register :
    (places : List At) →
    AllPairs (λ (p q : At). p.set ≢ q.set) places →
    (i a b : ℕ) →
    Contains places (record { set = i; reg = a }) →
    Contains places (record { set = i; reg = b }) →
    a ≡ b
one_register places differ i a b h k =
    let p : At = record { set = i; reg = a } in
    let q : At = record { set = i; reg = b } in
    let h_set : (d : At) → (get_or places h.0 d).set ≡ i = λ d. ap (λ (x : At). x.set) (read_any places h.0 d p h.1 ∙ h.2) in
    let k_set : (d : At) → (get_or places k.0 d).set ≡ i = λ d. ap (λ (x : At). x.set) (read_any places k.0 d q k.1 ∙ k.2) in
    elim (cases_lt h.0 k.0) [
      | inl lt ↦ absurd (differ h.0 k.0 p lt k.1 (h_set p ∙ sym (k_set p)))
      | inr le ↦ elim (cases_lt k.0 h.0) [
        | inl lt ↦ absurd (differ k.0 h.0 p lt h.1 (k_set p ∙ sym (h_set p)))
        | inr ge ↦ (
            let same : h.0 ≡ k.0 = omega (arith, le, ge) in
            ap (λ (x : At). x.reg) (sym h.2 ∙ ap (λ n. get_or places n p) same ∙ read_any places k.0 p q k.1 ∙ k.2))
      ]
    ]

-- a target that is memory, or that no register is named for
pub memory_tells : (g : Graph Op) (places : List At) (t : TargetTree) (ts : TermState) (i : ℕ) → is_memory t ≡ true → TellsTarget g places t ts i true
memory_tells g places t ts i is = λ e. absurd (false_true (sym e ∙ is))

pub unnamed_tells :
    (g : Graph Op) (places : List At) (t : TargetTree) (ts : TermState) (i : ℕ) →
    ((reg : ℕ) → ¬ Contains places (record { set = i; reg = reg })) →
    TellsTarget g places t ts i true
unnamed_tells g places t ts i lacks = λ e reg named. absurd (lacks reg named)

pub target_tells :
    (g : Graph Op) (places : List At) →
    AllPairs (λ (p q : At). p.set ≢ q.set) places →
    (t : TargetTree) (ts : TermState) (i reg : ℕ) (same : Bool) →
    is_memory t ≡ false →
    Contains places (record { set = i; reg = reg }) →
    (IsTrue same ↔ HaveSameClass g (ts.registers reg) t.value) →
    TellsTarget g places t ts i same
target_tells g places differ t ts i reg true word named h =
    λ e other also. subst (λ r. HaveSameClass g (ts.registers r) t.value) (one_register places differ i reg other named also) (h.0 refl)
target_tells g places differ t ts i reg false word named h = (word, λ all. false_true (h.1 (all reg named)))

-- the targets up to one that differs
pub none_below : (g : Graph Op) (places : List At) (sets : List TargetTree) (ts : TermState) → AreSameBelow g places sets ts 0
none_below g places sets ts j t l there word = absurd (omega (arith, l))

module _ (g : Graph Op) (places : List At) (sets : List TargetTree) (ts : TermState) (i : ℕ) (t : TargetTree) (there : slice_get sets i ≡ Some t) where
  pub one_more_same : AreSameBelow g places sets ts i → TellsTarget g places t ts i true → AreSameBelow g places sets ts (i + 1)
  one_more_same below tells j u l at word = elim (cases_lt j i) [
    | inl lt ↦ below j u lt at word
    | inr le ↦ (
        let here : i ≡ j = omega (arith, l, le) in
        let one : t ≡ u = same_Some t u (sym there ∙ ap (slice_get sets) here ∙ at) in
        subst (λ n. IsSameTarget g places u ts n) here
        (subst (λ x. IsSameTarget g places x ts i) one (tells (ap is_memory one ∙ word))))
  ]

  pub first_different : AreSameBelow g places sets ts i → TellsTarget g places t ts i false → IsFirstDifferentTarget g places sets ts (Some i)
  first_different below tells = (record { target = t; there = there; is_word = tells.0; differs = tells.1 }, below)

-- ---- elements of the code's lists

module _ (sets : List Set) (i : ℕ) (set : Set) (lt : i < length sets) (is : set ≡ get_or sets i set) where
  view_at : target_view set ≡ get_or (map target_view sets) i (target_view set)
  view_at = ap target_view is ∙ sym (get_or-map target_view sets i set (target_view set) lt)

  below : i < length (map target_view sets)
  below = subst (λ n. i < n) (sym (length-map sets target_view)) lt

  pub set_there : slice_get (map target_view sets) i ≡ Some (target_view set)
  set_there = slice_get_read (map target_view sets) (length (map target_view sets)) i (target_view set) refl below view_at

  pub set_over : (es : List (Tree Op)) → slice_get (map (expanded_target es) (map target_view sets)) i ≡ Some (expanded_target es (target_view set))
  set_over es =
      let f = expanded_target es in
      let ts = map target_view sets in
      let within : i < length (map f ts) = subst (λ n. i < n) (sym (length-map ts f)) below in
      slice_get_read (map f ts) (length (map f ts)) i (f (target_view set)) refl within
      (ap f view_at ∙ sym (get_or-map f ts i (target_view set) (f (target_view set)) below))

  pub target_below : (n : ℕ) → AreTargetsBelow n (map target_view sets) → AreBelow n (tree_of set.value)
  target_below n all = subst (λ (t : TargetTree). AreBelow n t.value) (sym view_at) (all i (target_view set) below)

-- the last one was compared
pub no_more :
    (g : Graph Op) (places : List At) (sets : List Set) (es : List (Tree Op)) (ts : TermState) (i : ℕ) →
    length sets ≤ i →
    AreSameBelow g places (map (expanded_target es) (map target_view sets)) ts i →
    IsFirstDifferentTarget g places (map (expanded_target es) (map target_view sets)) ts None
no_more g places sets es ts i le same j t l there word =
    same j t (let n = length-map sets target_view in let m = length-map (map target_view sets) (expanded_target es) in omega (arith, l, le, n, m)) there word

-- no register is named
pub none_named :
    (places : List At) (set i : ℕ) →
    length places ≤ i →
    All (λ (p : At). p.set ≢ set) (take i places) →
    (reg : ℕ) →
    ¬ Contains places (record { set = set; reg = reg })
none_named places set i le all reg named =
    let every : All (λ (p : At). p.set ≢ set) places = subst (All (λ (p : At). p.set ≢ set)) (take_all i places le) all in
    All-contains (λ (p : At). p.set ≢ set) places (record { set = set; reg = reg }) every named refl

-- ---- memory

-- none of the first i targets is memory
abbrev pub NoMemoryBefore : List TargetTree → ℕ → Type 0
NoMemoryBefore sets i = (j : ℕ) (t : TargetTree) → j < i → slice_get sets j ≡ Some t → is_memory t ≡ false

pub none_before : (sets : List TargetTree) → NoMemoryBefore sets 0
none_before sets j t l there = absurd (omega (arith, l))

pub before_more : (sets : List TargetTree) (i : ℕ) (t : TargetTree) → slice_get sets i ≡ Some t → is_memory t ≡ false → NoMemoryBefore sets i → NoMemoryBefore sets (i + 1)
before_more sets i t there word before j u l at = elim (cases_lt j i) [
  | inl lt ↦ before j u lt at
  | inr le ↦ (
      let here : i ≡ j = omega (arith, l, le) in
      ap is_memory (sym (same_Some t u (sym there ∙ ap (slice_get sets) here ∙ at))) ∙ word)
]

pub memory_found : (sets : List TargetTree) (i : ℕ) (t : TargetTree) → slice_get sets i ≡ Some t → is_memory t ≡ true → NoMemoryBefore sets i → t.value ≡ memory_target_term sets
memory_found [] i t there is before = absurd (none-some t there)
memory_found (x ∷ xs) zero t there is before =
    let one : x ≡ t = same_Some x t there in
    ap (λ (y : TargetTree). y.value) (sym one)
    ∙ sym (ap (λ b. option_map_or (λ (y : TargetTree). y.value) (cond b (Some x) (find is_memory xs)) entry_term) (ap is_memory one ∙ is))
memory_found (x ∷ xs) (suc i) t there is before =
    memory_found xs i t there is (λ j u l at. before (suc j) u (omega (arith, l)) at)
    ∙ sym (ap (λ b. option_map_or (λ (y : TargetTree). y.value) (cond b (Some x) (find is_memory xs)) entry_term) (before 0 x (omega arith) refl))

no_memory : (sets : List TargetTree) → NoMemoryBefore sets (length sets) → memory_target_term sets ≡ entry_term
no_memory [] all = refl
no_memory (x ∷ xs) all =
    ap (λ b. option_map_or (λ (y : TargetTree). y.value) (cond b (Some x) (find is_memory xs)) entry_term) (all 0 x (omega arith) refl)
    ∙ no_memory xs (λ j u l at. all (suc j) u (omega (arith, l)) at)

pub no_memory_before : (sets : List Set) (es : List (Tree Op)) (i : ℕ) → length sets ≤ i → NoMemoryBefore (map (expanded_target es) (map target_view sets)) i → memory_target_term (map (expanded_target es) (map target_view sets)) ≡ entry_term
no_memory_before sets es i le before =
    no_memory (map (expanded_target es) (map target_view sets))
    (λ j t l there. before j t (let n = length-map sets target_view in let m = length-map (map target_view sets) (expanded_target es) in omega (arith, l, le, n, m)) there)

-- ---- terms over lets

-- a term over classes of lets has the class of the term without lets, and that alone
abbrev pub AreTheirTerms : Type 0
AreTheirTerms =
    (g : Graph Op) (es : List (Tree Op)) (lets : List ℕ) (t : Tree Op) (c : ℕ) → IsGraph op_signature g → AllZip (IsClass g []) es lets →
    AreBelow (length lets) t → (IsClass g lets t c ↔ IsClass g [] (substituted es t) c)

-- a class of a term without variables is that of a row
has_class : (g : Graph Op) {t : Tree Op} {c : ℕ} → IsClass g [] t c → HasClass g c
has_class g (at_variable l) = absurd (omega (arith, l))
has_class g (at_row {op = op} {cs = cs} {c = c} h k) = record { row = record { op = op; operands = cs; class = c }; there = k; is = refl }

pub have_class : (g : Graph Op) (es : List (Tree Op)) (lets : List ℕ) → AllZip (IsClass g []) es lets → All (HasClass g) lets
have_class g es [] zip = λ k d l. absurd (omega (arith, l))
have_class g [] (c ∷ lets) zip = absurd zip
have_class g (e ∷ es) (c ∷ lets) zip = All-cons (HasClass g) c lets (has_class g zip.0) (have_class g es lets zip.1)

pub found_over :
    AreTheirTerms → (g : Graph Op) → IsGraph op_signature g → (es : List (Tree Op)) (lets : List ℕ) (t : Tree Op) (found : Option ℕ) →
    AreBelow (length lets) t → MatchOption found ((c : ℕ) → IsClass g lets t c → ⊥) (IsClass g lets t) → AllZip (IsClass g []) es lets →
    FindsClass g (substituted es t) found
found_over law g is es lets t None below h zip = λ c k. h c ((law g es lets t c is zip below).1 k)
found_over law g is es lets t (Some c) below h zip = (law g es lets t c is zip below).0 h
