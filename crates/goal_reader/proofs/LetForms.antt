-- What lets write, and what names mean behind them.
use Rattle.std.proofs.Common.{◌≡◌, ℕ, suc, ◌+◌, ◌<◌, ◌⊎◌, inl, inr, ◌++◌, if◌then◌else◌, Bool, true, false, List, [], ◌∷◌, drop, map, length, get_or, Option, Some, refl, sym, ap, ap₂, ◌∙◌, subst, arith, bytes_eq, codes}
use Rattle.std.specs.List.{cons_option}
use Rattle.std.specs.Prelude.{slice_index_or}
use Rattle.std.proofs.lemmas.Slice.Eq.{bytes_eq-Decides}
use Rattle.word_ops.specs.declared.sorts.Op.{Op}
use Rattle.word_ops.specs.declared.sorts.Sort.{Sort}
use Rattle.word_terms.specs.Sorting.{sort_at}
use Rattle.word_terms.specs.Tree.{Tree}
use Rattle.forms.specs.Forms.{Form, name_in, parts_of}
use Rattle.machine_table.specs.Grammar.{IsListOf}
use Rattle.goal_meaning.specs.declared.goals.DeclaredOp.{DeclaredOp}
use Rattle.goal_meaning.specs.declared.goals.InputReg.{InputReg}
use Rattle.goal_meaning.specs.Views.{LetTree}
use Rattle.goal_meaning.specs.WellFormed.{input_registers, sort_of_tree}
use Rattle.goal_reader.specs.declared.scopes.Leaf.{Leaf}
use Rattle.goal_reader.specs.declared.scopes.Named.{Named}
use Rattle.goal_reader.specs.declared.scopes.Named.TheVariants.{Memory, Input, Variable, Let}
use Rattle.goal_reader.specs.declared.scopes.Scope.{Scope}
use Rattle.goal_reader.specs.Scopes.{SortedName, leaf_named, let_leaves, sorted_names, sorts_of_names}
use Rattle.goal_reader.specs.Roles.{goal_keywords, goal_scope, let_scope, let_in, lets_from, rank, sort_in, ◌>>=◌}
use Rattle.goal_reader.specs.Grammar.{WritesLet, WritesLets, no_lets, one_let, sorted_let, sorted_from}
use Rattle.goal_reader.specs.Terms.{Writes, memory, input, variable, binding, constant, application}
use Rattle.goal_reader.proofs.Grouped.{AllOf, listed_rank}
use Rattle.goal_reader.proofs.Heads.{list_from}
use Rattle.goal_reader.proofs.OneTerm.{one_term}
use Rattle.goal_reader.proofs.Sorts.{sort_told}
use Rattle.goal_reader.proofs.WellSorted.{NamesVariables}

-- ---- what a name means
abbrev pub leaves_of : List InputReg → List Leaf
leaves_of inputs = map (λ (i : InputReg). record { name = i.name; named = Input i.reg }) inputs

-- a leaf of an input has its register and its name
pub input_leaf : (inputs : List InputReg) (n : List ℕ) (x : Named) → leaf_named (leaves_of inputs) n ≡ Some x → (k : ℕ) × (i : InputReg) × (k < length (input_registers inputs)) × (get_or (input_registers inputs) k 0 ≡ i.reg) × (x ≡ Input i.reg)
input_leaf [] n x e = cc
input_leaf (i ∷ is) n x e = by_test (bytes_eq i.name n) e (input_leaf is n x)
  where
    by_test : (b : Bool) → (if b then Some (Input i.reg) else leaf_named (leaves_of is) n) ≡ Some x → (leaf_named (leaves_of is) n ≡ Some x → (k : ℕ) × (j : InputReg) × (k < length (input_registers is)) × (get_or (input_registers is) k 0 ≡ j.reg) × (x ≡ Input j.reg))
        → (k : ℕ) × (j : InputReg) × (k < length (input_registers (i ∷ is))) × (get_or (input_registers (i ∷ is)) k 0 ≡ j.reg) × (x ≡ Input j.reg)
    by_test true f later = let same : x ≡ Input i.reg = cc in (0, i, omega arith, refl, same)
    by_test false f later = let l = later f in let low = l.2 in (suc l.0, l.1, omega (arith, low), l.3, l.4)

-- a name means the memory or an input
pub goal_leaf : (declared : List DeclaredOp) (inputs : List InputReg) (n : List ℕ) (x : Named) → leaf_named (goal_scope declared inputs).leaves n ≡ Some x → (x ≡ Memory) ⊎ ((r : ℕ) × (x ≡ Input r))
goal_leaf declared inputs n x e = by_test (bytes_eq (codes "M") n) e
  where
    by_test : (b : Bool) → (if b then Some Memory else leaf_named (leaves_of inputs) n) ≡ Some x → (x ≡ Memory) ⊎ ((r : ℕ) × (x ≡ Input r))
    by_test true f = inl (let same : x ≡ Memory = cc in same)
    by_test false f = let l = input_leaf inputs n x f in inr (l.1.reg, l.4)

leaf_either : (xs ys : List Leaf) (n : List ℕ) (x : Named) → leaf_named (xs ++ ys) n ≡ Some x → (leaf_named xs n ≡ Some x) ⊎ (leaf_named ys n ≡ Some x)
leaf_either [] ys n x e = inr e
leaf_either (l ∷ xs) ys n x e = by_test (bytes_eq l.name n) e (leaf_either xs ys n x)
  where
    by_test : (b : Bool) → (if b then Some l.named else leaf_named (xs ++ ys) n) ≡ Some x → (leaf_named (xs ++ ys) n ≡ Some x → (leaf_named xs n ≡ Some x) ⊎ (leaf_named ys n ≡ Some x))
        → ((if b then Some l.named else leaf_named xs n) ≡ Some x) ⊎ (leaf_named ys n ≡ Some x)
    by_test true f later = inl f
    by_test false f later = later f

-- the let of this number, which counts from the first one
pub record IsLetAt (at : ℕ) (lets : List SortedName) (n : List ℕ) (x : Named) : Type 0 where
  pub place : ℕ
  pub sort : Sort
  pub is : x ≡ Let (place + at) sort
  pub below : place < length lets
  pub named : n ≡ slice_index_or (sorted_names lets) place []
  pub sorted : sort_at (sorts_of_names lets) place ≡ sort

let_there : (at : ℕ) (lets : List SortedName) (n : List ℕ) (x : Named) → leaf_named (let_leaves at lets) n ≡ Some x → IsLetAt at lets n x
let_there at [] n x e = cc
let_there at (l ∷ ls) n x e = by_test (bytes_eq l.name n) refl e (let_there (at + 1) ls n x)
  where
    by_test : (b : Bool) → bytes_eq l.name n ≡ b → (if b then Some (Let at l.sort) else leaf_named (let_leaves (at + 1) ls) n) ≡ Some x → (leaf_named (let_leaves (at + 1) ls) n ≡ Some x → IsLetAt (at + 1) ls n x) → IsLetAt at (l ∷ ls) n x
    by_test true t f later =
        let same : x ≡ Let at l.sort = cc in
        record {
          place = 0;
          sort = l.sort;
          is = same ∙ ap (λ m. Let m l.sort) (let z : at ≡ 0 + at = omega arith in z);
          below = omega arith;
          named = sym ((bytes_eq-Decides l.name n).0 t);
          sorted = refl;
        }
    by_test false t f later =
        let k = later f in
        let low = k.below in
        record {
          place = suc k.place;
          sort = k.sort;
          is = k.is ∙ ap (λ m. Let m k.sort) (let z : k.place + (at + 1) ≡ suc k.place + at = omega arith in z);
          below = omega (arith, low);
          named = k.named;
          sorted = k.sorted;
        }

pub number_is : (m n : ℕ) (s r : Sort) → Let m s ≡ Let n r → (m ≡ n) × (s ≡ r)
number_is m n s r e = let a : m ≡ n = cc in let b : s ≡ r = cc in (a, b)

pub no_memory : (n : ℕ) (s : Sort) → Memory ≡ Let n s → ⊥
no_memory n s e = cc

pub no_input : (r n : ℕ) (s : Sort) → Input r ≡ Let n s → ⊥
no_input r n s e = cc

no_variable : (k n : ℕ) (s : Sort) → Variable k ≡ Let n s → ⊥
no_variable k n s e = cc

sorts_counted : (lets : List SortedName) → length (sorts_of_names lets) ≡ length lets
sorts_counted [] = refl
sorts_counted (l ∷ ls) = ap suc (sorts_counted ls)

module _ (declared : List DeclaredOp) (inputs : List InputReg) (lets : List SortedName) where
  abbrev pub scope : Scope
  scope = let_scope declared inputs lets

  -- a name means what it means without lets, or a let
  pub behind : (n : List ℕ) (x : Named) → leaf_named scope.leaves n ≡ Some x → (leaf_named (goal_scope declared inputs).leaves n ≡ Some x) ⊎ IsLetAt 0 lets n x
  behind n x e = elim (leaf_either (goal_scope declared inputs).leaves (let_leaves 0 lets) n x e) [
    | inl f ↦ inl f
    | inr f ↦ inr (let_there 0 lets n x f)
  ]

  pub in_goal : (n : List ℕ) (x : Named) → ((k : ℕ) (s : Sort) → x ≡ Let k s → ⊥) → leaf_named scope.leaves n ≡ Some x → leaf_named (goal_scope declared inputs).leaves n ≡ Some x
  in_goal n x other e = elim (behind n x e) [
    | inl f ↦ f
    | inr l ↦ absurd (other (l.place + 0) l.sort l.is)
  ]

  pub variable_nowhere : (n : List ℕ) (k : ℕ) → leaf_named scope.leaves n ≡ Some (Variable k) → ⊥
  variable_nowhere n k e = elim (goal_leaf declared inputs n (Variable k) (in_goal n (Variable k) (λ m s f. no_variable k m s f) e)) [
    | inl f ↦ cc
    | inr f ↦ (let g : Variable k ≡ Input f.0 = f.1 in cc)
  ]

  -- the let that a name means
  pub let_found : (n : List ℕ) (k : ℕ) (s : Sort) → leaf_named scope.leaves n ≡ Some (Let k s) → IsLetAt 0 lets n (Let k s)
  let_found n k s e = elim (behind n (Let k s) e) [
    | inl f ↦ elim (goal_leaf declared inputs n (Let k s) f) [
      | inl g ↦ cc
      | inr g ↦ (let h : Let k s ≡ Input g.0 = g.1 in cc)
    ]
    | inr l ↦ l
  ]

  pub let_variables : NamesVariables scope (sorts_of_names lets)
  let_variables = record {
    words = λ n k e. absurd (variable_nowhere n k e);
    lets = λ n k s e.
        let l = let_found n k s e in
        let both = number_is k (l.place + 0) s l.sort l.is in
        let same : k ≡ l.place = both.0 ∙ (let z : l.place + 0 ≡ l.place = omega arith in z) in
        let b = l.below in
        let c = sorts_counted lets in
        (omega (arith, b, c, same), ap (sort_at (sorts_of_names lets)) same ∙ l.sorted ∙ sym both.1);
  }

  -- the sort that a term is written as
  pub sort_is : {sort : Sort} {form : Form} {t : Tree Op} → Writes scope sort form t → sort_of_tree (sorts_of_names lets) t ≡ sort
  sort_is (memory l) = refl
  sort_is (input l) = refl
  sort_is (variable {bytes = n} {n = k} l) = absurd (variable_nowhere n k l)
  sort_is (binding {bytes = n} {n = k} {sort = s} l) = (let_variables.lets n k s l).1
  sort_is constant = refl
  sort_is (application k s n each) = sym s

-- ---- a let
pub let_ranked : (at : Scope) (form : Form) (one : LetTree) → WritesLet at form one → rank goal_keywords form ≡ Some 2
let_ranked at form one w = listed_rank goal_keywords (codes "let") (w.first ∷ w.second ∷ []) form w.is

module _ (declared : List DeclaredOp) (inputs : List InputReg) where
  pub let_told : (before : List SortedName) (form : Form) (one : LetTree) → WritesLet (let_scope declared inputs before) form one → let_in (let_scope declared inputs before) form ≡ Some (sorted_let before one)
  let_told before form one w =
      let at = let_scope declared inputs before in
      let put : List ℕ → Sort → Option SortedName = λ nm s. Some (record { name = nm; sort = s }) in
      ap (let_in at) w.is.is ∙ ap (λ (f : Form). name_in f >>= (λ nm. sort_in at w.second >>= put nm)) w.named.is ∙ ap (λ o. o >>= put one.name) (sort_told w.value)
      ∙ ap (put one.name) (sym (sort_is declared inputs before w.value))

  -- the forms of lets tell their names and sorts
  pub lets_told : {before : List SortedName} {fs : List Form} {ls : List LetTree} → WritesLets declared inputs before fs ls → lets_from declared inputs before fs ≡ sorted_from before ls
  lets_told no_lets = refl
  lets_told (one_let {before = before} {form = f} {forms = fs} {one = l} {others = ls} one others) =
      ap (λ o. lets_from declared inputs (before ++ cons_option o []) fs) (let_told before f l one) ∙ lets_told others

  pub lets_more : {before : List SortedName} {fs : List Form} {ls : List LetTree} → WritesLets declared inputs before fs ls → (f : Form) (l : LetTree) → WritesLet (let_scope declared inputs (sorted_from before ls)) f l
      → WritesLets declared inputs before (fs ++ f ∷ []) (ls ++ l ∷ [])
  lets_more no_lets f l w = one_let w no_lets
  lets_more (one_let one others) f l w = one_let one (lets_more others f l w)

  pub all_lets : {before : List SortedName} {fs : List Form} {ls : List LetTree} → WritesLets declared inputs before fs ls → AllOf goal_keywords 2 fs
  all_lets no_lets = tt
  all_lets (one_let {before = before} {form = f} {one = l} one others) = (let_ranked (let_scope declared inputs before) f l one, all_lets others)

  pub lets_length : {before : List SortedName} {fs : List Form} {ls : List LetTree} → WritesLets declared inputs before fs ls → length ls ≡ length fs
  lets_length no_lets = refl
  lets_length (one_let one others) = ap suc (lets_length others)

  pub nothing_let : (before : List SortedName) (fs : List Form) (ls : List LetTree) → fs ≡ [] → WritesLets declared inputs before fs ls → ls ≡ []
  nothing_let before fs [] e w = refl
  nothing_let before fs (l ∷ ls) e w = let n = lets_length w in let z = ap length e in absurd (omega (arith, n, z))

  one_of_lets : List ℕ → Tree Op → LetTree
  one_of_lets n v = record { name = n; value = v }

  let_back : (l : LetTree) → one_of_lets l.name l.value ≡ l
  unfolding one_of_lets
  let_back l = refl

  let_once : (at : Scope) (form : Form) (l m : LetTree) → WritesLet at form l → WritesLet at form m → l ≡ m
  let_once at form l m w v =
      let e : w.first ∷ w.second ∷ [] ≡ v.first ∷ v.second ∷ [] = sym (listed (w.first ∷ w.second ∷ []) w.is) ∙ listed (v.first ∷ v.second ∷ []) v.is in
      let one : w.first ≡ v.first = cc in
      let two : w.second ≡ v.second = cc in
      let names : Some l.name ≡ Some m.name = sym (ap name_in w.named.is) ∙ ap name_in one ∙ ap name_in v.named.is in
      let name_same : l.name ≡ m.name = cc in
      sym (let_back l) ∙ ap₂ one_of_lets name_same (one_term w.value (subst (λ (f : Form). Writes at v.sort f m.value) (sym two) v.value)) ∙ let_back m
    where
      listed : (parts : List Form) → IsListOf (codes "let") parts form → drop 1 (parts_of form) ≡ parts
      listed parts is = ap (λ (f : Form). drop 1 (parts_of f)) is.is ∙ list_from parts

  pub lets_once : {before : List SortedName} {fs : List Form} {ls : List LetTree} → WritesLets declared inputs before fs ls → (ms : List LetTree) → WritesLets declared inputs before fs ms → ls ≡ ms
  lets_once no_lets [] w = refl
  lets_once no_lets (m ∷ ms) w = elim w [ ]
  lets_once (one_let one others) [] w = elim w [ ]
  lets_once (one_let {before = before} {form = f} {forms = fs} {one = l} {others = ls} one others) (m ∷ ms) (one_let another rest) =
      let same = let_once (let_scope declared inputs before) f l m one another in
      ap₂ (λ x xs. x ∷ xs) same (lets_once others ms (subst (λ (x : LetTree). WritesLets declared inputs (before ++ sorted_let before x ∷ []) fs ms) (sym same) rest))
