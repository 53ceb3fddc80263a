-- What the parts of a text write, they write alone.
use Rattle.std.proofs.Common.{◌≡◌, ℕ, ◌++◌, Option, None, Some, List, [], ◌∷◌, drop, refl, sym, ap, ap₂, ◌∙◌, subst, codes}
use Rattle.word_ops.specs.Meanings.{count_of}
use Rattle.word_ops.specs.declared.sorts.Arity.{Arity}
use Rattle.word_ops.specs.declared.sorts.Arity.TheVariants.{One, Two, Three, Four}
use Rattle.word_ops.specs.declared.sorts.Op.{Op}
use Rattle.word_ops.specs.declared.sorts.Sort.{Sort}
use Rattle.word_ops.specs.declared.sorts.Sort.TheVariants as sorts
use Rattle.word_terms.specs.Tree.{Tree}
use Rattle.forms.specs.Forms.{Form, atom, list, name, parts_of, forms_from, name_in, number_in, register_in}
use Rattle.machine_table.specs.Grammar.{Each, more_of, IsListOf, IsNameOf}
use Rattle.goal_meaning.specs.declared.goals.InputReg.{InputReg}
use Rattle.goal_meaning.specs.declared.goals.DeclaredOp.{DeclaredOp}
use Rattle.goal_reader.specs.declared.scopes.Scope.{Scope}
use Rattle.goal_reader.specs.Grammar.{IsRegister, WritesInput, WritesLets, scope_of_goal, sorted_from, WritesPool, WritesAssume, WritesGuard, WritesPin, WritesTarget, WritesGoal, WritesDeclaration, WritesAxiom, absent, given, pinned, unpinned, unguarded, guarded, axiom_scope}
use Rattle.goal_reader.specs.Roles.{rank, of_rank, goal_keywords, text_keywords, items_of_goal, let_scope, second_name, pin_in, register_number, register_of, input_in, declaration_in, arity_named, ◌>>=◌}
use Rattle.goal_reader.specs.Terms.{Writes, memory, input, variable, binding, constant, application}
use Rattle.goal_meaning.specs.Rules.{pins_of}
use Rattle.goal_meaning.specs.Views.{LetTree, TwoTrees, TargetTree, GoalTree, AxiomTree}
use Rattle.goal_meaning.specs.WellFormed.{input_registers}
use Rattle.goal_reader.proofs.Grouped.{AllOf, all_ranked, listed_rank, first_of, skip_of, of_other}
use Rattle.goal_reader.proofs.Heads.{list_from}
use Rattle.goal_reader.proofs.LetForms.{all_lets, lets_once}
use Rattle.goal_reader.proofs.OneTerm.{one_term}

pub same_some : {X : Type 0} (o : Option X) (x y : X) → o ≡ Some x → o ≡ Some y → x ≡ y
same_some o x y e f = let g : Some x ≡ Some y = sym e ∙ f in cc

-- ---- lists of forms
pub each_once : {Y : Type 0} (W : Form → Y → Type 0) → ((f : Form) (x y : Y) → W f x → W f y → x ≡ y) → (fs : List Form) (xs ys : List Y) → Each W fs xs → Each W fs ys → xs ≡ ys
each_once W once [] [] [] d e = refl
each_once W once [] [] (y ∷ ys) d e = elim e [ ]
each_once W once [] (x ∷ xs) ys d e = elim d [ ]
each_once W once (f ∷ fs) [] ys d e = elim d [ ]
each_once W once (f ∷ fs) (x ∷ xs) [] d e = elim e [ ]
each_once W once (f ∷ fs) (x ∷ xs) (y ∷ ys) (more_of one others) (more_of another rest) = ap₂ (λ a b. a ∷ b) (once f x y one another) (each_once W once fs xs ys others rest)

pub listed_parts : (word : List ℕ) (parts : List Form) (form : Form) → IsListOf word parts form → drop 1 (parts_of form) ≡ parts
listed_parts word parts form is = ap (λ (f : Form). drop 1 (parts_of f)) is.is ∙ list_from parts

pub one_same : (word : List ℕ) (a c : Form) (form : Form) → IsListOf word (a ∷ []) form → IsListOf word (c ∷ []) form → a ≡ c
one_same word a c form is has = let e : a ∷ [] ≡ c ∷ [] = sym (listed_parts word (a ∷ []) form is) ∙ listed_parts word (c ∷ []) form has in cc

pub two_same : (word : List ℕ) (a b c d : Form) (form : Form) → IsListOf word (a ∷ b ∷ []) form → IsListOf word (c ∷ d ∷ []) form → (a ≡ c) × (b ≡ d)
two_same word a b c d form is has =
    let e : a ∷ b ∷ [] ≡ c ∷ d ∷ [] = sym (listed_parts word (a ∷ b ∷ []) form is) ∙ listed_parts word (c ∷ d ∷ []) form has in
    let first : a ≡ c = cc in
    let second : b ≡ d = cc in
    (first, second)

-- ---- atoms
pub name_once : (form : Form) (m n : List ℕ) → IsNameOf m form → IsNameOf n form → m ≡ n
name_once form m n is has = same_some (name_in form) m n (ap name_in is.is) (ap name_in has.is)

pub register_told : (form : Form) (r : ℕ) → IsRegister r form → register_of form ≡ Some r
register_told form r is = ap register_of is.is ∙ is.number

register_once : (form : Form) (r s : ℕ) → IsRegister r form → IsRegister s form → r ≡ s
register_once form r s is has = same_some (register_of form) r s (register_told form r is) (register_told form s has)

-- ---- items
input_of_parts : List ℕ → ℕ → InputReg
input_of_parts n r = record { name = n; reg = r }

input_back : (i : InputReg) → input_of_parts i.name i.reg ≡ i
unfolding input_of_parts
input_back i = refl

pub input_told : (form : Form) (i : InputReg) → WritesInput form i → input_in form ≡ Some i
input_told form i w =
    let put : List ℕ → ℕ → Option InputReg = λ nm r. Some (record { name = nm; reg = r }) in
    ap input_in w.is.is ∙ ap (λ (f : Form). name_in f >>= (λ nm. register_of w.second >>= put nm)) w.named.is ∙ ap (λ o. o >>= put i.name) (register_told w.second i.reg w.placed)

pub input_ranked : (form : Form) (i : InputReg) → WritesInput form i → rank goal_keywords form ≡ Some 0
input_ranked form i w = listed_rank goal_keywords (codes "in") (w.first ∷ w.second ∷ []) form w.is

input_once : (form : Form) (i j : InputReg) → WritesInput form i → WritesInput form j → i ≡ j
input_once form i j w v = same_some (input_in form) i j (input_told form i w) (input_told form j v)

pub pool_ranked : (inputs : List ℕ) (fs : List Form) (rs : List ℕ) → WritesPool inputs fs rs → AllOf goal_keywords 1 fs
pool_ranked inputs _ _ absent = tt
pool_ranked inputs _ _ (given {form = form} forms is each) = (listed_rank goal_keywords (codes "pool") forms form is, tt)

pool_once : (inputs : List ℕ) (fs : List Form) (rs ss : List ℕ) → WritesPool inputs fs rs → WritesPool inputs fs ss → rs ≡ ss
pool_once inputs _ _ _ absent absent = refl
pool_once inputs _ rs ss (given {form = form} forms is each) (given others has all) =
    let same : forms ≡ others = sym (listed_parts (codes "pool") forms form is) ∙ listed_parts (codes "pool") others form has in
    each_once (λ f r. IsRegister r f) register_once others rs ss (subst (λ fs. Each (λ f r. IsRegister r f) fs rs) same each) all

two_of : Tree Op → Tree Op → TwoTrees
two_of l r = record { left = l; right = r }

two_back : (t : TwoTrees) → two_of t.left t.right ≡ t
unfolding two_of
two_back t = refl

target_of_parts : List ℕ → Tree Op → Option ℕ → TargetTree
target_of_parts n v p = record { name = n; value = v; pin = p }

target_back : (t : TargetTree) → target_of_parts t.name t.value t.pin ≡ t
unfolding target_of_parts
target_back t = refl

term_alone : (scope : Scope) (s r : Sort) (f g : Form) (t u : Tree Op) → f ≡ g → Writes scope s f t → Writes scope r g u → t ≡ u
term_alone scope s r f g t u same one other = one_term one (subst (λ (x : Form). Writes scope r x u) (sym same) other)

-- a term is no register
pub no_register_writes : {scope : Scope} {sort : Sort} {f : Form} {t : Tree Op} → Writes scope sort f t → register_in f ≡ None
no_register_writes (memory l) = refl
no_register_writes (input l) = refl
no_register_writes (variable l) = refl
no_register_writes (binding l) = refl
no_register_writes constant = refl
no_register_writes (application k s n each) = refl

last_same : (ps qs : List Form) (o u : Option ℕ) → WritesPin ps o → WritesPin qs u → (a b c d : Form) → a ∷ (ps ++ b ∷ []) ≡ c ∷ (qs ++ d ∷ []) → b ≡ d
last_same _ _ _ _ unpinned unpinned a b c d e = cc
last_same _ _ _ _ unpinned (pinned has) a b c d e = cc
last_same _ _ _ _ (pinned is) unpinned a b c d e = cc
last_same _ _ _ _ (pinned is) (pinned has) a b c d e = cc

module _ (scope : Scope) where
  pub assume_ranked : (form : Form) (a : TwoTrees) → WritesAssume scope form a → rank goal_keywords form ≡ Some 3
  assume_ranked form a w = listed_rank goal_keywords (codes "assume") (w.first ∷ w.second ∷ []) form w.is

  assume_once : (form : Form) (a b : TwoTrees) → WritesAssume scope form a → WritesAssume scope form b → a ≡ b
  assume_once form a b w v =
      let same = two_same (codes "assume") w.first w.second v.first v.second form w.is v.is in
      sym (two_back a) ∙ ap₂ two_of (term_alone scope w.sort v.sort w.first v.first a.left b.left same.0 w.left v.left) (term_alone scope w.sort v.sort w.second v.second a.right b.right same.1 w.right v.right) ∙ two_back b

  pub guard_ranked : (fs : List Form) (t : Option (Tree Op)) → WritesGuard scope fs t → AllOf goal_keywords 4 fs
  guard_ranked _ _ unguarded = tt
  guard_ranked _ _ (guarded {form = form} one is term) = (listed_rank goal_keywords (codes "when") (one ∷ []) form is, tt)

  guard_once : (fs : List Form) (t u : Option (Tree Op)) → WritesGuard scope fs t → WritesGuard scope fs u → t ≡ u
  guard_once _ _ _ unguarded unguarded = refl
  guard_once _ _ _ (guarded {form = form} {term = t} one is w) (guarded {term = u} other has v) =
      ap Some (term_alone scope _ _ one other t u (one_same (codes "when") one other form is has) w v)

  pub target_ranked : (form : Form) (t : TargetTree) → WritesTarget scope form t → rank goal_keywords form ≡ Some 5
  target_ranked form t w = listed_rank goal_keywords (codes "set") (w.first ∷ (w.pins ++ w.last ∷ [])) form w.is

  pub target_named : (form : Form) (t : TargetTree) → WritesTarget scope form t → second_name form ≡ Some t.name
  target_named form t w = ap second_name w.is.is ∙ ap name_in w.named.is

  pin_told_by : (form first last : Form) (ps : List Form) (o : Option ℕ) → WritesPin ps o → IsListOf (codes "set") (first ∷ (ps ++ last ∷ [])) form → register_in last ≡ None → pin_in form ≡ o
  pin_told_by form first last _ _ unpinned is e = ap pin_in is.is ∙ ap (λ r. r >>= register_number) e
  pin_told_by form first last _ _ (pinned {form = f} {register = r} reg) is e = ap pin_in is.is ∙ register_told f r reg

  pub pin_told : (form : Form) (t : TargetTree) → WritesTarget scope form t → pin_in form ≡ t.pin
  pin_told form t w = pin_told_by form w.first w.last w.pins t.pin w.pin w.is (no_register_writes w.value)

  target_once : (form : Form) (t u : TargetTree) → WritesTarget scope form t → WritesTarget scope form u → t ≡ u
  target_once form t u w v =
      let parts = sym (listed_parts (codes "set") (w.first ∷ (w.pins ++ w.last ∷ [])) form w.is) ∙ listed_parts (codes "set") (v.first ∷ (v.pins ++ v.last ∷ [])) form v.is in
      let same = last_same w.pins v.pins t.pin u.pin w.pin v.pin w.first w.last v.first v.last parts in
      let names = same_some (second_name form) t.name u.name (target_named form t w) (target_named form u v) in
      let values = term_alone scope _ _ w.last v.last t.value u.value same w.value v.value in
      let pins = sym (pin_told form t w) ∙ pin_told form u v in
      sym (target_back t) ∙ ap₂ (λ n x. target_of_parts n x t.pin) names values ∙ ap (target_of_parts u.name u.value) pins ∙ target_back u

-- ---- a goal
module _ (declared : List DeclaredOp) (form : Form) (g : GoalTree) (w : WritesGoal declared form g) where
  abbrev pub behind_name : List Form
  behind_name = w.ins ++ (w.pools ++ (w.bindings ++ (w.assumes ++ (w.whens ++ w.sets))))

  pub parts_are : parts_of form ≡ atom w.is.head_place (name (codes "goal")) ∷ w.name_form ∷ behind_name
  parts_are = ap parts_of w.is.is ∙ ap (λ fs. atom w.is.head_place (name (codes "goal")) ∷ w.name_form ∷ fs) (list_from behind_name)

  pub items_are : items_of_goal form ≡ behind_name
  items_are = ap (drop 2) parts_are

  pub goal_ranked : rank text_keywords form ≡ Some 3
  goal_ranked = listed_rank text_keywords (codes "goal") (w.name_form ∷ behind_name) form w.is

  pub goal_told : second_name form ≡ Some g.name
  goal_told = ap second_name w.is.is ∙ ap name_in w.named.is

  pub all_ins : AllOf goal_keywords 0 w.ins
  all_ins = all_ranked goal_keywords WritesInput 0 input_ranked w.ins g.inputs w.inputs

  pub all_pools : AllOf goal_keywords 1 w.pools
  all_pools = pool_ranked (input_registers g.inputs ++ pins_of g.sets) w.pools g.pool w.pool

  abbrev scope : Scope
  scope = scope_of_goal declared g

  pub all_bindings : AllOf goal_keywords 2 w.bindings
  all_bindings = all_lets declared g.inputs w.lets

  pub all_assumes : AllOf goal_keywords 3 w.assumes
  all_assumes = all_ranked goal_keywords (WritesAssume scope) 3 (assume_ranked scope) w.assumes g.assumes w.assumptions

  pub all_whens : AllOf goal_keywords 4 w.whens
  all_whens = guard_ranked scope w.whens g.guard w.guard

  pub all_sets : AllOf goal_keywords 5 w.sets
  all_sets = all_ranked goal_keywords (WritesTarget scope) 5 (target_ranked scope) w.sets g.sets w.targets

  abbrev items : ℕ → List Form
  items at = of_rank goal_keywords at (items_of_goal form)

  ins_are : items 0 ≡ w.ins
  ins_are =
      ap (of_rank goal_keywords 0) items_are
      ∙ first_of goal_keywords 0 w.ins _ all_ins
      (skip_of goal_keywords 1 0 w.pools _ all_pools refl ∙ skip_of goal_keywords 2 0 w.bindings _ all_bindings refl ∙ skip_of goal_keywords 3 0 w.assumes _ all_assumes refl ∙ skip_of goal_keywords 4 0 w.whens _ all_whens refl ∙ of_other goal_keywords 5 0 w.sets all_sets refl)

  pools_are : items 1 ≡ w.pools
  pools_are =
      ap (of_rank goal_keywords 1) items_are ∙ skip_of goal_keywords 0 1 w.ins _ all_ins refl
      ∙ first_of goal_keywords 1 w.pools _ all_pools
      (skip_of goal_keywords 2 1 w.bindings _ all_bindings refl ∙ skip_of goal_keywords 3 1 w.assumes _ all_assumes refl ∙ skip_of goal_keywords 4 1 w.whens _ all_whens refl ∙ of_other goal_keywords 5 1 w.sets all_sets refl)

  bindings_are : items 2 ≡ w.bindings
  bindings_are =
      ap (of_rank goal_keywords 2) items_are ∙ skip_of goal_keywords 0 2 w.ins _ all_ins refl ∙ skip_of goal_keywords 1 2 w.pools _ all_pools refl
      ∙ first_of goal_keywords 2 w.bindings _ all_bindings
      (skip_of goal_keywords 3 2 w.assumes _ all_assumes refl ∙ skip_of goal_keywords 4 2 w.whens _ all_whens refl ∙ of_other goal_keywords 5 2 w.sets all_sets refl)

  assumes_are : items 3 ≡ w.assumes
  assumes_are =
      ap (of_rank goal_keywords 3) items_are ∙ skip_of goal_keywords 0 3 w.ins _ all_ins refl ∙ skip_of goal_keywords 1 3 w.pools _ all_pools refl ∙ skip_of goal_keywords 2 3 w.bindings _ all_bindings refl
      ∙ first_of goal_keywords 3 w.assumes _ all_assumes
      (skip_of goal_keywords 4 3 w.whens _ all_whens refl ∙ of_other goal_keywords 5 3 w.sets all_sets refl)

  whens_are : items 4 ≡ w.whens
  whens_are =
      ap (of_rank goal_keywords 4) items_are ∙ skip_of goal_keywords 0 4 w.ins _ all_ins refl ∙ skip_of goal_keywords 1 4 w.pools _ all_pools refl ∙ skip_of goal_keywords 2 4 w.bindings _ all_bindings refl ∙ skip_of goal_keywords 3 4 w.assumes _ all_assumes refl
      ∙ first_of goal_keywords 4 w.whens _ all_whens
      (of_other goal_keywords 5 4 w.sets all_sets refl)

  sets_are : items 5 ≡ w.sets
  sets_are =
      ap (of_rank goal_keywords 5) items_are ∙ skip_of goal_keywords 0 5 w.ins _ all_ins refl ∙ skip_of goal_keywords 1 5 w.pools _ all_pools refl ∙ skip_of goal_keywords 2 5 w.bindings _ all_bindings refl ∙ skip_of goal_keywords 3 5 w.assumes _ all_assumes refl ∙ skip_of goal_keywords 4 5 w.whens _ all_whens refl
      ∙ ap (of_rank goal_keywords 5) (sym (nothing_behind w.sets)) ∙ first_of goal_keywords 5 w.sets [] all_sets refl
    where
      nothing_behind : (xs : List Form) → xs ++ [] ≡ xs
      nothing_behind [] = refl
      nothing_behind (x ∷ xs) = ap (λ ys. x ∷ ys) (nothing_behind xs)

  pub reads_inputs : Each WritesInput (items 0) g.inputs
  reads_inputs = subst (λ fs. Each WritesInput fs g.inputs) (sym ins_are) w.inputs

  pub reads_pool : WritesPool (input_registers g.inputs ++ pins_of g.sets) (items 1) g.pool
  reads_pool = subst (λ fs. WritesPool (input_registers g.inputs ++ pins_of g.sets) fs g.pool) (sym pools_are) w.pool

  pub reads_lets : WritesLets declared g.inputs [] (items 2) g.lets
  reads_lets = subst (λ fs. WritesLets declared g.inputs [] fs g.lets) (sym bindings_are) w.lets

  pub reads_assumes : Each (WritesAssume scope) (items 3) g.assumes
  reads_assumes = subst (λ fs. Each (WritesAssume scope) fs g.assumes) (sym assumes_are) w.assumptions

  pub reads_guard : WritesGuard scope (items 4) g.guard
  reads_guard = subst (λ fs. WritesGuard scope fs g.guard) (sym whens_are) w.guard

  pub reads_targets : Each (WritesTarget scope) (items 5) g.sets
  reads_targets = subst (λ fs. Each (WritesTarget scope) fs g.sets) (sym sets_are) w.targets

goal_of_parts : List ℕ → List InputReg → List ℕ → List LetTree → List TwoTrees → Option (Tree Op) → List TargetTree → GoalTree
goal_of_parts n i p l a u s = record { name = n; inputs = i; pool = p; lets = l; assumes = a; guard = u; sets = s }

goal_back : (g : GoalTree) → goal_of_parts g.name g.inputs g.pool g.lets g.assumes g.guard g.sets ≡ g
unfolding goal_of_parts
goal_back g = refl

pub goal_once : (declared : List DeclaredOp) (form : Form) (g h : GoalTree) → WritesGoal declared form g → WritesGoal declared form h → g ≡ h
goal_once declared form g h w v =
    let items : ℕ → List Form = λ at. of_rank goal_keywords at (items_of_goal form) in
    let names = same_some (second_name form) g.name h.name (goal_told declared form g w) (goal_told declared form h v) in
    let inputs = each_once WritesInput input_once (items 0) g.inputs h.inputs (reads_inputs declared form g w) (reads_inputs declared form h v) in
    let lets = lets_once declared h.inputs (subst (λ is. WritesLets declared is [] (items 2) g.lets) inputs (reads_lets declared form g w)) h.lets (reads_lets declared form h v) in
    let scope = scope_of_goal declared h in
    let same : scope_of_goal declared g ≡ scope = ap₂ (λ is ls. let_scope declared is (sorted_from [] ls)) inputs lets in
    let assumes = each_once (WritesAssume scope) (assume_once scope) (items 3) g.assumes h.assumes (subst (λ (s : Scope). Each (WritesAssume s) (items 3) g.assumes) same (reads_assumes declared form g w)) (reads_assumes declared form h v) in
    let guards = guard_once scope (items 4) g.guard h.guard (subst (λ (s : Scope). WritesGuard s (items 4) g.guard) same (reads_guard declared form g w)) (reads_guard declared form h v) in
    let sets = each_once (WritesTarget scope) (target_once scope) (items 5) g.sets h.sets (subst (λ (s : Scope). Each (WritesTarget s) (items 5) g.sets) same (reads_targets declared form g w)) (reads_targets declared form h v) in
    let taken = ap₂ (λ is ts. input_registers is ++ pins_of ts) inputs sets in
    let pool = pool_once (input_registers h.inputs ++ pins_of h.sets) (items 1) g.pool h.pool (subst (λ rs. WritesPool rs (items 1) g.pool) taken (reads_pool declared form g w)) (reads_pool declared form h v) in
    sym (goal_back g)
    ∙ ap₂ (λ n i. goal_of_parts n i g.pool g.lets g.assumes g.guard g.sets) names inputs
    ∙ ap₂ (λ p l. goal_of_parts h.name h.inputs p l g.assumes g.guard g.sets) pool lets
    ∙ ap (λ a. goal_of_parts h.name h.inputs h.pool h.lets a g.guard g.sets) assumes
    ∙ ap₂ (λ u s. goal_of_parts h.name h.inputs h.pool h.lets h.assumes u s) guards sets
    ∙ goal_back h

-- ---- a declaration
pub arity_told : (a : Arity) → arity_named (count_of a) ≡ Some a
arity_told One = refl
arity_told Two = refl
arity_told Three = refl
arity_told Four = refl

pub declaration_told : (form : Form) (o : DeclaredOp) → WritesDeclaration form o → declaration_in form ≡ Some o
declaration_told form o w =
    let put : List ℕ → Arity → Option DeclaredOp = λ nm a. Some (record { name = nm; arity = a }) in
    ap declaration_in w.is.is ∙ ap (λ (f : Form). name_in f >>= (λ nm. number_in w.second >>= (λ n. arity_named n >>= put nm))) w.named.is
    ∙ ap (λ (f : Form). number_in f >>= (λ n. arity_named n >>= put o.name)) w.counted.is ∙ ap (λ a. a >>= put o.name) (arity_told o.arity)

pub declaration_ranked : (form : Form) (o : DeclaredOp) → WritesDeclaration form o → rank text_keywords form ≡ Some 1
declaration_ranked form o w = listed_rank text_keywords (codes "op") (w.first ∷ w.second ∷ []) form w.is

pub declaration_once : (form : Form) (o p : DeclaredOp) → WritesDeclaration form o → WritesDeclaration form p → o ≡ p
declaration_once form o p w v = same_some (declaration_in form) o p (declaration_told form o w) (declaration_told form p v)

-- ---- an axiom
axiom_of_parts : List (List ℕ) → Tree Op → Tree Op → AxiomTree
axiom_of_parts v l r = record { variables = v; left = l; right = r }

axiom_back : (a : AxiomTree) → axiom_of_parts a.variables a.left a.right ≡ a
unfolding axiom_of_parts
axiom_back a = refl

three_same : (word : List ℕ) (a b c d e f : Form) (form : Form) → IsListOf word (a ∷ b ∷ c ∷ []) form → IsListOf word (d ∷ e ∷ f ∷ []) form → (a ≡ d) × (b ≡ e) × (c ≡ f)
three_same word a b c d e f form is has =
    let g : a ∷ b ∷ c ∷ [] ≡ d ∷ e ∷ f ∷ [] = sym (listed_parts word (a ∷ b ∷ c ∷ []) form is) ∙ listed_parts word (d ∷ e ∷ f ∷ []) form has in
    let first : a ≡ d = cc in
    let second : b ≡ e = cc in
    let third : c ≡ f = cc in
    (first, second, third)

pub axiom_ranked : (declared : List DeclaredOp) (form : Form) (a : AxiomTree) → WritesAxiom declared form a → rank text_keywords form ≡ Some 2
axiom_ranked declared form a w = listed_rank text_keywords (codes "axiom") (list w.place (forms_from w.names) ∷ w.left_form ∷ w.right_form ∷ []) form w.is

pub axiom_once : (declared : List DeclaredOp) (form : Form) (a b : AxiomTree) → WritesAxiom declared form a → WritesAxiom declared form b → a ≡ b
axiom_once declared form a b w v =
    let same = three_same (codes "axiom") (list w.place (forms_from w.names)) w.left_form w.right_form (list v.place (forms_from v.names)) v.left_form v.right_form form w.is v.is in
    let names : w.names ≡ v.names = sym (list_from w.names) ∙ ap parts_of same.0 ∙ list_from v.names in
    let variables = each_once (λ f n. IsNameOf n f) name_once v.names a.variables b.variables (subst (λ fs. Each (λ f n. IsNameOf n f) fs a.variables) names w.variables) v.variables in
    let scope = axiom_scope declared b.variables in
    let lefts = term_alone scope _ _ w.left_form v.left_form a.left b.left same.1 (subst (λ ns. Writes (axiom_scope declared ns) sorts.Word w.left_form a.left) variables w.left) v.left in
    let rights = term_alone scope _ _ w.right_form v.right_form a.right b.right same.2 (subst (λ ns. Writes (axiom_scope declared ns) sorts.Word w.right_form a.right) variables w.right) v.right in
    sym (axiom_back a) ∙ ap₂ (λ vs l. axiom_of_parts vs l a.right) variables lefts ∙ ap (axiom_of_parts b.variables b.left) rights ∙ axiom_back b
