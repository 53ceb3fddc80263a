-- The goals of a well-formed proc are a well-formed input.
use Rattle.std.proofs.Common.{◌≡◌, ◌≢◌, ℕ, zero, suc, ◌+◌, ◌<◌, ◌≤◌, ◌^◌, ◌++◌, true, false, Option, None, Some, List, [], ◌∷◌, length, map, take, get_or, refl, sym, ap, ap₂, ◌∙◌, subst, arith, bytes_eq, codes, inl, inr, option_map}
use Rattle.std.specs.Prelude.{All, AllPairs, Contains, IfSome, false}
use Rattle.std.specs.List.{cons_option}
use Rattle.std.specs.Option.{option_map_or}
use Rattle.std.proofs.lemmas.Bool.{cases_order, or_parts}
use Rattle.std.proofs.lemmas.List.{append-nil, length-map, get_or-map, take_all}
use Rattle.std.proofs.lemmas.List.Elements.{All-nil, All-cons, All-head, All-tail, All-append, All-contains, All-map, Contains-append_right, Contains-get_or}
use Rattle.std.proofs.lemmas.List.Kept.{AllPairs-cons}
use Rattle.std.proofs.lemmas.Slice.Eq.{bytes_eq-Decides}
use Rattle.text_core.specs.Names.{IsName, is_among}
use Rattle.goal_meaning.specs.Names.{IsNamedGoal, is_reserved, names_of_declared}
use Rattle.goal_meaning.specs.Rules.{KeepsRules, names_of_inputs, pins_of}
use Rattle.goal_meaning.specs.Views.{LetTree, TargetTree, GoalTree, goal_view}
use Rattle.goal_meaning.specs.WellFormed.{IsGoal, IsGoalTerm, IsInput, IsTarget, input_registers, operators_of_goal, operators_of_target, sum_over}
use Rattle.goal_meaning.specs.declared.goals.Goal.{Goal}
use Rattle.goal_meaning.specs.declared.goals.InputReg.{InputReg}
use Rattle.word_ops.specs.declared.sorts.Sort.TheVariants as sorts
use Rattle.word_ops.specs.declared.sorts.Op.{Op}
use Rattle.word_terms.specs.OperatorsIn.{operators_in}
use Rattle.word_terms.specs.Tree.{Tree}
use Rattle.goal_reader.proofs.Different.{pairs_back, pairs_map, pairs_nil}
use Rattle.goal_reader.proofs.Printed.{map_twice}
use Rattle.goal_reader.proofs.PrintedForms.{pairs_front}
use Rattle.goal_reader.proofs.WrittenSizes.{at_most_all}
use Rattle.proc_goal.specs.Goals.{goal_of_block, input_of_proc, memory_kept, sets_or_memory}
use Rattle.proc_goal.specs.Views.{BlockTree, ProcTree, WhenTree, block_view, proc_view}
use Rattle.proc_goal.specs.declared.procs.Block.{Block}
use Rattle.proc_goal.specs.declared.procs.Proc.{Proc}
use Rattle.proc_goal.specs.WellFormed.{IsProcBlock, IsGuard, IsPinned, IsProc, IsTermOver, memory, variable, operators_of_block, operators_of_sets}
use Rattle.proc_goal.proofs.GoalLevels.{goals_nested}

-- ---- lists
module _ {X : Type 0} (R : X → X → Type 0) where
  pairs_head : (x : X) (xs : List X) → AllPairs R (x ∷ xs) → All (R x) xs
  pairs_head x xs h k d l = h 0 (suc k) d (omega arith) (omega (arith, l))

  pairs_tail : (x : X) (xs : List X) → AllPairs R (x ∷ xs) → AllPairs R xs
  pairs_tail x xs h i j d l m = h (suc i) (suc j) d (omega (arith, l)) (omega (arith, m))

  pairs_one : (x : X) → AllPairs R (x ∷ [])
  pairs_one x = AllPairs-cons R x [] (All-nil (R x)) (pairs_nil R)

  there : (x : X) (xs : List X) → Contains (x ∷ xs) x
  there x xs = (0, omega arith, refl)

  further : (x y : X) (xs : List X) → Contains xs y → Contains (x ∷ xs) y
  further x y xs c = let low = c.1 in (suc c.0, omega (arith, low), c.2)

  pairs_both : (xs ys : List X) → AllPairs R xs → AllPairs R ys → ((x y : X) → Contains xs x → Contains ys y → R x y) → AllPairs R (xs ++ ys)
  pairs_both [] ys a b across = b
  pairs_both (x ∷ xs) ys a b across =
      AllPairs-cons R x (xs ++ ys)
      (All-append (R x) xs ys (pairs_head x xs a) (λ k d l. across x (get_or ys k d) (there x xs) (Contains-get_or ys k d l)))
      (pairs_both xs ys (pairs_tail x xs a) b (λ y z c e. across y z (further x y xs c) e))

  across_both : (xs ys : List X) (x y : X) → AllPairs R (xs ++ ys) → Contains xs x → Contains ys y → R x y
  across_both [] ys x y h c e = absurd (let l = c.1 in omega (arith, l))
  across_both (z ∷ xs) ys x y h (zero, l, same) e = subst (λ w. R w y) same (All-contains (R z) (xs ++ ys) y (pairs_head z (xs ++ ys) h) (Contains-append_right xs ys y e))
  across_both (z ∷ xs) ys x y h (suc k, l, same) e = across_both xs ys x y (pairs_tail z (xs ++ ys) h) (k, omega (arith, l), same) e

front_all : {X : Type 0} (P : X → Type 0) (xs ys : List X) → All P (xs ++ ys) → All P xs
front_all P [] ys h = All-nil P
front_all P (x ∷ xs) ys h = All-cons P x xs (All-head P x (xs ++ ys) h) (front_all P xs ys (All-tail P x (xs ++ ys) h))

-- ---- what is set
abbrev pub Apart : ℕ → ℕ → Type 0
Apart a b = a ≢ b

abbrev named_in : List ℕ → ℕ → InputReg
named_in n r = record { name = n; reg = r }

pub memory_reserved : is_reserved (codes "M") ≡ false → ⊥
memory_reserved e =
    let parts = or_parts _ (bytes_eq (codes "M") (codes "M")) e in
    let t : true ≡ false = sym ((bytes_eq-Decides (codes "M") (codes "M")).1 refl) ∙ parts.1 in cc

module _ (vars : List InputReg) where
  abbrev register_in : (n : List ℕ) (r : ℕ) → Contains vars (named_in n r) → Contains (input_registers vars) r
  register_in n r c = (
    c.0,
    (let low = c.1 in omega (arith, low, length-map vars (λ (i : InputReg). i.reg))),
    get_or-map (λ (i : InputReg). i.reg) vars c.0 (named_in n r) r c.1 ∙ ap (λ (i : InputReg). i.reg) c.2,
  )

  -- two names have two registers
  registers_apart : AllPairs Apart (input_registers vars) → (m n : List ℕ) (r s : ℕ) → m ≢ n → Contains vars (named_in m r) → Contains vars (named_in n s) → r ≢ s
  registers_apart pairs m n r s other c d e = elim (cases_order c.0 d.0) [
    | inl same ↦ other (ap (λ (i : InputReg). i.name) (sym c.2 ∙ get_or_any vars c.0 (named_in m r) (named_in n s) c.1 ∙ ap (λ k. get_or vars k (named_in n s)) same ∙ d.2))
    | inr (inl before) ↦ pairs c.0 d.0 r before (register_in n s d).1 ((register_in m r c).2 ∙ e ∙ sym (register_in n s d).2 ∙ get_or_any (input_registers vars) d.0 s r (register_in n s d).1)
    | inr (inr later) ↦ pairs d.0 c.0 s later (register_in m r c).1 ((register_in n s d).2 ∙ sym e ∙ sym (register_in m r c).2 ∙ get_or_any (input_registers vars) c.0 r s (register_in m r c).1)
  ]
    where
      get_or_any : {X : Type 0} (xs : List X) (k : ℕ) (a b : X) → k < length xs → get_or xs k a ≡ get_or xs k b
      get_or_any [] k a b l = absurd (omega (arith, l))
      get_or_any (x ∷ xs) zero a b l = refl
      get_or_any (x ∷ xs) (suc k) a b l = get_or_any xs k a b (omega (arith, l))

  abbrev Pinned : TargetTree → Type 0
  Pinned t = IsPinned vars t.name t.pin

  abbrev Other : TargetTree → TargetTree → Type 0
  Other s t = s.name ≢ t.name

  pin_there : (n : List ℕ) (o : Option ℕ) (r : ℕ) → IsPinned vars n o → o ≡ Some r → Contains vars (named_in n r)
  pin_there n _ r (memory e) same = cc
  pin_there n _ r (variable {register = s} c) same = (let is : s ≡ r = cc in subst (λ k. Contains vars (named_in n k)) is c)

  pins_in : (ts : List TargetTree) → All Pinned ts → All (Contains (input_registers vars)) (pins_of ts)
  pins_in [] h = All-nil (Contains (input_registers vars))
  pins_in (t ∷ ts) h = by_pin t.pin refl (pins_in ts (All-tail Pinned t ts h))
    where
      by_pin : (o : Option ℕ) → t.pin ≡ o → All (Contains (input_registers vars)) (pins_of ts) → All (Contains (input_registers vars)) (cons_option o (pins_of ts))
      by_pin None e rest = rest
      by_pin (Some r) e rest = All-cons (Contains (input_registers vars)) r (pins_of ts) (register_in t.name r (pin_there t.name t.pin r (All-head Pinned t ts h) e)) rest

  module _ (pairs : AllPairs Apart (input_registers vars)) where
    pin_apart : (n : List ℕ) (r : ℕ) → Contains vars (named_in n r) → (ts : List TargetTree) → All (λ (t : TargetTree). n ≢ t.name) ts → All Pinned ts → All (Apart r) (pins_of ts)
    pin_apart n r c [] other h = All-nil (Apart r)
    pin_apart n r c (t ∷ ts) other h = by_pin t.pin refl (pin_apart n r c ts (All-tail (λ (x : TargetTree). n ≢ x.name) t ts other) (All-tail Pinned t ts h))
      where
        by_pin : (o : Option ℕ) → t.pin ≡ o → All (Apart r) (pins_of ts) → All (Apart r) (cons_option o (pins_of ts))
        by_pin None e rest = rest
        by_pin (Some s) e rest =
            All-cons (Apart r) s (pins_of ts)
            (registers_apart pairs n t.name r s (All-head (λ (x : TargetTree). n ≢ x.name) t ts other) c (pin_there t.name t.pin s (All-head Pinned t ts h) e)) rest

    pins_apart : (ts : List TargetTree) → AllPairs Other ts → All Pinned ts → AllPairs Apart (pins_of ts)
    pins_apart [] other h = pairs_nil Apart
    pins_apart (t ∷ ts) other h = by_pin t.pin refl (pins_apart ts (pairs_tail Other t ts other) (All-tail Pinned t ts h))
      where
        by_pin : (o : Option ℕ) → t.pin ≡ o → AllPairs Apart (pins_of ts) → AllPairs Apart (cons_option o (pins_of ts))
        by_pin None e rest = rest
        by_pin (Some r) e rest =
            AllPairs-cons Apart r (pins_of ts)
            (pin_apart t.name r (pin_there t.name t.pin r (All-head Pinned t ts h) e) ts (pairs_head Other t ts other) (All-tail Pinned t ts h)) rest

  pub name_of_set : All (λ (i : InputReg). IsName i.name) vars → (n : List ℕ) (o : Option ℕ) → IsPinned vars n o → IsName n
  name_of_set named n _ (memory e) = subst IsName (sym e) (record { begins = refl; each = refl })
  name_of_set named n _ (variable {register = r} c) = All-contains (λ (i : InputReg). IsName i.name) vars (named_in n r) named c

  no_pin_of_memory : All (λ (i : InputReg). is_reserved i.name ≡ false) vars → (n : List ℕ) (o : Option ℕ) → IsPinned vars n o → bytes_eq n (codes "M") ≡ true → o ≡ None
  no_pin_of_memory own n _ (memory e) is = refl
  no_pin_of_memory own n _ (variable {register = r} c) is =
      absurd (memory_reserved (subst (λ m. is_reserved m ≡ false) ((bytes_eq-Decides n (codes "M")).0 is) (All-contains (λ (i : InputReg). is_reserved i.name ≡ false) vars (named_in n r) own c)))

-- ---- the sets of a goal
all_sets : (Q : TargetTree → Type 0) → Q memory_kept → (ts : List TargetTree) → All Q ts → All Q (sets_or_memory ts)
all_sets Q m [] h = All-cons Q memory_kept [] m (All-nil Q)
all_sets Q m (t ∷ ts) h = h

sets_differ : (ts : List TargetTree) → AllPairs (λ (s t : TargetTree). s.name ≢ t.name) ts → AllPairs (λ (s t : TargetTree). s.name ≢ t.name) (sets_or_memory ts)
sets_differ [] h = pairs_one (λ (s t : TargetTree). s.name ≢ t.name) memory_kept
sets_differ (t ∷ ts) h = h

same_pins : (ts : List TargetTree) → pins_of (sets_or_memory ts) ≡ pins_of ts
same_pins [] = refl
same_pins (t ∷ ts) = refl

some_set : (ts : List TargetTree) → 0 < length (sets_or_memory ts)
some_set [] = omega arith
some_set (t ∷ ts) = omega arith

few_sets_or_memory : (ts : List TargetTree) → length ts ≤ 16 → length (sets_or_memory ts) ≤ 16
few_sets_or_memory [] l = omega arith
few_sets_or_memory (t ∷ ts) l = l

-- ---- how many operators there are
operators_of_guard : (o : Option WhenTree) → option_map_or operators_in (option_map (λ (w : WhenTree). w.guard) o) 0 ≡ option_map_or (λ (w : WhenTree). operators_in w.guard) o 0
operators_of_guard None = refl
operators_of_guard (Some w) = refl

operators_set : (ts : List TargetTree) → sum_over operators_of_target (sets_or_memory ts) ≡ operators_of_sets ts
operators_set [] = refl
operators_set (t ∷ ts) = refl

module _ (p : ProcTree) where
  goal_operators : (b : BlockTree) → operators_of_goal (goal_of_block p b) ≡ operators_of_block b
  goal_operators b = let g = operators_of_guard b.when in let s = operators_set b.sets in omega (arith, g, s)

  all_operators : (bs : List BlockTree) → sum_over operators_of_goal (map (goal_of_block p) bs) ≡ sum_over operators_of_block bs
  all_operators [] = refl
  all_operators (b ∷ bs) = ap₂ (λ m n. m + n) (goal_operators b) (all_operators bs)

-- ---- one goal
module _ (p : ProcTree) (is : IsProc p) where
  module _ (b : BlockTree) (block : IsProcBlock p.vars (length p.blocks) b) where
    abbrev goal : GoalTree
    goal = goal_of_block p b

    pinned_sets : All (Pinned p.vars) b.sets
    pinned_sets k d l = (block.sets k d l).pinned

    goal_named : IsNamedGoal goal
    goal_named = record {
      own = block.named;
      inputs = is.variables;
      lets = All-nil (λ (l : LetTree). IsName l.name);
      targets = all_sets (λ (t : TargetTree). IsName t.name) (record { begins = refl; each = refl }) b.sets (λ k d l. name_of_set p.vars is.variables _ _ (pinned_sets k d l));
    }

    goal_term : (sort : _) (t : Tree Op) → IsTermOver p.vars sort t → IsGoalTerm [] goal sort t
    goal_term sort t w = record { sorted = w.sorted; operators = w.operators }

    goal_guard : (o : Option WhenTree) → IfSome o (IsGuard p.vars (length p.blocks)) → IfSome (option_map (λ (w : WhenTree). w.guard) o) (IsGoalTerm [] goal sorts.Word)
    goal_guard None h = tt
    goal_guard (Some w) h = goal_term sorts.Word w.guard h.guard

    goal_targets : All (IsTarget [] goal) (sets_or_memory b.sets)
    goal_targets =
        all_sets (IsTarget [] goal) (record { sorted = (refl, tt, refl, tt); operators = (tt, tt) }) b.sets
        (λ k d l. let s = block.sets k d l in goal_term _ _ s.value)

    front_apart : AllPairs Apart (input_registers p.vars)
    front_apart = pairs_front (input_registers p.vars) p.pool is.rules.registers

    names_apart : AllPairs (λ m n. m ≢ n) (names_of_inputs p.vars ++ [])
    names_apart =
        subst (AllPairs (λ m n. m ≢ n)) (sym (append-nil (names_of_inputs p.vars)))
        (pairs_map (λ (m n : List ℕ). m ≢ n) (λ (i : InputReg). i.name) p.vars is.rules.variable_names)

    goal_rules : AllPairs (λ (s t : TargetTree). s.name ≢ t.name) b.sets → length b.sets ≤ 16 → KeepsRules [] goal
    goal_rules differ few =
        let regs = input_registers p.vars in
        let pins = pins_in p.vars b.sets pinned_sets in
        record {
          input_names = is.rules.variable_names;
          own_names = is.rules.own_names;
          not_declared = λ k d l. refl;
          leaf_names = names_apart;
          own_lets = All-nil (λ n. (is_reserved n ≡ false) × (is_among (names_of_declared []) n ≡ false));
          few_lets = omega arith;
          registers = is.rules.registers;
          low = is.rules.low;
          targets = sets_differ b.sets differ;
          some_target = some_set b.sets;
          pins = subst (λ rs. AllPairs Apart (p.pool ++ rs)) (sym (same_pins b.sets))
              (pairs_both Apart p.pool (pins_of b.sets) (pairs_back Apart regs p.pool is.rules.registers) (pins_apart p.vars front_apart b.sets differ pinned_sets)
              (λ x y c d e. across_both Apart regs p.pool y x is.rules.registers (All-contains (Contains regs) (pins_of b.sets) y pins d) c (sym e)));
          low_pins = subst (All (λ r. r < 31)) (sym (same_pins b.sets))
              (λ k d l. All-contains (λ r. r < 31) regs (get_or (pins_of b.sets) k d) (front_all (λ r. r < 31) regs p.pool is.rules.low) (pins k d l));
          memory_unpinned = all_sets (λ (t : TargetTree). bytes_eq t.name (codes "M") ≡ true → t.pin ≡ None) (λ e. refl) b.sets (λ k d l. no_pin_of_memory p.vars is.rules.own_names _ _ (pinned_sets k d l));
          few = (is.rules.variables.1, omega arith, few_sets_or_memory b.sets few);
        }

    goal_is : AllPairs (λ (s t : TargetTree). s.name ≢ t.name) b.sets → length b.sets ≤ 16 → operators_of_block b < 2 ^ 29 → IsGoal [] goal
    goal_is differ few operators = record {
      named = goal_named;
      rules = goal_rules differ few;
      lets = tt;
      assumes = λ k d l. absurd (omega (arith, l));
      guard = goal_guard b.when block.when;
      sets = goal_targets;
      few = (let same = goal_operators p b in omega (arith, same, operators));
    }

  -- ---- all goals
  pub goals_well_formed : IsInput (input_of_proc p)
  goals_well_formed =
      let blocks = is.rules.blocks in
      let count = length-map p.blocks (goal_of_block p) in
      let operators = all_operators p p.blocks in
      let few = is.few_operators in
      record {
        table = is.table;
        slots = is.slots;
        builtin = is.builtin;
        operators = λ k d l. absurd (omega (arith, l));
        operators_differ = λ i j d l m. absurd (omega (arith, m));
        own_names = λ k d l. absurd (omega (arith, l));
        axioms = λ k d l. absurd (omega (arith, l));
        goals = All-map (IsGoal []) (goal_of_block p) p.blocks
            (λ k d l. goal_is (get_or p.blocks k d) (is.blocks k d l) (is.rules.set_names k d l) (is.rules.few_sets k d l) (let a = at_most_all operators_of_block p.blocks k d l in omega (arith, a, few)));
        goals_differ = pairs_map (λ (g h : GoalTree). g.name ≢ h.name) (goal_of_block p) p.blocks is.rules.block_names;
        some_goal = (let some = blocks.0 in omega (arith, some, count));
        few = (omega arith, omega arith, (let most = blocks.1 in omega (arith, most, count)));
        few_operators = omega (arith, operators, few);
        nested = goals_nested p is.nested;
      }

-- the goals of all blocks of a proc, each of which is one of the goals so far
pub all_goals : (p : Proc) (i : ℕ) (goals : List Goal) → length p.blocks ≤ i → map goal_view goals ≡ map (λ (b : Block). goal_of_block (proc_view p) (block_view b)) (take i p.blocks) → map goal_view goals ≡ (input_of_proc (proc_view p)).goals
all_goals p i goals all so_far = so_far ∙ ap (map (λ (b : Block). goal_of_block (proc_view p) (block_view b))) (take_all i p.blocks all) ∙ sym (map_twice (goal_of_block (proc_view p)) block_view p.blocks)
