-- No more lists stand inside one another in the canonical text of a proc's goals than in that of the proc.
use Rattle.std.proofs.Common.{ℕ, ◌+◌, ◌≤◌, ◌++◌, Option, None, Some, List, [], ◌∷◌, map, option_map, arith}
use Rattle.forms.specs.Printing.{Plain, levels, most_levels, plains_from}
use Rattle.goal_meaning.specs.InputForms.{goal_plain, guard_plains, input_plain, input_plains, pin_plains, pool_plain, target_plain, term_plain}
use Rattle.goal_meaning.specs.Views.{TargetTree}
use Rattle.goal_meaning.specs.declared.goals.InputReg.{InputReg}
use Rattle.proc_goal.specs.Goals.{goal_of_block, input_of_proc, sets_or_memory}
use Rattle.proc_goal.specs.ProcForms.{block_plain, go_plain, naming_over, proc_plain, proc_plains, set_plain, table_plains, var_plain, when_plains}
use Rattle.proc_goal.specs.Views.{BlockTree, ProcTree, WhenTree, names_of_blocks}

abbrev Deep : ℕ → List Plain → Type 0
Deep n ps = most_levels (plains_from ps) ≤ n

deep_front : (n : ℕ) (xs ys : List Plain) → Deep n (xs ++ ys) → Deep n xs
deep_front n [] ys h = omega arith
deep_front n (x ∷ xs) ys h = let rest = deep_front n xs ys (omega (arith, h)) in omega (arith, h, rest)

deep_back : (n : ℕ) (xs ys : List Plain) → Deep n (xs ++ ys) → Deep n ys
deep_back n [] ys h = h
deep_back n (x ∷ xs) ys h = deep_back n xs ys (omega (arith, h))

deep_both : (n : ℕ) (xs ys : List Plain) → Deep n xs → Deep n ys → Deep n (xs ++ ys)
deep_both n [] ys a b = b
deep_both n (x ∷ xs) ys a b = let rest = deep_both n xs ys (omega (arith, a)) b in omega (arith, a, rest)

each_deep : {X : Type 0} (m n : ℕ) (f : X → Plain) (g : X → Plain) → ((x : X) → levels (f x) ≤ m → levels (g x) ≤ n) → (xs : List X) → Deep m (map f xs) → Deep n (map g xs)
each_deep m n f g step [] h = omega arith
each_deep m n f g step (x ∷ xs) h =
    let one = step x (omega (arith, h)) in
    let rest = each_deep m n f g step xs (omega (arith, h)) in
    omega (arith, one, rest)

-- ---- the parts of a block
guard_deep : (n : ℕ) (vars : List InputReg) (names : List (List ℕ)) (o : Option WhenTree) → Deep n (when_plains vars names o) → Deep n (guard_plains (naming_over vars) (option_map (λ (w : WhenTree). w.guard) o))
guard_deep n vars names None h = omega arith
guard_deep n vars names (Some w) h = omega (arith, h)

pinned_deep : (n : ℕ) (o : Option ℕ) (value : Plain) → levels value ≤ n → Deep n (pin_plains o ++ value ∷ [])
pinned_deep n None value h = omega (arith, h)
pinned_deep n (Some r) value h = omega (arith, h)

set_deep : (n : ℕ) (vars : List InputReg) (t : TargetTree) → levels (set_plain vars t) ≤ 1 + n → levels (target_plain (naming_over vars) t) ≤ 1 + n
set_deep n vars t h = let both = pinned_deep n t.pin (term_plain (naming_over vars) t.value) (omega (arith, h)) in omega (arith, both)

sets_deep : (n : ℕ) (vars : List InputReg) (ts : List TargetTree) → Deep (1 + n) (map (set_plain vars) ts) → Deep (1 + n) (map (target_plain (naming_over vars)) (sets_or_memory ts))
sets_deep n vars [] h = omega arith
sets_deep n vars (t ∷ ts) h = each_deep (1 + n) (1 + n) (set_plain vars) (target_plain (naming_over vars)) (set_deep n vars) (t ∷ ts) h

module _ (p : ProcTree) where
  abbrev names : List (List ℕ)
  names = names_of_blocks p.blocks

  goal_deep : Deep 63 (map var_plain p.vars) → levels (pool_plain p.pool) ≤ 63 → (b : BlockTree) → levels (block_plain p.vars names b) ≤ 63 → levels (goal_plain [] (goal_of_block p b)) ≤ 64
  goal_deep vars pool b h =
      let whens = when_plains p.vars names b.when in
      let sets = map (set_plain p.vars) b.sets ++ go_plain names b.go ∷ [] in
      let guards = guard_plains (naming_over p.vars) (option_map (λ (w : WhenTree). w.guard) b.when) in
      let targets = map (target_plain (naming_over p.vars)) (sets_or_memory b.sets) in
      let items : Deep 62 (whens ++ sets) = omega (arith, h) in
      let guard = guard_deep 62 p.vars names b.when (deep_front 62 whens sets items) in
      let each = sets_deep 61 p.vars b.sets (deep_front 62 (map (set_plain p.vars) b.sets) (go_plain names b.go ∷ []) (deep_back 62 whens sets items)) in
      let last : Deep 62 (guards ++ targets) = deep_both 62 guards targets guard each in
      let ins = each_deep 63 63 var_plain input_plain (λ i l. l) p.vars vars in
      let all = deep_both 63 (map input_plain p.vars) (pool_plain p.pool ∷ (guards ++ targets)) ins (omega (arith, pool, last)) in
      omega (arith, all)

  goals_deep : Deep 64 (proc_plain p ∷ []) → Deep 64 (map (goal_plain []) (map (goal_of_block p) p.blocks))
  goals_deep h =
      let vars = map var_plain p.vars in
      let blocks = map (block_plain p.vars names) p.blocks in
      let items : Deep 63 (vars ++ (pool_plain p.pool ∷ blocks)) = omega (arith, h) in
      let behind = deep_back 63 vars (pool_plain p.pool ∷ blocks) items in
      goals_of (deep_front 63 vars (pool_plain p.pool ∷ blocks) items) (omega (arith, behind)) p.blocks (omega (arith, behind))
    where
      goals_of : Deep 63 (map var_plain p.vars) → levels (pool_plain p.pool) ≤ 63 → (bs : List BlockTree) → Deep 63 (map (block_plain p.vars names) bs) → Deep 64 (map (goal_plain []) (map (goal_of_block p) bs))
      goals_of vars pool [] l = omega arith
      goals_of vars pool (b ∷ bs) l =
          let one = goal_deep vars pool b (omega (arith, l)) in
          let rest = goals_of vars pool bs (omega (arith, l)) in
          omega (arith, one, rest)

  pub goals_nested : Deep 64 (proc_plains p) → Deep 64 (input_plains (input_of_proc p))
  goals_nested h =
      deep_both 64 (table_plains p) (map (goal_plain []) (map (goal_of_block p) p.blocks)) (deep_front 64 (table_plains p) (proc_plain p ∷ []) h)
      (goals_deep (deep_back 64 (table_plains p) (proc_plain p ∷ []) h))
