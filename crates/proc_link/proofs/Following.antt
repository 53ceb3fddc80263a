-- Words that decode as the linked instructions follow the block machine.
use Rattle.std.proofs.Common.{◌≡◌, ℕ, zero, suc, ◌+◌, ◌*◌, ◌/◌, ◌<◌, ◌≤◌, List, [], ◌∷◌, ◌++◌, map, length, get_or, refl, sym, ◌∙◌, ap, arith, Option, Some, None}
use Rattle.std.specs.Prelude.{All, Contains, bytes_eq, find, slice_index, IsFalse, IsSomeAnd, IsTrue}
use Rattle.std.specs.List.{AllZip}
use Rattle.std.specs.Option.{option_map_or}
use Rattle.std.proofs.lemmas.Bool.{false≢true}
use Rattle.std.proofs.lemmas.List.{length-map}
use Rattle.std.proofs.lemmas.List.Elements.{All-nil, All-cons, All-contains, All-head, All-tail, All-weaker, Contains-get_or}
use Rattle.std.proofs.lemmas.Slice.Eq.{bytes_eq-Decides}
use Rattle.std.proofs.lemmas.Slice.Zip.{AllZip-long}
use Rattle.word_ops.specs.declared.operators.WordOp.{WordOp}
use Rattle.word_ops.specs.Memory.{Memory, IsMemory, loaded, stored}
use Rattle.word_ops.specs.declared.sorts.Access.{Access}
use Rattle.word_ops.specs.Operators.{value_of}
use Rattle.word_ops.specs.Words.{IsWord}
use Rattle.alpha_encode.specs.Decoded.{decoded}
use Rattle.alpha_encode.specs.declared.instructions.Instr.{Instr}
use Rattle.alpha_machine.specs.States.{MachineState, IsState}
use Rattle.alpha_machine.specs.Steps.{step, traps}
use Rattle.alpha_machine.specs.Runs.{fetched, stepped, after}
use Rattle.goal_meaning.specs.Expanded.{expanded}
use Rattle.goal_meaning.specs.Views.{GoalTree}
use Rattle.goal_meaning.specs.WellFormed.{IsGoal, IsInput}
use Rattle.goal_meaning.specs.declared.goals.DeclaredOp.{DeclaredOp}
use Rattle.goal_meaning.specs.declared.goals.InputReg.{InputReg}
use Rattle.proc_goal.specs.Goals.{goal_of_block, input_of_proc}
use Rattle.proc_goal.specs.Views.{BlockTree, ProcTree}
use Rattle.proc_goal.specs.WellFormed.{IsProc, IsProcBlock, IsProcTarget}
use Rattle.proc_goal.specs.declared.procs.Target.{Target}
use Rattle.proc_goal.specs.declared.procs.Target.TheVariants.{Block, Done}
use Rattle.register_assign.specs.Outcomes.{instrs_of}
use Rattle.register_assign.specs.declared.listings.Listing.{Listing}
use Rattle.proc_link.specs.Blocks.{BlockState, block_step, block_steps}
use Rattle.proc_link.specs.Follows.{AreListings, ComesTo, FollowBlocks, IsListingOfBlock, ShowsBlockState, address_of, begun}
use Rattle.proc_link.specs.Linked.{all_instrs, linked, place_of_target, starts_of, words_before}
use Rattle.proc_link.proofs.Does.{Does, does, one_by_name}
use Rattle.proc_link.proofs.Finding.{find_none, find_some}
use Rattle.proc_link.proofs.Placing.{length_linked, start_at}
use Rattle.proc_link.proofs.Steps.{AreDone, LeadsOn, ShowsAt, all_steps, next_target, one_step}

front_all : {X Y : Type 0} (P : Y → Type 0) (f : X → Y) (xs : List X) (more : List Y) → All P (map f xs ++ more) → All (λ x. P (f x)) xs
front_all P f [] more h = All-nil (λ x. P (f x))
front_all P f (x ∷ xs) more h =
    All-cons (λ x. P (f x)) x xs (All-head P (f x) (map f xs ++ more) h) (front_all P f xs more (All-tail P (f x) (map f xs ++ more) h))

none_before : (ls : List (List Instr)) → words_before ls 0 ≡ 0
none_before [] = refl
none_before (l ∷ ls) = refl

-- a block's goal has no lets
abbrev pub IsAsItIs : ProcTree → BlockTree → Type 0
IsAsItIs p b = expanded (goal_of_block p b) ≡ goal_of_block p b

all_of_map : {X Y : Type 0} (P : Y → Type 0) (f : X → Y) (xs : List X) → All P (map f xs) → All (λ x. P (f x)) xs
all_of_map P f [] h = All-nil (λ x. P (f x))
all_of_map P f (x ∷ xs) h =
    All-cons (λ x. P (f x)) x xs (All-head P (f x) (map f xs) h) (all_of_map P f xs (All-tail P (f x) (map f xs) h))

pub as_they_are : (p : ProcTree)
    → ((declared : List DeclaredOp) (goal : GoalTree) → IsGoal declared goal → goal.lets ≡ [] → expanded goal ≡ goal)
    → IsInput (input_of_proc p) → All (IsAsItIs p) p.blocks
as_they_are p law is =
    All-weaker (λ b. IsGoal [] (goal_of_block p b)) (IsAsItIs p) (λ b h. law [] (goal_of_block p b) h refl) p.blocks
    (all_of_map (IsGoal []) (goal_of_block p) p.blocks is.goals)

module _ (p : ProcTree) (is_proc : IsProc p) (same : All (IsAsItIs p) p.blocks) where
  each_does : (bs : List BlockTree) (ls : List Listing) → All (IsProcBlock p.vars (length p.blocks)) bs → All (IsAsItIs p) bs → AllZip (IsListingOfBlock p) bs ls
      → AllZip (Does p) bs (all_instrs ls)
  each_does [] [] blocks own h = tt
  each_does [] (l ∷ ls) blocks own h = absurd h
  each_does (b ∷ bs) [] blocks own h = absurd h
  each_does (b ∷ bs) (l ∷ ls) blocks own h = (
    does p is_proc b (All-head (IsProcBlock p.vars (length p.blocks)) b bs blocks) l h.0 (All-head (IsAsItIs p) b bs own),
    each_does bs ls (All-tail (IsProcBlock p.vars (length p.blocks)) b bs blocks) (All-tail (IsAsItIs p) b bs own) h.1,
  )

  pub are_done : (ls : List Listing) → AreListings p ls → AreDone p (all_instrs ls)
  are_done ls are = record {
    few = is_proc.rules.blocks.1;
    low = front_all (λ r. r < 31) (λ (v : InputReg). v.reg) p.vars p.pool is_proc.rules.low;
    blocks_are = is_proc.blocks;
    listings_are = each_does p.blocks ls is_proc.blocks same are;
  }

  module _ (ls : List Listing) (are : AreListings p ls) where
    abbrev all : List (List Instr)
    all = all_instrs ls

    as_many : length p.blocks ≡ length all
    as_many = sym (AllZip-long (IsListingOfBlock p) p.blocks ls are) ∙ sym (length-map ls (λ (l : Listing). instrs_of l.items))

    -- ---- where it begins

    begins : (m : MachineState) → IsState m → m.pc ≡ 0 → ShowsAt p all (begun p m) m
    begins m is pc = record {
      state = is;
      pc = (let none = none_before all in omega (arith, none, pc));
      words_are = λ v has. by v has (find (λ (u : InputReg). bytes_eq u.name v.name) p.vars) refl;
      memory_is = refl;
    }
      where
        by : (v : InputReg) → Contains p.vars v → (o : Option InputReg) → find (λ (u : InputReg). bytes_eq u.name v.name) p.vars ≡ o
            → slice_index m.registers v.reg ≡ option_map_or (λ (u : InputReg). slice_index m.registers u.reg) o 0
        by v has None e =
            absurd (false≢true (sym (find_none (λ (u : InputReg). bytes_eq u.name v.name) p.vars v e has) ∙ (bytes_eq-Decides v.name v.name).1 refl))
        by v has (Some u) e =
            let found = find_some (λ (u : InputReg). bytes_eq u.name v.name) p.vars u e in
            ap (λ (x : InputReg). slice_index m.registers x.reg) (sym (one_by_name p is_proc u v found.1 has ((bytes_eq-Decides u.name v.name).0 found.0)))

    -- ---- addresses

    module _ (words : List ℕ) (decode : map decoded words ≡ map Some (linked p.blocks all)) where
      count : length words ≡ length (linked p.blocks all)
      count = sym (length-map words decoded) ∙ ap length decode ∙ length-map (linked p.blocks all) Some

      address_is : (t : Target) → IsProcTarget (length p.blocks) t → 4 * place_of_target all t ≡ address_of (starts_of all) (4 * length words) t
      address_is (Block i) there =
          let many = as_many in
          let start = start_at 0 all i (omega (arith, many, there)) in
          omega (arith, start)
      address_is Done there =
          let same = count in
          let whole = length_linked (place_of_target all) 0 p.blocks all as_many in
          omega (arith, same, whole)

      shown : (s : BlockState) (m : MachineState) → IsProcTarget (length p.blocks) s.at → ShowsAt p all s m → ShowsBlockState p (starts_of all) (4 * length words) s m
      shown s m there h = record {
        state = h.state;
        pc = h.pc ∙ address_is s.at there;
        words = λ k d lt. h.words_are (get_or p.vars k d) (Contains-get_or p.vars k d lt);
        memory_is = h.memory_is;
      }

      shown_at : (s : BlockState) (m : MachineState) → IsProcTarget (length p.blocks) s.at → ShowsBlockState p (starts_of all) (4 * length words) s m → ShowsAt p all s m
      shown_at s m there h = record {
        state = h.state;
        pc = h.pc ∙ sym (address_is s.at there);
        words_are = λ v has. All-contains (λ (v : InputReg). slice_index m.registers v.reg ≡ s.words v.name) p.vars v h.words has;
        memory_is = h.memory_is;
      }

      module _ (last : (n : ℕ) (instrs : List Instr) (s : MachineState) → after (suc n) instrs s ≡ stepped instrs (after n instrs s))
          (sums : (m n : ℕ) (instrs : List Instr) (s : MachineState) → after (m + n) instrs s ≡ after n instrs (after m instrs s))
          (stays : (n : ℕ) (instrs : List Instr) (s : MachineState) → length instrs ≤ s.pc / 4 → after n instrs s ≡ s)
          (steps : (instrs : List Instr) (s : MachineState) (i : Instr) → fetched instrs s ≡ Some i → IsFalse (traps i s) → stepped instrs s ≡ step i s)
          (trapped : (n : ℕ) (instrs : List Instr) (s : MachineState) → IsSomeAnd (fetched instrs s) (λ i. IsTrue (traps i s)) → after n instrs s ≡ s)
          (is_word : (op : WordOp) (vs : List ℕ) → All IsWord vs → IsWord (value_of op vs))
          (is_loaded : (access : Access) (m : Memory) (a : ℕ) → IsMemory m → IsWord (loaded access m a))
          (is_stored : (access : Access) (m : Memory) (a v : ℕ) → IsMemory m → IsWord a → IsWord v → IsMemory (stored access m a v)) where
        steps_there : (n : ℕ) (s : BlockState) → IsProcTarget (length p.blocks) s.at → IsProcTarget (length p.blocks) (block_steps n p s).at
        steps_there zero s there = there
        steps_there (suc n) s there =
            steps_there n (block_step p s) (next_target last sums stays steps trapped is_word is_loaded is_stored p all (are_done ls are) s s.at refl there)

        one : (s : BlockState) (m : MachineState) → IsProcTarget (length p.blocks) s.at → ShowsBlockState p (starts_of all) (4 * length words) s m
            → ComesTo p (starts_of all) (4 * length words) (linked p.blocks all) m 193 (block_step p s)
        one s m there h =
            let run : LeadsOn p all m 193 (block_step p s) = one_step last sums stays steps trapped is_word is_loaded is_stored p all (are_done ls are) s m there (shown_at s m there h) in
            record {
              steps = run.steps;
              few = run.few;
              shows = shown (block_step p s) (after run.steps (linked p.blocks all) m) (steps_there 1 s there) run.shows;
              others = run.others;
            }

        pub follows : FollowBlocks p words (starts_of all)
        follows = record {
          instrs = linked p.blocks all;
          decode = decode;
          step = one;
          follow = λ n m is pc.
              let first : IsProcTarget (length p.blocks) (Block 0) = is_proc.rules.blocks.0 in
              let run : LeadsOn p all m (193 * n) (block_steps n p (begun p m)) =
              all_steps last sums stays steps trapped is_word is_loaded is_stored p all (are_done ls are) n (begun p m) m first (begins m is pc) in
              record {
                steps = run.steps;
                few = run.few;
                shows = shown (block_steps n p (begun p m)) (after run.steps (linked p.blocks all) m) (steps_there n (begun p m) first) run.shows;
                others = run.others;
              };
        }
