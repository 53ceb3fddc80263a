-- Steps of the block machine are runs of the blocks' words, where they stand in the linked list.
use Rattle.std.proofs.Common.{◌≡◌, ℕ, zero, suc, ◌+◌, ◌*◌, ◌/◌, ◌<◌, ◌≤◌, List, [], ◌∷◌, length, refl, sym, ◌∙◌, ap, subst, inl, inr, arith, Bool, true, false, Option, Some, None}
use Rattle.std.specs.Prelude.{All, Contains, IfSome, IsSomeAnd, MatchOption, codes, find, slice_get, slice_index, if◌then◌else◌, IsFalse, IsTrue}
use Rattle.std.specs.List.{AllZip}
use Rattle.std.specs.Option.{option_map_or}
use Rattle.std.proofs.lemmas.List.Elements.{All-nil, All-cons}
use Rattle.std.proofs.lemmas.Option.{slice_get_cases, slice_get_within, get_or_from_slice_get}
use Rattle.std.proofs.lemmas.Slice.Zip.{AllZip-long, AllZip-left}
use Rattle.schedule_meaning.specs.Limits.{most_launches}
use Rattle.word_ops.specs.declared.operators.WordOp.{WordOp}
use Rattle.word_ops.specs.Memory.{Memory, IsMemory, loaded, stored}
use Rattle.word_ops.specs.declared.sorts.Access.{Access}
use Rattle.word_ops.specs.Meanings.{as_word, as_memory}
use Rattle.word_ops.specs.Operators.{value_of}
use Rattle.word_ops.specs.Words.{IsWord}
use Rattle.word_ops.specs.Worlds.{World, IsWorld, word, memory}
use Rattle.alpha_encode.specs.declared.instructions.Instr.{Instr}
use Rattle.alpha_encode.specs.declared.instructions.Instr.TheVariants.{Beq}
use Rattle.alpha_machine.specs.States.{MachineState, IsState}
use Rattle.alpha_machine.specs.Steps.{step, next_pc, address, traps}
use Rattle.alpha_machine.specs.Runs.{fetched, stepped, after}
use Rattle.goal_meaning.specs.Holds.{goal_value}
use Rattle.goal_meaning.specs.Outcomes.{is_zero}
use Rattle.goal_meaning.specs.Views.{TargetTree}
use Rattle.goal_meaning.specs.declared.goals.InputReg.{InputReg}
use Rattle.proc_goal.specs.Views.{WhenTree, BlockTree, ProcTree}
use Rattle.proc_goal.specs.WellFormed.{IsGuard, IsProcBlock, IsProcTarget, IsSet}
use Rattle.proc_goal.specs.declared.procs.Target.{Target}
use Rattle.proc_goal.specs.declared.procs.Target.TheVariants.{Block, Done}
use Rattle.register_assign.specs.Outcomes.{entry_state}
use Rattle.proc_link.specs.Blocks.{BlockState, block_step, block_steps, guard_is_zero, new_state_memory, new_word, other_of, sets_name, step_from, through, through_at, value_now}
use Rattle.proc_link.specs.Follows.{KeepsOutsideRegisters}
use Rattle.proc_link.specs.Linked.{words_before, place_of_target, displacement_between, linked}
use Rattle.proc_link.proofs.Does.{Does, left_in}
use Rattle.proc_link.proofs.Finding.{found_is}
use Rattle.proc_link.proofs.Keeping.{all_keep}
use Rattle.proc_link.proofs.Placing.{stands, closes, few_before}
use Rattle.proc_link.proofs.Relocating.{moved, branch_leads, leaves, falls_there, leaves_there}
use Rattle.proc_link.proofs.Values.{value_same}

-- the blocks of a proc with their listings' instructions, one list for each block in order
pub record AreDone (p : ProcTree) (listings : List (List Instr)) : Type 0 where
  pub few : length p.blocks ≤ 64
  pub low : All (λ (v : InputReg). v.reg < 31) p.vars
  pub blocks_are : All (IsProcBlock p.vars (length p.blocks)) p.blocks
  pub listings_are : AllZip (Does p) p.blocks listings

-- the machine stands at the first word of the block, and has the variables and the memory
pub record ShowsAt (p : ProcTree) (listings : List (List Instr)) (s : BlockState) (m : MachineState) : Type 0 where
  pub state : IsState m
  pub pc : m.pc ≡ 4 * place_of_target listings s.at
  pub words_are : (v : InputReg) → Contains p.vars v → slice_index m.registers v.reg ≡ s.words v.name
  pub memory_is : m.memory ≡ s.memory

pub record LeadsOn (p : ProcTree) (listings : List (List Instr)) (m : MachineState) (most : ℕ) (s : BlockState) : Type 0 where
  pub steps : ℕ
  pub few : steps ≤ most
  pub shows : ShowsAt p listings s (after steps (linked p.blocks listings) m)
  pub others : KeepsOutsideRegisters p m (after steps (linked p.blocks listings) m)

pub few_of : (p : ProcTree) (bs : List BlockTree) (ls : List (List Instr)) → AllZip (Does p) bs ls → All (λ (l : List Instr). length l ≤ most_launches) ls
few_of p [] [] h = All-nil (λ (l : List Instr). length l ≤ most_launches)
few_of p [] (l ∷ ls) h = absurd h
few_of p (b ∷ bs) [] h = absurd h
few_of p (b ∷ bs) (l ∷ ls) h = All-cons (λ (l : List Instr). length l ≤ most_launches) l ls h.0.few (few_of p bs ls h.1)

record Listed (p : ProcTree) (listings : List (List Instr)) (i : ℕ) (b : BlockTree) : Type 0 where
  pub instrs : List Instr
  pub there : slice_get listings i ≡ Some instrs
  pub listing : Does p b instrs

listed_at : (p : ProcTree) (blocks : List BlockTree) (listings : List (List Instr)) → AllZip (Does p) blocks listings → (i : ℕ) (b : BlockTree) → slice_get blocks i ≡ Some b → Listed p listings i b
listed_at p blocks listings h i b e = by (slice_get listings i) refl (subst (λ (o : Option BlockTree). MatchOption o (Unit {0}) (λ x. IsSomeAnd (slice_get listings i) (Does p x))) e (AllZip-left (Does p) blocks listings h i))
  where
    by : (o : Option (List Instr)) → slice_get listings i ≡ o → IsSomeAnd o (Does p b) → Listed p listings i b
    by None f k = absurd k
    by (Some is) f k = record { instrs = is; there = f; listing = k }

pub other_there : (vars : List InputReg) (count : ℕ) (b : BlockTree) → IsProcBlock vars count b → IsProcTarget count (other_of b)
other_there vars count b fact = by b.when fact.when
  where
    by : (o : Option WhenTree) → IfSome o (IsGuard vars count) → IsProcTarget count (option_map_or (λ (w : WhenTree). w.other) o b.go)
    by None h = fact.go
    by (Some w) h = h.other

module _ (last : (n : ℕ) (instrs : List Instr) (s : MachineState) → after (suc n) instrs s ≡ stepped instrs (after n instrs s))
    (sums : (m n : ℕ) (instrs : List Instr) (s : MachineState) → after (m + n) instrs s ≡ after n instrs (after m instrs s))
    (stays : (n : ℕ) (instrs : List Instr) (s : MachineState) → length instrs ≤ s.pc / 4 → after n instrs s ≡ s)
    (steps : (instrs : List Instr) (s : MachineState) (i : Instr) → fetched instrs s ≡ Some i → IsFalse (traps i s) → stepped instrs s ≡ step i s)
    (trapped : (n : ℕ) (instrs : List Instr) (s : MachineState) → IsSomeAnd (fetched instrs s) (λ i. IsTrue (traps i s)) → after n instrs s ≡ s)
    (is_word : (op : WordOp) (vs : List ℕ) → All IsWord vs → IsWord (value_of op vs))
    (is_loaded : (access : Access) (m : Memory) (a : ℕ) → IsMemory m → IsWord (loaded access m a))
    (is_stored : (access : Access) (m : Memory) (a v : ℕ) → IsMemory m → IsWord a → IsWord v → IsMemory (stored access m a v))
    (p : ProcTree) (listings : List (List Instr)) (are : AreDone p listings) where
  abbrev vars : List InputReg
  vars = p.vars

  abbrev blocks : List BlockTree
  blocks = p.blocks

  abbrev words : List Instr
  words = linked blocks listings

  before_low : (i : ℕ) → words_before listings i ≤ 12352
  before_low i =
      let e = few_before listings i (few_of p blocks listings are.listings_are) in
      let long = AllZip-long (Does p) blocks listings are.listings_are in
      let few = are.few in
      omega (arith, e, long, few)

  place_low : (t : Target) → place_of_target listings t ≤ 12352
  place_low (Block i) = before_low i
  place_low Done = before_low (length listings)

  block_is : (i : ℕ) (b : BlockTree) → slice_get blocks i ≡ Some b → IsProcBlock vars (length blocks) b
  block_is i b e = subst (IsProcBlock vars (length blocks)) (get_or_from_slice_get blocks i b b e) (are.blocks_are i b (slice_get_within blocks i b e))

  module _ (s : BlockState) (i : ℕ) (at : s.at ≡ Block i) (b : BlockTree) (there : slice_get blocks i ≡ Some b)
      (is : List Instr) (listed : slice_get listings i ≡ Some is) (listing : Does p b is)
      (m : MachineState) (shows : ShowsAt p listings s m) where
    abbrev w : World
    w = record { registers = m.registers; memory_at_entry = m.memory; declared = λ name vs. 0 }

    is_world : IsWorld w
    is_world = record {
      registers = shows.state.registers;
      each = shows.state.words;
      zero_register = shows.state.zero_register;
      memory_is = shows.state.memory;
      declared = λ name vs. omega arith;
    }

    abbrev from : ℕ
    from = words_before listings i

    abbrev other : ℕ
    other = place_of_target listings (other_of b)

    abbrev count : ℕ
    count = length is

    abbrev final : MachineState
    final = after count is (entry_state w)

    begins : m ≡ moved from (entry_state w)
    begins =
        let p = shows.pc in
        let e : m.pc ≡ 0 + 4 * from = p ∙ ap (λ t. 4 * place_of_target listings t) at ∙ omega arith in
        λ j. record { registers = m.registers; memory = m.memory; pc = e j }

    final_state : IsState final
    final_state = all_keep is_word is_loaded is_stored count is (entry_state w) listing.well_formed (record {
      registers = shows.state.registers;
      words = shows.state.words;
      zero_register = shows.state.zero_register;
      memory = shows.state.memory;
      pc = omega arith;
    })

    from_low : from ≤ 12352
    from_low = before_low i

    block_fact : IsProcBlock vars (length blocks) b
    block_fact = block_is i b there

    -- ---- values

    val : (t : TargetTree) → IsSet vars t → goal_value [] w t.value ≡ value_now vars s t.value
    val t h = sym (value_same vars are.low s w shows.words_are shows.memory_is t.value h.value.operators)

    left_same : left_in w b ≡ guard_is_zero vars b s
    left_same = by b.when block_fact.when
      where
        by : (o : Option WhenTree) → IfSome o (IsGuard vars (length blocks)) → option_map_or (λ (k : WhenTree). is_zero (goal_value [] w k.guard)) o false ≡ option_map_or (λ (k : WhenTree). is_zero (value_now vars s k.guard)) o false
        by None h = refl
        by (Some k) h = ap is_zero (sym (value_same vars are.low s w shows.words_are shows.memory_is k.guard h.guard.operators))

    pick_word : (o : Option TargetTree) (x y : ℕ) → IfSome o (IsSet vars) → x ≡ y → as_word (option_map_or (λ (t : TargetTree). goal_value [] w t.value) o (word x)) ≡ option_map_or (λ (t : TargetTree). as_word (value_now vars s t.value)) o y
    pick_word None x y h e = e
    pick_word (Some t) x y h e = ap as_word (val t h)

    pick_memory : (o : Option TargetTree) (x y : Memory) → IfSome o (IsSet vars) → x ≡ y → as_memory (option_map_or (λ (t : TargetTree). goal_value [] w t.value) o (memory x)) ≡ option_map_or (λ (t : TargetTree). as_memory (value_now vars s t.value)) o y
    pick_memory None x y h e = e
    pick_memory (Some t) x y h e = ap as_memory (val t h)

    -- ---- the two ways

    stepped_block : block_step p s ≡ through vars b s
    stepped_block = ap (λ t. step_from p t s) at ∙ ap (λ o. through_at vars o s) there

    -- the state behind a block's words
    abbrev behind : Target → MachineState
    behind t = record { registers = final.registers; memory = final.memory; pc = 4 * place_of_target listings t }

    behind_state : (t : Target) → IsState (behind t)
    behind_state t =
        let p = place_low t in
        record {
          registers = final_state.registers;
          words = final_state.words;
          zero_register = final_state.zero_register;
          memory = final_state.memory;
          pc = omega (arith, p);
        }

    closing : after count words m ≡ moved from final → final.pc ≡ 4 * count → after (suc count) words m ≡ behind b.go
    closing reached pc =
        let few = listing.few in
        let low = from_low in
        let to_low = place_low b.go in
        let place : (final.pc + 4 * from) / 4 ≡ from + count = omega (arith, pc) in
        let at_place : next_pc (final.pc + 4 * from) ≡ 4 * (from + count) + 4 = omega (arith, pc, few, low) in
        let disp = displacement_between (from + count) (place_of_target listings b.go) in
        last count words m ∙ ap (stepped words) reached
        ∙ steps words (moved from final) (Beq 31 disp) (ap (slice_get words) place ∙ closes blocks listings i b is there listed) refl
        ∙ leaves 31 disp (moved from final) final_state.zero_register
        ∙ ap (λ p. record { registers = final.registers; memory = final.memory; pc = p })
        (ap (λ x. address x 4 disp) at_place ∙ branch_leads (from + count) (place_of_target listings b.go) (omega (arith, few, low)) (omega (arith, to_low)))

    -- the block machine's state behind the block, on each way
    abbrev left : BlockState
    left = record { words = s.words; memory = s.memory; at = other_of b }

    abbrev fallen : BlockState
    fallen = record { words = new_word vars b s; memory = new_state_memory vars b s; at = b.go }

    through_is : (k : Bool) → guard_is_zero vars b s ≡ k → through vars b s ≡ (if k then left else fallen)
    through_is k h = ap (λ k. if k then left else fallen) h

    fall_case : guard_is_zero vars b s ≡ false → LeadsOn p listings m 193 (through vars b s)
    fall_case h =
        let few = listing.few in
        let low = from_low in
        let to_low = place_low (other_of b) in
        let f = listing.falls w is_world (left_same ∙ h) in
        let reached : after count words m ≡ moved from final =
        ap (after count words) begins
        ∙ falls_there last sums stays steps trapped is (omega (arith, few)) listing.stand words from other (omega (arith, low)) (omega (arith, to_low))
        (stands blocks listings i b is there listed) (entry_state w) refl f.ends in
        let e : after (suc count) words m ≡ behind b.go = closing reached f.ends in
        subst (LeadsOn p listings m 193) {x = fallen} (sym (through_is false h))
        (record {
          steps = suc count;
          few = omega (arith, few);
          shows = subst (ShowsAt p listings fallen) (sym e) (record {
            state = behind_state b.go;
            pc = refl;
            words_are = λ v has.
                ap as_word (f.words_are v has)
                ∙ pick_word (find (sets_name v.name) b.sets) (slice_index w.registers v.reg) (s.words v.name) (found_is (IsSet vars) (sets_name v.name) b.sets block_fact.sets) (shows.words_are v has);
            memory_is =
                ap as_memory f.memory_is
                ∙ pick_memory (find (sets_name (codes "M")) b.sets) w.memory_at_entry s.memory (found_is (IsSet vars) (sets_name (codes "M")) b.sets block_fact.sets) shows.memory_is;
          });
          others = λ r no_pool outside. ap (λ m. slice_index m.registers r) e ∙ f.others r no_pool outside;
        })

    exit_case : guard_is_zero vars b s ≡ true → LeadsOn p listings m 193 (through vars b s)
    exit_case h =
        let few = listing.few in
        let low = from_low in
        let to_low = place_low (other_of b) in
        let f = listing.leaves w is_world (left_same ∙ h) in
        let k = leaves_there last sums stays steps trapped is (omega (arith, few)) listing.stand words from other (omega (arith, low)) (omega (arith, to_low))
        (stands blocks listings i b is there listed) (entry_state w) refl f.ends in
        let few_steps = k.few_steps in
        let e : after k.steps words m ≡ behind (other_of b) = ap (after k.steps words) begins ∙ k.state in
        subst (LeadsOn p listings m 193) {x = left} (sym (through_is true h))
        (record {
          steps = k.steps;
          few = omega (arith, few, few_steps);
          shows = subst (ShowsAt p listings left) (sym e) (record {
            state = behind_state (other_of b);
            pc = refl;
            words_are = λ v has. f.words_are v has ∙ shows.words_are v has;
            memory_is = f.memory_is ∙ shows.memory_is;
          });
          others = λ r no_pool outside. ap (λ m. slice_index m.registers r) e ∙ f.others r no_pool outside;
        })

    by_guard : (left : Bool) → guard_is_zero vars b s ≡ left → LeadsOn p listings m 193 (through vars b s)
    by_guard true h = exit_case h
    by_guard false h = fall_case h

    pub one_block : LeadsOn p listings m 193 (block_step p s)
    one_block = subst (LeadsOn p listings m 193) (sym stepped_block) (by_guard (guard_is_zero vars b s) refl)

  by_target : (s : BlockState) (m : MachineState) (t : Target) → s.at ≡ t → IsProcTarget (length blocks) t → ShowsAt p listings s m → LeadsOn p listings m 193 (block_step p s)
  by_target s m Done e is shows =
      subst (LeadsOn p listings m 193) (sym (ap (λ t. step_from p t s) e)) (record { steps = 0; few = omega arith; shows = shows; others = λ r no_pool outside. refl })
  by_target s m (Block i) e is shows = elim ((slice_get_cases blocks i).1) [
    | inl a ↦ (let l = listed_at p blocks listings are.listings_are i a.0 a.2 in one_block s i e a.0 a.2 l.instrs l.there l.listing m shows)
    | inr out ↦ absurd (let o = out.0 in omega (arith, o, is))
  ]

  pub one_step : (s : BlockState) (m : MachineState) → IsProcTarget (length blocks) s.at → ShowsAt p listings s m → LeadsOn p listings m 193 (block_step p s)
  one_step s m is shows = by_target s m s.at refl is shows

  -- ---- all steps

  abbrev after_block : BlockTree → BlockState → Bool → BlockState
  after_block b s left = if left then record { words = s.words; memory = s.memory; at = other_of b } else record { words = new_word vars b s; memory = new_state_memory vars b s; at = b.go }

  target_by : (b : BlockTree) (s : BlockState) → IsProcBlock vars (length blocks) b → (left : Bool) → IsProcTarget (length blocks) (after_block b s left).at
  target_by b s fact true = other_there vars (length blocks) b fact
  target_by b s fact false = fact.go

  through_target : (b : BlockTree) (s : BlockState) → IsProcBlock vars (length blocks) b → IsProcTarget (length blocks) (through vars b s).at
  through_target b s fact = target_by b s fact (guard_is_zero vars b s)

  pub next_target : (s : BlockState) (t : Target) → s.at ≡ t → IsProcTarget (length blocks) t → IsProcTarget (length blocks) (step_from p t s).at
  next_target s Done e is = subst (IsProcTarget (length blocks)) (sym e) is
  next_target s (Block i) e is = elim ((slice_get_cases blocks i).1) [
    | inl a ↦ subst (λ (o : Option BlockTree). IsProcTarget (length blocks) (through_at vars o s).at) (sym a.2) (through_target a.0 s (block_is i a.0 a.2))
    | inr out ↦ absurd (let o = out.0 in omega (arith, o, is))
  ]

  pub all_steps : (n : ℕ) (s : BlockState) (m : MachineState) → IsProcTarget (length blocks) s.at → ShowsAt p listings s m → LeadsOn p listings m (193 * n) (block_steps n p s)
  all_steps zero s m is shows = record { steps = 0; few = omega arith; shows = shows; others = λ r no_pool outside. refl }
  all_steps (suc n) s m is shows =
      let one = one_step s m is shows in
      let rest = all_steps n (block_step p s) (after one.steps words m) (next_target s s.at refl is) one.shows in
      let few = one.few in
      let few_rest = rest.few in
      record {
        steps = one.steps + rest.steps;
        few = omega (arith, few, few_rest);
        shows = subst (ShowsAt p listings (block_steps n p (block_step p s))) (sym (sums one.steps rest.steps words m)) rest.shows;
        others = λ r no_pool outside.
            ap (λ m. slice_index m.registers r) (sums one.steps rest.steps words m) ∙ rest.others r no_pool outside ∙ one.others r no_pool outside;
      }
