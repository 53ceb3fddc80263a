-- What listings of blocks do, and when words that are run follow the block machine.
-- Source: this project, over Denali (PLDI 2002).
use Rattle.std.specs.Prelude.{◌≡◌, ℕ, ◌*◌, ◌≤◌, List, length, map, slice_index, bytes_eq, find, Some, All, Contains}
use Rattle.std.specs.List.{AllZip}
use Rattle.std.specs.Option.{option_map_or}
use Rattle.schedule_meaning.specs.Limits.{most_launches}
use Rattle.alpha_encode.specs.Decoded.{decoded}
use Rattle.alpha_encode.specs.declared.instructions.Instr.{Instr}
use Rattle.alpha_machine.specs.States.{MachineState, IsState}
use Rattle.alpha_machine.specs.Runs.{after}
use Rattle.denali_run.specs.GoalOutcomes.{Computes}
use Rattle.goal_meaning.specs.WellFormed.{input_registers}
use Rattle.goal_meaning.specs.declared.goals.InputReg.{InputReg}
use Rattle.proc_goal.specs.Goals.{goal_of_block, input_of_proc}
use Rattle.proc_goal.specs.Views.{BlockTree, ProcTree}
use Rattle.proc_goal.specs.WellFormed.{IsProcTarget}
use Rattle.proc_goal.specs.declared.procs.Target.{Target}
use Rattle.proc_goal.specs.declared.procs.Target.TheVariants.{Block, Done}
use Rattle.register_assign.specs.Assigned.{HaveWords, MayRun}
use Rattle.register_assign.specs.Outcomes.{AreWordsOf}
use Rattle.register_assign.specs.declared.listings.Listing.{Listing}
use Rattle.proc_link.specs.Blocks.{BlockState, block_step, block_steps}

-- the listing's words compute the goal of the block, and may be run; there are at most eight for each of 24 cycles
pub record IsListingOfBlock (p : ProcTree) (b : BlockTree) (l : Listing) : Type 0 where
  pub words : List ℕ
  pub are_words : AreWordsOf l.items words
  pub have_words : HaveWords l.items
  pub may_run : MayRun l.items
  pub few : length l.items ≤ most_launches
  pub computes : Computes (input_of_proc p) (goal_of_block p b) l.items words l.wheres

-- one listing for each block, in order
abbrev pub AreListings : ProcTree → List Listing → Type 0
AreListings p listings = AllZip (IsListingOfBlock p) p.blocks listings

-- the address of a block's first word, or the end
abbrev pub address_of : List ℕ → ℕ → Target → ℕ
address_of starts end (Block i) = slice_index starts i
address_of starts end Done = end

-- the machine stands at the first word of the block that comes next, or at the end; each variable's register has its
-- word, and the memory is the same
pub record ShowsBlockState (p : ProcTree) (starts : List ℕ) (end : ℕ) (s : BlockState) (m : MachineState) : Type 0 where
  pub state : IsState m
  pub pc : m.pc ≡ address_of starts end s.at
  pub words : All (λ (v : InputReg). slice_index m.registers v.reg ≡ s.words v.name) p.vars
  pub memory_is : m.memory ≡ s.memory

-- each register that is neither in the proc's pool nor a variable's has the word in the new state that it had in the old
abbrev pub KeepsOutsideRegisters : ProcTree → MachineState → MachineState → Type 0
KeepsOutsideRegisters p old new =
    (r : ℕ) → ¬ Contains p.pool r → ¬ Contains (input_registers p.vars) r
    → slice_index new.registers r ≡ slice_index old.registers r

-- some number of steps, at most so many, leads to a state that shows this one, and all other registers have their words
pub record ComesTo (p : ProcTree) (starts : List ℕ) (end : ℕ) (instrs : List Instr) (m : MachineState) (most : ℕ)
    (s : BlockState) : Type 0 where
  pub steps : ℕ
  pub few : steps ≤ most
  pub shows : ShowsBlockState p starts end s (after steps instrs m)
  pub others : KeepsOutsideRegisters p m (after steps instrs m)

-- where the block machine begins: at the first block, each variable with the word of its register
abbrev pub begun : ProcTree → MachineState → BlockState
begun p m = record {
  words = λ name. option_map_or (λ (v : InputReg). slice_index m.registers v.reg)
      (find (λ (v : InputReg). bytes_eq v.name name) p.vars) 0;
  memory = m.memory;
  at = Block 0;
}

-- From any registers and memory with pc 0, and for each n, the words come in at most 193 n steps to where the block
-- machine is after n steps: variables, memory, and the block or the end. And from wherever they show a state of the block
-- machine they come in at most 193 steps to the next. Registers outside of the pool and the variables keep their words on
-- both ways.
pub record FollowBlocks (p : ProcTree) (words starts : List ℕ) : Type 0 where
  pub instrs : List Instr
  pub decode : map decoded words ≡ map Some instrs
  pub follow :
      (n : ℕ) (m : MachineState) → IsState m → m.pc ≡ 0
      → ComesTo p starts (4 * length words) instrs m (193 * n) (block_steps n p (begun p m))
  pub step :
      (s : BlockState) (m : MachineState) → IsProcTarget (length p.blocks) s.at
      → ShowsBlockState p starts (4 * length words) s m
      → ComesTo p starts (4 * length words) instrs m 193 (block_step p s)
