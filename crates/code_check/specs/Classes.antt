-- Classes that stand beside the terms of registers and memory while the terms of words are inserted. No public clause
-- rests on this. Source: this project.
use Rattle.std.specs.Prelude.{◌≡◌, ℕ, ◌+◌, ◌<◌, ◌≤◌, List, [], ◌∷◌, length, slice_index_or, Option, Some, None}
use Rattle.word_ops.specs.Meanings.{sort_of}
use Rattle.word_ops.specs.declared.sorts.Access.{Access}
use Rattle.word_ops.specs.declared.sorts.Op.{Op}
use Rattle.word_ops.specs.declared.sorts.Sort.{Sort}
use Rattle.word_ops.specs.declared.sorts.Sort.TheVariants as sorts
use Rattle.word_terms.specs.Keys.{op_signature}
use Rattle.word_terms.specs.Building.{read_of, written_of}
use Rattle.word_terms.specs.Tree.{Tree}
use Rattle.egraph.specs.Graph.{Graph, IsGraph}
use Rattle.egraph.specs.Sorts.{IsOfSort, KeepsSorts}
use Rattle.pattern_match.specs.Classes.{IsClass}
use Rattle.alpha_encode.specs.declared.instructions.Instr.{Instr}
use Rattle.saturation.specs.Trace.{AreInserted, IsBuilt, IsPut}
use Rattle.code_check.specs.Terms.{TermState, address_at, alignment, place_term, terms_written, term_step, terms_at_entry, unless_zero_register, with_memory, with_term}

-- the term has the class, which is of the sort
pub record HasClassOfSort (g : Graph Op) (sort : Sort) (t : Tree Op) (c : ℕ) : Type 0 where
  pub class : IsClass g [] t c
  pub of_sort : IsOfSort op_signature g c sort

-- a register that wasn't written has no class, and its term is the one at entry
abbrev pub IsRegisterClass : Graph Op → Option ℕ → Tree Op → Tree Op → Type 0
IsRegisterClass g None t entry = t ≡ entry
IsRegisterClass g (Some c) t entry = HasClassOfSort g sorts.Word t c

-- the classes are those of the terms
pub record AreClassesOf (g : Graph Op) (classes : List (Option ℕ)) (memory : ℕ) (ts : TermState) : Type 0 where
  pub graph : IsGraph op_signature g
  pub count : length classes ≡ 32
  pub registers :
      (r : ℕ) →
      r < 32 →
      IsRegisterClass g (slice_index_or classes r None) (ts.registers r) (terms_at_entry.registers r)
  pub memory_is : HasClassOfSort g sorts.Memory ts.memory memory

-- the row is there with this class
pub record IsRowInserted (old : Graph Op) (op : Op) (operands : List ℕ) (c : ℕ) (new : Graph Op) : Type 0 where
  pub is_put : IsPut old op operands c new
  pub of_sort : IsOfSort op_signature new c (sort_of op)
  pub keeps : KeepsSorts op_signature old new
  pub few : length new.current ≤ length old.current + 1

-- the term was inserted, and has this class
pub record IsTermInserted (old : Graph Op) (sort : Sort) (t : Tree Op) (c : ℕ) (new : Graph Op) : Type 0 where
  pub built : IsBuilt [] t old c new
  pub of_sort : IsOfSort op_signature new c sort
  pub keeps : KeepsSorts op_signature old new
  pub graph : IsGraph op_signature new

-- some terms have these classes
abbrev pub AreClassesOfSome : Graph Op → List (Option ℕ) → ℕ → Type 0
AreClassesOfSome g classes memory = (ts : TermState) × AreClassesOf g classes memory ts

-- the class of the instruction's address; one that never traps may have none
abbrev pub IsAddress : Graph Op → Instr → TermState → Option ℕ → Type 0
IsAddress g i ts None = alignment i ≡ None
IsAddress g i ts (Some c) = IsClass g [] (place_term i ts) c

-- the classes of the addresses of instructions, one for each of them
abbrev pub AreAddresses : Graph Op → List Instr → TermState → List (Option ℕ) → Type 0
AreAddresses g [] ts [] = Unit {0}
AreAddresses g (i ∷ is) ts (a ∷ addresses) = IsAddress g i ts a × AreAddresses g is (term_step i ts) addresses
AreAddresses g _ ts _ = ⊥

-- the class of a load's address; a load to register 31 has none
abbrev pub IsLoadAddress : Graph Op → ℕ → Tree Op → Option ℕ → Type 0
IsLoadAddress g r t None = r ≡ 31
IsLoadAddress g r t (Some c) = IsClass g [] t c

-- the memory after a store, with the word of its displacement
abbrev pub stored_at : Access → TermState → ℕ → ℕ → ℕ → Tree Op
stored_at access ts ra rb n = written_of access ts.memory (address_at (ts.registers rb) n) (ts.registers ra)

-- what a load writes was inserted, the classes are those after it, and this is the class of its address
pub record IsLoaded (access : Access) (ra rb n : ℕ) (old : Graph Op) (ts : TermState) (new : Graph Op)
    (classes : List (Option ℕ)) (memory : ℕ) (address : Option ℕ) : Type 0 where
  pub inserted : AreInserted (unless_zero_register ra (read_of access ts.memory (address_at (ts.registers rb) n))) old new
  pub after : AreClassesOf new classes memory (with_term ts ra (read_of access ts.memory (address_at (ts.registers rb) n)))
  pub address_is : IsLoadAddress new ra (address_at (ts.registers rb) n) address

-- the same of a store
pub record IsStored (access : Access) (ra rb n : ℕ) (old : Graph Op) (ts : TermState) (new : Graph Op)
    (classes : List (Option ℕ)) (memory address : ℕ) : Type 0 where
  pub inserted : AreInserted (stored_at access ts ra rb n ∷ []) old new
  pub after : AreClassesOf new classes memory (with_memory ts (stored_at access ts ra rb n))
  pub address_is : IsClass new [] (address_at (ts.registers rb) n) address

-- whatever terms had the classes, those that the instruction writes were inserted, the classes are those after it, and
-- this is the class of its address
pub record IsWritten (i : Instr) (old : Graph Op) (ts : TermState) (new : Graph Op) (classes : List (Option ℕ)) (memory : ℕ)
    (address : Option ℕ) : Type 0 where
  pub inserted : AreInserted (terms_written i ts) old new
  pub after : AreClassesOf new classes memory (term_step i ts)
  pub address_is : IsAddress new i ts address

abbrev pub InsertsWritten : Instr → Graph Op → List (Option ℕ) → ℕ → Graph Op → List (Option ℕ) → ℕ → Option ℕ → Type 0
InsertsWritten i old classes memory new classes_then memory_then address =
    (ts : TermState) → AreClassesOf old classes memory ts → IsWritten i old ts new classes_then memory_then address
