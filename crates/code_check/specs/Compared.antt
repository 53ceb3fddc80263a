-- Classes of terms that are looked up after the rounds, and what a comparison of two of them says.
-- Source: this project.
use Rattle.std.specs.Prelude.{◌≡◌, ℕ, ◌<◌, ◌≤◌, ◌==◌, Bool, true, false, List, [], ◌∷◌, length, map, slice_get, slice_index, slice_index_or, Option, Some, None, IfSome, MatchOption, Contains}
use Rattle.word_ops.specs.declared.sorts.Op.{Op}
use Rattle.word_terms.specs.Keys.{op_signature}
use Rattle.word_terms.specs.Tree.{Tree}
use Rattle.egraph.specs.Graph.{Graph, IsGraph}
use Rattle.graph_meaning.specs.Multiples.{IsMultiple}
use Rattle.pattern_match.specs.Classes.{IsClass}
use Rattle.alpha_encode.specs.Decoded.{decoded}
use Rattle.alpha_encode.specs.declared.instructions.Instr.{Instr}
use Rattle.alpha_encode.specs.declared.instructions.Instr.TheVariants.{Beq}
use Rattle.goal_meaning.specs.Outcomes.{is_memory}
use Rattle.goal_meaning.specs.Views.{TargetTree}
use Rattle.goal_meaning.specs.declared.goals.InputReg.{InputReg}
use Rattle.code_check.specs.Same.{HasMultiple, HaveSameClass, IsAligned, IsAsAtEntry, IsBranchAt, rows_of, terms_at_end}
use Rattle.code_check.specs.Terms.{TermState, alignment, place_term, term_step, terms_after, terms_at_entry}
use Rattle.code_check.specs.declared.branches.Branch.{Branch}
use Rattle.code_check.specs.declared.codes.At.{At}

-- ---- classes

-- the class that the term has, or that it has none
abbrev pub FindsClass : Graph Op → Tree Op → Option ℕ → Type 0
FindsClass g t found = MatchOption found ((c : ℕ) → ¬ IsClass g [] t c) (IsClass g [] t)

-- the class was made, and the one that it is in at present is the term's
pub record IsPresentClass (g : Graph Op) (c : ℕ) (t : Tree Op) : Type 0 where
  pub made : c < length g.current
  pub is : IsClass g [] t (slice_index g.current c)

-- a register that wasn't written has no class, and its term is the one at entry
abbrev pub IsPresentRegister : Graph Op → Option ℕ → Tree Op → Tree Op → Type 0
IsPresentRegister g None t entry = t ≡ entry
IsPresentRegister g (Some c) t entry = IsPresentClass g c t

-- the classes, read as they are at present, are those of the terms
pub record ArePresentClasses (g : Graph Op) (classes : List (Option ℕ)) (memory : ℕ) (ts : TermState) : Type 0 where
  pub graph : IsGraph op_signature g
  pub count : length classes ≡ 32
  pub registers :
      (r : ℕ) →
      r < 32 →
      IsPresentRegister g (slice_index_or classes r None) (ts.registers r) (terms_at_entry.registers r)
  pub memory_is : IsPresentClass g memory ts.memory

-- some terms have these classes
abbrev pub ArePresentClassesOfSome : Graph Op → List (Option ℕ) → ℕ → Type 0
ArePresentClassesOfSome g classes memory = (ts : TermState) × ArePresentClasses g classes memory ts

-- ---- addresses

-- the class of the instruction's address, read as it is at present; one that never traps may have none
abbrev pub IsPresentAddress : Graph Op → Instr → TermState → Option ℕ → Type 0
IsPresentAddress g i ts None = alignment i ≡ None
IsPresentAddress g i ts (Some c) = IsPresentClass g c (place_term i ts)

-- one for each instruction
abbrev pub ArePresentAddresses : Graph Op → List Instr → TermState → List (Option ℕ) → Type 0
ArePresentAddresses g [] ts [] = Unit {0}
ArePresentAddresses g (i ∷ is) ts (a ∷ addresses) =
    IsPresentAddress g i ts a × ArePresentAddresses g is (term_step i ts) addresses
ArePresentAddresses g _ ts _ = ⊥

-- the alignment of what a word is
abbrev pub alignment_of : Option Instr → Option ℕ
alignment_of None = None
alignment_of (Some i) = alignment i

-- by class, the greatest power of 2 that the rows show
abbrev pub AreMultiples : Graph Op → List ℕ → Type 0
AreMultiples g powers =
    (length powers ≡ length g.current)
    × ((class : ℕ) → class < length powers → IsMultiple (rows_of g) class (slice_index powers class))

-- whether the instruction may trap and its address isn't shown to be the multiple that it must be
abbrev pub TellsTrap : Graph Op → Instr → TermState → Bool → Type 0
TellsTrap g i ts true = ¬ HasMultiple g i ts
TellsTrap g i ts false = HasMultiple g i ts

-- the instructions before place n are aligned
abbrev pub AreAlignedBelow : Graph Op → List Instr → ℕ → Type 0
AreAlignedBelow g instrs n = (at : ℕ) → at < n → IsAligned g instrs at

-- the first instruction that isn't aligned, or that all are
abbrev pub IsFirstTrap : Graph Op → List Instr → Option ℕ → Type 0
IsFirstTrap g instrs found =
    MatchOption found (AreAlignedBelow g instrs (length instrs)) (λ at. (¬ IsAligned g instrs at) × (at < length instrs) × AreAlignedBelow g instrs at)

-- ---- the branch of a code

-- the register that a branch tests
abbrev pub branch_of : Option Instr → Option ℕ
branch_of (Some (Beq ra disp)) = Some ra
branch_of _ = None

-- the instructions have no branch, or this is one
abbrev pub IsBranchOf : List Instr → Option Branch → Type 0
IsBranchOf instrs None = (at ra : ℕ) → ¬ IsBranchAt instrs at ra
IsBranchOf instrs (Some b) = IsBranchAt instrs b.at b.register

-- the terms at the branch, or at the end
abbrev pub terms_at_branch : Option Branch → List Instr → TermState
terms_at_branch None instrs = terms_at_end instrs
terms_at_branch (Some b) instrs = terms_after b.at instrs

-- so many words stand before the branch, or there is none among all
abbrev pub before_branch : List ℕ → Option Branch → ℕ
before_branch words None = length words
before_branch words (Some b) = b.at

-- the branch of words, which are the instructions' words
pub record IsBranchOfWords (words : List ℕ) (branch : Option Branch) : Type 0 where
  pub within : before_branch words branch ≤ length words
  pub low : IfSome branch (λ (b : Branch). b.register < 32)
  pub of_code : (instrs : List Instr) → map decoded words ≡ map Some instrs → IsBranchOf instrs branch

-- ---- parts

-- both terms have a class, and one
abbrev pub are_one : Option ℕ → Option ℕ → Bool
are_one (Some c) (Some d) = c == d
are_one _ _ = false

-- guard and branch are of one class, or both are missing
abbrev pub IsSameBranch : Graph Op → Option (Tree Op) → Option Branch → TermState → Type 0
IsSameBranch g None None ts = Unit {0}
IsSameBranch g None (Some b) ts = ⊥
IsSameBranch g (Some guard) None ts = ⊥
IsSameBranch g (Some guard) (Some b) ts = HaveSameClass g (ts.registers b.register) guard

-- where there is a branch, memory and input registers are as at entry
abbrev pub IsSameLeaving : Graph Op → List InputReg → Option Branch → TermState → Type 0
IsSameLeaving g inputs None ts = Unit {0}
IsSameLeaving g inputs (Some b) ts = IsAsAtEntry g inputs ts

-- the register that is named for target i, or that none is
abbrev pub IsFoundPlace : List At → ℕ → Option ℕ → Type 0
IsFoundPlace places i found =
    MatchOption found ((reg : ℕ) → ¬ Contains places (record { set = i; reg = reg }))
    (λ reg. Contains places (record { set = i; reg = reg }))

-- the registers that are named for target i have the class of its term
abbrev pub IsSameTarget : Graph Op → List At → TargetTree → TermState → ℕ → Type 0
IsSameTarget g places t ts i =
    (reg : ℕ) → Contains places (record { set = i; reg = reg }) → HaveSameClass g (ts.registers reg) t.value

-- whether target i is memory or the same
abbrev pub TellsTarget : Graph Op → List At → TargetTree → TermState → ℕ → Bool → Type 0
TellsTarget g places t ts i true = is_memory t ≡ false → IsSameTarget g places t ts i
TellsTarget g places t ts i false = (is_memory t ≡ false) × ¬ IsSameTarget g places t ts i

-- the targets below i that are words are the same
abbrev pub AreSameBelow : Graph Op → List At → List TargetTree → TermState → ℕ → Type 0
AreSameBelow g places sets ts i =
    (j : ℕ) (t : TargetTree) →
    j < i →
    slice_get sets j ≡ Some t →
    is_memory t ≡ false →
    IsSameTarget g places t ts j

-- target i is a word, and isn't the same
pub record IsDifferentTarget (g : Graph Op) (places : List At) (sets : List TargetTree) (ts : TermState) (i : ℕ) : Type 0 where
  pub target : TargetTree
  pub there : slice_get sets i ≡ Some target
  pub is_word : is_memory target ≡ false
  pub differs : ¬ IsSameTarget g places target ts i

-- the first word target that isn't the same, or that all are
abbrev pub IsFirstDifferentTarget : Graph Op → List At → List TargetTree → TermState → Option ℕ → Type 0
IsFirstDifferentTarget g places sets ts found =
    MatchOption found (AreSameBelow g places sets ts (length sets))
    (λ i. IsDifferentTarget g places sets ts i × AreSameBelow g places sets ts i)
