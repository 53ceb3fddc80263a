-- What holds of a claimed goal whose tests all hold, whoever wrote it. Source: this project.
use Rattle.std.specs.Prelude.{ℕ, ◌≡◌, ◌+◌, ◌<◌, List, Some}
use Rattle.answer_texts.specs.declared.answers.Claim.{Claim}
use Rattle.answer_texts.specs.declared.answers.Claim.TheVariants.{NoWorld, Scheduled, Missing, SpentConflicts, SpentSize}
use Rattle.answer_texts.specs.declared.answers.Claimed.{Claimed}
use Rattle.cnf_core.specs.Formula.{Formula}
use Rattle.cnf_core.specs.Refutation.{AreLemmas}
use Rattle.cycle_encoding.specs.Allocations.{allocation_of}
use Rattle.cycle_encoding.specs.Plans.{PassesLimit}
use Rattle.cycle_encoding.specs.declared.encodings.Encoding.{Encoding}
use Rattle.graph_meaning.specs.declared.graphs.LaunchGraph.{LaunchGraph}
use Rattle.machine_table.specs.declared.tables.Table.{Table}
use Rattle.order_encoding.specs.WholeFormula.{AreFormulas}
use Rattle.register_assign.specs.Assigned.{IsTheListing, KeepsWord}
use Rattle.register_assign.specs.Outcomes.{AreWordsOf}
use Rattle.register_assign.specs.declared.listings.Item.{Item}
use Rattle.register_assign.specs.declared.listings.Where.{Where}
use Rattle.schedule_meaning.specs.Fits.{Fits}
use Rattle.schedule_meaning.specs.declared.schedules.Allocation.{Allocation}
use Rattle.schedule_meaning.specs.declared.schedules.Launch.{Launch}

-- These are the words and places of the launches' listing. Where the graph is proper its instructions keep to the table
-- in k cycles, and the words do what the graph says.
pub record DoesAsListed (table : Table) (a : Allocation) (g : LaunchGraph) (k : ℕ) (ls : List Launch) (words : List ℕ)
    (places : List Where) : Type 0 where
  pub items : List Item
  pub listing : IsTheListing g table a ls items places
  pub words_are : AreWordsOf items words
  pub keeps : KeepsWord g table k items places

abbrev pub DoesAsClaimed : Table → Allocation → LaunchGraph → Claim → Type 0
DoesAsClaimed table a g (Scheduled k schedule words places) = DoesAsListed table a g k schedule.launches words places
DoesAsClaimed table a g claim = Unit {0}

-- no list of launches fits in fewer cycles than k
abbrev pub NoneFitsBelow : Table → Allocation → LaunchGraph → ℕ → Type 0
NoneFitsBelow table a g k = (j : ℕ) (ls : List Launch) → j < k → Fits g table a j ls → ⊥

-- what is claimed of schedules with this allocation is true, by the clauses for each number of cycles
abbrev pub IsTrueClaim : Table → Allocation → LaunchGraph → (ℕ → Formula) → Claim → Type 0
IsTrueClaim table a g clauses_for (NoWorld class x y) = ⊥
IsTrueClaim table a g clauses_for (Scheduled k schedule words places) =
    Fits g table a k schedule.launches × DoesAsListed table a g k schedule.launches words places
    × NoneFitsBelow table a g k
IsTrueClaim table a g clauses_for (Missing k) = NoneFitsBelow table a g (k + 1)
IsTrueClaim table a g clauses_for (SpentConflicts k lemmas) =
    NoneFitsBelow table a g k × AreLemmas (clauses_for k) lemmas.lines
IsTrueClaim table a g clauses_for (SpentSize k vars clauses) =
    NoneFitsBelow table a g k × PassesLimit (clauses_for k) vars clauses

-- what is claimed of the printed graph is true, by the encoding's allocation and clauses
pub record IsSound (e : Encoding) (table : Table) (c : Claimed) : Type 0 where
  pub graph : LaunchGraph
  pub printed : c.graph ≡ Some graph
  pub clauses_for : ℕ → Formula
  pub formulas : AreFormulas e graph table clauses_for
  pub claim : IsTrueClaim table (allocation_of e) graph clauses_for c.claim
