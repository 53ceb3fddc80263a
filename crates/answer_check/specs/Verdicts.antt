-- What is tested of a claim, test by test, and which verdict a claimed goal has. Source: this project.
use Rattle.std.specs.Prelude.{ℕ, ◌≡◌, List, length, map, Some, IfSome, IsSomeAnd, IsTrue, is_some}
use Rattle.alpha_encode.specs.Formats.{encoded}
use Rattle.answer_texts.specs.AnswerLines.{refuted_below, refuted_cycles}
use Rattle.answer_texts.specs.declared.answers.Claim.{Claim}
use Rattle.answer_texts.specs.declared.answers.Claim.TheVariants.{NoWorld, Scheduled, SpentConflicts, SpentSize}
use Rattle.answer_texts.specs.declared.answers.Claimed.{Claimed}
use Rattle.cnf_core.specs.Formula.{Formula}
use Rattle.cnf_core.specs.Refutation.{Refutes, AreLemmas, IsFirstRefusal, IsEmptyOnlyLast, IsFilled}
use Rattle.cnf_core.specs.declared.line.Lines.{Lines}
use Rattle.cycle_encoding.specs.Allocations.{allocation_of}
use Rattle.cycle_encoding.specs.Plans.{IsTooLarge, PassesLimit}
use Rattle.cycle_encoding.specs.declared.encodings.Encoding.{Encoding}
use Rattle.graph_meaning.specs.declared.graphs.LaunchGraph.{LaunchGraph}
use Rattle.machine_table.specs.declared.tables.Table.{Table}
use Rattle.order_encoding.specs.WholeFormula.{AreFormulas}
use Rattle.register_assign.specs.Assigned.{IsTheListing}
use Rattle.register_assign.specs.declared.listings.Item.{Item}
use Rattle.register_assign.specs.declared.listings.Where.{Where}
use Rattle.schedule_meaning.specs.Broken.{IsFirstBroken}
use Rattle.schedule_meaning.specs.Fits.{Fits}
use Rattle.schedule_meaning.specs.declared.schedules.Allocation.{Allocation}
use Rattle.schedule_meaning.specs.declared.schedules.Launch.{Launch}
use Rattle.answer_check.specs.declared.verdicts.Verdict.{Verdict}
use Rattle.answer_check.specs.declared.verdicts.Verdict.TheVariants.{Holds, Seen, Broken, Listing, Size, Refutation, Lemmas}

-- these are the words and the places of the launches' listing
pub record HasListing (g : LaunchGraph) (table : Table) (a : Allocation) (ls : List Launch) (words : List ℕ)
    (places : List Where) : Type 0 where
  pub items : List Item
  pub listing : IsTheListing g table a ls items places
  pub words_are : words ≡ map (λ i. encoded i.instr) items

-- ---- the tests, in their order; each holds of the claims that it doesn't concern

module _ (table : Table) (a : Allocation) (g : LaunchGraph) where
  abbrev pub IsFitting : Claim → Type 0
  IsFitting (Scheduled k schedule words places) = Fits g table a k schedule.launches
  IsFitting claim = Unit {0}

  abbrev pub IsListed : Claim → Type 0
  IsListed (Scheduled k schedule words places) = HasListing g table a schedule.launches words places
  IsListed claim = Unit {0}

  -- the first launch that breaks the least broken rule
  abbrev pub IsBroken : Claim → ℕ → ℕ → Type 0
  IsBroken (Scheduled k schedule words places) launch rule = IsFirstBroken g table a k schedule.launches launch rule
  IsBroken claim launch rule = ⊥

-- the clauses for each number of cycles
module _ (clauses_for : ℕ → Formula) where
  -- the clauses that lines are to refute are within the limits
  abbrev pub IsWithinBelow : Claimed → Type 0
  IsWithinBelow c = IsTrue (is_some c.refute) → ¬ IsTooLarge (clauses_for (refuted_cycles c.claim))

  -- the clauses of lemmas are within the limits; and printed counts are the true ones, and one of them passes its limit
  abbrev pub HasRightSize : Claim → Type 0
  HasRightSize (SpentConflicts k lemmas) = ¬ IsTooLarge (clauses_for k)
  HasRightSize (SpentSize k vars clauses) = PassesLimit (clauses_for k) vars clauses
  HasRightSize claim = Unit {0}

  abbrev pub HasRefutingLines : Claimed → Type 0
  HasRefutingLines c = IfSome c.refute (λ (l : Lines). Refutes (clauses_for (refuted_cycles c.claim)) l.lines)

  abbrev pub HasLemmas : Claim → Type 0
  HasLemmas (SpentConflicts k lemmas) = AreLemmas (clauses_for k) lemmas.lines
  HasLemmas claim = Unit {0}

  -- ---- how these fail

  -- The true counts of clauses whose size is wrong: of those that lines are to refute; or, where these are within the
  -- limits, of those that the claim itself speaks of.
  pub data HasWrongSize (c : Claimed) (vars clauses : ℕ) : Type 0 where
    below : IsTrue (is_some c.refute) → PassesLimit (clauses_for (refuted_cycles c.claim)) vars clauses
        → HasWrongSize c vars clauses
    own : IsWithinBelow c → ¬ HasRightSize c.claim → vars ≡ (clauses_for (refuted_below c.claim)).vars
        → clauses ≡ length (clauses_for (refuted_below c.claim)).clauses → HasWrongSize c vars clauses

  -- the first line for k cycles that is refused as one of a refutation, and its least reason
  abbrev pub IsRefusedBelow : Claimed → ℕ → ℕ → ℕ → Type 0
  IsRefusedBelow c k line why =
      (k ≡ refuted_cycles c.claim)
      × IsSomeAnd c.refute (λ (l : Lines).
      IsFirstRefusal (IsEmptyOnlyLast l.lines) (clauses_for (refuted_cycles c.claim)) l.lines line why)

  -- the first line for k cycles that is refused as one of lemmas, and its least reason
  abbrev pub HasRefusedLemma : Claim → ℕ → ℕ → ℕ → Type 0
  HasRefusedLemma (SpentConflicts n lemmas) k line why =
      (k ≡ n) × IsFirstRefusal IsFilled (clauses_for n) lemmas.lines line why
  HasRefusedLemma claim k line why = ⊥

-- ---- the first test that fails, and how; or that all hold

module _ (table : Table) (a : Allocation) (g : LaunchGraph) (clauses_for : ℕ → Formula) where
  abbrev pub IsOutcome : Claimed → Verdict → Type 0
  IsOutcome c Seen = ⊥
  IsOutcome c (Broken launch rule) = IsBroken table a g c.claim launch rule
  IsOutcome c Listing = IsFitting table a g c.claim × (¬ IsListed table a g c.claim)
  IsOutcome c (Size vars clauses) =
      IsFitting table a g c.claim × IsListed table a g c.claim × HasWrongSize clauses_for c vars clauses
  IsOutcome c (Refutation k line why) =
      IsFitting table a g c.claim × IsListed table a g c.claim × IsWithinBelow clauses_for c
      × HasRightSize clauses_for c.claim × IsRefusedBelow clauses_for c k line why
  IsOutcome c (Lemmas k line why) =
      IsFitting table a g c.claim × IsListed table a g c.claim × IsWithinBelow clauses_for c
      × HasRightSize clauses_for c.claim × HasRefutingLines clauses_for c
      × HasRefusedLemma clauses_for c.claim k line why
  IsOutcome c Holds =
      IsFitting table a g c.claim × IsListed table a g c.claim × IsWithinBelow clauses_for c
      × HasRightSize clauses_for c.claim × HasRefutingLines clauses_for c × HasLemmas clauses_for c.claim

-- The verdict on a claimed goal: one without a world is seen and isn't tested, each other one is tested by the
-- encoding's allocation and its clauses, built from the graph and the table alone.
pub data IsVerdict (e : Encoding) (table : Table) (c : Claimed) (v : Verdict) : Type 0 where
  seen : {class a b : ℕ} → c.claim ≡ NoWorld class a b → v ≡ Seen → IsVerdict e table c v
  tested : {g : LaunchGraph} {clauses_for : ℕ → Formula} → c.graph ≡ Some g → AreFormulas e g table clauses_for
      → IsOutcome table (allocation_of e) g clauses_for c v → IsVerdict e table c v
