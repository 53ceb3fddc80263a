-- What is tested of the lines behind an answer, and which verdict a goal has by them. Source: this project.
use Rattle.std.specs.Prelude.{◌≡◌, ◌≢◌, ℕ, ◌<◌, ◌≤◌, ◌^◌, List, length, Option, Some, is_some, IfSome, IsTrue}
use Rattle.std.specs.List.{AllZip}
use Rattle.answer_check.specs.Soundness.{IsSound}
use Rattle.answer_check.specs.Verdicts.{IsVerdict}
use Rattle.answer_check.specs.declared.verdicts.Verdict.{Verdict}
use Rattle.answer_check.specs.declared.verdicts.Verdict.TheVariants.{Holds}
use Rattle.answer_texts.specs.declared.answers.Claim.{Claim}
use Rattle.answer_texts.specs.declared.answers.Claim.TheVariants.{Scheduled}
use Rattle.answer_texts.specs.declared.answers.Claimed.{Claimed}
use Rattle.cnf_core.specs.Formula.{Formula}
use Rattle.cnf_core.specs.Refutation.{AreLemmas, IsEmptyOnlyLast, IsFilled, IsFirstRefusal, Refutes}
use Rattle.cycle_encoding.specs.Allocations.{allocation_of}
use Rattle.cycle_encoding.specs.Plans.{IsTooLarge, PassesLimit}
use Rattle.cycle_encoding.specs.declared.encodings.Encoding.{Encoding}
use Rattle.graph_meaning.specs.declared.graphs.LaunchGraph.{LaunchGraph}
use Rattle.machine_table.specs.declared.tables.Table.{Table}
use Rattle.register_assign.specs.declared.listings.Where.{Where}
use Rattle.schedule_meaning.specs.Fits.{Fits}
use Rattle.schedule_meaning.specs.declared.schedules.Allocation.{Allocation}
use Rattle.schedule_meaning.specs.declared.schedules.Launch.{Launch}
use Rattle.schedule_meaning.specs.declared.schedules.Schedule.{Schedule}
use Rattle.least_launch.specs.Fewest.{NoneHasFewer, OfOneFewer}
use Rattle.least_launch.specs.declared.tails.Tail.{Tail}
use Rattle.least_launch.specs.declared.tails.Tail.TheVariants as tails
use Rattle.least_launch.specs.declared.verdicts.TailVerdict.{TailVerdict}
use Rattle.least_launch.specs.declared.verdicts.TailVerdict.TheVariants.{Plain, Count, Size, Fewer, Least, Most}

-- the number of launches of which something is said
abbrev pub launches_of : Tail → ℕ
launches_of (tails.Least launches lines) = launches
launches_of (tails.Spent launches lines) = launches
launches_of (tails.Size launches vars clauses) = launches

-- ---- the tests by the clauses for one launch fewer, in their order

-- lines are given for clauses within the limits, and counts are the true ones and one of them passes its limit
abbrev pub HasTrueSize : Formula → Tail → Type 0
HasTrueSize f (tails.Least launches lines) = ¬ IsTooLarge f
HasTrueSize f (tails.Spent launches lines) = ¬ IsTooLarge f
HasTrueSize f (tails.Size launches vars clauses) = PassesLimit f vars clauses

-- the lines refute the clauses, or are lemmas of them
abbrev pub HasTrueLines : Formula → Tail → Type 0
HasTrueLines f (tails.Least launches lines) = Refutes f lines.lines
HasTrueLines f (tails.Spent launches lines) = AreLemmas f lines.lines
HasTrueLines f (tails.Size launches vars clauses) = Unit {0}

-- the first line that is refused, and the least reason against it
abbrev pub HasRefusedLine : Formula → Tail → ℕ → ℕ → Type 0
HasRefusedLine f (tails.Least launches lines) line why =
    IsFirstRefusal (IsEmptyOnlyLast lines.lines) f lines.lines line why
HasRefusedLine f (tails.Spent launches lines) line why = IsFirstRefusal IsFilled f lines.lines line why
HasRefusedLine f (tails.Size launches vars clauses) line why = ⊥

-- ---- the first test that fails, or that all hold

-- where the tests hold: no schedule has fewer launches, or this isn't known
abbrev pub HoldsOf : Tail → TailVerdict → Type 0
HoldsOf (tails.Least launches lines) v = v ≡ Least launches
HoldsOf (tails.Spent launches lines) v = v ≡ Most launches
HoldsOf (tails.Size launches vars clauses) v = v ≡ Most launches

-- by the clauses for one launch fewer
abbrev pub IsByClauses : Tail → TailVerdict → Formula → Type 0
IsByClauses tail (Size vars clauses) f = (¬ HasTrueSize f tail) × (vars ≡ f.vars) × (clauses ≡ length f.clauses)
IsByClauses tail (Fewer line why) f = HasTrueSize f tail × HasRefusedLine f tail line why
IsByClauses tail v f = HasTrueSize f tail × HasTrueLines f tail × HoldsOf tail v

-- Of a schedule with so many launches, which keep their registers as long as the allocation says, and what is said of
-- it. Another number of launches is said. Or it is this one; then there are none, or the clauses for one launch fewer
-- decide.
pub data IsTailOutcome (g : LaunchGraph) (table : Table) (a : Allocation) (k count : ℕ) (tail : Tail) (v : TailVerdict)
    : Type 0 where
  miscounted : count ≢ launches_of tail → v ≡ Count (launches_of tail) → IsTailOutcome g table a k count tail v
  no_launches : count ≡ launches_of tail → count ≡ 0 → HoldsOf tail v → IsTailOutcome g table a k count tail v
  by_clauses : count ≡ launches_of tail → OfOneFewer g table a k count (IsByClauses tail v)
      → IsTailOutcome g table a k count tail v

-- ---- goals

abbrev pub ClaimsSchedule : Claim → Type 0
ClaimsSchedule (Scheduled k schedule words places) = Unit {0}
ClaimsSchedule claim = ⊥

-- the schedule that is claimed fits, if one is
abbrev pub FitsAsClaimed : LaunchGraph → Table → Allocation → Claim → Type 0
FitsAsClaimed g table a (Scheduled k schedule words places) = Fits g table a k schedule.launches
FitsAsClaimed g table a claim = Unit {0}

-- The verdict on a goal without the lines behind the answer stands, but where it is that a schedule's tests all hold:
-- then these lines decide, by the allocation of the answer's encoding.
pub data IsTailVerdict (e : Encoding) (table : Table) (c : Claimed) : Option Tail → TailVerdict → Type 0 where
  plain : {tail : Option Tail} {v : Verdict} → IsVerdict e table c v → (v ≡ Holds → ¬ ClaimsSchedule c.claim)
      → IsTailVerdict e table c tail (Plain v)
  tailed : {g : LaunchGraph} {k : ℕ} {schedule : Schedule} {words : List ℕ} {places : List Where}
      {tail : Tail} {v : TailVerdict}
      → IsVerdict e table c Holds → c.graph ≡ Some g → c.claim ≡ Scheduled k schedule words places
      → IsTailOutcome g table (allocation_of e) k (length schedule.launches) tail v
      → IsTailVerdict e table c (Some tail) v

-- ---- what the tests find, one by one

-- there are fewer lines than can be counted
abbrev pub HasFewLines : Tail → Type 0
HasFewLines (tails.Least launches lines) = length lines.lines < 2 ^ 29
HasFewLines (tails.Spent launches lines) = length lines.lines < 2 ^ 29
HasFewLines (tails.Size launches vars clauses) = Unit {0}

-- no schedule has at most n launches, where lines are said to show it
abbrev pub TellsNoneFewer : LaunchGraph → Table → Allocation → ℕ → ℕ → Tail → Type 0
TellsNoneFewer g table a k n (tails.Least launches lines) =
    (ls : List Launch) → Fits g table a k ls → ¬ (length ls ≤ n)
TellsNoneFewer g table a k n (tails.Spent launches lines) = Unit {0}
TellsNoneFewer g table a k n (tails.Size launches vars clauses) = Unit {0}

-- no schedule has fewer launches, where the verdict says so
abbrev pub SaysTrue : LaunchGraph → Table → Allocation → ℕ → TailVerdict → Type 0
SaysTrue g table a k (Least launches) = NoneHasFewer g table a k launches
SaysTrue g table a k v = Unit {0}

-- of a scheduled goal something is said, with few lines
pub record HasItsTail (c : Claimed) (said : Option Tail) : Type 0 where
  pub some : ClaimsSchedule c.claim → IsTrue (is_some said)
  pub few : IfSome said HasFewLines

-- of each goal that is scheduled something is said
abbrev pub HaveTheirTails : List Claimed → List (Option Tail) → Type 0
HaveTheirTails goals said = AllZip HasItsTail goals said

-- ---- what is true where a line says `ok`

-- the claim is true, and no schedule that fits in its cycles with this allocation has fewer launches than its own
pub record HasTheFewest (table : Table) (a : Allocation) (c : Claimed) (launches : ℕ) : Type 0 where
  pub graph : LaunchGraph
  pub printed : c.graph ≡ Some graph
  pub cycles : ℕ
  pub schedule : Schedule
  pub words : List ℕ
  pub places : List Where
  pub claims : c.claim ≡ Scheduled cycles schedule words places
  pub count : length schedule.launches ≡ launches
  pub none_fewer : NoneHasFewer graph table a cycles launches

abbrev pub IsTrueVerdict : Encoding → Table → Claimed → TailVerdict → Type 0
IsTrueVerdict e table c (Plain v) = v ≡ Holds → IsSound e table c
IsTrueVerdict e table c (Least launches) = IsSound e table c × HasTheFewest table (allocation_of e) c launches
IsTrueVerdict e table c (Most launches) = IsSound e table c
IsTrueVerdict e table c v = Unit {0}
