-- What a schedule comes with where schedules with fewer launches are looked for. Source: this project.
use Rattle.std.specs.Prelude.{◌≡◌, ℕ, ◌-◌, ◌≤◌, List, length}
use Rattle.cnf_core.specs.Formula.{Formula}
use Rattle.cnf_core.specs.Outcome.{IsSpent}
use Rattle.cnf_core.specs.Refutation.{Refutes}
use Rattle.cycle_encoding.specs.Plans.{IsTooLarge, PassesLimit}
use Rattle.denali_run.specs.Encodings.{encoding_for}
use Rattle.graph_meaning.specs.declared.graphs.LaunchGraph.{LaunchGraph}
use Rattle.machine_table.specs.declared.tables.Table.{Table}
use Rattle.register_assign.specs.Assigned.{IsTheListing}
use Rattle.schedule_meaning.specs.Fits.{Fits}
use Rattle.schedule_meaning.specs.declared.schedules.Allocation.{Allocation}
use Rattle.schedule_meaning.specs.declared.schedules.Launch.{Launch}
use Rattle.word_ops.specs.Words.{IsWord}
use Rattle.least_launch.specs.FewerLaunches.{IsFewerOf}
use Rattle.least_launch.specs.declared.results.Least.{Least}
use Rattle.least_launch.specs.declared.results.Proof.{Proof}
use Rattle.least_launch.specs.declared.results.Proof.TheVariants as proofs

-- schedules whose launches keep their registers as long as the allocation says
module _ (g : LaunchGraph) (table : Table) (a : Allocation) (k : ℕ) where
  -- no schedule that fits in k cycles has fewer launches than these
  abbrev pub NoneHasFewer : ℕ → Type 0
  NoneHasFewer count = (ls : List Launch) → Fits g table a k ls → count ≤ length ls

  -- There is some launch, and this holds of the clauses for one launch fewer: those of the encoding by which schedules
  -- with this allocation, which may have pins, are asked for.
  pub record OfOneFewer (count : ℕ) (Holds : Formula → Type 0) : Type 0 where
    pub some : 1 ≤ count
    pub formula : Formula
    pub fewer : IsFewerOf (encoding_for a) g table k (count - 1) formula
    pub holds : Holds formula

  -- What stands beside a schedule with so many launches: nothing exactly where it has none. Otherwise lines that refute
  -- the clauses for one launch fewer, at most as many as conflicts were allowed, and then no schedule has fewer; or as
  -- many fresh lemmas of these clauses as conflicts were allowed; or their two counts, one of which passes its limit.
  abbrev pub IsProof : ℕ → ℕ → Proof → Type 0
  IsProof conflicts count proofs.None = count ≡ 0
  IsProof conflicts count (proofs.Refuted lines) =
      NoneHasFewer count
      × OfOneFewer count (λ f. (¬ IsTooLarge f) × (length lines.lines ≤ conflicts) × Refutes f lines.lines)
  IsProof conflicts count (proofs.Spent lines) =
      OfOneFewer count (λ f. (¬ IsTooLarge f) × IsSpent f conflicts lines.lines)
  IsProof conflicts count (proofs.Size vars clauses) =
      OfOneFewer count (λ f. PassesLimit f vars clauses × IsWord vars × IsWord clauses)

  -- The schedule fits and has at most as many launches as the given one; this is its listing, and what stands beside
  -- it.
  pub record IsFewest (conflicts : ℕ) (given : List Launch) (least : Least) : Type 0 where
    pub fits : Fits g table a k least.schedule.launches
    pub no_more : length least.schedule.launches ≤ length given
    pub listing : IsTheListing g table a least.schedule.launches least.listing.items least.listing.wheres
    pub proof : IsProof conflicts (length least.schedule.launches) least.proof
