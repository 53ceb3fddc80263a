-- What the clauses for a number of cycles come to, and where trials of rising numbers end. Source: this project.
use Rattle.std.specs.Prelude.{◌≡◌, ◌≤◌, ℕ}
use Rattle.word_ops.specs.Words.{IsWord}
use Rattle.cnf_core.specs.Formula.{Formula}
use Rattle.cnf_core.specs.Outcome.{IsSpent}
use Rattle.cnf_core.specs.declared.line.Lines.{Lines}
use Rattle.cycle_encoding.specs.Plans.{IsTooLarge, PassesLimit}
use Rattle.graph_meaning.specs.declared.graphs.LaunchGraph.{LaunchGraph}
use Rattle.machine_table.specs.declared.tables.Table.{Table}
use Rattle.schedule_meaning.specs.Fits.{Fits}
use Rattle.schedule_meaning.specs.declared.schedules.Allocation.{Allocation}
use Rattle.denali_run.specs.Encodings.{encoding_in}
use Rattle.denali_run.specs.Right.{ByClauses, IsLeast, IsTooFew}
use Rattle.denali_run.specs.declared.searching.Reached.{Reached}
use Rattle.denali_run.specs.declared.searching.Trial.{Trial}
use Rattle.denali_run.specs.declared.searching.Trial.TheVariants.{Fitting, Refuted, Spent, Large}
use Rattle.denali_run.specs.declared.settings.Settings.{Settings}

-- what the clauses for k cycles come to, by the clauses for each number of cycles
abbrev pub IsTrial : (ℕ → Formula) → LaunchGraph → Table → Allocation → ℕ → ℕ → Trial → Type 0
IsTrial clauses_for g table a k conflicts (Fitting schedule) =
    (¬ IsTooLarge (clauses_for k)) × Fits g table a k schedule.launches
IsTrial clauses_for g table a k conflicts (Refuted lines) = IsTooFew clauses_for g table a conflicts k lines.lines
IsTrial clauses_for g table a k conflicts (Spent lines) =
    (¬ IsTooLarge (clauses_for k)) × IsSpent (clauses_for k) conflicts lines.lines
IsTrial clauses_for g table a k conflicts (Large vars clauses) =
    PassesLimit (clauses_for k) vars clauses × IsWord vars × IsWord clauses

-- Where numbers of cycles in rising order ended, by the clauses for each of them: each below was refuted, and the last
-- wasn't, unless no more were asked for.
pub record IsTrialsEnd (clauses_for : ℕ → Formula) (g : LaunchGraph) (table : Table) (s : Settings) (r : Reached) : Type 0 where
  pub low : r.k ≤ s.cycles
  pub trial : IsTrial clauses_for g table s.allocation r.k s.conflicts r.trial
  pub least : IsLeast clauses_for g table s.allocation s.conflicts r.k r.below
  pub last : (lines : Lines) → r.trial ≡ Refuted lines → r.k ≡ s.cycles

-- the same by the clauses of the encoding by which the settings ask
abbrev pub IsTrialsEndIn : LaunchGraph → Table → Settings → Reached → Type 0
IsTrialsEndIn g table s r = ByClauses (encoding_in s) g table (λ clauses_for. IsTrialsEnd clauses_for g table s r)
