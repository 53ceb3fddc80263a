-- Numbers of cycles in rising order: what each came to, and what the search has when it stops.
use Rattle.std.proofs.Common.{◌≡◌, ℕ, ◌+◌, ◌<◌, ◌≤◌, ◌^◌, ◌⊎◌, inl, inr, List, length, Option, Some, None, Bool, true, false, nat_lt, refl, sym, ap, subst, ◌∙◌, arith}
use Rattle.std.proofs.Common.{Result, Ok, Err}
use Rattle.std.specs.Prelude.{All, Decides, IfOk}
use Rattle.std.proofs.lemmas.Bool.{false≢true}
use Rattle.std.proofs.lemmas.Bool.Decides.{Decides-ltb}
use Rattle.word_ops.specs.Words.{IsWord}
use Rattle.cnf_core.specs.Formula.{Formula, Satisfies}
use Rattle.cnf_core.specs.Outcome.{IsSpent}
use Rattle.cnf_core.specs.Refutation.{Refutes, HaveNoSolution}
use Rattle.cnf_core.specs.declared.line.Line.{Line}
use Rattle.cnf_core.specs.declared.line.Lines.{Lines}
use Rattle.cycle_encoding.specs.Allocations.{allocation_of}
use Rattle.cycle_encoding.specs.CycleFormula.{Scope, allocation_in, listed_in}
use Rattle.cycle_encoding.specs.Encodings.{IsScope}
use Rattle.cycle_encoding.specs.Plans.{IsTooLarge, PassesLimit}
use Rattle.cycle_encoding.specs.declared.encodings.Encoding.{Encoding}
use Rattle.goal_meaning.specs.Views.{GoalTree, InputTree}
use Rattle.graph_meaning.specs.declared.graphs.LaunchGraph.{LaunchGraph}
use Rattle.machine_table.specs.declared.tables.Table.{Table}
use Rattle.order_encoding.specs.WholeFormula.{AreFormulas, formula_in}
use Rattle.register_assign.specs.Assigned.{IsTheListing, KeepsWord}
use Rattle.register_assign.specs.Outcomes.{AreWordsOf}
use Rattle.saturation.specs.StandsFor.{StandsFor}
use Rattle.schedule_meaning.specs.Fits.{Fits}
use Rattle.schedule_meaning.specs.declared.schedules.Allocation.{Allocation}
use Rattle.schedule_meaning.specs.declared.schedules.Launch.{Launch}
use Rattle.schedule_meaning.specs.declared.schedules.Allocation.TheVariants.{Block, Live}
use Rattle.denali_run.specs.Encodings.{encoding_for, encoding_in}
use Rattle.denali_run.specs.MatchedGoals.{IsMatched}
use Rattle.denali_run.specs.Right.{NoneFits, IsTooFew, nothing_less, one_less, IsLeast, IsScheduled, Right}
use Rattle.denali_run.specs.Trials.{IsTrialsEnd, IsTrialsEndIn}
use Rattle.denali_run.proofs.Computing.{computes}
use Rattle.denali_run.specs.declared.results.Answered.TheVariants.{Scheduled, Nowhere, SpentConflicts, SpentSize}
use Rattle.denali_run.specs.declared.results.Found.{Found}
use Rattle.denali_run.specs.declared.results.Large.{Large}
use Rattle.denali_run.specs.declared.results.Missing.{Missing}
use Rattle.denali_run.specs.declared.results.Tried.{Tried}
use Rattle.denali_run.specs.declared.settings.Settings.{Settings}
use Rattle.denali_run.specs.declared.searching.Reached.{Reached}

module _ (clauses_for : ℕ → Formula) (g : LaunchGraph) (table : Table) (a : Allocation) (conflicts : ℕ) where
  pub refuted_of : (k : ℕ) (f : Formula) (lines : List Line) → length lines ≤ conflicts → f ≡ clauses_for k
      → ¬ IsTooLarge (clauses_for k) → Refutes f lines → HaveNoSolution f.clauses
      → ((ls : List Launch) → Fits g table a k ls → (v : ℕ → Bool) × Satisfies v f.clauses)
      → IsTooFew clauses_for g table a conflicts k lines
  refuted_of k f lines few is within refutes none each = record {
    few = few;
    refutes = subst (λ f. Refutes f lines) is refutes;
    none_fits = record { within = within; none = λ ls fit. let v = each ls fit in none v.0 v.1 };
  }

  pub least_at_first : IsLeast clauses_for g table a conflicts 0 None
  least_at_first = record { refuted = nothing_less; none_fits = λ j lt. absurd (omega arith) }

  by_test : (b : Bool) (j k : ℕ) → Decides b (j < k) → j < k + 1 → (j < k) ⊎ (j ≡ k)
  by_test true j k d lt = inl (d.0 refl)
  by_test false j k d lt = inr (let n : ¬ (j < k) = λ l. false≢true (d.1 l) in omega (arith, n, lt))

  none_below : (k j : ℕ) → ((i : ℕ) → i < k → NoneFits clauses_for g table a i) → NoneFits clauses_for g table a k → (j < k) ⊎ (j ≡ k)
      → NoneFits clauses_for g table a j
  none_below k j below at (inl lt) = below j lt
  none_below k j below at (inr e) = subst (NoneFits clauses_for g table a) (sym e) at

  pub least_after : (k : ℕ) (before : Option Lines) (lines : Lines) → IsLeast clauses_for g table a conflicts k before
      → IsTooFew clauses_for g table a conflicts k lines.lines → IsLeast clauses_for g table a conflicts (k + 1) (Some lines)
  least_after k before lines least refuted = record {
    refuted = one_less refuted;
    none_fits = λ j lt. none_below k j least.none_fits refuted.none_fits (by_test (nat_lt j k) j k (Decides-ltb j k) lt);
  }

module _ (input : InputTree) (goal : GoalTree) (s : Settings) where
  scheduled : (f : Found) → Fits f.matched.graph input.table s.allocation f.k f.schedule.launches
      → IsTheListing f.matched.graph input.table s.allocation f.schedule.launches f.listing.items f.listing.wheres
      → AreWordsOf f.listing.items f.words → All (λ word. word < 2 ^ 32) f.words
      → KeepsWord f.matched.graph input.table f.k f.listing.items f.listing.wheres
      → StandsFor input goal f.matched.graph → IsScheduled input goal s.allocation f
  scheduled f fits listing words low keeps stands = record {
    fits = fits;
    listing = listing;
    words = words;
    low = low;
    obeys = keeps.obeys stands.of.proper;
    computes = computes input goal f.matched.graph stands input.table s.allocation f.schedule.launches f.listing.items f.words
        f.listing.wheres listing.is (keeps.right stands.of.proper f.words words);
  }

  -- what holds of the table that was taken holds of the input's
  at_table : (table : Table) (P : Table → Type 0) → input.table ≡ table → P table → P input.table
  at_table table P is h = subst P (sym is) h

  pub found_right : (table : Table) (f : Found) (clauses_for : ℕ → Formula) → input.table ≡ table
      → IsMatched input goal s f.matched → f.k ≤ s.cycles → AreFormulas (encoding_in s) f.matched.graph table clauses_for
      → (¬ IsTooLarge (clauses_for f.k)) × Fits f.matched.graph table s.allocation f.k f.schedule.launches
      → IsTheListing f.matched.graph table s.allocation f.schedule.launches f.listing.items f.listing.wheres
      → AreWordsOf f.listing.items f.words → All (λ word. word < 2 ^ 32) f.words
      → KeepsWord f.matched.graph table f.k f.listing.items f.listing.wheres
      → IsLeast clauses_for f.matched.graph table s.allocation s.conflicts f.k f.refutation → Right input goal s (Scheduled f)
  found_right table f clauses_for is matched few formulas trial listing words low keeps least =
      let at : (P : Table → Type 0) → P table → P input.table = λ P h. at_table table P is h in (
        matched,
        few,
        scheduled f (at (λ t. Fits f.matched.graph t s.allocation f.k f.schedule.launches) trial.1)
            (at (λ t. IsTheListing f.matched.graph t s.allocation f.schedule.launches f.listing.items f.listing.wheres) listing) words low
            (at (λ t. KeepsWord f.matched.graph t f.k f.listing.items f.listing.wheres) keeps) matched.stands,
        record {
          clauses_for = clauses_for;
          formulas = at (λ t. AreFormulas (encoding_in s) f.matched.graph t clauses_for) formulas;
          holds = (trial.0, at (λ t. IsLeast clauses_for f.matched.graph t s.allocation s.conflicts f.k f.refutation) least);
        },
      )

  pub missing_right : (table : Table) (m : Missing) (clauses_for : ℕ → Formula) → input.table ≡ table
      → IsMatched input goal s m.matched → m.k ≡ s.cycles → AreFormulas (encoding_in s) m.matched.graph table clauses_for
      → IsLeast clauses_for m.matched.graph table s.allocation s.conflicts (m.k + 1) (Some m.refutation)
      → Right input goal s (Nowhere m)
  missing_right table m clauses_for is matched last formulas least = (
    matched,
    last,
    record {
      clauses_for = clauses_for;
      formulas = at_table table (λ t. AreFormulas (encoding_in s) m.matched.graph t clauses_for) is formulas;
      holds = at_table table (λ t. IsLeast clauses_for m.matched.graph t s.allocation s.conflicts (m.k + 1) (Some m.refutation)) is least;
    },
  )

  pub spent_right : (table : Table) (t : Tried) (clauses_for : ℕ → Formula) → input.table ≡ table
      → IsMatched input goal s t.matched → t.k ≤ s.cycles → AreFormulas (encoding_in s) t.matched.graph table clauses_for
      → (¬ IsTooLarge (clauses_for t.k)) × IsSpent (clauses_for t.k) s.conflicts t.lemmas.lines
      → IsLeast clauses_for t.matched.graph table s.allocation s.conflicts t.k t.refutation
      → Right input goal s (SpentConflicts t)
  spent_right table t clauses_for is matched few formulas trial least = (
    matched,
    few,
    record {
      clauses_for = clauses_for;
      formulas = at_table table (λ x. AreFormulas (encoding_in s) t.matched.graph x clauses_for) is formulas;
      holds = (
        trial.0,
        trial.1,
        at_table table (λ x. IsLeast clauses_for t.matched.graph x s.allocation s.conflicts t.k t.refutation) is least,
      );
    },
  )

  pub large_right : (table : Table) (l : Large) (clauses_for : ℕ → Formula) → input.table ≡ table
      → IsMatched input goal s l.matched → l.k ≤ s.cycles → AreFormulas (encoding_in s) l.matched.graph table clauses_for
      → PassesLimit (clauses_for l.k) l.vars l.clauses × IsWord l.vars × IsWord l.clauses
      → IsLeast clauses_for l.matched.graph table s.allocation s.conflicts l.k l.refutation
      → Right input goal s (SpentSize l)
  large_right table l clauses_for is matched few formulas trial least = (
    matched,
    few,
    trial.1,
    trial.2,
    record {
      clauses_for = clauses_for;
      formulas = at_table table (λ x. AreFormulas (encoding_in s) l.matched.graph x clauses_for) is formulas;
      holds = (
        trial.0,
        at_table table (λ x. IsLeast clauses_for l.matched.graph x s.allocation s.conflicts l.k l.refutation) is least,
      );
    },
  )

-- the clauses over what a scope gives variables are those of its encoding
pub formulas_in : (e : Encoding) (g : LaunchGraph) (table : Table) (s : Scope) → IsScope e g table s
    → AreFormulas e g table (formula_in s g table)
formulas_in e g table s is = λ k few. record { lists = listed_in g table k s; listed = is.lists k few; is = refl }

-- where numbers of cycles ended by these clauses, they did so by those of the encoding
pub reached_in : {E : Type 0} (g h : LaunchGraph) (table : Table) (scope : Scope) (s : Settings) → h ≡ g
    → IsScope (encoding_in s) h table scope → (r : Result Reached E) → IfOk r (IsTrialsEnd (formula_in scope h table) g table s)
    → IfOk r (IsTrialsEndIn g table s)
reached_in g h table scope s same is (Ok r) holds = record {
  clauses_for = formula_in scope h table;
  formulas = subst (λ (x : LaunchGraph). AreFormulas (encoding_in s) x table (formula_in scope h table)) same
      (formulas_in (encoding_in s) h table scope is);
  holds = holds;
}
reached_in g h table scope s same is (Err x) holds = tt

-- the scope's own encoding is the one by which the settings ask, and so is its allocation
pub own_scope : (e : Encoding) (g : LaunchGraph) (table : Table) (s : Scope) → IsScope e g table s
    → IsScope s.encoding g table s
own_scope e g table s is = subst (λ (x : Encoding). IsScope x g table s) (sym is.encoding) is

allocated : (a : Allocation) → allocation_of (encoding_for a) ≡ a
allocated Block = refl
allocated Live = refl

pub own_allocation : (s : Settings) (g : LaunchGraph) (table : Table) (scope : Scope)
    → IsScope (encoding_in s) g table scope → allocation_in scope ≡ s.allocation
own_allocation s g table scope is = ap allocation_of is.encoding ∙ allocated s.allocation
