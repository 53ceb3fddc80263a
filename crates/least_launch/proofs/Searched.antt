-- What a step of the search comes to, and what the steps end with.
use Rattle.std.proofs.Common.{◌≡◌, ℕ, ◌+◌, ◌-◌, ◌≤◌, Bool, List, length, refl, sym, subst, arith}
use Rattle.std.proofs.lemmas.Bool.{cases_lt}
use Rattle.std.specs.Prelude.{IsPermutation}
use Rattle.std.proofs.lemmas.List.Sorted.{length_permutation}
use Rattle.std.proofs.Common.{inl, inr}
use Rattle.schedule_meaning.specs.Limits.{most_cycles}
use Rattle.word_ops.specs.Words.{IsWord}
use Rattle.cnf_core.specs.Formula.{Formula, Satisfies}
use Rattle.cnf_core.specs.Outcome.{IsSpent}
use Rattle.cnf_core.specs.Refutation.{HaveNoSolution, Refutes}
use Rattle.cnf_core.specs.declared.line.Lines.{Lines}
use Rattle.cycle_encoding.specs.Encodings.{IsScope}
use Rattle.cycle_encoding.specs.Faults.{EncodeFaultIs}
use Rattle.cycle_encoding.specs.CycleFormula.{Scope}
use Rattle.cycle_encoding.specs.CycleFormula.{listed_in}
use Rattle.cycle_encoding.specs.Plans.{IsTooLarge, PassesLimit}
use Rattle.cycle_encoding.specs.declared.plans.EncodeFault.TheVariants as encode
use Rattle.denali_run.specs.Encodings.{encoding_for}
use Rattle.graph_meaning.specs.declared.graphs.LaunchGraph.{LaunchGraph}
use Rattle.machine_table.specs.declared.tables.Table.{Table}
use Rattle.schedule_meaning.specs.Fits.{Fits}
use Rattle.schedule_meaning.specs.declared.schedules.Allocation.{Allocation}
use Rattle.schedule_meaning.specs.declared.schedules.Launch.{Launch}
use Rattle.least_launch.specs.FewerLaunches.{IsFewerOf, fewer_in}
use Rattle.least_launch.specs.Fewest.{IsProof, NoneHasFewer, OfOneFewer}
use Rattle.least_launch.specs.Steps.{IsStep}
use Rattle.least_launch.specs.declared.results.Proof.{Proof}
use Rattle.least_launch.specs.declared.results.Proof.TheVariants as proofs
use Rattle.least_launch.specs.declared.searching.Step.{Step}
use Rattle.least_launch.specs.declared.searching.Step.TheVariants as steps

-- an end whose counts have other names
pub renamed : (P : Step → Type 0) (v c x y : ℕ) → x ≡ v → y ≡ c → P (steps.Ended (proofs.Size v c))
    → P (steps.Ended (proofs.Size x y))
renamed P v c x y e f h =
    subst (λ n. P (steps.Ended (proofs.Size n y))) (sym e) (subst (λ n. P (steps.Ended (proofs.Size v n))) (sym f) h)

module _ (g : LaunchGraph) (table : Table) (a : Allocation) (k n conflicts : ℕ) (s : Scope)
    (scope : IsScope (encoding_for a) g table s) (few : k ≤ most_cycles) where
  -- the clauses over what the scope gives variables are those for one launch fewer than n + 1
  abbrev clauses_for : Formula
  clauses_for = fewer_in s g table k n

  pub of_one_fewer : (P : Formula → Type 0) → P (fewer_in s g table k n) → OfOneFewer g table a k (n + 1) P
  of_one_fewer P holds = record {
    some = omega arith;
    formula = clauses_for;
    fewer = subst (λ m. IsFewerOf (encoding_for a) g table k m (fewer_in s g table k n))
        (let e : n ≡ n + 1 - 1 = omega arith in e)
        (record { lists = listed_in g table k s; listed = scope.lists k few; is = refl });
    holds = holds;
  }

  pub large_step : (vars clauses : ℕ) → EncodeFaultIs (fewer_in s g table k n) (encode.Size vars clauses) → IsWord vars
      → IsWord clauses → IsStep g table a k conflicts n (steps.Ended (proofs.Size vars clauses))
  large_step vars clauses is wv wc =
      of_one_fewer (λ f. PassesLimit f vars clauses × IsWord vars × IsWord clauses) (is, wv, wc)

  -- no schedule with at most n launches fits where the clauses have no solution
  pub none_fewer : (f : Formula) → f ≡ fewer_in s g table k n → HaveNoSolution f.clauses
      → ((ls : List Launch) → Fits g table a k ls → length ls ≤ n
      → (v : ℕ → Bool) × Satisfies v (fewer_in s g table k n).clauses)
      → NoneHasFewer g table a k (n + 1)
  none_fewer f is none each ls fits =
      elim (cases_lt n (length ls)) [
        | inl more ↦ omega (arith, more)
        | inr few ↦
            absurd (let v = each ls fits few in none v.0
            (subst (λ (x : Formula). Satisfies v.0 x.clauses) (sym is) v.1))
      ]

  pub refuted_step : (f : Formula) (lines : Lines) → f ≡ fewer_in s g table k n → ¬ IsTooLarge (fewer_in s g table k n)
      → length lines.lines ≤ conflicts → Refutes f lines.lines → NoneHasFewer g table a k (n + 1)
      → IsProof g table a k conflicts (n + 1) (proofs.Refuted lines)
  refuted_step f lines is within short refutes none = (
    none,
    of_one_fewer (λ f. (¬ IsTooLarge f) × (length lines.lines ≤ conflicts) × Refutes f lines.lines)
        (within, short, subst (λ x. Refutes x lines.lines) is refutes),
  )

  pub spent_step : (f : Formula) (lines : Lines) → f ≡ fewer_in s g table k n → ¬ IsTooLarge (fewer_in s g table k n)
      → IsSpent f conflicts lines.lines → IsProof g table a k conflicts (n + 1) (proofs.Spent lines)
  spent_step f lines is within spent =
      of_one_fewer (λ f. (¬ IsTooLarge f) × IsSpent f conflicts lines.lines)
      (within, subst (λ x. IsSpent x conflicts lines.lines) is spent)

-- what stands beside a schedule with so many launches
pub proof_at : (g : LaunchGraph) (table : Table) (a : Allocation) (k conflicts n count : ℕ) (proof : Proof)
    → n + 1 ≡ count → IsProof g table a k conflicts (n + 1) proof → IsProof g table a k conflicts count proof
proof_at g table a k conflicts n count proof e is = subst (λ m. IsProof g table a k conflicts m proof) e is

-- a schedule that has the launches which satisfying values show
pub fewer_step : (g : LaunchGraph) (table : Table) (a : Allocation) (k n : ℕ) (ls ms : List Launch)
    → IsPermutation ls ms
    → ((ls ms : List Launch) → IsPermutation ls ms → Fits g table a k ls → Fits g table a k ms) → Fits g table a k ls
    → length ls ≤ n → Fits g table a k ms × (length ms ≤ n)
fewer_step g table a k n ls ms same any_order fits few =
    (any_order ls ms same fits, (let e = length_permutation ls ms same in omega (arith, few, e)))
