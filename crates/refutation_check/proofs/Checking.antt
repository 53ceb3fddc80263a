-- The loop over the lines, and what its outcome says.
use Rattle.std.proofs.Common.{ℕ, ◌+◌, ◌<◌, ◌≤◌, List, length, take, get_or, refl, sym, subst, arith, inl, inr}
use Rattle.std.specs.List.{All}
use Rattle.std.specs.Prelude.{Result, Ok, Err, OnOk, IfErr, IsOk, ◌↔◌}
use Rattle.std.proofs.lemmas.Bool.{cases_eq, false≢true}
use Rattle.refutation_check.proofs.Reaching.{refusal-not_right}
use Rattle.refutation_check.specs.declared.lines.Rejected.{Rejected}
use Rattle.std.proofs.lemmas.List.{get_or-take, length-take, get_or_default}
use Rattle.cnf_core.specs.declared.line.Line.{Line}
use Rattle.cnf_core.specs.Formula.{Formula, IsLitOf}
use Rattle.cnf_core.specs.Refutation.{IsAccepted, AreRight, IsFirstRefusal, Refutes, HaveNoSolution}
use Rattle.refutation_check.specs.declared.values.Mark.{Mark}
use Rattle.refutation_check.specs.Marked.{NoneIsLater, LemmasExist}

-- the lines before an index are accepted and placed
pub record CheckedSoFar (P : ℕ → Line → Type 0) (f : Formula) (lines : List Line) (k : ℕ) (marks : List Mark) : Type 0 where
  pub fine : (j : ℕ) (d : Line) → j < k → j < length lines → IsAccepted f (take j lines) (get_or lines j d) × P j (get_or lines j d)
  pub bound : NoneIsLater k marks

-- so their lemmas are of the formula's variables
pub lemmas-exist : (P : ℕ → Line → Type 0) (f : Formula) (lines : List Line) (k : ℕ) (marks : List Mark) → k ≤ length lines → CheckedSoFar P f lines k marks → LemmasExist f.vars (take k lines)
lemmas-exist P f lines k marks few h = λ j d less.
    let j<k : j < k = omega (arith, length-take k lines) in
    let ok = (h.fine j d j<k (omega arith)).0 in
    subst (λ (l : Line). All (IsLitOf f.vars) l.lits) (sym (get_or-take k lines j d j<k)) ok.named.exist

-- one more line that is accepted and placed
pub checked-more : (P : ℕ → Line → Type 0) (f : Formula) (lines : List Line) (k : ℕ) (d : Line) (old new : List Mark) → k < length lines → CheckedSoFar P f lines k old → NoneIsLater (k + 1) new → IsAccepted f (take k lines) (get_or lines k d) → P k (get_or lines k d) → CheckedSoFar P f lines (k + 1) new
checked-more P f lines k d old new few h bound ok placed =
    record {
      fine = λ j e less within. elim (cases_eq j k) [
        | inl same ↦
            (let Q : ℕ → Type 0 = λ i. IsAccepted f (take i lines) (get_or lines i e) × P i (get_or lines i e) in
            let default = get_or_default lines k d e few in
            subst Q (sym same) (subst (λ (l : Line). IsAccepted f (take k lines) l × P k l) default (ok, placed)))
        | inr other ↦ h.fine j e (omega arith) within
      ];
      bound = bound;
    }

-- what the outcome says
pub exact-from : (P : ℕ → Line → Type 0) (f : Formula) (lines : List Line) (r : Result (Unit {0}) Rejected) → OnOk r (AreRight P f lines) → IfErr r (λ e. IsFirstRefusal P f lines e.line e.why) → IsOk r ↔ AreRight P f lines
exact-from P f lines (Ok u) ok err = ((λ _. ok), (λ _. refl))
exact-from P f lines (Err e) ok err = ((λ is. absurd (false≢true is)), (λ refutes. absurd (refusal-not_right P f lines e.line e.why err refutes)))

pub sound-from : (law : (f : Formula) (lines : List Line) → Refutes f lines → HaveNoSolution f.clauses) → (f : Formula) (lines : List Line) (r : Result (Unit {0}) Rejected) → OnOk r (Refutes f lines) → OnOk r (HaveNoSolution f.clauses)
sound-from law f lines (Ok u) ok = law f lines ok
sound-from law f lines (Err e) ok = ok
