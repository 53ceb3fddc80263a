-- The lines of a goal's refutation, tested as lines for its own number of cycles.
use Rattle.std.proofs.Common.{◌≡◌, ℕ, Option, Some, None, Result, Ok, Err, refl, sym, subst}
use Rattle.std.specs.Prelude.{IfOk, IfSome, IsSomeAnd, MatchOption}
use Rattle.answer_texts.specs.AnswerLines.{refuted_cycles}
use Rattle.answer_texts.specs.declared.answers.Claimed.{Claimed}
use Rattle.cnf_core.specs.Formula.{Formula}
use Rattle.cnf_core.specs.Refutation.{IsEmptyOnlyLast, IsFirstRefusal, Refutes}
use Rattle.cnf_core.specs.declared.line.Lines.{Lines}
use Rattle.refutation_check.specs.declared.lines.Rejected.{Rejected}
use Rattle.answer_check.specs.Verdicts.{HasRefutingLines, IsRefusedBelow}

pub refused_lines : {E : Type 0} (f : ℕ → Formula) (c : Claimed) (k : ℕ) (lines : Lines) → k ≡ refuted_cycles c.claim
    → c.refute ≡ Some lines → (r : Result (Option Rejected) E)
    → IfOk r (λ found. MatchOption found (Refutes (f k) lines.lines)
    (λ e. IsFirstRefusal (IsEmptyOnlyLast lines.lines) (f k) lines.lines e.line e.why))
    → IfOk r (λ found. MatchOption found (HasRefutingLines f c)
    (λ e. IsRefusedBelow f c (refuted_cycles c.claim) e.line e.why))
refused_lines f c k lines of is (Ok None) h =
    subst (λ (o : Option Lines). IfSome o (λ (l : Lines). Refutes (f (refuted_cycles c.claim)) l.lines)) (sym is)
    (subst (λ n. Refutes (f n) lines.lines) of h)
refused_lines f c k lines of is (Ok (Some e)) h = (
  refl,
  subst (λ (o : Option Lines). IsSomeAnd o (λ (l : Lines).
      IsFirstRefusal (IsEmptyOnlyLast l.lines) (f (refuted_cycles c.claim)) l.lines e.line e.why)) (sym is)
      (subst (λ n. IsFirstRefusal (IsEmptyOnlyLast lines.lines) (f n) lines.lines e.line e.why) of h),
)
refused_lines f c k lines of is (Err x) h = tt
