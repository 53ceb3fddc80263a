-- The lines of a claimed goal, and what trying to trim them comes to.
use Rattle.std.proofs.Common.{◌≡◌, ℕ, ◌<◌, ◌^◌, length, sym, ◌∙◌, subst}
use Rattle.std.specs.Prelude.{Option, None, Some, MatchOption}
use Rattle.std.proofs.lemmas.Option.{same_Some, none-some}
use Rattle.answer_check.specs.declared.verdicts.Verdict.TheVariants as verdict
use Rattle.answer_texts.specs.AnswerLines.{refuted_cycles}
use Rattle.answer_texts.specs.WellFormed.{FitsClaim, HasRefutation, IsClaimed, no_world, worked, nothing_less, refuted}
use Rattle.answer_texts.specs.declared.answers.Claimed.{Claimed}
use Rattle.cnf_core.specs.Formula.{Formula}
use Rattle.cnf_core.specs.Refutation.{IsEmptyOnlyLast, IsFirstRefusal, Refutes}
use Rattle.cnf_core.specs.declared.line.Lines.{Lines}
use Rattle.cycle_encoding.specs.Plans.{IsTooLarge}
use Rattle.cycle_encoding.specs.declared.encodings.Encoding.{Encoding}
use Rattle.cycle_encoding.specs.declared.plans.EncodeFault.TheVariants.{Size}
use Rattle.graph_meaning.specs.WellFormed.{IsLaunchGraph}
use Rattle.graph_meaning.specs.declared.graphs.LaunchGraph.{LaunchGraph}
use Rattle.machine_table.specs.declared.tables.Table.{Table}
use Rattle.order_encoding.specs.WholeFormula.{IsFormulaOf, IsSizeFault}
use Rattle.refute_trim.specs.Outcomes.{IsOutcomeFor}
use Rattle.refute_trim.specs.Trimmed.{AreTrimmed}
use Rattle.refute_trim.specs.TrimmedAnswers.{AreToRefute, AreTrimmedLines, no_lines, needed, too_large, refused}
use Rattle.refute_trim.specs.declared.goals.Outcome.TheVariants.{Kept, Rejected}

-- ---- what a claim keeps

pub no_graph_no_lines : (e : Encoding) (table : Table) (version : ℕ) (c : Claimed) → IsClaimed version c → c.graph ≡ None → AreTrimmedLines e table c None
no_graph_no_lines e table version c (no_world claim graph none) is = no_lines none
no_graph_no_lines e table version c (worked {g} others graph good unpinned fits lines) is = absurd (none-some g (sym is ∙ graph))

few_of : {k : ℕ} {refute : Option Lines} (lines : Lines) → HasRefutation k refute → refute ≡ Some lines → length lines.lines < 2 ^ 29
few_of lines nothing_less e = absurd (none-some lines e)
few_of lines (refuted {lines = these} few some) e = subst (λ (l : Lines). length l.lines < 2 ^ 29) (same_Some these lines e) few

pub record IsWorked (c : Claimed) (g : LaunchGraph) : Type 0 where
  pub graph : IsLaunchGraph g
  pub fits : FitsClaim c.claim
  pub few : (lines : Lines) → c.refute ≡ Some lines → length lines.lines < 2 ^ 29

pub worked_goal : (version : ℕ) (c : Claimed) (g : LaunchGraph) → IsClaimed version c → c.graph ≡ Some g → IsWorked c g
worked_goal version c g (no_world claim none lines) e = absurd (none-some g (sym none ∙ e))
worked_goal version c g (worked {g = this} others graph good unpinned fits lines) e = record {
  graph = subst IsLaunchGraph (same_Some this g (sym graph ∙ e)) good;
  fits = fits;
  few = λ these refute. few_of these lines refute;
}

-- ---- what may be found

-- of what is found, or else holds, nothing was found, or this was
pub where_none : {A P : Type 0} (Q : A → Type 0) (o : Option A) → o ≡ None → MatchOption o P Q → P
where_none Q None is h = h
where_none Q (Some x) is h = absurd (none-some x (sym is))

pub where_some : {A : Type 0} (P : Type 0) (Q : A → Type 0) (o : Option A) (x : A) → o ≡ Some x → MatchOption o P Q → Q x
where_some P Q None x is h = absurd (none-some x is)
where_some P Q (Some y) x is h = subst Q (same_Some y x is) h

-- ---- what trying comes to

module _ (e : Encoding) (table : Table) (g : LaunchGraph) (k : ℕ) (c : Claimed) (lines : Lines) (printed : c.graph ≡ Some g) (refute : c.refute ≡ Some lines) (cycles : refuted_cycles c.claim ≡ k) where
  to_refute : (f : Formula) → IsFormulaOf e g table k f → AreToRefute e table c f lines
  to_refute f formula = record {
    graph = g;
    printed = printed;
    formula = subst (λ j. IsFormulaOf e g table j f) (sym cycles) formula;
    refute = refute;
  }

  pub is_too_large : (vars clauses : ℕ) → IsSizeFault e g table k (Size vars clauses) → IsOutcomeFor e table c (Rejected (verdict.Size vars clauses))
  is_too_large vars clauses (f, formula, passes) = too_large (to_refute f formula) passes

  pub is_refused : (f : Formula) (line why : ℕ) → IsFormulaOf e g table k f → ¬ IsTooLarge f → IsFirstRefusal (IsEmptyOnlyLast lines.lines) f lines.lines line why → IsOutcomeFor e table c (Rejected (verdict.Refutation k line why))
  is_refused f line why formula within first =
      subst (λ j. IsOutcomeFor e table c (Rejected (verdict.Refutation j line why))) cycles (refused (to_refute f formula) within first)

  pub is_kept : (f : Formula) (new : Lines) → IsFormulaOf e g table k f → ¬ IsTooLarge f → Refutes f lines.lines → AreTrimmed (length f.clauses) lines.lines new.lines → IsOutcomeFor e table c (Kept (Some new))
  is_kept f new formula within right trimmed = needed (to_refute f formula) within right trimmed
