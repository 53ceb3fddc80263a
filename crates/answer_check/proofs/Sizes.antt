-- The counts of the clauses that a claim speaks of.
use Rattle.std.proofs.Common.{◌≡◌, ℕ, length, Option, Some, None, sym, subst, IsTrue, refl}
use Rattle.std.specs.Prelude.{MatchOption, is_some}
use Rattle.cnf_core.specs.Formula.{Formula}
use Rattle.cnf_core.specs.declared.line.Lines.{Lines}
use Rattle.cycle_encoding.specs.Plans.{IsTooLarge, PassesLimit}
use Rattle.cycle_encoding.specs.declared.counts.Sizes.{Sizes}
use Rattle.answer_texts.specs.AnswerLines.{refuted_below, refuted_cycles}
use Rattle.answer_texts.specs.declared.answers.Claim.{Claim}
use Rattle.answer_texts.specs.declared.answers.Claim.TheVariants.{SpentConflicts, SpentSize}
use Rattle.answer_texts.specs.declared.answers.Claimed.{Claimed}
use Rattle.answer_check.specs.Verdicts.{HasRightSize, HasWrongSize, IsWithinBelow, own}

module _ (clauses_for : ℕ → Formula) where
  -- the counts for k cycles where one passes its limit
  abbrev pub Large : ℕ → Option Sizes → Type 0
  Large k found =
      MatchOption found (¬ IsTooLarge (clauses_for k))
      (λ (s : Sizes). PassesLimit (clauses_for k) s.vars s.clauses)

  abbrev pub LargeBelow : Claimed → Option Sizes → Type 0
  LargeBelow c found =
      MatchOption found (IsWithinBelow clauses_for c)
      (λ (s : Sizes). IsTrue (is_some c.refute)
      × PassesLimit (clauses_for (refuted_cycles c.claim)) s.vars s.clauses)

  pub large_below_is : (c : Claimed) (k : ℕ) (lines : Lines) → k ≡ refuted_cycles c.claim → c.refute ≡ Some lines
      → (found : Option Sizes) → Large k found → LargeBelow c found
  large_below_is c k lines of is None h = λ there. subst (λ n. ¬ IsTooLarge (clauses_for n)) of h
  large_below_is c k lines of is (Some s) h = (
    subst (λ (r : Option Lines). IsTrue (is_some r)) (sym is) refl,
    subst (λ n. PassesLimit (clauses_for n) s.vars s.clauses) of h,
  )

  abbrev pub WrongSize : Claim → Option Sizes → Type 0
  WrongSize claim found =
      MatchOption found (HasRightSize clauses_for claim)
      (λ (s : Sizes). (¬ HasRightSize clauses_for claim) × (s.vars ≡ (clauses_for (refuted_below claim)).vars)
      × (s.clauses ≡ length (clauses_for (refuted_below claim)).clauses))

  of_lemmas : (k : ℕ) (lemmas : Lines) (found : Option Sizes) → Large k found
      → WrongSize (SpentConflicts k lemmas) found
  of_lemmas k lemmas None h = h
  of_lemmas k lemmas (Some s) h = ((λ not. not h.0), h.1, h.2)

  pub lemmas_size : (claim : Claim) (k : ℕ) (lemmas : Lines) → claim ≡ SpentConflicts k lemmas
      → (found : Option Sizes) → Large k found → WrongSize claim found
  lemmas_size claim k lemmas is found h =
      subst (λ (x : Claim). WrongSize x found) (sym is) (of_lemmas k lemmas found h)

  pub printed_size : (claim : Claim) (k vars clauses : ℕ) → claim ≡ SpentSize k vars clauses
      → (found : Option Sizes) → WrongSize (SpentSize k vars clauses) found → WrongSize claim found
  printed_size claim k vars clauses is found h = subst (λ (x : Claim). WrongSize x found) (sym is) h

  -- what is found of the claim's own clauses, where those that lines are to refute are within the limits
  pub own_size_wrong : (c : Claimed) → IsWithinBelow clauses_for c → (found : Option Sizes) → WrongSize c.claim found
      → MatchOption found (IsWithinBelow clauses_for c × HasRightSize clauses_for c.claim)
      (λ (s : Sizes). HasWrongSize clauses_for c s.vars s.clauses)
  own_size_wrong c within None h = (within, h)
  own_size_wrong c within (Some s) h = own within h.0 h.1 h.2
