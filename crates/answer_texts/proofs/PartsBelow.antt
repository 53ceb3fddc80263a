-- The lines for one cycle less, where there is such a number.
use Rattle.std.proofs.Common.{◌≡◌, ◌≢◌, ℕ, zero, suc, ◌-◌, List, refl, sym, subst, arith, codes, None, Some}
use Rattle.cnf_core.specs.declared.line.Lines.{Lines}
use Rattle.text_core.specs.Lines.{Line}
use Rattle.text_core.specs.Faults.{IsFaultBy}
use Rattle.text_core.specs.declared.faults.TextFault.{TextFault}
use Rattle.answer_texts.specs.AnswerParts.{BelowFault, BelowPart, CountedFault, CountedPart}
use Rattle.answer_texts.proofs.PartsFaults.{sooner}

pub below_none : (lines : List Line) (k from : ℕ) → k ≡ 0 → BelowPart lines k from from None
below_none lines k from e = subst (λ n. BelowPart lines n from from None) (sym e) (record { stays = refl; is = refl })

pub below_some : (lines : List Line) (k from next : ℕ) (read : Lines) → k ≢ 0
    → CountedPart lines (codes "refute") (k - 1) from next read → BelowPart lines k from next (Some read)
below_some lines zero from next read some h = absurd (some refl)
below_some lines (suc j) from next read some h =
    let less : suc j - 1 ≡ j = omega arith in
    record {
      middle = next;
      said = read;
      first = subst (λ n. CountedPart lines (codes "refute") n from next read) less h;
      second = record { stays = refl; is = refl };
    }

pub below_fault : (lines : List Line) (k from : ℕ) (f : TextFault) → k ≢ 0
    → IsFaultBy (CountedFault lines (codes "refute") (k - 1) from) f → IsFaultBy (BelowFault lines k from) f
below_fault lines zero from f some h = absurd (some refl)
below_fault lines (suc j) from f some h =
    let less : suc j - 1 ≡ j = omega arith in
    sooner _ _ _ from f (subst (λ n. IsFaultBy (CountedFault lines (codes "refute") n from) f) less h)
