-- Words that may stand, one more at a time.
use Rattle.std.proofs.Common.{◌≡◌, ℕ, ◌+◌, ◌<◌, List, length, Bool, true, false, ◌==◌, get_or, Some, refl, sym, subst, ◌∙◌, arith}
use Rattle.std.proofs.lemmas.Bool.Decides.{nat_tests}
use Rattle.std.proofs.lemmas.Option.{slice_get-get_or}
use Rattle.std.specs.Prelude.{slice_get}
use Rattle.alpha_machine.specs.Runs.{MayStandAt}

some_is : {X : Type 0} (a b : X) → Some a ≡ Some b → a ≡ b
some_is a b e = cc

here_stands : (words : List ℕ) (at word : ℕ) → at < length words → MayStandAt (length words) at (get_or words at 0) → slice_get words at ≡ Some word → MayStandAt (length words) at word
here_stands words at word within stands there =
    let same : get_or words at 0 ≡ word = (let read = slice_get-get_or words at 0 within in some_is (get_or words at 0) word (sym read ∙ there)) in
    subst (MayStandAt (length words) at) same stands

pub one_more_stands : (words : List ℕ) (at : ℕ) → at < length words → MayStandAt (length words) at (get_or words at 0) →
    ((j word : ℕ) → j < at → slice_get words j ≡ Some word → MayStandAt (length words) j word) →
    (j word : ℕ) → j < at + 1 → slice_get words j ≡ Some word → MayStandAt (length words) j word
one_more_stands words at within stands before j word less there = by_place (j == at) refl
  where
    by_place : (same : Bool) → (j == at) ≡ same → MayStandAt (length words) j word
    by_place true e =
        let same : at ≡ j = grind (arith, nat_tests, e) in
        subst (λ n. (slice_get words n ≡ Some word) → MayStandAt (length words) n word) same (here_stands words at word within stands) there
    by_place false e = (let earlier : j < at = grind (arith, nat_tests, e, less) in before j word earlier there)
