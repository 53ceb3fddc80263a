-- The status with the greatest code, result by result.
use Rattle.std.proofs.Common.{◌≡◌, ℕ, ◌+◌, ◌<◌, List, [], ◌∷◌, ◌++◌, length, take, get_or, fold, refl, sym, ap, ◌∙◌}
use Rattle.std.proofs.lemmas.List.{take_more}
use Rattle.denali_run.specs.TextAnswers.{greatest_status, status_of}
use Rattle.reports.specs.Statuses.{greater}
use Rattle.denali_run.specs.declared.results.Answered.{Answered}
use Rattle.reports.specs.declared.statuses.Status.{Status}
use Rattle.reports.specs.declared.statuses.Status.TheVariants.{Done}

fold_append : {A B : Type 0} (f : A → B → A) (a : A) (xs : List B) (x : B) → fold f a (xs ++ x ∷ []) ≡ f (fold f a xs) x
fold_append f a [] x = refl
fold_append f a (y ∷ ys) x = fold_append f (f a y) ys x

pub status_more : (results : List Answered) (i : ℕ) (d : Answered) (status new : Status) → i < length results
    → status ≡ greatest_status (take i results) → new ≡ greater status (status_of (get_or results i d))
    → new ≡ greatest_status (take (i + 1) results)
status_more results i d status new lt so_far is =
    is ∙ ap (λ s. greater s (status_of (get_or results i d))) so_far
    ∙ sym (ap greatest_status (take_more results i d lt)
    ∙ fold_append (λ s r. greater s (status_of r)) Done (take i results) (get_or results i d))
