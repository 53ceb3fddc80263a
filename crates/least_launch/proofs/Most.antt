-- Whether of some schedule it isn't known that it has the fewest launches, schedule by schedule.
use Rattle.std.proofs.Common.{◌≡◌, ℕ, ◌+◌, ◌<◌, Bool, true, false, List, [], ◌∷◌, length, take, get_or, refl, sym, ap, ◌∙◌, Option}
use Rattle.std.specs.Prelude.{◌||◌}
use Rattle.std.specs.List.{list_any}
use Rattle.std.proofs.lemmas.List.{take_more}
use Rattle.std.proofs.lemmas.List.Folds.{list_any-append}
use Rattle.least_launch.specs.LeastAnswers.{is_most_of, some_is_most}
use Rattle.least_launch.specs.declared.tails.Tail.{Tail}

or_false : (a b : Bool) → (a || (b || false)) ≡ (a || b)
or_false true b = refl
or_false false true = refl
or_false false false = refl

pub some_more : (said : List (Option Tail)) (i : ℕ) (d : Option Tail) (some new : Bool) → i < length said
    → some ≡ some_is_most (take i said) → new ≡ (some || is_most_of (get_or said i d))
    → new ≡ some_is_most (take (i + 1) said)
some_more said i d some new lt so_far is =
    is
    ∙ ap (λ b. b || is_most_of (get_or said i d)) so_far
    ∙ sym (ap some_is_most (take_more said i d lt)
    ∙ list_any-append is_most_of (take i said) (get_or said i d ∷ [])
    ∙ or_false (list_any is_most_of (take i said)) (is_most_of (get_or said i d)))
