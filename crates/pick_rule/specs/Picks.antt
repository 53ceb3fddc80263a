-- Which of the free variables a strategy decides next: this project.
use Rattle.std.specs.Prelude.{◌≡◌, ℕ, ◌+◌, ◌<◌, List, length}
use Rattle.pick_rule.specs.Busiest.{IsBusiest}
use Rattle.pick_rule.specs.declared.pick.Pick.{Pick}
use Rattle.pick_rule.specs.declared.pick.Pick.TheVariants.{First, Last, Busy, Activity}

-- the place, among these scores of the free variables in the order of their numbers, of the one that is decided; under
-- `Activity` any
abbrev pub PicksPlace : Pick → List ℕ → ℕ → Type 0
PicksPlace First scores place = place ≡ 0
PicksPlace Last scores place = place + 1 ≡ length scores
PicksPlace Busy scores place = IsBusiest scores (length scores) place
PicksPlace Activity scores place = place < length scores
