-- When a launch may go to a pinned set, by the answers of what was called.
use Rattle.std.proofs.Common.{◌≡◌, ◌↔◌, ℕ, List, sym, ◌∙◌, false}
use Rattle.std.specs.Prelude.{IsTrue}
use Rattle.std.proofs.lemmas.Bool.{false≢true}
use Rattle.graph_meaning.specs.declared.graphs.SetClass.{SetClass}
use Rattle.graph_meaning.specs.declared.graphs.LaunchGraph.{LaunchGraph}
use Rattle.schedule_meaning.specs.Launches.{gives}
use Rattle.schedule_meaning.specs.Fits.{CanGoToPin}
use Rattle.schedule_meaning.specs.declared.schedules.Allocation.{Allocation}
use Rattle.schedule_meaning.specs.declared.schedules.Launch.{Launch}
use Rattle.schedule_meaning.proofs.Uses.{gives_back}

module _ (g : LaunchGraph) (allocation : Allocation) (ls : List Launch) (l : Launch) (s : SetClass) (r : ℕ) where
  pub no_other_word : gives g s.class l ≡ false → IsTrue false ↔ CanGoToPin g allocation ls l s r
  no_other_word f = ((λ e. absurd (false≢true e)), λ h. absurd (false≢true (sym f ∙ gives_back g s.class l h.gives)))
