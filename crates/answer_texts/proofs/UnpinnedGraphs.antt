-- Graphs of version 1 have no pins.
use Rattle.std.proofs.Common.{◌≡◌, ℕ, List, Option, None, Some, refl, arith}
use Rattle.graph_meaning.specs.Graphs.{HasNoPins}
use Rattle.graph_meaning.specs.declared.graphs.LaunchGraph.{LaunchGraph}
use Rattle.launch_graph.specs.GraphLines.{PinFits}
use Rattle.launch_graph.specs.GraphTexts.{IsGraphOf}
use Rattle.text_core.specs.Lines.{Line}

no_pin : (version : ℕ) (pin : Option ℕ) → version ≡ 1 → PinFits version pin → pin ≡ None
no_pin version None first fits = refl
no_pin version (Some r) first fits = absurd (let second = fits.0 in omega (arith, first, second))

pub unpinned_at : (lines : List Line) (version from next : ℕ) (g : LaunchGraph) → IsGraphOf version lines from next g
    → version ≡ 1 → HasNoPins g
unpinned_at lines version from next g at first = λ k d lt. no_pin version _ first (at.are.sets k d lt).2
