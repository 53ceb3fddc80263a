-- What is done with a graph after some rounds. No public clause rests on this. From this project.
use Rattle.std.specs.Prelude.{◌≡◌, ◌≢◌, ℕ, ◌+◌, ◌≤◌, Bool, true, false, List, length, map, All}
use Rattle.word_ops.specs.declared.sorts.Op.{Op}
use Rattle.axiom_base.specs.Rewrites.{IsRule}
use Rattle.axiom_base.specs.Schemes.{AddedRules, schemes}
use Rattle.egraph.specs.Graph.{Graph}
use Rattle.saturation.specs.Asking.{AreAsked}
use Rattle.saturation.specs.Grown.{IsQuiet, IsFull}
use Rattle.saturation.specs.Instances.{asked_of}
use Rattle.saturation.specs.Trace.{Asked, operators_asked}
use Rattle.saturation.specs.declared.stepping.Step.{Step}
use Rattle.saturation.specs.declared.stepping.Step.TheVariants.{End, Round}
use Rattle.graph_meaning.specs.declared.stops.Stop.TheVariants.{Quiet, Rounds, Full}

-- some match is unmet, and with what they need the rows pass the limit
abbrev pub IsOver : AddedRules → Graph Op → ℕ → Type 0
IsOver added g nodes = (¬ IsQuiet added g) × IsFull added g nodes

-- what another round asks for: some of it, and not more than there is room for
pub record CallsForRound (added : AddedRules) (g : Graph Op) (last : Bool) (nodes : ℕ) (asked : List Asked) :
    Type 0 where
  pub are : AreAsked g (schemes added) asked
  pub some : length asked ≢ 0
  pub more : last ≡ false
  pub within : length g.rows + operators_asked asked ≤ nodes
  pub rules : All IsRule added.axioms

-- the step is the one that a graph with so many rows allowed calls for; `last` says that all rounds are done
abbrev pub StepFits : AddedRules → Graph Op → Bool → ℕ → Step → Type 0
StepFits added g last nodes (End Quiet) = IsQuiet added g
StepFits added g last nodes (End Rounds) = (¬ IsQuiet added g) × (last ≡ true)
StepFits added g last nodes (End Full) = (¬ IsQuiet added g) × (last ≡ false) × IsFull added g nodes
StepFits added g last nodes (Round asked) = CallsForRound added g last nodes (map asked_of asked.items)
