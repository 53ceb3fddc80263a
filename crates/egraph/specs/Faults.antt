-- What the refusal of a merge says.
use Rattle.std.specs.Prelude.{ℕ, ◌<◌, ◌^◌}
use Rattle.word_terms.specs.Signature.{Signature}
use Rattle.egraph.specs.Graph.{Graph}
use Rattle.egraph.specs.Joined.{Clash}
use Rattle.egraph.specs.declared.faults.MergeFault.{MergeFault}
use Rattle.egraph.specs.declared.faults.MergeFault.TheVariants.{NoWorld, Memory}

-- that the merge of a and b puts two constants into one class; that there is no memory says nothing of the graph
abbrev pub FaultIs : {O : Type 0} → Signature O → Graph O → ℕ → ℕ → MergeFault → Type 0
FaultIs s g a b (NoWorld class x y) = Clash s g a b class x y
FaultIs s g a b Memory = Unit {0}

-- the class that is named was made, so its number is below 2^31
abbrev pub NamesLowClass : MergeFault → Type 0
NamesLowClass (NoWorld class x y) = class < 2 ^ 31
NamesLowClass Memory = Unit {0}
