-- What a match asks for, and a refusal, as specifications see them. From this project.
use Rattle.std.specs.Prelude.{List}
use Rattle.word_ops.specs.declared.sorts.Op.{Op}
use Rattle.word_terms.specs.View.{tree_of}
use Rattle.egraph.specs.Graph.{Graph}
use Rattle.egraph.specs.declared.faults.MergeFault.{MergeFault}
use Rattle.egraph.specs.declared.faults.MergeFault.TheVariants.{NoWorld, Memory}
use Rattle.saturation.specs.Trace.{Asked, IsRefusedMerge, IsRefused}
use Rattle.saturation.specs.declared.instance.Instance.{Instance}
use Rattle.saturation.specs.declared.faults.SaturateFault.{SaturateFault}
use Rattle.saturation.specs.declared.faults.SaturateFault.TheVariants as saturating

abbrev pub asked_of : Instance → Asked
asked_of i = record { right = tree_of i.right; places = i.places; class = i.class }

-- that there is no memory says nothing of the graph
abbrev pub RefusalIs : Asked → Graph Op → MergeFault → Type 0
RefusalIs a g (NoWorld class x y) = IsRefusedMerge a g x y
RefusalIs a g Memory = Unit {0}

abbrev pub RefusalOfAll : List Asked → Graph Op → MergeFault → Type 0
RefusalOfAll asked g (NoWorld class x y) = IsRefused asked g x y
RefusalOfAll asked g Memory = Unit {0}

abbrev pub saturate_fault : MergeFault → SaturateFault
saturate_fault (NoWorld class x y) = saturating.NoWorld class x y
saturate_fault Memory = saturating.Memory
