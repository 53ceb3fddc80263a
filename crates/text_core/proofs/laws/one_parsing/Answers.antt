use Rattle.text_core.proofs.Misplaced.{no_tree_fault}
use Rattle.text_core.proofs.Rising.{trees_placed, atoms_are_tokens}
use Rattle.text_core.proofs.Readings.{one_forest, first_tree_fault_once, earliest_by_place}
use Rattle.text_core.proofs.laws.one_parsing.Goals as goal

pub returns : goal.returns
returns c = record { trees = one_forest; placed = trees_placed; atoms = atoms_are_tokens; apart = no_tree_fault; first = first_tree_fault_once; earliest = earliest_by_place }
