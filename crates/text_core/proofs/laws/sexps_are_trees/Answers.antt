use Rattle.text_core.proofs.Forests.{tree_atom, tree_list}
use Rattle.text_core.proofs.laws.sexps_are_trees.Goals as goal

pub returns : goal.returns
returns c = record { atoms = tree_atom; lists = tree_list }
