use Rattle.code_check.proofs.Comparisons.{leaf_found}
use Rattle.code_check.proofs.comparing.find_leaf.Goals as goal

pub returns : goal.returns
returns c = leaf_found c.args.graph.now c.args.op c.class_of.result c.class_of.ensures.row
