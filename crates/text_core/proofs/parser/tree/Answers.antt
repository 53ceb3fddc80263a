use Rattle.std.proofs.Common.{Vec, Global}
use Rattle.std.proofs.lemmas.Result.{IfOk-weaker}
use Rattle.text_core.specs.declared.sexps.Sexp.{Sexp}
use Rattle.text_core.specs.Nesting.{IsFirstTreeFault}
use Rattle.text_core.specs.Sexps.{sexp_trees}
use Rattle.text_core.specs.Trees.{HasTrees}
use Rattle.text_core.proofs.Outcomes.{gives, refuses}
use Rattle.text_core.proofs.Readings.{one_forest, no_first_tree_fault, first_tree_fault_once}
use Rattle.text_core.proofs.Within.{few_trees}
use Rattle.text_core.proofs.parser.tree.Goals as goal

pub returns-clause-read : goal.returns-clause-read
returns-clause-read c =
    let tokens = c.args.tokens.now in
    gives (λ (v : Vec Sexp Global). sexp_trees v.items) (HasTrees tokens) (IsFirstTreeFault tokens) (one_forest tokens) (no_first_tree_fault tokens) (first_tree_fault_once tokens) c.forest.result c.forest.ensures.trees c.forest.ensures.fault

pub returns-clause-refused : goal.returns-clause-refused
returns-clause-refused c =
    let tokens = c.args.tokens.now in
    refuses (λ (v : Vec Sexp Global). sexp_trees v.items) (HasTrees tokens) (IsFirstTreeFault tokens) (one_forest tokens) (no_first_tree_fault tokens) (first_tree_fault_once tokens) c.forest.result c.forest.ensures.trees c.forest.ensures.fault

pub returns-clause-few : goal.returns-clause-few
returns-clause-few c = IfOk-weaker c.forest.result _ _ (λ (v : Vec Sexp Global). few_trees v.items c.args.tokens.now) c.forest.ensures.trees
