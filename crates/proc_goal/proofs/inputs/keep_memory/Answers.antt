use Rattle.std.proofs.Common.{ℕ, List, None, ap, ap₂, ◌∙◌}
use Rattle.goal_meaning.specs.Views.{TargetTree}
use Rattle.word_ops.specs.declared.sorts.Op.{Op}
use Rattle.word_ops.specs.declared.sorts.Op.TheVariants.{Entry}
use Rattle.word_terms.proofs.Trees.{tree_of_application}
use Rattle.word_terms.specs.Tree.{Tree, application, operands_of}
use Rattle.word_terms.specs.View.{trees_of}
use Rattle.proc_goal.proofs.inputs.keep_memory.Goals as goal

pub returns : goal.returns
returns c =
    let target : List ℕ → Tree Op → TargetTree = λ n t. record { name = n; value = t; pin = None } in
    ap₂ target c.in_ok-name.ensures (tree_of_application Entry c.new-2.result ∙ ap (λ ts. application Entry (operands_of (trees_of ts))) c.new-2.ensures.items)
