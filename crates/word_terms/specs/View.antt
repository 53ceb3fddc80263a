-- The tree that a term stands for.
use Rattle.std.specs.Prelude.{List, map}
use Rattle.word_terms.specs.Tree.{Tree, variable, application, operands_of}
use Rattle.word_terms.specs.declared.term.Term.{Term, Term-F, fold-Term}

-- one level, where each operand is already its tree
abbrev pub tree_step : {O : Type 0} → Term-F O (Tree O) → Tree O
tree_step (Term-F.Var n) = variable n
tree_step (Term-F.App op operands) = application op (operands_of operands.items)

unfoldable pub tree_of : {O : Type 0} → Term O → Tree O
tree_of {O} t = fold-Term O (Tree O) tree_step t

abbrev pub trees_of : {O : Type 0} → List (Term O) → List (Tree O)
trees_of ts = map tree_of ts
