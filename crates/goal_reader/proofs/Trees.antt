-- The tree of a term, variable by variable and application by application.
use Rattle.std.proofs.Common.{◌≡◌, ℕ, [], ap, sym, ◌∙◌}
use Rattle.std.specs.declared.vec.Vec.{Vec}
use Rattle.std.specs.declared.alloc.Global.{Global}
use Rattle.word_terms.specs.Tree.{Tree, variable, application, none, operands_of}
use Rattle.word_terms.specs.View.{tree_step, tree_of, trees_of}
use Rattle.word_terms.specs.declared.term.Term.{Term, Term-F, fold-roll-Term}
use Rattle.word_terms.specs.declared.term.Term.TheVariants.{Var, App, rolls-Var, rolls-App}

pub tree_of_variable : {O : Type 0} (n : ℕ) → tree_of {O = O} (Var n) ≡ variable n
unfolding tree_of
tree_of_variable {O} n = ap (tree_of {O = O}) (sym (rolls-Var n)) ∙ fold-roll-Term O (Tree O) tree_step (Term-F.Var n)

pub tree_of_application : {O : Type 0} (op : O) (v : Vec (Term O) Global) → tree_of (App op v) ≡ application op (operands_of (trees_of v.items))
unfolding tree_of
tree_of_application {O} op v = ap (tree_of {O = O}) (sym (rolls-App op v)) ∙ fold-roll-Term O (Tree O) tree_step (Term-F.App op v)

pub tree_of_constant : {O : Type 0} (op : O) (v : Vec (Term O) Global) → v.items ≡ [] → tree_of (App op v) ≡ application op none
tree_of_constant op v e = tree_of_application op v ∙ ap (λ ts. application op (operands_of (trees_of ts))) e
