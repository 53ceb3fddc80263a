-- The trees of the code, and one tree more.
use Rattle.std.proofs.Common.{◌≡◌, ℕ, List, [], ◌∷◌, ◌++◌, map, sym, ap, ◌∙◌, append_assoc, append-nil}
use Rattle.std.specs.declared.vec.Vec.{Vec}
use Rattle.std.specs.declared.alloc.Global.{Global}
use Rattle.text_core.specs.declared.sexps.Sexp.{Sexp}
use Rattle.text_core.specs.declared.sexps.Sexp.TheOpen as shapes
use Rattle.text_core.specs.declared.sexps.Sexp.TheFolds.{fold-roll-Sexp}
use Rattle.text_core.specs.declared.sexps.Sexp.TheVariants
use Rattle.text_core.specs.declared.tokens.Token.{Token}
use Rattle.text_core.specs.Sexps.{all_of, sexp_tree, sexp_step}
use Rattle.text_core.specs.Trees.{SexpTree, atom, list, Spells, SpellAll, no_more, one_more}

pub tree_atom : (token : Token) → sexp_tree (TheVariants.Atom token) ≡ atom token
unfolding sexp_tree
tree_atom token = ap sexp_tree (sym (TheVariants.rolls-Atom token)) ∙ fold-roll-Sexp SexpTree sexp_step (shapes.Atom token)

pub tree_list : (place : ℕ) (parts : Vec Sexp Global) → sexp_tree (TheVariants.List place parts) ≡ list place (all_of (map sexp_tree parts.items))
unfolding sexp_tree
tree_list place parts = ap sexp_tree (sym (TheVariants.rolls-List place parts)) ∙ fold-roll-Sexp SexpTree sexp_step (shapes.List place parts)

-- one tree more
pub spelled_more : (trees : List SexpTree) (tree : SexpTree) (xs ys : List Token) → SpellAll (all_of trees) xs → Spells tree ys → SpellAll (all_of (trees ++ tree ∷ [])) (xs ++ ys)
spelled_more [] tree xs ys no_more one = one_more ys [] one no_more (sym (append-nil ys))
spelled_more (t ∷ trees) tree xs ys (one_more front back first others is) one =
    one_more front (back ++ ys) first (spelled_more trees tree back ys others one) (ap (λ zs. zs ++ ys) is ∙ append_assoc front back ys)
