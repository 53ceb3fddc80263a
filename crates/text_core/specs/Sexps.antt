-- The trees that the trees of the code stand for. Source: this project.
use Rattle.std.specs.Prelude.{List, [], ◌∷◌, map}
use Rattle.text_core.specs.declared.sexps.Sexp.{Sexp}
use Rattle.text_core.specs.declared.sexps.Sexp.TheOpen.{Sexp-F, Atom, List as ListOf}
use Rattle.text_core.specs.declared.sexps.Sexp.TheFolds.{fold-Sexp}
use Rattle.text_core.specs.Trees.{SexpTree, SexpTrees, atom, list, none, more}

abbrev pub all_of : List SexpTree → SexpTrees
all_of [] = none
all_of (tree ∷ trees) = more tree (all_of trees)

abbrev pub sexp_step : Sexp-F SexpTree → SexpTree
sexp_step (Atom token) = atom token
sexp_step (ListOf place parts) = list place (all_of parts.items)

-- a tree, apart from how its lists lie in memory
unfoldable pub sexp_tree : Sexp → SexpTree
sexp_tree sexp = fold-Sexp SexpTree sexp_step sexp

abbrev pub sexp_trees : List Sexp → SexpTrees
sexp_trees sexps = all_of (map sexp_tree sexps)
