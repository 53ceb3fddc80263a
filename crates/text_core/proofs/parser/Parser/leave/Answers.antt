use Rattle.std.proofs.Common.{ap, ◌∙◌, ◌++◌, ◌∷◌, [], map, Vec, Global}
use Rattle.std.proofs.lemmas.Result.{on_ok_weaker}
use Rattle.text_core.specs.declared.sexps.Sexp.{Sexp}
use Rattle.text_core.specs.declared.sexps.Sexp.TheVariants
use Rattle.text_core.specs.Sexps.{all_of, sexp_tree}
use Rattle.text_core.specs.Trees.{SexpTree, list}
use Rattle.text_core.proofs.Forests.{tree_list}
use Rattle.text_core.proofs.parser.Parser.leave.Goals as goal

-- The list is that of the parts so far, behind the trees before its parenthesis.
pub returns-clause-parts : goal.returns-clause-parts
returns-clause-parts c =
    let place = c.args.list.place in
    let inner = c.replace-parts.result in
    on_ok_weaker c.add.result
    (λ e.
    e ∙ (ap (λ (v : Vec Sexp Global). map sexp_tree v.items ++ sexp_tree (TheVariants.List place inner) ∷ []) c.replace-parts.ensures.after
    ∙ ap (λ (t : SexpTree). map sexp_tree c.args.list.before.items ++ t ∷ []) (tree_list place inner ∙ ap (λ (v : Vec Sexp Global). list place (all_of (map sexp_tree v.items))) c.replace-parts.ensures.value)))
    c.add.ensures.parts
