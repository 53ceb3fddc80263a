use Rattle.std.proofs.Common.{subst, sym, arith}
use Rattle.std.proofs.lemmas.Bool.Decides.{nat_tests}
use Rattle.word_terms.specs.Keys.{op_signature}
use Rattle.word_terms.specs.View.{tree_of}
use Rattle.word_terms.specs.Sorting.{HasSort}
use Rattle.axiom_base.proofs.Sides.{found_are_its_own}
use Rattle.axiom_base.proofs.rule.Rule.new.Goals as goal
use Rattle.axiom_base.proofs.rule.Rule.new.Goals.{else-has_sort-via-then-has_sort+else-has_sort-2, else-has_sort-via-else-has_sort}

pub returns-else-has_sort-clause-none : goal.returns-else-has_sort-clause-none
returns-else-has_sort-clause-none c = λ variables rule.
    let found = c.in_ok-variables.variables in
    let both = found_are_its_own (tree_of c.args.left) (tree_of c.args.right) c.in-Some.sort found c.in_ok-variables.ensures.found c.in_ok-variables.ensures.all c.in-Some.ensures.1 variables rule in
    let left : HasSort op_signature c.as_slice-sorts.result.now c.in-Some.sort (tree_of c.args.left) = subst (λ x. HasSort op_signature x c.in-Some.sort (tree_of c.args.left)) (sym c.as_slice-sorts.ensures) both.0 in
    let right : HasSort op_signature c.as_slice-sorts.result.now c.in-Some.sort (tree_of c.args.right) = subst (λ x. HasSort op_signature x c.in-Some.sort (tree_of c.args.right)) (sym c.as_slice-sorts.ensures) both.1 in
    elim c.else-has_sort.branch [
      | else-has_sort-via-then-has_sort+else-has_sort-2 w ↦ let h = w.has_sort-then-has_sort.ensures.1 right in grind (arith, nat_tests, h, w.if-has_sort-2)
      | else-has_sort-via-else-has_sort w ↦ let h = c.has_sort.ensures.1 left in grind (arith, nat_tests, h, w.if-has_sort)
    ]
