use Rattle.std.proofs.Common.{subst}
use Rattle.egraph.specs.Sorts.{IsOfSort}
use Rattle.egraph.proofs.Sorts.{row_of_sort, operand_of_sort, one_sort, are_made, fit_operator, of_one_sort}
use Rattle.egraph.proofs.laws.classes_have_one_sort.Goals as goal

pub returns : goal.returns
returns g c =
    let s = g.O.Operator.signature in
    record {
      rows = λ x r is h. row_of_sort s x is r h;
      constants = λ x class n is h.
          subst (λ k. IsOfSort s x k _) h.of_class
          (subst (IsOfSort s x h.row.class) (g.met.O.Operator.constant_is_word h.row.op n h.is) (row_of_sort s x is h.row h.there));
      operands = λ x r at is h l. operand_of_sort s x is r at h l;
      one = λ x class sort other is h k. one_sort s x is class sort other h k;
      made = λ x sort_at classes h. are_made s x sort_at classes h;
      fit = λ x op classes is h. fit_operator s x is op classes h;
      merge = λ x a b sort is h k. of_one_sort s x is a b sort h k;
    }
