use Rattle.egraph.proofs.Lists.{one_row}
use Rattle.egraph.proofs.Merging.{has_made, has_present, operands_have, current_has}
use Rattle.egraph.proofs.laws.rows_name_present_classes.Goals as goal

pub returns : goal.returns
returns g c =
    let s = g.O.Operator.signature in
    record {
      present = λ x class is h. record { made = has_made s x is class h; itself = has_present s x is class h };
      operands = λ x r is h. operands_have s x is r h;
      current = λ x class is l. current_has s x is class l;
      one_row = λ rows r t apart h k e. one_row rows r t apart h k e;
    }
