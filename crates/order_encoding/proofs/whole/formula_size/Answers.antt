use Rattle.order_encoding.proofs.whole.formula_size.Goals as goal

pub sizes_with-requires-clause-capacity : goal.sizes_with-requires-clause-capacity
sizes_with-requires-clause-capacity c = record {
  is = c.in_ok-capacity.ensures.value;
  small = c.in_ok-capacity.ensures.small;
  apart = c.in_ok-capacity.ensures.apart;
}
