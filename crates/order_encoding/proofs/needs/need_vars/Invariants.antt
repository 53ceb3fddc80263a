use Rattle.std.proofs.Common.{◌≡◌, ◌*◌, ◌≤◌, length, map}
use Rattle.std.specs.List.{filter, range_with_len}
use Rattle.cycle_encoding.specs.Shapes.{numbered}
use Rattle.order_encoding.specs.LiveVariables.{is_pooled}
use Rattle.order_encoding.proofs.NeedPlaces.{needs_below, start_of}
use Rattle.order_encoding.proofs.needs.need_vars.Given as goal

abbrev pub invariant-loop-class : goal.invariant-loop-class
invariant-loop-class l = record {
  classes : l.classes.items ≡ filter (is_pooled l.fn.facts (numbered 0 l.launches)) (range_with_len 0 l.class);
  starts : l.starts.items ≡ map (start_of (is_pooled l.fn.facts (numbered 0 l.launches)) l.k) (range_with_len 0 l.class);
  start : l.start ≡ needs_below (is_pooled l.fn.facts (numbered 0 l.launches)) l.k l.class;
  small : l.start ≤ l.class * 24;
  few : length l.classes.items ≤ l.class;
}
