use Rattle.std.proofs.Common.{All, take}
use Rattle.std.specs.List.{AllZip}
use Rattle.axiom_base.specs.Rewrites.{IsRule}
use Rattle.saturation.specs.Asking.{AreUnmetOf}
use Rattle.saturation.proofs.Needed.{NeedAtLeast}
use Rattle.saturation.proofs.searching.search_rules.Given as goal

abbrev pub invariant-loop-rule : goal.invariant-loop-rule
invariant-loop-rule l = record {
  found : AllZip (AreUnmetOf l.graph) (take l.rule-index l.rules) l.found.items;
  rules : All IsRule (take l.rule-index l.rules);
  least : NeedAtLeast l.graph (take l.rule-index l.rules) l.need;
}
