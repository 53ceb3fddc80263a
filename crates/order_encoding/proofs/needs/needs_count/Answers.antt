use Rattle.std.proofs.Common.{◌≡◌, ◌∙◌, ◌*◌, ℕ, List, ap, sym, arith}
use Rattle.std.specs.Prelude.{length}
use Rattle.cycle_encoding.specs.Shapes.{numbered}
use Rattle.order_encoding.specs.LiveVariables.{all_needs, pooled_classes}
use Rattle.order_encoding.proofs.NeedTables.{needs-count}
use Rattle.order_encoding.proofs.needs.needs_count.Goals as goal

pub overflow_mul-result : goal.overflow_mul-result
overflow_mul-result c =
    let nv = c.args.live.now.needs in
    let many : length (all_needs nv.cycles (pooled_classes c.args.live.now.facts.now (numbered 0 c.args.live.now.launches.now))) ≡ c.len.result * nv.cycles = ap (λ (cs : List ℕ). length (all_needs nv.cycles cs)) (sym c.requires.needs.classes_are) ∙ needs-count nv.cycles nv.classes.items ∙ ap (λ m. m * nv.cycles) (sym (c.len.ensures ∙ nv.classes.ok.0)) in
    let few = c.requires.few in
    omega (arith, many, few)

pub returns : goal.returns
returns c =
    let nv = c.args.live.now.needs in
    let many : length (all_needs nv.cycles (pooled_classes c.args.live.now.facts.now (numbered 0 c.args.live.now.launches.now))) ≡ c.len.result * nv.cycles = ap (λ (cs : List ℕ). length (all_needs nv.cycles cs)) (sym c.requires.needs.classes_are) ∙ needs-count nv.cycles nv.classes.items ∙ ap (λ m. m * nv.cycles) (sym (c.len.ensures ∙ nv.classes.ok.0)) in
    sym many
