use Rattle.std.proofs.Common.{List, Bool, ◌∙◌, ap, get_or, length, arith}
use Rattle.std.proofs.lemmas.List.FromFn.{get_or-map-range_with_len, length-map-range_with_len}
use Rattle.graph_meaning.specs.WellFormed.{next_class}
use Rattle.cycle_encoding.specs.Shapes.{numbered}
use Rattle.order_encoding.specs.LiveVariables.{is_pooled}
use Rattle.order_encoding.proofs.needs.is_marked.Goals as goal

pub returns-then-class-marked : goal.returns-then-class-marked
returns-then-class-marked c =
    let size = ap (λ (xs : List Bool). length xs) c.requires.marks ∙ length-map-range_with_len (is_pooled c.args.marked.now.facts.now (numbered 0 c.args.marked.now.launches.now)) 0 (next_class c.args.marked.now.facts.now.rows) in
    let past = c.if-class-marked.true in
    let below = c.requires.class in
    absurd (omega arith)

pub returns : goal.returns
returns c =
    ap (λ (xs : List Bool). get_or xs c.args.class _) c.requires.marks
    ∙ get_or-map-range_with_len (is_pooled c.args.marked.now.facts.now (numbered 0 c.args.marked.now.launches.now)) 0 (next_class c.args.marked.now.facts.now.rows) c.args.class c.args.class _ c.requires.class (omega arith)
