use mir.Val.{bool_byte}
use Rattle.std.proofs.Common.{◌≡◌, ◌∙◌, Bool, true, false, refl, sym, ap}
use Rattle.graph_meaning.specs.declared.graphs.LaunchGraph.{LaunchGraph}
use Rattle.schedule_meaning.specs.Launches.{class_at, gives_word}
use Rattle.cycle_encoding.specs.Counts.{one_if}
use Rattle.cycle_encoding.specs.Variables.{takes}
use Rattle.cycle_encoding.proofs.Going.{goes_is}
use Rattle.cycle_encoding.proofs.reaching.goes.Goals as goal

byte_is : (b : Bool) → bool_byte b ≡ one_if b
byte_is true = refl
byte_is false = refl

pub returns-clause-value : goal.returns-clause-value
returns-clause-value c =
    let g = c.args.facts.now in
    let i = c.in-Some.instr in
    let w : gives_word i ≡ true = sym c.gives_word.ensures ∙ c.if-not-gives_word.false in
    let class = c.class_at-class.ensures ∙ ap (λ (x : LaunchGraph). class_at x c.args.row) c.graph.ensures in
    c.from.ensures ∙ byte_is c.takes.result ∙ ap one_if (c.takes.ensures ∙ ap (λ n. takes g c.args.allocation i n c.args.set) class) ∙ sym (goes_is g c.args.allocation c.args.row c.args.set i (sym c.in-Some.ensures) w)
