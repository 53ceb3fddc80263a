use Rattle.std.proofs.Common.{◌∙◌, ◌==◌, ℕ, List, ap, map, sym, true, get_or}
use Rattle.std.proofs.lemmas.List.{take_all}
use Rattle.graph_meaning.specs.WellFormed.{next_class}
use Rattle.cycle_encoding.specs.Variables.{classes_of}
use Rattle.cycle_encoding.proofs.Marking.{and_true, mark_step}
use Rattle.slot_capacity.specs.Makers.{has}
use Rattle.slot_capacity.proofs.sets.marked.Goals as goal

pub loop-class-preserved : goal.loop-class-preserved
loop-class-preserved c =
    let class = get_or c.args.classes.now c.loop-class.class-index 0 in
    mark_step (λ (x y : ℕ). y == x) c.args.classes.now c.loop-class.class-index 0 (next_class c.args.facts.now.rows)
    class true c.loop-class.marks.items c.mark.new.marks.items c.loop-class-test.true
    (λ x. sym (and_true (class == x))) c.loop-class.invariant c.mark.ensures

pub returns : goal.returns
returns c =
    c.loop-class.invariant
    ∙ ap (λ (xs : List ℕ). map (has xs) (classes_of c.args.facts.now))
    (take_all c.loop-class.class-index c.args.classes.now c.loop-class-test.false)
