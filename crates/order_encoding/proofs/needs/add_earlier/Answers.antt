use Rattle.std.proofs.Common.{ℕ, ◌≤◌, ◌<◌, ◌∙◌, List, refl, ap, subst, arith}
use Rattle.std.specs.Prelude.{length}
use Rattle.cycle_encoding.specs.Shapes.{implied, numbered}
use Rattle.cycle_encoding.specs.Steps.{with_clauses}
use Rattle.order_encoding.specs.LiveVariables.{Need, all_needs, pooled_classes}
use Rattle.order_encoding.specs.LiveFamilies.{was_needed}
use Rattle.order_encoding.proofs.NeedTables.{all_earlier, earlier_exist, earlier_room, earlier_step, table-next, table-part}
use Rattle.order_encoding.proofs.needs.add_earlier.Goals as goal

pub add_class_earlier-requires-clause-exist : goal.add_class_earlier-requires-clause-exist
add_class_earlier-requires-clause-exist c =
    let g = c.args.live.now.facts.now in
    let needs = c.args.live.now.needs in
    let ls = c.args.live.now.launches.now in
    let i = c.loop-class._class-index in
    let lt : i < length needs.classes.items = subst (λ (cs : List ℕ). i < length cs) c.as_slice-class-items.ensures.value c.loop-class-test.true in
    earlier_exist g needs.cycles ls needs.classes.items needs.starts.items c.requires.needs needs.first i lt c.args.cnf.now c.loop-class.cnf c.loop-class.before c.loop-class.invariant.before c.loop-class.invariant.cnf c.args.cnf.now.vars refl c.requires.exist

pub add_class_earlier-requires-clause-room : goal.add_class_earlier-requires-clause-room
add_class_earlier-requires-clause-room c =
    let g = c.args.live.now.facts.now in
    let needs = c.args.live.now.needs in
    let ls = c.args.live.now.launches.now in
    let i = c.loop-class._class-index in
    let lt : i < length needs.classes.items = subst (λ (cs : List ℕ). i < length cs) c.as_slice-class-items.ensures.value c.loop-class-test.true in
    earlier_room g needs.cycles ls needs.classes.items needs.starts.items c.requires.needs needs.first i lt c.args.cnf.now c.loop-class.cnf c.loop-class.before c.loop-class.invariant.before c.loop-class.invariant.cnf c.requires.room

pub overflow_add-before : goal.overflow_add-before
overflow_add-before c =
    let g = c.args.live.now.facts.now in
    let needs = c.args.live.now.needs in
    let ls = c.args.live.now.launches.now in
    let i = c.loop-class._class-index in
    let lt : i < length needs.classes.items = subst (λ (cs : List ℕ). i < length cs) c.as_slice-class-items.ensures.value c.loop-class-test.true in
    let part = table-part g needs.cycles ls needs.classes.items needs.starts.items c.requires.needs needs.first i lt in
    let at = c.loop-class.invariant.before in
    let exist = c.requires.exist in
    let few = c.requires.few in
    omega arith

pub loop-class-preserved : goal.loop-class-preserved
loop-class-preserved c =
    let g = c.args.live.now.facts.now in
    let needs = c.args.live.now.needs in
    let ls = c.args.live.now.launches.now in
    let i = c.loop-class._class-index in
    let lt : i < length needs.classes.items = subst (λ (cs : List ℕ). i < length cs) c.as_slice-class-items.ensures.value c.loop-class-test.true in
    let next = table-next g needs.cycles ls needs.classes.items needs.starts.items c.requires.needs needs.first i lt in
    let at = c.loop-class.invariant.before in
    record {
      before = omega arith;
      cnf = earlier_step g needs.cycles ls needs.classes.items needs.starts.items c.requires.needs needs.first i lt c.args.cnf.now c.loop-class.cnf c.loop-class.before at c.loop-class.invariant.cnf c.add_class_earlier.new.cnf c.in_ok-add_class_earlier.ensures;
    }

pub returns : goal.returns
returns c =
    let g = c.args.live.now.facts.now in
    let needs = c.args.live.now.needs in
    let ls = c.args.live.now.launches.now in
    let i = c.loop-class._class-index in
    let end : length needs.classes.items ≤ i = subst (λ (cs : List ℕ). length cs ≤ i) c.as_slice-class-items.ensures.value c.loop-class-test.false in
    let F = was_needed (numbered needs.first (all_needs needs.cycles (pooled_classes g (numbered 0 ls)))) in
    c.loop-class.invariant.cnf ∙ ap (λ (ns : List Need). with_clauses c.args.cnf.now (implied (numbered needs.first ns) F)) (all_earlier g needs.cycles ls needs.classes.items needs.starts.items c.requires.needs i end)
