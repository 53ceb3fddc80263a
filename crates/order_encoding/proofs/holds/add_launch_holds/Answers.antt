use Rattle.std.proofs.Common.{◌≡◌, ◌<◌, ◌+◌, ◌-◌, ◌∙◌, ◌&&◌, Option, true, false, refl, sym, ap, arith}
use Rattle.std.specs.Prelude.{option_to_list}
use Rattle.std.specs.Option.{option_map_or}
use Rattle.machine_table.specs.declared.tables.InstrKind.{InstrKind}
use Rattle.graph_meaning.specs.declared.graphs.LaunchGraph.{LaunchGraph}
use Rattle.schedule_meaning.specs.Launches.{class_at, gives_word, is_pool, takes_pool}
use Rattle.cycle_encoding.specs.Shapes.{numbered, vars_of}
use Rattle.cycle_encoding.proofs.Adding.{vars-with}
use Rattle.cycle_encoding.proofs.Blocks.{vars-over}
use Rattle.cycle_encoding.proofs.Lost.{negated-over}
use Rattle.cycle_encoding.specs.Steps.{of_thing}
use Rattle.order_encoding.specs.LiveVariables.{all_holds, all_needs, pooled_classes}
use Rattle.order_encoding.specs.LiveFamilies.{is_hold_at, is_need_at}
use Rattle.order_encoding.proofs.AddSteps.{lits_exist}
use Rattle.order_encoding.proofs.HoldSteps.{all_while, first_hold, up_to_cycle, while_exist, while_room, while_step}
use Rattle.order_encoding.proofs.holds.add_launch_holds.Goals as goal

pub add_implied-requires-clause-lit : goal.add_implied-requires-clause-lit
add_implied-requires-clause-lit c =
    let g = c.args.live.now.facts.now in
    let k = c.args.live.now.needs.cycles in
    let needs = all_needs k (pooled_classes g (numbered 0 c.args.live.now.launches.now)) in
    let ns = numbered c.args.live.now.needs.first needs in
    let holds = all_holds c.args.live.now.table.now k in
    let hs = numbered c.args.first holds in
    let l = c.args.made.launch in
    let own = vars_of (is_hold_at l.slot l.cycle l.cycle) hs in
    lits_exist (is_hold_at l.slot l.cycle l.cycle) c.args.first c.args.cnf.now.vars holds (option_to_list c.hold_var.result) c.hold_var.ensures c.requires.exist

pub loop-step-init : goal.loop-step-init
loop-step-init c =
    let g = c.args.live.now.facts.now in
    let k = c.args.live.now.needs.cycles in
    let needs = all_needs k (pooled_classes g (numbered 0 c.args.live.now.launches.now)) in
    let ns = numbered c.args.live.now.needs.first needs in
    let holds = all_holds c.args.live.now.table.now k in
    let hs = numbered c.args.first holds in
    let l = c.args.made.launch in
    let own = vars_of (is_hold_at l.slot l.cycle l.cycle) hs in
    record { is = first_hold g ns hs l own c.args.made.var c.args.cnf.now c.add_implied.new.cnf (option_to_list c.hold_var.result) c.hold_var.ensures c.in_ok-add_implied.ensures; within = omega arith }

pub add-requires-clause-exist : goal.add-requires-clause-exist
add-requires-clause-exist c =
    let g = c.args.live.now.facts.now in
    let k = c.args.live.now.needs.cycles in
    let needs = all_needs k (pooled_classes g (numbered 0 c.args.live.now.launches.now)) in
    let ns = numbered c.args.live.now.needs.first needs in
    let holds = all_holds c.args.live.now.table.now k in
    let hs = numbered c.args.first holds in
    let l = c.args.made.launch in
    let own = vars_of (is_hold_at l.slot l.cycle l.cycle) hs in
    let step = c.loop-step.step in
    let mid = c.loop-step.cnf in
    let same = vars-with c.args.cnf.now mid (of_thing c.args.made.var (up_to_cycle g ns hs l own c.args.made.var (step - 1))) c.loop-step.invariant.is in
    let below = c.requires.launches in
    let next = c.requires.next in
    let exist = c.requires.exist in
    while_exist g ns hs l own c.args.made.var step c.loop-step.auto.step c.args.cnf.now mid c.loop-step.invariant.is c.deref.result.now (option_to_list c.need_var-need.result) (option_to_list c.hold_var-hold.result) (c.deref.ensures.value ∙ c.in_ok-clause.ensures)
    (c.need_var-need.ensures ∙ ap (λ cl. vars_of (is_need_at cl (l.cycle + step)) ns) (c.class_at.ensures ∙ ap (λ (x : LaunchGraph). class_at x l.row) c.graph.ensures)) c.hold_var-hold.ensures
    (record { above = c.requires.var; within = omega arith })
    (negated-over (is_need_at (class_at g l.row) (l.cycle + step)) c.args.live.now.needs.first mid.vars needs (omega arith))
    (vars-over (is_hold_at l.slot l.cycle (l.cycle + step)) c.args.first mid.vars holds (omega arith))

pub add-requires-clause-room : goal.add-requires-clause-room
add-requires-clause-room c =
    let g = c.args.live.now.facts.now in
    let k = c.args.live.now.needs.cycles in
    let needs = all_needs k (pooled_classes g (numbered 0 c.args.live.now.launches.now)) in
    let ns = numbered c.args.live.now.needs.first needs in
    let holds = all_holds c.args.live.now.table.now k in
    let hs = numbered c.args.first holds in
    let l = c.args.made.launch in
    let own = vars_of (is_hold_at l.slot l.cycle l.cycle) hs in
    let takes : takes_pool g l ≡ true = sym (c.takes_pool.ensures ∙ ap (λ (i : Option InstrKind). is_pool l.to && option_map_or gives_word i false) c.instr_at.ensures) ∙ c.if-not-takes_pool.false in
    let step = c.loop-step.step in
    let lt : step < k - l.cycle = (let a = c.loop-step-test.true in let b = c.saturating_sub-step-end.ensures in omega arith) in
    while_room g ns hs l own c.args.made.var step c.loop-step.auto.step c.args.cnf.now c.loop-step.cnf c.loop-step.invariant.is k takes refl lt c.requires.room

pub loop-step-preserved : goal.loop-step-preserved
loop-step-preserved c =
    let g = c.args.live.now.facts.now in
    let k = c.args.live.now.needs.cycles in
    let needs = all_needs k (pooled_classes g (numbered 0 c.args.live.now.launches.now)) in
    let ns = numbered c.args.live.now.needs.first needs in
    let holds = all_holds c.args.live.now.table.now k in
    let hs = numbered c.args.first holds in
    let l = c.args.made.launch in
    let own = vars_of (is_hold_at l.slot l.cycle l.cycle) hs in
    let step = c.loop-step.step in
    let lt : step < k - l.cycle = (let a = c.loop-step-test.true in let b = c.saturating_sub-step-end.ensures in omega arith) in
    let from = c.loop-step.auto.step in
    record {
      is = while_step g ns hs l own c.args.made.var step c.loop-step.auto.step c.args.cnf.now c.loop-step.cnf c.loop-step.invariant.is c.add.new.self c.deref.result.now (option_to_list c.need_var-need.result) (option_to_list c.hold_var-hold.result) (c.deref.ensures.value ∙ c.in_ok-clause.ensures)
          (c.need_var-need.ensures ∙ ap (λ cl. vars_of (is_need_at cl (l.cycle + step)) ns) (c.class_at.ensures ∙ ap (λ (x : LaunchGraph). class_at x l.row) c.graph.ensures)) c.hold_var-hold.ensures c.in_ok-add.ensures.ok;
      within = omega (arith, lt, from);
    }

pub returns : goal.returns
returns c =
    let g = c.args.live.now.facts.now in
    let k = c.args.live.now.needs.cycles in
    let needs = all_needs k (pooled_classes g (numbered 0 c.args.live.now.launches.now)) in
    let ns = numbered c.args.live.now.needs.first needs in
    let holds = all_holds c.args.live.now.table.now k in
    let hs = numbered c.args.first holds in
    let l = c.args.made.launch in
    let own = vars_of (is_hold_at l.slot l.cycle l.cycle) hs in
    let takes : takes_pool g l ≡ true = sym (c.takes_pool.ensures ∙ ap (λ (i : Option InstrKind). is_pool l.to && option_map_or gives_word i false) c.instr_at.ensures) ∙ c.if-not-takes_pool.false in
    let step = c.loop-step.step in
    let end : step - 1 ≡ k - (l.cycle + 1) = (let a = c.loop-step-test.false in let b = c.loop-step.auto.step in let d = c.loop-step.invariant.within in let e = c.saturating_sub-step-end.ensures in omega (arith, a, b, d, e)) in
    c.loop-step.invariant.is ∙ all_while g k ns hs l c.args.made.var step c.args.cnf.now takes end
