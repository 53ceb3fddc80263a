use Rattle.std.proofs.Common.{◌≡◌, ◌∙◌, List, sym, ap, subst}
use Rattle.std.specs.List.{All}
use Rattle.cnf_core.specs.declared.literal.Lit.{Lit}
use Rattle.cnf_core.specs.Formula.{IsLitOf}
use Rattle.graph_meaning.specs.declared.graphs.LaunchGraph.{LaunchGraph}
use Rattle.schedule_meaning.specs.Launches.{class_at}
use Rattle.cycle_encoding.specs.Shapes.{numbered, vars_of}
use Rattle.cycle_encoding.proofs.Blocks.{vars-over}
use Rattle.cycle_encoding.proofs.Built.{on_ok_more}
use Rattle.slot_capacity.specs.CapacityClauses.{all_launched, is_launched_at}
use Rattle.slot_capacity.proofs.ExtendSteps.{make-none, make-one, make-room}
use Rattle.slot_capacity.proofs.clauses.add_make.Goals as goal

pub returns-then-not-makes_by : goal.returns-then-not-makes_by
returns-then-not-makes_by c =
    let counted = c.args.counted.now in
    make-none c.args.facts.now counted (numbered c.args.first (all_launched counted)) c.args.made.launch c.args.made.var
    c.args.cnf.now (sym c.makes_by.ensures ∙ c.if-not-makes_by.true)

pub add_implied-requires-clause-lit : goal.add_implied-requires-clause-lit
add_implied-requires-clause-lit c =
    let counted = c.args.counted.now in
    let exist = c.requires.exist in
    subst (λ (ls : List Lit). All (IsLitOf c.args.cnf.now.vars) ls) (sym c.launched_var.ensures)
    (vars-over (is_launched_at c.class_at-class.result c.args.made.launch.cycle) c.args.first c.args.cnf.now.vars
    (all_launched counted) exist)

pub add_implied-requires-clause-room : goal.add_implied-requires-clause-room
add_implied-requires-clause-room c =
    make-room c.args.facts.now c.args.counted.now (numbered c.args.first (all_launched c.args.counted.now))
    c.args.made.launch
    c.args.made.var c.args.cnf.now (sym c.makes_by.ensures ∙ c.if-not-makes_by.false) c.requires.room

pub returns : goal.returns
returns c =
    let counted = c.args.counted.now in
    let row = c.args.made.launch.row in
    let ps = numbered c.args.first (all_launched counted) in
    let class : c.class_at-class.result ≡ class_at c.args.facts.now row =
    c.class_at-class.ensures ∙ ap (λ (g : LaunchGraph). class_at g row) c.graph.ensures in
    on_ok_more _ _ c.add_implied.result (λ e.
    make-one c.args.facts.now counted ps c.args.made.launch c.args.made.var c.args.cnf.now
    (sym c.makes_by.ensures ∙ c.if-not-makes_by.false) _
    (c.launched_var.ensures ∙ ap (λ k. vars_of (is_launched_at k c.args.made.launch.cycle) ps) class) _ e)
    c.add_implied.ensures
