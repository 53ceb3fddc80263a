use Rattle.std.proofs.Common.{◌∙◌, ◌∷◌, ◌++◌, ℕ, ap, take, arith, List}
use Rattle.std.specs.Prelude.{option_to_list, slice_index}
use Rattle.cnf_core.specs.declared.literal.Lit.{Lit}
use Rattle.machine_table.specs.Tables.{cluster_of}
use Rattle.schedule_meaning.specs.Launches.{reads_until}
use Rattle.cycle_encoding.specs.Families.{is_seen}
use Rattle.cycle_encoding.specs.Families.{is_lost}
use Rattle.cycle_encoding.specs.Variables.{all_overwritten}
use Rattle.cycle_encoding.specs.Shapes.{numbered, negative, negated, vars_of}
use Rattle.cycle_encoding.specs.Steps.{of_thing, sights}
use Rattle.cycle_encoding.proofs.Adding.{vars-with}
use Rattle.cycle_encoding.proofs.FamilySteps.{sight_exist, sight_step}
use Rattle.cycle_encoding.proofs.families.add_sights.Goals as goal

pub add-requires-clause-exist : goal.add-requires-clause-exist
add-requires-clause-exist c =
    let g = c.args.vars.now.frame.facts.now in
    let seen = c.args.vars.now.seen in
    let over = c.args.vars.now.over in
    let same = vars-with c.args.cnf.now c.loop-class.cnf (of_thing c.args.made.var (sights g (cluster_of c.args.vars.now.frame.table.now c.args.made.launch.slot) c.args.made.launch.cycle (reads_until g c.args.made.launch) (numbered seen.first seen.seen.items) (numbered over.first (all_overwritten g over.cycles)) (take c.loop-class.class-index c.args.needed.now))) c.loop-class.invariant in
    let first = c.requires.vars.first in
    let next = c.requires.vars.next in
    let within = c.requires.within in
    let exist = c.requires.exist in
    let above = c.requires.var in
    sight_exist g c.loop-class.cnf.vars c.args.made.var _ c.reads_until-until.result (option_to_list c.seen_var-sight.result) c.deref.result.now _ seen.seen.items seen.first over.first over.cycles (record { above = omega arith; within = omega arith }) c.seen_var-sight.ensures (c.deref.ensures.value ∙ c.in_ok-push_lost.ensures ∙ ap (λ (ls : List Lit). ls ++ negated (is_lost g (slice_index c.args.needed.now c.loop-class.class-index) c.reads_until-until.result) (numbered over.first (all_overwritten g over.cycles))) c.in_ok-clause.ensures) (omega arith) (omega arith)

pub loop-class-preserved : goal.loop-class-preserved
loop-class-preserved c =
    let g = c.args.vars.now.frame.facts.now in
    let l = c.args.made.launch in
    let seen = c.args.vars.now.seen in
    let over = c.args.vars.now.over in
    let ds = numbered seen.first seen.seen.items in
    let vs = numbered over.first (all_overwritten g over.cycles) in
    let class = slice_index c.args.needed.now c.loop-class.class-index in
    let clause = c.deref.ensures.value ∙ c.in_ok-push_lost.ensures
    ∙ ap (λ (ls : List Lit). ls ++ negated (is_lost g class c.reads_until-until.result) vs) c.in_ok-clause.ensures
    ∙ ap (λ (ls : List Lit). negative c.args.made.var ∷ (ls ++ negated (is_lost g class c.reads_until-until.result) vs)) c.seen_var-sight.ensures
    ∙ ap (λ (n : ℕ). negative c.args.made.var ∷ (vars_of (is_seen class n l.cycle) ds ++ negated (is_lost g class c.reads_until-until.result) vs)) c.cluster_of-cluster.ensures
    ∙ ap (λ (n : ℕ). negative c.args.made.var ∷ (vars_of (is_seen class (cluster_of c.args.vars.now.frame.table.now l.slot) l.cycle) ds ++ negated (is_lost g class n) vs)) c.reads_until-until.ensures in
    sight_step g (cluster_of c.args.vars.now.frame.table.now l.slot) l.cycle (reads_until g l) ds vs c.args.made.var c.args.needed.now c.loop-class.class-index _ c.args.cnf.now c.loop-class.cnf c.add.new.self c.deref.result.now c.loop-class-test.true clause c.loop-class.invariant c.in_ok-add.ensures.ok
