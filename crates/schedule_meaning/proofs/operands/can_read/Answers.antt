use Rattle.std.proofs.Common.{rules, ◌≡◌, ◌≤◌, ◌∙◌, length, sym, false, arith}
use Rattle.std.proofs.lemmas.Bool.{false≢true}
use Rattle.schedule_meaning.specs.Launches.{operands_at}
use Rattle.schedule_meaning.specs.Readers.{CanUse}
use Rattle.schedule_meaning.proofs.Decide.{hold_none}
use Rattle.schedule_meaning.proofs.Loops.{place_more, all_places_pass, one_of_all_fails}
use Rattle.schedule_meaning.proofs.operands.can_read.Goals as goal

pub loop-at-init : goal.loop-at-init
loop-at-init c =
    hold_none (λ i o. CanUse c.args.graph.now c.args.table.now c.args.list.now c.args.launch o) (operands_at c.args.graph.now c.args.launch.row)

pub loop-at-preserved : goal.loop-at-preserved
loop-at-preserved c =
    place_more (λ i o. CanUse c.args.graph.now c.args.table.now c.args.list.now c.args.launch o) (operands_at c.args.graph.now c.args.launch.row) c.loop-at.at c.loop-at.invariant (c.can_read_at.ensures.0 (search rules))

pub returns-then-not-can_read_at : goal.returns-then-not-can_read_at
returns-then-not-can_read_at c =
    let fails : c.can_read_at.result ≡ false = search rules in
    one_of_all_fails (CanUse c.args.graph.now c.args.table.now c.args.list.now c.args.launch) (operands_at c.args.graph.now c.args.launch.row) c.loop-at.at (λ h. false≢true (sym fails ∙ c.can_read_at.ensures.1 h))

pub returns : goal.returns
returns c =
    let end : length (operands_at c.args.graph.now c.args.launch.row) ≤ c.loop-at.at = omega arith in
    all_places_pass (CanUse c.args.graph.now c.args.table.now c.args.list.now c.args.launch) (operands_at c.args.graph.now c.args.launch.row) c.loop-at.at end c.loop-at.invariant
