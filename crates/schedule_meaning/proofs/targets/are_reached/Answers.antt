use Rattle.std.proofs.Common.{rules, ◌≡◌, ◌≤◌, ◌∙◌, length, sym, false, arith}
use Rattle.std.proofs.lemmas.Bool.{false≢true}
use Rattle.schedule_meaning.specs.Fits.{IsReached}
use Rattle.schedule_meaning.proofs.Decide.{hold_none}
use Rattle.schedule_meaning.proofs.Loops.{place_more, places_pass, one_place_fails}
use Rattle.schedule_meaning.proofs.targets.are_reached.Goals as goal

pub loop-number-init : goal.loop-number-init
loop-number-init c = hold_none (IsReached c.args.graph.now c.args.list.now) c.args.graph.now.sets

pub loop-number-preserved : goal.loop-number-preserved
loop-number-preserved c =
    place_more (IsReached c.args.graph.now c.args.list.now) c.args.graph.now.sets c.loop-number.number c.loop-number.invariant (c.is_reached_at.ensures.0 (search rules))

pub returns-then-not-is_reached_at : goal.returns-then-not-is_reached_at
returns-then-not-is_reached_at c =
    let fails : c.is_reached_at.result ≡ false = search rules in
    one_place_fails (IsReached c.args.graph.now c.args.list.now) c.args.graph.now.sets c.loop-number.number (λ h. false≢true (sym fails ∙ c.is_reached_at.ensures.1 h))

pub returns : goal.returns
returns c =
    let end : length c.args.graph.now.sets ≤ c.loop-number.number = omega arith in
    places_pass (IsReached c.args.graph.now c.args.list.now) c.args.graph.now.sets c.loop-number.number end c.loop-number.invariant
