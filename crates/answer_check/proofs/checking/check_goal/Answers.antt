use Rattle.answer_check.proofs.Claims.{own_scope, seen_where, sound_where, tested_where}
use Rattle.answer_check.proofs.checking.check_goal.Goals as goal

pub returns-in-None-clause-verdict : goal.returns-in-None-clause-verdict
returns-in-None-clause-verdict c =
    seen_where c.args.encoding c.args.table.now c.requires.goal.0 c.args.goal.now c.requires.goal.1 c.in-None.is

pub check_claim-requires-clause-scope : goal.check_claim-requires-clause-scope
check_claim-requires-clause-scope c =
    own_scope c.args.encoding c.in_ok-facts-in-Some.facts c.args.table.now c.in_ok-scope-in-Some.scope
    c.in_ok-scope-in-Some.ensures

pub returns-in_ok-scope-in-Some-clause-verdict : goal.returns-in_ok-scope-in-Some-clause-verdict
returns-in_ok-scope-in-Some-clause-verdict c =
    tested_where c.args.encoding c.args.table.now c.args.goal.now c.in-Some.graph c.in_ok-facts-in-Some.facts
    c.in_ok-scope-in-Some.scope c.in-Some.is c.in_ok-facts-in-Some.ensures c.in_ok-scope-in-Some.ensures
    c.check_claim.result c.check_claim.ensures.outcome

pub returns-in_ok-scope-in-Some-clause-sound : goal.returns-in_ok-scope-in-Some-clause-sound
returns-in_ok-scope-in-Some-clause-sound c =
    sound_where c.args.encoding c.args.table.now c.args.goal.now c.in-Some.graph c.in_ok-facts-in-Some.facts
    c.in_ok-scope-in-Some.scope c.in-Some.is c.in_ok-facts-in-Some.ensures c.in_ok-scope-in-Some.ensures
    c.check_claim.result c.check_claim.ensures.sound
