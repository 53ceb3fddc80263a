use Rattle.std.proofs.Common.{refl}
use Rattle.std.proofs.lemmas.Result.{err_from_is_err_and}
use Rattle.answer_texts.proofs.PartsFaults.{sooner, later}
use Rattle.answer_texts.proofs.goal_reading.read_body_rest.Goals as goal

pub returns-in_err-graph-in-Rounds-clause-fault : goal.returns-in_err-graph-in-Rounds-clause-fault
returns-in_err-graph-in-Rounds-clause-fault c =
    let p = err_from_is_err_and c.from_residual.result c.from_residual.ensures.1 in
    rw (p.1, p.2, c.in-Rounds.is) (sooner _ _ _ c.args.from _ c.in_err-graph-in-Rounds.ensures.fault)

pub returns-in_err-claim-in-Rounds-clause-fault : goal.returns-in_err-claim-in-Rounds-clause-fault
returns-in_err-claim-in-Rounds-clause-fault c =
    let p = err_from_is_err_and c.from_residual-in_err-claim-in-Rounds.result
    c.from_residual-in_err-claim-in-Rounds.ensures.1 in
    rw (p.1, p.2, c.in-Rounds.is)
    (later _ _ _ c.args.from c.in_ok-graph-in-Rounds.middle c.in_ok-graph-in-Rounds.graph
    c.in_ok-graph-in-Rounds.ensures.graph _
    (sooner _ _ _ c.in_ok-graph-in-Rounds.middle _ c.in_err-claim-in-Rounds.ensures.fault))

pub returns-in-NoWorld-clause-ok : goal.returns-in-NoWorld-clause-ok
returns-in-NoWorld-clause-ok c = rw c.in-NoWorld.is (record { stays = refl; is = refl })

pub returns-in_ok-claim-in-Rounds-clause-ok : goal.returns-in_ok-claim-in-Rounds-clause-ok
returns-in_ok-claim-in-Rounds-clause-ok c =
    rw c.in-Rounds.is
    (record {
      middle = c.in_ok-graph-in-Rounds.middle;
      said = c.in_ok-graph-in-Rounds.graph;
      first = c.in_ok-graph-in-Rounds.ensures.graph;
      second = record {
        middle = c.in_ok-claim-in-Rounds.next;
        said = (c.in_ok-claim-in-Rounds.claim, c.in_ok-claim-in-Rounds.refute);
        first = c.in_ok-claim-in-Rounds.ensures.ok;
        second = record { stays = refl; is = refl };
      };
    })
