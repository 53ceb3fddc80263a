use Rattle.answer_texts.proofs.PartsFaults.{later_of}
use Rattle.answer_texts.proofs.claim_reading.read_claim.Goals as goal

pub returns-clause-fault : goal.returns-clause-fault
returns-clause-fault c =
    later_of _ _ _ c.args.from _ c.in_ok-first.first c.in_ok-first.ensures.ok c.read_rest.result c.read_rest.ensures.fault
