-- What is lent of an answer, as what it is lent of. Source: this project.
use Rattle.std.specs.Prelude.{option_copied}
use Rattle.answer_texts.specs.declared.answers.Claim.{Claim}
use Rattle.answer_texts.specs.declared.answers.Claim.TheVariants as claims
use Rattle.answer_texts.specs.declared.answers.Claimed.{Claimed}
use Rattle.answer_texts.specs.declared.lent.ClaimRef.{ClaimRef}
use Rattle.answer_texts.specs.declared.lent.ClaimRef.TheVariants.{NoWorld, Scheduled, Missing, SpentConflicts, SpentSize}
use Rattle.answer_texts.specs.declared.lent.ClaimedRef.{ClaimedRef}

-- the claim that is lent
abbrev pub lent_claim : ClaimRef → Claim
lent_claim (NoWorld class a b) = claims.NoWorld class a b
lent_claim (Scheduled k schedule words places) = claims.Scheduled k schedule.now words.now places.now
lent_claim (Missing k) = claims.Missing k
lent_claim (SpentConflicts k lemmas) = claims.SpentConflicts k lemmas.now
lent_claim (SpentSize k vars clauses) = claims.SpentSize k vars clauses

-- what the answer says of the goal that is lent
abbrev pub lent_claimed : ClaimedRef → Claimed
lent_claimed c = record {
  name = c.name.now;
  graph = option_copied c.graph;
  rounds = c.rounds;
  stop = c.stop;
  claim = lent_claim c.claim;
  refute = option_copied c.refute;
}
