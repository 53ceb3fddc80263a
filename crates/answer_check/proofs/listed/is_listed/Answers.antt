use Rattle.std.proofs.Common.{List, ℕ, sym, subst, IsTrue}
use Rattle.std.specs.Prelude.{IfOk, ◌↔◌}
use Rattle.answer_texts.specs.declared.answers.Claim.{Claim}
use Rattle.register_assign.specs.declared.listings.Where.{Where}
use Rattle.answer_check.specs.Verdicts.{HasListing, IsListed}
use Rattle.answer_check.proofs.listed.is_listed.Goals as goal

pub returns-in-Scheduled-clause-listed : goal.returns-in-Scheduled-clause-listed
returns-in-Scheduled-clause-listed c =
    let g = c.args.graph.now in
    let table = c.args.table.now in
    let a = c.args.allocation in
    let ls = c.in-Scheduled.schedule.launches in
    subst (λ (claim : Claim). IfOk c.is_listing.result (λ b. IsTrue b ↔ IsListed table a g claim)) (sym c.in-Scheduled.is)
    (subst (λ (words : List ℕ). IfOk c.is_listing.result
    (λ b. IsTrue b ↔ HasListing g table a ls words c.in-Scheduled.places)) c.as_slice.ensures
    (subst (λ (places : List Where). IfOk c.is_listing.result
    (λ b. IsTrue b ↔ HasListing g table a ls c.as_slice.result.now places)) c.as_slice-in-Scheduled.ensures
    c.is_listing.ensures.same))
