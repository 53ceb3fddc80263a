use Rattle.std.proofs.Common.{◌≡◌, List, map, ap, sym, ◌∙◌}
use Rattle.std.proofs.lemmas.Bool.{false≢true}
use Rattle.alpha_encode.specs.Formats.{encoded}
use Rattle.register_assign.specs.declared.listings.Item.{Item}
use Rattle.answer_check.proofs.Listings.{are_listed, same_words_then, same_places_then}
use Rattle.answer_check.proofs.listed.is_listing.Goals as goal
use Rattle.answer_check.proofs.listed.is_listing.Goals.{then-same, else-same}

pub returns-clause-same : goal.returns-clause-same
returns-clause-same c =
    let g = c.args.graph.now in
    let table = c.args.table.now in
    let ls = c.args.schedule.now.launches in
    let items = c.in_ok-listing.listing.items in
    let wheres = c.in_ok-listing.listing.wheres in
    let own = c.as_slice-2.result.now in
    let listing = c.in_ok-listing.ensures.listing in
    let own_are : c.as_slice-2.result.now ≡ map (λ (a : Item). encoded a.instr) c.in_ok-listing.listing.items =
    c.as_slice-2.ensures.value ∙ c.in_ok-own.ensures.words
    ∙ ap (λ (xs : List Item). map (λ (a : Item). encoded a.instr) xs) c.as_slice.ensures in
    let words = c.args.words.now in
    let places = c.args.places.now in
    elim c.if-same.branch [
      | then-same w ↦ (
        λ yes. are_listed g table c.args.allocation ls items wheres own listing own_are words places (c.same_words-same.ensures.0 w.if-same.true)
            (w.same_places.ensures.0 (sym w.result-is ∙ yes) ∙ w.as_slice-then-same.ensures),
        λ h. w.result-is
            ∙ w.same_places.ensures.1 (same_places_then g table c.args.allocation ls items wheres own listing own_are words places h
            ∙ sym w.as_slice-then-same.ensures),
      )
      | else-same w ↦ (
        λ yes. absurd (false≢true (sym w.if-same.false ∙ sym w.result-is ∙ yes)),
        λ h. w.result-is
            ∙ c.same_words-same.ensures.1 (same_words_then g table c.args.allocation ls items wheres own listing own_are words places h),
      )
    ]
