use Rattle.std.proofs.Common.{◌≡◌, ◌+◌, ◌∙◌, List, [], ◌∷◌, ◌++◌, map, length, get_or, arith, sym, ap, subst}
use Rattle.std.proofs.lemmas.List.{length-map}
use Rattle.alpha_encode.specs.Formats.{encoded}
use Rattle.alpha_encode.specs.declared.instructions.Instr.TheVariants.{Beq}
use Rattle.proc_goal.specs.Views.{block_view}
use Rattle.proc_goal.specs.WellFormed.{IsProcTarget}
use Rattle.proc_goal.specs.declared.procs.Block.{Block}
use Rattle.proc_goal.specs.declared.procs.Target.TheVariants as targets
use Rattle.register_assign.specs.Outcomes.{instrs_of}
use Rattle.register_assign.specs.declared.listings.Item.{Item}
use Rattle.register_assign.specs.declared.listings.Listing.{Listing}
use Rattle.proc_link.specs.Blocks.{other_of}
use Rattle.proc_link.specs.Linked.{all_instrs, displacement_between, led_from, place_of_target}
use Rattle.proc_link.proofs.LinkedBlocks.{blocks_more, inside_at, place_now, place_small, place_then, short_at, starts_long, there}
use Rattle.proc_link.proofs.linking.put_blocks.Goals as goal

pub place-from-requires : goal.place-from-requires
place-from-requires c =
    let long = starts_long (map block_view c.args.blocks.now) c.args.listings.now c.requires.can c.args.places.now c.requires.places in
    let same = length-map c.args.blocks.now block_view in
    let within = c.loop-at-test.true in
    omega (arith, long, same, within)

pub place-to-requires : goal.place-to-requires
place-to-requires c =
    there (map block_view c.args.blocks.now) c.args.listings.now c.requires.can c.args.places.now c.requires.places c.other.result
    (subst (IsProcTarget (length (map block_view c.args.blocks.now))) (sym c.other.ensures)
    (inside_at c.args.blocks.now c.args.listings.now c.requires.can c.loop-at.at c.loop-at-test.true c.index-blocks-at.result c.index-blocks-at.is).0)

pub place-go-requires : goal.place-go-requires
place-go-requires c =
    there (map block_view c.args.blocks.now) c.args.listings.now c.requires.can c.args.places.now c.requires.places c.index-blocks-at.result.go
    (inside_at c.args.blocks.now c.args.listings.now c.requires.can c.loop-at.at c.loop-at-test.true c.index-blocks-at.result c.index-blocks-at.is).1

pub put_block-requires-clause-from : goal.put_block-requires-clause-from
put_block-requires-clause-from c =
    let now = place_now c.args.blocks.now c.args.listings.now c.requires.can c.loop-at.at c.loop-at-test.true c.args.places.now c.requires.places c.place-from.result c.place-from.ensures in
    let low = place_small c.args.blocks.now c.args.listings.now c.requires.can c.loop-at.at c.loop-at-test.true (targets.Block c.loop-at.at) c.place-from.result now in
    let short = short_at c.args.blocks.now c.args.listings.now c.requires.can c.loop-at.at c.loop-at-test.true c.index-listings-at.result c.index-listings-at.is in
    let same = ap length (c.as_slice.ensures ∙ sym (ap (λ (l : Listing). l.items) c.index-listings-at.is)) in
    omega (arith, low, short, same)

pub put_block-requires-clause-other : goal.put_block-requires-clause-other
put_block-requires-clause-other c =
    let there = subst (IsProcTarget (length (map block_view c.args.blocks.now))) (sym c.other.ensures) (inside_at c.args.blocks.now c.args.listings.now c.requires.can c.loop-at.at c.loop-at-test.true c.index-blocks-at.result c.index-blocks-at.is).0 in
    let is = place_then c.args.blocks.now c.args.listings.now c.requires.can c.loop-at.at c.loop-at-test.true c.args.places.now c.requires.places c.other.result there c.place-to.result c.place-to.ensures in
    let low = place_small c.args.blocks.now c.args.listings.now c.requires.can c.loop-at.at c.loop-at-test.true c.other.result c.place-to.result is in
    omega (arith, low)

pub put_block-requires-clause-go : goal.put_block-requires-clause-go
put_block-requires-clause-go c =
    let there = (inside_at c.args.blocks.now c.args.listings.now c.requires.can c.loop-at.at c.loop-at-test.true c.index-blocks-at.result c.index-blocks-at.is).1 in
    let is = place_then c.args.blocks.now c.args.listings.now c.requires.can c.loop-at.at c.loop-at-test.true c.args.places.now c.requires.places c.index-blocks-at.result.go there c.place-go.result c.place-go.ensures in
    let low = place_small c.args.blocks.now c.args.listings.now c.requires.can c.loop-at.at c.loop-at-test.true c.index-blocks-at.result.go c.place-go.result is in
    omega (arith, low)

pub loop-at-preserved : goal.loop-at-preserved
loop-at-preserved c =
    let inside = inside_at c.args.blocks.now c.args.listings.now c.requires.can c.loop-at.at c.loop-at-test.true c.index-blocks-at.result c.index-blocks-at.is in
    let there = subst (IsProcTarget (length (map block_view c.args.blocks.now))) (sym c.other.ensures) inside.0 in
    let from = place_now c.args.blocks.now c.args.listings.now c.requires.can c.loop-at.at c.loop-at-test.true c.args.places.now c.requires.places c.place-from.result c.place-from.ensures in
    let to = place_then c.args.blocks.now c.args.listings.now c.requires.can c.loop-at.at c.loop-at-test.true c.args.places.now c.requires.places c.other.result there c.place-to.result c.place-to.ensures in
    let go = place_then c.args.blocks.now c.args.listings.now c.requires.can c.loop-at.at c.loop-at-test.true c.args.places.now c.requires.places c.index-blocks-at.result.go inside.1 c.place-go.result c.place-go.ensures in
    let many = c.requires.can.count ∙ length-map c.args.blocks.now block_view in
    let block : c.index-blocks-at.result ≡ get_or c.args.blocks.now c.loop-at.at c.index-blocks-at.result = c.index-blocks-at.is in
    c.in_ok-put_block.ensures
    ∙ ap (λ (is : List Item). c.loop-at.words.items ++ map encoded (led_from c.place-from.result c.place-to.result (instrs_of is) ++ Beq 31 (displacement_between (c.place-from.result + length is) c.place-go.result) ∷ [])) c.as_slice.ensures
    ∙ blocks_more (place_of_target (all_instrs c.args.listings.now)) c.args.blocks.now c.args.listings.now c.loop-at.at c.index-blocks-at.result c.index-listings-at.result
    c.loop-at-test.true many c.args.words.now.items c.loop-at.words.items c.place-from.result c.place-to.result c.place-go.result c.loop-at.invariant from
    (to ∙ ap (place_of_target (all_instrs c.args.listings.now)) (c.other.ensures ∙ ap (λ (b : Block). other_of (block_view b)) block))
    (go ∙ ap (λ (b : Block). place_of_target (all_instrs c.args.listings.now) b.go) block)
