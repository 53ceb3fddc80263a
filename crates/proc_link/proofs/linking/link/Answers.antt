use Rattle.std.proofs.Common.{◌≡◌, ◌∙◌, ◌++◌, map, List, arith, sym, ap, subst}
use Rattle.alpha_encode.specs.Decoded.{decoded}
use Rattle.alpha_encode.specs.Formats.{encoded}
use Rattle.proc_goal.specs.Views.{proc_view, block_view}
use Rattle.proc_goal.specs.declared.procs.Block.{Block}
use Rattle.proc_link.specs.Follows.{FollowBlocks}
use Rattle.proc_link.specs.Linked.{all_instrs, linked}
use Rattle.proc_link.specs.Placed.{CanBeLinked}
use Rattle.proc_link.proofs.Fitting.{linked_fit}
use Rattle.proc_link.proofs.Following.{are_done, as_they_are}
use Rattle.proc_link.proofs.LinkedBlocks.{can_be_linked, decode_again}
use Rattle.proc_link.proofs.linking.link.Goals as goal

pub lay_out-requires-clause-few : goal.lay_out-requires-clause-few
lay_out-requires-clause-few c =
    let can = can_be_linked (proc_view c.args.proc.now) c.args.listings.now c.requires.proc c.requires.listings in
    let few = can.few in
    let count = can.count in
    omega (arith, few, count)

pub lay_out-requires-clause-short : goal.lay_out-requires-clause-short
lay_out-requires-clause-short c = (can_be_linked (proc_view c.args.proc.now) c.args.listings.now c.requires.proc c.requires.listings).short

pub put_blocks-requires-clause-can : goal.put_blocks-requires-clause-can
put_blocks-requires-clause-can c =
    subst (λ (bs : List Block). CanBeLinked (map block_view bs) c.args.listings.now) (sym c.as_slice.ensures)
    (can_be_linked (proc_view c.args.proc.now) c.args.listings.now c.requires.proc c.requires.listings)

pub returns-clause-words : goal.returns-clause-words
returns-clause-words c =
    c.from.ensures ∙ c.in_ok-put_blocks.ensures
    ∙ (λ j. c.new-words.ensures.items j ++ map encoded (linked (map block_view (c.as_slice.ensures j)) (all_instrs c.args.listings.now)))

pub returns-clause-decode : goal.returns-clause-decode
returns-clause-decode c =
    let p = proc_view c.args.proc.now in
    let words : c.from.result ≡ map encoded (linked p.blocks (all_instrs c.args.listings.now)) =
    c.from.ensures ∙ c.in_ok-put_blocks.ensures
    ∙ (λ j. c.new-words.ensures.items j ++ map encoded (linked (map block_view (c.as_slice.ensures j)) (all_instrs c.args.listings.now))) in
    ap (map decoded) words
    ∙ decode_again c.words_and_instructions.ensures.back (linked p.blocks (all_instrs c.args.listings.now))
    (linked_fit p (all_instrs c.args.listings.now) (are_done p c.requires.proc (as_they_are p c.goals_without_lets_are_expanded.ensures (c.goals_of_procs_are_well_formed.ensures p c.requires.proc)) c.args.listings.now c.requires.listings))

pub returns-clause-follow : goal.returns-clause-follow
returns-clause-follow c =
    let p = proc_view c.args.proc.now in
    subst (FollowBlocks p c.from.result) (sym c.in_ok-places.ensures.starts)
    (c.linked_words_follow_the_blocks.ensures p c.args.listings.now c.from.result c.requires.proc c.requires.listings (returns-clause-decode c))
