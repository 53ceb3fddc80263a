use Rattle.std.proofs.Common.{◌∙◌, [], Some, append-nil, length, ap, sym}
use Rattle.std.specs.Prelude.{option_map}
use Rattle.std.proofs.lemmas.List.{length-map}
use Rattle.proc_goal.specs.Views.{block_view, proc_view}
use Rattle.register_assign.specs.Outcomes.{instrs_of}
use Rattle.register_assign.specs.declared.listings.Listing.{Listing}
use Rattle.proc_link.specs.Linked.{all_instrs}
use Rattle.proc_link.specs.ProcAnswers.{none}
use Rattle.proc_link.proofs.Behind.{behind_of, ok_weaker}
use Rattle.proc_link.proofs.LinkedBlocks.{can_be_linked, length_starts}
use Rattle.proc_link.proofs.ResultListings.{are_listings}
use Rattle.proc_link.proofs.proc_texts.put_behind.Goals as goal

pub link-requires-clause-listings : goal.link-requires-clause-listings
link-requires-clause-listings c =
    are_listings (proc_view c.args.proc.now) c.requires.proc c.requires.right.0 c.requires.right.1
    c.listings_have_words.ensures.words c.listings_have_words.ensures.run c.listings_have_words.ensures.few c.args.results.now c.deref.result.now c.requires.right.2
    (sym c.in_ok-listings.ensures ∙ ap (option_map (λ v. v.items)) c.in-Some.is ∙ ap Some (sym c.deref.ensures.value))

pub put_linked-requires : goal.put_linked-requires
put_linked-requires c =
    let p = proc_view c.args.proc.now in
    let listings = c.deref.result.now in
    let right = are_listings p c.requires.proc c.requires.right.0 c.requires.right.1
    c.listings_have_words.ensures.words c.listings_have_words.ensures.run c.listings_have_words.ensures.few c.args.results.now listings c.requires.right.2
    (sym c.in_ok-listings.ensures ∙ ap (option_map (λ v. v.items)) c.in-Some.is ∙ ap Some (sym c.deref.ensures.value)) in
    let can = can_be_linked p listings c.requires.proc right in
    ap length c.in_ok-linked-in-Some.ensures.starts ∙ length_starts 0 (all_instrs listings)
    ∙ length-map listings (λ (l : Listing). instrs_of l.items) ∙ can.count ∙ length-map c.args.proc.now.blocks block_view

pub returns-in_ok-linked-in-Some : goal.returns-in_ok-linked-in-Some
returns-in_ok-linked-in-Some c =
    let made = c.in_ok-linked-in-Some.linked in
    ok_weaker c.put_linked.result
    (behind_of (proc_view c.args.proc.now) c.args.results.now c.deref.result.now made.words made.starts c.args.text.now.items c.put_linked.new.text.items
    (sym c.in_ok-listings.ensures ∙ ap (option_map (λ v. v.items)) c.in-Some.is ∙ ap Some (sym c.deref.ensures.value))
    (record {
      words_are = c.in_ok-linked-in-Some.ensures.words;
      starts_are = c.in_ok-linked-in-Some.ensures.starts;
      follow = c.in_ok-linked-in-Some.ensures.follow;
    }))
    c.put_linked.ensures

pub returns-in-None : goal.returns-in-None
returns-in-None c = record {
  behind = [];
  are_behind = none (sym c.in_ok-listings.ensures ∙ ap (option_map (λ v. v.items)) c.in-None.is);
  text = sym (append-nil c.args.text.now.items);
}
