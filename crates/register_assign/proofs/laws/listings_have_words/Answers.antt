use Rattle.std.proofs.Common.{◌∙◌, List, length, sym, ap, arith}
use Rattle.std.proofs.lemmas.List.{length-map}
use Rattle.register_assign.proofs.Falling.{items_count}
use Rattle.register_assign.proofs.OfListings.{few, have_words, may_run}
use Rattle.register_assign.specs.Outcomes.{instrs_of}
use Rattle.register_assign.specs.declared.listings.Item.{Item}
use Rattle.register_assign.proofs.laws.listings_have_words.Goals as goal

pub returns : goal.returns
returns c = record {
  words = λ g table allocation k ls items wheres graph is_table fits low h.
      have_words g table allocation k ls h.is.ordered graph is_table fits low h.is.order items wheres h.is.items_are h.is.wheres_are;
  run = λ g table allocation k ls items wheres graph is_table fits low h.
      may_run g table allocation k ls h.is.ordered graph is_table fits low h.is.order items wheres h.is.items_are h.is.wheres_are;
  few = λ g table allocation k ls items wheres graph is_table fits low h.
      let count =
      sym (length-map items (λ (a : Item). a.instr)) ∙ ap (λ (xs : List Item). length (instrs_of xs)) h.is.items_are
      ∙ items_count g table allocation h.is.ordered 0 h.is.ordered in
      let small = few g table allocation k ls h.is.ordered graph is_table fits low h.is.order in
      omega (arith, count, small);
}
