-- The words and places of a listing, compared with others.
use Rattle.std.proofs.Common.{◌≡◌, ℕ, List, map, sym, ap, subst, ◌∙◌}
use Rattle.alpha_encode.specs.Formats.{encoded}
use Rattle.graph_meaning.specs.declared.graphs.LaunchGraph.{LaunchGraph}
use Rattle.machine_table.specs.declared.tables.Table.{Table}
use Rattle.register_assign.specs.Assigned.{IsTheListing}
use Rattle.register_assign.specs.declared.listings.Item.{Item}
use Rattle.register_assign.specs.declared.listings.Where.{Where}
use Rattle.schedule_meaning.specs.declared.schedules.Allocation.{Allocation}
use Rattle.schedule_meaning.specs.declared.schedules.Launch.{Launch}
use Rattle.answer_check.specs.Verdicts.{HasListing}

module _ (g : LaunchGraph) (table : Table) (to : Allocation) (ls : List Launch) (items : List Item) (wheres : List Where) (own : List ℕ)
    (listing : IsTheListing g table to ls items wheres) (own_are : own ≡ map (λ (a : Item). encoded a.instr) items)
    (words : List ℕ) (places : List Where) where
  pub are_listed : own ≡ words → places ≡ wheres → HasListing g table to ls words places
  are_listed same_words same_places = record {
    items = items;
    listing = subst (IsTheListing g table to ls items) (sym same_places) listing;
    words_are = sym same_words ∙ own_are;
  }

  pub same_words_then : HasListing g table to ls words places → own ≡ words
  same_words_then h =
      own_are
      ∙ sym (ap (λ (xs : List Item). map (λ (a : Item). encoded a.instr) xs)
      (listing.only h.items places h.listing.is).0)
      ∙ sym h.words_are

  pub same_places_then : HasListing g table to ls words places → places ≡ wheres
  same_places_then h = (listing.only h.items places h.listing.is).1
