-- Where the words of blocks stand, as the code keeps it, and what it needs so as to link them. No public clause rests
-- on this. Source: this project.
use Rattle.std.specs.Prelude.{◌≡◌, ℕ, ◌/◌, ◌≤◌, List, length, slice_index, All}
use Rattle.text_core.specs.Limits.{most_blocks}
use Rattle.schedule_meaning.specs.Limits.{most_launches}
use Rattle.alpha_encode.specs.declared.instructions.Instr.{Instr}
use Rattle.proc_goal.specs.Views.{BlockTree}
use Rattle.proc_goal.specs.WellFormed.{IsProcTarget}
use Rattle.proc_goal.specs.declared.procs.Target.{Target}
use Rattle.proc_goal.specs.declared.procs.Target.TheVariants.{Block, Done}
use Rattle.register_assign.specs.Assigned.{HaveWords}
use Rattle.register_assign.specs.declared.listings.Listing.{Listing}
use Rattle.proc_link.specs.Blocks.{other_of}
use Rattle.proc_link.specs.Linked.{starts_of, words_before}
use Rattle.proc_link.specs.declared.places.Places.{Places}

-- the starts of these listings, and the number of all words
pub record AreListingPlaces (listings : List (List Instr)) (places : Places) : Type 0 where
  pub starts : places.starts ≡ starts_of listings
  pub end : places.end ≡ words_before listings (length listings)

-- the place of a block's first word, of which the address is kept, or the end
abbrev pub place_by_starts : List ℕ → ℕ → Target → ℕ
place_by_starts starts end (Block i) = slice_index starts i / 4
place_by_starts starts end Done = end

-- the block leads to blocks that are there, of so many
abbrev pub LeadsInside : ℕ → BlockTree → Type 0
LeadsInside count b = IsProcTarget count (other_of b) × IsProcTarget count b.go

-- so few blocks, each with a short listing of instructions that have words
pub record CanBeLinked (blocks : List BlockTree) (listings : List Listing) : Type 0 where
  pub few : length blocks ≤ most_blocks
  pub count : length listings ≡ length blocks
  pub inside : All (LeadsInside (length blocks)) blocks
  pub have_words : All (λ (l : Listing). HaveWords l.items) listings
  pub short : All (λ (l : Listing). length l.items ≤ most_launches) listings
