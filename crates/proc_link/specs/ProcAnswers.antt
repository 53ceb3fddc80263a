-- Which bytes and which status answer a text of a proc.
-- Source: this project.
use Rattle.std.specs.Prelude.{◌≡◌, ◌≢◌, ℕ, List, [], ◌∷◌, ◌++◌, map, Option, Some, None}
use Rattle.alpha_encode.specs.Formats.{encoded}
use Rattle.answer_texts.specs.ReadAnswers.{ReadsAnswer}
use Rattle.denali_run.specs.ClaimedResults.{StartsWithinFormat, answer_text, answer_to}
use Rattle.denali_run.specs.Right.{AreRightResults}
use Rattle.denali_run.specs.TextAnswers.{greatest_status}
use Rattle.denali_run.specs.declared.results.Answered.{Answered}
use Rattle.denali_run.specs.declared.results.Answered.TheVariants.{Scheduled}
use Rattle.denali_run.specs.declared.settings.Settings.{Settings}
use Rattle.reports.specs.declared.statuses.Status.{Status}
use Rattle.reports.specs.declared.statuses.Status.TheVariants as status
use Rattle.proc_goal.specs.Goals.{input_of_proc}
use Rattle.proc_goal.specs.ProcGrammar.{ReadsProc}
use Rattle.proc_goal.specs.Views.{ProcTree}
use Rattle.register_assign.specs.declared.listings.Listing.{Listing}
use Rattle.text_core.specs.LineTexts.{Words, lines_text}
use Rattle.proc_link.specs.Follows.{FollowBlocks}
use Rattle.proc_link.specs.Linked.{all_instrs, linked, starts_of}
use Rattle.proc_link.specs.LinkedLines.{linked_lines}

-- the listing of a result that has one
abbrev pub listing_of : Answered → Option Listing
listing_of (Scheduled f) = Some f.listing
listing_of _ = None

abbrev pub with_listing : Option Listing → Option (List Listing) → Option (List Listing)
with_listing (Some l) (Some ls) = Some (l ∷ ls)
with_listing _ _ = None

-- the listings, where each result has one
abbrev pub listings_of : List Answered → Option (List Listing)
listings_of [] = Some []
listings_of (r ∷ rs) = with_listing (listing_of r) (listings_of rs)

-- these are the words of the linked listings, which follow the block machine, and the addresses of the blocks
pub record AreLinked (p : ProcTree) (listings : List Listing) (words starts : List ℕ) : Type 0 where
  pub words_are : words ≡ map encoded (linked p.blocks (all_instrs listings))
  pub starts_are : starts ≡ starts_of (all_instrs listings)
  pub follow : FollowBlocks p words starts

-- the lines behind the answer: those of the linked words exactly where each block is scheduled
pub data AreBehind (p : ProcTree) (results : List Answered) : List Words → Type 0 where
  none : listings_of results ≡ None → AreBehind p results []
  all : {listings : List Listing} {words starts : List ℕ} → listings_of results ≡ Some listings
      → AreLinked p listings words starts → AreBehind p results (linked_lines p words starts)

-- The goals of the proc's blocks have results that are right. The bytes are the lines of these results, and of the linked
-- words where each is scheduled, and the status is the one with the greatest code that the results ask for. If the first
-- graph of each block's goal has no more rows than the format allows, the lines of the results are read as what they say.
pub record AnswersBlocks (s : Settings) (p : ProcTree) (bytes : List ℕ) (ending : Status) : Type 0 where
  pub results : List Answered
  pub right : AreRightResults (input_of_proc p) s results
  pub behind : List Words
  pub are_behind : AreBehind p results behind
  pub bytes_are : bytes ≡ answer_text s (input_of_proc p) results ++ lines_text behind
  pub status_is : ending ≡ greatest_status results
  pub has_world : ending ≢ status.NoWorld
  pub read_back :
      StartsWithinFormat (input_of_proc p)
      → ReadsAnswer (answer_text s (input_of_proc p) results) (answer_to s (input_of_proc p) results)

-- the text reads as a proc, of which this is the answer
pub record AnswersProc (s : Settings) (text bytes : List ℕ) (ending : Status) : Type 0 where
  pub proc : ProcTree
  pub reads : ReadsProc text proc
  pub answers : AnswersBlocks s proc bytes ending
