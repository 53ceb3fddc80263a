-- What stands behind an answer.
use Rattle.std.proofs.Common.{◌≡◌, ◌++◌, ℕ, List, Some, Result, Ok, Err}
use Rattle.std.specs.Prelude.{OnOk}
use Rattle.denali_run.specs.declared.results.Answered.{Answered}
use Rattle.proc_goal.specs.Views.{ProcTree}
use Rattle.register_assign.specs.declared.listings.Listing.{Listing}
use Rattle.proc_link.specs.Appended.{AppendsBehind}
use Rattle.text_core.specs.LineTexts.{lines_text}
use Rattle.proc_link.specs.LinkedLines.{linked_lines}
use Rattle.proc_link.specs.ProcAnswers.{AreLinked, all, listings_of}

pub ok_weaker : {A E P Q : Type 0} (r : Result A E) → (P → Q) → OnOk r P → OnOk r Q
ok_weaker (Ok x) then h = then h
ok_weaker (Err e) then h = tt

-- the lines of linked listings stand behind the answer of results that have these
pub behind_of : (p : ProcTree) (results : List Answered) (ls : List Listing) (words starts old new : List ℕ)
    → listings_of results ≡ Some ls → AreLinked p ls words starts → new ≡ old ++ lines_text (linked_lines p words starts)
    → AppendsBehind p results old new
behind_of p results ls words starts old new e linked text = record {
  behind = linked_lines p words starts;
  are_behind = all e linked;
  text = text;
}
