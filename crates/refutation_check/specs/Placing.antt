-- Where a lemma may be empty: in a refutation exactly in the last line, in a list of lemmas nowhere. For the loop that
-- both checks share. No public clause rests on this. Source: this project.
use Rattle.std.specs.Prelude.{◌≡◌, ◌≢◌, ℕ, ◌↔◌, List, []}
use Rattle.cnf_core.specs.declared.literal.Lit.{Lit}
use Rattle.cnf_core.specs.declared.line.Line.{Line}
use Rattle.cnf_core.specs.Refutation.{IsEmptyOnlyLast, IsFilled}
use Rattle.refutation_check.specs.declared.lines.Demand.{Demand}
use Rattle.refutation_check.specs.declared.lines.Demand.TheVariants.{Refutation, Lemmas}

-- what is asked of the lemma at a place
abbrev pub Placed : Demand → List Line → ℕ → Line → Type 0
Placed Refutation lines = IsEmptyOnlyLast lines
Placed Lemmas lines = IsFilled

-- the same of the literals of the lemma with this number, among so many
abbrev pub IsRightPlace : Demand → List Lit → ℕ → ℕ → Type 0
IsRightPlace Refutation lits number count = (lits ≡ []) ↔ (number ≡ count)
IsRightPlace Lemmas lits number count = lits ≢ []
