-- Goals that are read one behind another.
use Rattle.std.proofs.Common.{◌≡◌, ◌≢◌, ◌⊎◌, ℕ, ◌+◌, ◌<◌, ◌≤◌, List, [], ◌∷◌, ◌++◌, length, inl, inr, refl, sym, ap, subst, ◌∙◌, arith}
use Rattle.std.proofs.lemmas.List.{length_push}
use Rattle.machine_table.specs.declared.tables.Table.{Table}
use Rattle.text_core.specs.Faults.{IsFaultBy}
use Rattle.text_core.specs.Lines.{Line}
use Rattle.text_core.specs.declared.faults.TextFault.{TextFault}
use Rattle.answer_texts.specs.AnswerParts.{AreGoals, no_goals, more, GoalPart, GoalFault, GoalsPart, GoalsFault, in_goal, too_many}
use Rattle.answer_texts.specs.LineParts.{IsBadOrMissingLine}
use Rattle.answer_texts.specs.declared.answers.Claimed.{Claimed}
use Rattle.answer_texts.proofs.PartsFaults.{fault_by}
use Rattle.answer_texts.proofs.PartsPrintedGoals.{has_goal}

-- so many goals stand from a line on, and more lines behind them; or none was read yet
pub record AreRead (lines : List Line) (version : ℕ) (table : Table) (from at done : ℕ) (goals : List Claimed) : Type 0 where
  pub are : AreGoals lines version table from at goals
  pub count : length goals ≡ done
  pub within : at ≤ length lines
  pub left : (at < length lines) ⊎ (goals ≡ [])

module _ (lines : List Line) (version : ℕ) (table : Table) (from : ℕ) where
  pub none_read : (goals : List Claimed) → goals ≡ [] → from ≤ length lines → AreRead lines version table from from 0 goals
  none_read goals none within = record {
    are = subst (AreGoals lines version table from from) (sym none) no_goals;
    count = ap length none;
    within = within;
    left = inr none;
  }

  next_read : (at next done : ℕ) (goals : List Claimed) (goal : Claimed) → AreRead lines version table from at done goals → done < 64
      → GoalPart lines version table at next goal → AreGoals lines version table from next (goals ++ goal ∷ [])
  next_read at next done goals goal h low is = more h.are (let n = h.count in omega (arith, n, low)) is

  -- more lines stand behind it
  pub one_read : (at next done : ℕ) (goals new : List Claimed) (goal : Claimed) → AreRead lines version table from at done goals
      → done < 64 → GoalPart lines version table at next goal → next ≢ length lines → new ≡ goals ++ goal ∷ []
      → AreRead lines version table from next (done + 1) new
  one_read at next done goals new goal h low is behind same =
      let within = (has_goal lines version table at next goal is).within in
      let n = length_push goals goal in
      let size = h.count in
      let count : length new ≡ done + 1 = ap length same ∙ n ∙ ap (λ k. k + 1) size in
      record {
        are = subst (AreGoals lines version table from next) (sym same) (next_read at next done goals goal h low is);
        count = count;
        within = within;
        left = inl (omega (arith, within, behind));
      }

  -- the text ends behind it
  pub all_read : (at next done : ℕ) (goals new : List Claimed) (goal : Claimed) → AreRead lines version table from at done goals
      → done < 64 → GoalPart lines version table at next goal → next ≡ length lines → new ≡ goals ++ goal ∷ []
      → GoalsPart lines version table from (length lines) new
  all_read at next done goals new goal h low is end same =
      let n = length_push goals goal in
      record {
        are = subst (λ k. AreGoals lines version table from k new) end
            (subst (AreGoals lines version table from next) (sym same) (next_read at next done goals goal h low is));
        some = λ none. (let z = ap length (sym same ∙ none) in omega (arith, n, z));
        whole = refl;
      }

  -- the next one has a fault
  pub next_fault : (at done : ℕ) (goals : List Claimed) (f : TextFault) → AreRead lines version table from at done goals
      → done < 64 → IsFaultBy (GoalFault lines version table at) f → IsFaultBy (GoalsFault lines version table from) f
  next_fault at done goals f h low =
      fault_by (GoalFault lines version table at) (GoalsFault lines version table from)
      (λ place kind bad. in_goal h.are (let n = h.count in omega (arith, n, low)) h.left bad) f

  not_none : (at done : ℕ) (goals : List Claimed) → AreRead lines version table from at done goals → done ≡ 64
      → (at < length lines) ⊎ (goals ≡ []) → at < length lines
  not_none at done goals h all (inl low) = low
  not_none at done goals h all (inr none) =
      absurd (let n = h.count in let z = ap length none in omega (arith, n, z, all))

  -- there are 64 already
  pub many_fault : (at done : ℕ) (goals : List Claimed) (f : TextFault) → AreRead lines version table from at done goals
      → done ≡ 64 → IsFaultBy (IsBadOrMissingLine lines at) f → IsFaultBy (GoalsFault lines version table from) f
  many_fault at done goals f h all =
      fault_by (IsBadOrMissingLine lines at) (GoalsFault lines version table from)
      (λ place kind bad. too_many h.are (h.count ∙ all) (not_none at done goals h all h.left) bad) f
