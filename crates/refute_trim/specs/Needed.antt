-- Which lines of a refutation are needed: those that are reached from the last one over hints. It speaks of no formula.
-- Source: backward trimming of proofs (DRAT-trim, 2014), over the hints of LRAT (2017).
use Rattle.std.specs.Prelude.{◌≡◌, ℕ, ◌+◌, List, length, slice_get, Some}
use Rattle.std.specs.List.{Contains}
use Rattle.cnf_core.specs.declared.line.Line.{Line}

-- line k, from 0, has the id of line j among its hints
pub record IsHintOf (lines : List Line) (j k : ℕ) : Type 0 where
  pub hinted : Line
  pub hinting : Line
  pub hinted_there : slice_get lines j ≡ Some hinted
  pub hinting_there : slice_get lines k ≡ Some hinting
  pub among : Contains hinting.hints hinted.id

-- the last line is needed, and so is each line that is a hint of a needed one
pub data IsNeeded (lines : List Line) : ℕ → Type 0 where
  last : {k : ℕ} → k + 1 ≡ length lines → IsNeeded lines k
  hint : {j k : ℕ} → IsNeeded lines k → IsHintOf lines j k → IsNeeded lines j
