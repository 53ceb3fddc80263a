-- When a graph has the rows of another, with other numbers for classes. No public clause rests on this. From this
-- project.
use Rattle.std.specs.Prelude.{◌≡◌, ℕ, map, All}
use Rattle.word_ops.specs.declared.sorts.Op.{Op}
use Rattle.egraph.specs.Graph.{Graph, HasClass}
use Rattle.egraph.specs.Joined.{relabel}

-- `f` gives the new number of each class, and different numbers to different classes
pub record IsRenamed (f : ℕ → ℕ) (old new : Graph Op) : Type 0 where
  pub rows : new.rows ≡ map (relabel f) old.rows
  pub operands : All (λ r. All (HasClass old) r.operands) old.rows
  pub one_to_one : (c d : ℕ) → HasClass old c → HasClass old d → f c ≡ f d → c ≡ d
