-- What the steps of a merge do. No public clause rests on these.
use Rattle.std.specs.Prelude.{◌≢◌, ℕ, List, ◌==◌, if◌then◌else◌}
use Rattle.word_terms.specs.Signature.{Signature}
use Rattle.egraph.specs.declared.rows.Row.{Row}
use Rattle.egraph.specs.Graph.{HasConstant}

-- the class, or `to` in place of `from`
abbrev pub moved : ℕ → ℕ → ℕ → ℕ
moved from to class = if class == from then to else class

-- the class has two different constants
pub record HasTwoConstants {O : Type 0} (s : Signature O) (rows : List (Row O)) (class x y : ℕ) : Type 0 where
  pub first : HasConstant s rows class x
  pub second : HasConstant s rows class y
  pub differ : x ≢ y
