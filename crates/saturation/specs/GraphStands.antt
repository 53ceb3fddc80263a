-- When a graph stands for terms: in each world where the axioms and the assumed pairs hold, classes have values under
-- which all rows are true. From Denali (PLDI 2002).
use Rattle.std.specs.Prelude.{◌≡◌, ℕ, List, [], All, Contains}
use Rattle.word_ops.specs.Worlds.{Value, World, IsWorld, IsValue}
use Rattle.word_ops.specs.Meanings.{sort_of, meaning}
use Rattle.word_ops.specs.declared.sorts.Op.{Op}
use Rattle.word_terms.specs.Tree.{Tree}
use Rattle.axiom_base.specs.Rewrites.{IsTrueIn, value_in}
use Rattle.axiom_base.specs.Schemes.{AddedRules}
use Rattle.egraph.specs.Graph.{Graph}
use Rattle.egraph.specs.Values.{AllTrue}
use Rattle.pattern_match.specs.Classes.{IsClass}
use Rattle.saturation.specs.Derives.{Pair}

-- the axioms that are added are true in the world, and the two terms of each pair have one value; `names` has the name
-- of each declared operator's number
pub record RulesHold (world : World) (names : ℕ → List ℕ) (added : AddedRules) (equal : List Pair) : Type 0 where
  pub axioms_hold : All (IsTrueIn world names) added.axioms
  pub equal_hold : All (λ p. value_in world names [] p.0 ≡ value_in world names [] p.1) equal

-- each row is true, and each class has a value of its sort
pub record IsTrueGraph (world : World) (names : ℕ → List ℕ) (value : ℕ → Value) (g : Graph Op) : Type 0 where
  pub rows : AllTrue (meaning world names) value g.rows
  pub values : All (λ r. IsValue (sort_of r.op) (value r.class)) g.rows

-- each of the terms has a class, and in each world where axioms and pairs hold, some values make the graph true and
-- give each term its value
pub record GraphStands (names : ℕ → List ℕ) (added : AddedRules) (equal : List Pair) (terms : List (Tree Op))
    (g : Graph Op) : Type 0 where
  pub classes : (t : Tree Op) → Contains terms t → ((c : ℕ) × IsClass g [] t c)
  pub values :
      (world : World) →
      IsWorld world →
      RulesHold world names added equal →
      (value : ℕ → Value)
      × IsTrueGraph world names value g
      × ((t : Tree Op) (c : ℕ) → Contains terms t → IsClass g [] t c → value c ≡ value_in world names [] t)
