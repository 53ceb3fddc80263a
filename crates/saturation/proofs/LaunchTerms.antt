-- Classes of single terms, and whether a select stands in them.
use Rattle.std.proofs.Common.{◌≡◌, ℕ, suc, zero, ◌<◌, Bool, true, false, ◌||◌, Option, Some, None, List, [], ◌∷◌, ◌++◌, length, get_or, refl, ap, ◌∙◌, arith}
use Rattle.std.specs.Option.{IsSome, MatchOption}
use Rattle.word_ops.specs.declared.sorts.Op.{Op}
use Rattle.word_terms.specs.Tree.{Tree, application, none, operands_of}
use Rattle.egraph.specs.Graph.{Graph, HasRow, LacksRow}
use Rattle.pattern_match.specs.Classes.{IsClass, at_row, no_classes}
use Rattle.saturation.specs.OverLets.{has_select_over, have_select_over}

-- an operator that takes nothing
pub leaf_row : (g : Graph Op) (places : List ℕ) (op : Op) (c : ℕ) → IsClass g places (application op none) c → HasRow g.rows op [] c
leaf_row g places op _ (at_row no_classes here) = here

pub leaf_class : (g : Graph Op) (op : Op) (c : ℕ) → HasRow g.rows op [] c → IsClass g [] (application op none) c
leaf_class g op c here = at_row no_classes here

pub found_leaf : (g : Graph Op) (op : Op) (found : Option ℕ) → MatchOption found (LacksRow g.rows op []) (HasRow g.rows op []) → ((c : ℕ) × IsClass g [] (application op none) c) → IsSome found
found_leaf g op None lacks there = absurd (lacks there.0 (leaf_row g [] op there.0 there.1))
found_leaf g op (Some c) has there = refl

-- ---- select in operands

or_false : (a b : Bool) → a || b ≡ false → (a ≡ false) × (b ≡ false)
or_false false b e = (refl, e)
or_false true b e = absurd (let k : true ≡ false = e in cc)

both_false : (a b : Bool) → a ≡ false → b ≡ false → a || b ≡ false
both_false a b d e = ap (λ x. x || b) d ∙ e

pub or_true : (a b : Bool) → b ≡ true → a || b ≡ true
or_true false b e = e
or_true true b e = refl

module _ (lets : List Bool) where
  pub no_select_more : (ts : List (Tree Op)) (t : Tree Op) → have_select_over lets (operands_of ts) ≡ false → has_select_over lets t ≡ false → have_select_over lets (operands_of (ts ++ t ∷ [])) ≡ false
  no_select_more [] t h k = both_false (has_select_over lets t) false k refl
  no_select_more (u ∷ ts) t h k =
      let p = or_false (has_select_over lets u) (have_select_over lets (operands_of ts)) h in
      both_false (has_select_over lets u) (have_select_over lets (operands_of (ts ++ t ∷ []))) p.0 (no_select_more ts t p.1 k)

  pub select_among : (ts : List (Tree Op)) (k : ℕ) (d : Tree Op) → k < length ts → has_select_over lets (get_or ts k d) ≡ true → have_select_over lets (operands_of ts) ≡ true
  select_among [] k d l e = absurd (omega arith)
  select_among (t ∷ ts) zero d l e = ap (λ b. b || have_select_over lets (operands_of ts)) e
  select_among (t ∷ ts) (suc k) d l e = or_true (has_select_over lets t) (have_select_over lets (operands_of ts)) (select_among ts k d (omega arith) e)
