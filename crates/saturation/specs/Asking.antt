-- What a round asks for, and the rules that it comes from. No public clause rests on this. From this project.
use Rattle.std.specs.Prelude.{◌≡◌, ◌≢◌, ℕ, ◌+◌, ◌<◌, ◌⊎◌, List, [], ◌∷◌, ◌++◌, map, length, unwrap_or, All, Contains}
use Rattle.std.specs.List.{AllZip}
use Rattle.word_ops.specs.Operators.{operators}
use Rattle.word_ops.specs.declared.sorts.Op.{Op}
use Rattle.axiom_base.specs.Rewrites.{Rewrite}
use Rattle.word_terms.specs.Building.{constant}
use Rattle.axiom_base.specs.Equations as rows
use Rattle.axiom_base.specs.Computed.{calc_right, no_constants}
use Rattle.axiom_base.specs.declared.kinds.Calc.{Calc}
use Rattle.axiom_base.specs.Schemes.{AddedRules, Scheme, plain, computed, folding, calc_kinds, IsOf}
use Rattle.egraph.specs.Graph.{Graph}
use Rattle.pattern_match.specs.Matches.{IsUnmet, IsUnmetOf, IsUnmetCalc, IsFoldOf, IsNeed, AreNeeds}
use Rattle.pattern_match.specs.Found.{classes_in}
use Rattle.pattern_match.specs.Listing.{Lists, Chosen}
use Rattle.pattern_match.specs.declared.found.Match.{Match}
use Rattle.pattern_match.specs.declared.found.Fold.{Fold}
use Rattle.saturation.specs.Trace.{Asked, operators_asked}
use Rattle.saturation.specs.declared.searching.Unmet.{Unmet}
use Rattle.graph_meaning.specs.declared.stops.Stop.{Stop}
use Rattle.graph_meaning.specs.declared.stops.Stop.TheVariants.{Quiet, Rounds, Full}

-- the rule's right side over the classes of a match, or over none where it is a constant
pub record AsksFor (r : Rewrite) (places : List ℕ) (a : Asked) : Type 0 where
  pub right : a.right ≡ r.right
  pub over : (a.places ≡ places) ⊎ ((a.places ≡ []) × ((v : ℕ) × (r.right ≡ constant v)))

-- the classes are an unmet match of one of the scheme's rules, and this is what it asks for
pub record IsAskedOf (g : Graph Op) (s : Scheme) (places : List ℕ) (a : Asked) : Type 0 where
  pub rule : Rewrite
  pub of : IsOf s rule
  pub unmet : IsUnmet g rule places a.class
  pub asks : AsksFor rule places a

-- what is asked comes from unmet matches of these schemes, each of which is asked for; all of it together has as many
-- operators as the matches need
pub record AreAsked (g : Graph Op) (ss : List Scheme) (asked : List Asked) : Type 0 where
  pub each : All (λ a. (s : Scheme) × Contains ss s × ((places : List ℕ) × IsAskedOf g s places a)) asked
  pub all :
      (s : Scheme) (places : List ℕ) →
      Contains ss s →
      IsUnmetOf g s places →
      ((a : Asked) × Contains asked a × IsAskedOf g s places a)
  pub needs : AreNeeds g ss (operators_asked asked)

-- why the numbers end the rounds before another that was asked for
abbrev pub StopFits : ℕ → ℕ → ℕ → ℕ → Stop → Type 0
StopFits asked need rows nodes Quiet = asked ≡ 0
StopFits asked need rows nodes Rounds = ⊥
StopFits asked need rows nodes Full = (asked ≢ 0) × (nodes < rows + need)

-- the unmet matches of the schemes need more than this
pub record NeedMoreThan (g : Graph Op) (ss : List Scheme) (most : ℕ) : Type 0 where
  pub need : ℕ
  pub are : AreNeeds g ss need
  pub more : most < need

-- the unmet matches of the rule need more than this
pub record RuleNeedsMore (g : Graph Op) (r : Rewrite) (most : ℕ) : Type 0 where
  pub need : ℕ
  pub is : IsNeed g (plain r) need
  pub more : most < need

-- ---- the search before a round

-- the unmet matches of the rule, each with the class of its left side
pub record AreUnmetOf (g : Graph Op) (r : Rewrite) (found : List Match) : Type 0 where
  pub exact : Lists (IsUnmetOf g (plain r)) (map classes_in found)
  pub each : All (λ (m : Match). IsUnmet g r m.classes m.class) found

-- the unmet matches of the kind's rules, each with the class of its left side and its constants
pub record AreUnmetOfKind (g : Graph Op) (kind : Calc) (found : List Match) : Type 0 where
  pub exact : Lists (IsUnmetOf g (computed kind)) (map classes_in found)
  pub each : All (IsUnmetCalc g kind) found

-- what a search found: the unmet matches of each rule and kind in their order, and those of folding
pub record AreFound (g : Graph Op) (added : AddedRules) (u : Unmet) : Type 0 where
  pub equations : AllZip (AreUnmetOf g) rows.equations u.equations.items
  pub axioms : AllZip (AreUnmetOf g) added.axioms u.axioms.items
  pub kinds : AllZip (AreUnmetOfKind g) (calc_kinds ++ added.kinds) u.kinds.items
  pub folds : Chosen (IsFoldOf g) g.rows u.folds
  pub folds_need : AreNeeds g (map folding operators) (length u.folds)

-- what a match asks for
abbrev pub rule_asked : Rewrite → Match → Asked
rule_asked r m = record { right = r.right; places = m.classes; class = m.class }

abbrev pub kind_asked : Calc → Match → Asked
kind_asked kind m = record {
  right = calc_right kind (unwrap_or m.given no_constants);
  places = m.classes;
  class = m.class;
}

abbrev pub fold_asked : Fold → Asked
fold_asked f = record { right = constant f.value; places = []; class = f.class }

-- what the matches of several rules ask for, rule by rule
abbrev pub asked_of_each : {X : Type 0} → (X → Match → Asked) → List X → List (List Match) → List Asked
asked_of_each f (x ∷ xs) (ms ∷ found) = map (f x) ms ++ asked_of_each f xs found
asked_of_each f _ _ = []

-- what all of them ask for
abbrev pub asked_of_all : AddedRules → Unmet → List Asked
asked_of_all added u =
    asked_of_each rule_asked rows.equations u.equations.items
    ++ asked_of_each rule_asked added.axioms u.axioms.items
    ++ asked_of_each kind_asked (calc_kinds ++ added.kinds) u.kinds.items
    ++ map fold_asked u.folds
