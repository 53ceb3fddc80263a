-- Matches of rules in an E-graph. From Denali (PLDI 2002): a match is an instance of a rule's left side that the graph
-- holds.
use Rattle.std.specs.Prelude.{◌≡◌, ℕ, ◌+◌, ◌*◌, List, [], ◌∷◌, length, get_or, drop, Some, All, Contains}
use Rattle.std.specs.List.{AllZip}
use Rattle.word_ops.specs.declared.operators.WordOp.{WordOp}
use Rattle.word_ops.specs.declared.sorts.Op.{Op}
use Rattle.word_ops.specs.declared.sorts.Op.TheVariants.{Word}
use Rattle.word_terms.specs.Keys.{op_signature}
use Rattle.axiom_base.specs.Rewrites.{Rewrite}
use Rattle.word_terms.specs.Building.{constant}
use Rattle.axiom_base.specs.Schemes.{Scheme, computed, folding, IsOf, weight}
use Rattle.axiom_base.specs.Conditions.{IsCalc, constants_of}
use Rattle.axiom_base.specs.Computed.{first_constant, calc_right}
use Rattle.axiom_base.specs.declared.kinds.Calc.{Calc}
use Rattle.axiom_base.specs.declared.kinds.Given.{Given}
use Rattle.egraph.specs.Graph.{Graph, IsGraph, HasClass, HasConstant}
use Rattle.egraph.specs.declared.rows.Row.{Row}
use Rattle.pattern_match.specs.Classes.{IsClass}
use Rattle.pattern_match.specs.Listing.{Count}
use Rattle.pattern_match.specs.declared.found.Fold.{Fold}
use Rattle.pattern_match.specs.declared.found.Match.{Match}

-- classes for the rule's variables, in the order of their numbers, under which its left side has the class; one that
-- stands for a constant has it
pub record IsMatch (g : Graph Op) (r : Rewrite) (places : List ℕ) (class : ℕ) : Type 0 where
  pub count : length places ≡ length r.variables
  pub present : All (HasClass g) places
  pub left : IsClass g places r.left class
  pub constants : (n c : ℕ) → Contains r.constants (n, c) → HasConstant op_signature g.rows (get_or places n 0) c

-- its right side has no class there, or another one
pub record IsUnmet (g : Graph Op) (r : Rewrite) (places : List ℕ) (class : ℕ) : Type 0 where
  pub match : IsMatch g r places class
  pub right : ¬ IsClass g places r.right class

-- ---- by scheme

-- a match of one of the scheme's rules
pub record IsMatchOf (g : Graph Op) (s : Scheme) (places : List ℕ) : Type 0 where
  pub rule : Rewrite
  pub of : IsOf s rule
  pub class : ℕ
  pub match : IsMatch g rule places class

pub record IsUnmetOf (g : Graph Op) (s : Scheme) (places : List ℕ) : Type 0 where
  pub rule : Rewrite
  pub of : IsOf s rule
  pub class : ℕ
  pub unmet : IsUnmet g rule places class

-- the number of the scheme's unmet matches times the operators of a right side
pub record IsNeed (g : Graph Op) (s : Scheme) (n : ℕ) : Type 0 where
  pub matches : ℕ
  pub count : Count (IsUnmetOf g s) matches
  pub is : n ≡ matches * weight s

-- the sum over the list of schemes, where one that stands twice counts twice
pub data AreNeeds (g : Graph Op) : List Scheme → ℕ → Type 0 where
  no_need : AreNeeds g [] 0
  one_need :
      {s : Scheme} {ss : List Scheme} {m n : ℕ} →
      IsNeed g s m →
      AreNeeds g ss n →
      AreNeeds g (s ∷ ss) (m + n)

-- ---- folding

-- the row is an unmet match of folding, whose right side is the constant; its operands are the match's classes
pub record IsUnmetFold (g : Graph Op) (row : Row Op) (value : ℕ) : Type 0 where
  pub op : WordOp
  pub op_is : row.op ≡ Word op
  pub rule : Rewrite
  pub of : IsOf (folding op) rule
  pub right_is : rule.right ≡ constant value
  pub unmet : IsUnmet g rule row.operands row.class

-- what is found of such a row
pub record IsFoldOf (g : Graph Op) (row : Row Op) (fold : Fold) : Type 0 where
  pub class_is : fold.class ≡ row.class
  pub unmet : IsUnmetFold g row fold.value

-- ---- computed rules

-- each of the classes has the constant in its place
abbrev pub HaveConstants : Graph Op → List ℕ → List ℕ → Type 0
HaveConstants g classes words = AllZip (λ class word. HasConstant op_signature g.rows class word) classes words

-- how many variables the kind's rules have
abbrev pub variables_of : Calc → ℕ
variables_of kind = first_constant kind + constants_of kind

-- the classes are those of a graph of the program, as many as the kind's rules have variables
pub record CanGive (g : Graph Op) (kind : Calc) (classes : List ℕ) : Type 0 where
  pub graph : IsGraph op_signature g
  pub present : All (HasClass g) classes
  pub count : length classes ≡ variables_of kind

-- the classes behind those of other variables have constants that give these
pub record AreGiven (g : Graph Op) (kind : Calc) (classes : List ℕ) (given : Given) : Type 0 where
  pub words : List ℕ
  pub constants : HaveConstants g (drop (first_constant kind) classes) words
  pub calc : IsCalc kind words given

-- the match is an unmet one of the kind's rule whose right side is made with the match's constants
pub record IsUnmetCalc (g : Graph Op) (kind : Calc) (m : Match) : Type 0 where
  pub given : Given
  pub given_is : m.given ≡ Some given
  pub rule : Rewrite
  pub of : IsOf (computed kind) rule
  pub right_is : rule.right ≡ calc_right kind given
  pub unmet : IsUnmet g rule m.classes m.class
