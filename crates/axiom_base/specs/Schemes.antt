-- The rules of a saturation as one list of schemes. A scheme stands for one rewrite rule, or for a family of them that
-- differ in constants. From Denali (PLDI 2002), its axioms; the choice of families is this project's.
use Rattle.std.specs.Prelude.{◌≡◌, ℕ, List, [], ◌∷◌, ◌++◌, map, length, All, Contains}
use Rattle.word_ops.specs.Words.{IsWord}
use Rattle.word_ops.specs.Operators.{arity_of, operators}
use Rattle.word_ops.specs.declared.operators.WordOp.{WordOp}
use Rattle.word_terms.specs.OperatorsIn.{operators_in}
use Rattle.axiom_base.specs.Rewrites.{Rewrite}
use Rattle.axiom_base.specs.Equations.{equations}
use Rattle.axiom_base.specs.Conditions.{IsCalc}
use Rattle.axiom_base.specs.Computed.{calc_rewrite, calc_right, no_constants, fold_rewrite}
use Rattle.axiom_base.specs.declared.kinds.Calc.{Calc}
use Rattle.axiom_base.specs.declared.kinds.Given.{Given}
use Rattle.axiom_base.specs.declared.kinds.Calc.TheVariants.{C1, C2, C3, C4, C5, C6, C7, C8, C9, C10, C11, C12, C13, C14, C15, C16, C17, C18, C19, C20, C21, C22, C23, C24, C25, C26, C27, C28, C29, C30, C31, C32, C33, C34, C35, C36, C37}

pub data Scheme : Type 0 where
  -- an equation or an axiom
  plain : Rewrite → Scheme
  -- the rules of a kind, one for each choice of constants that meets its condition
  computed : Calc → Scheme
  -- the operator applied to constants
  folding : WordOp → Scheme

-- the rule is one of the scheme's
pub data IsOf : Scheme → Rewrite → Type 0 where
  itself : (r : Rewrite) → IsOf (plain r) r
  calculated :
      (kind : Calc) (cs : List ℕ) (given : Given) →
      IsCalc kind cs given →
      IsOf (computed kind) (calc_rewrite kind cs given)
  folded :
      (op : WordOp) (cs : List ℕ) →
      All IsWord cs →
      length cs ≡ arity_of op →
      IsOf (folding op) (fold_rewrite op cs)

-- the kinds that are asked for with every text
abbrev pub calc_kinds : List Calc
calc_kinds = C1 ∷ C2 ∷ C3 ∷ C4 ∷ C5 ∷ C6 ∷ C7 ∷ C8 ∷ C9 ∷ C10 ∷ C11 ∷ C12 ∷ []

-- the kinds that a library has beside these
abbrev pub further_kinds : List Calc
further_kinds =
    C13 ∷ C14 ∷ C15 ∷ C16 ∷ C17 ∷ C18 ∷ C19 ∷ C20 ∷ C21 ∷ C22 ∷ C23 ∷ C24 ∷ C25 ∷
    C26 ∷ C27 ∷ C28 ∷ C29 ∷ C30 ∷ C31 ∷ C32 ∷ C33 ∷ C34 ∷ C35 ∷ C36 ∷ C37 ∷ []

-- the rules that join those of every saturation: axioms, and kinds of computed rules
pub record AddedRules : Type 0 where
  pub axioms : List Rewrite
  pub kinds : List Calc

-- the equations, the axioms, the computed rules and folding; a rule that stands twice is two schemes
abbrev pub schemes : AddedRules → List Scheme
schemes added =
    map plain equations
    ++ map plain added.axioms
    ++ map computed (calc_kinds ++ added.kinds)
    ++ map folding operators

-- the rule is an instance of one of them
pub record IsRuleOf (added : AddedRules) (r : Rewrite) : Type 0 where
  pub scheme : Scheme
  pub there : Contains (schemes added) scheme
  pub of : IsOf scheme r

-- how many operators the right side of each of the scheme's rules has
abbrev pub weight : Scheme → ℕ
weight (plain r) = operators_in r.right
weight (computed kind) = operators_in (calc_right kind no_constants)
weight (folding op) = 1
