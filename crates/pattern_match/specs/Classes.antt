-- The class of a term in an E-graph: that of the row with the term's operator and the classes of its operands. From
-- Denali (PLDI 2002).
use Rattle.std.specs.Prelude.{ℕ, ◌<◌, List, [], ◌∷◌, length, get_or, All}
use Rattle.word_ops.specs.declared.sorts.Op.{Op}
use Rattle.word_terms.specs.Keys.{op_signature}
use Rattle.word_terms.specs.Tree.{Tree, Trees, variable, application, none, more, AreBelow}
use Rattle.egraph.specs.Graph.{Graph, IsGraph, HasClass, HasRow}

mutual
  -- the term has this class, where the variables have the classes in `places`
  pub data IsClass {O : Type 0} (g : Graph O) (places : List ℕ) : Tree O → ℕ → Type 0 where
    at_variable : {n : ℕ} → n < length places → IsClass g places (variable n) (get_or places n 0)
    at_row :
        {op : O} {ts : Trees O} {cs : List ℕ} {c : ℕ} →
        AreClasses g places ts cs →
        HasRow g.rows op cs c →
        IsClass g places (application op ts) c

  -- the same of operands, place by place
  pub data AreClasses {O : Type 0} (g : Graph O) (places : List ℕ) : Trees O → List ℕ → Type 0 where
    no_classes : AreClasses g places none []
    classes :
        {t : Tree O} {ts : Trees O} {c : ℕ} {cs : List ℕ} →
        IsClass g places t c →
        AreClasses g places ts cs →
        AreClasses g places (more t ts) (c ∷ cs)

-- the two terms have one class
pub record HaveOneClass {O : Type 0} (g : Graph O) (places : List ℕ) (t u : Tree O) : Type 0 where
  pub class : ℕ
  pub first : IsClass g places t class
  pub second : IsClass g places u class

-- the graph is one of the program's, its classes stand for the variables, and these are all that the term has
pub record CanFindClass (g : Graph Op) (places : List ℕ) (t : Tree Op) : Type 0 where
  pub graph : IsGraph op_signature g
  pub present : All (HasClass g) places
  pub below : AreBelow (length places) t
