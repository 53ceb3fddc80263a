-- When two graphs have the same rows, but for their order and the numbers of classes. From this project.
use Rattle.std.specs.Prelude.{◌≡◌, ℕ, [], Contains}
use Rattle.std.specs.List.{AllZip}
use Rattle.word_ops.specs.declared.sorts.Op.{Op}
use Rattle.word_terms.specs.Tree.{Tree}
use Rattle.egraph.specs.Graph.{Graph}
use Rattle.egraph.specs.declared.rows.Row.{Row}
use Rattle.pattern_match.specs.Classes.{IsClass}

-- a class of each graph, of one term
pub record AreOfOneTerm (g h : Graph Op) (c d : ℕ) : Type 0 where
  pub term : Tree Op
  pub first : IsClass g [] term c
  pub second : IsClass h [] term d

-- each row of the one is a row of the other, with its own numbers for the classes
abbrev pub HasEachRow : Graph Op → Graph Op → Type 0
HasEachRow g h =
    (r : Row Op) →
    Contains g.rows r →
    (s : Row Op)
    × Contains h.rows s
    × (s.op ≡ r.op)
    × AreOfOneTerm g h r.class s.class
    × AllZip (AreOfOneTerm g h) r.operands s.operands

-- the rows are the same, and classes go with each other one to one
pub record AreAlike (g h : Graph Op) : Type 0 where
  pub rows : HasEachRow g h
  pub back : HasEachRow h g
  pub forth : (c d e : ℕ) → AreOfOneTerm g h c d → AreOfOneTerm g h c e → d ≡ e
  pub one : (c d e : ℕ) → AreOfOneTerm g h c e → AreOfOneTerm g h d e → c ≡ d
