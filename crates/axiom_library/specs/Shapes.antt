-- Axioms as trees, by how many variables they have, and terms that several of them share. Source: this project; what an
-- axiom is comes from Denali (PLDI 2002).
use Rattle.std.specs.Prelude.{ℕ, ◌+◌, List, [], ◌∷◌, map, codes}
use Rattle.word_ops.specs.declared.operates.Operate.{Operate}
use Rattle.word_ops.specs.declared.operates.Operate.TheVariants.{And, Bis, Insbl, Inswl, Sll, Srl, Zapnot}
use Rattle.word_ops.specs.declared.operators.WordOp.TheVariants.{Selectb, Storeb}
use Rattle.word_ops.specs.declared.sorts.Op.{Op}
use Rattle.word_terms.specs.Tree.{Tree, variable}
use Rattle.word_terms.specs.Building.{w2, w3, o2, constant}
use Rattle.goal_meaning.specs.Views.{AxiomTree}

-- ---- axioms

-- variables of one letter each
abbrev pub letters : List ℕ → List (List ℕ)
letters names = map (λ b. b ∷ []) names

-- over x alone
abbrev pub over_x : (Tree Op → Tree Op × Tree Op) → AxiomTree
over_x sides = record {
  variables = letters (codes "x");
  left = (sides (variable 0)).0;
  right = (sides (variable 0)).1;
}

-- over x and y
abbrev pub over_xy : (Tree Op → Tree Op → Tree Op × Tree Op) → AxiomTree
over_xy sides = record {
  variables = letters (codes "xy");
  left = (sides (variable 0) (variable 1)).0;
  right = (sides (variable 0) (variable 1)).1;
}

-- over x, y and m
abbrev pub over_xym : (Tree Op → Tree Op → Tree Op → Tree Op × Tree Op) → AxiomTree
over_xym sides = record {
  variables = letters (codes "xym");
  left = (sides (variable 0) (variable 1) (variable 2)).0;
  right = (sides (variable 0) (variable 1) (variable 2)).1;
}

-- over a, b, c and d
abbrev pub over_abcd : (Tree Op → Tree Op → Tree Op → Tree Op → Tree Op × Tree Op) → AxiomTree
over_abcd sides = record {
  variables = letters (codes "abcd");
  left = (sides (variable 0) (variable 1) (variable 2) (variable 3)).0;
  right = (sides (variable 0) (variable 1) (variable 2) (variable 3)).1;
}

-- ---- terms

-- t and t shifted to the left, joined by the operator
abbrev pub repeated : Operate → ℕ → Tree Op → Tree Op
repeated op distance t = o2 op t (o2 Sll t (constant distance))

-- t shifted to the right, of which the bytes of the first mask are kept, and t shifted to the left, with the second
abbrev pub swapped : ℕ → ℕ → ℕ → Tree Op → Tree Op
swapped distance right left t =
    o2 Bis
    (o2 Zapnot (o2 Srl t (constant distance)) (constant right))
    (o2 Zapnot (o2 Sll t (constant distance)) (constant left))

-- t with the low bytes of a, b, c and d put in, from byte `at` on
abbrev pub four_stored : Tree Op → ℕ → Tree Op → Tree Op → Tree Op → Tree Op → Tree Op
four_stored t at a b c d =
    w3 Storeb
    (w3 Storeb (w3 Storeb (w3 Storeb t (constant at) a) (constant (at + 1)) b) (constant (at + 2)) c)
    (constant (at + 3)) d

-- byte n of a term
abbrev pub byte_of : Tree Op → ℕ → Tree Op
byte_of t n = w2 Selectb t (constant n)

-- the low byte of t in both low bytes, and in each of the low four
abbrev pub twice : Tree Op → Tree Op
twice t = o2 Bis (o2 And t (constant 255)) (o2 Insbl t (constant 1))

abbrev pub four_times : Tree Op → Tree Op
four_times t = o2 Bis (twice t) (o2 Inswl (twice t) (constant 2))
