-- The equations between operators by which a goal's terms are rewritten. From Denali (PLDI 2002), its axioms of the
-- operators; the choice is this project's. In each row the left side comes first, and the variables are named in the
-- order of their numbers.
use Rattle.std.specs.Prelude.{List, [], ◌∷◌, ◌++◌}
use Rattle.word_ops.specs.declared.operates.Operate.{Operate}
use Rattle.word_ops.specs.declared.operates.Operate.TheVariants.{Addq, Addl, Subq, Mulq, Umulh, Sll, Srl, Sra, S4addq, S8addq, S4subq, S8subq, And, Bis, Xor, Bic, Ornot, Eqv, Cmpeq, Extbl, Extwl, Extll, Mskbl, Mskwl, Mskll, Insbl, Inswl, Insll, Sextb, Sextw}
use Rattle.word_ops.specs.declared.operators.WordOp.TheVariants.{Neg, Not, Selectb, Storeb, Lda}
use Rattle.word_ops.specs.declared.sorts.Access.{Access}
use Rattle.word_ops.specs.declared.sorts.Access.TheVariants.{Quad, Byte, Word, Long}
use Rattle.word_ops.specs.declared.sorts.Op.{Op}
use Rattle.word_ops.specs.declared.sorts.Sort.TheVariants as sorts
use Rattle.word_terms.specs.Tree.{Tree, variable}
use Rattle.word_terms.specs.Building.{w1, w2, w3, o1, o2, constant, select_of, store_of, read_of, written_of, displaced_read_of, displaced_written_of}
use Rattle.axiom_base.specs.Rewrites.{Rewrite}

-- ---- rules

-- over one, two and three words
abbrev pub words_1 : (Tree Op → Tree Op × Tree Op) → Rewrite
words_1 sides = record {
  variables = sorts.Word ∷ [];
  left = (sides (variable 0)).0;
  right = (sides (variable 0)).1;
  constants = [];
}

abbrev pub words_2 : (Tree Op → Tree Op → Tree Op × Tree Op) → Rewrite
words_2 sides = record {
  variables = sorts.Word ∷ sorts.Word ∷ [];
  left = (sides (variable 0) (variable 1)).0;
  right = (sides (variable 0) (variable 1)).1;
  constants = [];
}

abbrev pub words_3 : (Tree Op → Tree Op → Tree Op → Tree Op × Tree Op) → Rewrite
words_3 sides = record {
  variables = sorts.Word ∷ sorts.Word ∷ sorts.Word ∷ [];
  left = (sides (variable 0) (variable 1) (variable 2)).0;
  right = (sides (variable 0) (variable 1) (variable 2)).1;
  constants = [];
}

-- over a memory, and then one, two and three words
abbrev pub memory_1 : (Tree Op → Tree Op → Tree Op × Tree Op) → Rewrite
memory_1 sides = record {
  variables = sorts.Memory ∷ sorts.Word ∷ [];
  left = (sides (variable 0) (variable 1)).0;
  right = (sides (variable 0) (variable 1)).1;
  constants = [];
}

abbrev pub memory_2 : (Tree Op → Tree Op → Tree Op → Tree Op × Tree Op) → Rewrite
memory_2 sides = record {
  variables = sorts.Memory ∷ sorts.Word ∷ sorts.Word ∷ [];
  left = (sides (variable 0) (variable 1) (variable 2)).0;
  right = (sides (variable 0) (variable 1) (variable 2)).1;
  constants = [];
}

abbrev pub memory_3 : (Tree Op → Tree Op → Tree Op → Tree Op → Tree Op × Tree Op) → Rewrite
memory_3 sides = record {
  variables = sorts.Memory ∷ sorts.Word ∷ sorts.Word ∷ sorts.Word ∷ [];
  left = (sides (variable 0) (variable 1) (variable 2) (variable 3)).0;
  right = (sides (variable 0) (variable 1) (variable 2) (variable 3)).1;
  constants = [];
}

-- ---- the rows

abbrev pub additions : List Rewrite
additions =
    words_2 (λ x y. (o2 Addq x y, o2 Addq y x))
    ∷ words_3 (λ x y z. (o2 Addq (o2 Addq x y) z, o2 Addq x (o2 Addq y z)))
    ∷ words_1 (λ x. (o2 Addq x (constant 0), x))
    ∷ []

abbrev pub differences : List Rewrite
differences =
    words_2 (λ x y. (o2 Subq x y, o2 Addq x (w1 Neg y)))
    ∷ words_2 (λ x y. (o2 Addq x (w1 Neg y), o2 Subq x y))
    ∷ words_1 (λ x. (w1 Neg x, o2 Subq (constant 0) x))
    ∷ words_1 (λ x. (o2 Subq x x, constant 0))
    ∷ words_1 (λ x. (o2 Subq x (constant 0), x))
    ∷ words_1 (λ x. (w1 Neg (w1 Neg x), x))
    ∷ []

abbrev pub multiplications : List Rewrite
multiplications =
    words_2 (λ x y. (o2 Mulq x y, o2 Mulq y x))
    ∷ words_3 (λ x y z. (o2 Mulq (o2 Mulq x y) z, o2 Mulq x (o2 Mulq y z)))
    ∷ words_1 (λ x. (o2 Mulq x (constant 1), x))
    ∷ words_1 (λ x. (o2 Mulq x (constant 0), constant 0))
    ∷ words_2 (λ x y. (o2 Umulh x y, o2 Umulh y x))
    ∷ []

abbrev pub shifts : List Rewrite
shifts =
    words_1 (λ x. (o2 Addq x x, o2 Sll x (constant 1)))
    ∷ words_1 (λ x. (o2 Sll x (constant 1), o2 Addq x x))
    ∷ words_1 (λ x. (o2 Sll x (constant 0), x))
    ∷ words_1 (λ x. (o2 Srl x (constant 0), x))
    ∷ []

abbrev pub scaled_sums : List Rewrite
scaled_sums =
    words_2 (λ x y. (o2 Addq (o2 Sll x (constant 2)) y, o2 S4addq x y))
    ∷ words_2 (λ x y. (o2 Addq (o2 Sll x (constant 3)) y, o2 S8addq x y))
    ∷ words_2 (λ x y. (o2 Subq (o2 Sll x (constant 2)) y, o2 S4subq x y))
    ∷ words_2 (λ x y. (o2 Subq (o2 Sll x (constant 3)) y, o2 S8subq x y))
    ∷ []

abbrev pub ands : List Rewrite
ands =
    words_2 (λ x y. (o2 And x y, o2 And y x))
    ∷ words_3 (λ x y z. (o2 And (o2 And x y) z, o2 And x (o2 And y z)))
    ∷ words_1 (λ x. (o2 And x x, x))
    ∷ words_1 (λ x. (o2 And x (constant 0), constant 0))
    ∷ []

abbrev pub ors : List Rewrite
ors =
    words_2 (λ x y. (o2 Bis x y, o2 Bis y x))
    ∷ words_3 (λ x y z. (o2 Bis (o2 Bis x y) z, o2 Bis x (o2 Bis y z)))
    ∷ words_1 (λ x. (o2 Bis x x, x))
    ∷ words_1 (λ x. (o2 Bis x (constant 0), x))
    ∷ []

abbrev pub exclusive_ors : List Rewrite
exclusive_ors =
    words_2 (λ x y. (o2 Xor x y, o2 Xor y x))
    ∷ words_3 (λ x y z. (o2 Xor (o2 Xor x y) z, o2 Xor x (o2 Xor y z)))
    ∷ words_1 (λ x. (o2 Xor x x, constant 0))
    ∷ words_1 (λ x. (o2 Xor x (constant 0), x))
    ∷ []

abbrev pub inversions : List Rewrite
inversions =
    words_1 (λ x. (w1 Not x, o2 Ornot (constant 0) x))
    ∷ words_1 (λ x. (w1 Not (w1 Not x), x))
    ∷ words_2 (λ x y. (o2 And x (w1 Not y), o2 Bic x y))
    ∷ words_2 (λ x y. (o2 Bis x (w1 Not y), o2 Ornot x y))
    ∷ words_2 (λ x y. (o2 Xor x (w1 Not y), o2 Eqv x y))
    ∷ []

abbrev pub comparisons : List Rewrite
comparisons = words_2 (λ x y. (o2 Cmpeq x y, o2 Cmpeq y x)) ∷ []

abbrev pub bytes : List Rewrite
bytes =
    words_2 (λ x y. (w2 Selectb x y, o2 Extbl x y))
    ∷ words_3 (λ x y z. (w3 Storeb x y z, o2 Bis (o2 Mskbl x y) (o2 Insbl z y)))
    ∷ words_1 (λ x. (o2 Sra (o2 Sll x (constant 56)) (constant 56), o1 Sextb x))
    ∷ words_1 (λ x. (o2 Sra (o2 Sll x (constant 48)) (constant 48), o1 Sextw x))
    ∷ []

abbrev pub memories : List Rewrite
memories =
    memory_2 (λ m a v. (select_of (store_of m a v) a, v))
    ∷ memory_3 (λ m a v w. (store_of (store_of m a v) a w, store_of m a w))
    ∷ memory_2 (λ m x k. (select_of m (w2 Lda x k), displaced_read_of Quad m x k))
    ∷ memory_3 (λ m x k v. (store_of m (w2 Lda x k) v, displaced_written_of Quad m x k v))
    ∷ []

-- what an access reads, out of the word at the address
abbrev pub extracted : Access → Tree Op → Tree Op → Tree Op
extracted Quad m a = select_of m a
extracted Byte m a = o2 Extbl (select_of m a) a
extracted Word m a = o2 Extwl (select_of m a) a
extracted Long m a = o2 Addl (o2 Extll (select_of m a) a) (constant 0)

abbrev pub narrow_loads : List Rewrite
narrow_loads =
    memory_1 (λ m a. (read_of Byte m a, extracted Byte m a))
    ∷ memory_1 (λ m a. (extracted Byte m a, read_of Byte m a))
    ∷ memory_1 (λ m a. (read_of Word m a, extracted Word m a))
    ∷ memory_1 (λ m a. (extracted Word m a, read_of Word m a))
    ∷ memory_1 (λ m a. (read_of Long m a, extracted Long m a))
    ∷ memory_1 (λ m a. (extracted Long m a, read_of Long m a))
    ∷ []

-- the word at the address without its bytes there, joined with bytes of v in their place
abbrev pub joined : Operate → Operate → Tree Op → Tree Op → Tree Op → Tree Op
joined mask insert m a v = o2 Bis (o2 mask (select_of m a) a) (o2 insert v a)

-- the word that stands at the address once an access wrote v
abbrev pub inserted : Access → Tree Op → Tree Op → Tree Op → Tree Op
inserted Quad m a v = v
inserted Byte m a v = joined Mskbl Insbl m a v
inserted Word m a v = joined Mskwl Inswl m a v
inserted Long m a v = joined Mskll Insll m a v

abbrev pub narrow_stores : List Rewrite
narrow_stores =
    memory_2 (λ m a v. (written_of Byte m a v, store_of m a (inserted Byte m a v)))
    ∷ memory_2 (λ m a v. (store_of m a (inserted Byte m a v), written_of Byte m a v))
    ∷ memory_2 (λ m a v. (written_of Word m a v, store_of m a (inserted Word m a v)))
    ∷ memory_2 (λ m a v. (store_of m a (inserted Word m a v), written_of Word m a v))
    ∷ memory_2 (λ m a v. (written_of Long m a v, store_of m a (inserted Long m a v)))
    ∷ memory_2 (λ m a v. (store_of m a (inserted Long m a v), written_of Long m a v))
    ∷ []

abbrev pub narrow_displaced : List Rewrite
narrow_displaced =
    memory_2 (λ m x k. (read_of Byte m (w2 Lda x k), displaced_read_of Byte m x k))
    ∷ memory_2 (λ m x k. (read_of Word m (w2 Lda x k), displaced_read_of Word m x k))
    ∷ memory_2 (λ m x k. (read_of Long m (w2 Lda x k), displaced_read_of Long m x k))
    ∷ memory_3 (λ m x k v. (written_of Byte m (w2 Lda x k) v, displaced_written_of Byte m x k v))
    ∷ memory_3 (λ m x k v. (written_of Word m (w2 Lda x k) v, displaced_written_of Word m x k v))
    ∷ memory_3 (λ m x k v. (written_of Long m (w2 Lda x k) v, displaced_written_of Long m x k v))
    ∷ []

abbrev pub equations : List Rewrite
equations =
    additions ++ differences ++ multiplications ++ shifts ++ scaled_sums ++ ands ++ ors ++ exclusive_ors ++ inversions
    ++ comparisons ++ bytes ++ memories ++ narrow_loads ++ narrow_stores ++ narrow_displaced
