-- The computed rules and folding: rewrite rules of which some variables stand for constants, one rule for each choice
-- of these. The choice is this project's, by what one instruction of the Alpha Architecture Handbook, version 4, can
-- do with a constant.
use Rattle.std.specs.Prelude.{ℕ, ◌+◌, ◌-◌, ◌^◌, List, [], ◌∷◌}
use Rattle.word_ops.specs.Operators.{value_of}
use Rattle.word_ops.specs.declared.operators.WordOp.{WordOp}
use Rattle.word_ops.specs.declared.operates.Operate.TheVariants.{Addq, Subq, Mulq, S4addq, S8addq, S4subq, S8subq, And, Bis, Xor, Bic, Ornot, Eqv, Sll, Srl, Zapnot, Extbl, Extwl, Extll, Mskbl, Mskwl, Mskll}
use Rattle.word_ops.specs.declared.operators.WordOp.TheVariants.{Neg, Lda, Ldah}
use Rattle.word_ops.specs.declared.sorts.Op.{Op}
use Rattle.word_ops.specs.declared.sorts.Op.TheVariants.{Word}
use Rattle.word_ops.specs.declared.sorts.Sort.{Sort}
use Rattle.word_ops.specs.declared.sorts.Sort.TheVariants as sorts
use Rattle.word_terms.specs.Tree.{Tree, Trees, variable, application, none, more}
use Rattle.axiom_base.specs.Rewrites.{Rewrite}
use Rattle.word_terms.specs.Building.{w1, w2, o2, constant, select_of, store_of}
use Rattle.axiom_base.specs.declared.kinds.Calc.{Calc}
use Rattle.axiom_base.specs.declared.kinds.Given.{Given}
use Rattle.axiom_base.specs.declared.kinds.Calc.TheVariants.{C1, C2, C3, C4, C5, C6, C7, C8, C9, C10, C11, C12, C13, C14, C15, C16, C17, C18, C19, C20, C21, C22, C23, C24, C25, C26, C27, C28, C29, C30, C31, C32, C33, C34, C35, C36, C37}

-- the constants stand for variables number k, k + 1 and so on
abbrev pub constants_from : ℕ → List ℕ → List (ℕ × ℕ)
constants_from k [] = []
constants_from k (c ∷ cs) = (k, c) ∷ constants_from (k + 1) cs

-- ---- computed rules. Their variables are in order: a memory m, words x and v, where the left side has them, and then
-- the constants c and d

abbrev pub calc_variables : Calc → List Sort
calc_variables C3 = sorts.Word ∷ []
calc_variables C4 = sorts.Word ∷ []
calc_variables C5 = sorts.Word ∷ []
calc_variables C10 = sorts.Memory ∷ sorts.Word ∷ sorts.Word ∷ sorts.Word ∷ []
calc_variables C11 = sorts.Memory ∷ sorts.Word ∷ sorts.Word ∷ sorts.Word ∷ []
calc_variables C12 = sorts.Memory ∷ sorts.Word ∷ sorts.Word ∷ sorts.Word ∷ sorts.Word ∷ []
calc_variables C16 = sorts.Word ∷ []
calc_variables C35 = sorts.Word ∷ []
calc_variables C36 = sorts.Word ∷ []
calc_variables C37 = sorts.Word ∷ []
calc_variables C18 = sorts.Word ∷ sorts.Word ∷ sorts.Word ∷ []
calc_variables C19 = sorts.Word ∷ sorts.Word ∷ sorts.Word ∷ []
calc_variables C20 = sorts.Word ∷ sorts.Word ∷ sorts.Word ∷ []
calc_variables C26 = sorts.Word ∷ sorts.Word ∷ sorts.Word ∷ []
calc_variables C27 = sorts.Word ∷ sorts.Word ∷ sorts.Word ∷ []
calc_variables C28 = sorts.Word ∷ sorts.Word ∷ sorts.Word ∷ []
calc_variables C29 = sorts.Word ∷ sorts.Word ∷ sorts.Word ∷ []
calc_variables C30 = sorts.Word ∷ sorts.Word ∷ sorts.Word ∷ []
calc_variables C31 = sorts.Word ∷ sorts.Word ∷ sorts.Word ∷ []
calc_variables _ = sorts.Word ∷ sorts.Word ∷ []

-- the number of variable c, behind which d comes
abbrev pub first_constant : Calc → ℕ
first_constant C3 = 0
first_constant C4 = 0
first_constant C5 = 0
first_constant C16 = 0
first_constant C35 = 0
first_constant C36 = 0
first_constant C37 = 0
first_constant C10 = 3
first_constant C11 = 3
first_constant C12 = 3
first_constant _ = 1

abbrev pub calc_left : Calc → Tree Op
calc_left C1 = o2 Addq (variable 0) (variable 1)
calc_left C2 = o2 Addq (variable 0) (variable 1)
calc_left C3 = variable 0
calc_left C4 = variable 0
calc_left C5 = variable 0
calc_left C6 = o2 Mulq (variable 0) (variable 1)
calc_left C7 = o2 Mulq (variable 0) (variable 1)
calc_left C8 = o2 Mulq (variable 0) (variable 1)
calc_left C9 = o2 And (variable 0) (variable 1)
calc_left C10 = select_of (store_of (variable 0) (variable 1) (variable 2)) (o2 Addq (variable 1) (variable 3))
calc_left C11 = select_of (store_of (variable 0) (o2 Addq (variable 1) (variable 3)) (variable 2)) (variable 1)
calc_left C12 =
    select_of
    (store_of (variable 0) (o2 Addq (variable 1) (variable 3)) (variable 2))
    (o2 Addq (variable 1) (variable 4))
calc_left C13 = o2 And (variable 0) (variable 1)
calc_left C14 = o2 Bis (variable 0) (variable 1)
calc_left C15 = o2 Xor (variable 0) (variable 1)
calc_left C16 = variable 0
calc_left C17 = o2 Addq (variable 0) (variable 1)
calc_left C18 = o2 And (o2 Srl (variable 0) (variable 1)) (variable 2)
calc_left C19 = o2 And (o2 Srl (variable 0) (variable 1)) (variable 2)
calc_left C20 = o2 And (o2 Srl (variable 0) (variable 1)) (variable 2)
calc_left C21 = o2 Mulq (variable 0) (variable 1)
calc_left C22 = o2 Mulq (variable 0) (variable 1)
calc_left C23 = o2 Mulq (variable 0) (variable 1)
calc_left C24 = o2 Mulq (variable 0) (variable 1)
calc_left C25 = o2 Mulq (variable 0) (variable 1)
calc_left C26 = o2 Mskbl (o2 And (variable 0) (variable 1)) (variable 2)
calc_left C27 = o2 Mskwl (o2 And (variable 0) (variable 1)) (variable 2)
calc_left C28 = o2 Mskll (o2 And (variable 0) (variable 1)) (variable 2)
calc_left C29 = o2 Zapnot (o2 Srl (variable 0) (variable 1)) (variable 2)
calc_left C30 = o2 Zapnot (o2 Srl (variable 0) (variable 1)) (variable 2)
calc_left C31 = o2 Zapnot (o2 Srl (variable 0) (variable 1)) (variable 2)
calc_left C32 = o2 Mulq (variable 0) (variable 1)
calc_left C33 = o2 Mulq (variable 0) (variable 1)
calc_left C34 = o2 Mulq (variable 0) (variable 1)
calc_left C35 = variable 0
calc_left C36 = variable 0
calc_left C37 = variable 0

-- where it matters not which are given
abbrev pub no_constants : Given
no_constants = record { e = 0; f = 0 }

-- by the constants e and f that are given
abbrev pub calc_right : Calc → Given → Tree Op
calc_right C1 given = w2 Lda (variable 0) (constant given.e)
calc_right C2 given = w2 Ldah (variable 0) (constant given.e)
calc_right C3 given = w2 Lda (constant 0) (constant given.e)
calc_right C4 given = w2 Ldah (constant 0) (constant given.e)
calc_right C5 given = w2 Lda (constant given.e) (variable 0)
calc_right C6 given = o2 Sll (variable 0) (constant given.e)
calc_right C7 given = o2 Subq (o2 Sll (variable 0) (constant given.e)) (variable 0)
calc_right C8 given = o2 Addq (o2 Sll (variable 0) (constant given.e)) (variable 0)
calc_right C9 given = o2 Zapnot (variable 0) (constant given.e)
calc_right C10 given = select_of (variable 0) (o2 Addq (variable 1) (variable 3))
calc_right C11 given = select_of (variable 0) (variable 1)
calc_right C12 given = select_of (variable 0) (o2 Addq (variable 1) (variable 4))
calc_right C13 given = o2 Bic (variable 0) (constant given.e)
calc_right C14 given = o2 Ornot (variable 0) (constant given.e)
calc_right C15 given = o2 Eqv (variable 0) (constant given.e)
calc_right C16 given = o2 Zapnot (constant (2 ^ 64 - 1)) (constant given.e)
calc_right C17 given = w2 Lda (w2 Ldah (variable 0) (constant given.e)) (variable 1)
calc_right C18 given = o2 Extbl (variable 0) (constant given.e)
calc_right C19 given = o2 Extwl (variable 0) (constant given.e)
calc_right C20 given = o2 Extll (variable 0) (constant given.e)
calc_right C21 given = o2 Sll (o2 Mulq (variable 0) (constant given.e)) (constant given.f)
calc_right C22 given = o2 S4subq (o2 Mulq (variable 0) (constant given.e)) (o2 Mulq (variable 0) (constant given.e))
calc_right C23 given = o2 S4addq (o2 Mulq (variable 0) (constant given.e)) (o2 Mulq (variable 0) (constant given.e))
calc_right C24 given = o2 S8subq (o2 Mulq (variable 0) (constant given.e)) (o2 Mulq (variable 0) (constant given.e))
calc_right C25 given = o2 S8addq (o2 Mulq (variable 0) (constant given.e)) (o2 Mulq (variable 0) (constant given.e))
calc_right C26 given = o2 And (variable 0) (constant given.e)
calc_right C27 given = o2 And (variable 0) (constant given.e)
calc_right C28 given = o2 And (variable 0) (constant given.e)
calc_right C29 given = o2 Extbl (variable 0) (constant given.e)
calc_right C30 given = o2 Extwl (variable 0) (constant given.e)
calc_right C31 given = o2 Extll (variable 0) (constant given.e)
calc_right C32 given = o2 Addq (o2 Sll (o2 Mulq (variable 0) (constant given.e)) (constant given.f)) (variable 0)
calc_right C33 given = o2 Subq (o2 Sll (o2 Mulq (variable 0) (constant given.e)) (constant given.f)) (variable 0)
calc_right C34 given = w1 Neg (o2 Mulq (variable 0) (constant given.e))
calc_right C35 given = o2 Sll (constant given.e) (constant given.f)
calc_right C36 given = w2 Lda (constant given.e) (variable 0)
calc_right C37 given = o2 Zapnot (constant given.e) (constant 15)

-- the rule at the constants cs, which give e and f
abbrev pub calc_rewrite : Calc → List ℕ → Given → Rewrite
calc_rewrite kind cs given = record {
  variables = calc_variables kind;
  left = calc_left kind;
  right = calc_right kind given;
  constants = constants_from (first_constant kind) cs;
}

-- ---- folding: an operator of constants is the constant that it gives

abbrev pub words_for : List ℕ → List Sort
words_for [] = []
words_for (c ∷ cs) = sorts.Word ∷ words_for cs

-- a variable for each of the constants, numbered from k
abbrev pub variables_from : ℕ → List ℕ → Trees Op
variables_from k [] = none
variables_from k (c ∷ cs) = more (variable k) (variables_from (k + 1) cs)

abbrev pub fold_rewrite : WordOp → List ℕ → Rewrite
fold_rewrite op cs = record {
  variables = words_for cs;
  left = application (Word op) (variables_from 0 cs);
  right = constant (value_of op cs);
  constants = constants_from 0 cs;
}
