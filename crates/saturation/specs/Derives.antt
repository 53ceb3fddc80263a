-- Which terms are equal after a number of rounds of matching. From Denali (PLDI 2002), its matching phase; the counting
-- of rounds is this project's.
use Rattle.std.specs.Prelude.{◌≢◌, ℕ, ◌+◌, List, Contains}
use Rattle.word_ops.specs.declared.sorts.Op.{Op}
use Rattle.word_terms.specs.Tree.{Tree, Trees, application, none, more, put_in, substituted}
use Rattle.axiom_base.specs.Rewrites.{Rewrite}
use Rattle.word_terms.specs.Building.{constant}
use Rattle.axiom_base.specs.Schemes.{AddedRules, IsRuleOf}

-- two terms
abbrev pub Pair : Type 0
Pair = Tree Op × Tree Op

-- t is one of the operands
pub data IsAmong {O : Type 0} (t : Tree O) : Trees O → Type 0 where
  first : {ts : Trees O} → IsAmong t (more t ts)
  rest : {u : Tree O} {ts : Trees O} → IsAmong t ts → IsAmong t (more u ts)

mutual
  -- t and u are equal after so many rounds with these rules added, from the terms in `present` and the pairs in
  -- `equal`. A term is present where it equals itself.
  pub data Derives (added : AddedRules) (present : List (Tree Op)) (equal : List Pair) :
      ℕ → Tree Op → Tree Op → Type 0 where
    given : (t : Tree Op) → Contains present t → Derives added present equal 0 t t
    assumed : (t u : Tree Op) → Contains equal (t, u) → Derives added present equal 0 t u
    symmetric : {j : ℕ} {t u : Tree Op} → Derives added present equal j t u → Derives added present equal j u t
    transitive :
        {j : ℕ} {t u v : Tree Op} →
        Derives added present equal j t u →
        Derives added present equal j u v →
        Derives added present equal j t v
    later : {j : ℕ} {t u : Tree Op} → Derives added present equal j t u → Derives added present equal (j + 1) t u
    -- the operands of a term that is present are present
    operand :
        {j : ℕ} {op : Op} {ts : Trees Op} (t : Tree Op) →
        IsAmong t ts →
        Derives added present equal j (application op ts) (application op ts) →
        Derives added present equal j t t
    -- an application that is present equals that of equal operands
    congruent :
        {j : ℕ} {op : Op} {ts us : Trees Op} →
        Derives added present equal j (application op ts) (application op ts) →
        DerivesEach added present equal j ts us →
        Derives added present equal j (application op ts) (application op us)
    -- both instances of a rule are equal one round after the left one is present; what stands for a constant equals it
    by_rule :
        {j : ℕ} (r : Rewrite) (values : List (Tree Op)) →
        IsRuleOf added r →
        Derives added present equal j (substituted values r.left) (substituted values r.left) →
        ((n c : ℕ) → Contains r.constants (n, c) → Derives added present equal j (put_in values n) (constant c)) →
        Derives added present equal (j + 1) (substituted values r.left) (substituted values r.right)

  -- the operands are equal in the same way, place by place
  pub data DerivesEach (added : AddedRules) (present : List (Tree Op)) (equal : List Pair) :
      ℕ → Trees Op → Trees Op → Type 0 where
    no_operands : {j : ℕ} → DerivesEach added present equal j none none
    operands :
        {j : ℕ} {t u : Tree Op} {ts us : Trees Op} →
        Derives added present equal j t u →
        DerivesEach added present equal j ts us →
        DerivesEach added present equal j (more t ts) (more u us)

-- two different constants are equal after j rounds
pub record IsClash (added : AddedRules) (present : List (Tree Op)) (equal : List Pair) (j a b : ℕ) : Type 0 where
  pub derived : Derives added present equal j (constant a) (constant b)
  pub differ : a ≢ b
