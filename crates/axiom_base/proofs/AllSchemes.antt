-- What holds of each rule of a saturation, whatever its scheme.
use Rattle.std.proofs.Common.{◌≡◌, ℕ, zero, suc, List, [], ◌∷◌, ◌++◌, map, length, refl, ap, subst, inl, inr, ◌⊎◌, arith}
use Rattle.std.specs.Prelude.{All, Contains}
use Rattle.std.proofs.lemmas.List.Elements.{All-contains, Contains-append_cases}
use Rattle.word_ops.specs.Words.{IsWord}
use Rattle.word_ops.specs.Operators.{arity_of, operators}
use Rattle.word_ops.specs.declared.operators.WordOp.{WordOp}
use Rattle.axiom_base.specs.declared.kinds.Calc.{Calc}
use Rattle.axiom_base.specs.declared.kinds.Calc.TheVariants.{C1, C2, C3, C4, C5, C6, C7, C8, C9, C10, C11, C12, C13, C14, C15, C16, C17, C18, C19, C20, C21, C22, C23, C24, C25, C26, C27, C28, C29, C30, C31, C32, C33, C34, C35, C36, C37}
use Rattle.axiom_base.specs.declared.kinds.Given.{Given}
use Rattle.axiom_base.specs.Rewrites.{Rewrite, IsRule, IsUsable}
use Rattle.axiom_base.specs.Equations.{equations}
use Rattle.axiom_base.specs.Conditions.{IsCalc}
use Rattle.axiom_base.specs.Computed.{calc_rewrite, calc_right, no_constants, fold_rewrite}
use Rattle.word_terms.specs.OperatorsIn.{operators_in}
use Rattle.axiom_base.specs.Schemes.{Scheme, plain, computed, folding, IsOf, itself, calculated, folded, AddedRules, IsRuleOf, schemes, calc_kinds, weight}

pub rule_usable : (r : Rewrite) → IsRule r → IsUsable r
rule_usable r is = record {
  sort = is.sides.0;
  left = is.sides.1;
  right = is.sides.2;
  all = is.all;
  constants = λ n c h. let k = subst (λ xs. Contains xs (n, c)) is.free h in absurd (omega (arith, k.1));
  grounded = inl is.application;
}

-- ---- which schemes there are

from_map : {X Y : Type 0} (f : X → Y) (xs : List X) (y : Y) → Contains (map f xs) y → (x : X) × Contains xs x × (f x ≡ y)
from_map f [] y h = absurd (omega (arith, h.1))
from_map f (x ∷ xs) y (zero, l, e) = (x, (0, omega arith, refl), e)
from_map f (x ∷ xs) y (suc k, l, e) = let r = from_map f xs y (k, omega (arith, l), e) in (r.0, (suc r.1.0, omega (arith, r.1.1), r.1.2), r.2)

abbrev rewrite_in : Rewrite → Scheme → Rewrite
rewrite_in d (plain r) = r
rewrite_in d (computed kind) = d
rewrite_in d (folding op) = d

abbrev is_plain : Scheme → ℕ
is_plain (plain r) = 1
is_plain (computed kind) = 0
is_plain (folding op) = 0

plain_in : (rs : List Rewrite) (r : Rewrite) → Contains (map plain rs) (plain r) → Contains rs r
plain_in rs r h =
    let k = from_map plain rs (plain r) h in
    let e : k.0 ≡ r = ap (rewrite_in r) k.2 in
    subst (Contains rs) e k.1

not_plain : {X : Type 0} (f : X → Scheme) (xs : List X) (r : Rewrite) → ((x : X) → is_plain (f x) ≡ 0) → Contains (map f xs) (plain r) → ⊥
not_plain f xs r zero_at h =
    let k = from_map f xs (plain r) h in
    let e : is_plain (f k.0) ≡ 1 = ap is_plain k.2 in
    let z = zero_at k.0 in
    absurd (omega (arith, e, z))

-- a rule by itself is an equation or an axiom
plain_cases : (added : AddedRules) (r : Rewrite) → Contains (schemes added) (plain r) → Contains equations r ⊎ Contains added.axioms r
plain_cases added r h =
    let axioms = added.axioms in
    let kinds = calc_kinds ++ added.kinds in
    elim (Contains-append_cases (map plain equations ++ map plain axioms ++ map computed kinds) (map folding operators) (plain r) h) [
      | inr d ↦ absurd (not_plain folding operators r (λ x. refl) d)
      | inl a ↦ elim (Contains-append_cases (map plain equations ++ map plain axioms) (map computed kinds) (plain r) a) [
        | inr d ↦ absurd (not_plain computed kinds r (λ x. refl) d)
        | inl b ↦ elim (Contains-append_cases (map plain equations) (map plain axioms) (plain r) b) [ inl c ↦ inl (plain_in equations r c) | inr c ↦ inr (plain_in axioms r c) ]
      ]
    ]

-- ---- what is true of the equations and the axioms, of the computed rules and of folds is true of all

module _
    (P : Rewrite → Type 0)
    (equations_are : All P equations)
    (calculated_are : (kind : Calc) (cs : List ℕ) (given : Given) → IsCalc kind cs given → P (calc_rewrite kind cs given))
    (folded_are : (op : WordOp) (cs : List ℕ) → All IsWord cs → length cs ≡ arity_of op → P (fold_rewrite op cs))
    (added : AddedRules)
    (axioms_are : All P added.axioms)
  where
    of_scheme : (s : Scheme) (r : Rewrite) → Contains (schemes added) s → IsOf s r → P r
    of_scheme s r h (itself q) = elim (plain_cases added q h) [ inl e ↦ All-contains P equations q equations_are e | inr a ↦ All-contains P added.axioms q axioms_are a ]
    of_scheme s r h (calculated kind cs e is) = calculated_are kind cs e is
    of_scheme s r h (folded op cs words count) = folded_are op cs words count

    pub of_each : (r : Rewrite) → IsRuleOf added r → P r
    of_each r h = of_scheme h.scheme r h.there h.of

-- ---- operators of right sides

calc_weight : (kind : Calc) (given : Given) → operators_in (calc_right kind given) ≡ operators_in (calc_right kind no_constants)
calc_weight C1 given = refl
calc_weight C2 given = refl
calc_weight C3 given = refl
calc_weight C4 given = refl
calc_weight C5 given = refl
calc_weight C6 given = refl
calc_weight C7 given = refl
calc_weight C8 given = refl
calc_weight C9 given = refl
calc_weight C10 given = refl
calc_weight C11 given = refl
calc_weight C12 given = refl
calc_weight C13 given = refl
calc_weight C14 given = refl
calc_weight C15 given = refl
calc_weight C16 given = refl
calc_weight C17 given = refl
calc_weight C18 given = refl
calc_weight C19 given = refl
calc_weight C20 given = refl
calc_weight C21 given = refl
calc_weight C22 given = refl
calc_weight C23 given = refl
calc_weight C24 given = refl
calc_weight C25 given = refl
calc_weight C26 given = refl
calc_weight C27 given = refl
calc_weight C28 given = refl
calc_weight C29 given = refl
calc_weight C30 given = refl
calc_weight C31 given = refl
calc_weight C32 given = refl
calc_weight C33 given = refl
calc_weight C34 given = refl
calc_weight C35 given = refl
calc_weight C36 given = refl
calc_weight C37 given = refl

pub weight_is : (s : Scheme) (r : Rewrite) → IsOf s r → operators_in r.right ≡ weight s
weight_is s r (itself q) = refl
weight_is s r (calculated kind cs e is) = calc_weight kind e
weight_is s r (folded op cs words count) = refl
