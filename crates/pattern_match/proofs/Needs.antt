-- Numbers of operators and of matches, up to a limit.
use Rattle.std.proofs.Common.{◌≡◌, ℕ, zero, suc, ◌+◌, ◌-◌, ◌*◌, ◌^◌, ◌≤◌, min, List, [], ◌∷◌, ◌++◌, map, length, refl, ap, ◌∙◌, arith, ⊎_elim}
use Rattle.std.proofs.lemmas.Bool.{cases_lt}
use Rattle.std.proofs.lemmas.List.{length-map}
use Rattle.word_ops.specs.declared.sorts.Op.{Op}
use Rattle.word_terms.specs.Tree.{Tree, operands_of}
use Rattle.word_terms.specs.OperatorsIn.{operators_in, operators_in_all}
use Rattle.axiom_base.specs.Schemes.{Scheme, weight}
use Rattle.egraph.specs.Graph.{Graph}
use Rattle.pattern_match.specs.Found.{classes_in}
use Rattle.pattern_match.specs.Listing.{Lists}
use Rattle.pattern_match.specs.Matches.{IsUnmetOf, IsNeed}
use Rattle.pattern_match.specs.declared.found.Match.{Match}

pub operators_push : (ts : List (Tree Op)) (p : Tree Op) → operators_in_all (operands_of (ts ++ p ∷ [])) ≡ operators_in_all (operands_of ts) + operators_in p
operators_push [] p = omega arith
operators_push (t ∷ ts) p = let e = operators_push ts p in omega (arith, e)

at_least : (n m : ℕ) → m ≤ suc n * m
at_least zero m = omega arith
at_least (suc n) m = let h = at_least n m in omega (arith, h, next n m)
  where
    next : (n m : ℕ) → suc (suc n) * m ≡ suc n * m + m
    next n m = omega arith

capped_product : (n w most : ℕ) → min (n * min w most) most ≡ min (n * w) most
capped_product zero w most = omega arith
capped_product (suc n) w most =
    ⊎_elim
    (λ l. let e : min w most ≡ w = omega arith in ap (λ x. min (suc n * x) most) e)
    (λ l. let e : min w most ≡ most = omega arith in
    let a = at_least n most in
    let b = at_least n w in
    ap (λ x. min (suc n * x) most) e ∙ omega (arith, a, b, l))
    (cases_lt w most)

-- what is listed is counted
pub needed : (g : Graph Op) (s : Scheme) (found : List Match) (count operators need : ℕ) → Lists (IsUnmetOf g s) (map classes_in found) → count ≡ length found →
    operators ≡ min (weight s) (2 ^ 64 - 1) → need ≡ min (count * operators) (2 ^ 64 - 1) → (n : ℕ) × IsNeed g s n × (need ≡ min n (2 ^ 64 - 1))
needed g s found count operators need lists c o n = (
  length found * weight s,
  record { matches = length found; count = record { list = map classes_in found; lists = lists; length_is = length-map found classes_in }; is = refl },
  n ∙ ap (λ x. min (x * operators) (2 ^ 64 - 1)) c ∙ ap (λ x. min (length found * x) (2 ^ 64 - 1)) o ∙ capped_product (length found) (weight s) (2 ^ 64 - 1),
)
