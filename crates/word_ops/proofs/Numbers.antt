-- Each operator stands at its number in the list of all of them, and nowhere else.
use Rattle.std.proofs.Common.{◌≡◌, ℕ, zero, suc, ◌+◌, ◌↔◌, List, [], ◌∷◌, Bool, true, false, ◌==◌, ◌&&◌, Some, None, slice_get, Contains, refl, ap, ◌∙◌, arith}
use Rattle.std.proofs.lemmas.Bool.Decides.{nat_tests}
use Rattle.std.proofs.lemmas.Option.{slice_get_within, get_or_from_slice_get}
use Rattle.word_ops.specs.declared.operators.WordOp.{WordOp}
use Rattle.word_ops.specs.Operators.{operators, number_of, at_its_number}

-- whether the operators have the numbers from `first` on
are_numbered : ℕ → List WordOp → Bool
are_numbered first [] = true
are_numbered first (op ∷ ops) = (number_of op == first) && are_numbered (first + 1) ops

all_are_numbered : are_numbered 0 operators ≡ true
unfolding are_numbered
all_are_numbered = refl

of_both : (a b : Bool) → a && b ≡ true → (a ≡ true) × (b ≡ true)
of_both true b h = (refl, h)
of_both false b h = absurd (let f : false ≡ true = h in cc)

number_at : (first : ℕ) (ops : List WordOp) (at : ℕ) (op : WordOp) → are_numbered first ops ≡ true → slice_get ops at ≡ Some op → first + at ≡ number_of op
unfolding are_numbered
number_at first [] at op h e = absurd (let f : None ≡ Some op = e in cc)
number_at first (o ∷ ops) zero op h e =
    let same : o ≡ op = (let f : Some o ≡ Some op = e in cc) in
    let is = (of_both (number_of o == first) (are_numbered (first + 1) ops) h).0 in
    let at_first : number_of o ≡ first = grind (arith, nat_tests, is) in
    let to : number_of o ≡ number_of op = ap number_of same in
    omega (arith, at_first, to)
number_at first (o ∷ ops) (suc at) op h e =
    let later = number_at (first + 1) ops at op (of_both (number_of o == first) (are_numbered (first + 1) ops) h).1 e in
    omega (arith, later)

pub numbers_are_places : (op : WordOp) (n : ℕ) → (slice_get operators n ≡ Some op) ↔ (n ≡ number_of op)
numbers_are_places op n = (λ e. let at = number_at 0 operators n op all_are_numbered e in omega (arith, at), λ e. ap (slice_get operators) e ∙ at_its_number op)

pub each_is_listed : (op : WordOp) → Contains operators op
each_is_listed op = (number_of op, slice_get_within operators (number_of op) op (at_its_number op), get_or_from_slice_get operators (number_of op) op op (at_its_number op))
