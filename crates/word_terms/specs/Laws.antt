-- The proofs of the laws of both operator types, and no definition. Each `impl` cites them, so they stand here.
use Rattle.std.proofs.Common.{◌≡◌, ℕ, ◌-◌, ◌≤◌, ◌==◌, if◌then◌else◌, List, [], slice_get, Some, refl, sym, ap, ◌∙◌, arith}
use Rattle.std.specs.Option.{unwrap_or}
use Rattle.word_ops.specs.Operators.{operators, at_its_number, arity_of}
use Rattle.word_ops.specs.Meanings.{count_of, arity_of_op, sort_of, constant_in, meaning}
use Rattle.word_ops.specs.Worlds.{World, word}
use Rattle.word_ops.specs.declared.operators.WordOp.{WordOp}
use Rattle.word_ops.specs.declared.operators.WordOp.TheVariants.{Operate, Neg}
use Rattle.word_ops.specs.declared.operates.Operate.TheVariants.{Addl}
use Rattle.word_ops.specs.declared.sorts.Access.{Access}
use Rattle.word_ops.specs.declared.sorts.Access.TheVariants as accesses
use Rattle.word_ops.specs.declared.sorts.Sort.TheVariants as sorts
use Rattle.word_ops.specs.declared.sorts.Arity.{Arity}
use Rattle.word_ops.specs.declared.sorts.Arity.TheVariants.{One, Two, Three, Four}
use Rattle.word_ops.specs.declared.sorts.Op.{Op}
use Rattle.word_ops.specs.declared.sorts.Op.TheVariants.{Entry, Input, Constant, Word, Select, Store, Load, Put, Declared}
use Rattle.word_terms.specs.Keys.{access_number, key_of}
use Rattle.word_terms.specs.Small.{as_op, small_key}
use Rattle.word_terms.specs.declared.small.SmallOp.{SmallOp}
use Rattle.word_terms.specs.declared.small.SmallOp.TheVariants as small

word_takes_at_most_four : (op : WordOp) → arity_of op ≤ 4
word_takes_at_most_four (Operate Addl) = omega arith
word_takes_at_most_four (Operate _) = omega arith
word_takes_at_most_four _ = omega arith

count-le : (arity : Arity) → count_of arity ≤ 4
count-le One = omega arith
count-le Two = omega arith
count-le Three = omega arith
count-le Four = omega arith

pub op_takes_at_most_four : (op : Op) → arity_of_op op ≤ 4
op_takes_at_most_four (Word op) = word_takes_at_most_four op
op_takes_at_most_four (Declared index arity) = count-le arity
op_takes_at_most_four _ = omega arith

arity_of_count : ℕ → Arity
arity_of_count n = if n == 1 then One else if n == 2 then Two else if n == 3 then Three else Four

access_of_number : ℕ → Access
access_of_number n =
    if n == 0 then accesses.Quad
    else if n == 1 then accesses.Byte
    else if n == 2 then accesses.Word
    else accesses.Long

access_of_its_number : (access : Access) → access_of_number (access_number access) ≡ access
unfolding access_of_number
access_of_its_number accesses.Quad = refl
access_of_its_number accesses.Byte = refl
access_of_its_number accesses.Word = refl
access_of_its_number accesses.Long = refl

-- the operator of a key
op_of_key : ℕ × ℕ → Op
op_of_key key =
    if key.0 == 0 then Entry
    else if key.0 == 1 then Input key.1
    else if key.0 == 2 then Constant key.1
    else if key.0 == 3 then Word (unwrap_or (slice_get operators key.1) Neg)
    else if key.0 == 4 then Select (access_of_number key.1)
    else if key.0 == 5 then Store (access_of_number key.1)
    else if key.0 == 6 then Load (access_of_number key.1)
    else if key.0 == 7 then Put (access_of_number key.1)
    else Declared key.1 (arity_of_count (key.0 - 7))

of_its_key : (op : Op) → op_of_key (key_of op) ≡ op
unfolding op_of_key arity_of_count
of_its_key (Word op) = ap (λ o. Word (unwrap_or o Neg)) (at_its_number op)
of_its_key (Select access) = ap Select (access_of_its_number access)
of_its_key (Store access) = ap Store (access_of_its_number access)
of_its_key (Load access) = ap Load (access_of_its_number access)
of_its_key (Put access) = ap Put (access_of_its_number access)
of_its_key (Declared index One) = refl
of_its_key (Declared index Two) = refl
of_its_key (Declared index Three) = refl
of_its_key (Declared index Four) = refl
of_its_key _ = refl

pub op_key_is_own : (op other : Op) → key_of op ≡ key_of other → op ≡ other
op_key_is_own op other e = sym (of_its_key op) ∙ ap op_of_key e ∙ of_its_key other

is_constant : (op : Op) (n : ℕ) → constant_in op ≡ Some n → op ≡ Constant n
is_constant (Constant c) n h = cc
is_constant _ n h = cc

pub op_constant_takes_none : (op : Op) (n : ℕ) → constant_in op ≡ Some n → arity_of_op op ≡ 0
op_constant_takes_none op n h = ap arity_of_op (is_constant op n h)

pub op_constant_is_word : (op : Op) (n : ℕ) → constant_in op ≡ Some n → sort_of op ≡ sorts.Word
op_constant_is_word op n h = ap sort_of (is_constant op n h)

pub op_constant_means :
    (op : Op) (n : ℕ) →
    constant_in op ≡ Some n →
    (world : World) (names : ℕ → List ℕ) →
    meaning world names op [] ≡ word n
op_constant_means op n h world names = ap (λ o. meaning world names o []) (is_constant op n h)

pub op_constant_is_own : (op other : Op) (n : ℕ) → constant_in op ≡ Some n → constant_in other ≡ Some n → op ≡ other
op_constant_is_own op other n h i = is_constant op n h ∙ sym (is_constant other n i)

pub small_takes_at_most_four : (op : SmallOp) → arity_of_op (as_op op) ≤ 4
small_takes_at_most_four op = op_takes_at_most_four (as_op op)

small_of_key : ℕ × ℕ → SmallOp
small_of_key key =
    if key.0 == 0 then small.Number key.1
    else if key.0 == 1 then small.Leaf key.1
    else if key.0 == 2 then small.Entry
    else if key.0 == 3 then small.Sum
    else small.Look

small_of_its_key : (op : SmallOp) → small_of_key (small_key op) ≡ op
unfolding small_of_key
small_of_its_key (small.Number n) = refl
small_of_its_key _ = refl

pub small_key_is_own : (op other : SmallOp) → small_key op ≡ small_key other → op ≡ other
small_key_is_own op other e = sym (small_of_its_key op) ∙ ap small_of_key e ∙ small_of_its_key other

pub small_constant_takes_none : (op : SmallOp) (n : ℕ) → constant_in (as_op op) ≡ Some n → arity_of_op (as_op op) ≡ 0
small_constant_takes_none op = op_constant_takes_none (as_op op)

pub small_constant_is_word : (op : SmallOp) (n : ℕ) → constant_in (as_op op) ≡ Some n → sort_of (as_op op) ≡ sorts.Word
small_constant_is_word op = op_constant_is_word (as_op op)

pub small_constant_means :
    (op : SmallOp) (n : ℕ) →
    constant_in (as_op op) ≡ Some n →
    (world : World) (names : ℕ → List ℕ) →
    meaning world names (as_op op) [] ≡ word n
small_constant_means op = op_constant_means (as_op op)

is_number : (op : SmallOp) (n : ℕ) → constant_in (as_op op) ≡ Some n → op ≡ small.Number n
is_number (small.Number m) n h = cc
is_number _ n h = cc

pub small_constant_is_own :
    (op other : SmallOp) (n : ℕ) →
    constant_in (as_op op) ≡ Some n →
    constant_in (as_op other) ≡ Some n →
    op ≡ other
small_constant_is_own op other n h i = is_number op n h ∙ sym (is_number other n i)
