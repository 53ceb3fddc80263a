-- The terms of a lift's goal have few operators, and few lists stand inside one another where they are written.
use Rattle.std.proofs.Common.{◌≡◌, ℕ, ◌+◌, ◌*◌, ◌≤◌, ◌==◌, ◌++◌, if◌then◌else◌, Bool, true, false, Option, None, Some, List, [], ◌∷◌, length, map, sym, subst, arith}
use Rattle.std.specs.Prelude.{All}
use Rattle.std.proofs.lemmas.List.{length-append}
use Rattle.std.proofs.lemmas.List.Elements.{All-append, All-cons, All-head, All-nil, All-tail}
use Rattle.forms.specs.Printing.{Plain, levels, most_levels, plains_from}
use Rattle.word_ops.specs.declared.operates.Operate.{Operate as OperateOf}
use Rattle.word_ops.specs.declared.operates.Operate.TheVariants.{Addq}
use Rattle.word_ops.specs.declared.sorts.Access.{Access}
use Rattle.word_ops.specs.declared.sorts.Access.TheVariants.{Quad}
use Rattle.word_ops.specs.declared.sorts.Op.{Op}
use Rattle.word_terms.specs.Building.{constant, o1, o2, read_of, written_of}
use Rattle.word_terms.specs.OperatorsIn.{operators_in}
use Rattle.word_terms.specs.Tree.{Tree}
use Rattle.alpha_encode.specs.Codes.{is_unary}
use Rattle.alpha_encode.specs.declared.instructions.Second.{Second}
use Rattle.alpha_encode.specs.declared.instructions.Second.TheVariants.{Literal, Reg}
use Rattle.alpha_encode.specs.declared.instructions.Instr.{Instr}
use Rattle.alpha_encode.specs.declared.instructions.Instr.TheVariants.{Operate, Lda, Ldah, Load, Store, Ldq, Stq, Beq}
use Rattle.goal_meaning.specs.Expanded.{let_values}
use Rattle.goal_meaning.specs.InputForms.{Naming, assume_plain, let_plain, term_plain}
use Rattle.goal_meaning.specs.Views.{LetTree}
use Rattle.goal_meaning.specs.WellFormed.{operators_of_sides, operators_of_target, sum_over}
use Rattle.proc_goal.specs.Goals.{sets_or_memory}
use Rattle.code_check.specs.Terms.{operate_term, second_term, sign_extended}
use Rattle.code_lift.specs.Lifted.{Lifting, assume_of, counts, high_word, latest_of, let_of, lift_step, lifted_by, lifted_from, lifted_term, memory_sets, memory_value, register_set, register_term, sum_term, value_term}
use Rattle.code_lift.specs.declared.lifting.Address.{Address}
use Rattle.code_lift.specs.declared.lifting.Value.{Value}
use Rattle.code_lift.specs.declared.lifting.Value.TheVariants.{Entry, Let, Zero}

-- so many operators, and lists inside one another, however the names are written
record Is (operators deep : ℕ) (t : Tree Op) : Type 0 where
  pub few : operators_in t ≤ operators
  pub low : (names : Naming) → levels (term_plain names t) ≤ deep

value_is : (v : Value) → Is 1 0 (value_term v)
value_is (Entry r) = record { few = omega arith; low = λ names. omega arith }
value_is Zero = record { few = omega arith; low = λ names. omega arith }
value_is (Let n) = record { few = omega arith; low = λ names. omega arith }

memory_is : (o : Option ℕ) → Is 1 0 (memory_value o)
memory_is None = record { few = omega arith; low = λ names. omega arith }
memory_is (Some n) = record { few = omega arith; low = λ names. omega arith }

constant_is : (n : ℕ) → Is 1 0 (constant n)
constant_is n = record { few = omega arith; low = λ names. omega arith }

one_is : (op : OperateOf) (t : Tree Op) (m n : ℕ) → Is m n t → Is (1 + m) (1 + n) (o1 op t)
one_is op t m n a = record {
  few = (let x = a.few in omega (arith, x));
  low = λ names. (let x = a.low names in omega (arith, x));
}

two_is : (op : OperateOf) (t u : Tree Op) (m n : ℕ) → Is m n t → Is 1 0 u → Is (2 + m) (1 + n) (o2 op t u)
two_is op t u m n a b = record {
  few = (let x = a.few in let y = b.few in omega (arith, x, y));
  low = λ names. (let x = a.low names in let y = b.low names in omega (arith, x, y));
}

sum_is : (v : Value) (n : ℕ) → Is 3 1 (sum_term (value_term v) n)
sum_is v n = by (n == 0)
  where
    by : (b : Bool) → Is 3 1 (if b then value_term v else o2 Addq (value_term v) (constant n))
    by true = (let a = value_is v in record { few = (let x = a.few in omega (arith, x)); low = λ names. (let x = a.low names in omega (arith, x)) })
    by false = two_is Addq (value_term v) (constant n) 1 0 (value_is v) (constant_is n)

second_is : (second : Second) (s : Lifting) → Is 1 0 (second_term second (register_term s))
second_is (Reg r) s = value_is (latest_of s r)
second_is (Literal n) s = constant_is n

operate_is : (op : OperateOf) (v : Value) (u : Tree Op) → Is 1 0 u → Is 6 2 (operate_term op (value_term v) u)
operate_is op v u b = by (is_unary op)
  where
    more : (t : Tree Op) → Is 3 1 t → Is 6 2 t
    more t a = record { few = (let x = a.few in omega (arith, x)); low = λ names. (let x = a.low names in omega (arith, x)) }

    by : (unary : Bool) → Is 6 2 (if unary then o1 op u else o2 op (value_term v) u)
    by true = (let a = one_is op u 1 0 b in more (o1 op u) (record { few = (let x = a.few in omega (arith, x)); low = a.low }))
    by false = more (o2 op (value_term v) u) (two_is op (value_term v) u 1 0 (value_is v) b)

wider_sum : (v : Value) (n : ℕ) → Is 6 2 (sum_term (value_term v) n)
wider_sum v n = (let a = sum_is v n in record { few = (let x = a.few in omega (arith, x)); low = λ names. (let x = a.low names in omega (arith, x)) })

read_is : (access : Access) (o : Option ℕ) (v : Value) (n : ℕ) → Is 6 2 (read_of access (memory_value o) (sum_term (value_term v) n))
read_is access o v n =
    let m = memory_is o in
    let a = sum_is v n in
    record {
      few = (let x = m.few in let y = a.few in omega (arith, x, y));
      low = λ names. (let x = m.low names in let y = a.low names in omega (arith, x, y));
    }

written_is : (access : Access) (o : Option ℕ) (v w : Value) (n : ℕ) → Is 6 2 (written_of access (memory_value o) (sum_term (value_term v) n) (value_term w))
written_is access o v w n =
    let m = memory_is o in
    let a = sum_is v n in
    let b = value_is w in
    record {
      few = (let x = m.few in let y = a.few in let z = b.few in omega (arith, x, y, z));
      low = λ names. (let x = m.low names in let y = a.low names in let z = b.low names in omega (arith, x, y, z));
    }

lifted_is : (i : Instr) (s : Lifting) → Is 6 2 (lifted_term i s)
lifted_is (Operate op ra second rc) s = operate_is op (latest_of s ra) (second_term second (register_term s)) (second_is second s)
lifted_is (Lda ra rb disp) s = wider_sum (latest_of s rb) (sign_extended disp)
lifted_is (Ldah ra rb disp) s = wider_sum (latest_of s rb) (high_word disp)
lifted_is (Load access ra rb disp) s = read_is access s.memory (latest_of s rb) (sign_extended disp)
lifted_is (Store access ra rb disp) s = written_is access s.memory (latest_of s rb) (latest_of s ra) (sign_extended disp)
lifted_is (Ldq ra rb disp) s = read_is Quad s.memory (latest_of s rb) (sign_extended disp)
lifted_is (Stq ra rb disp) s = written_is Quad s.memory (latest_of s rb) (latest_of s ra) (sign_extended disp)
lifted_is (Beq ra disp) s = (let a = constant_is 0 in record { few = (let x = a.few in omega (arith, x)); low = λ names. (let x = a.low names in omega (arith, x)) })

-- ---- lets

abbrev HasSmall : LetTree → Type 0
HasSmall l = Is 6 2 l.value

step_small : (at : ℕ) (i : Instr) (s : Lifting) → All HasSmall s.lets → All HasSmall (lift_step at i s).lets
step_small at i s h = by (counts i)
  where
    by : (b : Bool) → All HasSmall (if b then lifted_by at i s else s).lets
    by true = All-append HasSmall s.lets (let_of at i s ∷ []) h (All-cons HasSmall (let_of at i s) [] (lifted_is i s) (All-nil HasSmall))
    by false = h

from_small : (at : ℕ) (is : List Instr) (s : Lifting) → All HasSmall s.lets → All HasSmall (lifted_from at is s).lets
from_small at [] s h = h
from_small at (i ∷ is) s h = from_small (at + 1) is (lift_step at i s) (step_small at i s h)

step_count : (at : ℕ) (i : Instr) (s : Lifting) → length (lift_step at i s).lets ≤ 1 + length s.lets
step_count at i s = by (counts i)
  where
    by : (b : Bool) → length (if b then lifted_by at i s else s).lets ≤ 1 + length s.lets
    by true = (let l = length-append s.lets (let_of at i s ∷ []) in omega (arith, l))
    by false = omega arith

-- no more lets than words
pub few_from : (at : ℕ) (is : List Instr) (s : Lifting) → length (lifted_from at is s).lets ≤ length is + length s.lets
few_from at [] s = omega arith
few_from at (i ∷ is) s = (let one = step_count at i s in let rest = few_from (at + 1) is (lift_step at i s) in omega (arith, one, rest))

-- ---- operators

sum_most : {X : Type 0} (f : X → ℕ) (most : ℕ) (xs : List X) → All (λ x. f x ≤ most) xs → sum_over f xs ≤ most * length xs
sum_most f most [] h = omega arith
sum_most f most (x ∷ xs) h =
    let one = All-head (λ y. f y ≤ most) x xs h in
    let rest = sum_most f most xs (All-tail (λ y. f y ≤ most) x xs h) in
    grind (arith, one, rest)

few_in_lets : (lets : List LetTree) → All HasSmall lets → sum_over operators_in (let_values lets) ≤ 6 * length lets
few_in_lets [] h = omega arith
few_in_lets (l ∷ lets) h =
    let one = (All-head HasSmall l lets h).few in
    let rest = few_in_lets lets (All-tail HasSmall l lets h) in
    omega (arith, one, rest)

assume_is : (a : Address) → operators_of_sides (assume_of a) ≤ 6
assume_is a = (let x = (sum_is a.value a.displacement).few in omega (arith, x))

pub few_in_assumes : (addresses : List Address) → sum_over operators_of_sides (map assume_of addresses) ≤ 6 * length addresses
few_in_assumes [] = omega arith
few_in_assumes (a ∷ addresses) = (let one = assume_is a in let rest = few_in_assumes addresses in omega (arith, one, rest))

few_in_registers : (s : Lifting) (rs : List ℕ) → sum_over operators_of_target (map (register_set s) rs) ≤ length rs
few_in_registers s [] = omega arith
few_in_registers s (r ∷ rs) = (let one = (value_is (latest_of s r)).few in let rest = few_in_registers s rs in omega (arith, one, rest))

pub few_in_sets : (s : Lifting) (o : Option ℕ) (rs : List ℕ) → sum_over operators_of_target (sets_or_memory (memory_sets o ++ map (register_set s) rs)) ≤ 1 + length rs
few_in_sets s None [] = omega arith
few_in_sets s None (r ∷ rs) = (let all = few_in_registers s (r ∷ rs) in omega (arith, all))
few_in_sets s (Some n) rs = (let all = few_in_registers s rs in omega (arith, all))

pub assumes_deep : (names : Naming) (addresses : List Address) → most_levels (plains_from (map (assume_plain names) (map assume_of addresses))) ≤ 3
assumes_deep names [] = omega arith
assumes_deep names (a ∷ addresses) =
    let one = (sum_is a.value a.displacement).low names in
    let rest = assumes_deep names addresses in
    omega (arith, one, rest)

module _ (at : ℕ) (is : List Instr) (start : Lifting) (none : start.lets ≡ []) where
  abbrev s : Lifting
  s = lifted_from at is start

  small : All HasSmall s.lets
  small = from_small at is start (subst (All HasSmall) (sym none) (All-nil HasSmall))

  pub operators_in_lets : sum_over operators_in (let_values s.lets) ≤ 6 * length s.lets
  operators_in_lets = few_in_lets s.lets small

  -- ---- lists inside one another
  abbrev Deep : List Plain → Type 0
  Deep ps = most_levels (plains_from ps) ≤ 3

  deep_lets : (names : Naming) (lets : List LetTree) → All HasSmall lets → Deep (map (let_plain names) lets)
  deep_lets names [] h = omega arith
  deep_lets names (l ∷ lets) h =
      let one = (All-head HasSmall l lets h).low names in
      let rest = deep_lets names lets (All-tail HasSmall l lets h) in
      omega (arith, one, rest)

  pub lets_deep : (names : Naming) → Deep (map (let_plain names) s.lets)
  lets_deep names = deep_lets names s.lets small
