-- Generated inputs are well formed.
use Rattle.std.proofs.Common.{◌≡◌, ◌≢◌, ℕ, zero, suc, ◌+◌, ◌*◌, ◌<◌, ◌≤◌, ◌++◌, List, [], ◌∷◌, true, false, None, refl, arith}
use Rattle.std.specs.Prelude.{All, AllPairs, codes, bytes_eq}
use Rattle.std.proofs.lemmas.Slice.Eq.{bytes_eq-Decides}
use Rattle.std.proofs.lemmas.List.Elements.{All-nil, All-cons}
use Rattle.machine_table.proofs.Decide.{dec_by, dec_nat, dec_lt, dec_not, dec_all, dec_pairs, pairs_cons, pairs_nil, sure}
use Rattle.text_core.specs.Names.{IsName}
use Rattle.word_ops.specs.Operators.{arity_of}
use Rattle.word_ops.specs.declared.sorts.Sort.TheVariants as sorts
use Rattle.word_terms.specs.Keys.{op_signature}
use Rattle.word_terms.specs.OperatorsIn.{EachOperator, operators_in}
use Rattle.word_terms.specs.Sorting.{HasSort}
use Rattle.forms.specs.Printing.{Plain, Plains, levels, more, most_levels, plains_from}
use Rattle.machine_table.specs.Tables.{IsTable, ev6, slot_of}
use Rattle.machine_table.specs.declared.tables.Slot.{Slot}
use Rattle.goal_meaning.specs.Rules.{KeepsRules, default_pool, names_of_inputs}
use Rattle.goal_meaning.specs.Names.{IsNamedGoal}
use Rattle.goal_meaning.specs.InputForms.{input_plains, naming, term_plain}
use Rattle.goal_meaning.specs.Names.{is_reserved}
use Rattle.goal_meaning.specs.Names.{is_written, word_named}
use Rattle.goal_meaning.specs.Views.{GoalTree, LetTree, TargetTree}
use Rattle.goal_meaning.specs.WellFormed.{IsAssume, IsAxiom, IsGoal, IsInput, IsOfGoal, IsTarget, operators_of_goal}
use Rattle.goal_meaning.specs.declared.goals.InputReg.{InputReg}
use Rattle.goal_meaning.specs.declared.goals.DeclaredOp.{DeclaredOp}
use Rattle.word_ops.specs.declared.operators.WordOp.TheVariants.{Operate}
use Rattle.generated_goals.specs.Generated.{chain, generated_goal, generated_input, named_input, number_at, picked, registers}
use Rattle.generated_goals.proofs.Plain.{each_picked}

abbrev inputs : List InputReg
inputs = named_input (codes "a") 9 ∷ named_input (codes "b") 10 ∷ []

-- ---- the term

takes_two : (n : ℕ) → 2 ≡ arity_of (Operate (picked n))
takes_two n = each_picked (λ op. 2 ≡ arity_of (Operate op)) refl refl refl refl refl n

written : (n : ℕ) → is_written (Operate (picked n)) ≡ true
written n = each_picked (λ op. is_written (Operate op) ≡ true) refl refl refl refl refl n

sorted : (size n : ℕ) → HasSort op_signature [] sorts.Word (chain size n)
sorted size zero = (refl, tt, refl, tt)
sorted size (suc n) = (refl, tt, takes_two (number_at size (suc n)), (sorted size n, ((refl, tt, refl, tt), tt)))

operators : (size n : ℕ) → EachOperator (IsOfGoal [] inputs) (chain size n)
operators size zero = ((0, omega arith, refl), tt)
operators size (suc n) = (written (number_at size (suc n)), (operators size n, (((1, omega arith, refl), tt), tt)))

counted : (size n : ℕ) → operators_in (chain size n) ≡ 2 * n + 1
counted size zero = refl
counted size (suc n) = let h = counted size n in omega arith

height : (size n : ℕ) → levels (term_plain (naming [] inputs []) (chain size n)) ≡ n
height size zero = refl
height size (suc n) = let h = height size n in omega arith

-- ---- the goal

names_apart : AllPairs (λ (i j : InputReg). i.name ≢ j.name) inputs
names_apart = sure (dec_pairs (λ i j. i.name ≢ j.name) (λ i j. dec_not (dec_by (bytes_eq i.name j.name) (bytes_eq-Decides i.name j.name))) inputs) refl

own_names : All (λ (i : InputReg). is_reserved i.name ≡ false) inputs
unfolding word_named
own_names = All-cons (λ (i : InputReg). is_reserved i.name ≡ false) (named_input (codes "a") 9) (named_input (codes "b") 10 ∷ []) refl
    (All-cons (λ (i : InputReg). is_reserved i.name ≡ false) (named_input (codes "b") 10) [] refl (All-nil (λ (i : InputReg). is_reserved i.name ≡ false)))

abbrev all_registers : List ℕ
all_registers = registers ++ default_pool registers

registers_apart : AllPairs (λ a b. a ≢ b) all_registers
registers_apart = sure (dec_pairs (λ a b. a ≢ b) (λ a b. dec_not (dec_nat a b)) all_registers) refl

registers_low : All (λ r. r < 31) all_registers
registers_low = sure (dec_all (λ r. r < 31) (λ r. dec_lt r 31) all_registers) refl

pool_apart : AllPairs (λ a b. a ≢ b) (default_pool registers ++ [])
pool_apart = sure (dec_pairs (λ a b. a ≢ b) (λ a b. dec_not (dec_nat a b)) (default_pool registers ++ [])) refl

abbrev IsUnpinned : TargetTree → Type 0
IsUnpinned t = bytes_eq t.name (codes "M") ≡ true → t.pin ≡ None

leaves_apart : AllPairs (λ m n. m ≢ n) (names_of_inputs inputs ++ [])
leaves_apart = sure (dec_pairs (λ m n. m ≢ n) (λ m n. dec_not (dec_by (bytes_eq m n) (bytes_eq-Decides m n))) (names_of_inputs inputs ++ [])) refl

rules : (size : ℕ) → KeepsRules [] (generated_goal size)
rules size = record {
  input_names = names_apart;
  own_names = own_names;
  not_declared = λ k d l. refl;
  leaf_names = leaves_apart;
  own_lets = All-nil _;
  registers = registers_apart;
  low = registers_low;
  targets = pairs_cons (λ (s t : TargetTree). s.name ≢ t.name) _ [] (All-nil _) (pairs_nil (λ (s t : TargetTree). s.name ≢ t.name));
  some_target = omega arith;
  pins = pool_apart;
  low_pins = All-nil (λ r. r < 31);
  memory_unpinned = All-cons IsUnpinned _ [] (λ e. refl) (All-nil IsUnpinned);
  few_lets = omega arith;
  few = (omega arith, omega arith, omega arith);
}

named : (size : ℕ) → IsNamedGoal (generated_goal size)
named size = record {
  own = record { begins = refl; each = refl };
  inputs = All-cons (λ (i : InputReg). IsName i.name) (named_input (codes "a") 9) (named_input (codes "b") 10 ∷ []) (record { begins = refl; each = refl })
      (All-cons (λ (i : InputReg). IsName i.name) (named_input (codes "b") 10) [] (record { begins = refl; each = refl }) (All-nil (λ (i : InputReg). IsName i.name)));
  lets = All-nil (λ (l : LetTree). IsName l.name);
  targets = All-cons (λ (t : TargetTree). IsName t.name) _ [] (record { begins = refl; each = refl }) (All-nil (λ (t : TargetTree). IsName t.name));
}

few_in_goal : (size : ℕ) → size ≤ 20 → operators_of_goal (generated_goal size) ≤ 41
few_in_goal size few = let h = counted size size in omega arith

pub goal_kept : (size : ℕ) → size ≤ 20 → IsGoal [] (generated_goal size)
goal_kept size few = record {
  named = named size;
  rules = rules size;
  lets = tt;
  assumes = All-nil (IsAssume [] (generated_goal size));
  guard = tt;
  sets = All-cons (IsTarget [] (generated_goal size)) _ [] (record { sorted = sorted size size; operators = operators size size }) (All-nil (IsTarget [] (generated_goal size)));
  few = (let h = few_in_goal size few in omega arith);
}

-- ---- the input

abbrev IsNamed : Slot → Type 0
IsNamed s = IsName s.name

slots_named : All IsNamed ev6.slots
unfolding ev6
slots_named =
    All-cons IsNamed (slot_of (codes "U0") 0) (slot_of (codes "U1") 1 ∷ slot_of (codes "L0") 0 ∷ slot_of (codes "L1") 1 ∷ []) (record { begins = refl; each = refl })
    (All-cons IsNamed (slot_of (codes "U1") 1) (slot_of (codes "L0") 0 ∷ slot_of (codes "L1") 1 ∷ []) (record { begins = refl; each = refl })
    (All-cons IsNamed (slot_of (codes "L0") 0) (slot_of (codes "L1") 1 ∷ []) (record { begins = refl; each = refl })
    (All-cons IsNamed (slot_of (codes "L1") 1) [] (record { begins = refl; each = refl }) (All-nil IsNamed))))

most : (k : ℕ) (one : Plain) (others : Plains) → levels one ≤ k → most_levels others ≤ k → most_levels (more one others) ≤ k
most k one others h t = omega arith

nested : (size : ℕ) → size ≤ 20 → most_levels (plains_from (input_plains (generated_input size))) ≤ 64
nested size few = let h = height size size in omega arith

pub well_formed : IsTable ev6 → (size : ℕ) → size ≤ 20 → IsInput (generated_input size)
well_formed table size few = record {
  table = table;
  slots = slots_named;
  builtin = λ e. refl;
  operators = All-nil (λ (d : DeclaredOp). IsName d.name);
  operators_differ = pairs_nil (λ (d e : DeclaredOp). d.name ≢ e.name);
  own_names = All-nil (λ (d : DeclaredOp). is_reserved d.name ≡ false);
  axioms = All-nil (IsAxiom []);
  goals = All-cons (IsGoal []) (generated_goal size) [] (goal_kept size few) (All-nil (IsGoal []));
  goals_differ = pairs_cons (λ (g h : GoalTree). g.name ≢ h.name) (generated_goal size) [] (All-nil _) (pairs_nil (λ (g h : GoalTree). g.name ≢ h.name));
  some_goal = omega arith;
  few = (omega arith, omega arith, omega arith);
  few_operators = (let h = few_in_goal size few in omega arith);
  nested = nested size few;
}
