-- A term over the variables has one value in the block machine and in the machine that shows it.
use Rattle.std.proofs.Common.{◌≡◌, ℕ, ◌+◌, ◌<◌, ◌==◌, List, [], get_or, length, refl, sym, ◌∙◌, ap, arith, Option, Some, None}
use Rattle.std.specs.Prelude.{All, Contains, Bool, find, map, slice_index, slice_index_or}
use Rattle.std.specs.List.{range_with_len}
use Rattle.std.specs.Option.{option_map_or}
use Rattle.std.proofs.lemmas.Bool.{false≢true}
use Rattle.std.proofs.lemmas.Bool.Decides.{Decides-eqb}
use Rattle.std.proofs.lemmas.List.{get_or-map, length-map}
use Rattle.std.proofs.lemmas.List.Elements.{All-contains, Contains-get_or}
use Rattle.std.proofs.lemmas.List.FromFn.{get_or-range_with_len, length-range_with_len}
use Rattle.word_ops.specs.Meanings.{meaning}
use Rattle.word_ops.specs.Worlds.{Value, World, word, memory}
use Rattle.word_ops.specs.declared.sorts.Op.{Op}
use Rattle.word_ops.specs.declared.sorts.Op.TheVariants.{Entry, Input, Constant, Word, Select, Store, Load, Put, Declared}
use Rattle.word_terms.specs.OperatorsIn.{EachOperator, EachOperatorOfAll}
use Rattle.word_terms.specs.Tree.{Tree, Trees, variable, application, none, more, value, each_value}
use Rattle.goal_meaning.specs.Holds.{goal_value}
use Rattle.goal_meaning.specs.Names.{declared_name}
use Rattle.goal_meaning.specs.WellFormed.{IsOfGoal, input_registers}
use Rattle.goal_meaning.specs.declared.goals.InputReg.{InputReg}
use Rattle.proc_link.specs.Blocks.{BlockState, value_now, word_in, world_of}
use Rattle.proc_link.proofs.Finding.{find_some, find_none}

variable_of : (vars : List InputReg) (r : ℕ) → Contains (input_registers vars) r → (v : InputReg) × Contains vars v × (v.reg ≡ r)
variable_of vars r (k, lt, e) =
    let d : InputReg = record { name = []; reg = r } in
    let l : k < length vars = omega (arith, lt, length-map vars (λ (v : InputReg). v.reg)) in
    (get_or vars k d, Contains-get_or vars k d l, sym (get_or-map (λ (v : InputReg). v.reg) vars k d r l) ∙ e)

module _ (vars : List InputReg) (low : All (λ (v : InputReg). v.reg < 31) vars) (s : BlockState) (w : World)
    (same_words : (v : InputReg) → Contains vars v → slice_index w.registers v.reg ≡ s.words v.name)
    (same_memory : w.memory_at_entry ≡ s.memory) where
  abbrev has_register : ℕ → InputReg → Bool
  has_register r v = v.reg == r

  read_world : (r : ℕ) → r < 32 → slice_index (world_of vars s).registers r ≡ word_in vars s r
  read_world r below =
      let long = length-range_with_len 0 32 in
      let at : get_or (range_with_len 0 32) r 0 ≡ 0 + r = get_or-range_with_len 0 32 r 0 below in
      let e : 0 + r ≡ r = omega arith in
      get_or-map (word_in vars s) (range_with_len 0 32) r 0 0 (omega (arith, long, below)) ∙ ap (word_in vars s) (at ∙ e)

  found_word : (r : ℕ) → (v : InputReg) × Contains vars v × (v.reg ≡ r) → word_in vars s r ≡ slice_index w.registers r
  found_word r known = by (find (has_register r) vars) refl
    where
      by : (o : Option InputReg) → find (has_register r) vars ≡ o → option_map_or (λ (v : InputReg). s.words v.name) o 0 ≡ slice_index w.registers r
      by None e = absurd (false≢true (sym (find_none (has_register r) vars known.0 e known.1) ∙ (Decides-eqb known.0.reg r).1 known.2))
      by (Some v) e =
          let found = find_some (has_register r) vars v e in
          sym (same_words v found.1) ∙ ap (slice_index w.registers) ((Decides-eqb v.reg r).0 found.0)

  op_same : (names : ℕ → List ℕ) (op : Op) → IsOfGoal [] vars op → (vs : List Value) → meaning (world_of vars s) names op vs ≡ meaning w names op vs
  op_same names Entry h vs = ap memory (sym same_memory)
  op_same names (Input r) h vs =
      let v = variable_of vars r h in
      let below = All-contains (λ (v : InputReg). v.reg < 31) vars v.0 low v.1 in
      let e = v.2 in
      ap word (read_world r (omega (arith, below, e)) ∙ found_word r v)
  op_same names (Constant c) h vs = refl
  op_same names (Word op) h vs = refl
  op_same names (Select access) h vs = refl
  op_same names (Store access) h vs = refl
  op_same names (Load access) h vs = refl
  op_same names (Put access) h vs = refl
  op_same names (Declared index arity) h vs = absurd (let b = h.below in omega (arith, b))

  module _ (names : ℕ → List ℕ) (words : ℕ → Value) where
    mutual
      one_same : (t : Tree Op) → EachOperator (IsOfGoal [] vars) t → value (meaning (world_of vars s) names) words t ≡ value (meaning w names) words t
      one_same (variable n) h = refl
      one_same (application op ts) h = ap (meaning (world_of vars s) names op) (each_same ts h.1) ∙ op_same names op h.0 (each_value (meaning w names) words ts)

      each_same : (ts : Trees Op) → EachOperatorOfAll (IsOfGoal [] vars) ts → each_value (meaning (world_of vars s) names) words ts ≡ each_value (meaning w names) words ts
      each_same none h = refl
      each_same (more t ts) h = let e = one_same t h.0 in let f = each_same ts h.1 in cc

  pub value_same : (t : Tree Op) → EachOperator (IsOfGoal [] vars) t → value_now vars s t ≡ goal_value [] w t
  value_same t h = one_same (declared_name []) (λ n. slice_index_or (map word []) n (word 0)) t h
