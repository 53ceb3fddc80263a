-- The rows behind the first words, one word more at a time, and what is known of them.
use Rattle.std.proofs.Common.{◌≡◌, ℕ, suc, ◌+◌, ◌*◌, ◌^◌, ◌<◌, ◌≤◌, Bool, true, false, List, [], ◌∷◌, ◌++◌, length, take, Option, Some, None, refl, ap, ◌∙◌, arith, if◌then◌else◌, slice_index, All, IfSome, filter_map}
use Rattle.std.specs.List.{cons_option}
use Rattle.std.proofs.lemmas.List.{length-take-le, take_more}
use Rattle.std.proofs.lemmas.List.Elements.{All-head, All-tail, All-take, All-weaker, filter_map-append}
use Rattle.alpha_encode.specs.Decoded.{decoded}
use Rattle.alpha_encode.specs.declared.instructions.Instr.{Instr}
use Rattle.graph_meaning.specs.declared.graphs.LaunchRow.{LaunchRow}
use Rattle.code_lift.specs.Lifted.{Lifting, at_start, counts, lift_step, lifted, lifted_from}
use Rattle.code_lift.specs.WellFormed.{IsPlainWord}
use Rattle.code_lift.specs.declared.lifting.Value.{Value}
use Rattle.code_lift.specs.declared.lifting.Value.TheVariants.{Entry, Let, Zero}
use Rattle.own_graph.specs.Own.{Own, operand_parts, own_by, own_from, own_op, own_start, own_step}
use Rattle.own_graph.specs.OwnView.{AreGiven, IsGiven}
use Rattle.own_graph.specs.Rows.{HasRoom}
use Rattle.own_graph.proofs.OwnAddresses.{IsKnownValue}
use Rattle.own_graph.proofs.OwnSteps.{IsKnown, IsKnownMemory, few_operands}
use Rattle.own_graph.proofs.Rooms.{applied_room, entry_room, inputs_room, less_room}

-- ---- one instruction more

lifted_then : (at : ℕ) (is : List Instr) (i : Instr) (s : Lifting) → lifted_from at (is ++ i ∷ []) s ≡ lift_step (at + length is) i (lifted_from at is s)
lifted_then at [] i s = (let same : at ≡ at + 0 = omega arith in ap (λ n. lift_step n i s) same)
lifted_then at (j ∷ is) i s =
    let same : at + 1 + length is ≡ at + suc (length is) = omega arith in
    lifted_then (at + 1) is i (lift_step at j s) ∙ ap (λ n. lift_step n i (lifted_from (at + 1) is (lift_step at j s))) same

own_then : (at : ℕ) (is : List Instr) (i : Instr) (s : Lifting) (o : Own) → own_from at (is ++ i ∷ []) s o ≡ own_step (lifted_from at is s) i (own_from at is s o)
own_then at [] i s o = refl
own_then at (j ∷ is) i s o = own_then (at + 1) is i (lift_step at j s) (own_step s j o)

-- each word is an instruction
pub as_many : (words : List ℕ) → All IsPlainWord words → length (filter_map decoded words) ≡ length words
as_many [] plain = refl
as_many (w ∷ words) plain =
    ap (λ o. length (cons_option o (filter_map decoded words))) (All-head IsPlainWord w words plain).is
    ∙ ap suc (as_many words (All-tail IsPlainWord w words plain))

module _ (words : List ℕ) (k : ℕ) (i : Instr) (lt : k < length words) (plain : All IsPlainWord words) (is : decoded (slice_index words k) ≡ Some i) where
  abbrev first : List Instr
  first = filter_map decoded (take k words)

  instructions : filter_map decoded (take (k + 1) words) ≡ first ++ i ∷ []
  instructions =
      ap (filter_map decoded) (take_more words k 0 lt) ∙ filter_map-append decoded (take k words) (slice_index words k ∷ [])
      ∙ ap (λ o. first ++ cons_option o []) is

  pub lifted_next : lifted (take (k + 1) words) ≡ lift_step k i (lifted (take k words))
  lifted_next =
      let count : length first ≡ k = as_many (take k words) (All-take IsPlainWord k words plain) ∙ length-take-le k words (omega (arith, lt)) in
      let at : 0 + length first ≡ k = omega (arith, count) in
      ap (λ js. lifted_from 0 js at_start) instructions ∙ lifted_then 0 first i at_start ∙ ap (λ n. lift_step n i (lifted (take k words))) at

  pub own_next : (o : Own) → own_from 0 (filter_map decoded (take (k + 1) words)) at_start o ≡ own_step (lifted (take k words)) i (own_from 0 first at_start o)
  own_next o = ap (λ js. own_from 0 js at_start o) instructions ∙ own_then 0 first i at_start o

-- ---- room

step_room : (n : ℕ) (s : Lifting) (i : Instr) (o : Own) → HasRoom (n + 5) o.rows → HasRoom n (own_step s i o).rows
step_room n s i o h = by (counts i)
  where
    few : length (operand_parts s o.values i) ≤ 4
    few = few_operands s o.values i

    by : (b : Bool) → HasRoom n (if b then own_by s i o else o).rows
    by true = applied_room n o.rows (own_op i) (operand_parts s o.values i) (less_room (n + 1 + length (operand_parts s o.values i)) (n + 5) o.rows (let l = few_operands s o.values i in omega (arith, l)) h)
    by false = less_room n (n + 5) o.rows (omega arith) h

from_room : (n at : ℕ) (is : List Instr) (s : Lifting) (o : Own) → HasRoom (n + 5 * length is) o.rows → HasRoom n (own_from at is s o).rows
from_room n at [] s o h = less_room n (n + 5 * 0) o.rows (omega arith) h
from_room n at (i ∷ is) s o h =
    from_room n (at + 1) is (lift_step at i s) (own_step s i o)
    (step_room (n + 5 * length is) s i o (less_room (n + 5 * length is + 5) (n + 5 * suc (length is)) o.rows (omega arith) h))

pub words_room : (n : ℕ) (inputs words : List ℕ) → All IsPlainWord words → n + 5 * length words + length inputs < 2 ^ 32 → HasRoom n (own_from 0 (filter_map decoded words) at_start (own_start inputs)).rows
words_room n inputs words plain few =
    let many = as_many words plain in
    let instrs = filter_map decoded words in
    from_room n 0 instrs at_start (own_start inputs)
    (inputs_room (n + 5 * length instrs) _ inputs (entry_room (n + 5 * length instrs + length inputs) (omega (arith, few, many))))

-- ---- what is given

pub given_value : (rows : List LaunchRow) (values : List ℕ) (v : Value) → IsKnownValue rows values v → IsGiven (length values) v
given_value rows values (Entry r) h = tt
given_value rows values Zero h = tt
given_value rows values (Let n) h = h.0

given_memory : (rows : List LaunchRow) (values : List ℕ) (m : Option ℕ) → IsKnownMemory rows values m → IfSome m (λ n. n < length values)
given_memory rows values None h = tt
given_memory rows values (Some n) h = h.0

pub are_given : (inputs : List ℕ) (s : Lifting) (o : Own) → IsKnown inputs s o → AreGiven (length o.values) s
are_given inputs s o known = record {
  registers = All-weaker (IsKnownValue o.rows o.values) (IsGiven (length o.values)) (given_value o.rows o.values) s.latest known.registers;
  memory = given_memory o.rows o.values s.memory known.memory_is;
}
