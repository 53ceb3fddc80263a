-- From one word more to all words.
use Rattle.std.proofs.Common.{◌≡◌, ℕ, zero, suc, ◌+◌, ◌*◌, ◌/◌, ◌<◌, ◌≤◌, List, [], ◌∷◌, length, refl, sym, ◌∙◌, ap, subst, inl, inr, arith, Some, None}
use Rattle.std.specs.Prelude.{IsFalse, slice_get, if◌then◌else◌}
use Rattle.std.specs.Option.{option_and_then, option_map_or}
use Rattle.std.proofs.lemmas.Option.{slice_get_cases, same_Some, none-some}
use Rattle.word_ops.specs.Worlds.{World, IsWorld, Value}
use Rattle.graph_meaning.specs.Graphs.{IsTrueUnder}
use Rattle.alpha_machine.specs.States.{MachineState}
use Rattle.alpha_machine.specs.Steps.{step, traps}
use Rattle.alpha_machine.specs.Runs.{fetched, stepped, stepped_instr, unless_trap, after}
use Rattle.register_assign.specs.Listings.{items_from, items_of, instr_of}
use Rattle.register_assign.specs.Outcomes.{entry_state, instrs_of}
use Rattle.register_assign.proofs.Reached.{HasReached}
use Rattle.alpha_encode.specs.declared.instructions.Instr.{Instr}
use Rattle.graph_meaning.specs.declared.graphs.LaunchGraph.{LaunchGraph}
use Rattle.machine_table.specs.declared.tables.Table.{Table}
use Rattle.schedule_meaning.specs.declared.schedules.Allocation.{Allocation}
use Rattle.schedule_meaning.specs.declared.schedules.Launch.{Launch}

pub after_more : (n : ℕ) (is : List Instr) (s : MachineState) → after (suc n) is s ≡ stepped is (after n is s)
after_more zero is s = refl
after_more (suc n) is s = after_more n is (stepped is s)

-- an instruction that doesn't trap is stepped
pub instr_stepped : (is : List Instr) (s : MachineState) (i : Instr) → fetched is s ≡ Some i → IsFalse (traps i s) → stepped_instr is s ≡ Some i
instr_stepped is s i at quiet = ap (option_and_then (unless_trap s)) at ∙ ap (λ b. if b then None else Some i) quiet

pub stepped_as : (is : List Instr) (s : MachineState) (i : Instr) → fetched is s ≡ Some i → IsFalse (traps i s) → stepped is s ≡ step i s
stepped_as is s i at quiet = ap (λ o. option_map_or (λ j. step j s) o s) (instr_stepped is s i at quiet)

module _ (g : LaunchGraph) (table : Table) (allocation : Allocation) (ordered : List Launch) where
  word_from : (i : ℕ) (ls : List Launch) (n m : ℕ) (l : Launch) → slice_get ls n ≡ Some l → m ≡ i + n → slice_get (instrs_of (items_from g table allocation ordered i ls)) n ≡ Some (instr_of g table allocation ordered m l)
  word_from i [] n m l e k = absurd (none-some l e)
  word_from i (x ∷ ls) zero m l e k = ap (λ y. Some (instr_of g table allocation ordered i y)) (same_Some x l e) ∙ ap (λ j. Some (instr_of g table allocation ordered j l)) (let j : i ≡ m = omega arith in j)
  word_from i (x ∷ ls) (suc n) m l e k = word_from (i + 1) ls n m l e (omega arith)

  -- the word at place n is that of the launch there
  pub word_at_place : (n : ℕ) (l : Launch) → slice_get ordered n ≡ Some l → slice_get (instrs_of (items_of g table allocation ordered)) n ≡ Some (instr_of g table allocation ordered n l)
  word_at_place n l e = word_from 0 ordered n n l e (omega arith)

  -- `each` and `quiet` are asked of the words before a place alone
  module _ (w : World) (value : ℕ → Value) (bound : ℕ)
      (each : (n : ℕ) (l : Launch) (s : MachineState) → n < bound → slice_get ordered n ≡ Some l → HasReached g allocation w value ordered n s → HasReached g allocation w value ordered (n + 1) (step (instr_of g table allocation ordered n l) s))
      (quiet : (n : ℕ) (l : Launch) (s : MachineState) → n < bound → slice_get ordered n ≡ Some l → HasReached g allocation w value ordered n s → IsFalse (traps (instr_of g table allocation ordered n l) s)) where
    abbrev words : List Instr
    words = instrs_of (items_of g table allocation ordered)

    one_step : (n : ℕ) (s : MachineState) → n < bound → n < length ordered → HasReached g allocation w value ordered n s → HasReached g allocation w value ordered (n + 1) (stepped words s)
    one_step n s inside lt h = elim ((slice_get_cases ordered n).1) [
      | inl a ↦ (
          let l = a.0 in
          let pc : s.pc ≡ 4 * n = h.pc in
          let at : fetched words s ≡ Some (instr_of g table allocation ordered n l) = ap (slice_get words) (let k : s.pc / 4 ≡ n = omega arith in k) ∙ word_at_place n l a.2 in
          subst (HasReached g allocation w value ordered (n + 1)) (sym (stepped_as words s (instr_of g table allocation ordered n l) at (quiet n l s inside a.2 h))) (each n l s inside a.2 h))
      | inr b ↦ (let le : length ordered ≤ n = b.0 in absurd (omega arith))
    ]

    pub reached_after : (n : ℕ) → n ≤ bound → n ≤ length ordered → HasReached g allocation w value ordered 0 (entry_state w) → HasReached g allocation w value ordered n (after n words (entry_state w))
    reached_after zero inside le h = h
    reached_after (suc n) inside le h =
        let more : HasReached g allocation w value ordered (n + 1) (stepped words (after n words (entry_state w))) = one_step n (after n words (entry_state w)) (omega arith) (omega arith) (reached_after n (omega arith) (omega arith) h) in
        subst (λ s. HasReached g allocation w value ordered (suc n) s) (sym (after_more n words (entry_state w)))
        (subst (λ k. HasReached g allocation w value ordered k (stepped words (after n words (entry_state w)))) (let k : n + 1 ≡ suc n = omega arith in k) more)

-- before the first word
pub reached_first : (g : LaunchGraph) (allocation : Allocation) (w : World) (value : ℕ → Value) (ordered : List Launch)
    → IsWorld w → IsTrueUnder g w value → HasReached g allocation w value ordered 0 (entry_state w)
reached_first g allocation w value ordered world t = record {
  pc = omega arith;
  count = world.registers;
  memory_is = sym t.entry;
  kept = λ r out clear. refl;
  given = λ j l lt e gives lasts. absurd (omega arith);
}
