-- A listing inside a longer list of words, from some place on: its run there is its run alone, with the pc moved.
use Rattle.std.proofs.Common.{◌≡◌, ◌≢◌, ℕ, ℤ, zero, suc, ◌+◌, ◌-◌, ◌*◌, ◌/◌, ◌^◌, ◌<◌, ◌≤◌, List, length, refl, sym, ◌∙◌, ap, inl, inr, ◌⊎◌, arith, Bool, true, false, subst, Option, Some}
use Rattle.std.specs.Prelude.{IsFalse, IsSomeAnd, IsTrue, slice_get, slice_index, if◌then◌else◌}
use Rattle.std.proofs.lemmas.Bool.Decides.{eqb_tells, nat_tests}
use Rattle.std.proofs.lemmas.Int.{ints}
use Rattle.std.proofs.lemmas.Option.{slice_get_cases, slice_get_within}
use Rattle.alpha_encode.specs.declared.instructions.Instr.{Instr}
use Rattle.alpha_encode.specs.declared.instructions.Instr.TheVariants.{Operate, Lda, Ldah, Load, Store, Ldq, Stq, Beq}
use Rattle.alpha_machine.specs.States.{MachineState}
use Rattle.alpha_machine.specs.Steps.{step, next_pc, address, traps}
use Rattle.alpha_machine.specs.Runs.{fetched, stepped, after, IsAllowedAt}
use Rattle.proc_link.specs.Linked.{displacement_between, led}

-- each branch leads to one word behind the last
abbrev pub BranchesLeave : List Instr → Type 0
BranchesLeave is = (at : ℕ) (i : Instr) → slice_get is at ≡ Some i → IsAllowedAt (length is) at i

-- the list stands in the words from a place on, with its branches to another place
abbrev pub StandsAt : List Instr → ℕ → ℕ → List Instr → Type 0
StandsAt words from to is =
    (k : ℕ) (i : Instr) → slice_get is k ≡ Some i → slice_get words (from + k) ≡ Some (led (displacement_between (from + k) to) i)

-- the state with its pc so many words further
abbrev pub moved : ℕ → MachineState → MachineState
moved d s = record { registers = s.registers; memory = s.memory; pc = s.pc + 4 * d }

-- the longer list leads to the place, with registers and memory of the other state
pub record LeadsTo (words : List Instr) (s : MachineState) (most to : ℕ) (left : MachineState) : Type 0 where
  pub steps : ℕ
  pub few_steps : steps ≤ most
  pub state : after steps words s ≡ record { registers = left.registers; memory = left.memory; pc = 4 * to }

-- a branch from place p leads to place t
pub branch_leads : (p t : ℕ) → p < 2 ^ 29 → t < 2 ^ 29 → address (4 * p + 4) 4 (displacement_between p t) ≡ 4 * t
branch_leads p t lp lt = grind (arith, nat_tests, ints)

-- ---- what an instruction does with the pc

abbrev pub GoesOn : Instr → MachineState → Type 0
GoesOn (Beq ra disp) s = slice_index s.registers ra ≢ 0
GoesOn _ s = Unit {0}

abbrev pub IsTaken : Instr → MachineState → Type 0
IsTaken (Beq ra disp) s = slice_index s.registers ra ≡ 0
IsTaken _ s = ⊥

decide : (i : Instr) (s : MachineState) → GoesOn i s ⊎ IsTaken i s
decide (Operate op ra second rc) s = inl tt
decide (Lda ra rb disp) s = inl tt
decide (Ldah ra rb disp) s = inl tt
decide (Load access ra rb disp) s = inl tt
decide (Store access ra rb disp) s = inl tt
decide (Ldq ra rb disp) s = inl tt
decide (Stq ra rb disp) s = inl tt
decide (Beq ra disp) s = elim (eqb_tells (slice_index s.registers ra) 0) [ inl t ↦ inr t.1 | inr t ↦ inl t.1 ]

-- a branch that isn't taken, and one that is
passes : (ra : ℕ) (disp : ℤ) (s : MachineState) → slice_index s.registers ra ≢ 0 → step (Beq ra disp) s ≡ record { registers = s.registers; memory = s.memory; pc = next_pc s.pc }
passes ra disp s h = elim (eqb_tells (slice_index s.registers ra) 0) [
  | inl t ↦ absurd (h t.1)
  | inr t ↦ ap (λ b. record { registers = s.registers; memory = s.memory; pc = if b then address (next_pc s.pc) 4 disp else next_pc s.pc }) t.0
]

pub leaves : (ra : ℕ) (disp : ℤ) (s : MachineState) → slice_index s.registers ra ≡ 0 → step (Beq ra disp) s ≡ record { registers = s.registers; memory = s.memory; pc = address (next_pc s.pc) 4 disp }
leaves ra disp s h = elim (eqb_tells (slice_index s.registers ra) 0) [
  | inl t ↦ ap (λ b. record { registers = s.registers; memory = s.memory; pc = if b then address (next_pc s.pc) 4 disp else next_pc s.pc }) t.0
  | inr t ↦ absurd (t.1 h)
]

goes_pc : (i : Instr) (s : MachineState) (k : ℕ) → GoesOn i s → s.pc ≡ 4 * k → k < 2 ^ 29 → (step i s).pc ≡ 4 * suc k
goes_pc (Operate op ra second rc) s k on pc few = omega (arith, pc, few)
goes_pc (Lda ra rb disp) s k on pc few = omega (arith, pc, few)
goes_pc (Ldah ra rb disp) s k on pc few = omega (arith, pc, few)
goes_pc (Load access ra rb disp) s k on pc few = omega (arith, pc, few)
goes_pc (Store access ra rb disp) s k on pc few = omega (arith, pc, few)
goes_pc (Ldq ra rb disp) s k on pc few = omega (arith, pc, few)
goes_pc (Stq ra rb disp) s k on pc few = omega (arith, pc, few)
goes_pc (Beq ra disp) s k on pc few = ap (λ m. m.pc) (passes ra disp s on) ∙ omega (arith, pc, few)

-- one instruction traps where it is moved exactly if it traps
trap_moved : (d at to : ℕ) (s : MachineState) (i : Instr) → traps (led (displacement_between at to) i) (moved d s) ≡ traps i s
trap_moved d at to s (Operate op ra second rc) = refl
trap_moved d at to s (Lda ra rb disp) = refl
trap_moved d at to s (Ldah ra rb disp) = refl
trap_moved d at to s (Load access ra rb disp) = refl
trap_moved d at to s (Store access ra rb disp) = refl
trap_moved d at to s (Ldq ra rb disp) = refl
trap_moved d at to s (Stq ra rb disp) = refl
trap_moved d at to s (Beq ra disp) = refl

-- one instruction that goes on does the same where it is moved
module _ (d at to k : ℕ) (s : MachineState) (pc : s.pc ≡ 4 * k) (few : k < 2 ^ 29) (low : d < 2 ^ 29) where
  next_moved : next_pc (s.pc + 4 * d) ≡ next_pc s.pc + 4 * d
  next_moved = omega (arith, pc, few, low)

  one_moved : (i : Instr) → GoesOn i s → step (led (displacement_between at to) i) (moved d s) ≡ moved d (step i s)
  one_moved (Operate op ra second rc) on = ap (λ p. record { registers = (step (Operate op ra second rc) s).registers; memory = s.memory; pc = p }) next_moved
  one_moved (Lda ra rb disp) on = ap (λ p. record { registers = (step (Lda ra rb disp) s).registers; memory = s.memory; pc = p }) next_moved
  one_moved (Ldah ra rb disp) on = ap (λ p. record { registers = (step (Ldah ra rb disp) s).registers; memory = s.memory; pc = p }) next_moved
  one_moved (Load access ra rb disp) on = ap (λ p. record { registers = (step (Load access ra rb disp) s).registers; memory = s.memory; pc = p }) next_moved
  one_moved (Store access ra rb disp) on = ap (λ p. record { registers = s.registers; memory = (step (Store access ra rb disp) s).memory; pc = p }) next_moved
  one_moved (Ldq ra rb disp) on = ap (λ p. record { registers = (step (Ldq ra rb disp) s).registers; memory = s.memory; pc = p }) next_moved
  one_moved (Stq ra rb disp) on = ap (λ p. record { registers = s.registers; memory = (step (Stq ra rb disp) s).memory; pc = p }) next_moved
  one_moved (Beq ra disp) on =
      passes ra (displacement_between at to) (moved d s) on
      ∙ ap (λ p. record { registers = s.registers; memory = s.memory; pc = p }) next_moved
      ∙ sym (ap (moved d) (passes ra disp s on))

module _ (last : (n : ℕ) (instrs : List Instr) (s : MachineState) → after (suc n) instrs s ≡ stepped instrs (after n instrs s))
    (sums : (m n : ℕ) (instrs : List Instr) (s : MachineState) → after (m + n) instrs s ≡ after n instrs (after m instrs s))
    (stays : (n : ℕ) (instrs : List Instr) (s : MachineState) → length instrs ≤ s.pc / 4 → after n instrs s ≡ s)
    (steps : (instrs : List Instr) (s : MachineState) (i : Instr) → fetched instrs s ≡ Some i → IsFalse (traps i s) → stepped instrs s ≡ step i s)
    (trapped : (n : ℕ) (instrs : List Instr) (s : MachineState) → IsSomeAnd (fetched instrs s) (λ i. IsTrue (traps i s)) → after n instrs s ≡ s)
    (is : List Instr) (few : length is < 2 ^ 28)
    (stand : BranchesLeave is)
    (words : List Instr) (from to : ℕ) (low : from < 2 ^ 28) (low_to : to < 2 ^ 29)
    (inside : StandsAt words from to is)
    (start : MachineState) (begins : start.pc ≡ 0) where
  abbrev alone : ℕ → MachineState
  alone k = after k is start

  abbrev there : ℕ → MachineState
  there k = after k words (moved from start)

  -- up to place k no branch was taken
  record IsStraight (k : ℕ) : Type 0 where
    pub pc : (alone k).pc ≡ 4 * k
    pub same : there k ≡ moved from (alone k)

  -- a branch before place k was taken
  record IsGone (k : ℕ) : Type 0 where
    pub at : ℕ
    pub before : at < k
    pub register : ℕ
    pub disp : ℤ
    pub is_branch : slice_get is at ≡ Some (Beq register disp)
    pub straight : IsStraight at
    pub zero_word : slice_index (alone at).registers register ≡ 0
    pub quiet : IsFalse (traps (Beq register disp) (alone at))

  -- a word before place k trapped
  record IsStuck (k : ℕ) : Type 0 where
    pub at : ℕ
    pub before : at < k
    pub straight : IsStraight at
    pub stuck : IsSomeAnd (fetched is (alone at)) (λ i. IsTrue (traps i (alone at)))

  fetched_is : (k : ℕ) (i : Instr) → (alone k).pc ≡ 4 * k → slice_get is k ≡ Some i → fetched is (alone k) ≡ Some i
  fetched_is k i pc e = let place : (alone k).pc / 4 ≡ k = omega (arith, pc) in ap (slice_get is) place ∙ e

  stepped_is : (k : ℕ) (i : Instr) → (alone k).pc ≡ 4 * k → slice_get is k ≡ Some i → IsFalse (traps i (alone k)) → alone (suc k) ≡ step i (alone k)
  stepped_is k i pc e quiet = last k is start ∙ steps is (alone k) i (fetched_is k i pc e) quiet

  stepped_there : (k : ℕ) (i : Instr) → IsStraight k → slice_get is k ≡ Some i → IsFalse (traps i (alone k)) → there (suc k) ≡ step (led (displacement_between (from + k) to) i) (moved from (alone k))
  stepped_there k i h e quiet =
      let p = h.pc in
      let place : ((alone k).pc + 4 * from) / 4 ≡ from + k = omega (arith, p) in
      last k words (moved from start) ∙ ap (stepped words) h.same
      ∙ steps words (moved from (alone k)) (led (displacement_between (from + k) to) i) (ap (slice_get words) place ∙ inside k i e)
      (trap_moved from (from + k) to (alone k) i ∙ quiet)

  one_on : (k : ℕ) (i : Instr) → k < length is → slice_get is k ≡ Some i → IsStraight k → GoesOn i (alone k) → IsFalse (traps i (alone k)) → IsStraight (suc k)
  one_on k i lt e h on quiet =
      let p = h.pc in
      let s = stepped_is k i p e quiet in
      record {
        pc = ap (λ m. m.pc) s ∙ goes_pc i (alone k) k on p (omega (arith, lt, few));
        same = stepped_there k i h e quiet ∙ one_moved from (from + k) to k (alone k) p (omega (arith, lt, few)) (omega (arith, low)) i on ∙ sym (ap (moved from) s);
      }

  one_gone : (k : ℕ) (i : Instr) → slice_get is k ≡ Some i → IsStraight k → IsTaken i (alone k) → IsFalse (traps i (alone k)) → IsGone (suc k)
  one_gone k (Beq ra disp) e h z quiet = record { at = k; before = omega arith; register = ra; disp = disp; is_branch = e; straight = h; zero_word = z; quiet = quiet }
  one_gone k (Operate op ra second rc) e h z quiet = absurd z
  one_gone k (Lda ra rb disp) e h z quiet = absurd z
  one_gone k (Ldah ra rb disp) e h z quiet = absurd z
  one_gone k (Load access ra rb disp) e h z quiet = absurd z
  one_gone k (Store access ra rb disp) e h z quiet = absurd z
  one_gone k (Ldq ra rb disp) e h z quiet = absurd z
  one_gone k (Stq ra rb disp) e h z quiet = absurd z

  one_more : (k : ℕ) (i : Instr) → k < length is → slice_get is k ≡ Some i → IsStraight k → (b : Bool) → traps i (alone k) ≡ b → IsStraight (suc k) ⊎ IsGone (suc k) ⊎ IsStuck (suc k)
  one_more k i lt e h true trap =
      inr (inr (record { at = k; before = omega arith; straight = h; stuck = subst (λ (o : Option Instr). IsSomeAnd o (λ j. IsTrue (traps j (alone k)))) (sym (fetched_is k i h.pc e)) trap }))
  one_more k i lt e h false quiet = elim (decide i (alone k)) [
    | inl on ↦ inl (one_on k i lt e h on quiet)
    | inr taken ↦ inr (inl (one_gone k i e h taken quiet))
  ]

  run_cases : (k : ℕ) → k ≤ length is → IsStraight k ⊎ IsGone k ⊎ IsStuck k
  run_cases zero le =
      let pc : start.pc ≡ 4 * 0 = begins in
      inl (record { pc = pc; same = refl })
  run_cases (suc k) le =
      elim (run_cases k (omega (arith, le))) [
        | inr (inl gone) ↦ (let b = gone.before in inr (inl (record { at = gone.at; before = omega (arith, b); register = gone.register; disp = gone.disp; is_branch = gone.is_branch; straight = gone.straight; zero_word = gone.zero_word; quiet = gone.quiet })))
        | inr (inr stuck) ↦ (let b = stuck.before in inr (inr (record { at = stuck.at; before = omega (arith, b); straight = stuck.straight; stuck = stuck.stuck })))
        | inl straight ↦ elim ((slice_get_cases is k).1) [
          | inr out ↦ absurd (let o = out.0 in omega (arith, o, le))
          | inl a ↦ one_more k a.0 a.1 a.2 straight (traps a.0 (alone k)) refl
        ]
      ]

  -- where a branch was taken
  module _ (k : ℕ) (le : k ≤ length is) (gone : IsGone k) where
    within : gone.at < length is
    within = slice_get_within is gone.at (Beq gone.register gone.disp) gone.is_branch

    left_alone : alone (suc gone.at) ≡ record { registers = (alone gone.at).registers; memory = (alone gone.at).memory; pc = address (next_pc (alone gone.at).pc) 4 gone.disp }
    left_alone = stepped_is gone.at (Beq gone.register gone.disp) gone.straight.pc gone.is_branch gone.quiet ∙ leaves gone.register gone.disp (alone gone.at) gone.zero_word

    left_pc : (alone (suc gone.at)).pc ≡ 4 * length is + 4
    left_pc =
        let p = gone.straight.pc in
        let w = within in
        ap (λ m. m.pc) left_alone ∙ ap (λ d. address (next_pc (alone gone.at).pc) 4 d) (stand gone.at (Beq gone.register gone.disp) gone.is_branch) ∙ omega (arith, p, w, few)

    stays_left : alone k ≡ alone (suc gone.at)
    stays_left =
        let b = gone.before in
        let e : suc gone.at + (k - suc gone.at) ≡ k = omega (arith, b) in
        let p = left_pc in
        ap alone (sym e) ∙ sums (suc gone.at) (k - suc gone.at) is start ∙ stays (k - suc gone.at) is (alone (suc gone.at)) (omega (arith, p))

    left_there : there (suc gone.at) ≡ record { registers = (alone gone.at).registers; memory = (alone gone.at).memory; pc = 4 * to }
    left_there =
        let p = gone.straight.pc in
        let w = within in
        let at_place : next_pc ((alone gone.at).pc + 4 * from) ≡ 4 * (from + gone.at) + 4 = omega (arith, p, w, few, low) in
        stepped_there gone.at (Beq gone.register gone.disp) gone.straight gone.is_branch gone.quiet
        ∙ leaves gone.register (displacement_between (from + gone.at) to) (moved from (alone gone.at)) gone.zero_word
        ∙ ap (λ p. record { registers = (alone gone.at).registers; memory = (alone gone.at).memory; pc = p })
        (ap (λ x. address x 4 (displacement_between (from + gone.at) to)) at_place ∙ branch_leads (from + gone.at) to (omega (arith, w, few, low)) low_to)

  -- where a word trapped, the pc stays at it
  stuck_pc : (k : ℕ) (stuck : IsStuck k) → (alone k).pc ≡ 4 * stuck.at
  stuck_pc k stuck =
      let b = stuck.before in
      let e : stuck.at + (k - stuck.at) ≡ k = omega (arith, b) in
      ap (λ n. (alone n).pc) (sym e) ∙ ap (λ m. m.pc) (sums stuck.at (k - stuck.at) is start ∙ trapped (k - stuck.at) is (alone stuck.at) stuck.stuck) ∙ stuck.straight.pc

  -- where the listing alone falls through, so it does there
  pub falls_there : (alone (length is)).pc ≡ 4 * length is → there (length is) ≡ moved from (alone (length is))
  falls_there pc = elim (run_cases (length is) (omega arith)) [
    | inl straight ↦ straight.same
    | inr (inr stuck) ↦ (let p = stuck_pc (length is) stuck in let b = stuck.before in absurd (omega (arith, p, b, pc)))
    | inr (inl gone) ↦ (let p = ap (λ m. m.pc) (stays_left (length is) (omega arith) gone) ∙ left_pc (length is) (omega arith) gone in absurd (omega (arith, p, pc)))
  ]

  -- where it leaves, it leaves there too, to `to`
  pub leaves_there : (alone (length is)).pc ≡ 4 * length is + 4 → LeadsTo words (moved from start) (length is) to (alone (length is))
  leaves_there pc = elim (run_cases (length is) (omega arith)) [
    | inl straight ↦ absurd (let p = straight.pc in omega (arith, p, pc))
    | inr (inr stuck) ↦ absurd (let p = stuck_pc (length is) stuck in let b = stuck.before in omega (arith, p, b, pc))
    | inr (inl gone) ↦ (
        let e = stays_left (length is) (omega arith) gone ∙ left_alone (length is) (omega arith) gone in
        record {
          steps = suc gone.at;
          few_steps = gone.before;
          state = left_there (length is) (omega arith) gone ∙ (λ i. record { registers = (sym e i).registers; memory = (sym e i).memory; pc = 4 * to });
        })
  ]
