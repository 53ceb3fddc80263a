-- The run of words in a line: up to a branch that is taken, or to the end.
use Rattle.std.proofs.Common.{◌≡◌, ◌≢◌, ℕ, ℤ, zero, suc, ◌+◌, ◌-◌, ◌*◌, ◌/◌, ◌^◌, ◌<◌, ◌≤◌, List, [], ◌∷◌, ◌++◌, length, map, take, refl, sym, ◌∙◌, ap, subst, inl, inr, arith, pos, Option, Some}
use Rattle.std.specs.Prelude.{All, IsFalse, IsSomeAnd, slice_get, slice_index, if◌then◌else◌}
use Rattle.std.proofs.lemmas.Bool.Decides.{eqb_tells}
use Rattle.std.proofs.lemmas.List.{length-map}
use Rattle.std.proofs.lemmas.Option.{slice_get_cases, slice_get_within, get_or_from_slice_get, same_Some, none-some}
use Rattle.word_ops.specs.Worlds.{World}
use Rattle.alpha_encode.specs.Decoded.{decoded}
use Rattle.alpha_encode.specs.Formats.{IsWellFormed}
use Rattle.alpha_encode.specs.declared.instructions.Instr.{Instr}
use Rattle.alpha_encode.specs.declared.instructions.Instr.TheVariants.{Operate, Lda, Ldah, Load, Store, Ldq, Stq, Beq}
use Rattle.alpha_machine.specs.States.{MachineState}
use Rattle.alpha_machine.specs.Steps.{step, next_pc, address, traps}
use Rattle.alpha_machine.specs.Runs.{Runs, fetched, stepped, after, IsAllowedAt}
use Rattle.alpha_machine.specs.declared.running.End.TheVariants.{Fall, Exit}
use Rattle.code_check.specs.Outcomes.{IsCode, entry_state}
use Rattle.code_check.specs.Same.{IsBranchAt}
use Rattle.code_check.specs.Terms.{TermState, terms_at_entry, term_step, terms_from, terms_after}
use Rattle.code_check.specs.Values.{HaveValues}

-- ---- one more

pub taken : {X : Type 0} (xs : List X) (n : ℕ) (x : X) → slice_get xs n ≡ Some x → take (suc n) xs ≡ take n xs ++ x ∷ []
taken [] n x e = absurd (none-some x e)
taken (y ∷ ys) zero x e = ap (λ z. z ∷ []) (same_Some y x e)
taken (y ∷ ys) (suc n) x e = ap (λ zs. y ∷ zs) (taken ys n x e)

pub terms_more : (is : List Instr) (i : Instr) (ts : TermState) → terms_from (is ++ i ∷ []) ts ≡ term_step i (terms_from is ts)
terms_more [] i ts = refl
terms_more (j ∷ is) i ts = terms_more is i (term_step j ts)

pub well_formed_at : (is : List Instr) (k : ℕ) (i : Instr) → All IsWellFormed is → slice_get is k ≡ Some i → IsWellFormed i
well_formed_at is k i wf there = subst IsWellFormed (get_or_from_slice_get is k i i there) (wf k i (slice_get_within is k i there))

-- the instruction goes on to the next
abbrev pub GoesOn : Instr → MachineState → Type 0
GoesOn (Beq ra disp) s = slice_index s.registers ra ≢ 0
GoesOn _ s = Unit {0}

pub pc_on : (i : Instr) (s : MachineState) (k : ℕ) → GoesOn i s → s.pc ≡ 4 * k → k < 2 ^ 29 → (step i s).pc ≡ 4 * suc k
pc_on (Operate op ra second rc) s k on pc few = omega (arith, pc, few)
pc_on (Lda ra rb disp) s k on pc few = omega (arith, pc, few)
pc_on (Ldah ra rb disp) s k on pc few = omega (arith, pc, few)
pc_on (Load access ra rb disp) s k on pc few = omega (arith, pc, few)
pc_on (Store access ra rb disp) s k on pc few = omega (arith, pc, few)
pc_on (Ldq ra rb disp) s k on pc few = omega (arith, pc, few)
pc_on (Stq ra rb disp) s k on pc few = omega (arith, pc, few)
pc_on (Beq ra disp) s k on pc few = elim (eqb_tells (slice_index s.registers ra) 0) [
  | inl t ↦ absurd (on t.1)
  | inr t ↦ ap (λ b. if b then address (next_pc s.pc) 4 disp else next_pc s.pc) t.0 ∙ omega (arith, pc, few)
]

-- a branch changes the pc alone
left : (ra : ℕ) (disp : ℤ) (s : MachineState) → slice_index s.registers ra ≡ 0 → step (Beq ra disp) s ≡ record { registers = s.registers; memory = s.memory; pc = address (next_pc s.pc) 4 disp }
left ra disp s zero_word = elim (eqb_tells (slice_index s.registers ra) 0) [
  | inl t ↦ ap (λ b. record { registers = s.registers; memory = s.memory; pc = if b then address (next_pc s.pc) 4 disp else next_pc s.pc }) t.0
  | inr t ↦ absurd (t.1 zero_word)
]

some_same : {X : Type 0} (a b : X) → Some a ≡ Some b → a ≡ b
some_same a b e = same_Some a b e

-- the word at the place of an instruction is one of it
pub word_of : (words : List ℕ) (is : List Instr) → map decoded words ≡ map Some is → (k : ℕ) (i : Instr) → slice_get is k ≡ Some i →
    (word : ℕ) × (slice_get words k ≡ Some word) × (decoded word ≡ Some i)
word_of [] [] e k i there = absurd (none-some i there)
word_of [] (j ∷ is) e k i there = absurd (no_cons (Some j) (map Some is) e)
  where
    no_cons : (o : Option Instr) (os : List (Option Instr)) → [] ≡ o ∷ os → ⊥
    no_cons o os e = cc
word_of (w ∷ words) [] e k i there = absurd (none-some i there)
word_of (w ∷ words) (j ∷ is) e zero i there = (w, refl, head_same (decoded w) (Some j) (map decoded words) (map Some is) e ∙ there)
  where
    head_same : (o p : Option Instr) (os ps : List (Option Instr)) → o ∷ os ≡ p ∷ ps → o ≡ p
    head_same o p os ps e = cc
word_of (w ∷ words) (j ∷ is) e (suc k) i there = word_of words is (tail_same (decoded w) (Some j) (map decoded words) (map Some is) e) k i there
  where
    tail_same : (o p : Option Instr) (os ps : List (Option Instr)) → o ∷ os ≡ p ∷ ps → os ≡ ps
    tail_same o p os ps e = cc

module _ (last : (n : ℕ) (instrs : List Instr) (s : MachineState) → after (suc n) instrs s ≡ stepped instrs (after n instrs s))
    (sums : (m n : ℕ) (instrs : List Instr) (s : MachineState) → after (m + n) instrs s ≡ after n instrs (after m instrs s))
    (stays : (n : ℕ) (instrs : List Instr) (s : MachineState) → length instrs ≤ s.pc / 4 → after n instrs s ≡ s)
    (steps : (instrs : List Instr) (s : MachineState) (i : Instr) → fetched instrs s ≡ Some i → IsFalse (traps i s) → stepped instrs s ≡ step i s)
    (w : World) (names : ℕ → List ℕ)
    (one : (ts : TermState) (s : MachineState) → HaveValues w names ts s → (i : Instr) → IsWellFormed i → HaveValues w names (term_step i ts) (step i s))
    (words : List ℕ) (is : List Instr) (code : IsCode words is) (few : length words < 2 ^ 29)
    (first : HaveValues w names terms_at_entry (entry_state w))
    (safe : (k : ℕ) (i : Instr) (s : MachineState) → slice_get is k ≡ Some i → HaveValues w names (terms_after k is) s → IsFalse (traps i s)) where
  count : length words ≡ length is
  count = sym (length-map words decoded) ∙ ap length code.decode ∙ length-map is Some

  abbrev pub state_at : ℕ → MachineState
  state_at k = after k is (entry_state w)

  -- the state after k instructions in a line
  pub record IsAt (k : ℕ) (s : MachineState) : Type 0 where
    pub values : HaveValues w names (terms_after k is) s
    pub pc : s.pc ≡ 4 * k

  stepped_is : (k : ℕ) (s : MachineState) (i : Instr) → IsAt k s → slice_get is k ≡ Some i → stepped is s ≡ step i s
  stepped_is k s i h there =
      let place : s.pc / 4 ≡ k = (let pc = h.pc in omega (arith, pc)) in
      steps is s i (ap (slice_get is) place ∙ there) (safe k i s there h.values)

  next_values : (k : ℕ) (s : MachineState) (i : Instr) → HaveValues w names (terms_after k is) s → slice_get is k ≡ Some i → HaveValues w names (terms_after (suc k) is) (step i s)
  next_values k s i h there =
      subst (λ ts. HaveValues w names ts (step i s)) (sym (ap (λ xs. terms_from xs terms_at_entry) (taken is k i there) ∙ terms_more (take k is) i terms_at_entry))
      (one (terms_after k is) s h i (well_formed_at is k i code.well_formed there))

  -- no branch before place k is taken
  abbrev pub NoneTaken : ℕ → Type 0
  NoneTaken k = (at ra : ℕ) → at < k → IsBranchAt is at ra → slice_index (state_at at).registers ra ≢ 0

  goes_on : (k : ℕ) (i : Instr) → slice_get is k ≡ Some i → NoneTaken (suc k) → GoesOn i (state_at k)
  goes_on k (Beq ra disp) there none = none k ra (omega arith) (record { disp = disp; there = there })
  goes_on k (Operate op ra second rc) there none = tt
  goes_on k (Lda ra rb disp) there none = tt
  goes_on k (Ldah ra rb disp) there none = tt
  goes_on k (Load access ra rb disp) there none = tt
  goes_on k (Store access ra rb disp) there none = tt
  goes_on k (Ldq ra rb disp) there none = tt
  goes_on k (Stq ra rb disp) there none = tt

  pub reached : (k : ℕ) → k ≤ length is → NoneTaken k → IsAt k (state_at k)
  reached zero le none = record { values = first; pc = omega arith }
  reached (suc k) le none =
      let h = reached k (omega (arith, le)) (λ at ra lt b. none at ra (omega (arith, lt)) b) in
      elim ((slice_get_cases is k).1) [
        | inl a ↦ (
            let i = a.0 in
            let there : slice_get is k ≡ Some i = a.2 in
            let e : state_at (suc k) ≡ step i (state_at k) = last k is (entry_state w) ∙ stepped_is k (state_at k) i h there in
            record {
              values = subst (HaveValues w names (terms_after (suc k) is)) (sym e) (next_values k (state_at k) i h.values there);
              pc = ap (λ s. s.pc) e ∙ pc_on i (state_at k) k (goes_on k i there none) h.pc (omega (arith, le, few, count));
            })
        | inr b ↦ absurd (omega (arith, b.0, le))
      ]

  -- where no branch is taken the words run to their end
  pub falls : NoneTaken (length is) → Runs words (entry_state w) Fall (state_at (length words)) × HaveValues w names (terms_after (length is) is) (state_at (length words))
  falls none =
      let h = reached (length is) (omega arith) none in (
        record {
          instrs = is;
          decode = code.decode;
          begins = refl;
          steps = refl;
          ends = ap (λ n. (state_at n).pc) count ∙ h.pc ∙ sym (ap (λ n. 4 * n) count);
        },
        subst (λ n. HaveValues w names (terms_after (length is) is) (state_at n)) (sym count) h.values,
      )

  -- where the branch is taken they leave there, with registers and memory as they are at the branch
  module _ (at ra : ℕ) (branch : IsBranchAt is at ra) where
    within : at < length is
    within = slice_get_within is at (Beq ra branch.disp) branch.there

    pub branch_register : ra < 32
    branch_register = (let wf = well_formed_at is at (Beq ra branch.disp) code.well_formed branch.there in wf.0)

    none_before : NoneTaken at
    none_before b rb lt other = absurd (let e = code.one_branch b at rb ra other branch in omega (arith, e, lt))

    pub at_branch : IsAt at (state_at at)
    at_branch = reached at (omega (arith, within)) none_before

    leads : branch.disp ≡ pos (length words - at)
    leads =
        let k = word_of words is code.decode at (Beq ra branch.disp) branch.there in
        subst (λ (o : Option Instr). IsSomeAnd o (IsAllowedAt (length words) at)) k.2 (code.stand at k.0 k.1)

    module _ (zero_word : slice_index (state_at at).registers ra ≡ 0) where
      gone : state_at (suc at) ≡ record { registers = (state_at at).registers; memory = (state_at at).memory; pc = address (next_pc (state_at at).pc) 4 branch.disp }
      gone = last at is (entry_state w) ∙ stepped_is at (state_at at) (Beq ra branch.disp) at_branch branch.there ∙ left ra branch.disp (state_at at) zero_word

      gone_pc : (state_at (suc at)).pc ≡ 4 * length words + 4
      gone_pc = ap (λ s. s.pc) gone ∙ ap (λ d. address (next_pc (state_at at).pc) 4 d) leads ∙ omega (arith, at_branch.pc, within, few, count)

      at_end : state_at (length words) ≡ state_at (suc at)
      at_end =
          let more : suc at + (length words - suc at) ≡ length words = omega (arith, within, count) in
          ap state_at (sym more) ∙ sums (suc at) (length words - suc at) is (entry_state w)
          ∙ stays (length words - suc at) is (state_at (suc at)) (omega (arith, gone_pc, count))

      pub leaves : Runs words (entry_state w) Exit (state_at (length words))
      leaves = record { instrs = is; decode = code.decode; begins = refl; steps = refl; ends = ap (λ s. s.pc) at_end ∙ gone_pc }

      pub same_registers : (state_at (length words)).registers ≡ (state_at at).registers
      same_registers = ap (λ s. s.registers) (at_end ∙ gone)

      pub same_memory : (state_at (length words)).memory ≡ (state_at at).memory
      same_memory = ap (λ s. s.memory) (at_end ∙ gone)
