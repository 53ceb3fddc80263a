-- One word after the other.
use Rattle.std.proofs.Common.{◌≡◌, ℕ, zero, suc, ◌+◌, ◌*◌, ◌/◌, ◌^◌, ◌<◌, List, [], ◌∷◌, length, map, refl, sym, ◌∙◌, ap, subst, arith, add-one, Option, Some, None, Bool, true, false, cond, ◌==◌, ◌-◌, ◌≤◌}
use Rattle.std.proofs.lemmas.List.{length-map}
use Rattle.std.proofs.lemmas.Option.{slice_get_past}
use Rattle.std.specs.Prelude.{slice_get, slice_index, unwrap_or, IsSomeAnd, IsTrue, IsFalse, if◌then◌else◌}
use Rattle.std.specs.Option.{option_and_then, option_map_or}
use Rattle.word_ops.specs.declared.operates.Operate.TheVariants as ops
use Rattle.alpha_encode.specs.Decoded.{decoded}
use Rattle.alpha_machine.specs.States.{MachineState}
use Rattle.alpha_machine.specs.Steps.{step, traps, next_pc, address}
use Rattle.alpha_machine.specs.Runs.{fetched, unless_trap, stepped, after, Runs, AllMayStand, IsAllowedAt}
use Rattle.alpha_encode.specs.declared.instructions.Second.TheVariants.{Reg}
use Rattle.alpha_encode.specs.declared.instructions.Instr.{Instr}
use Rattle.alpha_encode.specs.declared.instructions.Instr.TheVariants.{Operate, Lda, Ldah, Load, Store, Ldq, Stq, Beq}
use Rattle.alpha_machine.specs.Refusals.{IsStepRefused, IsBeforeStore, MayLackMemory}
use Rattle.alpha_machine.specs.declared.stepping.StepFault.{StepFault}
use Rattle.alpha_machine.specs.declared.stepping.StepFault.TheVariants as step_faults
use Rattle.alpha_machine.specs.declared.running.End.TheVariants.{Trap}

-- the instruction of a word that is one
abbrev pub instr_or : ℕ → Instr
instr_or word = unwrap_or (decoded word) (Operate ops.Bis 31 (Reg 31) 31)

abbrev pub instrs_of : List ℕ → List Instr
instrs_of words = map instr_or words

pub after_more : (n : ℕ) (instrs : List Instr) (s : MachineState) → after (suc n) instrs s ≡ stepped instrs (after n instrs s)
after_more zero instrs s = refl
after_more (suc n) instrs s = after_more n instrs (stepped instrs s)

some_or : (o : Option Instr) (P : Instr → Type 0) (d : Instr) → IsSomeAnd o P → o ≡ Some (unwrap_or o d)
some_or None P d h = absurd h
some_or (Some i) P d h = refl

pub all_decode : (words : List ℕ) (P : ℕ → Instr → Type 0) → ((at word : ℕ) → slice_get words at ≡ Some word → IsSomeAnd (decoded word) (P at)) → map decoded words ≡ map Some (instrs_of words)
all_decode [] P h = refl
all_decode (w ∷ words) P h =
    ap (λ o. o ∷ map decoded words) (some_or (decoded w) (P 0) (Operate ops.Bis 31 (Reg 31) 31) (h 0 w refl))
    ∙ ap (λ os. Some (instr_or w) ∷ os) (all_decode words (λ at. P (suc at)) (λ at word e. h (suc at) word e))

pub decode_all : (words : List ℕ) → AllMayStand words → map decoded words ≡ map Some (instrs_of words)
decode_all words h = all_decode words (λ at. IsAllowedAt (length words) at) h

instr_at : (words : List ℕ) (n word : ℕ) → slice_get words n ≡ Some word → slice_get (instrs_of words) n ≡ Some (instr_or word)
instr_at [] n word e = cc
instr_at (w ∷ words) zero word e = (let same : w ≡ word = cc in ap (λ v. Some (instr_or v)) same)
instr_at (w ∷ words) (suc n) word e = instr_at words n word e

-- where the instruction at pc doesn't trap, a step is its step
pub stepped_on : (instrs : List Instr) (s : MachineState) (i : Instr) →
    fetched instrs s ≡ Some i → IsFalse (traps i s) → stepped instrs s ≡ step i s
stepped_on instrs s i there free =
    ap (λ o. option_map_or (λ j. step j s) (option_and_then (unless_trap s) o) s) there
    ∙ ap (λ b. option_map_or (λ j. step j s) (if b then None else Some i) s) free

-- where it traps, a step changes nothing
stepped_not : (instrs : List Instr) (s : MachineState) →
    IsSomeAnd (fetched instrs s) (λ i. IsTrue (traps i s)) → stepped instrs s ≡ s
stepped_not instrs s h = of (fetched instrs s) h
  where
    of : (o : Option Instr) → IsSomeAnd o (λ i. IsTrue (traps i s)) →
        option_map_or (λ j. step j s) (option_and_then (unless_trap s) o) s ≡ s
    of None h = absurd h
    of (Some i) h = ap (λ b. option_map_or (λ j. step j s) (if b then None else Some i) s) h

-- a state in which an instruction traps is never left
pub stays_trapped : (n : ℕ) (instrs : List Instr) (s : MachineState) →
    IsSomeAnd (fetched instrs s) (λ i. IsTrue (traps i s)) → after n instrs s ≡ s
stays_trapped zero instrs s trap = refl
stays_trapped (suc n) instrs s trap = ap (after n instrs) (stepped_not instrs s trap) ∙ stays_trapped n instrs s trap

-- the instruction of the word at a place
fetched_at : (words : List ℕ) (n word : ℕ) (i : Instr) (s : MachineState) →
    slice_get words n ≡ Some word → decoded word ≡ Some i → s.pc ≡ 4 * n → fetched (instrs_of words) s ≡ Some i
fetched_at words n word i s there is pc =
    let place : s.pc / 4 ≡ n = omega (arith, pc) in
    ap (slice_get (instrs_of words)) place ∙ instr_at words n word there
    ∙ ap (λ o. Some (unwrap_or o (Operate ops.Bis 31 (Reg 31) 31))) is

-- the word at a place is the next step
step_more : (words : List ℕ) (n word : ℕ) (i : Instr) (start s : MachineState) →
    slice_get words n ≡ Some word → decoded word ≡ Some i → IsFalse (traps i s) → s ≡ after n (instrs_of words) start →
    s.pc ≡ 4 * n → step i s ≡ after (suc n) (instrs_of words) start
step_more words n word i start s there is free reached pc =
    sym (after_more n (instrs_of words) start ∙ ap (stepped (instrs_of words)) (sym reached)
    ∙ stepped_on (instrs_of words) s i (fetched_at words n word i s there is pc) free)

none_some : {X : Type 0} (a : X) → None ≡ Some a → ⊥
none_some a e = cc

-- what a word that may stand is
allowed_instr : (words : List ℕ) (n word : ℕ) → AllMayStand words → slice_get words n ≡ Some word → (i : Instr) × (decoded word ≡ Some i) × IsAllowedAt (length words) n i
allowed_instr words n word stand there = of (decoded word) (stand n word there)
  where
    of : (o : Option Instr) → IsSomeAnd o (IsAllowedAt (length words) n) → (i : Instr) × (o ≡ Some i) × IsAllowedAt (length words) n i
    of None h = absurd h
    of (Some i) h = (i, refl, h)

-- an allowed instruction goes on to the next word, or leaves to the place one word behind the last
pc_on : (count at : ℕ) (i : Instr) (s : MachineState) → IsAllowedAt count at i → s.pc ≡ 4 * at → at < count → count < 2 ^ 29 → ¬ (4 * count < (step i s).pc) → (step i s).pc ≡ 4 * (at + 1)
pc_on count at (Operate op ra second rc) s allowed pc within few on = omega (arith, pc)
pc_on count at (Lda ra rb disp) s allowed pc within few on = omega (arith, pc)
pc_on count at (Ldah ra rb disp) s allowed pc within few on = omega (arith, pc)
pc_on count at (Load access ra rb disp) s allowed pc within few on = omega (arith, pc)
pc_on count at (Store access ra rb disp) s allowed pc within few on = omega (arith, pc)
pc_on count at (Ldq ra rb disp) s allowed pc within few on = omega (arith, pc)
pc_on count at (Stq ra rb disp) s allowed pc within few on = omega (arith, pc)
pc_on count at (Beq ra disp) s allowed pc within few on = by_test (slice_index s.registers ra == 0) on
  where
    taken : ℕ
    taken = address (next_pc s.pc) 4 disp

    leads : taken ≡ 4 * count + 4
    leads = rw allowed (omega (arith, pc, within, few))

    by_test : (b : Bool) → ¬ (4 * count < cond b taken (next_pc s.pc)) → cond b taken (next_pc s.pc) ≡ 4 * (at + 1)
    by_test true on = absurd (on (omega (arith, leads)))
    by_test false on = omega (arith, pc)

pc_out : (count at : ℕ) (i : Instr) (s : MachineState) → IsAllowedAt count at i → s.pc ≡ 4 * at → at < count → count < 2 ^ 29 → 4 * count < (step i s).pc → (step i s).pc ≡ 4 * count + 4
pc_out count at (Operate op ra second rc) s allowed pc within few out = omega (arith, pc, out)
pc_out count at (Lda ra rb disp) s allowed pc within few out = omega (arith, pc, out)
pc_out count at (Ldah ra rb disp) s allowed pc within few out = omega (arith, pc, out)
pc_out count at (Load access ra rb disp) s allowed pc within few out = omega (arith, pc, out)
pc_out count at (Store access ra rb disp) s allowed pc within few out = omega (arith, pc, out)
pc_out count at (Ldq ra rb disp) s allowed pc within few out = omega (arith, pc, out)
pc_out count at (Stq ra rb disp) s allowed pc within few out = omega (arith, pc, out)
pc_out count at (Beq ra disp) s allowed pc within few out = by_test (slice_index s.registers ra == 0) out
  where
    taken : ℕ
    taken = address (next_pc s.pc) 4 disp

    leads : taken ≡ 4 * count + 4
    leads = rw allowed (omega (arith, pc, within, few))

    by_test : (b : Bool) → 4 * count < cond b taken (next_pc s.pc) → cond b taken (next_pc s.pc) ≡ 4 * count + 4
    by_test true out = leads
    by_test false out = omega (arith, pc, out)

-- past the words nothing happens
pub stays : (n : ℕ) (instrs : List Instr) (s : MachineState) → length instrs ≤ s.pc / 4 → after n instrs s ≡ s
stays zero instrs s past = refl
stays (suc n) instrs s past =
    ap (after n instrs)
    (ap (λ o. option_map_or (λ i. step i s) (option_and_then (unless_trap s) o) s)
    (slice_get_past instrs (s.pc / 4) past))
    ∙ stays n instrs s past

pub after_sum : (m n : ℕ) (instrs : List Instr) (s : MachineState) → after (m + n) instrs s ≡ after n instrs (after m instrs s)
after_sum zero n instrs s = (let e : 0 + n ≡ n = omega arith in ap (λ k. after k instrs s) e)
after_sum (suc m) n instrs s =
    let e : suc m + n ≡ suc (m + n) = omega arith in
    ap (λ k. after k instrs s) e ∙ after_sum m n instrs (stepped instrs s)

-- a state that was reached and stays is where more steps lead
reached_end : (m n : ℕ) (instrs : List Instr) (start s : MachineState) →
    m ≤ n → s ≡ after m instrs start → ((k : ℕ) → after k instrs s ≡ s) → after n instrs start ≡ s
reached_end m n instrs start s within reached still =
    let more : m + (n - m) ≡ n = omega (arith, within) in
    ap (λ k. after k instrs start) (sym more) ∙ after_sum m (n - m) instrs start
    ∙ ap (after (n - m) instrs) (sym reached) ∙ still (n - m)

-- the instruction doesn't trap, and its step was made
abbrev pub DoesTo : MachineState → MachineState → Instr → Type 0
DoesTo s new i = IsFalse (traps i s) × (new ≡ step i s)

module _ (words : List ℕ) (n word : ℕ) (start s new : MachineState) (stand : AllMayStand words) (there : slice_get words n ≡ Some word)
    (reached : s ≡ after n (instrs_of words) start) (pc : s.pc ≡ 4 * n) where
  -- what holds of the word's instruction
  of_instr : (P : Instr → Type 0) → (i : Instr) → decoded word ≡ Some i → IsSomeAnd (decoded word) P → P i
  of_instr P i is h = subst (λ (o : Option Instr). IsSomeAnd o P) is h

  pub reached_more : IsSomeAnd (decoded word) (DoesTo s new) → new ≡ after (n + 1) (instrs_of words) start
  reached_more did =
      let a = allowed_instr words n word stand there in
      let e = of_instr (DoesTo s new) a.0 a.1 did in
      rw add-one (e.1 ∙ step_more words n word a.0 start s there a.1 e.0 reached pc)

  pub pc_more : n < length words → length words < 2 ^ 29 → IsSomeAnd (decoded word) (DoesTo s new) →
      ¬ (4 * length words < new.pc) → new.pc ≡ 4 * (n + 1)
  pc_more within few did on =
      let a = allowed_instr words n word stand there in
      let e : new ≡ step a.0 s = (of_instr (DoesTo s new) a.0 a.1 did).1 in
      ap (λ m. m.pc) e ∙ pc_on (length words) n a.0 s a.2 pc within few (λ out. on (subst (λ m. 4 * length words < m.pc) (sym e) out))

  pub pc_leaves : n < length words → length words < 2 ^ 29 → IsSomeAnd (decoded word) (DoesTo s new) →
      4 * length words < new.pc → new.pc ≡ 4 * length words + 4
  pc_leaves within few did out =
      let a = allowed_instr words n word stand there in
      let e : new ≡ step a.0 s = (of_instr (DoesTo s new) a.0 a.1 did).1 in
      ap (λ m. m.pc) e ∙ pc_out (length words) n a.0 s a.2 pc within few (subst (λ m. 4 * length words < m.pc) e out)

  pub leads_out : n < length words → new ≡ after (n + 1) (instrs_of words) start → new.pc ≡ 4 * length words + 4 → after (length words) (instrs_of words) start ≡ new
  leads_out within reached_new out =
      let size : length (instrs_of words) ≡ length words = length-map words instr_or in
      let past : length (instrs_of words) ≤ new.pc / 4 = omega (arith, size, out) in
      reached_end (n + 1) (length words) (instrs_of words) start new (omega (arith, within)) reached_new
      (λ k. stays k (instrs_of words) new past)

  -- a step that was refused left the state before the word
  pub fetched_still : (P : MachineState → Instr → Type 0) → IsSomeAnd (decoded word) (P s) → new ≡ s →
      IsSomeAnd (fetched (instrs_of words) new) (P new)
  fetched_still P h same =
      let a = allowed_instr words n word stand there in
      let holds : P new a.0 = subst (λ m. P m a.0) (sym same) (of_instr (P s) a.0 a.1 h) in
      let found : fetched (instrs_of words) new ≡ Some a.0 =
      fetched_at words n word a.0 new there a.1 (ap (λ m. m.pc) same ∙ pc) in
      subst (λ (o : Option Instr). IsSomeAnd o (P new)) (sym found) holds

  -- the words lead to a word that traps
  pub runs_to_trap : (fault : StepFault) → fault ≡ step_faults.Trap → start.pc ≡ 0 → n < length words →
      IsStepRefused word s new fault → Runs words start Trap new
  runs_to_trap fault e begins within refused =
      let at : IsStepRefused word s new step_faults.Trap = subst (IsStepRefused word s new) e refused in
      let ends : IsSomeAnd (fetched (instrs_of words) new) (λ i. IsTrue (traps i new)) =
      fetched_still (λ m i. IsTrue (traps i m)) at.0 at.1 in
      record {
        instrs = instrs_of words;
        decode = decode_all words stand;
        begins = begins;
        steps =
            reached_end n (length words) (instrs_of words) start new (omega (arith, within)) (at.1 ∙ reached)
            (λ k. stays_trapped k (instrs_of words) new ends);
        ends = ends;
      }

  -- a step that was refused for want of memory was a store's
  pub before_store : (fault : StepFault) → fault ≡ step_faults.Memory → n < length words →
      IsStepRefused word s new fault → IsBeforeStore words start new
  before_store fault e within refused =
      let at : IsStepRefused word s new step_faults.Memory = subst (IsStepRefused word s new) e refused in
      record {
        instrs = instrs_of words;
        decode = decode_all words stand;
        count = n;
        fewer = within;
        steps = sym (at.1 ∙ reached);
        next = fetched_still MayLackMemory at.0 at.1;
      }

  -- each word is an instruction
  pub no_other : (fault : StepFault) → fault ≡ step_faults.NotWord → IsStepRefused word s new fault → ⊥
  no_other fault e refused =
      let at : IsStepRefused word s new step_faults.NotWord = subst (IsStepRefused word s new) e refused in
      let a = allowed_instr words n word stand there in none_some a.0 (sym at.0 ∙ a.1)
