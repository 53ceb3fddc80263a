-- The run of the words of a lift, beside the lift's goal.
use Rattle.std.proofs.Common.{◌≡◌, ℕ, zero, suc, ◌+◌, ◌-◌, ◌*◌, ◌/◌, ◌^◌, ◌<◌, ◌≤◌, ◌⊎◌, List, [], ◌∷◌, ◌++◌, length, map, take, refl, sym, ◌∙◌, ap, subst, inl, inr, arith, Bool, true, false, Option, Some, None}
use Rattle.std.specs.Prelude.{All, Contains, IsFalse, IsSomeAnd, IsTrue, filter_map, slice_get, slice_index, slice_index_or}
use Rattle.std.specs.List.{cons_option}
use Rattle.std.proofs.lemmas.Bool.{cases_lt}
use Rattle.std.proofs.lemmas.List.{get_or_append_left, length-map, length-take-le, map-append}
use Rattle.std.proofs.lemmas.List.Elements.{All-append, All-cons, All-contains, All-head, All-map, All-nil, All-tail, All-weaker}
use Rattle.std.proofs.lemmas.Option.{get_or_from_slice_get, none-some, same_Some, slice_get_cases, slice_get_past, slice_get_within}
use Rattle.std.proofs.Math.Seq.{get_or-append_seam}
use Rattle.word_ops.specs.Worlds.{IsWorld, World, word}
use Rattle.word_terms.specs.Tree.{substituted}
use Rattle.alpha_encode.specs.Decoded.{decoded}
use Rattle.alpha_encode.specs.Formats.{IsWellFormed}
use Rattle.alpha_encode.specs.declared.instructions.Instr.{Instr}
use Rattle.alpha_encode.specs.declared.instructions.Instr.TheVariants.{Operate, Lda, Ldah, Load, Store, Ldq, Stq, Beq}
use Rattle.alpha_machine.specs.Runs.{Runs, after, fetched, stepped}
use Rattle.alpha_machine.specs.States.{MachineState}
use Rattle.alpha_machine.specs.Steps.{step, traps}
use Rattle.alpha_machine.specs.declared.running.End.TheVariants.{Fall, Trap}
use Rattle.goal_meaning.specs.Holds.{goal_value}
use Rattle.code_check.specs.Compared.{branch_of}
use Rattle.code_check.specs.Outcomes.{entry_state}
use Rattle.code_check.specs.Values.{after_all}
use Rattle.code_lift.specs.Lifted.{Lifting, at_start, first_numbers, lift_step, lifted_from, trapping_address, value_term}
use Rattle.code_lift.specs.Promises.{TrapsOnTheWay}
use Rattle.code_lift.specs.WellFormed.{IsPlainWord}
use Rattle.code_lift.specs.declared.lifting.Address.{Address}
use Rattle.code_lift.specs.declared.lifting.Value.{Value}
use Rattle.code_lift.specs.declared.lifting.Value.TheVariants.{Entry, Let, Zero}
use Rattle.code_lift.proofs.Addresses.{IsMetBy, address_value, all_behind, is_put, met_moves, met_without_trap, no_trap, stays_there}
use Rattle.code_lift.proofs.LetValues.{AreWords, Fits, IsBelow, IsKept, fits_step, kept_step, terms_of}
use Rattle.code_lift.proofs.Listed.{length_first}
use Rattle.code_lift.proofs.WordByWord.{from_more}

-- ---- instructions of words

pub instructions : (words : List ℕ) → All IsPlainWord words → map decoded words ≡ map Some (filter_map decoded words)
instructions [] plain = refl
instructions (w ∷ words) plain =
    let i = (All-head IsPlainWord w words plain).instr in
    let e = (All-head IsPlainWord w words plain).is in
    ap (λ o. o ∷ map decoded words) e ∙ ap (λ os. Some i ∷ os) (instructions words (All-tail IsPlainWord w words plain))
    ∙ sym (ap (λ o. map Some (cons_option o (filter_map decoded words))) e)

pub each_instr : (P : Instr → Type 0) (words : List ℕ) → ((w : ℕ) (i : Instr) → IsPlainWord w → decoded w ≡ Some i → P i) → All IsPlainWord words → All P (filter_map decoded words)
each_instr P [] make plain = All-nil P
each_instr P (w ∷ words) make plain =
    let h = All-head IsPlainWord w words plain in
    subst (λ o. All P (cons_option o (filter_map decoded words))) (sym h.is)
    (All-cons P h.instr (filter_map decoded words) (make w h.instr h h.is) (each_instr P words make (All-tail IsPlainWord w words plain)))

some_one : (a b : Instr) → Some a ≡ Some b → a ≡ b
some_one a b e = same_Some a b e

-- two lists of instructions of one list of words are one
same_instrs : (is js : List Instr) → map Some is ≡ map Some js → is ≡ js
same_instrs [] [] e = refl
same_instrs [] (j ∷ js) e = absurd (no_cons (Some j) (map Some js) e)
  where
    no_cons : (o : Option Instr) (os : List (Option Instr)) → [] ≡ o ∷ os → ⊥
    no_cons o os e = cc
same_instrs (i ∷ is) [] e = absurd (no_cons (Some i) (map Some is) (sym e))
  where
    no_cons : (o : Option Instr) (os : List (Option Instr)) → [] ≡ o ∷ os → ⊥
    no_cons o os e = cc
same_instrs (i ∷ is) (j ∷ js) e =
    ap (λ k. k ∷ is) (some_one i j (heads (Some i) (Some j) (map Some is) (map Some js) e))
    ∙ ap (λ ks. j ∷ ks) (same_instrs is js (tails (Some i) (Some j) (map Some is) (map Some js) e))
  where
    heads : (o p : Option Instr) (os ps : List (Option Instr)) → o ∷ os ≡ p ∷ ps → o ≡ p
    heads o p os ps e = cc

    tails : (o p : Option Instr) (os ps : List (Option Instr)) → o ∷ os ≡ p ∷ ps → os ≡ ps
    tails o p os ps e = cc

-- ---- the start

abbrev IsNoLet : Value → Type 0
IsNoLet (Let k) = ⊥
IsNoLet (Entry r) = Unit {0}
IsNoLet Zero = Unit {0}

no_let_at : (vs : List Value) (r : ℕ) → All IsNoLet vs → IsNoLet (slice_index_or vs r Zero)
no_let_at [] r h = tt
no_let_at (v ∷ vs) zero h = All-head IsNoLet v vs h
no_let_at (v ∷ vs) (suc r) h = no_let_at vs r (All-tail IsNoLet v vs h)

below_none : (v : Value) → IsNoLet v → IsBelow 0 v
below_none (Let k) h = absurd h
below_none (Entry r) h = tt
below_none Zero h = tt

no_lets : All IsNoLet at_start.latest
no_lets = All-append IsNoLet (map Entry (first_numbers 31)) (Zero ∷ []) (All-map IsNoLet Entry (first_numbers 31) (λ k d lt. tt)) (All-cons IsNoLet Zero [] tt (All-nil IsNoLet))

entry_last : (n r : ℕ) → r < suc n → ((r < n) ⊎ (n ≤ r)) → (r < n → slice_index_or (map Entry (first_numbers n)) r Zero ≡ Entry r)
    → slice_index_or (map Entry (first_numbers n) ++ Entry n ∷ []) r Zero ≡ Entry r
entry_last n r lt (inl l) before =
    let count : length (map Entry (first_numbers n)) ≡ n = length-map (first_numbers n) Entry ∙ length_first n in
    get_or_append_left (map Entry (first_numbers n)) (Entry n ∷ []) Zero r (omega (arith, l, count)) ∙ before l
entry_last n r lt (inr g) before =
    let count : length (map Entry (first_numbers n)) ≡ n = length-map (first_numbers n) Entry ∙ length_first n in
    let same : r ≡ length (map Entry (first_numbers n)) = omega (arith, g, lt, count) in
    let back : n ≡ r = omega (arith, g, lt) in
    ap (λ k. slice_index_or (map Entry (first_numbers n) ++ Entry n ∷ []) k Zero) same ∙ get_or-append_seam (map Entry (first_numbers n)) (Entry n) [] Zero ∙ ap Entry back

entry_at : (n r : ℕ) → r < n → slice_index_or (map Entry (first_numbers n)) r Zero ≡ Entry r
entry_at zero r lt = absurd (omega (arith, lt))
entry_at (suc n) r lt =
    ap (λ vs. slice_index_or vs r Zero) (map-append Entry (first_numbers n) (n ∷ []))
    ∙ entry_last n r lt (cases_lt r n) (λ l. entry_at n r l)

pub start_value : (r : ℕ) → r < 31 → slice_index_or at_start.latest r Zero ≡ Entry r
start_value r lt =
    let count : length (map Entry (first_numbers 31)) ≡ 31 = length-map (first_numbers 31) Entry ∙ length_first 31 in
    get_or_append_left (map Entry (first_numbers 31)) (Zero ∷ []) Zero r (omega (arith, lt, count)) ∙ entry_at 31 r lt

pub first_fits : (w : World) → IsWorld w → Fits w at_start (entry_state w)
first_fits w is = record {
  count = refl;
  below = λ r. below_none (slice_index_or at_start.latest r Zero) (no_let_at at_start.latest r no_lets);
  memory_below = tt;
  registers = by;
  memory_is = refl;
}
  where
    by : (r : ℕ) → r < 32 → goal_value [] w (substituted [] (value_term (slice_index_or at_start.latest r Zero))) ≡ word (slice_index w.registers r)
    by r low = elim (cases_lt r 31) [
      | inl l ↦ ap (λ v. goal_value [] w (substituted [] (value_term v))) (start_value r l)
      | inr g ↦ (
          let last : r ≡ 31 = omega (arith, g, low) in
          ap (λ k. goal_value [] w (substituted [] (value_term (slice_index_or at_start.latest k Zero)))) last
          ∙ sym (ap word (ap (slice_index w.registers) last ∙ is.zero_register)))
    ]

-- ---- one more

taken : {X : Type 0} (xs : List X) (k : ℕ) (x : X) → slice_get xs k ≡ Some x → take (suc k) xs ≡ take k xs ++ x ∷ []
taken [] k x e = absurd (none-some x e)
taken (y ∷ ys) zero x e = ap (λ z. z ∷ []) (same_Some y x e)
taken (y ∷ ys) (suc k) x e = ap (λ zs. y ∷ zs) (taken ys k x e)

all_more : (is : List Instr) (i : Instr) (m : MachineState) → after_all (is ++ i ∷ []) m ≡ step i (after_all is m)
all_more [] i m = refl
all_more (j ∷ is) i m = all_more is i (step j m)

none_some : (r : ℕ) → None ≡ Some r → ⊥
none_some r e = cc

pc_on : (i : Instr) (m : MachineState) (k : ℕ) → branch_of (Some i) ≡ None → m.pc ≡ 4 * k → k < 2 ^ 29 → (step i m).pc ≡ 4 * suc k
pc_on (Operate op ra second rc) m k plain pc few = omega (arith, pc, few)
pc_on (Lda ra rb disp) m k plain pc few = omega (arith, pc, few)
pc_on (Ldah ra rb disp) m k plain pc few = omega (arith, pc, few)
pc_on (Load access ra rb disp) m k plain pc few = omega (arith, pc, few)
pc_on (Store access ra rb disp) m k plain pc few = omega (arith, pc, few)
pc_on (Ldq ra rb disp) m k plain pc few = omega (arith, pc, few)
pc_on (Stq ra rb disp) m k plain pc few = omega (arith, pc, few)
pc_on (Beq ra disp) m k plain pc few = absurd (none_some ra (sym plain))

below_le : (m n : ℕ) (v : Value) → m ≤ n → IsBelow m v → IsBelow n v
below_le m n (Let k) le h = omega (arith, le, h)
below_le m n (Entry r) le h = tt
below_le m n Zero le h = tt

kept_none : (s : Lifting) → IsKept s s
kept_none s = record { long = omega arith; same = λ v h. refl }

kept_both : (s t u : Lifting) → IsKept s t → IsKept t u → IsKept s u
kept_both s t u first second = record {
  long = (let a = first.long in let b = second.long in omega (arith, a, b));
  same = λ v h. second.same v (below_le (length s.lets) (length t.lets) v first.long h) ∙ first.same v h;
}

is_true_or_false : (b : Bool) → (b ≡ true) ⊎ (b ≡ false)
is_true_or_false true = inl refl
is_true_or_false false = inr refl

-- ---- in a world

module _ (w : World) (is : List Instr)
    (wf : All IsWellFormed is)
    (plain : All (λ i. branch_of (Some i) ≡ None) is)
    (first : Fits w at_start (entry_state w))
    (fine : (k : ℕ) → AreWords (after_all (take k is) (entry_state w)))
    (few : length is < 2 ^ 29) where
  abbrev pub s_at : ℕ → Lifting
  s_at k = lifted_from 0 (take k is) at_start

  abbrev pub m_at : ℕ → MachineState
  m_at k = after_all (take k is) (entry_state w)

  holds_at : (P : Instr → Type 0) (k : ℕ) (i : Instr) → All P is → slice_get is k ≡ Some i → P i
  holds_at P k i all there = subst P (get_or_from_slice_get is k i i there) (all k i (slice_get_within is k i there))

  s_more : (k : ℕ) (i : Instr) → slice_get is k ≡ Some i → s_at (suc k) ≡ lift_step k i (s_at k)
  s_more k i there =
      let within = slice_get_within is k i there in
      let count = length-take-le k is (omega (arith, within)) in
      let at : 0 + length (take k is) ≡ k = omega (arith, count) in
      ap (λ xs. lifted_from 0 xs at_start) (taken is k i there) ∙ from_more 0 (take k is) i at_start ∙ ap (λ n. lift_step n i (s_at k)) at

  m_more : (k : ℕ) (i : Instr) → slice_get is k ≡ Some i → m_at (suc k) ≡ step i (m_at k)
  m_more k i there = ap (λ xs. after_all xs (entry_state w)) (taken is k i there) ∙ all_more (take k is) i (entry_state w)

  pub fits_at : (k : ℕ) → k ≤ length is → Fits w (s_at k) (m_at k)
  fits_at zero le = first
  fits_at (suc k) le =
      elim ((slice_get_cases is k).1) [
        | inl a ↦ (
            let i = a.0 in
            let there : slice_get is k ≡ Some i = a.2 in
            subst (λ (s : Lifting). Fits w s (m_at (suc k))) (sym (s_more k i there))
            (subst (Fits w (lift_step k i (s_at k))) (sym (m_more k i there))
            (fits_step w (s_at k) (m_at k) (fits_at k (omega (arith, le))) (fine k) k i (holds_at IsWellFormed k i wf there))))
        | inr b ↦ absurd (let past = b.0 in omega (arith, past, le))
      ]

  -- what is known behind some words is so behind more of them
  kept_by : (j d k : ℕ) → k ≡ j + d → k ≤ length is → IsKept (s_at j) (s_at k)
  kept_by j zero k e le = (let same : j ≡ k = omega (arith, e) in subst (λ n. IsKept (s_at j) (s_at n)) same (kept_none (s_at j)))
  kept_by j (suc d) zero e le = absurd (omega (arith, e))
  kept_by j (suc d) (suc k) e le =
      elim ((slice_get_cases is k).1) [
        | inl a ↦ (
            let i = a.0 in
            let there : slice_get is k ≡ Some i = a.2 in
            kept_both (s_at j) (s_at k) (s_at (suc k)) (kept_by j d k (omega (arith, e)) (omega (arith, le)))
            (subst (IsKept (s_at k)) (sym (s_more k i there)) (kept_step k i (s_at k))))
        | inr b ↦ absurd (let past = b.0 in omega (arith, past, le))
      ]

  there_by : (j d k : ℕ) (a : Address) → k ≡ j + d → k ≤ length is → Contains (s_at j).addresses a → Contains (s_at k).addresses a
  there_by j zero k a e le h = (let same : j ≡ k = omega (arith, e) in subst (λ n. Contains (s_at n).addresses a) same h)
  there_by j (suc d) zero a e le h = absurd (omega (arith, e))
  there_by j (suc d) (suc k) a e le h =
      elim ((slice_get_cases is k).1) [
        | inl b ↦ (
            let i = b.0 in
            let there : slice_get is k ≡ Some i = b.2 in
            subst (λ (s : Lifting). Contains s.addresses a) (sym (s_more k i there))
            (stays_there k i (s_at k) a (there_by j d k a (omega (arith, e)) (omega (arith, le)) h)))
        | inr b ↦ absurd (let past = b.0 in omega (arith, past, le))
      ]

  abbrev pub n : ℕ
  n = length is

  -- ---- assumptions and traps

  abbrev pub Met : Type 0
  Met = All (IsMetBy w (terms_of (s_at n))) (s_at n).addresses

  -- what an address of an instruction stands for is the same at the end
  same_at_end : (k : ℕ) (i : Instr) (a : Address) → slice_get is k ≡ Some i → trapping_address i (s_at k) ≡ Some a
      → substituted (terms_of (s_at n)) (value_term a.value) ≡ substituted (terms_of (s_at k)) (value_term a.value)
  same_at_end k i a there e =
      let within = slice_get_within is k i there in
      let fits = fits_at k (omega (arith, within)) in
      let below = address_value (IsBelow (length (s_at k).lets)) i (s_at k) a fits.below e in
      let sum : n ≡ k + (n - k) = omega (arith, within) in
      (kept_by k (n - k) n sum (omega arith)).same a.value below

  pub safe_at : Met → (k : ℕ) (i : Instr) → slice_get is k ≡ Some i → traps i (m_at k) ≡ false
  safe_at met k i there =
      let within = slice_get_within is k i there in
      no_trap w (s_at k) (m_at k) (fits_at k (omega (arith, within))) (fine k) i (holds_at IsWellFormed k i wf there) (λ a e.
      let sum : n ≡ suc k + (n - suc k) = omega (arith, within) in
      let here : Contains (s_at (suc k)).addresses a = subst (λ (s : Lifting). Contains s.addresses a) (sym (s_more k i there)) (is_put k i (s_at k) a e) in
      met_moves w (terms_of (s_at n)) (terms_of (s_at k)) a (same_at_end k i a there e)
      (All-contains (IsMetBy w (terms_of (s_at n))) (s_at n).addresses a met (there_by (suc k) (n - suc k) n a sum (omega arith) here)))

  -- the instruction of an address
  pub record IsFrom (k : ℕ) (a : Address) : Type 0 where
    pub place : ℕ
    pub before : place < k
    pub instr : Instr
    pub there : slice_get is place ≡ Some instr
    pub asks : trapping_address instr (s_at place) ≡ Some a

  origins : (k : ℕ) → k ≤ length is → All (IsFrom k) (s_at k).addresses
  origins zero le = All-nil (IsFrom 0)
  origins (suc k) le =
      elim ((slice_get_cases is k).1) [
        | inl b ↦ (
            let i = b.0 in
            let there : slice_get is k ≡ Some i = b.2 in
            subst (λ (s : Lifting). All (IsFrom (suc k)) s.addresses) (sym (s_more k i there))
            (all_behind (IsFrom (suc k)) k i (s_at k)
            (All-weaker (IsFrom k) (IsFrom (suc k)) (λ a h. record {
              place = h.place;
              before = (let lt = h.before in omega (arith, lt));
              instr = h.instr;
              there = h.there;
              asks = h.asks;
            }) (s_at k).addresses (origins k (omega (arith, le))))
            (λ a e. record { place = k; before = omega arith; instr = i; there = there; asks = e })))
        | inr b ↦ absurd (let past = b.0 in omega (arith, past, le))
      ]

  -- no instruction before place k traps
  abbrev pub NoneTraps : ℕ → Type 0
  NoneTraps k = (j : ℕ) (i : Instr) → j < k → slice_get is j ≡ Some i → traps i (m_at j) ≡ false

  met_when : NoneTraps n → Met
  met_when none =
      All-weaker (IsFrom n) (IsMetBy w (terms_of (s_at n))) (λ a h.
      let k = h.place in
      let i = h.instr in
      let within = slice_get_within is k i h.there in
      met_moves w (terms_of (s_at k)) (terms_of (s_at n)) a (sym (same_at_end k i a h.there h.asks))
      (met_without_trap w (s_at k) (m_at k) (fits_at k (omega (arith, within))) (fine k) i (holds_at IsWellFormed k i wf h.there) (none k i within h.there) a h.asks))
      (s_at n).addresses (origins n (omega arith))

  -- the first instruction that traps
  pub record TrapsFirst : Type 0 where
    pub place : ℕ
    pub instr : Instr
    pub there : slice_get is place ≡ Some instr
    pub trap : traps instr (m_at place) ≡ true
    pub before : NoneTraps place

  one_more : (k : ℕ) (i : Instr) → slice_get is k ≡ Some i → NoneTraps k → ((traps i (m_at k) ≡ true) ⊎ (traps i (m_at k) ≡ false)) → NoneTraps (suc k) ⊎ TrapsFirst
  one_more k i there none (inl t) = inr (record { place = k; instr = i; there = there; trap = t; before = none })
  one_more k i there none (inr f) = inl (λ j x lt at. elim (cases_lt j k) [
    | inl l ↦ none j x l at
    | inr g ↦ (
        let same : k ≡ j = omega (arith, lt, g) in
        let there_too : slice_get is k ≡ Some x = ap (slice_get is) same ∙ at in
        let one : i ≡ x = same_Some i x (sym there ∙ there_too) in
        subst (λ k2. traps x (m_at k2) ≡ false) same (subst (λ y. traps y (m_at k) ≡ false) one f))
  ])

  scan : (k : ℕ) → k ≤ length is → NoneTraps k ⊎ TrapsFirst
  scan zero le = inl (λ j i lt there. absurd (omega (arith, lt)))
  scan (suc k) le =
      elim (scan k (omega (arith, le))) [
        | inr found ↦ inr found
        | inl none ↦ elim ((slice_get_cases is k).1) [
          | inl a ↦ one_more k a.0 a.2 none (is_true_or_false (traps a.0 (m_at k)))
          | inr b ↦ absurd (let past = b.0 in omega (arith, past, le))
        ]
      ]

  -- ---- the run

  module _ (last : (k : ℕ) (instrs : List Instr) (s : MachineState) → after (suc k) instrs s ≡ stepped instrs (after k instrs s))
      (sums : (j k : ℕ) (instrs : List Instr) (s : MachineState) → after (j + k) instrs s ≡ after k instrs (after j instrs s))
      (steps : (instrs : List Instr) (s : MachineState) (i : Instr) → fetched instrs s ≡ Some i → IsFalse (traps i s) → stepped instrs s ≡ step i s)
      (trapped : (k : ℕ) (instrs : List Instr) (s : MachineState) → IsSomeAnd (fetched instrs s) (λ i. IsTrue (traps i s)) → after k instrs s ≡ s)
      (words : List ℕ) (decode : map decoded words ≡ map Some is) where
    count : length words ≡ n
    count = sym (length-map words decoded) ∙ ap length decode ∙ length-map is Some

    pub record IsAt (k : ℕ) : Type 0 where
      pub state : after k is (entry_state w) ≡ m_at k
      pub pc : (m_at k).pc ≡ 4 * k

    fetched_at : (k : ℕ) (i : Instr) → IsAt k → slice_get is k ≡ Some i → fetched is (m_at k) ≡ Some i
    fetched_at k i h there =
        let place : (m_at k).pc / 4 ≡ k = (let pc = h.pc in omega (arith, pc)) in
        ap (slice_get is) place ∙ there

    reached : (k : ℕ) → k ≤ length is → NoneTraps k → IsAt k
    reached zero le none = record { state = refl; pc = omega arith }
    reached (suc k) le none =
        let h = reached k (omega (arith, le)) (λ j i lt there. none j i (omega (arith, lt)) there) in
        elim ((slice_get_cases is k).1) [
          | inl a ↦ (
              let i = a.0 in
              let there : slice_get is k ≡ Some i = a.2 in
              let off = none k i (omega arith) there in
              record {
                state =
                    last k is (entry_state w) ∙ ap (stepped is) h.state
                    ∙ steps is (m_at k) i (fetched_at k i h there) off ∙ sym (m_more k i there);
                pc =
                    ap (λ (m : MachineState). m.pc) (m_more k i there)
                    ∙ pc_on i (m_at k) k (holds_at (λ x. branch_of (Some x) ≡ None) k i plain there) h.pc (omega (arith, le, few));
              })
          | inr b ↦ absurd (let past = b.0 in omega (arith, past, le))
        ]

    pub falls : NoneTraps n → Runs words (entry_state w) Fall (m_at n)
    falls none =
        let h = reached n (omega arith) none in
        record {
          instrs = is;
          decode = decode;
          begins = refl;
          steps = ap (λ k. after k is (entry_state w)) count ∙ h.state;
          ends = h.pc ∙ sym (ap (λ k. 4 * k) count);
        }

    stops : (t : TrapsFirst) → Runs words (entry_state w) Trap (m_at t.place)
    stops t =
        let k = t.place in
        let within = slice_get_within is k t.instr t.there in
        let h = reached k (omega (arith, within)) t.before in
        let there = fetched_at k t.instr h t.there in
        let trap : IsSomeAnd (fetched is (m_at k)) (λ i. IsTrue (traps i (m_at k))) = subst (λ o. IsSomeAnd o (λ i. IsTrue (traps i (m_at k)))) (sym there) t.trap in
        let sum : length words ≡ k + (n - k) = omega (arith, within, count) in
        record {
          instrs = is;
          decode = decode;
          begins = refl;
          steps =
              ap (λ j. after j is (entry_state w)) sum ∙ sums k (n - k) is (entry_state w) ∙ ap (after (n - k) is) h.state
              ∙ trapped (n - k) is (m_at k) trap;
          ends = trap;
        }

    pub decide : Met ⊎ TrapsOnTheWay words w
    decide = elim (scan n (omega arith)) [
      | inl none ↦ inl (met_when none)
      | inr t ↦ inr (record { state = m_at t.place; runs = stops t })
    ]

    none_traps : Met → NoneTraps n
    none_traps met j i lt there = safe_at met j i there

    pub runs_when_met : Met → Runs words (entry_state w) Fall (m_at n)
    runs_when_met met = falls (none_traps met)

    pub not_both : TrapsOnTheWay words w → Met → ⊥
    not_both t met =
        let end = reached n (omega arith) (none_traps met) in
        let same : t.runs.instrs ≡ is = same_instrs t.runs.instrs is (sym t.runs.decode ∙ decode) in
        let state : t.state ≡ m_at n = sym t.runs.steps ∙ ap (λ xs. after (length words) xs (entry_state w)) same ∙ ap (λ k. after k is (entry_state w)) count ∙ end.state in
        let place : (m_at n).pc / 4 ≡ n = (let pc = end.pc in omega (arith, pc)) in
        let past : fetched is (m_at n) ≡ None = ap (slice_get is) place ∙ slice_get_past is n (omega arith) in
        let nothing : fetched t.runs.instrs t.state ≡ None = ap (λ xs. fetched xs t.state) same ∙ ap (fetched is) state ∙ past in
        subst (λ o. IsSomeAnd o (λ i. IsTrue (traps i t.state))) nothing t.runs.ends
