-- The words of a lift do what its goal says, exactly where they don't trap.
use Rattle.std.proofs.Common.{◌≡◌, ℕ, ◌<◌, ◌⊎◌, List, [], ◌∷◌, ◌++◌, length, map, take, refl, sym, ◌∙◌, ap, subst, inl, inr, arith, Bool, true, false, Option, Some, None, suc, ◌+◌, ◌^◌}
use Rattle.std.specs.Prelude.{All, codes, IsFalse, IsSomeAnd, IsTrue, cond, filter, filter_map, find, slice_get, slice_index}
use Rattle.std.specs.Option.{option_map_or}
use Rattle.std.proofs.lemmas.List.{take_all}
use Rattle.std.proofs.lemmas.List.Elements.{All-append, All-cons, All-head, All-map, All-nil, All-tail, All-take, All-weaker}
use Rattle.std.proofs.lemmas.Option.{get_or_from_slice_get, none-some, same_Some, slice_get_within}
use Rattle.word_ops.specs.Worlds.{IsWorld, World, memory, word}
use Rattle.word_ops.specs.declared.sorts.Op.{Op}
use Rattle.word_terms.specs.Tree.{Tree, substituted, variable}
use Rattle.alpha_encode.specs.Decoded.{decoded}
use Rattle.alpha_encode.specs.Formats.{IsWellFormed}
use Rattle.alpha_encode.specs.declared.instructions.Instr.{Instr}
use Rattle.alpha_machine.specs.Runs.{after, fetched, stepped}
use Rattle.alpha_machine.specs.States.{MachineState}
use Rattle.alpha_machine.specs.Steps.{step, traps}
use Rattle.goal_meaning.specs.Expanded.{expanded, expanded_sides, expanded_target}
use Rattle.goal_meaning.specs.Holds.{IsMet}
use Rattle.goal_meaning.specs.Outcomes.{is_memory, new_memory}
use Rattle.goal_meaning.specs.Views.{TargetTree, TwoTrees}
use Rattle.code_check.specs.Compared.{branch_of}
use Rattle.code_check.specs.Outcomes.{entry_state}
use Rattle.code_check.specs.Terms.{terms_at_entry, terms_from}
use Rattle.code_check.specs.Values.{HaveValues, after_all}
use Rattle.proc_goal.specs.Goals.{memory_kept, sets_or_memory}
use Rattle.code_lift.specs.Lifted.{Lifting, assume_of, at_start, goal_of_lift, has_let, lifted, lifted_from, memory_sets, memory_value, register_set, register_term, sets_of, value_term}
use Rattle.code_lift.specs.Promises.{DoesAsLifted, MeetsAssumes, TrapsOnTheWay}
use Rattle.code_lift.specs.Views.{LiftTree}
use Rattle.code_lift.specs.WellFormed.{IsLift, IsPlainWord}
use Rattle.code_lift.specs.declared.lifting.Address.{Address}
use Rattle.code_lift.proofs.LetValues.{AreWords, Fits, V, terms_of}
use Rattle.code_lift.proofs.LiftedRuns as runs
use Rattle.code_lift.proofs.LiftedRuns.{each_instr, first_fits, instructions}
use Rattle.code_lift.proofs.Unwritten.{unwritten}
use Rattle.code_lift.proofs.WordByWord.{as_many}

-- ---- lists

pub back : {X Y : Type 0} (P : Y → Type 0) (f : X → Y) (xs : List X) → All P (map f xs) → All (λ x. P (f x)) xs
back P f [] h = All-nil (λ x. P (f x))
back P f (x ∷ xs) h = All-cons (λ y. P (f y)) x xs (All-head P (f x) (map f xs) h) (back P f xs (All-tail P (f x) (map f xs) h))

all_filtered : {X : Type 0} (P : X → Type 0) (test : X → Bool) (xs : List X) → All P xs → All P (filter test xs)
all_filtered P test [] h = All-nil P
all_filtered P test (x ∷ xs) h = by (all_filtered P test xs (All-tail P x xs h)) (test x)
  where
    by : All P (filter test xs) → (b : Bool) → All P (cond b (x ∷ filter test xs) (filter test xs))
    by rest true = All-cons P x (filter test xs) (All-head P x xs h) rest
    by rest false = rest

at_place : {X : Type 0} (P : X → Type 0) (xs : List X) (k : ℕ) (x : X) → All P xs → slice_get xs k ≡ Some x → P x
at_place P xs k x all there = subst P (get_or_from_slice_get xs k x x there) (all k x (slice_get_within xs k x there))

-- ---- targets

module _ (w : World) (s : Lifting) (m : MachineState) (h : Fits w s m) where
  abbrev es : List (Tree Op)
  es = terms_of s

  -- a pinned target's register has its value
  abbrev IsRight : TargetTree → Type 0
  IsRight t = (r : ℕ) → t.pin ≡ Some r → word (slice_index m.registers r) ≡ V w t.value

  register_right : (q : ℕ) → q < 31 → IsRight (expanded_target es (register_set s q))
  register_right q low r pin =
      let same : q ≡ r = same_Some q r pin in
      subst (λ k. word (slice_index m.registers k) ≡ V w (substituted es (register_term s q))) same (sym (h.registers q (omega (arith, low))))

  memory_right : (o : Option ℕ) → All (λ (t : TargetTree). IsRight (expanded_target es t)) (memory_sets o)
  memory_right None = All-nil (λ (t : TargetTree). IsRight (expanded_target es t))
  memory_right (Some n) =
      All-cons (λ (t : TargetTree). IsRight (expanded_target es t)) (record { name = codes "M"; value = variable n; pin = None }) [] (λ r pin. absurd (none-some r pin)) (All-nil (λ (t : TargetTree). IsRight (expanded_target es t)))

  module _ (out : List ℕ) (low : All (λ r. r < 31) out) where
    abbrev written : List ℕ
    written = filter (has_let s) out

    registers_right : All (λ (t : TargetTree). IsRight (expanded_target es t)) (map (register_set s) written)
    registers_right =
        All-map (λ (t : TargetTree). IsRight (expanded_target es t)) (register_set s) written
        (All-weaker (λ r. r < 31) (λ q. IsRight (expanded_target es (register_set s q))) register_right written (all_filtered (λ r. r < 31) (has_let s) out low))

    or_memory_right : (ts : List TargetTree) → All (λ (t : TargetTree). IsRight (expanded_target es t)) ts → All (λ (t : TargetTree). IsRight (expanded_target es t)) (sets_or_memory ts)
    or_memory_right [] all = All-cons (λ (t : TargetTree). IsRight (expanded_target es t)) memory_kept [] (λ r pin. absurd (none-some r pin)) (All-nil (λ (t : TargetTree). IsRight (expanded_target es t)))
    or_memory_right (t ∷ ts) all = all

    pub targets_right : All IsRight (map (expanded_target es) (sets_or_memory (sets_of s out)))
    targets_right =
        All-map IsRight (expanded_target es) (sets_or_memory (sets_of s out))
        (or_memory_right (sets_of s out) (All-append (λ (t : TargetTree). IsRight (expanded_target es t)) (memory_sets s.memory) (map (register_set s) written) (memory_right s.memory) registers_right))

    -- ---- the memory

    no_memory : (rs : List ℕ) → find is_memory (map (expanded_target es) (map (register_set s) rs)) ≡ None
    no_memory [] = refl
    no_memory (r ∷ rs) = no_memory rs

    memory_by : (o : Option ℕ) (rs : List ℕ) → s.memory ≡ o
        → memory m.memory ≡ new_memory [] w (map (expanded_target es) (sets_or_memory (memory_sets o ++ map (register_set s) rs)))
    memory_by (Some n) rs e = sym h.memory_is ∙ ap (λ o. V w (substituted es (memory_value o))) e
    memory_by None [] e = sym h.memory_is ∙ ap (λ o. V w (substituted es (memory_value o))) e
    memory_by None (r ∷ rs) e =
        sym h.memory_is ∙ ap (λ o. V w (substituted es (memory_value o))) e
        ∙ sym (ap (λ o. option_map_or (λ (t : TargetTree). V w t.value) o (memory w.memory_at_entry)) (no_memory rs))

    pub memory_right_too : memory m.memory ≡ new_memory [] w (map (expanded_target es) (sets_or_memory (sets_of s out)))
    memory_right_too = memory_by s.memory written refl

same_word : (m n : ℕ) → word m ≡ word n → m ≡ n
same_word m n e = cc

-- ---- all together

plain_instr : (n : ℕ) (i : Instr) → IsPlainWord n → decoded n ≡ Some i → branch_of (Some i) ≡ None
plain_instr n i h e = sym (ap branch_of e) ∙ h.plain

module _ (lift : LiftTree) (w : World) (is_lift : IsLift lift) (is_world : IsWorld w)
    (forth : (n : ℕ) (i : Instr) → n < 2 ^ 32 → decoded n ≡ Some i → IsWellFormed i)
    (values : (instrs : List Instr) → All IsWellFormed instrs → HaveValues w (λ n. []) (terms_from instrs terms_at_entry) (after_all instrs (entry_state w)))
    (last : (k : ℕ) (instrs : List Instr) (s : MachineState) → after (suc k) instrs s ≡ stepped instrs (after k instrs s))
    (sums : (j k : ℕ) (instrs : List Instr) (s : MachineState) → after (j + k) instrs s ≡ after k instrs (after j instrs s))
    (steps : (instrs : List Instr) (s : MachineState) (i : Instr) → fetched instrs s ≡ Some i → IsFalse (traps i s) → stepped instrs s ≡ step i s)
    (trapped : (k : ℕ) (instrs : List Instr) (s : MachineState) → IsSomeAnd (fetched instrs s) (λ i. IsTrue (traps i s)) → after k instrs s ≡ s) where
  abbrev is : List Instr
  is = filter_map decoded lift.words

  well_formed : All IsWellFormed is
  well_formed = each_instr IsWellFormed lift.words (λ n i h e. forth n i h.low e) is_lift.rules.words

  plain : All (λ i. branch_of (Some i) ≡ None) is
  plain = each_instr (λ i. branch_of (Some i) ≡ None) lift.words plain_instr is_lift.rules.words

  decode : map decoded lift.words ≡ map Some is
  decode = instructions lift.words is_lift.rules.words

  few : length is < 2 ^ 29
  few = (let many = as_many lift.words is_lift.rules.words in let most = is_lift.rules.few_words in omega (arith, many, most))

  fine : (k : ℕ) → AreWords (after_all (take k is) (entry_state w))
  fine k = (let h = values (take k is) (All-take IsWellFormed k is well_formed) in record { count = h.count; words = h.words })

  first : Fits w at_start (entry_state w)
  first = first_fits w is_world

  abbrev s_end : Lifting
  s_end = lifted_from 0 (take (length is) is) at_start

  all_of_them : s_end ≡ lifted lift.words
  all_of_them = ap (λ xs. lifted_from 0 xs at_start) (take_all (length is) is (omega arith))

  abbrev Met : Lifting → Type 0
  Met s = All (λ (a : Address). IsMet [] w (expanded_sides (terms_of s) (assume_of a))) s.addresses

  to_met : MeetsAssumes lift w → Met s_end
  to_met h = subst Met (sym all_of_them)
      (back (λ (t : TwoTrees). IsMet [] w (expanded_sides (terms_of (lifted lift.words)) t)) assume_of (lifted lift.words).addresses
      (back (IsMet [] w) (expanded_sides (terms_of (lifted lift.words))) (map assume_of (lifted lift.words).addresses) h))

  from_met : Met s_end → MeetsAssumes lift w
  from_met h =
      All-map (IsMet [] w) (expanded_sides (terms_of (lifted lift.words))) (map assume_of (lifted lift.words).addresses)
      (All-map (λ (t : TwoTrees). IsMet [] w (expanded_sides (terms_of (lifted lift.words)) t)) assume_of (lifted lift.words).addresses
      (subst Met all_of_them h))

  abbrev m_end : MachineState
  m_end = after_all (take (length is) is) (entry_state w)

  fits_end : Fits w (lifted lift.words) m_end
  fits_end = subst (λ (s : Lifting). Fits w s m_end) all_of_them (runs.fits_at w is well_formed plain first fine few (length is) (omega arith))

  pub does : MeetsAssumes lift w → DoesAsLifted lift w
  does met = record {
    state = m_end;
    runs = runs.runs_when_met w is well_formed plain first fine few last sums steps trapped lift.words decode (to_met met);
    memory_is = memory_right_too w (lifted lift.words) m_end fits_end lift.out is_lift.rules.out.low;
    targets = λ i r t there pin.
        at_place (λ (u : TargetTree). (q : ℕ) → u.pin ≡ Some q → word (slice_index m_end.registers q) ≡ V w u.value)
        (expanded (goal_of_lift lift)).sets i t (targets_right w (lifted lift.words) m_end fits_end lift.out is_lift.rules.out.low) there r pin;
    others = λ r low no_let.
        same_word (slice_index m_end.registers r) (slice_index w.registers r)
        (sym (fits_end.registers r (omega (arith, low)))
        ∙ ap (λ v. V w (substituted (terms_of (lifted lift.words)) (value_term v))) (unwritten lift.words r low no_let));
  }

  pub never_both : TrapsOnTheWay lift.words w → MeetsAssumes lift w → ⊥
  never_both t met = runs.not_both w is well_formed plain first fine few last sums steps trapped lift.words decode t (to_met met)

  pub one_of_both : MeetsAssumes lift w ⊎ TrapsOnTheWay lift.words w
  one_of_both = elim (runs.decide w is well_formed plain first fine few last sums steps trapped lift.words decode) [
    | inl met ↦ inl (from_met met)
    | inr t ↦ inr t
  ]
