-- Where code and goal are the same in a graph, the words have the goal's outcome.
use Rattle.std.proofs.Common.{◌≡◌, ◌≢◌, ℕ, zero, suc, ◌+◌, ◌<◌, ◌%◌, ◌^◌, List, [], ◌∷◌, ◌++◌, length, map, refl, sym, ◌∙◌, ap, subst, inl, inr, arith, Bool, true, false, ◌/◌, ◌≤◌, get_or, Option, Some, None}
use Rattle.std.specs.Prelude.{All, Contains, IsFalse, slice_get, slice_index, if◌then◌else◌}
use Rattle.word_ops.specs.Memory.{Memory}
use Rattle.std.specs.List.{find}
use Rattle.std.specs.Option.{option_map_or}
use Rattle.std.proofs.lemmas.Bool.Decides.{eqb_tells}
use Rattle.std.proofs.lemmas.List.Elements.{All-nil, All-cons, All-head, All-map, All-tail, All-contains}
use Rattle.std.proofs.lemmas.Option.{same_Some, none-some}
use Rattle.word_ops.specs.Meanings.{as_word, meaning}
use Rattle.word_ops.specs.Worlds.{World, Value, word, memory}
use Rattle.word_ops.specs.declared.sorts.Op.{Op}
use Rattle.word_terms.specs.Tree.{Tree, Trees, each_value}
use Rattle.axiom_base.specs.Rewrites.{value_in}
use Rattle.egraph.specs.Graph.{Graph}
use Rattle.egraph.specs.declared.rows.Row.{Row}
use Rattle.graph_meaning.specs.Graphs.{AreTrueRows, IsTrueRow, plain_row}
use Rattle.graph_meaning.specs.Multiples.{IsShown}
use Rattle.graph_meaning.specs.declared.graphs.LaunchRow.{LaunchRow}
use Rattle.pattern_match.specs.Classes.{IsClass, AreClasses, at_variable, at_row, no_classes, classes}
use Rattle.alpha_encode.specs.Formats.{IsWellFormed}
use Rattle.alpha_encode.specs.declared.instructions.Instr.{Instr}
use Rattle.alpha_encode.specs.declared.instructions.Instr.TheVariants.{Beq}
use Rattle.alpha_machine.specs.States.{MachineState}
use Rattle.alpha_machine.specs.Steps.{step, traps}
use Rattle.alpha_machine.specs.Runs.{after, fetched, stepped}
use Rattle.goal_meaning.specs.Holds.{goal_value}
use Rattle.goal_meaning.specs.Outcomes.{Outcome, exit, fall, is_left, is_zero, is_memory, new_words, new_memory}
use Rattle.goal_meaning.specs.Names.{declared_name}
use Rattle.goal_meaning.specs.Views.{GoalTree, TargetTree}
use Rattle.goal_meaning.specs.declared.goals.InputReg.{InputReg}
use Rattle.goal_meaning.specs.declared.goals.DeclaredOp.{DeclaredOp}
use Rattle.saturation.specs.GoalTerms.{entry_term, input_term}
use Rattle.saturation.specs.GraphStands.{IsTrueGraph}
use Rattle.code_check.specs.Outcomes.{IsCode, HasOutcome, FallsWith, ExitsUnchanged, entry_state}
use Rattle.code_check.specs.Same.{HaveSameClass, IsBranchAt, IsMultipleTerm, IsSameGuard, IsSamePart, Same, goal_parts, places_from, rows_of, word_targets_from, memory_target_term, terms_at_end}
use Rattle.code_check.specs.Terms.{TermState, alignment, place_term, terms_at_entry, term_step, terms_after}
use Rattle.code_check.specs.Values.{HaveValues}
use Rattle.code_check.specs.declared.codes.At.{At}
use Rattle.code_check.specs.declared.codes.Part.{Part}
use Rattle.code_check.specs.declared.codes.Part.TheVariants as parts
use Rattle.code_check.proofs.Running.{well_formed_at, NoneTaken, falls, leaves, same_registers, same_memory, IsAt, at_branch, branch_register}

-- ---- terms of one class have one value

module _ (w : World) (names : ℕ → List ℕ) (V : ℕ → Value) (g : Graph Op) (true_in : IsTrueGraph w names V g) where
  mutual
    pub class_value : {t : Tree Op} {c : ℕ} → IsClass g [] t c → V c ≡ value_in w names [] t
    class_value (at_variable l) = absurd (omega (arith, l))
    class_value (at_row {op} {ts} {cs} {c} h k) =
        All-contains (λ (r : Row Op). V r.class ≡ meaning w names r.op (map V r.operands)) g.rows (record { op = op; operands = cs; class = c }) true_in.rows k
        ∙ ap (meaning w names op) (class_values h)

    class_values : {ts : Trees Op} {cs : List ℕ} → AreClasses g [] ts cs → map V cs ≡ each_value (meaning w names) (λ n. word 0) ts
    class_values no_classes = refl
    class_values (classes h k) = let e = class_value h in let f = class_values k in cc

  pub one_value : (t u : Tree Op) → HaveSameClass g t u → value_in w names [] t ≡ value_in w names [] u
  one_value t u h = sym (class_value h.first) ∙ class_value h.second

-- ---- the parts

all_before : {X : Type 0} (P : X → Type 0) (xs ys : List X) → All P (xs ++ ys) → All P xs
all_before P [] ys h = All-nil P
all_before P (x ∷ xs) ys h = All-cons P x xs (All-head P x (xs ++ ys) h) (all_before P xs ys (All-tail P x (xs ++ ys) h))

all_behind : {X : Type 0} (P : X → Type 0) (xs ys : List X) → All P (xs ++ ys) → All P ys
all_behind P [] ys h = h
all_behind P (x ∷ xs) ys h = all_behind P xs ys (All-tail P x (xs ++ ys) h)

module _ (P : Part → Type 0) where
  rest_of : (i : ℕ) (ns : List ℕ) (b : Bool) → All P (map parts.Set (if b then ns else i ∷ ns)) → All P (map parts.Set ns)
  rest_of i ns true h = h
  rest_of i ns false h = All-tail P (parts.Set i) (map parts.Set ns) h

  first_of : (i : ℕ) (ns : List ℕ) (b : Bool) → b ≡ false → All P (map parts.Set (if b then ns else i ∷ ns)) → P (parts.Set i)
  first_of i ns true e h = absurd (true_false e)
    where
      true_false : true ≡ false → ⊥
      true_false e = cc
  first_of i ns false e h = All-head P (parts.Set i) (map parts.Set ns) h

  set_part : (i : ℕ) (ts : List TargetTree) → All P (map parts.Set (word_targets_from i ts)) → (k m : ℕ) (t : TargetTree) → slice_get ts k ≡ Some t → is_memory t ≡ false → m ≡ i + k → P (parts.Set m)
  set_part i [] h k m t there no_memory e = absurd (none-some t there)
  set_part i (x ∷ ts) h zero m t there no_memory e =
      let same : i ≡ m = omega (arith, e) in
      subst (λ n. P (parts.Set n)) same (first_of i (word_targets_from (i + 1) ts) (is_memory x) (ap is_memory (same_Some x t there) ∙ no_memory) h)
  set_part i (x ∷ ts) h (suc k) m t there no_memory e =
      set_part (i + 1) ts (rest_of i (word_targets_from (i + 1) ts) (is_memory x) h) k m t there no_memory (omega (arith, e))

  trap_part : (at : ℕ) (is : List Instr) → All P (map parts.Trap (places_from at is)) → (k m : ℕ) (i : Instr) → slice_get is k ≡ Some i → m ≡ at + k → P (parts.Trap m)
  trap_part at [] h k m i there e = absurd (none-some i there)
  trap_part at (x ∷ is) h zero m i there e =
      let same : at ≡ m = omega (arith, e) in
      subst (λ n. P (parts.Trap n)) same (All-head P (parts.Trap at) (map parts.Trap (places_from (at + 1) is)) h)
  trap_part at (x ∷ is) h (suc k) m i there e =
      trap_part (at + 1) is (All-tail P (parts.Trap at) (map parts.Trap (places_from (at + 1) is)) h) k m i there (omega (arith, e))

-- a multiple of 2, 4 or 8 is one of each lesser power
lesser_power : (v n m : ℕ) → n ≤ m → m ≤ 3 → v % 2 ^ m ≡ 0 → v % 2 ^ n ≡ 0
lesser_power v zero m le few e = omega arith
lesser_power v (suc n) zero le few e = absurd (omega (arith, le))
lesser_power v (suc zero) (suc zero) le few e = e
lesser_power v (suc (suc n)) (suc zero) le few e = absurd (omega (arith, le))
lesser_power v (suc zero) (suc (suc zero)) le few e = omega (arith, e)
lesser_power v (suc (suc zero)) (suc (suc zero)) le few e = e
lesser_power v (suc (suc (suc n))) (suc (suc zero)) le few e = absurd (omega (arith, le))
lesser_power v (suc zero) (suc (suc (suc zero))) le few e = omega (arith, e)
lesser_power v (suc (suc zero)) (suc (suc (suc zero))) le few e = omega (arith, e)
lesser_power v (suc (suc (suc zero))) (suc (suc (suc zero))) le few e = e
lesser_power v (suc (suc (suc (suc n)))) (suc (suc (suc zero))) le few e = absurd (omega (arith, le))
lesser_power v n (suc (suc (suc (suc m)))) le few e = absurd (omega (arith, few))

-- ---- the outcome

abbrev register_of : Option Instr → ℕ
register_of (Some (Beq ra disp)) = ra
register_of _ = 0

pub same_register : (is : List Instr) (a b ra rb : ℕ) → IsBranchAt is a ra → IsBranchAt is b rb → a ≡ b → ra ≡ rb
same_register is a b ra rb h k e = sym (ap register_of h.there) ∙ ap (λ n. register_of (slice_get is n)) e ∙ ap register_of k.there

same_stored : (m n : Memory) → memory m ≡ memory n → m ≡ n
same_stored m n e = cc

same_word : (m n : ℕ) → word m ≡ word n → m ≡ n
same_word m n e = cc

module _ (last : (n : ℕ) (instrs : List Instr) (s : MachineState) → after (suc n) instrs s ≡ stepped instrs (after n instrs s))
    (sums : (m n : ℕ) (instrs : List Instr) (s : MachineState) → after (m + n) instrs s ≡ after n instrs (after m instrs s))
    (stays : (n : ℕ) (instrs : List Instr) (s : MachineState) → length instrs ≤ s.pc / 4 → after n instrs s ≡ s)
    (steps : (instrs : List Instr) (s : MachineState) (i : Instr) → fetched instrs s ≡ Some i → IsFalse (traps i s) → stepped instrs s ≡ step i s)
    (multiples : (rows : List LaunchRow) (world : World) (value : ℕ → Value) (class n : ℕ) → AreTrueRows world value rows → IsShown rows class n → as_word (value class) % 2 ^ n ≡ 0)
    (few_shown : (rows : List LaunchRow) (class n : ℕ) → IsShown rows class n → n ≤ 3)
    (w : World) (declared : List DeclaredOp)
    (one : (ts : TermState) (s : MachineState) → HaveValues w (declared_name declared) ts s → (i : Instr) → IsWellFormed i → HaveValues w (declared_name declared) (term_step i ts) (step i s))
    (unless : (ts : TermState) (s : MachineState) → HaveValues w (declared_name declared) ts s → (i : Instr) → IsWellFormed i
    → ((n : ℕ) → alignment i ≡ Some n → as_word (value_in w (declared_name declared) [] (place_term i ts)) % 2 ^ n ≡ 0) → IsFalse (traps i s))
    (words : List ℕ) (is : List Instr) (code : IsCode words is) (few : length words < 2 ^ 29)
    (first : HaveValues w (declared_name declared) terms_at_entry (entry_state w))
    (goal : GoalTree) (places : List At)
    (low_inputs : All (λ (i : InputReg). i.reg < 31) goal.inputs) (low_places : All (λ (p : At). p.reg < 31) places)
    (g : Graph Op) (V : ℕ → Value) (true_in : IsTrueGraph w (declared_name declared) V g)
    (same : Same g goal is places) where
  abbrev val : Tree Op → Value
  val t = value_in w (declared_name declared) [] t

  one_is : (t u : Tree Op) → HaveSameClass g t u → val t ≡ val u
  one_is t u h = one_value w (declared_name declared) V g true_in t u h

  abbrev at_place : ℕ → MachineState
  at_place k = after k is (entry_state w)

  abbrev P : Part → Type 0
  P part = IsSamePart g goal is places part

  abbrev late : List Part
  late = map parts.Set (word_targets_from 0 goal.sets) ++ parts.Memory ∷ []

  of_goal : All P (goal_parts goal)
  of_goal = all_behind P (map parts.Trap (places_from 0 is)) (goal_parts goal) same

  late_parts : All P late
  late_parts = All-tail P parts.Exit late (All-tail P parts.Guard (parts.Exit ∷ late) of_goal)

  guard_part : P parts.Guard
  guard_part = All-head P parts.Guard (parts.Exit ∷ late) of_goal

  exit_part : P parts.Exit
  exit_part = All-head P parts.Exit late (All-tail P parts.Guard (parts.Exit ∷ late) of_goal)

  -- ---- no instruction traps

  rows_true : AreTrueRows w V (rows_of g)
  rows_true = All-map (λ (r : LaunchRow). IsTrueRow w V r) (λ (r : Row Op). plain_row r.class r.op r.operands) g.rows (λ k d l. (declared_name declared, true_in.rows k d l))

  multiple_is : (t : Tree Op) (n : ℕ) → IsMultipleTerm g t n → as_word (val t) % 2 ^ n ≡ 0
  multiple_is t n h = lesser_power (as_word (val t)) n h.power h.enough (few_shown (rows_of g) h.class h.power h.shown)
      (subst (λ v. as_word v % 2 ^ h.power ≡ 0) (class_value w (declared_name declared) V g true_in h.is) (multiples (rows_of g) w V h.class h.power rows_true h.shown))

  safe : (k : ℕ) (i : Instr) (s : MachineState) → slice_get is k ≡ Some i → HaveValues w (declared_name declared) (terms_after k is) s → IsFalse (traps i s)
  safe k i s there values =
      let part : P (parts.Trap k) = trap_part P 0 is (all_before P (map parts.Trap (places_from 0 is)) (goal_parts goal) same) k k i there (omega arith) in
      unless (terms_after k is) s values i (well_formed_at is k i code.well_formed there) (λ n e. multiple_is (place_term i (terms_after k is)) n (part i there n e))

  memory_part : P parts.Memory
  memory_part = All-head P parts.Memory [] (all_behind P (map parts.Set (word_targets_from 0 goal.sets)) (parts.Memory ∷ []) late_parts)

  set_at : (i : ℕ) (t : TargetTree) → slice_get goal.sets i ≡ Some t → is_memory t ≡ false → P (parts.Set i)
  set_at i t there no_memory =
      set_part P 0 goal.sets (all_before P (map parts.Set (word_targets_from 0 goal.sets)) (parts.Memory ∷ []) late_parts) i i t there no_memory (omega arith)

  target_value : (o : Option TargetTree) → val (option_map_or (λ (t : TargetTree). t.value) o entry_term) ≡ option_map_or (λ (t : TargetTree). goal_value declared w t.value) o (memory w.memory_at_entry)
  target_value None = refl
  target_value (Some t) = refl

  place_low : (i reg : ℕ) → Contains places (record { set = i; reg = reg }) → reg < 32
  place_low i reg named = (let k = All-contains (λ (p : At). p.reg < 31) places (record { set = i; reg = reg }) low_places named in omega (arith, k))

  -- no branch is taken
  fall_case : NoneTaken last sums stays steps w (declared_name declared) one words is code few first safe (length is) → FallsWith declared goal w words places (new_memory declared w goal.sets)
  fall_case none =
      let f = falls last sums stays steps w (declared_name declared) one words is code few first safe none in
      record {
        state = at_place (length words);
        runs = f.0;
        targets = λ i reg t there no_memory named.
            sym (f.1.registers reg (place_low i reg named)) ∙ one_is ((terms_at_end is).registers reg) t.value (set_at i t there no_memory t reg there named);
        memory_is = sym f.1.memory_is ∙ one_is (terms_at_end is).memory (memory_target_term goal.sets) memory_part ∙ target_value (find is_memory goal.sets);
      }

  -- the branch is taken
  module _ (at ra : ℕ) (branch : IsBranchAt is at ra) where
    here : IsAt last sums stays steps w (declared_name declared) one words is code few first safe at (at_place at)
    here = at_branch last sums stays steps w (declared_name declared) one words is code few first safe at ra branch

    exit_case : slice_index (at_place at).registers ra ≡ 0 → ExitsUnchanged goal w words
    exit_case zero_word =
        let k = exit_part at ra branch in
        record {
          state = at_place (length words);
          runs = leaves last sums stays steps w (declared_name declared) one words is code few first safe at ra branch zero_word;
          memory_is =
              same_memory last sums stays steps w (declared_name declared) one words is code few first safe at ra branch zero_word
              ∙ same_stored (at_place at).memory w.memory_at_entry (sym here.values.memory_is ∙ one_is (terms_after at is).memory entry_term k.memory_is);
          inputs = λ n d l.
              let i = get_or goal.inputs n d in
              let low = low_inputs n d l in
              ap (λ rs. slice_index rs i.reg) (same_registers last sums stays steps w (declared_name declared) one words is code few first safe at ra branch zero_word)
              ∙ same_word (slice_index (at_place at).registers i.reg) (slice_index w.registers i.reg)
              (sym (here.values.registers i.reg (omega (arith, low))) ∙ one_is ((terms_after at is).registers i.reg) (input_term i.reg) (k.inputs_are n d l));
        }

    -- the register of the branch has the guard's value
    module _ (guard : Tree Op) (equal : HaveSameClass g ((terms_after at is).registers ra) guard) where
      abbrev tested : ℕ
      tested = slice_index (at_place at).registers ra

      guard_value : val guard ≡ word tested
      guard_value =
          sym (one_is ((terms_after at is).registers ra) guard equal)
          ∙ here.values.registers ra (branch_register last sums stays steps w (declared_name declared) one words is code few first safe at ra branch)

      abbrev said : Bool → Outcome
      said b = if b then exit else fall (new_words declared w goal.sets) (new_memory declared w goal.sets)

      untaken : tested ≢ 0 → NoneTaken last sums stays steps w (declared_name declared) one words is code few first safe (length is)
      untaken not_zero b rb lt other =
          let e : b ≡ at = code.one_branch b at rb ra other branch in
          let f : rb ≡ ra = same_register is b at rb ra other branch e in
          λ z. not_zero (sym (ap (λ n. slice_index (at_place n).registers rb) e ∙ ap (slice_index (at_place at).registers) f) ∙ z)

      by_branch : HasOutcome declared goal w words places (said (is_left declared w (Some guard)))
      by_branch = elim (eqb_tells tested 0) [
        | inl k ↦ subst (HasOutcome declared goal w words places) (sym (ap said (ap is_zero guard_value ∙ k.0))) (exit_case k.1)
        | inr k ↦ subst (HasOutcome declared goal w words places) (sym (ap said (ap is_zero guard_value ∙ k.0))) (fall_case (untaken k.1))
      ]

  by_guard : (o : Option (Tree Op)) → IsSameGuard g is o → HasOutcome declared goal w words places (if is_left declared w o then exit else fall (new_words declared w goal.sets) (new_memory declared w goal.sets))
  by_guard None none = fall_case (λ at ra lt branch. absurd (none at ra branch))
  by_guard (Some guard) b = by_branch b.at b.register b.branch guard b.one

  pub decided : HasOutcome declared goal w words places (if is_left declared w goal.guard then exit else fall (new_words declared w goal.sets) (new_memory declared w goal.sets))
  decided = by_guard goal.guard guard_part

pub inputs_low : (inputs : List InputReg) (pool : List ℕ) → All (λ r. r < 31) (map (λ (i : InputReg). i.reg) inputs ++ pool) → All (λ (i : InputReg). i.reg < 31) inputs
inputs_low [] pool h = All-nil (λ (i : InputReg). i.reg < 31)
inputs_low (i ∷ is) pool h =
    All-cons (λ (i : InputReg). i.reg < 31) i is (All-head (λ r. r < 31) i.reg (map (λ (i : InputReg). i.reg) is ++ pool) h)
    (inputs_low is pool (All-tail (λ r. r < 31) i.reg (map (λ (i : InputReg). i.reg) is ++ pool) h))
