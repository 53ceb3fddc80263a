-- The words of a schedule for the goal of a lift leave what the given words leave.
use Rattle.std.proofs.Common.{◌≡◌, ℕ, zero, suc, ◌<◌, List, [], ◌∷◌, ◌++◌, length, map, refl, sym, ◌∙◌, ap, subst, arith, Bool, true, false, cond, Option, Some, None}
use Rattle.std.specs.Prelude.{All, Contains, codes, filter, slice_index, slice_index_or, ◌==◌, ◌&&◌, ◌||◌, not, unwrap_or}
use Rattle.std.specs.List.{AllZip, list_any}
use Rattle.std.proofs.lemmas.List.Elements.{All-contains, All-cons, All-map, All-nil, Contains-append_right}
use Rattle.std.proofs.lemmas.Option.{none-some, same_Some, slice_get-get_or}
use Rattle.word_ops.specs.Memory.{Memory}
use Rattle.word_ops.specs.Worlds.{World, memory, word}
use Rattle.alpha_machine.specs.States.{MachineState}
use Rattle.goal_meaning.specs.Expanded.{expanded, expanded_target, let_terms}
use Rattle.goal_meaning.specs.Holds.{goal_value}
use Rattle.goal_meaning.specs.Outcomes.{is_memory, new_memory, new_value, new_words}
use Rattle.goal_meaning.specs.Rules.{has_register}
use Rattle.goal_meaning.specs.Views.{TargetTree}
use Rattle.proc_goal.specs.Goals.{memory_kept, sets_or_memory}
use Rattle.cycle_encoding.proofs.Members.{All-from_members, filter-in, filter-out}
use Rattle.code_lift.specs.Lifted.{Lifting, first_numbers, goal_of_lift, has_let, inputs_read, is_spare, lifted, memory_sets, register_set, sets_of, spare_registers}
use Rattle.code_lift.specs.Promises.{DoesAsLifted}
use Rattle.code_lift.specs.Views.{LiftTree}
use Rattle.code_lift.specs.WellFormed.{IsLift, HasPool}
use Rattle.denali_run.specs.GoalOutcomes.{EndsWith, HasOwnValue, IsPinOf}
use Rattle.register_assign.specs.declared.listings.Where.{Where}
use Rattle.code_improve.specs.Improved.{LeavesTheSame}

same_word : (m n : ℕ) → word m ≡ word n → m ≡ n
same_word m n e = cc

same_memory : (m n : Memory) → memory m ≡ memory n → m ≡ n
same_memory m n e = cc

or_left : (a b : Bool) → a ≡ true → (a || b) ≡ true
or_left true b e = refl
or_left false b e = absurd cc

or_right : (a b : Bool) → b ≡ true → (a || b) ≡ true
or_right true b e = refl
or_right false b e = e

same_test : (m n : ℕ) → m ≡ n → (m == n) ≡ true
same_test m n e = grind (arith, e)

-- a register that is spare isn't one that counts
spare_out : (a b c : Bool) → c ≡ true → (a && (not b && not c)) ≡ true → ⊥
spare_out true true true e h = cc
spare_out true false true e h = cc
spare_out false b true e h = cc
spare_out a b false e h = cc

in_map : {X Y : Type 0} (f : X → Y) (xs : List X) (x : X) → Contains xs x → Contains (map f xs) (f x)
in_map {X = X} f [] x (k, lt, e) = (let none : length {A = X} [] ≡ 0 = refl in absurd (omega (arith, none)))
in_map f (y ∷ ys) x (zero, lt, e) = (0, omega arith, ap f e)
in_map f (y ∷ ys) x (suc k, lt, e) =
    let below : k < length ys = (let l = lt in omega arith) in
    let more = in_map f ys x (k, below, e) in
    (suc more.0, (let l = more.1 in omega arith), more.2)

module _ (lift : LiftTree) (w : World) where
  abbrev s : Lifting
  s = lifted lift.words

  abbrev targets : List TargetTree
  targets = (expanded (goal_of_lift lift)).sets

  abbrev grown : TargetTree → TargetTree
  grown t = expanded_target (let_terms (goal_of_lift lift)) t

  abbrev is_word : TargetTree → Bool
  is_word t = not (is_memory t)

  -- ---- pins of the printed words

  module _ (m : MachineState) where
    abbrev IsRight : TargetTree → Type 0
    IsRight t = is_memory t ≡ false → (r : ℕ) → t.pin ≡ Some r → word (slice_index m.registers r) ≡ goal_value [] w t.value

    abbrev AreRight : List TargetTree → Type 0
    AreRight ts = AllZip (HasOwnValue m) ts (map (new_value [] w) ts)

    one_more : (b : Bool) (x : TargetTree) (xs : List TargetTree) → is_word x ≡ b
        → AreRight (cond b (x ∷ filter is_word xs) (filter is_word xs))
        → (AreRight (filter is_word xs) → All IsRight xs) → All IsRight (x ∷ xs)
    one_more true x xs e z more = All-cons IsRight x xs (λ word_set r pin. z.0 r pin) (more z.1)
    one_more false x xs e z more =
        All-cons IsRight x xs (λ word_set r pin. (let wrong : true ≡ false = sym (ap not word_set) ∙ e in absurd cc)) (more z)

    all_right : (ts : List TargetTree) → AreRight (filter is_word ts) → All IsRight ts
    all_right [] z = All-nil IsRight
    all_right (x ∷ xs) z = one_more (is_word x) x xs refl z (all_right xs)

  -- ---- a register that counts and that the words write has a target

  in_sets : (r : ℕ) → Contains lift.out r → has_let s r ≡ true → Contains (sets_of s lift.out) (register_set s r)
  in_sets r there wrote =
      Contains-append_right (memory_sets s.memory) (map (register_set s) (filter (has_let s) lift.out)) (register_set s r)
      (in_map (register_set s) (filter (has_let s) lift.out) r (filter-in (has_let s) lift.out r there wrote))

  not_empty : (ts : List TargetTree) (t : TargetTree) → Contains ts t → Contains (sets_or_memory ts) t
  not_empty [] t (k, lt, e) = (let none : length {A = TargetTree} [] ≡ 0 = refl in absurd (omega (arith, none)))
  not_empty (x ∷ xs) t h = h

  has_target : (r : ℕ) → Contains lift.out r → has_let s r ≡ true → Contains targets (grown (register_set s r))
  has_target r there wrote =
      in_map grown (sets_or_memory (sets_of s lift.out)) (register_set s r)
      (not_empty (sets_of s lift.out) (register_set s r) (in_sets r there wrote))

  -- ---- and a pin is such a register

  abbrev PinIsWritten : TargetTree → Type 0
  PinIsWritten t = (r : ℕ) → t.pin ≡ Some r → has_let s r ≡ true

  registers_written : (rs : List ℕ) → ((r : ℕ) → Contains rs r → has_let s r ≡ true) → All PinIsWritten (map (register_set s) rs)
  registers_written [] h = All-nil PinIsWritten
  registers_written (r ∷ rs) h =
      All-cons PinIsWritten (register_set s r) (map (register_set s) rs)
      (λ q pin. subst (λ n. has_let s n ≡ true) (same_Some r q pin) (h r (0, omega arith, refl)))
      (registers_written rs (λ q there. h q (suc there.0, (let l = there.1 in omega arith), there.2)))

  memory_written : (o : Option ℕ) (ts : List TargetTree) → All PinIsWritten ts → All PinIsWritten (memory_sets o ++ ts)
  memory_written None ts h = h
  memory_written (Some n) ts h =
      All-cons PinIsWritten (record { name = codes "M"; value = _; pin = None }) ts (λ r pin. absurd (none-some r pin)) h

  or_memory_written : (ts : List TargetTree) → All PinIsWritten ts → All PinIsWritten (sets_or_memory ts)
  or_memory_written [] h = All-cons PinIsWritten memory_kept [] (λ r pin. absurd (none-some r pin)) (All-nil PinIsWritten)
  or_memory_written (t ∷ ts) h = h

  sets_written : All PinIsWritten (goal_of_lift lift).sets
  sets_written =
      or_memory_written (sets_of s lift.out)
      (memory_written s.memory (map (register_set s) (filter (has_let s) lift.out))
      (registers_written (filter (has_let s) lift.out) (λ r there. (filter-out (has_let s) lift.out r there).1)))

  all_written : All PinIsWritten targets
  all_written = All-map PinIsWritten grown (goal_of_lift lift).sets sets_written

  pin_written : (r : ℕ) → IsPinOf (expanded (goal_of_lift lift)) r → has_let s r ≡ true
  pin_written r (k, t, lt, e, pin) = subst PinIsWritten e (all_written k t lt) r pin

  -- ---- a register that counts isn't in the pool

  member : (ns : List ℕ) (n : ℕ) → Contains ns n → has_register ns n ≡ true
  member [] n (k, lt, e) = (let none : length {A = ℕ} [] ≡ 0 = refl in absurd (omega (arith, none)))
  member (m ∷ ms) n (zero, lt, e) = or_left (m == n) (list_any (λ k. k == n) ms) (same_test m n e)
  member (m ∷ ms) n (suc k, lt, e) =
      or_right (m == n) (list_any (λ k. k == n) ms) (member ms n (k, (let l = lt in omega arith), e))

  in_both : (ms ns : List ℕ) (n : ℕ) → Contains ns n → has_register (ms ++ ns) n ≡ true
  in_both ms ns n h = member (ms ++ ns) n (Contains-append_right ms ns n h)

  not_spare : (r : ℕ) → Contains lift.out r → is_spare s lift.out r ≡ true → ⊥
  not_spare r there spare = spare_out (has_let s r) (slice_index_or s.is_read r false) (has_register lift.out r) (member lift.out r there) spare

  not_pooled : (o : Option (List ℕ)) → HasPool lift o → (r : ℕ) → Contains lift.out r
      → ¬ Contains (unwrap_or o (spare_registers s lift.out)) r
  not_pooled None h r there pooled =
      not_spare r there (filter-out (is_spare s lift.out) (first_numbers 31) r pooled).1
  not_pooled (Some pool) h r there pooled =
      let apart : has_register (inputs_read s ++ lift.out) r ≡ false =
      All-contains (λ q. has_register (inputs_read s ++ lift.out) q ≡ false) pool r h.apart pooled in
      let wrong : true ≡ false = sym (in_both (inputs_read s) lift.out r there) ∙ apart in absurd cc

  -- ---- what both words leave

  module _ (is_lift : IsLift lift) (words : List ℕ) (wheres : List Where) (given : DoesAsLifted lift w)
      (done : EndsWith (expanded (goal_of_lift lift)) w words wheres (new_words [] w targets) (new_memory [] w targets)) where
    written_same : (r : ℕ) → Contains lift.out r → has_let s r ≡ true
        → slice_index done.state.registers r ≡ slice_index given.state.registers r
    written_same r there wrote =
        let t : TargetTree = grown (register_set s r) in
        let found = has_target r there wrote in
        let one : word (slice_index done.state.registers r) ≡ goal_value [] w (grown (register_set s r)).value =
        All-contains (IsRight done.state) targets (grown (register_set s r)) (all_right done.state targets done.pins) found refl r refl in
        let other : word (slice_index given.state.registers r) ≡ goal_value [] w (grown (register_set s r)).value =
        given.targets found.0 r (grown (register_set s r)) (slice_get-get_or targets found.0 (grown (register_set s r)) found.1 ∙ ap Some found.2) refl in
        same_word (slice_index done.state.registers r) (slice_index given.state.registers r) (one ∙ sym other)

    kept : (r : ℕ) → has_let s r ≡ false → ¬ Contains (goal_of_lift lift).pool r
        → slice_index done.state.registers r ≡ slice_index w.registers r
    kept r unwritten out_of_pool =
        done.others r out_of_pool (λ pin. (let wrong : true ≡ false = sym (pin_written r pin) ∙ unwritten in absurd cc))

    counted_same : (b : Bool) (r : ℕ) → r < 31 → Contains lift.out r → has_let s r ≡ b
        → slice_index done.state.registers r ≡ slice_index given.state.registers r
    counted_same true r low there wrote = written_same r there wrote
    counted_same false r low there unwritten =
        kept r unwritten (not_pooled lift.pool is_lift.rules.pool r there) ∙ sym (given.others r low unwritten)

    pub the_same : LeavesTheSame lift words w
    the_same = record {
      given = given.state;
      given_runs = given.runs;
      state = done.state;
      runs = done.runs;
      memory_is = same_memory done.state.memory given.state.memory (done.memory_is ∙ sym given.memory_is);
      registers = All-from_members (λ r. slice_index done.state.registers r ≡ slice_index given.state.registers r) lift.out
          (λ r there. counted_same (has_let s r) r (All-contains (λ q. q < 31) lift.out r is_lift.rules.out.low there) there refl);
      others = kept;
    }
