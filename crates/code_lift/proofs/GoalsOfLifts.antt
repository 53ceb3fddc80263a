-- The goals of well-formed lifts are a well-formed input.
use Rattle.std.proofs.Common.{◌≡◌, ◌≢◌, ℕ, zero, suc, ◌+◌, ◌*◌, ◌<◌, ◌≤◌, ◌^◌, ◌&&◌, ◌||◌, ◌==◌, ◌++◌, cond, if◌then◌else◌, Bool, true, false, Option, None, Some, List, [], ◌∷◌, length, map, get_or, refl, sym, ap, ap₂, ◌∙◌, subst, arith, bytes_eq, codes}
use Rattle.std.specs.Prelude.{All, AllPairs, Contains, IfSome, filter, filter_map, not, slice_index_or, unwrap_or}
use Rattle.std.proofs.lemmas.Bool.{and_parts}
use Rattle.std.proofs.lemmas.Bool.Decides.{Decides-eqb}
use Rattle.std.proofs.lemmas.List.{length-append, length-map, map-append}
use Rattle.std.proofs.lemmas.List.Elements.{All-append, All-cons, All-filter, All-head, All-map, All-nil, All-tail, All-weaker, Contains-append_left, Contains-append_right, filter_map-append, filter_passes}
use Rattle.std.proofs.lemmas.List.Folds.{list_any-append}
use Rattle.std.proofs.lemmas.List.Kept.{AllPairs-cons, AllPairs-filter}
use Rattle.std.proofs.lemmas.List.Quantifiers.{all_pairs_push}
use Rattle.forms.specs.Printing.{Plain, levels, most_levels, plains_from}
use Rattle.machine_table.specs.Printing.{slot_name_plain, slot_plain, table_plain, use_plain}
use Rattle.machine_table.specs.declared.tables.Table.{Table}
use Rattle.machine_table.specs.declared.tables.Use.{Use}
use Rattle.text_core.specs.Names.{IsName, is_among}
use Rattle.word_ops.specs.declared.sorts.Sort.TheVariants as sorts
use Rattle.word_terms.specs.Tree.{variable}
use Rattle.alpha_encode.specs.Decoded.{decoded}
use Rattle.alpha_encode.specs.Formats.{IsWellFormed}
use Rattle.alpha_encode.specs.declared.instructions.Instr.{Instr}
use Rattle.goal_meaning.specs.Expanded.{let_names}
use Rattle.goal_meaning.specs.InputForms.{Naming, assume_plain, goal_naming, goal_plain, input_plain, input_plains, let_plain, machine_plains, pin_plains, pool_plain, register_plain, target_plain, term_plain}
use Rattle.goal_meaning.specs.Names.{IsNamedGoal, is_reserved, names_of_declared}
use Rattle.goal_meaning.specs.Rules.{KeepsRules, has_register, names_of_inputs, pins_of}
use Rattle.goal_meaning.specs.Views.{GoalTree, LetTree, TargetTree}
use Rattle.goal_meaning.specs.WellFormed.{IsAssume, IsGoal, IsInput, IsTarget, IsTermOver, input_registers, operators_of_goal, sum_over}
use Rattle.goal_meaning.specs.declared.goals.InputReg.{InputReg}
use Rattle.goal_reader.proofs.Different.{or_left, or_right, pairs_map, pairs_nil}
use Rattle.goal_reader.proofs.Names.{not_true}
use Rattle.proc_goal.specs.Goals.{memory_kept, sets_or_memory}
use Rattle.code_lift.specs.Goals.{input_of_lifts}
use Rattle.code_lift.specs.Lifted.{Lifting, assume_of, at_start, counts, first_numbers, goal_of_lift, has_let, input_named, inputs_read, is_let, is_spare, latest_of, let_name, let_of, lift_step, lifted, lifted_by, lifted_from, memory_sets, register_name, register_set, register_term, sets_of, spare_registers, value_term}
use Rattle.code_lift.specs.Views.{LiftTree, LiftsTree}
use Rattle.code_lift.specs.WellFormed.{AreLifts, HasPool, IsLift, IsPoolOf, taken_by}
use Rattle.code_lift.specs.declared.lifting.Value.{Value}
use Rattle.code_lift.specs.declared.lifting.Value.TheVariants.{Entry, Let, Zero}
use Rattle.code_lift.proofs.GoalNames.{let_free, let_named, let_once, memory_named, register_free, register_named, register_no_let, register_no_memory, register_once}
use Rattle.code_lift.proofs.GoalSizes.{assumes_deep, few_from, few_in_assumes, few_in_sets, lets_deep, operators_in_lets}
use Rattle.code_lift.proofs.GoalTerms.{IsMade, IsOfInputs, assume_made, known_sorts, made_from, start_made, value_made}
use Rattle.code_lift.proofs.LiftedRuns.{each_instr}
use Rattle.code_lift.proofs.WordByWord.{as_many, small_powers}

-- ---- lists
abbrev Apart : ℕ → ℕ → Type 0
Apart a b = a ≢ b

module _ {X : Type 0} (R : X → X → Type 0) where
  pairs_head : (x : X) (xs : List X) → AllPairs R (x ∷ xs) → All (R x) xs
  pairs_head x xs h k d l = h 0 (suc k) d (omega arith) (omega (arith, l))

  pairs_tail : (x : X) (xs : List X) → AllPairs R (x ∷ xs) → AllPairs R xs
  pairs_tail x xs h i j d l m = h (suc i) (suc j) d (omega (arith, l)) (omega (arith, m))

  pairs_join : (xs ys : List X) → AllPairs R xs → AllPairs R ys → All (λ x. All (R x) ys) xs → AllPairs R (xs ++ ys)
  pairs_join [] ys a b across = b
  pairs_join (x ∷ xs) ys a b across =
      AllPairs-cons R x (xs ++ ys) (All-append (R x) xs ys (pairs_head x xs a) (All-head (λ z. All (R z) ys) x xs across))
      (pairs_join xs ys (pairs_tail x xs a) b (All-tail (λ z. All (R z) ys) x xs across))

differs : (a b : ℕ) → (a == b) ≡ false → a ≢ b
differs a b e same = let f : true ≡ false = sym ((Decides-eqb a b).1 same) ∙ e in cc

apart_from : (ys : List ℕ) (x : ℕ) → has_register ys x ≡ false → All (Apart x) ys
apart_from [] x e = All-nil (Apart x)
apart_from (y ∷ ys) x e =
    All-cons (Apart x) y ys (λ same. differs y x (or_left (y == x) (has_register ys x) e) (sym same)) (apart_from ys x (or_right (y == x) (has_register ys x) e))

each_apart : (xs ys : List ℕ) → All (λ y. has_register xs y ≡ false) ys → All (λ x. All (Apart x) ys) xs
each_apart [] ys h = All-nil (λ x. All (Apart x) ys)
each_apart (x ∷ xs) ys h =
    All-cons (λ z. All (Apart z) ys) x xs
    (All-weaker (λ y. has_register (x ∷ xs) y ≡ false) (Apart x) (λ y e. differs x y (or_left (x == y) (has_register xs y) e)) ys h)
    (each_apart xs ys (All-weaker (λ y. has_register (x ∷ xs) y ≡ false) (λ y. has_register xs y ≡ false) (λ y e. or_right (x == y) (has_register xs y) e) ys h))

fewer_has : (p : ℕ → Bool) (xs : List ℕ) (r : ℕ) → has_register xs r ≡ false → has_register (filter p xs) r ≡ false
fewer_has p [] r e = refl
fewer_has p (x ∷ xs) r e = by (p x) (fewer_has p xs r (or_right (x == r) (has_register xs r) e))
  where
    by : (b : Bool) → has_register (filter p xs) r ≡ false → has_register (cond b (x ∷ filter p xs) (filter p xs)) r ≡ false
    by true rest = ap₂ (λ a b. a || b) (or_left (x == r) (has_register xs r) e) rest
    by false rest = rest

-- what is kept passes
kept_passes : (p : ℕ → Bool) (xs : List ℕ) (r : ℕ) → p r ≡ false → has_register (filter p xs) r ≡ false
kept_passes p [] r e = refl
kept_passes p (x ∷ xs) r e = by (p x) refl (kept_passes p xs r e)
  where
    by : (b : Bool) → p x ≡ b → has_register (filter p xs) r ≡ false → has_register (cond b (x ∷ filter p xs) (filter p xs)) r ≡ false
    by true t rest = ap₂ (λ a b. a || b) (not_true (x == r) (λ same. (let f : true ≡ false = sym t ∙ ap p ((Decides-eqb x r).0 same) ∙ e in cc))) rest
    by false f rest = rest

-- ---- the first numbers
first_low : (n : ℕ) → All (λ r. r < n) (first_numbers n)
first_low zero = All-nil (λ r. r < 0)
first_low (suc n) =
    All-append (λ r. r < suc n) (first_numbers n) (n ∷ []) (All-weaker (λ r. r < n) (λ r. r < suc n) (λ r l. omega (arith, l)) (first_numbers n) (first_low n))
    (All-cons (λ r. r < suc n) n [] (omega arith) (All-nil (λ r. r < suc n)))

first_apart : (n : ℕ) → AllPairs Apart (first_numbers n)
first_apart zero = pairs_nil Apart
first_apart (suc n) = all_pairs_push Apart (first_numbers n) n (first_apart n) (λ k d l same. (let low = first_low n k d l in omega (arith, low, same)))

first_has : (n r : ℕ) → r < n → Contains (first_numbers n) r
first_has zero r l = absurd (omega (arith, l))
first_has (suc n) r l = by (r == n) refl (first_has n r)
  where
    last : Contains (n ∷ []) n
    last = (0, omega arith, refl)

    by : (b : Bool) → (r == n) ≡ b → (r < n → Contains (first_numbers n) r) → Contains (first_numbers n ++ n ∷ []) r
    by true t before = subst (Contains (first_numbers n ++ n ∷ [])) (sym ((Decides-eqb r n).0 t)) (Contains-append_right (first_numbers n) (n ∷ []) n last)
    by false f before = (let other = differs r n f in Contains-append_left (first_numbers n) (n ∷ []) r (before (omega (arith, l, other))))

kept_has : (p : ℕ → Bool) (xs : List ℕ) (r : ℕ) → p r ≡ true → Contains xs r → Contains (filter p xs) r
kept_has p [] r t c = (let l = c.1 in absurd (omega (arith, l)))
kept_has p (x ∷ xs) r t (zero, l, same) = by (p x) (ap p same ∙ t)
  where
    by : (b : Bool) → b ≡ true → Contains (cond b (x ∷ filter p xs) (filter p xs)) r
    by true e = (0, omega arith, same)
    by false e = cc
kept_has p (x ∷ xs) r t (suc k, l, same) = by (p x) (kept_has p xs r t (k, omega (arith, l), same))
  where
    by : (b : Bool) → Contains (filter p xs) r → Contains (cond b (x ∷ filter p xs) (filter p xs)) r
    by true c = (let low = c.1 in (suc c.0, omega (arith, low), c.2))
    by false c = c

-- ---- names of lets
record AreNumbered (lets : List LetTree) (at : ℕ) : Type 0 where
  pub indexes : List ℕ
  pub names : let_names lets ≡ map let_name indexes
  pub low : All (λ k. k < at) indexes
  pub apart : AllPairs Apart indexes

step_numbered : (at : ℕ) (i : Instr) (s : Lifting) → AreNumbered s.lets at → AreNumbered (lift_step at i s).lets (at + 1)
step_numbered at i s h = by (counts i)
  where
    more : All (λ k. k < at + 1) h.indexes
    more = All-weaker (λ k. k < at) (λ k. k < at + 1) (λ k l. omega (arith, l)) h.indexes h.low

    by : (b : Bool) → AreNumbered (if b then lifted_by at i s else s).lets (at + 1)
    by true = record {
      indexes = h.indexes ++ at ∷ [];
      names = map-append (λ (l : LetTree). l.name) s.lets (let_of at i s ∷ []) ∙ ap (λ ns. ns ++ let_name at ∷ []) h.names ∙ sym (map-append let_name h.indexes (at ∷ []));
      low = All-append (λ k. k < at + 1) h.indexes (at ∷ []) more (All-cons (λ k. k < at + 1) at [] (omega arith) (All-nil (λ k. k < at + 1)));
      apart = all_pairs_push Apart h.indexes at h.apart (λ k d l same. (let low = h.low k d l in omega (arith, low, same)));
    }
    by false = record { indexes = h.indexes; names = h.names; low = more; apart = h.apart }

from_numbered : (at : ℕ) (is : List Instr) (s : Lifting) → AreNumbered s.lets at → AreNumbered (lifted_from at is s).lets (at + length is)
from_numbered at [] s h = subst (AreNumbered s.lets) (let e : at ≡ at + 0 = omega arith in e) h
from_numbered at (i ∷ is) s h =
    subst (AreNumbered (lifted_from (at + 1) is (lift_step at i s)).lets) (let e : at + 1 + length is ≡ at + suc (length is) = omega arith in e)
    (from_numbered (at + 1) is (lift_step at i s) (step_numbered at i s h))

-- ---- sets
all_sets : (Q : TargetTree → Type 0) → Q memory_kept → (ts : List TargetTree) → All Q ts → All Q (sets_or_memory ts)
all_sets Q m [] h = All-cons Q memory_kept [] m (All-nil Q)
all_sets Q m (t ∷ ts) h = h

some_set : (ts : List TargetTree) → 0 < length (sets_or_memory ts)
some_set [] = omega arith
some_set (t ∷ ts) = omega arith

few_or_memory : (ts : List TargetTree) → length ts ≤ 16 → length (sets_or_memory ts) ≤ 16
few_or_memory [] l = omega arith
few_or_memory (t ∷ ts) l = l

pins_kept : (ts : List TargetTree) → pins_of (sets_or_memory ts) ≡ pins_of ts
pins_kept [] = refl
pins_kept (t ∷ ts) = refl

no_pins : (o : Option ℕ) → pins_of (memory_sets o) ≡ []
no_pins None = refl
no_pins (Some n) = refl

register_pins : (s : Lifting) (rs : List ℕ) → pins_of (map (register_set s) rs) ≡ rs
register_pins s [] = refl
register_pins s (r ∷ rs) = ap (λ qs. r ∷ qs) (register_pins s rs)

all_pins : (s : Lifting) (out : List ℕ) → pins_of (sets_or_memory (sets_of s out)) ≡ filter (has_let s) out
all_pins s out =
    pins_kept (sets_of s out)
    ∙ filter_map-append (λ (t : TargetTree). t.pin) (memory_sets s.memory) (map (register_set s) (filter (has_let s) out))
    ∙ ap₂ (λ xs ys. xs ++ ys) (no_pins s.memory) (register_pins s (filter (has_let s) out))

abbrev Other : TargetTree → TargetTree → Type 0
Other a b = a.name ≢ b.name

low_is : (r : ℕ) → r < 31 → r < 2 ^ 64
low_is r l = omega (arith, l)

names_apart : (rs : List ℕ) → All (λ r. r < 31) rs → AllPairs Apart rs → AllPairs (λ a b. register_name a ≢ register_name b) rs
names_apart rs low apart i j d l m same =
    apart i j d l m (register_once (get_or rs i d) (get_or rs j d) (low_is (get_or rs i d) (low i d (omega (arith, l, m)))) (low_is (get_or rs j d) (low j d m)) same)

targets_apart : (s : Lifting) (o : Option ℕ) (rs : List ℕ) → All (λ r. r < 31) rs → AllPairs Apart rs → AllPairs Other (sets_or_memory (memory_sets o ++ map (register_set s) rs))
targets_apart s o rs low apart = by o
  where
    registers : AllPairs Other (map (register_set s) rs)
    registers = pairs_map Other (register_set s) rs (names_apart rs low apart)

    or_memory : (ts : List TargetTree) → AllPairs Other ts → AllPairs Other (sets_or_memory ts)
    or_memory [] h = AllPairs-cons Other memory_kept [] (All-nil (Other memory_kept)) (pairs_nil Other)
    or_memory (t ∷ ts) h = h

    by : (m : Option ℕ) → AllPairs Other (sets_or_memory (memory_sets m ++ map (register_set s) rs))
    by None = or_memory (map (register_set s) rs) registers
    by (Some n) = (
        let first : TargetTree = record { name = codes "M"; value = variable n; pin = None } in
        AllPairs-cons Other first (map (register_set s) rs)
        (All-map (Other first) (register_set s) rs (λ k d l same. register_no_memory (get_or rs k d) (sym same))) registers)

-- ---- one goal
regs_back : (rs : List ℕ) → input_registers (map input_named rs) ≡ rs
regs_back [] = refl
regs_back (r ∷ rs) = ap (λ qs. r ∷ qs) (regs_back rs)

names_back : (rs : List ℕ) → names_of_inputs (map input_named rs) ≡ map register_name rs
names_back [] = refl
names_back (r ∷ rs) = ap (λ ns. register_name r ∷ ns) (names_back rs)

module _ (forth : (n : ℕ) (i : Instr) → n < 2 ^ 32 → decoded n ≡ Some i → IsWellFormed i) (lift : LiftTree) (is : IsLift lift) where
  abbrev instrs : List Instr
  instrs = filter_map decoded lift.words

  abbrev s : Lifting
  s = lifted lift.words

  abbrev regs : List ℕ
  regs = inputs_read s

  abbrev goal : GoalTree
  goal = goal_of_lift lift

  abbrev flag : ℕ → Bool
  flag r = slice_index_or s.is_read r false

  well_formed : All IsWellFormed instrs
  well_formed = each_instr IsWellFormed lift.words (λ n i h e. forth n i h.low e) is.rules.words

  few_instrs : length instrs ≤ 256
  few_instrs = (let many = as_many lift.words is.rules.words in let few = is.rules.few_words in omega (arith, many, few))

  few_lets : length s.lets ≤ 256
  few_lets = (let many = few_from 0 instrs at_start in let few = few_instrs in omega (arith, many, few))

  regs_low : All (λ r. r < 31) regs
  regs_low = All-filter flag (λ r. r < 31) (first_numbers 31) (first_low 31)

  regs_apart : AllPairs Apart regs
  regs_apart = AllPairs-filter Apart flag (first_numbers 31) (first_apart 31)

  made : IsMade goal.inputs s
  made = made_from goal.inputs 0 instrs at_start well_formed (start_made goal.inputs)
      (λ r low read. subst (λ qs. Contains qs r) (sym (regs_back regs)) (kept_has flag (first_numbers 31) r read (first_has 31 r low)))

  numbered : AreNumbered s.lets (0 + length instrs)
  numbered = from_numbered 0 instrs at_start (record { indexes = []; names = refl; low = All-nil (λ k. k < 0); apart = pairs_nil Apart })

  index_low : (k : ℕ) → k < 0 + length instrs → k < 2 ^ 64
  index_low k l = (let few = few_instrs in omega (arith, l, few))

  -- ---- the pool
  spare_apart : All (λ r. has_register (taken_by lift) r ≡ false) (spare_registers s lift.out)
  spare_apart = All-weaker (λ r. is_spare s lift.out r ≡ true) (λ r. has_register (taken_by lift) r ≡ false) apart (spare_registers s lift.out) (filter_passes (is_spare s lift.out) (first_numbers 31))
    where
      off : (b : Bool) → not b ≡ true → b ≡ false
      off true e = cc
      off false e = refl

      apart : (r : ℕ) → is_spare s lift.out r ≡ true → has_register (regs ++ lift.out) r ≡ false
      apart r t = (
          let two = (and_parts (has_let s r) (not (flag r) && not (has_register lift.out r)) t).1 in
          let both = and_parts (not (flag r)) (not (has_register lift.out r)) two in
          list_any-append (λ other. other == r) regs lift.out ∙ ap₂ (λ a b. a || b) (kept_passes flag (first_numbers 31) r (off (flag r) both.0)) (off (has_register lift.out r) both.1))

  pool_of : (o : Option (List ℕ)) → HasPool lift o → IsPoolOf lift (unwrap_or o (spare_registers s lift.out))
  pool_of None h = record {
    are = record {
      low = All-filter (is_spare s lift.out) (λ r. r < 31) (first_numbers 31) (first_low 31);
      differ = AllPairs-filter Apart (is_spare s lift.out) (first_numbers 31) (first_apart 31);
    };
    apart = spare_apart;
  }
  pool_of (Some registers) h = h

  pool : IsPoolOf lift goal.pool
  pool = pool_of lift.pool is.rules.pool

  apart_from_inputs : All (λ r. has_register regs r ≡ false) goal.pool
  apart_from_inputs = All-weaker (λ r. has_register (regs ++ lift.out) r ≡ false) (λ r. has_register regs r ≡ false)
      (λ r e. or_left (has_register regs r) (has_register lift.out r) (sym (list_any-append (λ other. other == r) regs lift.out) ∙ e)) goal.pool pool.apart

  abbrev pins : List ℕ
  pins = filter (has_let s) lift.out

  apart_from_pins : All (λ r. All (Apart r) pins) goal.pool
  apart_from_pins = All-weaker (λ r. has_register (regs ++ lift.out) r ≡ false) (λ r. All (Apart r) pins)
      (λ r e. apart_from pins r (fewer_has (has_let s) lift.out r (or_right (has_register regs r) (has_register lift.out r) (sym (list_any-append (λ other. other == r) regs lift.out) ∙ e)))) goal.pool pool.apart

  pins_low : All (λ r. r < 31) pins
  pins_low = All-filter (has_let s) (λ r. r < 31) lift.out is.rules.out.low

  pins_apart : AllPairs Apart pins
  pins_apart = AllPairs-filter Apart (has_let s) lift.out is.rules.out.differ

  -- ---- names
  memory_target : (Q : TargetTree → Type 0) → ((o : Option ℕ) → All Q (memory_sets o)) → Q memory_kept → ((r : ℕ) → r < 31 → has_let s r ≡ true → Q (register_set s r)) → All Q goal.sets
  memory_target Q memories kept registers =
      all_sets Q kept (sets_of s lift.out)
      (All-append Q (memory_sets s.memory) (map (register_set s) pins) (memories s.memory)
      (All-map Q (register_set s) pins (λ k d l. registers (get_or pins k d) (pins_low k d l) (filter_passes (has_let s) lift.out k d l))))

  named : IsNamedGoal goal
  named = record {
    own = is.named;
    inputs = All-map (λ (i : InputReg). IsName i.name) input_named regs (All-weaker (λ r. r < 31) (λ r. IsName (register_name r)) (λ r l. register_named r (low_is r l)) regs regs_low);
    lets = each_named s.lets numbered.indexes numbered.names (All-weaker (λ k. k < 0 + length instrs) (λ k. IsName (let_name k)) (λ k l. let_named k (index_low k l)) numbered.indexes numbered.low);
    targets = memory_target (λ (t : TargetTree). IsName t.name) in_memory memory_named (λ r low has. register_named r (low_is r low));
  }
    where
      in_memory : (o : Option ℕ) → All (λ (t : TargetTree). IsName t.name) (memory_sets o)
      in_memory None = All-nil (λ (t : TargetTree). IsName t.name)
      in_memory (Some n) = All-cons (λ (t : TargetTree). IsName t.name) (record { name = codes "M"; value = variable n; pin = None }) [] memory_named (All-nil (λ (t : TargetTree). IsName t.name))

      each_named : (lets : List LetTree) (ks : List ℕ) → let_names lets ≡ map let_name ks → All (λ k. IsName (let_name k)) ks → All (λ (l : LetTree). IsName l.name) lets
      each_named [] ks e h = All-nil (λ (l : LetTree). IsName l.name)
      each_named (l ∷ lets) [] e h = cc
      each_named (l ∷ lets) (k ∷ ks) e h = (
          let first : l.name ≡ let_name k = cc in
          let rest : let_names lets ≡ map let_name ks = cc in
          All-cons (λ (x : LetTree). IsName x.name) l lets (subst IsName (sym first) (All-head (λ j. IsName (let_name j)) k ks h)) (each_named lets ks rest (All-tail (λ j. IsName (let_name j)) k ks h)))

  leaves_apart : AllPairs (λ m n. m ≢ n) (names_of_inputs goal.inputs ++ let_names goal.lets)
  leaves_apart =
      subst (λ ns. AllPairs (λ m n. m ≢ n) (ns ++ let_names goal.lets)) (sym (names_back regs))
      (subst (λ ns. AllPairs (λ m n. m ≢ n) (map register_name regs ++ ns)) (sym numbered.names)
      (pairs_join (λ m n. m ≢ n) (map register_name regs) (map let_name numbered.indexes)
      (pairs_map (λ m n. m ≢ n) register_name regs (names_apart regs regs_low regs_apart))
      (pairs_map (λ m n. m ≢ n) let_name numbered.indexes
      (λ i j d l m same. (let ks = numbered.indexes in numbered.apart i j d l m (let_once (get_or ks i d) (get_or ks j d) (index_low (get_or ks i d) (numbered.low i d (omega (arith, l, m)))) (index_low (get_or ks j d) (numbered.low j d m)) same))))
      (All-map (λ m. All (λ n. m ≢ n) (map let_name numbered.indexes)) register_name regs
      (λ a d l. All-map (λ n. register_name (get_or regs a d) ≢ n) let_name numbered.indexes (λ b e m. register_no_let (get_or regs a d) (get_or numbered.indexes b e))))))

  rules : KeepsRules [] goal
  rules = record {
    input_names = pairs_map (λ (i j : InputReg). i.name ≢ j.name) input_named regs (names_apart regs regs_low regs_apart);
    own_names = All-map (λ (i : InputReg). is_reserved i.name ≡ false) input_named regs (λ k d l. register_free (get_or regs k d));
    not_declared = λ k d l. refl;
    leaf_names = leaves_apart;
    own_lets = subst (All (λ n. (is_reserved n ≡ false) × (is_among (names_of_declared []) n ≡ false))) (sym numbered.names)
        (All-map (λ n. (is_reserved n ≡ false) × (is_among (names_of_declared []) n ≡ false)) let_name numbered.indexes (λ k d l. (let_free (get_or numbered.indexes k d), refl)));
    registers = subst (λ rs. AllPairs Apart (rs ++ goal.pool)) (sym (regs_back regs)) (pairs_join Apart regs goal.pool regs_apart pool.are.differ (each_apart regs goal.pool apart_from_inputs));
    low = subst (λ rs. All (λ r. r < 31) (rs ++ goal.pool)) (sym (regs_back regs)) (All-append (λ r. r < 31) regs goal.pool regs_low pool.are.low);
    targets = targets_apart s s.memory pins pins_low pins_apart;
    some_target = some_set (sets_of s lift.out);
    pins = subst (λ rs. AllPairs Apart (goal.pool ++ rs)) (sym (all_pins s lift.out)) (pairs_join Apart goal.pool pins pool.are.differ pins_apart apart_from_pins);
    low_pins = subst (All (λ r. r < 31)) (sym (all_pins s lift.out)) pins_low;
    memory_unpinned = memory_target (λ (t : TargetTree). bytes_eq t.name (codes "M") ≡ true → t.pin ≡ None) in_memory (λ e. refl) (λ r low has e. (let f : false ≡ true = e in cc));
    few_lets = few_lets;
    few = (
      (let same = length-map regs input_named in let few = is.rules.few_inputs in omega (arith, same, few)),
      (let same = length-map s.addresses assume_of in let few = is.rules.few_assumes in omega (arith, same, few)),
      few_or_memory (sets_of s lift.out) is.rules.few_sets,
    );
  }
    where
      in_memory : (o : Option ℕ) → All (λ (t : TargetTree). bytes_eq t.name (codes "M") ≡ true → t.pin ≡ None) (memory_sets o)
      in_memory None = All-nil (λ (t : TargetTree). bytes_eq t.name (codes "M") ≡ true → t.pin ≡ None)
      in_memory (Some n) = All-cons (λ (t : TargetTree). bytes_eq t.name (codes "M") ≡ true → t.pin ≡ None) (record { name = codes "M"; value = variable n; pin = None }) [] (λ e. refl) (All-nil (λ (t : TargetTree). bytes_eq t.name (codes "M") ≡ true → t.pin ≡ None))

  -- ---- terms
  assumes_made : All (IsAssume [] goal) goal.assumes
  assumes_made = All-map (IsAssume [] goal) assume_of s.addresses (λ k d l.
      let sides = assume_made goal.inputs (known_sorts s) (get_or s.addresses k d) (made.addresses k d l) (small_powers lift.words k d l) in
      record { sort = sorts.Word; left = sides.0; right = sides.1 })

  sets_made : All (IsTarget [] goal) goal.sets
  sets_made = all_sets (IsTarget [] goal) (record { sorted = (refl, tt, refl, tt); operators = (tt, tt) }) (sets_of s lift.out)
      (All-append (IsTarget [] goal) (memory_sets s.memory) (map (register_set s) pins) (in_memory s.memory made.memory_is)
      (All-map (IsTarget [] goal) (register_set s) pins (λ k d l. register_made (get_or pins k d) (filter_passes (has_let s) lift.out k d l))))
    where
      in_memory : (o : Option ℕ) → IfSome o (λ n. (n < length (known_sorts s)) × (slice_index_or (known_sorts s) n sorts.Word ≡ sorts.Memory)) → All (IsTarget [] goal) (memory_sets o)
      in_memory None h = All-nil (IsTarget [] goal)
      in_memory (Some n) h = All-cons (IsTarget [] goal) (record { name = codes "M"; value = variable n; pin = None }) [] (record { sorted = h; operators = tt }) (All-nil (IsTarget [] goal))

      of_inputs : (v : Value) → is_let v ≡ true → IsOfInputs goal.inputs v
      of_inputs (Entry q) e = cc
      of_inputs Zero e = cc
      of_inputs (Let n) e = tt

      value_of : (r : ℕ) → is_let (latest_of s r) ≡ true → IsTermOver [] goal.inputs (known_sorts s) sorts.Word (register_term s r)
      value_of r t = value_made goal.inputs (known_sorts s) (latest_of s r) (made.values r) (of_inputs (latest_of s r) t)

      register_made : (r : ℕ) → has_let s r ≡ true → IsTarget [] goal (register_set s r)
      register_made r t = (let term = value_of r t in record { sorted = term.sorted; operators = term.operators })

  -- ---- sizes
  few_pins : length pins ≤ 16
  few_pins = (
      let few = is.rules.few_sets in
      let all = length-append (memory_sets s.memory) (map (register_set s) pins) in
      let same = length-map pins (register_set s) in
      omega (arith, few, all, same))

  pub goal_few : operators_of_goal goal ≤ 2048
  goal_few =
      let lets = operators_in_lets 0 instrs at_start refl in
      let few = few_lets in
      let assumes = few_in_assumes s.addresses in
      let most = is.rules.few_assumes in
      let sets = few_in_sets s s.memory pins in
      let many = few_pins in
      omega (arith, lets, few, assumes, most, sets, many)

  pub goal_made : IsGoal [] goal
  goal_made = record {
    named = named;
    rules = rules;
    lets = made.lets;
    assumes = assumes_made;
    guard = tt;
    sets = sets_made;
    few = (let few = goal_few in omega (arith, few));
  }

-- ---- lists inside one another
abbrev Deep : ℕ → List Plain → Type 0
Deep n ps = most_levels (plains_from ps) ≤ n

deep_both : (n : ℕ) (xs ys : List Plain) → Deep n xs → Deep n ys → Deep n (xs ++ ys)
deep_both n [] ys a b = b
deep_both n (x ∷ xs) ys a b = let rest = deep_both n xs ys (omega (arith, a)) b in omega (arith, a, rest)

each_deep : {X : Type 0} (n : ℕ) (f : X → Plain) → ((x : X) → levels (f x) ≤ n) → (xs : List X) → Deep n (map f xs)
each_deep n f h [] = omega arith
each_deep n f h (x ∷ xs) = let one = h x in let rest = each_deep n f h xs in omega (arith, one, rest)

module _ (lift : LiftTree) where
  abbrev instrs_of : List Instr
  instrs_of = filter_map decoded lift.words

  abbrev known : Lifting
  known = lifted lift.words

  sets_deep : (names : Naming) (ts : List TargetTree) → All (λ (t : TargetTree). levels (term_plain names t.value) ≤ 0) ts → Deep 3 (map (target_plain names) ts)
  sets_deep names [] h = omega arith
  sets_deep names (t ∷ ts) h =
      let value = All-head (λ (x : TargetTree). levels (term_plain names x.value) ≤ 0) t ts h in
      let rest = sets_deep names ts (All-tail (λ (x : TargetTree). levels (term_plain names x.value) ≤ 0) t ts h) in
      let one = pinned t.pin (term_plain names t.value) value in
      omega (arith, one, rest)
    where
      pinned : (o : Option ℕ) (value : Plain) → levels value ≤ 0 → Deep 0 (pin_plains o ++ value ∷ [])
      pinned None value l = omega (arith, l)
      pinned (Some r) value l = omega (arith, l)

  flat_sets : (names : Naming) → All (λ (t : TargetTree). levels (term_plain names t.value) ≤ 0) (sets_or_memory (sets_of known lift.out))
  flat_sets names = all_sets Flat (omega arith) (sets_of known lift.out)
      (All-append Flat (memory_sets known.memory) (map (register_set known) (filter (has_let known) lift.out)) (memories known.memory)
      (All-map Flat (register_set known) (filter (has_let known) lift.out) (λ k d l. flat_value (latest_of known (get_or (filter (has_let known) lift.out) k d)))))
    where
      Flat : TargetTree → Type 0
      Flat t = levels (term_plain names t.value) ≤ 0

      memories : (o : Option ℕ) → All Flat (memory_sets o)
      memories None = All-nil Flat
      memories (Some n) = All-cons Flat (record { name = codes "M"; value = variable n; pin = None }) [] (omega arith) (All-nil Flat)

      flat_value : (v : Value) → levels (term_plain names (value_term v)) ≤ 0
      flat_value (Entry r) = omega arith
      flat_value Zero = omega arith
      flat_value (Let n) = omega arith

  goal_deep : levels (goal_plain [] (goal_of_lift lift)) ≤ 64
  goal_deep =
      let goal = goal_of_lift lift in
      let names = goal_naming [] goal in
      let ins = each_deep 3 input_plain (λ i. omega arith) goal.inputs in
      let pool = each_deep 0 register_plain (λ r. omega arith) goal.pool in
      let lets = lets_deep 0 instrs_of at_start refl names in
      let assumes = assumes_deep names known.addresses in
      let sets = sets_deep names goal.sets (flat_sets names) in
      let last = deep_both 3 (map (assume_plain names) goal.assumes) (map (target_plain names) goal.sets) assumes sets in
      let behind = deep_both 3 (map (let_plain names) goal.lets) (map (assume_plain names) goal.assumes ++ map (target_plain names) goal.sets) lets last in
      let all = deep_both 3 (map input_plain goal.inputs) (pool_plain goal.pool ∷ (map (let_plain names) goal.lets ++ (map (assume_plain names) goal.assumes ++ map (target_plain names) goal.sets))) ins (omega (arith, pool, behind)) in
      omega (arith, all)

-- a machine form
table_deep : (t : Table) → levels (table_plain t) ≤ 64
table_deep t =
    let slots = each_deep 1 slot_plain (λ s. omega arith) t.slots in
    let uses = each_deep 2 (use_plain t) (λ (u : Use). let used = each_deep 0 (slot_name_plain t) (λ n. omega arith) u.slots in omega (arith, used)) t.uses in
    omega (arith, slots, uses)

-- ---- all goals
module _ (forth : (n : ℕ) (i : Instr) → n < 2 ^ 32 → decoded n ≡ Some i → IsWellFormed i) (lifts : LiftsTree) (are : AreLifts lifts) where
  pub goals_few : All (λ (g : GoalTree). operators_of_goal g ≤ 2048) (input_of_lifts lifts).goals
  goals_few = All-map (λ (g : GoalTree). operators_of_goal g ≤ 2048) goal_of_lift lifts.lifts (λ k d l. goal_few forth (get_or lifts.lifts k d) (are.each k d l))

  all_few : (gs : List GoalTree) → All (λ (g : GoalTree). operators_of_goal g ≤ 2048) gs → sum_over operators_of_goal gs ≤ 2048 * length gs
  all_few [] h = omega arith
  all_few (g ∷ gs) h =
      let one = All-head (λ (x : GoalTree). operators_of_goal x ≤ 2048) g gs h in
      let rest = all_few gs (All-tail (λ (x : GoalTree). operators_of_goal x ≤ 2048) g gs h) in
      omega (arith, one, rest)

  nested : Deep 64 (input_plains (input_of_lifts lifts))
  nested = deep_both 64 (machine_plains (input_of_lifts lifts)) (map (goal_plain []) (map goal_of_lift lifts.lifts)) (by lifts.builtin) (each_goal lifts.lifts)
    where
      by : (b : Bool) → Deep 64 (if b then [] else table_plain lifts.table ∷ [])
      by true = omega arith
      by false = (let deep = table_deep lifts.table in omega (arith, deep))

      each_goal : (ls : List LiftTree) → Deep 64 (map (goal_plain []) (map goal_of_lift ls))
      each_goal [] = omega arith
      each_goal (l ∷ ls) = (let one = goal_deep l in let rest = each_goal ls in omega (arith, one, rest))

  pub goals_well_formed : IsInput (input_of_lifts lifts)
  goals_well_formed =
      let count = length-map lifts.lifts goal_of_lift in
      let some = are.some in
      let few = are.few in
      let operators = all_few (input_of_lifts lifts).goals goals_few in
      record {
        table = are.table;
        slots = are.slots;
        builtin = are.builtin;
        operators = λ k d l. absurd (omega (arith, l));
        operators_differ = λ i j d l m. absurd (omega (arith, m));
        own_names = λ k d l. absurd (omega (arith, l));
        axioms = λ k d l. absurd (omega (arith, l));
        goals = All-map (IsGoal []) goal_of_lift lifts.lifts (λ k d l. goal_made forth (get_or lifts.lifts k d) (are.each k d l));
        goals_differ = pairs_map (λ (g h : GoalTree). g.name ≢ h.name) goal_of_lift lifts.lifts are.differ;
        some_goal = omega (arith, some, count);
        few = (omega arith, omega arith, omega (arith, few, count));
        few_operators = omega (arith, operators, few, count);
        nested = nested;
      }
