-- The words of a schedule that fits compute the goal for which the graph stands.
use Rattle.std.proofs.Common.{◌≡◌, ℕ, ◌∙◌, List, get_or, [], ◌∷◌, Option, Some, None, Bool, true, false, not, filter, find, map, length, slice_index, inl, inr, refl, sym, ap, subst, All, IsTrue, cond}
use Rattle.std.specs.Prelude.{Any, Contains, IsSomeAnd, IfSome, unwrap_or}
use Rattle.std.specs.List.{AllZip}
use Rattle.std.specs.Option.{option_map_or}
use Rattle.std.proofs.lemmas.Bool.{false≢true}
use Rattle.std.proofs.lemmas.Bool.Decides.{Decides-eqb}
use Rattle.std.proofs.lemmas.List.Elements.{All-nil, All-cons, All-head, All-tail}
use Rattle.word_ops.specs.Worlds.{World, IsWorld, Value, word, memory}
use Rattle.word_ops.specs.declared.sorts.Op.{Op}
use Rattle.word_terms.specs.Tree.{Tree}
use Rattle.alpha_encode.specs.declared.instructions.Instr.{Instr}
use Rattle.alpha_machine.specs.Runs.{trace}
use Rattle.alpha_machine.specs.States.{MachineState}
use Rattle.goal_meaning.specs.Expanded.{expanded}
use Rattle.goal_meaning.specs.Holds.{HoldsFor, goal_value}
use Rattle.goal_meaning.specs.Outcomes.{NewValue, exit, fall, is_left, is_memory, is_zero, new_memory, new_value, new_words}
use Rattle.goal_meaning.specs.Views.{GoalTree, InputTree, TargetTree}
use Rattle.goal_meaning.specs.declared.goals.InputReg.{InputReg}
use Rattle.goal_meaning.specs.declared.goals.DeclaredOp.{DeclaredOp}
use Rattle.graph_meaning.proofs.Lists.{any_cases, any_here, any_there, any_nil}
use Rattle.graph_meaning.specs.Graphs.{is_memory_name}
use Rattle.graph_meaning.specs.declared.graphs.LaunchGraph.{LaunchGraph}
use Rattle.graph_meaning.specs.declared.graphs.Guard.{Guard}
use Rattle.graph_meaning.specs.declared.graphs.SetClass.{SetClass}
use Rattle.graph_meaning.specs.declared.graphs.InputClass.{InputClass}
use Rattle.machine_table.specs.declared.tables.Table.{Table}
use Rattle.register_assign.specs.Listings.{IsListing, target_place, target_register, word_targets}
use Rattle.register_assign.specs.Obeys.{loads}
use Rattle.register_assign.specs.Outcomes.{DoesAsGraphSays, Falls, Exits, KeepsOthers, entry_state, instrs_of}
use Rattle.register_assign.specs.declared.listings.Item.{Item}
use Rattle.register_assign.specs.declared.listings.Where.{Where}
use Rattle.schedule_meaning.specs.declared.schedules.Allocation.{Allocation}
use Rattle.schedule_meaning.specs.declared.schedules.Launch.{Launch}
use Rattle.saturation.specs.StandsFor.{StandsFor, HasValues, IsGuardOf, IsInputClass, IsSetClass, HasGuardValue, HasSetValue, has_select}
use Rattle.denali_run.specs.GoalOutcomes.{Computes, EndsWith, DoesAsSaid, IsPinOf, KeepsOtherRegisters, LeavesByBranch}

-- ---- the guard

zero_is : (v : Value) → is_zero v ≡ true → v ≡ word 0
zero_is (word n) e = ap word ((Decides-eqb n 0).0 e)
zero_is (memory m) e = absurd (false≢true e)

is_zero_of : (v : Value) → v ≡ word 0 → is_zero v ≡ true
is_zero_of v e = ap is_zero e

module _ (declared : List DeclaredOp) (g : LaunchGraph) (world : World) (value : ℕ → Value) where
  exit_in : (c : Option Guard) (t : Option (Tree Op)) → IsGuardOf declared g c t → HasGuardValue declared world value c t
      → is_left declared world t ≡ true → IsSomeAnd c (λ guard. value guard.class ≡ word 0)
  exit_in None None of v e = absurd (false≢true e)
  exit_in None (Some t) of v e = absurd of
  exit_in (Some c) None of v e = absurd of
  exit_in (Some c) (Some t) of v e = v ∙ zero_is (goal_value declared world t) e

  exit_out : (c : Option Guard) (t : Option (Tree Op)) → IsGuardOf declared g c t → HasGuardValue declared world value c t
      → is_left declared world t ≡ false → ¬ IsSomeAnd c (λ guard. value guard.class ≡ word 0)
  exit_out None None of v e = λ h. h
  exit_out None (Some t) of v e = absurd of
  exit_out (Some c) None of v e = absurd of
  exit_out (Some c) (Some t) of v e = λ h. false≢true (sym e ∙ is_zero_of (goal_value declared world t) (sym v ∙ h))

  held : (P : Type 0) (c : Option Guard) (t : Option (Tree Op)) → IsGuardOf declared g c t
      → (IsTrue (option_map_or (λ (guard : Guard). guard.held) c false) → P) → IfSome t (λ t. has_select t ≡ false → P)
  held P None None of h = tt
  held P None (Some t) of h = absurd of
  held P (Some c) None of h = absurd of
  held P (Some c) (Some t) of h = λ none. h (of.1 ∙ ap not none)

-- ---- targets

module _ (declared : List DeclaredOp) (g : LaunchGraph) (world : World) (value : ℕ → Value) (at : ℕ → Value) where
  abbrev InClass : Where → SetClass → Type 0
  InClass p c = (p.name ≡ c.name) × (at p.reg ≡ value c.class)

  abbrev HasNew : Where → NewValue → Type 0
  HasNew p v = (p.name ≡ v.name) × (at p.reg ≡ v.value)

  abbrev word_set : SetClass → Bool
  word_set c = not (is_memory_name c.name)

  abbrev word_target : TargetTree → Bool
  word_target s = not (is_memory s)

  abbrev new : TargetTree → NewValue
  new s = new_value declared world s

  one_target : (b : Bool) (c : SetClass) (s : TargetTree) (cs : List SetClass) (ss : List TargetTree) → c.name ≡ s.name
      → HasSetValue declared world value c s
      → ((ps : List Where) → AllZip InClass ps cs → AllZip HasNew ps (map new ss))
      → (ps : List Where) → AllZip InClass ps (cond b (c ∷ cs) cs) → AllZip HasNew ps (map new (cond b (s ∷ ss) ss))
  one_target false c s cs ss named valued more ps h = more ps h
  one_target true c s cs ss named valued more [] h = absurd h
  one_target true c s cs ss named valued more (p ∷ ps) h = ((h.0.0 ∙ named, h.0.1 ∙ valued), more ps h.1)

  pub all_targets : (cs : List SetClass) (ss : List TargetTree) → AllZip (IsSetClass declared g) cs ss
      → AllZip (HasSetValue declared world value) cs ss → (ps : List Where) → AllZip InClass ps (filter word_set cs)
      → AllZip HasNew ps (map new (filter word_target ss))
  all_targets [] [] named valued [] h = tt
  all_targets [] [] named valued (p ∷ ps) h = absurd h
  all_targets [] (s ∷ ss) named valued ps h = absurd named
  all_targets (c ∷ cs) [] named valued ps h = absurd named
  all_targets (c ∷ cs) (s ∷ ss) named valued ps h =
      one_target (word_target s) c s (filter word_set cs) (filter word_target ss) named.0.name valued.0
      (all_targets cs ss named.1 valued.1) ps
      (subst (λ (n : List ℕ). AllZip InClass ps (cond (not (is_memory_name n)) (c ∷ filter word_set cs) (filter word_set cs)))
      named.0.name h)

  abbrev memory_set : SetClass → Bool
  memory_set c = is_memory_name c.name

  abbrev found_set : Option SetClass → ℕ → Value
  found_set o entry = value (option_map_or (λ (c : SetClass). c.class) o entry)

  abbrev found_target : Option TargetTree → Value → Value
  found_target o m = option_map_or (λ (s : TargetTree). goal_value declared world s.value) o m

  one_memory : (b : Bool) (c : SetClass) (s : TargetTree) (x : Option SetClass) (y : Option TargetTree) (entry : ℕ)
      (m : Value) → HasSetValue declared world value c s → found_set x entry ≡ found_target y m
      → found_set (cond b (Some c) x) entry ≡ found_target (cond b (Some s) y) m
  one_memory false c s x y entry m valued more = more
  one_memory true c s x y entry m valued more = valued

  pub memory_found : (entry : ℕ) (m : Value) → value entry ≡ m → (cs : List SetClass) (ss : List TargetTree)
      → AllZip (IsSetClass declared g) cs ss → AllZip (HasSetValue declared world value) cs ss
      → found_set (find memory_set cs) entry ≡ found_target (find is_memory ss) m
  memory_found entry m e [] [] named valued = e
  memory_found entry m e [] (s ∷ ss) named valued = absurd named
  memory_found entry m e (c ∷ cs) [] named valued = absurd named
  memory_found entry m e (c ∷ cs) (s ∷ ss) named valued =
      subst (λ (n : List ℕ). found_set (cond (is_memory_name n) (Some c) (find memory_set cs)) entry
      ≡ found_target (cond (is_memory s) (Some s) (find is_memory ss)) m) (sym named.0.name)
      (one_memory (is_memory s) c s (find memory_set cs) (find is_memory ss) entry m valued.0
      (memory_found entry m e cs ss named.1 valued.1))

-- ---- pins

-- pinned sets are pinned targets
pin_of_target : (declared : List DeclaredOp) (g : LaunchGraph) (r : ℕ) (cs : List SetClass) (ss : List TargetTree)
    → AllZip (IsSetClass declared g) cs ss → Any (λ (c : SetClass). c.pin ≡ Some r) cs
    → Any (λ (s : TargetTree). s.pin ≡ Some r) ss
pin_of_target declared g r [] ss z pin = absurd (any_nil (λ (c : SetClass). c.pin ≡ Some r) pin)
pin_of_target declared g r (c ∷ cs) [] z pin = absurd z
pin_of_target declared g r (c ∷ cs) (s ∷ ss) z pin =
    elim (any_cases (λ (c : SetClass). c.pin ≡ Some r) c cs pin) [
      | inl here ↦ any_here (λ (s : TargetTree). s.pin ≡ Some r) s ss (sym z.0.pin ∙ here)
      | inr more ↦ any_there (λ (s : TargetTree). s.pin ≡ Some r) s ss (pin_of_target declared g r cs ss z.1 more)
    ]

module _ (declared : List DeclaredOp) (g : LaunchGraph) (world : World) (value : ℕ → Value) (at : ℕ → Value) (table : Table)
    (al : Allocation) (ordered : List Launch) where
  -- a pinned set's register has its value
  abbrev HasOwnClass : SetClass → Type 0
  HasOwnClass c = (r : ℕ) → c.pin ≡ Some r → at r ≡ value c.class

  abbrev HasOwn : TargetTree → NewValue → Type 0
  HasOwn s v = (r : ℕ) → s.pin ≡ Some r → at r ≡ v.value

  abbrev place : SetClass → Where
  place c = record { name = c.name; reg = target_place g table al ordered c }

  own_classes : (cs : List SetClass) → AllZip (InClass declared g world value at) (map place cs) cs → All HasOwnClass cs
  own_classes [] z = All-nil HasOwnClass
  own_classes (c ∷ cs) z =
      All-cons HasOwnClass c cs
      (λ r e. subst (λ (o : Option ℕ). at (unwrap_or o (target_register g table al ordered c.class)) ≡ value c.class) e z.0.1)
      (own_classes cs z.1)

  one_own : (b : Bool) (c : SetClass) (s : TargetTree) (cs : List SetClass) (ss : List TargetTree) → c.pin ≡ s.pin
      → HasSetValue declared world value c s
      → (All HasOwnClass cs → AllZip HasOwn ss (map (new declared g world value at) ss))
      → All HasOwnClass (cond b (c ∷ cs) cs)
      → AllZip HasOwn (cond b (s ∷ ss) ss) (map (new declared g world value at) (cond b (s ∷ ss) ss))
  one_own false c s cs ss pinned valued more h = more h
  one_own true c s cs ss pinned valued more h = (
    λ r e. All-head HasOwnClass c cs h r (pinned ∙ e) ∙ valued,
    more (All-tail HasOwnClass c cs h),
  )

  pub own_targets : (cs : List SetClass) (ss : List TargetTree) → AllZip (IsSetClass declared g) cs ss
      → AllZip (HasSetValue declared world value) cs ss → All HasOwnClass (filter (word_set declared g world value at) cs)
      → AllZip HasOwn (filter (word_target declared g world value at) ss)
      (map (new declared g world value at) (filter (word_target declared g world value at) ss))
  own_targets [] [] named valued h = tt
  own_targets [] (s ∷ ss) named valued h = absurd named
  own_targets (c ∷ cs) [] named valued h = absurd named
  own_targets (c ∷ cs) (s ∷ ss) named valued h =
      let sets : List SetClass = filter (word_set declared g world value at) cs in
      one_own (word_target declared g world value at s) c s sets (filter (word_target declared g world value at) ss)
      named.0.pin valued.0 (own_targets cs ss named.1 valued.1)
      (subst (λ (n : List ℕ). All HasOwnClass (cond (not (is_memory_name n)) (c ∷ sets) sets)) named.0.name h)

-- ---- inputs

inputs_kept : (declared : List DeclaredOp) (g : LaunchGraph) (R : ℕ → Type 0) (cs : List InputClass) (is : List InputReg)
    → AllZip (IsInputClass declared g) cs is → All (λ (c : InputClass). R c.reg) cs → All (λ (i : InputReg). R i.reg) is
inputs_kept declared g R [] [] z h = All-nil (λ (i : InputReg). R i.reg)
inputs_kept declared g R [] (i ∷ is) z h = absurd z
inputs_kept declared g R (c ∷ cs) [] z h = absurd z
inputs_kept declared g R (c ∷ cs) (i ∷ is) z h =
    All-cons (λ (i : InputReg). R i.reg) i is (subst R z.0.register (All-head (λ (c : InputClass). R c.reg) c cs h))
    (inputs_kept declared g R cs is z.1 (All-tail (λ (c : InputClass). R c.reg) c cs h))

-- ---- both ends

module _ (input : InputTree) (goal : GoalTree) (g : LaunchGraph) (stands : StandsFor input goal g)
    (table : Table) (al : Allocation) (ls : List Launch) (items : List Item) (words : List ℕ) (wheres : List Where)
    (listing : IsListing g table al ls items wheres) (right : DoesAsGraphSays g items words wheres) where
  others_kept : (s : MachineState) (world : World) → KeepsOthers g world s → KeepsOtherRegisters (expanded goal) world s
  others_kept s world kept = λ r free none. kept r (subst (λ (pool : List ℕ). ¬ Contains pool r) (sym stands.of.pool) free)
      (λ pin. none (pin_of_target input.ops g r g.sets (expanded goal).sets stands.of.sets pin))

  ends_with : (world : World) (value : ℕ → Value) → HasValues input.ops goal g world value
      → Falls g world value words wheres
      → EndsWith (expanded goal) world words wheres (new_words input.ops world (expanded goal).sets) (new_memory input.ops world (expanded goal).sets)
  ends_with world value has f = record {
    state = f.state;
    runs = f.runs;
    targets = all_targets input.ops g world value (λ r. word (slice_index f.state.registers r)) g.sets (expanded goal).sets
        stands.of.sets has.sets wheres f.targets;
    pins = own_targets input.ops g world value (λ r. word (slice_index f.state.registers r)) table al listing.ordered g.sets
        (expanded goal).sets stands.of.sets has.sets
        (own_classes input.ops g world value (λ r. word (slice_index f.state.registers r)) table al listing.ordered (word_targets g)
        (subst (λ (ps : List Where). AllZip (InClass input.ops g world value (λ r. word (slice_index f.state.registers r))) ps
        (word_targets g)) listing.wheres_are f.targets));
    memory_is = f.memory_is
        ∙ memory_found input.ops g world value (λ r. word (slice_index f.state.registers r)) g.entry
        (memory world.memory_at_entry) has.rows.entry g.sets (expanded goal).sets stands.of.sets has.sets;
    inputs = inputs_kept input.ops g
        (λ r. ¬ IsPinOf (expanded goal) r → slice_index f.state.registers r ≡ slice_index world.registers r) g.inputs goal.inputs
        stands.of.inputs
        (λ k d lt none. f.inputs k d lt
        (λ pin. none (pin_of_target input.ops g (get_or g.inputs k d).reg g.sets (expanded goal).sets stands.of.sets pin)));
    others = others_kept f.state world f.others;
  }

  leaves_by : (world : World) → Exits g world items words → LeavesByBranch (expanded goal) world items words
  leaves_by world e = record {
    state = e.state;
    runs = e.runs;
    memory_is = e.memory_is;
    inputs = inputs_kept input.ops g (λ r. slice_index e.state.registers r ≡ slice_index world.registers r) g.inputs
        goal.inputs stands.of.inputs e.inputs;
    others = others_kept e.state world e.others;
    no_load = held input.ops g world (λ n. word 0)
        (All (λ (i : Instr). ¬ IsTrue (loads i)) (trace (length items) (instrs_of items) (entry_state world)))
        g.guard (expanded goal).guard stands.of.guard e.no_load;
  }

  by_guard : (world : World) → IsWorld world → HoldsFor input goal world → (b : Bool)
      → is_left input.ops world (expanded goal).guard ≡ b
      → DoesAsSaid (expanded goal) world items words wheres
      (cond b exit (fall (new_words input.ops world (expanded goal).sets) (new_memory input.ops world (expanded goal).sets)))
  by_guard world is holds true e =
      let v = stands.values world is holds in
      leaves_by world
      (right.exits world v.0 is v.1.rows (exit_in input.ops g world v.0 g.guard (expanded goal).guard stands.of.guard v.1.guard e))
  by_guard world is holds false e =
      let v = stands.values world is holds in
      ends_with world v.0 v.1
      (right.falls world v.0 is v.1.rows (exit_out input.ops g world v.0 g.guard (expanded goal).guard stands.of.guard v.1.guard e))

  pub computes : Computes input goal items words wheres
  computes = λ world is holds. by_guard world is holds (is_left input.ops world (expanded goal).guard) refl
