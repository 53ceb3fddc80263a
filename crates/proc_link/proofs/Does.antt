-- What a block's listing does, in the words of the block machine: by the clauses that hold of the block's goal.
use Rattle.std.proofs.Common.{◌≡◌, ◌≢◌, ℕ, zero, suc, ◌+◌, ◌*◌, ◌≤◌, List, [], ◌∷◌, map, length, not, refl, sym, ◌∙◌, ap, subst, arith, Bool, true, false, Option, Some, None}
use Rattle.std.specs.Prelude.{All, Contains, IsSomeAnd, bytes_eq, codes, find, is_some, option_map, slice_get, slice_index, if◌then◌else◌}
use Rattle.std.specs.Option.{option_map_or}
use Rattle.std.proofs.lemmas.Bool.{or_parts, false≢true}
use Rattle.std.proofs.lemmas.List.{get_or-map, length-map}
use Rattle.std.proofs.lemmas.List.Elements.{All-nil, All-contains, All-map}
use Rattle.std.proofs.lemmas.Option.{same_Some, none-some}
use Rattle.std.proofs.lemmas.Slice.Eq.{bytes_eq-Decides}
use Rattle.schedule_meaning.specs.Limits.{most_launches}
use Rattle.word_ops.specs.Worlds.{Value, World, IsWorld, word, memory}
use Rattle.alpha_encode.specs.Decoded.{decoded}
use Rattle.alpha_encode.specs.Formats.{IsWellFormed}
use Rattle.alpha_encode.specs.declared.instructions.Instr.{Instr}
use Rattle.alpha_machine.specs.States.{MachineState}
use Rattle.alpha_machine.specs.Runs.{Runs, after, IsAllowedAt}
use Rattle.alpha_machine.specs.declared.running.End.{End}
use Rattle.denali_run.specs.GoalOutcomes.{DoesAsSaid, EndsWith, HasOwnValue, IsPinOf, LeavesByBranch}
use Rattle.goal_meaning.specs.Expanded.{expanded}
use Rattle.goal_meaning.specs.Holds.{HoldsOfAll, IsMet, goal_value}
use Rattle.goal_meaning.specs.Names.{built_in_named, is_reserved}
use Rattle.goal_meaning.specs.Outcomes.{exit, fall, is_left, is_memory, is_zero, new_memory, new_value, new_words}
use Rattle.goal_meaning.specs.Views.{GoalTree, TargetTree}
use Rattle.goal_meaning.specs.WellFormed.{input_registers}
use Rattle.goal_meaning.specs.declared.goals.InputReg.{InputReg}
use Rattle.proc_goal.specs.Goals.{goal_of_block, sets_or_memory}
use Rattle.proc_goal.specs.Views.{WhenTree, BlockTree, ProcTree}
use Rattle.proc_goal.specs.WellFormed.{IsProc, IsProcBlock, IsSet, IsPinned, memory as pinned_memory, variable as pinned_variable}
use Rattle.register_assign.specs.Outcomes.{entry_state, instrs_of}
use Rattle.register_assign.specs.declared.listings.Item.{Item}
use Rattle.register_assign.specs.declared.listings.Listing.{Listing}
use Rattle.proc_link.specs.Blocks.{sets_name}
use Rattle.proc_link.specs.Follows.{IsListingOfBlock, KeepsOutsideRegisters}
use Rattle.proc_link.proofs.Finding.{find_some, find_none, front_apart, kept_item, one_item}
use Rattle.proc_link.proofs.Relocating.{BranchesLeave}

-- there is a guard, and its value in the world is 0
abbrev pub left_in : World → BlockTree → Bool
left_in w b = option_map_or (λ (k : WhenTree). is_zero (goal_value [] w k.guard)) b.when false

-- the value in the world of what is set, or the old one
abbrev pub set_value : World → Option TargetTree → Value → Value
set_value w o old = option_map_or (λ (t : TargetTree). goal_value [] w t.value) o old

-- the instructions keep the registers outside of the pool and the variables
abbrev pub KeepsOutside : ProcTree → List Instr → World → Type 0
KeepsOutside p is w = KeepsOutsideRegisters p (entry_state w) (after (length is) is (entry_state w))

-- the instructions fall through with each variable's new word in its register, the others as at entry, and the new memory
pub record FallsThrough (p : ProcTree) (b : BlockTree) (is : List Instr) (w : World) : Type 0 where
  pub ends : (after (length is) is (entry_state w)).pc ≡ 4 * length is
  pub words_are :
      (v : InputReg) → Contains p.vars v
      → word (slice_index (after (length is) is (entry_state w)).registers v.reg)
      ≡ set_value w (find (sets_name v.name) b.sets) (word (slice_index w.registers v.reg))
  pub memory_is :
      memory (after (length is) is (entry_state w)).memory
      ≡ set_value w (find (sets_name (codes "M")) b.sets) (memory w.memory_at_entry)
  pub others : KeepsOutside p is w

-- they leave by a branch, with variables and memory as at entry
pub record LeavesBy (p : ProcTree) (is : List Instr) (w : World) : Type 0 where
  pub ends : (after (length is) is (entry_state w)).pc ≡ 4 * length is + 4
  pub words_are :
      (v : InputReg) → Contains p.vars v
      → slice_index (after (length is) is (entry_state w)).registers v.reg ≡ slice_index w.registers v.reg
  pub memory_is : (after (length is) is (entry_state w)).memory ≡ w.memory_at_entry
  pub others : KeepsOutside p is w

-- they do in every world what the block says; their branches lead to one word behind the last
pub record Does (p : ProcTree) (b : BlockTree) (is : List Instr) : Type 0 where
  pub well_formed : All IsWellFormed is
  pub few : length is ≤ most_launches
  pub stand : BranchesLeave is
  pub falls : (w : World) → IsWorld w → left_in w b ≡ false → FallsThrough p b is w
  pub leaves : (w : World) → IsWorld w → left_in w b ≡ true → LeavesBy p is w

-- ---- words and their instructions

some_alike : (xs ys : List Instr) → map Some xs ≡ map Some ys → xs ≡ ys
some_alike [] [] e = refl
some_alike [] (y ∷ ys) e = cc
some_alike (x ∷ xs) [] e = cc
some_alike (x ∷ xs) (y ∷ ys) e =
    let first : x ≡ y = cc in
    let rest : map Some xs ≡ map Some ys = cc in
    let same = some_alike xs ys rest in
    cc

word_at : (words : List ℕ) (is : List Instr) → map decoded words ≡ map Some is → (k : ℕ) (i : Instr) → slice_get is k ≡ Some i
    → (word : ℕ) × (slice_get words k ≡ Some word) × (decoded word ≡ Some i)
word_at [] [] e k i there = absurd (none-some i there)
word_at [] (j ∷ is) e k i there = cc
word_at (w ∷ ws) [] e k i there = cc
word_at (w ∷ ws) (j ∷ is) e zero i there = (let first : decoded w ≡ Some j = cc in (w, refl, first ∙ there))
word_at (w ∷ ws) (j ∷ is) e (suc k) i there = (let rest : map decoded ws ≡ map Some is = cc in word_at ws is rest k i there)

-- ---- pins

pinned_in : (vars : List InputReg) (name : List ℕ) (o : Option ℕ) → IsPinned vars name o → (r : ℕ) → o ≡ Some r → Contains vars (record { name = name; reg = r })
pinned_in vars name o (pinned_memory e) r f = absurd (none-some r f)
pinned_in vars name o (pinned_variable {register = register} has) r f = subst (λ q. Contains vars (record { name = name; reg = q })) (same_Some register r f) has

pin_of_word : (vars : List InputReg) (name : List ℕ) (o : Option ℕ) → IsPinned vars name o → name ≢ codes "M" → (r : ℕ) × (o ≡ Some r) × Contains vars (record { name = name; reg = r })
pin_of_word vars name o (pinned_memory e) other = absurd (other e)
pin_of_word vars name o (pinned_variable {register = register} has) other = (register, refl, has)

register_in : (vars : List InputReg) (v : InputReg) → Contains vars v → Contains (input_registers vars) v.reg
register_in vars v (k, inside, at) =
    let long = length-map vars (λ (u : InputReg). u.reg) in
    (k, omega (arith, long, inside), get_or-map (λ (u : InputReg). u.reg) vars k v v.reg inside ∙ ap (λ (u : InputReg). u.reg) at)

module _ (p : ProcTree) (is_proc : IsProc p) where
  abbrev vars : List InputReg
  vars = p.vars

  pub one_by_name : (u v : InputReg) → Contains vars u → Contains vars v → u.name ≡ v.name → u ≡ v
  one_by_name u v has_u has_v same =
      one_item (λ (i j : InputReg). i.name ≢ j.name) vars is_proc.rules.variable_names u v has_u has_v (λ ne. ne same) (λ ne. ne (sym same))

  one_by_register : (u v : InputReg) → Contains vars u → Contains vars v → u.reg ≡ v.reg → u ≡ v
  one_by_register u v has_u has_v same =
      one_item (λ (i j : InputReg). i.reg ≢ j.reg) vars (front_apart (λ (i : InputReg). i.reg) vars p.pool is_proc.rules.registers) u v has_u has_v
      (λ ne. ne same) (λ ne. ne (sym same))

  not_memory : (v : InputReg) → Contains vars v → v.name ≢ codes "M"
  not_memory v has e =
      let own : is_reserved v.name ≡ false = All-contains (λ (i : InputReg). is_reserved i.name ≡ false) vars v is_proc.rules.own_names has in
      let no = (or_parts (is_some (built_in_named v.name)) (bytes_eq v.name (codes "M")) own).1 in
      false≢true (sym no ∙ (bytes_eq-Decides v.name (codes "M")).1 e)

  module _ (b : BlockTree) (block : IsProcBlock p.vars (length p.blocks) b) where
    -- the set of a variable is pinned to its register
    own_pin : (v : InputReg) → Contains vars v → (t : TargetTree) → Contains b.sets t → t.name ≡ v.name → t.pin ≡ Some v.reg
    own_pin v has t among named =
        let set : IsSet vars t = All-contains (IsSet vars) b.sets t block.sets among in
        let pin = pin_of_word vars t.name t.pin set.pinned (λ e. not_memory v has (sym named ∙ e)) in
        let same = one_by_name (record { name = t.name; reg = pin.0 }) v pin.2 has named in
        pin.1 ∙ ap (λ (u : InputReg). Some u.reg) same

    -- and no other set is
    pinned_name : (v : InputReg) → Contains vars v → (t : TargetTree) → Contains b.sets t → t.pin ≡ Some v.reg → t.name ≡ v.name
    pinned_name v has t among pin =
        let set : IsSet vars t = All-contains (IsSet vars) b.sets t block.sets among in
        let there = pinned_in vars t.name t.pin set.pinned v.reg pin in
        ap (λ (u : InputReg). u.name) (one_by_register (record { name = t.name; reg = v.reg }) v there has refl)

    in_targets : (sets : List TargetTree) (t : TargetTree) → Contains sets t → Contains (sets_or_memory sets) t
    in_targets [] t (k, inside, at) = absurd (omega (arith, inside))
    in_targets (s ∷ ss) t has = has

    pin_in_sets : (sets : List TargetTree) (t : TargetTree) (r : ℕ) → Contains (sets_or_memory sets) t → t.pin ≡ Some r → Contains sets t
    pin_in_sets [] t r (zero, inside, at) pin = absurd (none-some r (ap (λ (s : TargetTree). s.pin) at ∙ pin))
    pin_in_sets [] t r (suc k, inside, at) pin = absurd (omega (arith, inside))
    pin_in_sets (s ∷ ss) t r has pin = has

    -- a variable that isn't set is no pin
    no_pin : (v : InputReg) → Contains vars v → find (sets_name v.name) b.sets ≡ None → ¬ IsPinOf (goal_of_block p b) v.reg
    no_pin v has none (k, t, inside, at, pin) =
        let among = pin_in_sets b.sets t v.reg (k, inside, at) pin in
        let named = pinned_name v has t among pin in
        false≢true (sym (find_none (sets_name v.name) b.sets t none among) ∙ (bytes_eq-Decides t.name v.name).1 named)

    -- nor is a register that is no variable's
    no_pin_outside : (r : ℕ) → ¬ Contains (input_registers vars) r → ¬ IsPinOf (goal_of_block p b) r
    no_pin_outside r outside (k, t, inside, at, pin) =
        let among = pin_in_sets b.sets t r (k, inside, at) pin in
        let set : IsSet vars t = All-contains (IsSet vars) b.sets t block.sets among in
        outside (register_in vars (record { name = t.name; reg = r }) (pinned_in vars t.name t.pin set.pinned r pin))

    kept_memory : (w : World) (sets : List TargetTree) → new_memory [] w (sets_or_memory sets) ≡ set_value w (find (sets_name (codes "M")) sets) (memory w.memory_at_entry)
    kept_memory w [] = refl
    kept_memory w (t ∷ ts) = refl

    guard_same : (w : World) (o : Option WhenTree) → option_map_or (λ (k : WhenTree). is_zero (goal_value [] w k.guard)) o false ≡ is_left [] w (option_map (λ (k : WhenTree). k.guard) o)
    guard_same w None = refl
    guard_same w (Some k) = refl

    module _ (l : Listing) (h : IsListingOfBlock p b l) (as_it_is : expanded (goal_of_block p b) ≡ goal_of_block p b) where
      abbrev is : List Instr
      is = instrs_of l.items

      abbrev goal : GoalTree
      goal = goal_of_block p b

      count : length h.words ≡ length is
      count = sym (length-map h.words decoded) ∙ ap length h.are_words ∙ length-map is Some

      reached : (w : World) (e : End) (s : MachineState) (r : Runs h.words (entry_state w) e s) → after (length is) is (entry_state w) ≡ s
      reached w e s r =
          let same = some_alike r.instrs is (sym r.decode ∙ h.are_words) in
          (λ j. after (sym count j) (sym same j) (entry_state w)) ∙ r.steps

      said : (w : World) → IsWorld w → (left : Bool) → left_in w b ≡ left
          → DoesAsSaid goal w l.items h.words l.wheres (if left then exit else fall (new_words [] w goal.sets) (new_memory [] w goal.sets))
      said w is_world left e =
          subst (λ c. DoesAsSaid goal w l.items h.words l.wheres (if c then exit else fall (new_words [] w goal.sets) (new_memory [] w goal.sets)))
          (sym (guard_same w b.when) ∙ e)
          (subst (λ (x : GoalTree). DoesAsSaid x w l.items h.words l.wheres (if is_left [] w x.guard then exit else fall (new_words [] w x.sets) (new_memory [] w x.sets))) as_it_is
          (h.computes w is_world (record { axioms = All-nil (HoldsOfAll [] w); assumes = All-nil (IsMet [] w) })))

      module _ (w : World) (f : EndsWith goal w h.words l.wheres (new_words [] w goal.sets) (new_memory [] w goal.sets)) where
        abbrev at_end : MachineState
        at_end = f.state

        word_by : (v : InputReg) → Contains vars v → (o : Option TargetTree) → find (sets_name v.name) b.sets ≡ o
            → word (slice_index at_end.registers v.reg) ≡ set_value w o (word (slice_index w.registers v.reg))
        word_by v has None e =
            ap word (All-contains (λ (i : InputReg). ¬ IsPinOf goal i.reg → slice_index at_end.registers i.reg ≡ slice_index w.registers i.reg) vars v f.inputs has (no_pin v has e))
        word_by v has (Some t) e =
            let found = find_some (sets_name v.name) b.sets t e in
            let named = (bytes_eq-Decides t.name v.name).0 found.0 in
            let is_word : not (is_memory t) ≡ true = word_target t (λ m. not_memory v has (sym named ∙ m)) in
            kept_item (HasOwnValue at_end) (λ (t : TargetTree). not (is_memory t)) (new_value [] w) goal.sets f.pins t (in_targets b.sets t found.1) is_word v.reg (own_pin v has t found.1 named)
          where
            not_by : (b : Bool) → (b ≡ true → ⊥) → not b ≡ true
            not_by true never = absurd (never refl)
            not_by false never = refl

            word_target : (t : TargetTree) → t.name ≢ codes "M" → not (is_memory t) ≡ true
            word_target t other = not_by (is_memory t) (λ m. other ((bytes_eq-Decides t.name (codes "M")).0 m))

        falls_through : FallsThrough p b is w
        falls_through =
            let end = reached w _ at_end f.runs in
            record {
              ends = ap (λ m. m.pc) end ∙ f.runs.ends ∙ ap (λ n. 4 * n) count;
              words_are = λ v has. ap (λ m. word (slice_index m.registers v.reg)) end ∙ word_by v has (find (sets_name v.name) b.sets) refl;
              memory_is = ap (λ m. memory m.memory) end ∙ f.memory_is ∙ kept_memory w b.sets;
              others = λ r no_pool outside. ap (λ m. slice_index m.registers r) end ∙ f.others r no_pool (no_pin_outside r outside);
            }

      leaves_by : (w : World) → LeavesByBranch goal w l.items h.words → LeavesBy p is w
      leaves_by w k =
          let end = reached w _ k.state k.runs in
          record {
            ends = ap (λ m. m.pc) end ∙ k.runs.ends ∙ ap (λ n. 4 * n + 4) count;
            words_are = λ v has.
                ap (λ m. slice_index m.registers v.reg) end
                ∙ All-contains (λ (i : InputReg). slice_index k.state.registers i.reg ≡ slice_index w.registers i.reg) vars v k.inputs has;
            memory_is = ap (λ m. m.memory) end ∙ k.memory_is;
            others = λ r no_pool outside. ap (λ m. slice_index m.registers r) end ∙ k.others r no_pool (no_pin_outside r outside);
          }

      stands : BranchesLeave is
      stands k i there =
          let at = word_at h.words is h.are_words k i there in
          let may = subst (λ (o : Option Instr). IsSomeAnd o (IsAllowedAt (length h.words) k)) at.2 (h.may_run h.words h.are_words k at.0 at.1) in
          subst (λ n. IsAllowedAt n k i) count may

      pub does : Does p b is
      does = record {
        well_formed = All-map IsWellFormed (λ (a : Item). a.instr) l.items h.have_words;
        few = subst (λ n. n ≤ most_launches) (sym (length-map l.items (λ (a : Item). a.instr))) h.few;
        stand = stands;
        falls = λ w is_world e. falls_through w (said w is_world false e);
        leaves = λ w is_world e. leaves_by w (said w is_world true e);
      }
