-- A schedule without a branch: its words end past the last with each target's value in its place.
use Rattle.std.proofs.Common.{◌≡◌, ℕ, suc, ◌+◌, ◌*◌, List, [], ◌∷◌, length, refl, sym, ◌∙◌, ap, subst, inl, inr, arith, Bool, true, false, not, cond, get_or, map, ◌<◌, ◌≤◌, Option, Some, None}
use Rattle.std.specs.Prelude.{All, ◌==◌, ◌&&◌, is_some, Contains, slice_get, slice_index, filter, count_by, unwrap_or, option_and_then, take}
use Rattle.std.specs.List.{AllZip, list_any}
use Rattle.std.proofs.lemmas.Bool.{false≢true}
use Rattle.std.proofs.lemmas.List.{take_all}
use Rattle.std.proofs.lemmas.List.Elements.{All-head, All-tail, All-contains}
use Rattle.std.proofs.lemmas.Option.{same_Some, none-some}
use Rattle.word_ops.specs.Worlds.{World, Value, word}
use Rattle.graph_meaning.specs.Graphs.{is_memory_name, is_zero_class, memory_target, IsPin}
use Rattle.schedule_meaning.specs.Readers.{input_where, is_intact}
use Rattle.schedule_meaning.specs.Lifetimes.{is_unpinned_of, is_wanted}
use Rattle.schedule_meaning.specs.Launches.{HasInput, memory_after, pin_of, set_at, goes_to}
use Rattle.schedule_meaning.specs.Fits.{IsWhereWanted, IsReached as IsFound}
use Rattle.alpha_machine.specs.States.{MachineState}
use Rattle.alpha_machine.specs.Runs.{after}
use Rattle.register_assign.proofs.Reached.{HasReached, IsUntouched}
use Rattle.register_assign.proofs.First.{first_counted}
use Rattle.register_assign.proofs.Counts.{count_below}
use Rattle.register_assign.proofs.Destinations.{can_go, one_pin, reg_of_pin, none_31}
use Rattle.schedule_meaning.proofs.Pins.{any_at, go, goes_from, from_goes, number_same, pinned_from, written_from, pin_from}
use Rattle.schedule_meaning.proofs.Comparisons.{and_both}
use Rattle.schedule_meaning.proofs.Rules.{all_at, in_list}
use Rattle.schedule_meaning.specs.declared.schedules.To.TheVariants.{Set}
use Rattle.register_assign.specs.Listings.{items_from, items_of, wheres_of, target_register, target_place}
use Rattle.register_assign.specs.Outcomes.{entry_state, instrs_of, AreWordsOf, IsExit, Falls}
use Rattle.alpha_encode.specs.Decoded.{decoded}
use Rattle.register_assign.specs.declared.listings.Item.{Item}
use Rattle.graph_meaning.specs.declared.graphs.SetClass.{SetClass}
use Rattle.register_assign.specs.declared.listings.Where.{Where}
use Rattle.graph_meaning.specs.declared.graphs.LaunchGraph.{LaunchGraph}
use Rattle.machine_table.specs.declared.tables.Table.{Table}
use Rattle.schedule_meaning.specs.declared.schedules.Allocation.{Allocation}
use Rattle.schedule_meaning.specs.declared.schedules.Launch.{Launch}
use Rattle.schedule_meaning.proofs.Memory as mem
use Rattle.register_assign.proofs.Proper.{pool_low, inputs_apart}
use Rattle.register_assign.proofs.Scene.{IsScene, positive}
use Rattle.register_assign.proofs.Branch.{word_step}
use Rattle.std.proofs.lemmas.List.{length-map}
use Rattle.register_assign.proofs.Lasting.{lasts_in_pin, lasts_to_end}
use Rattle.register_assign.proofs.Reading.{place_reads}
use Rattle.register_assign.proofs.Quiet.{never_traps}
use Rattle.register_assign.proofs.Whole.{reached_after, reached_first}

pub words_count : (items : List Item) (words : List ℕ) → AreWordsOf items words → length words ≡ length (instrs_of items)
words_count items words are = sym (length-map words decoded) ∙ ap length are ∙ length-map (instrs_of items) Some

pub items_count : (g : LaunchGraph) (table : Table) (allocation : Allocation) (ordered : List Launch) (i : ℕ)
    (ls : List Launch) → length (instrs_of (items_from g table allocation ordered i ls)) ≡ length ls
items_count g table allocation ordered i [] = refl
items_count g table allocation ordered i (l ∷ ls) = ap suc (items_count g table allocation ordered (i + 1) ls)

module _ (g : LaunchGraph) (table : Table) (allocation : Allocation) (k : ℕ) (ordered : List Launch) (w : World)
    (value : ℕ → Value)
    (scene : IsScene g table allocation k ordered w value) (no_exit : ¬ IsExit g value)
    (words : List ℕ) (are : AreWordsOf (items_of g table allocation ordered) words) where
  abbrev final : MachineState
  final = after (length words) (instrs_of (items_of g table allocation ordered)) (entry_state w)

  count : length words ≡ length ordered
  count = words_count (items_of g table allocation ordered) words are ∙ items_count g table allocation ordered 0 ordered

  reached_at : (n : ℕ) → n ≤ length ordered → HasReached g allocation w value ordered n (after n (instrs_of (items_of g table allocation ordered)) (entry_state w))
  reached_at n le =
      reached_after g table allocation ordered w value (length ordered) (λ n l s lt here reached. word_step g table allocation k ordered w value scene n l here s reached no_exit) (λ n l s lt here reached. never_traps g table allocation k ordered w value scene n l s reached here) n le le (reached_first g allocation w value ordered scene.world scene.true_in)

  final_reached : HasReached g allocation w value ordered (length ordered) final
  final_reached =
      subst (λ n. HasReached g allocation w value ordered (length ordered) (after n (instrs_of (items_of g table allocation ordered)) (entry_state w))) (sym count)
      (reached_after g table allocation ordered w value (length ordered) (λ n l s lt here reached. word_step g table allocation k ordered w value scene n l here s reached no_exit) (λ n l s lt here reached. never_traps g table allocation k ordered w value scene n l s reached here) (length ordered) (omega arith) (omega arith) (reached_first g allocation w value ordered scene.world scene.true_in))

  -- the launch that goes to a pinned set leaves its class's value in the pin
  pinned_value : (j : ℕ) (s : SetClass) (r : ℕ) → slice_get g.sets j ≡ Some s → s.pin ≡ Some r → (p : ℕ) (m : Launch) → slice_get ordered p ≡ Some m → goes_to j m ≡ true → word (slice_index final.registers r) ≡ value s.class
  pinned_value j s r e pin p m at t =
      let to : m.to ≡ Set j = goes_from g j m t in
      let wrote : pin_of g m.to ≡ Some r = ap (pin_of g) to ∙ ap (option_and_then (λ s. s.pin)) e ∙ pin in
      let goes = can_go g table allocation k ordered scene.graph scene.proper scene.fits p m at in
      elim (go g allocation ordered m goes) [
        | inl q ↦ absurd (none-some r (sym q.1 ∙ wrote))
        | inr (q, t, there, v, c) ↦ (
            let same : t ≡ s = same_Some t s (sym there ∙ ap (set_at g) to ∙ e) in
            ap (λ x. word (slice_index final.registers x)) (sym (reg_of_pin g table allocation k ordered scene.graph scene.proper scene.fits p m r at wrote))
            ∙ final_reached.given p m (in_list ordered p m at) at c.gives.0
            (lasts_in_pin g table allocation k ordered scene.graph scene.proper scene.fits scene.is_table scene.order p
            (length ordered) j m at c.gives.0 to)
            ∙ ap value (c.gives.1 ∙ ap (λ x. x.class) same))
      ]

  -- a pinned set to which no launch goes is that of its input
  nothing_goes : (j : ℕ) (s : SetClass) (r : ℕ) → slice_get g.sets j ≡ Some s → s.pin ≡ Some r → count_by (goes_to j) ordered ≡ 0 → IsUntouched g ordered (length ordered) r
  nothing_goes j s r e pin none p m lt at wrote =
      let q = pinned_from g m.to r (written_from g r m wrote) in
      let same : q.0 ≡ j = one_pin g table allocation k ordered scene.graph scene.proper scene.fits q.0 j r q.1 s q.3 e q.4 pin in
      let some : count_by (goes_to j) (take p ordered) < count_by (goes_to j) ordered = count_below (goes_to j) ordered p m at (from_goes g j m (q.2 ∙ ap Set same)) in
      absurd (omega arith)

  input_stays : (j : ℕ) (s : SetClass) (r : ℕ) → slice_get g.sets j ≡ Some s → s.pin ≡ Some r → count_by (goes_to j) ordered ≡ 0 → HasInput g s.class (λ q. q ≡ r) → word (slice_index final.registers r) ≡ value s.class
  input_stays j s r e pin none h =
      let i = h.1 in
      let reg : i.reg ≡ r = h.4.1 in
      let out : ¬ Contains g.pool r = subst (λ q. ¬ Contains g.pool q) reg (All-contains (λ i. ¬ Contains g.pool i.reg) g.inputs i (inputs_apart g scene.proper) (h.0, h.2, h.3)) in
      ap word (final_reached.kept r out (nothing_goes j s r e pin none))
      ∙ ap (λ q. word (slice_index w.registers q)) (sym reg)
      ∙ sym (All-contains (λ i. value i.class ≡ word (slice_index w.registers i.reg)) g.inputs i scene.true_in.inputs (h.0, h.2, h.3))
      ∙ ap value h.4.0

  pin_holds : (j : ℕ) (s : SetClass) (r : ℕ) → slice_get g.sets j ≡ Some s → s.pin ≡ Some r → IsWhereWanted g ordered j s (Some r) → word (slice_index final.registers r) ≡ value s.class
  pin_holds j s r e pin (inl one) =
      let f = first_counted (goes_to j) ordered (let c : count_by (goes_to j) ordered ≡ 1 = one in omega arith) in
      pinned_value j s r e pin f.0 f.1 f.2 f.3
  pin_holds j s r e pin (inr h) = input_stays j s r e pin h.0 h.1

  -- a target without a pin that is in a launch's register is kept there
  wanted : (j : ℕ) (s : SetClass) → slice_get g.sets j ≡ Some s → is_memory_name s.name ≡ false → s.pin ≡ None
      → is_zero_class g s.class ≡ false → input_where g (is_intact g ordered None) s.class ≡ None
      → is_wanted g ordered s.class ≡ true
  wanted j s e no_memory pin no_zero no_input =
      and_both (list_any (is_unpinned_of s.class) g.sets)
      (not (is_zero_class g s.class) && not (is_some (input_where g (is_intact g ordered None) s.class)))
      (any_at (is_unpinned_of s.class) g.sets j s e
      (and_both (s.class == s.class) (not (is_memory_name s.name) && not (is_some s.pin))
      (number_same s.class s.class refl)
      (and_both (not (is_memory_name s.name)) (not (is_some s.pin)) (ap not no_memory)
      (ap (λ (o : Option ℕ). not (is_some o)) pin))))
      (and_both (not (is_zero_class g s.class)) (not (is_some (input_where g (is_intact g ordered None) s.class)))
      (ap not no_zero) (ap (λ (o : Option ℕ). not (is_some o)) no_input))

  place_by : (j : ℕ) (s : SetClass) → slice_get g.sets j ≡ Some s → is_memory_name s.name ≡ false → (o : Option ℕ)
      → s.pin ≡ o → IsWhereWanted g ordered j s o
      → word (slice_index final.registers (unwrap_or o (target_register g table allocation ordered s.class)))
      ≡ value s.class
  place_by j s e no_memory None pin h =
      place_reads g table allocation ordered w value scene.true_in scene.world.zero_register (pool_low g scene.proper)
      (inputs_apart g scene.proper) (none_31 g table allocation k ordered scene.graph scene.proper scene.fits)
      scene.fits.apart scene.order (positive g table allocation k ordered w value scene) final final_reached s.class
      (λ no_zero no_input p m at gives is. lasts_to_end g table allocation k ordered scene.graph scene.proper scene.fits
      scene.is_table scene.order s.class (wanted j s e no_memory pin no_zero no_input) p m at gives is)
      h
  place_by j s e no_memory (Some r) pin h = pin_holds j s r e pin h

  place_value : (j : ℕ) (s : SetClass) → slice_get g.sets j ≡ Some s → is_memory_name s.name ≡ false → IsFound g ordered j s → word (slice_index final.registers (target_place g table allocation ordered s)) ≡ value s.class
  place_value j s e no_memory (inl m) = absurd (false≢true (sym no_memory ∙ m))
  place_value j s e no_memory (inr h) = place_by j s e no_memory s.pin refl h

  abbrev HoldsValue : SetClass → Type 0
  HoldsValue s = is_memory_name s.name ≡ false → word (slice_index final.registers (target_place g table allocation ordered s)) ≡ value s.class

  all_hold : All HoldsValue g.sets
  all_hold = all_at HoldsValue g.sets (λ j s lt e no_memory. place_value j s e no_memory (scene.fits.targets j s e))

  abbrev IsPlace : Where → SetClass → Type 0
  IsPlace p s = (p.name ≡ s.name) × (word (slice_index final.registers p.reg) ≡ value s.class)

  abbrev where_of : SetClass → Where
  where_of s = record { name = s.name; reg = target_place g table allocation ordered s }

  targets_step : (s : SetClass) (ss : List SetClass) (b : Bool) → is_memory_name s.name ≡ b → HoldsValue s → AllZip IsPlace (map where_of (filter (λ s. not (is_memory_name s.name)) ss)) (filter (λ s. not (is_memory_name s.name)) ss) → AllZip IsPlace (map where_of (cond (not b) (s ∷ filter (λ s. not (is_memory_name s.name)) ss) (filter (λ s. not (is_memory_name s.name)) ss))) (cond (not b) (s ∷ filter (λ s. not (is_memory_name s.name)) ss) (filter (λ s. not (is_memory_name s.name)) ss))
  targets_step s ss true e h rest = rest
  targets_step s ss false e h rest = ((refl, h e), rest)

  targets_from : (ss : List SetClass) → All HoldsValue ss → AllZip IsPlace (map where_of (filter (λ s. not (is_memory_name s.name)) ss)) (filter (λ s. not (is_memory_name s.name)) ss)
  targets_from [] h = tt
  targets_from (s ∷ ss) h = targets_step s ss (is_memory_name s.name) refl (All-head HoldsValue s ss h) (targets_from ss (All-tail HoldsValue s ss h))

  memory_left : memory_after g ordered ≡ memory_target g
  memory_left =
      let t = mem.after_all ordered in
      mem.after_is_before g ordered t.0 t.1 ∙ mem.left_once g ordered scene.fits.memory.single t.0 _ _ (mem.memory_before_is g t.0 ordered) (scene.fits.memory.last t.0 t.1)

  -- a register that is no pin is never written but as one of the pool
  unpinned : (r : ℕ) → ¬ IsPin g r → IsUntouched g ordered (length ordered) r
  unpinned r no_pin j m lt e wrote = no_pin (pin_from g r m wrote)

  pub falls : Falls g w value words (wheres_of g table allocation ordered)
  falls = record {
    state = final;
    runs = record {
      instrs = instrs_of (items_of g table allocation ordered);
      decode = are;
      begins = refl;
      steps = refl;
      ends = final_reached.pc ∙ ap (λ n. 4 * n) (sym count);
    };
    targets = targets_from g.sets all_hold;
    memory_is = final_reached.memory_is ∙ ap (λ ls. value (memory_after g ls)) (take_all (length ordered) ordered (omega arith)) ∙ ap value memory_left;
    inputs = λ i d lt no_pin. final_reached.kept (get_or g.inputs i d).reg (inputs_apart g scene.proper i d lt) (unpinned (get_or g.inputs i d).reg no_pin);
    others = λ r out no_pin. final_reached.kept r out (unpinned r no_pin);
    each = λ n le. (reached_at n (let c = count in omega arith)).pc;
  }
