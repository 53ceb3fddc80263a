-- The names and registers of targets that right results tell, and their words.
use Rattle.std.proofs.Common.{◌≡◌, ◌==◌, ℕ, zero, suc, ◌<◌, ◌≤◌, ◌^◌, ◌⊎◌, inl, inr, ◌&&◌, cond, Bool, true, false, not, List, [], ◌∷◌, length, map, refl, sym, subst, arith, Option, Some, None}
use Rattle.std.specs.Prelude.{All, IfSome, IsTrue, is_some, slice_get, slice_index, find, position, option_and_then, option_map, unwrap_or}
use Rattle.std.specs.Option.{option_map_or}
use Rattle.std.proofs.lemmas.Bool.{cases_lt}
use Rattle.std.proofs.lemmas.List.{get_or_past}
use Rattle.std.proofs.lemmas.List.Elements.{All-cons, All-head, All-tail, All-map, All-weaker, All-filter}
use Rattle.alpha_encode.specs.Decoded.{decoded}
use Rattle.alpha_encode.specs.declared.instructions.Instr.{Instr}
use Rattle.answer_texts.specs.AnswerParts.{AreCodes, AreWherePlaces, IsCode, IsPlace}
use Rattle.graph_meaning.specs.Graphs.{is_memory_name, is_zero_class}
use Rattle.graph_meaning.specs.WellFormed.{IsLaunchGraph}
use Rattle.graph_meaning.specs.declared.graphs.InputClass.{InputClass}
use Rattle.graph_meaning.specs.declared.graphs.LaunchGraph.{LaunchGraph}
use Rattle.graph_meaning.specs.declared.graphs.SetClass.{SetClass}
use Rattle.machine_table.specs.declared.tables.Table.{Table}
use Rattle.register_assign.specs.Listings.{IsListing, or_register, pin_at, register_at, target_place, target_register, word_targets}
use Rattle.register_assign.specs.PoolPlaces.{pool_place}
use Rattle.register_assign.specs.declared.listings.Item.{Item}
use Rattle.register_assign.specs.declared.listings.Where.{Where}
use Rattle.schedule_meaning.specs.Launches.{gives, pin_of}
use Rattle.schedule_meaning.specs.Readers.{input_where, is_intact, passes}
use Rattle.schedule_meaning.specs.declared.schedules.To.{To}
use Rattle.schedule_meaning.specs.declared.schedules.To.TheVariants.{Pool, Set}
use Rattle.schedule_meaning.specs.declared.schedules.Allocation.{Allocation}
use Rattle.schedule_meaning.specs.declared.schedules.Launch.{Launch}
use Rattle.text_core.specs.Names.{IsName}
use Rattle.denali_run.proofs.SameParts.{head_same, rest_same}

module _ (g : LaunchGraph) (is : IsLaunchGraph g) where
  in_pool : (pool : List ℕ) (n : ℕ) (b : (n < length pool) ⊎ (length pool ≤ n)) → All (λ r. r < 31) pool
      → slice_index pool n < 32
  in_pool pool n (inl lt) each = (let low : slice_index pool n < 31 = each n 0 lt in omega (arith, low))
  in_pool pool n (inr past) each = subst (λ r. r < 32) (sym (get_or_past pool n 0 past)) (omega arith)

  pinned_or : (r : ℕ) (o : Option ℕ) → IfSome o (λ n. n < 31) → r < 32 → unwrap_or o r < 32
  pinned_or r None low less = less
  pinned_or r (Some n) low less = omega (arith, low)

  set_pin : (sets : List SetClass) (j : ℕ) → All (λ (s : SetClass). IfSome s.pin (λ r. r < 31)) sets
      → IfSome (option_and_then (λ (s : SetClass). s.pin) (slice_get sets j)) (λ r. r < 31)
  set_pin [] j each = tt
  set_pin (s ∷ sets) zero each = All-head (λ (s : SetClass). IfSome s.pin (λ r. r < 31)) s sets each
  set_pin (s ∷ sets) (suc j) each =
      set_pin sets j (All-tail (λ (s : SetClass). IfSome s.pin (λ r. r < 31)) s sets each)

  pin_low : (to : To) → IfSome (pin_of g to) (λ r. r < 31)
  pin_low Pool = tt
  pin_low (Set j) = set_pin g.sets j is.pins

  launch_pin : (o : Option Launch) → IfSome (option_and_then (λ (l : Launch). pin_of g l.to) o) (λ r. r < 31)
  launch_pin None = tt
  launch_pin (Some l) = pin_low l.to

  at_place : (al : Allocation) (ordered : List Launch) (o : Option ℕ) → option_map_or (register_at g al ordered) o 31 < 32
  at_place al ordered None = omega arith
  at_place al ordered (Some i) =
      pinned_or (slice_index g.pool (pool_place g al ordered i)) (pin_at g ordered i)
      (launch_pin (slice_get ordered i))
      (in_pool g.pool (pool_place g al ordered i) (cases_lt (pool_place g al ordered i) (length g.pool)) is.pool)

  found_input : (o : Option InputClass) → IfSome o (λ (i : InputClass). i.reg < 31) → (r : ℕ) → r < 32
      → or_register (option_map (λ (i : InputClass). i.reg) o) r < 32
  found_input None low r less = less
  found_input (Some i) low r less = omega (arith, low)

  find_low : (test : InputClass → Bool) (inputs : List InputClass) → All (λ (i : InputClass). i.reg < 31) inputs
      → IfSome (find test inputs) (λ (i : InputClass). i.reg < 31)
  find_low test [] each = tt
  find_low test (i ∷ inputs) each = find_first (test i) (All-head (λ (i : InputClass). i.reg < 31) i inputs each)
      (find_low test inputs (All-tail (λ (i : InputClass). i.reg < 31) i inputs each))
    where
      find_first : (b : Bool) → i.reg < 31 → IfSome (find test inputs) (λ (i : InputClass). i.reg < 31)
          → IfSome (cond b (Some i) (find test inputs)) (λ (i : InputClass). i.reg < 31)
      find_first true own rest = own
      find_first false own rest = rest

  by_zero : (b : Bool) (r : ℕ) → r < 32 → cond b 31 r < 32
  by_zero true r low = omega arith
  by_zero false r low = low

  -- the register of a target is one of the 32
  target_low : (table : Table) (al : Allocation) (ordered : List Launch) (class : ℕ) → target_register g table al ordered class < 32
  target_low table al ordered class =
      let last = option_map_or (register_at g al ordered)
      (position (λ (l : Launch). gives g class l && passes g table None l) ordered) 31 in
      let test : InputClass → Bool = λ i. (i.class == class) && is_intact g ordered None i.reg in
      let low : All (λ (i : InputClass). i.reg < 31) g.inputs = λ k d lt. (is.inputs k d lt).1 in
      by_zero (is_zero_class g class)
      (or_register (input_where g (is_intact g ordered None) class) last)
      (found_input (find test g.inputs)
      (find_low test g.inputs low) last
      (at_place al ordered (position (λ (l : Launch). gives g class l && passes g table None l) ordered)))

  abbrev where_of : Table → Allocation → List Launch → SetClass → Where
  where_of table al ordered s = record { name = s.name; reg = target_place g table al ordered s }

  pub are_places : (table : Table) (al : Allocation) (ls : List Launch) (items : List Item) (wheres : List Where)
      → IsListing g table al ls items wheres → AreWherePlaces wheres
  are_places table al ls items wheres listing =
      let P : SetClass → Type 0 = λ s. IsName s.name × IfSome s.pin (λ r. r < 31) in
      let each : All P g.sets = λ k d lt. (is.names.1 k d lt, is.pins k d lt) in
      subst (All IsPlace) (sym listing.wheres_are)
      (All-map IsPlace (where_of table al listing.ordered) (word_targets g)
      (All-weaker P (λ (s : SetClass). IsPlace (where_of table al listing.ordered s))
      (λ s named. (
        named.0,
        pinned_or (target_register g table al listing.ordered s.class) s.pin named.1
            (target_low table al listing.ordered s.class),
      )) (word_targets g)
      (All-filter (λ (s : SetClass). not (is_memory_name s.name)) P g.sets each)))

-- words of instructions are words of the machine
pub are_codes : (instrs : List Instr) (words : List ℕ) → All (λ word. word < 2 ^ 32) words
    → map decoded words ≡ map Some instrs → AreCodes words
are_codes instrs [] low is = λ i d lt. absurd (omega (arith, lt))
are_codes [] (w ∷ ws) low is = cc
are_codes (i ∷ instrs) (w ∷ ws) low is =
    All-cons IsCode w ws (
      All-head (λ word. word < 2 ^ 32) w ws low,
      subst (λ o. IsTrue (is_some o)) (sym (head_same (decoded w) (Some i) (map decoded ws) (map Some instrs) is)) refl,
    )
    (are_codes instrs ws (All-tail (λ word. word < 2 ^ 32) w ws low)
    (rest_same (decoded w) (Some i) (map decoded ws) (map Some instrs) is))
