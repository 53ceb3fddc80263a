-- Where no set has a pin: nothing is overwritten, no row's number is a copy's, and the rules are those without pins.
use Rattle.std.proofs.Common.{◌≡◌, ℕ, ◌+◌, ◌-◌, ◌≤◌, List, [], ◌∷◌, length, refl, sym, ◌∙◌, ap, subst, inl, inr, ◌⊎◌, Bool, true, false, cond, ◌&&◌, get_or, Option, Some, None}
use Rattle.std.specs.Prelude.{All, IsSomeAnd, find, is_some, slice_get, count_by, nat_lt, not, option_map, option_and_then, unwrap_or, ◌==◌, ◌||◌, if◌then◌else◌}
use Rattle.std.specs.Option.{option_map_or}
use Rattle.std.specs.List.{list_any}
use Rattle.std.proofs.lemmas.Bool.{false≢true}
use Rattle.std.proofs.lemmas.Option.{none-some}
use Rattle.std.proofs.lemmas.List.Sums.{sum_by-cons}
use Rattle.std.proofs.lemmas.List.Elements.{All-head, All-tail, All-weaker}
use Rattle.graph_meaning.specs.Graphs.{HasNoPins, is_input_register, is_memory_name, is_zero_class}
use Rattle.machine_table.specs.Tables.{cluster_of}
use Rattle.machine_table.specs.declared.tables.Table.{Table}
use Rattle.word_ops.specs.declared.operates.Operate.TheVariants.{Bis}
use Rattle.machine_table.specs.declared.tables.InstrKind.TheVariants.{Operate, Beq}
use Rattle.graph_meaning.specs.declared.graphs.InputClass.{InputClass}
use Rattle.graph_meaning.specs.declared.graphs.SetClass.{SetClass}
use Rattle.graph_meaning.specs.declared.graphs.LaunchGraph.{LaunchGraph}
use Rattle.schedule_meaning.specs.Launches.{launches, gives_word, is_held, takes_pool, is_pool, pin_of, writes_pin, overwrites, spoils, collides, reads_until, pinned_class, copied_at, instr_at, class_at, operands_at, copy_operands, op_instr, guard_operands, row_operands, kind_group, group_of, IsFree, IsReadable}
use Rattle.schedule_meaning.specs.declared.schedules.Operand.{Operand}
use Rattle.schedule_meaning.specs.Readers.{input_where, is_intact, touches}
use Rattle.schedule_meaning.specs.Lifetimes.{holds, is_needed, is_read_from, is_unpinned_of, is_wanted}
use Rattle.schedule_meaning.specs.Fits.{CanGo, CanGoTo, CanGoToPin, HasRoom, CanRead, IsWhereWanted, IsReached, Waits, Fits}
use Rattle.schedule_meaning.specs.Plain.{FitsWithoutPins, HasPlainRoom, holds_plain, is_wanted_plain, IsPlainReadable, CanReadPlain, IsPlainReached, WaitsPlain, plain_instr_at, plain_class_at, plain_operands_at}
use Rattle.schedule_meaning.specs.declared.schedules.To.{To}
use Rattle.schedule_meaning.specs.declared.schedules.To.TheVariants.{Pool, Set}
use Rattle.schedule_meaning.specs.declared.schedules.Allocation.{Allocation}
use Rattle.schedule_meaning.specs.declared.schedules.Allocation.TheVariants.{Block, Live}
use Rattle.schedule_meaning.specs.declared.schedules.Launch.{Launch}
use Rattle.schedule_meaning.proofs.Pins.{none_from}
use Rattle.schedule_meaning.proofs.Rules.{at_each, all_at}

count_same : (p q : Launch → Bool) (xs : List Launch) → All (λ x. p x ≡ q x) xs → count_by p xs ≡ count_by q xs
count_same p q [] h = refl
count_same p q (x ∷ xs) h =
    let f : Launch → ℕ = λ x. cond {A = ℕ} (p x) 1 0 in
    let d : Launch → ℕ = λ x. cond {A = ℕ} (q x) 1 0 in
    sum_by-cons f x xs
    ∙ ap (λ b. cond {A = ℕ} b 1 0 + count_by p xs) (All-head (λ x. p x ≡ q x) x xs h)
    ∙ ap (λ n. d x + n) (count_same p q xs (All-tail (λ x. p x ≡ q x) x xs h))
    ∙ sym (sum_by-cons d x xs)

and_true : (b : Bool) → (b && true) ≡ b
and_true true = refl
and_true false = refl

any_same : {X : Type 0} (p q : X → Bool) (xs : List X) → All (λ x. p x ≡ q x) xs → list_any p xs ≡ list_any q xs
any_same p q [] h = refl
any_same p q (x ∷ xs) h =
    ap (λ b. b || list_any p xs) (All-head (λ x. p x ≡ q x) x xs h)
    ∙ ap (λ b. q x || b) (any_same p q xs (All-tail (λ x. p x ≡ q x) x xs h))

found_by : {X Y : Type 0} (f : X → Y) (p : X → Bool) (x : X) (xs : List X) (b : Bool)
    → is_some (option_map f (find p xs)) ≡ list_any p xs
    → is_some (option_map f (cond b (Some x) (find p xs))) ≡ (b || list_any p xs)
found_by f p x xs true rest = refl
found_by f p x xs false rest = rest

found_is : {X Y : Type 0} (f : X → Y) (p : X → Bool) (xs : List X) → is_some (option_map f (find p xs)) ≡ list_any p xs
found_is f p [] = refl
found_is f p (x ∷ xs) = found_by f p x xs (p x) (found_is f p xs)

module _ (g : LaunchGraph) (no_pins : HasNoPins g) where
  no_pin_of : (j : ℕ) (o : Option SetClass) → slice_get g.sets j ≡ o → option_and_then (λ s. s.pin) o ≡ None
  no_pin_of j None e = refl
  no_pin_of j (Some s) e = at_each (λ s. s.pin ≡ None) g.sets no_pins j s e

  pub nothing_written : (to : To) → pin_of g to ≡ None
  nothing_written Pool = refl
  nothing_written (Set j) = no_pin_of j (slice_get g.sets j) refl

  pub not_overwriting : (l : Launch) → overwrites g l ≡ false
  not_overwriting l = ap (λ o. option_map_or (is_input_register g) o false) (nothing_written l.to)

  pub not_writing : (r : ℕ) (l : Launch) → writes_pin g r l ≡ false
  not_writing r l = ap (λ o. option_map_or (λ q. q == r) o false) (nothing_written l.to)

  pub not_spoiling : (l : Launch) (r : ℕ) (m : Launch) → spoils g l r m ≡ false
  not_spoiling l r m = ap (λ b. b && (not (collides l m) && nat_lt m.cycle (reads_until g l))) (not_writing r m)

  no_class : (j : ℕ) (o : Option SetClass) → slice_get g.sets j ≡ o → pinned_class o ≡ None
  no_class j None e = refl
  no_class j (Some s) e = ap (λ o. option_map (λ r. s.class) o) (at_each (λ s. s.pin ≡ None) g.sets no_pins j s e)

  either_none : (b : Bool) (o : Option ℕ) → o ≡ None → cond b o None ≡ None
  either_none true o e = e
  either_none false o e = refl

  pub no_copy : (row : ℕ) → copied_at g row ≡ None
  no_copy row =
      let j : ℕ = row - (length g.rows + 1) in
      either_none (nat_lt (length g.rows) row) (pinned_class (slice_get g.sets j)) (no_class j (slice_get g.sets j) refl)

  pub plain_rows : (row : ℕ) → (instr_at g row ≡ plain_instr_at g row) × (class_at g row ≡ plain_class_at g row) × (operands_at g row ≡ plain_operands_at g row)
  plain_rows row = (
    ap (λ o. if row == length g.rows then option_map (λ _. Beq) g.guard else option_map_or (λ class. Some (Operate Bis)) o (option_and_then (λ r. op_instr g r.op r.operands) (slice_get g.rows row))) (no_copy row),
    ap (λ o. unwrap_or o (option_map_or (λ r. r.class) (slice_get g.rows row) 0)) (no_copy row),
    ap (λ o. if row == length g.rows then guard_operands g.guard else option_map_or copy_operands o (row_operands (slice_get g.rows row))) (no_copy row),
  )

  pub plain_groups : (l : Launch) → (overwrites g l ≡ false) × (group_of g l ≡ kind_group (is_held g) (plain_instr_at g l.row))
  plain_groups l = (
    not_overwriting l,
    ap (λ b. if b then 4 else kind_group (is_held g) (instr_at g l.row)) (not_overwriting l) ∙ ap (kind_group (is_held g)) (plain_rows l.row).0,
  )

  -- ---- registers of the pool

  takes_is : (l : Launch) → l.to ≡ Pool → takes_pool g l ≡ launches g gives_word l
  takes_is l e = ap (λ to. is_pool to && launches g gives_word l) e

  intact : (ls : List Launch) (r : ℕ) → is_intact g ls None r ≡ true
  intact ls r =
      none_from (touches g None r) ls (λ k d lt t. false≢true (sym (not_writing r (get_or ls k d)) ∙ t))

  -- each input holds its word for good
  input_is : (ls : List Launch) (class : ℕ)
      → is_some (input_where g (is_intact g ls None) class) ≡ list_any (λ i. i.class == class) g.inputs
  input_is ls class =
      found_is (λ (i : InputClass). i.reg) (λ (i : InputClass). (i.class == class) && is_intact g ls None i.reg)
      g.inputs
      ∙ any_same (λ (i : InputClass). (i.class == class) && is_intact g ls None i.reg)
      (λ (i : InputClass). i.class == class) g.inputs
      (λ k d lt. let i = get_or g.inputs k d in ap (λ b. (i.class == class) && b) (intact ls i.reg) ∙ and_true
      (i.class == class))

  -- each word target has no pin
  unpinned_is : (class : ℕ) → list_any (is_unpinned_of class) g.sets ≡ list_any
      (λ s. (s.class == class) && not (is_memory_name s.name)) g.sets
  unpinned_is class =
      any_same (is_unpinned_of class) (λ (s : SetClass). (s.class == class) && not (is_memory_name s.name)) g.sets
      (λ k d lt.
      let s = get_or g.sets k d in
      ap (λ o. (s.class == class) && (not (is_memory_name s.name) && not (is_some o))) (no_pins k d lt)
      ∙ ap (λ b. (s.class == class) && b) (and_true (not (is_memory_name s.name))))

  wanted_is : (ls : List Launch) (class : ℕ) → is_wanted g ls class ≡ is_wanted_plain g class
  wanted_is ls class =
      ap (λ b. b && (not (is_zero_class g class) && not (is_some (input_where g (is_intact g ls None) class))))
      (unpinned_is class)
      ∙ ap (λ b. list_any (λ (s : SetClass). (s.class == class) && not (is_memory_name s.name))
      g.sets && (not (is_zero_class g class) && not b)) (input_is ls class)

  holds_is : (ls : List Launch) (t : ℕ) (l : Launch) → l.to ≡ Pool → holds g Live ls t l ≡ holds_plain g ls t l
  holds_is ls t l e =
      ap (λ b. b && ((l.cycle == t) || (nat_lt l.cycle t && is_needed g ls t (class_at g l.row)))) (takes_is l e)
      ∙ ap (λ b. launches g gives_word
      l && ((l.cycle == t) || (nat_lt l.cycle t && (is_read_from g ls t (class_at g l.row) || b))))
      (wanted_is ls (class_at g l.row))

  module _ (ls : List Launch) (pool : All (λ l. l.to ≡ Pool) ls) where
    taken_is : count_by (takes_pool g) ls ≡ count_by (launches g gives_word) ls
    taken_is =
        count_same (takes_pool g) (launches g gives_word) ls
        (All-weaker (λ l. l.to ≡ Pool) (λ l. takes_pool g l ≡ launches g gives_word l) takes_is ls pool)

    held_is : (t : ℕ) → count_by (holds g Live ls t) ls ≡ count_by (holds_plain g ls t) ls
    held_is t =
        count_same (holds g Live ls t) (holds_plain g ls t) ls
        (All-weaker (λ l. l.to ≡ Pool) (λ l. holds g Live ls t l ≡ holds_plain g ls t l) (holds_is ls t) ls pool)

  room_plain : (allocation : Allocation) (k : ℕ) (ls : List Launch) → All (λ l. l.to ≡ Pool) ls
      → HasRoom g allocation k ls → HasPlainRoom g allocation k ls
  room_plain Block k ls pool h = subst (λ n. n ≤ length g.pool) (taken_is ls pool) h
  room_plain Live k ls pool h = λ t lt. subst (λ n. n ≤ length g.pool) (held_is ls pool t) (h t lt)

  room_again : (allocation : Allocation) (k : ℕ) (ls : List Launch) → All (λ l. l.to ≡ Pool) ls
      → HasPlainRoom g allocation k ls → HasRoom g allocation k ls
  room_again Block k ls pool h = subst (λ n. n ≤ length g.pool) (sym (taken_is ls pool)) h
  room_again Live k ls pool h = λ t lt. subst (λ n. n ≤ length g.pool) (sym (held_is ls pool t)) (h t lt)

  module _ (table : Table) (allocation : Allocation) (k : ℕ) (ls : List Launch) where
    -- ---- all go to the pool

    no_set : (l : Launch) (j : ℕ) (o : Option SetClass) → slice_get g.sets j ≡ o
        → IsSomeAnd o (λ s. IsSomeAnd s.pin (CanGoToPin g allocation ls l s)) → ⊥
    no_set l j None e h = h
    no_set l j (Some s) e h =
        subst (λ o. IsSomeAnd o (CanGoToPin g allocation ls l s)) (at_each (λ s. s.pin ≡ None) g.sets no_pins j s e) h

    to_pool : (l : Launch) (to : To) → CanGoTo g allocation ls l to → to ≡ Pool
    to_pool l Pool h = refl
    to_pool l (Set j) h = absurd (no_set l j (slice_get g.sets j) refl h)

    can_go : (l : Launch) → l.to ≡ Pool → CanGo g allocation ls l
    can_go l e = subst (CanGoTo g allocation ls l) (sym e) tt

    -- ---- operands and targets

    read_plain : (l : Launch) (o : Operand) → IsFree g o ⊎ IsReadable g table ls l o.class → IsFree g o ⊎ IsPlainReadable g table ls o.class l.cycle (cluster_of table l.slot)
    read_plain l o (inl f) = inl f
    read_plain l o (inr (inl h)) = inr (inl (h.0, h.1, h.2, h.3, h.4.0))
    read_plain l o (inr (inr a)) = inr (inr a)

    read_again : (l : Launch) (o : Operand) → IsFree g o ⊎ IsPlainReadable g table ls o.class l.cycle (cluster_of table l.slot) → IsFree g o ⊎ IsReadable g table ls l o.class
    read_again l o (inl f) = inl f
    read_again l o (inr (inl h)) =
        inr (inl (h.0, h.1, h.2, h.3, (h.4, λ k d lt t. false≢true (sym (not_spoiling l h.1.reg (get_or ls k d)) ∙ t))))
    read_again l o (inr (inr a)) = inr (inr a)

    place_plain : (j : ℕ) (s : SetClass) (o : Option ℕ) → o ≡ None → IsWhereWanted g ls j s o → IsPlainReached g ls s
    place_plain j s None e (inl h) = inr (inl (h.0, h.1, h.2, h.3, h.4.0))
    place_plain j s None e (inr (inl z)) = inr (inr (inl z))
    place_plain j s None e (inr (inr a)) = inr (inr (inr a))
    place_plain j s (Some r) e h = absurd (none-some r (sym e))

    reached_plain : (j : ℕ) (s : SetClass) → s.pin ≡ None → IsReached g ls j s → IsPlainReached g ls s
    reached_plain j s e (inl m) = inl m
    reached_plain j s e (inr h) = place_plain j s s.pin e h

    reached_again : (j : ℕ) (s : SetClass) → s.pin ≡ None → IsPlainReached g ls s → IsReached g ls j s
    reached_again j s e (inl m) = inl m
    reached_again j s e (inr (inl h)) =
        inr (subst (IsWhereWanted g ls j s) (sym e) (inl (h.0, h.1, h.2, h.3, (h.4, λ k d lt t. false≢true (sym (not_writing h.1.reg (get_or ls k d)) ∙ t)))))
    reached_again j s e (inr (inr (inl z))) = inr (subst (IsWhereWanted g ls j s) (sym e) (inr (inl z)))
    reached_again j s e (inr (inr (inr a))) = inr (subst (IsWhereWanted g ls j s) (sym e) (inr (inr a)))

    -- ---- the branch

    waits_plain : (l : Launch) → Waits g ls l → WaitsPlain g ls l
    waits_plain l h (inl s) = h (inl s)
    waits_plain l h (inr q) = h (inr (inl q))

    waits_again : (l : Launch) → WaitsPlain g ls l → Waits g ls l
    waits_again l h (inl s) = h (inl s)
    waits_again l h (inr (inl q)) = h (inr q)
    waits_again l h (inr (inr o)) = absurd (false≢true (sym (not_overwriting l) ∙ o))

    pub plain_where_fits : Fits g table allocation k ls → FitsWithoutPins g table allocation k ls × All (λ l. l.to ≡ Pool) ls
    plain_where_fits f =
        let pool : All (λ l. l.to ≡ Pool) ls = All-weaker (CanGo g allocation ls) (λ l. l.to ≡ Pool)
        (λ l h. to_pool l l.to h) ls f.destinations in (
          record {
            rows = f.rows;
            apart = f.apart;
            operands = All-weaker (CanRead g table ls) (CanReadPlain g table ls) (λ l h i d lt. read_plain l _ (h i d lt)) ls f.operands;
            in_time = f.in_time;
            targets = all_at (IsPlainReached g ls) g.sets (λ j s lt e. reached_plain j s (at_each (λ s. s.pin ≡ None) g.sets no_pins j s e) (f.targets j s e));
            memory = f.memory;
            one_branch = f.one_branch;
            after_branch = All-weaker (Waits g ls) (WaitsPlain g ls) waits_plain ls f.after_branch;
            pool = room_plain allocation k ls pool f.pool;
          },
          pool,
        )

    pub fits_where_plain : FitsWithoutPins g table allocation k ls → All (λ l. l.to ≡ Pool) ls → Fits g table allocation k ls
    fits_where_plain f pool = record {
      rows = f.rows;
      destinations = All-weaker (λ l. l.to ≡ Pool) (CanGo g allocation ls) can_go ls pool;
      apart = f.apart;
      operands = All-weaker (CanReadPlain g table ls) (CanRead g table ls) (λ l h i d lt. read_again l _ (h i d lt)) ls f.operands;
      in_time = f.in_time;
      targets = λ j s e. reached_again j s (at_each (λ s. s.pin ≡ None) g.sets no_pins j s e) (at_each (IsPlainReached g ls) g.sets f.targets j s e);
      memory = f.memory;
      one_branch = f.one_branch;
      after_branch = All-weaker (WaitsPlain g ls) (Waits g ls) waits_again ls f.after_branch;
      pool = room_again allocation k ls pool f.pool;
    }
