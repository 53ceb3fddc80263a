-- Whether a schedule fits, or what it breaks first, found by computing.
use Rattle.std.proofs.Common.{◌≡◌, ℕ, ◌+◌, ◌<◌, ◌≤◌, List, length, inl, inr, ◌⊎◌, arith, Option, Some, None}
use Rattle.std.specs.Prelude.{IsTrue, IsSomeAnd, count_by, slice_get, unwrap_or, Contains}
use Rattle.machine_table.specs.Tables.{MayUse, use_of, latency_of, cluster_of}
use Rattle.graph_meaning.specs.Graphs.{memory_target, constant_of, is_input_register, is_memory_name}
use Rattle.schedule_meaning.specs.Launches.{launches, is_store, is_load, is_branch, gives_word, memory_class_at, memory_before, memory_after, class_at, instr_at, operands_at, ready_in, goes_to, overwrites, spoils, takes_pool, writes_pin, HasInput, IsFree, IsReadable, IsUnspoilt, IsUnwritten, Gives, is_held}
use Rattle.schedule_meaning.specs.Lifetimes.{holds}
use Rattle.schedule_meaning.specs.declared.schedules.Operand.{Operand}
use Rattle.schedule_meaning.specs.Fits.{AreReached, CanGoTo, CanGoToPin, HasRoom, MayLoadOver, CanRead, Collide, IsWhereWanted, IsInItsPin, IsInSomeRegister, IsReached, UsesMemory, Waits, Fits}
use Rattle.schedule_meaning.specs.Broken.{number, NoEarlier, KeepsMemoryAt, Asks, AsksOfAll, IsKept, Breaks}
use Rattle.schedule_meaning.specs.declared.fitting.Rule.{Rule}
use Rattle.schedule_meaning.specs.declared.fitting.Rule.TheVariants.{Rows, Apart, Operands, InTime, Targets, Memory, OneBranch, AfterBranch, Pool}
use Rattle.machine_table.specs.declared.tables.InstrKind.TheVariants.{Beq}
use Rattle.machine_table.specs.declared.tables.Table.{Table}
use Rattle.graph_meaning.specs.declared.graphs.SetClass.{SetClass}
use Rattle.graph_meaning.specs.declared.graphs.LaunchGraph.{LaunchGraph}
use Rattle.schedule_meaning.specs.declared.schedules.Allocation.{Allocation}
use Rattle.schedule_meaning.specs.declared.schedules.Allocation.TheVariants.{Block, Live}
use Rattle.schedule_meaning.specs.declared.schedules.Launch.{Launch}
use Rattle.schedule_meaning.specs.declared.schedules.To.{To}
use Rattle.schedule_meaning.specs.declared.schedules.To.TheVariants as tos
use Rattle.machine_table.proofs.Decide.{Dec, dec_nat, dec_lt, dec_le, dec_map, dec_and, dec_not, dec_all}
use Rattle.schedule_meaning.proofs.Decide.{HoldBelow, FailsFirst, first, dec_true, dec_or, dec_imp, dec_any, dec_below, dec_some, dec_if_some, dec_contains, dec_constant, dec_small}
use Rattle.schedule_meaning.proofs.Rules.{Found, Earlier, rule_step, next, no_rule_below, number_high, fits_where_kept, in_list}

module _ (ls : List Launch) (i : ℕ) (R : Launch → Type 0) where
  pub no_earlier_from : HoldBelow (λ j m. j < i → ¬ R m) ls (length ls) → NoEarlier ls i R
  no_earlier_from h j m lt e r = h j m (in_list ls j m e) e lt r

  pub earlier_from : FailsFirst (λ j m. j < i → ¬ R m) ls → ¬ NoEarlier ls i R
  earlier_from f h = f.4 (λ lt. h f.0 f.1 lt f.2)

  abbrev pub no_earlier_step : HoldBelow (λ j m. j < i → ¬ R m) ls (length ls) ⊎ FailsFirst (λ j m. j < i → ¬ R m) ls → Dec (NoEarlier ls i R)
  no_earlier_step (inl h) = inl (no_earlier_from h)
  no_earlier_step (inr f) = inr (earlier_from f)

  abbrev pub dec_no_earlier : ((m : Launch) → Dec (R m)) → Dec (NoEarlier ls i R)
  dec_no_earlier d = no_earlier_step (first (λ j m. j < i → ¬ R m) (λ j m. dec_imp (dec_lt j i) (dec_not (d m))) ls)

abbrev pub keeps_at : (g : LaunchGraph) (ls : List Launch) (i : ℕ) (l : Launch) → Dec ((UsesMemory g l → memory_class_at g l.row ≡ memory_before g ls l.cycle) × (IsTrue (launches g is_store l) → NoEarlier ls i (λ m. IsTrue (launches g is_store m) × (m.cycle ≡ l.cycle)))) → Dec (KeepsMemoryAt g ls i l)
keeps_at g ls i l d = dec_map (λ h. record { reads = h.0; single = h.1 }) (λ n h. n (h.reads, h.single)) d

abbrev pub goes_to_pin : (g : LaunchGraph) (allocation : Allocation) (ls : List Launch) (l : Launch) (s : SetClass)
    (r : ℕ) → Dec (Gives g s.class
    l × (IsTrue (launches g is_load l) → IsTrue (is_input_register g r) → MayLoadOver g allocation ls l)) → Dec
    (CanGoToPin g allocation ls l s r)
goes_to_pin g allocation ls l s r d =
    dec_map (λ h. record { gives = h.0; loads_over = h.1 }) (λ n h. n (h.gives, h.loads_over)) d

abbrev pub dec_over : (g : LaunchGraph) (allocation : Allocation) (ls : List Launch) (l : Launch)
    → Dec (MayLoadOver g allocation ls l)
dec_over g Block ls l = inr (λ h. h)
dec_over g Live ls l =
    dec_all (λ m. IsTrue (launches g is_store m) → ¬ (m.cycle ≡ l.cycle))
    (λ m. dec_imp (dec_true (launches g is_store m)) (dec_not (dec_nat m.cycle l.cycle))) ls

abbrev pub dec_room : (g : LaunchGraph) (allocation : Allocation) (k : ℕ) (ls : List Launch)
    → Dec (HasRoom g allocation k ls)
dec_room g Block k ls = dec_le (count_by (takes_pool g) ls) (length g.pool)
dec_room g Live k ls =
    dec_below (λ t. count_by (holds g Live ls t) ls ≤ length g.pool)
    (λ t. dec_le (count_by (holds g Live ls t) ls) (length g.pool)) k

module _ (g : LaunchGraph) (ls : List Launch) where
  pub reached_from : HoldBelow (IsReached g ls) g.sets (length g.sets) → AreReached g ls
  reached_from h j s e = h j s (in_list g.sets j s e) e

  pub not_reached_from : FailsFirst (IsReached g ls) g.sets → ¬ AreReached g ls
  not_reached_from f h = f.4 (h f.0 f.1 f.2)

  abbrev pub reached_step : HoldBelow (IsReached g ls) g.sets (length g.sets) ⊎ FailsFirst (IsReached g ls) g.sets → Dec (AreReached g ls)
  reached_step (inl h) = inl (reached_from h)
  reached_step (inr f) = inr (not_reached_from f)

module _ (g : LaunchGraph) (table : Table) (allocation : Allocation) (k : ℕ) (ls : List Launch) where
  abbrev pub dec_free : (o : Operand) → Dec (IsFree g o)
  dec_free o = dec_or (dec_constant (constant_of g o.class) 0) (dec_and (dec_true o.second) (dec_small (constant_of g o.class) 255))

  abbrev pub dec_gives : (class : ℕ) (l : Launch) → Dec (Gives g class l)
  dec_gives class l = dec_and (dec_true (launches g gives_word l)) (dec_nat (class_at g l.row) class)

  abbrev pub dec_input : (class : ℕ) (P : ℕ → Type 0) → ((r : ℕ) → Dec (P r)) → Dec (HasInput g class P)
  dec_input class P d = dec_any (λ i. (i.class ≡ class) × P i.reg) (λ i. dec_and (dec_nat i.class class) (d i.reg)) g.inputs

  abbrev pub dec_unspoilt : (l : Launch) (r : ℕ) → Dec (IsUnspoilt g ls l r)
  dec_unspoilt l r = dec_all (λ m. ¬ IsTrue (spoils g l r m)) (λ m. dec_not (dec_true (spoils g l r m))) ls

  abbrev pub dec_unwritten : (r : ℕ) → Dec (IsUnwritten g ls r)
  dec_unwritten r = dec_all (λ m. ¬ IsTrue (writes_pin g r m)) (λ m. dec_not (dec_true (writes_pin g r m))) ls

  abbrev pub dec_readable : (l : Launch) (class : ℕ) → Dec (IsReadable g table ls l class)
  dec_readable l class =
      dec_or
      (dec_input class (IsUnspoilt g ls l) (dec_unspoilt l))
      (dec_any (λ m. Gives g class m × (ready_in g table (cluster_of table l.slot) m ≤ l.cycle)) (λ m. dec_and (dec_gives class m) (dec_le (ready_in g table (cluster_of table l.slot) m) l.cycle)) ls)

  abbrev pub dec_can_read : (l : Launch) → Dec (CanRead g table ls l)
  dec_can_read l =
      dec_all
      (λ o. IsFree g o ⊎ IsReadable g table ls l o.class)
      (λ o. dec_or (dec_free o) (dec_readable l o.class))
      (operands_at g l.row)

  abbrev pub dec_uses : (l : Launch) → Dec (UsesMemory g l)
  dec_uses l = dec_or (dec_true (launches g is_load l)) (dec_true (launches g is_store l))

  abbrev pub dec_waits : (l : Launch) → Dec (Waits g ls l)
  dec_waits l =
      dec_imp
      (dec_or (dec_true (launches g is_store l)) (dec_or (dec_and (dec_true (launches g is_load l)) (dec_true (is_held g))) (dec_true (overwrites g l))))
      (dec_all (λ b. IsTrue (launches g is_branch b) → b.cycle ≤ l.cycle) (λ b. dec_imp (dec_true (launches g is_branch b)) (dec_le b.cycle l.cycle)) ls)

  abbrev pub dec_in_some_register : (class : ℕ) → Dec (IsInSomeRegister g ls class)
  dec_in_some_register class =
      dec_or (dec_input class (IsUnwritten g ls) dec_unwritten) (dec_or (dec_constant (constant_of g class) 0) (dec_any (Gives g class) (dec_gives class) ls))

  abbrev pub dec_in_its_pin : (launched class pin : ℕ) → Dec (IsInItsPin g launched class pin)
  dec_in_its_pin launched class pin =
      dec_or (dec_nat launched 1) (dec_and (dec_nat launched 0) (dec_input class (λ r. r ≡ pin) (λ r. dec_nat r pin)))

  abbrev pub dec_place : (j : ℕ) (s : SetClass) (o : Option ℕ) → Dec (IsWhereWanted g ls j s o)
  dec_place j s None = dec_in_some_register s.class
  dec_place j s (Some pin) = dec_in_its_pin (count_by (goes_to j) ls) s.class pin

  abbrev pub dec_reached : (j : ℕ) (s : SetClass) → Dec (IsReached g ls j s)
  dec_reached j s = dec_or (dec_true (is_memory_name s.name)) (dec_place j s s.pin)

  abbrev pub dec_pin : (l : Launch) (s : SetClass) (r : ℕ) → Dec (CanGoToPin g allocation ls l s r)
  dec_pin l s r =
      goes_to_pin g allocation ls l s r (dec_and (dec_gives s.class l)
      (dec_imp (dec_true (launches g is_load l))
      (dec_imp (dec_true (is_input_register g r)) (dec_over g allocation ls l))))

  abbrev pub dec_go_to : (l : Launch) (to : To) → Dec (CanGoTo g allocation ls l to)
  dec_go_to l tos.Pool = inl tt
  dec_go_to l (tos.Set j) =
      dec_some (slice_get g.sets j) (λ s. IsSomeAnd s.pin (CanGoToPin g allocation ls l s))
      (λ s. dec_some s.pin (CanGoToPin g allocation ls l s) (dec_pin l s))

  abbrev pub dec_launch : (l : Launch) → Dec (IsSomeAnd (instr_at g l.row) (λ n. MayUse table n l.slot))
  dec_launch l = dec_some (instr_at g l.row) (λ n. MayUse table n l.slot) (λ n. dec_some (use_of table n) (λ u. Contains u.slots l.slot) (λ u. dec_contains u.slots l.slot))

  abbrev pub asks_dec : (r : Rule) (i : ℕ) (l : Launch) → Dec (Asks g table allocation k ls r i l)
  asks_dec Rows i l = dec_and (dec_launch l) (dec_go_to l l.to)
  asks_dec Apart i l = dec_no_earlier ls i (Collide l) (λ m. dec_and (dec_nat l.cycle m.cycle) (dec_nat l.slot m.slot))
  asks_dec Operands i l = dec_can_read l
  asks_dec InTime i l = dec_le (l.cycle + unwrap_or (latency_of table (unwrap_or (instr_at g l.row) Beq)) 0) k
  asks_dec Targets i l = inl tt
  asks_dec Memory i l =
      keeps_at g ls i l
      (dec_and
      (dec_imp (dec_uses l) (dec_nat (memory_class_at g l.row) (memory_before g ls l.cycle)))
      (dec_imp (dec_true (launches g is_store l)) (dec_no_earlier ls i (λ m. IsTrue (launches g is_store m) × (m.cycle ≡ l.cycle)) (λ m. dec_and (dec_true (launches g is_store m)) (dec_nat m.cycle l.cycle)))))
  asks_dec OneBranch i l = inl tt
  asks_dec AfterBranch i l = dec_waits l
  asks_dec Pool i l = inl tt

  abbrev pub whole_dec : (r : Rule) → Dec (AsksOfAll g table allocation k ls r)
  whole_dec Rows = inl tt
  whole_dec Apart = inl tt
  whole_dec Operands = inl tt
  whole_dec InTime = inl tt
  whole_dec Targets = reached_step g ls (first (IsReached g ls) dec_reached g.sets)
  whole_dec Memory = dec_nat (memory_after g ls) (memory_target g)
  whole_dec OneBranch = dec_if_some g.guard (λ _. count_by (launches g is_branch) ls ≡ 1) (λ _. dec_nat (count_by (launches g is_branch) ls) 1)
  whole_dec AfterBranch = inl tt
  whole_dec Pool = dec_room g allocation k ls

  -- the rule is kept, or broken at some place first
  abbrev pub decide_rule : (r : Rule) → IsKept g table allocation k ls r ⊎ ((i : ℕ) × Breaks g table allocation k ls r i)
  decide_rule r = rule_step g table allocation k ls r (first (Asks g table allocation k ls r) (asks_dec r) ls) (whole_dec r)

  abbrev pub go_on : (which : Rule) → Earlier g table allocation k ls (number which) ⊎ Found g table allocation k ls → Earlier g table allocation k ls (number which + 1) ⊎ Found g table allocation k ls
  go_on which (inr found) = inr found
  go_on which (inl earlier) = next g table allocation k ls which earlier (decide_rule which)

  pub nine_is_last : (r : Rule) → number r < 10
  nine_is_last r = let n = number_high r in omega arith

  abbrev pub result_of : Earlier g table allocation k ls 10 ⊎ Found g table allocation k ls → Fits g table allocation k ls ⊎ Found g table allocation k ls
  result_of (inr found) = inr found
  result_of (inl h) = inl (fits_where_kept g table allocation k ls (λ r. h r (nine_is_last r)))

  -- the schedule fits, or some rule is the least that is broken, by some first launch
  abbrev pub decided : Fits g table allocation k ls ⊎ Found g table allocation k ls
  decided =
      result_of (go_on Pool (go_on AfterBranch (go_on OneBranch (go_on Memory (go_on Targets (go_on InTime (go_on Operands (go_on Apart (go_on Rows (inl (no_rule_below g table allocation k ls)))))))))))

  abbrev pub broken_pair : Fits g table allocation k ls ⊎ Found g table allocation k ls → Option (ℕ × ℕ)
  broken_pair (inl f) = None
  broken_pair (inr f) = Some (f.0, f.1)
