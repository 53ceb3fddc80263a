-- The launches of a schedule that fits, read back.
use Rattle.std.proofs.Common.{◌≡◌, ◌≢◌, ℕ, ◌+◌, ◌-◌, ◌<◌, ◌≤◌, ◌^◌, ◌==◌, suc, cond, Bool, true, false, List, [], ◌∷◌, ◌++◌, inl, inr, length, map, get_or, refl, sym, ap, subst, ◌∙◌, arith, codes, Option, Some, None}
use Rattle.std.specs.Prelude.{⊤, All, IfSome, IsSomeAnd, Decides, nat_lt, slice_get, option_map, option_and_then}
use Rattle.std.specs.List.{AllZip}
use Rattle.std.specs.Option.{option_map_or}
use Rattle.std.proofs.lemmas.Bool.{cases_lt}
use Rattle.std.proofs.lemmas.Bool.Decides.{Decides-eqb}
use Rattle.std.proofs.lemmas.List.{length-map}
use Rattle.std.proofs.lemmas.List.Elements.{All-head, All-tail}
use Rattle.std.proofs.lemmas.Option.{get_or_from_slice_get, none-some, slice_get-get_or, slice_get_past, slice_get_within}
use Rattle.schedule_meaning.specs.Limits.{most_cycles}
use Rattle.goal_meaning.specs.Expanded.{expanded, expanded_target, let_terms}
use Rattle.goal_meaning.specs.Views.{GoalTree, InputTree}
use Rattle.goal_meaning.specs.WellFormed.{IsGoal}
use Rattle.graph_meaning.specs.WellFormed.{IsLaunchGraph}
use Rattle.graph_meaning.specs.declared.graphs.Guard.{Guard}
use Rattle.graph_meaning.specs.declared.graphs.LaunchGraph.{LaunchGraph}
use Rattle.graph_meaning.specs.declared.graphs.LaunchRow.{LaunchRow}
use Rattle.graph_meaning.specs.declared.graphs.SetClass.{SetClass}
use Rattle.machine_table.specs.Tables.{IsTable, MayUse}
use Rattle.machine_table.specs.declared.tables.InstrKind.{InstrKind}
use Rattle.machine_table.specs.declared.tables.InstrKind.TheVariants.{Beq}
use Rattle.machine_table.specs.declared.tables.Slot.{Slot}
use Rattle.machine_table.specs.declared.tables.Table.{Table}
use Rattle.saturation.specs.StandsFor.{IsSetClass, StandsFor}
use Rattle.schedule_meaning.specs.Fits.{Fits, CanGo, CanGoTo, CanGoToPin, CanLaunch, EndsBy}
use Rattle.schedule_meaning.specs.Launches.{copied_at, instr_at, op_instr, pinned_class}
use Rattle.schedule_meaning.specs.declared.schedules.To.{To}
use Rattle.schedule_meaning.specs.declared.schedules.To.TheVariants.{Pool, Set}
use Rattle.schedule_meaning.specs.declared.schedules.Allocation.{Allocation}
use Rattle.schedule_meaning.specs.declared.schedules.Launch.{Launch}
use Rattle.schedule_meaning.proofs.Copies.{plain_kind}
use Rattle.text_core.specs.LineTexts.{Words}
use Rattle.answer_texts.specs.AnswerLines.{launch_words}
use Rattle.answer_texts.specs.AnswerParts.{IsDestination, IsLaunch}
use Rattle.denali_run.proofs.SameParts.{cons_same}

-- ---- the sets of a goal's graph

-- a goal has few sets
pub few_targets : (input : InputTree) (goal : GoalTree) → IsGoal input.ops goal → length goal.sets ≤ 16
few_targets input goal is = is.rules.few.2

as_long : {X Y : Type 0} (P : X → Y → Type 0) (xs : List X) (ys : List Y) → AllZip P xs ys → length xs ≡ length ys
as_long P [] [] z = refl
as_long P [] (y ∷ ys) z = absurd z
as_long P (x ∷ xs) [] z = absurd z
as_long P (x ∷ xs) (y ∷ ys) z = ap suc (as_long P xs ys z.1)

-- and so has its graph
pub few_sets : (input : InputTree) (goal : GoalTree) (g : LaunchGraph) → StandsFor input goal g → length goal.sets ≤ 16
    → length g.sets ≤ 16
few_sets input goal g stands few =
    subst (λ n. n ≤ 16)
    (sym (as_long (IsSetClass input.ops g) g.sets (expanded goal).sets stands.of.sets ∙ length-map goal.sets (expanded_target (let_terms goal)))) few

-- ---- where launches are

-- a slot that an instruction may use is one of the table's
abbrev pub SlotsAreThere : Type 0
SlotsAreThere = (table : Table) (instr : InstrKind) (slot : ℕ) → IsTable table → MayUse table instr slot
    → slot < length table.slots

none_is_some : (i : InstrKind) → None ≡ Some i → ⊥
none_is_some i e = cc

past_row : (g : LaunchGraph) (row : ℕ) (i : InstrKind) (b : Bool) → Decides b (row ≡ length g.rows) → length g.rows < row
    → cond b (option_map (λ (guard : Guard). Beq) g.guard)
    (option_and_then (λ (r : LaunchRow). op_instr g r.op r.operands) (slice_get g.rows row)) ≡ Some i → ⊥
past_row g row i true d lt e = (let same : row ≡ length g.rows = d.0 refl in absurd (omega (arith, same, lt)))
past_row g row i false d lt e =
    none_is_some i
    (sym (ap (λ (o : Option LaunchRow). option_and_then (λ (r : LaunchRow). op_instr g r.op r.operands) o)
    (slice_get_past g.rows row (omega (arith, lt)))) ∙ e)

copied_by : (g : LaunchGraph) (place class : ℕ) (b : Bool) → cond b (pinned_class (slice_get g.sets place)) None ≡ Some class
    → place < length g.sets
copied_by g place class false e = absurd (none-some class e)
copied_by g place class true e =
    elim (cases_lt place (length g.sets)) [
      | inl lt ↦ lt
      | inr past ↦ absurd (none-some class (sym (ap pinned_class (slice_get_past g.sets place past)) ∙ e))
    ]

row_by : (g : LaunchGraph) (row : ℕ) (i : InstrKind) (o : Option ℕ) → copied_at g row ≡ o → instr_at g row ≡ Some i
    → row ≤ length g.rows + length g.sets
row_by g row i None e is =
    let at = sym (plain_kind g row e) ∙ is in
    let no : ¬ (length g.rows < row) = λ lt. past_row g row i (row == length g.rows) (Decides-eqb row (length g.rows)) lt at in
    omega (arith, no)
row_by g row i (Some class) e is =
    let lt : row - (length g.rows + 1) < length g.sets =
    copied_by g (row - (length g.rows + 1)) class (nat_lt (length g.rows) row) e in
    omega (arith, lt)

-- a row that can be launched is one of the graph's, the branch, or a copy
row_low : (g : LaunchGraph) (row : ℕ) (i : InstrKind) → instr_at g row ≡ Some i → row ≤ length g.rows + length g.sets
row_low g row i is = row_by g row i (copied_at g row) refl is

module _ (g : LaunchGraph) (formed : IsLaunchGraph g) (few : length g.sets ≤ 16) where
  low_pin : (j : ℕ) (s : SetClass) (r : ℕ) → slice_get g.sets j ≡ Some s → s.pin ≡ Some r → r < 31
  low_pin j s r at is =
      subst (λ (o : Option ℕ). IfSome o (λ r. r < 31)) is
      (subst (λ (t : SetClass). IfSome t.pin (λ r. r < 31)) (get_or_from_slice_get g.sets j s s at)
      (formed.pins j s (slice_get_within g.sets j s at)))

  by_pin : (a : Allocation) (ls : List Launch) (l : Launch) (j : ℕ) (s : SetClass) → slice_get g.sets j ≡ Some s → (o : Option ℕ) → s.pin ≡ o
      → IsSomeAnd o (CanGoToPin g a ls l s) → IsDestination g (Set j)
  by_pin a ls l j s at None is can = absurd can
  by_pin a ls l j s at (Some r) is can = (
    (let lt = slice_get_within g.sets j s at in omega (arith, lt, few)),
    subst (λ (o : Option ℕ). IsSomeAnd o (λ r. r < 31))
        (sym (ap (λ (o : Option SetClass). option_and_then (λ (s : SetClass). s.pin) o) at ∙ is)) (low_pin j s r at is),
  )

  by_set : (a : Allocation) (ls : List Launch) (l : Launch) (j : ℕ) (o : Option SetClass) → slice_get g.sets j ≡ o
      → IsSomeAnd o (λ (s : SetClass). IsSomeAnd s.pin (CanGoToPin g a ls l s)) → IsDestination g (Set j)
  by_set a ls l j None at can = absurd can
  by_set a ls l j (Some s) at can = by_pin a ls l j s at s.pin refl can

  destination : (a : Allocation) (ls : List Launch) (l : Launch) (to : To) → CanGoTo g a ls l to → IsDestination g to
  destination a ls l Pool can = tt
  destination a ls l (Set j) can = by_set a ls l j (slice_get g.sets j) refl can

  module _ (there : SlotsAreThere) (table : Table) (is : IsTable table) where
    by_instr : (l : Launch) (o : Option InstrKind) → instr_at g l.row ≡ o → IsSomeAnd o (λ i. MayUse table i l.slot)
        → (l.slot < length table.slots) × (l.row < 2 ^ 31)
    by_instr l None e may = absurd may
    by_instr l (Some i) e may = (
      there table i l.slot is may,
      (let low : l.row ≤ length g.rows + length g.sets = row_low g l.row i e in
          let rows : length g.rows < 2 ^ 30 = formed.few in
          omega (arith, low, rows, few)),
    )

    placed : (a : Allocation) (ls : List Launch) (k : ℕ) → k ≤ most_cycles → (l : Launch) → CanLaunch g table l → CanGo g a ls l
        → EndsBy g table k l → IsLaunch table g l
    placed a ls k small l can goes ends =
        let at = by_instr l (instr_at g l.row) refl can in (
          (let by = ends in omega (arith, by, small)),
          at.0,
          at.1,
          (let lt : l.slot < length table.slots = at.0 in let most = is.slots.1 in omega (arith, lt, most)),
          destination a ls l l.to goes,
        )

    -- those of a schedule that fits
    pub are_placed : (a : Allocation) (k : ℕ) (ls : List Launch) → k ≤ most_cycles → Fits g table a k ls → All (IsLaunch table g) ls
    are_placed a k ls small fits =
        λ i d lt. placed a ls k small (get_or ls i d) (fits.rows i d lt) (fits.destinations i d lt) (fits.in_time i d lt)

-- ---- their lines

-- the name of a slot that is there
pub name_at : (slots : List Slot) (k : ℕ) (d : Slot) → k < length slots
    → option_map_or (λ (s : Slot). s.name) (slice_get slots k) [] ≡ (get_or slots k d).name
name_at slots k d lt = ap (λ (o : Option Slot). option_map_or (λ (s : Slot). s.name) o []) (slice_get-get_or slots k d lt)

pub any_slot : Slot
any_slot = record { name = []; cluster = 0 }

-- launches that are printed alike are equal
abbrev pub LaunchLinesAreOne : Type 0
LaunchLinesAreOne = (table : Table) (g : LaunchGraph) (l m : Launch) → IsTable table → IsLaunchGraph g → IsLaunch table g l
    → IsLaunch table g m → launch_words table g l ≡ launch_words table g m → l ≡ m

-- the first of the lines is no launch
abbrev pub BeginsNoLaunch : List Words → Type 0
BeginsNoLaunch [] = ⊤
BeginsNoLaunch ([] ∷ lines) = ⊤
BeginsNoLaunch ((word ∷ words) ∷ lines) = word ≢ codes "launch"

module _ (one : LaunchLinesAreOne) (table : Table) (g : LaunchGraph) (is : IsTable table) (formed : IsLaunchGraph g) where
  no_launch_behind : (l : Launch) (lines rest : List Words) → BeginsNoLaunch rest → launch_words table g l ∷ lines ≡ rest → ⊥
  no_launch_behind l lines rest h e = (subst BeginsNoLaunch (sym e) h) refl

  pub launches_once : (xs ys : List Launch) (r q : List Words) → All (IsLaunch table g) xs → All (IsLaunch table g) ys
      → BeginsNoLaunch r → BeginsNoLaunch q → map (launch_words table g) xs ++ r ≡ map (launch_words table g) ys ++ q
      → (xs ≡ ys) × (r ≡ q)
  launches_once [] [] r q a b f h e = (refl, e)
  launches_once [] (y ∷ ys) r q a b f h e =
      absurd (no_launch_behind y (map (launch_words table g) ys ++ q) r f (sym e))
  launches_once (x ∷ xs) [] r q a b f h e = absurd (no_launch_behind x (map (launch_words table g) xs ++ r) q h e)
  launches_once (x ∷ xs) (y ∷ ys) r q a b f h e =
      let both = cons_same (launch_words table g x) (launch_words table g y) (map (launch_words table g) xs ++ r)
      (map (launch_words table g) ys ++ q) e in
      let more = launches_once xs ys r q (All-tail (IsLaunch table g) x xs a) (All-tail (IsLaunch table g) y ys b) f h both.1 in (
        ap (λ l. l ∷ xs)
            (one table g x y is formed (All-head (IsLaunch table g) x xs a) (All-head (IsLaunch table g) y ys b) both.0)
            ∙ ap (λ ls. y ∷ ls) more.0,
        more.1,
      )
