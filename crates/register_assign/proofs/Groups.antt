-- Where loads, stores and the branch stand in word order.
use Rattle.std.proofs.Common.{◌≡◌, ℕ, ◌<◌, ◌≤◌, List, refl, ◌∙◌, ap, inl, inr, ◌⊎◌, arith, Bool, true, false, Option, Some, None}
use Rattle.std.specs.Prelude.{AllPairs, IsTrue, slice_get, if◌then◌else◌}
use Rattle.std.specs.Option.{option_map_or}
use Rattle.std.proofs.lemmas.Bool.{false≢true}
use Rattle.schedule_meaning.specs.Launches.{launches, gives_word, is_store, is_load, is_branch, overwrites, instr_at, kind_group, group_of, is_held, StandsBefore}
use Rattle.machine_table.specs.declared.tables.InstrKind.{InstrKind}
use Rattle.machine_table.specs.declared.tables.InstrKind.TheVariants as kinds
use Rattle.graph_meaning.specs.declared.graphs.LaunchGraph.{LaunchGraph}
use Rattle.schedule_meaning.specs.declared.schedules.Allocation.{Allocation}
use Rattle.schedule_meaning.specs.declared.schedules.Launch.{Launch}
use Rattle.schedule_meaning.specs.Fits.{CanGo, MayLoadOver}
use Rattle.schedule_meaning.proofs.Rules.{at_pair}
use Rattle.schedule_meaning.proofs.Pins.{idle_not_over, load_over}

store_kind : (held : Bool) (o : Option InstrKind) → option_map_or is_store o false ≡ true → kind_group held o ≡ 3
store_kind held None h = absurd (false≢true h)
store_kind held (Some (kinds.Store access)) h = refl
store_kind held (Some _) h = absurd (false≢true h)

load_kind : (held : Bool) (o : Option InstrKind) → option_map_or is_load o false ≡ true → kind_group held o < 3
load_kind held None h = absurd (false≢true h)
load_kind true (Some (kinds.Load access)) h = omega arith
load_kind false (Some (kinds.Load access)) h = omega arith
load_kind held (Some _) h = absurd (false≢true h)

held_kind : (held : Bool) (o : Option InstrKind) → held ≡ true → option_map_or is_load o false ≡ true → kind_group held o ≡ 2
held_kind held None t h = absurd (false≢true h)
held_kind true (Some (kinds.Load access)) t h = refl
held_kind false (Some (kinds.Load access)) t h = absurd (false≢true t)
held_kind held (Some _) t h = absurd (false≢true h)

branch_kind : (held : Bool) (o : Option InstrKind) → option_map_or is_branch o false ≡ true → kind_group held o ≡ 1
branch_kind held None h = absurd (false≢true h)
branch_kind held (Some kinds.Beq) h = refl
branch_kind held (Some _) h = absurd (false≢true h)

store_idle : (o : Option InstrKind) → option_map_or is_store o false ≡ true → option_map_or gives_word o false ≡ false
store_idle None h = absurd (false≢true h)
store_idle (Some (kinds.Store access)) h = refl
store_idle (Some _) h = absurd (false≢true h)

branch_idle : (o : Option InstrKind) → option_map_or is_branch o false ≡ true → option_map_or gives_word o false ≡ false
branch_idle None h = absurd (false≢true h)
branch_idle (Some kinds.Beq) h = refl
branch_idle (Some _) h = absurd (false≢true h)

held_low : (held : Bool) → (if held then 2 else 0) ≤ 3
held_low true = omega arith
held_low false = omega arith

kind_low : (held : Bool) (o : Option InstrKind) → kind_group held o ≤ 3
kind_low held None = omega arith
kind_low held (Some (kinds.Load access)) = held_low held
kind_low held (Some kinds.Beq) = omega arith
kind_low held (Some (kinds.Store access)) = omega arith
kind_low held (Some _) = omega arith

module _ (g : LaunchGraph) (l : Launch) where
  -- the group of what overwrites an input, and of any other launch
  pub over_group : overwrites g l ≡ true → group_of g l ≡ 4
  over_group t = ap (λ b. if b then 4 else kind_group (is_held g) (instr_at g l.row)) t

  plain_group : overwrites g l ≡ false → group_of g l ≡ kind_group (is_held g) (instr_at g l.row)
  plain_group f = ap (λ b. if b then 4 else kind_group (is_held g) (instr_at g l.row)) f

  pub plain_low : overwrites g l ≡ false → group_of g l ≤ 3
  plain_low f = let e = plain_group f in let k = kind_low (is_held g) (instr_at g l.row) in omega arith

  module _ (allocation : Allocation) (ls : List Launch) (goes : CanGo g allocation ls l) where
    pub store_plain : IsTrue (launches g is_store l) → overwrites g l ≡ false
    store_plain h = idle_not_over g allocation ls l goes (store_idle (instr_at g l.row) h)

    pub branch_plain : IsTrue (launches g is_branch l) → overwrites g l ≡ false
    branch_plain h = idle_not_over g allocation ls l goes (branch_idle (instr_at g l.row) h)

    pub store_group : IsTrue (launches g is_store l) → group_of g l ≡ 3
    store_group h = plain_group (store_plain h) ∙ store_kind (is_held g) (instr_at g l.row) h

    either : (b : Bool) → (b ≡ true) ⊎ (b ≡ false)
    either true = inl refl
    either false = inr refl

    -- a load stands before the store of its cycle, or there is none
    pub load_group : IsTrue (launches g is_load l) → (group_of g l < 3) ⊎ MayLoadOver g allocation ls l
    load_group h =
        elim (either (overwrites g l)) [
          | inl over ↦ inr (load_over g allocation ls l goes h over)
          | inr plain ↦
              inl (let e = plain_group plain in let k = load_kind (is_held g) (instr_at g l.row) h in omega arith)
        ]

    -- a load that is held stands behind the branch
    pub held_group : IsTrue (is_held g) → IsTrue (launches g is_load l) → 1 < group_of g l
    held_group t h =
        elim (either (overwrites g l)) [
          | inl over ↦ (let e = over_group over in omega arith)
          | inr plain ↦ (let e = plain_group plain ∙ held_kind (is_held g) (instr_at g l.row) t h in omega arith)
        ]

    pub branch_group : IsTrue (launches g is_branch l) → group_of g l ≡ 1
    branch_group h = plain_group (branch_plain h) ∙ branch_kind (is_held g) (instr_at g l.row) h

module _ (g : LaunchGraph) (ordered : List Launch) (order : AllPairs (StandsBefore g) ordered) where
  pub not_after : (i j : ℕ) (l m : Launch) → i < j → slice_get ordered i ≡ Some l → slice_get ordered j ≡ Some m → l.cycle ≤ m.cycle
  not_after i j l m lt el em =
      elim (at_pair (StandsBefore g) ordered order i j l m lt el em) [ inl h ↦ (let k : l.cycle < m.cycle = h in omega arith) | inr h ↦ (let k : l.cycle ≡ m.cycle = h.0 in omega arith) ]

  -- of two groups the higher one stands earlier in an earlier cycle alone
  pub earlier_cycle : (i j : ℕ) (l m : Launch) → i < j → slice_get ordered i ≡ Some l → slice_get ordered j ≡ Some m → group_of g m < group_of g l → l.cycle < m.cycle
  earlier_cycle i j l m lt el em less =
      elim (at_pair (StandsBefore g) ordered order i j l m lt el em) [
        | inl h ↦ h
        | inr h ↦ elim (h.1) [ inl a ↦ (let b : group_of g l < group_of g m = a in absurd (omega arith)) | inr a ↦ (let b : group_of g l ≡ group_of g m = a.0 in absurd (omega arith)) ]
      ]
