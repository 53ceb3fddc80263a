-- The premises of a run: a schedule that fits a proper graph, in word order, and a world in which the graph is true.
use Rattle.std.proofs.Common.{◌≡◌, ℕ, zero, suc, ◌%◌, ◌^◌, ◌<◌, ◌≤◌, ◌-◌, pos, List, [], ◌∷◌, length, map, refl, sym, ◌∙◌, ap, subst, inl, inr, ◌⊎◌, arith, Bool, true, false, not, get_or, Option, Some, None}
use Rattle.std.specs.Prelude.{All, AllPairs, IsSomeAnd, slice_get, slice_index, ◌==◌, if◌then◌else◌, option_map}
use Rattle.std.specs.Option.{option_map_or, option_and_then}
use Rattle.std.proofs.lemmas.Bool.{false≢true, not_from_false}
use Rattle.std.proofs.lemmas.Bool.Decides.{eqb_tells}
use Rattle.std.proofs.lemmas.Option.{slice_get-get_or}
use Rattle.word_ops.specs.Values.{lda}
use Rattle.word_ops.specs.Worlds.{World, IsWorld, Value, IsValue}
use Rattle.word_ops.specs.Meanings.{as_word, sort_of, arity_of_op, operand_sort}
use Rattle.word_ops.specs.declared.sorts.Op.{Op}
use Rattle.word_ops.specs.declared.sorts.Sort.{Sort}
use Rattle.machine_table.specs.Tables.{IsTable, MayUse}
use Rattle.graph_meaning.specs.Graphs.{IsProper, IsTrueUnder, multiple_of, row_meaning}
use Rattle.graph_meaning.specs.Multiples.{is_sum_multiple}
use Rattle.graph_meaning.specs.WellFormed.{IsLaunchGraph, ClassHasSort}
use Rattle.schedule_meaning.specs.Launches.{instr_at, op_instr, class_at, copied_at, ready_in, StandsBefore, IsFree, is_free, IsReadable, operands_at, op_operands, row_operands, guard_operands, memory_class_at}
use Rattle.schedule_meaning.specs.Lifetimes.{is_operand_of, reads_class}
use Rattle.schedule_meaning.specs.Fits.{Fits, CanLaunch, CanRead}
use Rattle.schedule_meaning.specs.declared.schedules.Operand.{Operand}
use Rattle.register_assign.specs.Listings.{instr_of, row_instr, copy_instr, branch_class, reg}
use Rattle.alpha_encode.specs.declared.instructions.Instr.TheVariants as instrs
use Rattle.graph_meaning.specs.declared.graphs.LaunchRow.{LaunchRow}
use Rattle.graph_meaning.specs.declared.graphs.LaunchGraph.{LaunchGraph}
use Rattle.machine_table.specs.declared.tables.Table.{Table}
use Rattle.machine_table.specs.declared.tables.InstrKind.{InstrKind}
use Rattle.machine_table.specs.declared.tables.InstrKind.TheVariants as kinds
use Rattle.schedule_meaning.specs.declared.schedules.Allocation.{Allocation}
use Rattle.schedule_meaning.specs.declared.schedules.Launch.{Launch}
use Rattle.schedule_meaning.proofs.Comparisons.{and_both}
use Rattle.schedule_meaning.proofs.Pins.{any_at, number_same}
use Rattle.schedule_meaning.proofs.Uses.{free_is}
use Rattle.schedule_meaning.proofs.Rules.{all_at, at_each, in_list}
use Rattle.schedule_meaning.proofs.Ordered.{takes_time}
use Rattle.schedule_meaning.proofs.Copies.{row_no_copy, plain_kind, plain_class, plain_operands}

-- the value of a class, and the sum of a base and a displacement, are the multiples that they are known to be
pub record AreTrueMultiples (g : LaunchGraph) (value : ℕ → Value) : Type 0 where
  pub class : (class n : ℕ) → n ≤ multiple_of g class → as_word (value class) % 2 ^ n ≡ 0
  pub sum : (n x k : ℕ) → is_sum_multiple g n x k ≡ true → lda (as_word (value x)) (as_word (value k)) % 2 ^ n ≡ 0

pub record IsScene (g : LaunchGraph) (table : Table) (allocation : Allocation) (k : ℕ) (ordered : List Launch)
    (w : World) (value : ℕ → Value) : Type 0 where
  pub is_table : IsTable table
  pub graph : IsLaunchGraph g
  pub proper : IsProper g
  pub fits : Fits g table allocation k ordered
  pub order : AllPairs (StandsBefore g) ordered
  pub few : length ordered < 2 ^ 32
  pub world : IsWorld w
  pub true_in : IsTrueUnder g w value
  pub multiples : AreTrueMultiples g value

abbrev pub row_with : ℕ → Op → List ℕ → List ℕ → LaunchRow
row_with class o name xs = record { class = class; op = o; name = name; operands = xs }

not_equal : (a b : ℕ) → a < b → (a == b) ≡ false
not_equal a b h = elim (eqb_tells a b) [ inl t ↦ (let e : a ≡ b = t.1 in absurd (omega arith)) | inr t ↦ t.0 ]

pub map_at : (f : ℕ → Value) (xs : List ℕ) (i : ℕ) (d : Value) → i < length xs → get_or (map f xs) i d ≡ f (slice_index xs i)
map_at f [] i d h = absurd (omega arith)
map_at f (x ∷ xs) zero d h = refl
map_at f (x ∷ xs) (suc i) d h = map_at f xs i d (omega arith)

-- the operand is free; or the launch can read its class, and has it in a register
abbrev pub CanUse : LaunchGraph → Table → List Launch → Launch → Operand → Type 0
CanUse g table ordered l o = IsFree g o ⊎ (IsReadable g table ordered l o.class × (reads_class g o.class l ≡ true))

module _ (g : LaunchGraph) (table : Table) (ordered : List Launch) (l : Launch) where
  use_by : (at : ℕ) (o : Operand) → slice_get (operands_at g l.row) at ≡ Some o
      → IsFree g o ⊎ IsReadable g table ordered l o.class → (b : Bool) → is_free g o ≡ b → CanUse g table ordered l o
  use_by at o e h true free = inl ((free_is g o true (sym free)).0 refl)
  use_by at o e (inl f) false taken = absurd (false≢true ((free_is g o false (sym taken)).1 f))
  use_by at o e (inr r) false taken =
      inr (
        r,
        any_at (is_operand_of g o.class) (operands_at g l.row) at o e
            (and_both (o.class == o.class) (not (is_free g o)) (number_same o.class o.class refl)
            (not_from_false (is_free g o) taken)),
      )

  -- the operands of a launch that can read them
  pub uses_all : CanRead g table ordered l → All (CanUse g table ordered l) (operands_at g l.row)
  uses_all h =
      all_at (CanUse g table ordered l) (operands_at g l.row)
      (λ at o lt e. use_by at o e
      (at_each (λ o. IsFree g o ⊎ IsReadable g table ordered l o.class) (operands_at g l.row) h at o e) (is_free g o)
      refl)

module _ (g : LaunchGraph) (table : Table) (allocation : Allocation) (k : ℕ) (ordered : List Launch) (w : World)
    (value : ℕ → Value)
    (scene : IsScene g table allocation k ordered w value) where
  pub positive : (j : ℕ) (m : Launch) (c : ℕ) → slice_get ordered j ≡ Some m → m.cycle < ready_in g table c m
  positive = takes_time g table ordered scene.is_table scene.fits.rows

  -- the value of a class of a sort
  pub of_sort : (sort : Sort) (class : ℕ) → ClassHasSort g sort class → IsValue sort (value class)
  of_sort sort class h =
      let r : LaunchRow = h.1 in
      let here : slice_get g.rows h.0 ≡ Some r = slice_get-get_or g.rows h.0 r h.2 ∙ ap Some h.3 in
      let own : IsValue (sort_of r.op) (value r.class) = at_each (λ r. IsValue (sort_of r.op) (value r.class)) g.rows scene.true_in.sorts h.0 r here in
      subst (λ s. IsValue s (value class)) h.4.1 (subst (λ c. IsValue (sort_of r.op) (value c)) h.4.0 own)

  module _ (n : ℕ) (l : Launch) (here : slice_get ordered n ≡ Some l) where
    pub can : CanLaunch g table l
    can = at_each (CanLaunch g table) ordered scene.fits.rows n l here

    -- each operand of the launch
    pub uses : All (CanUse g table ordered l) (operands_at g l.row)
    uses = uses_all g table ordered l (at_each (CanRead g table ordered) ordered scene.fits.operands n l here)

    pub place_few : n < 2 ^ 32
    place_few = let a = in_list ordered n l here in let b = scene.few in omega arith

    module _ (class : ℕ) (o : Op) (name : List ℕ) (xs : List ℕ) (row : slice_get g.rows l.row ≡ Some (row_with class o name xs)) where
      pub is_row : (l.row == length g.rows) ≡ false
      is_row = not_equal l.row (length g.rows) (in_list g.rows l.row _ row)

      no_copy : copied_at g l.row ≡ None
      no_copy = row_no_copy g l.row (row_with class o name xs) row

      pub kind_is : instr_at g l.row ≡ op_instr g o xs
      kind_is =
          plain_kind g l.row no_copy
          ∙ ap (λ b. if b then option_map (λ _. kinds.Beq) g.guard else option_and_then (λ r. op_instr g r.op r.operands) (slice_get g.rows l.row)) is_row
          ∙ ap (λ o. option_and_then (λ r. op_instr g r.op r.operands) o) row

      pub operands_are : operands_at g l.row ≡ op_operands o xs
      operands_are =
          plain_operands g l.row no_copy
          ∙ ap (λ b. if b then guard_operands g.guard else row_operands (slice_get g.rows l.row)) is_row ∙ ap row_operands row

      pub instr_is : instr_of g table allocation ordered n l ≡ row_instr g table allocation ordered n l o xs
      instr_is =
          ap (λ q. option_map_or (copy_instr g table allocation ordered n l) q (option_map_or (λ r. row_instr g table allocation ordered n l r.op r.operands) (slice_get g.rows l.row) (instrs.Beq (reg g table allocation ordered n l (branch_class g table allocation ordered n l)) (pos (length ordered - n))))) no_copy
          ∙ ap (λ q. option_map_or (λ r. row_instr g table allocation ordered n l r.op r.operands) q (instrs.Beq (reg g table allocation ordered n l (branch_class g table allocation ordered n l)) (pos (length ordered - n)))) row

      pub value_is : value (class_at g l.row) ≡ row_meaning w (row_with class o name xs) (map value xs)
      value_is =
          ap value (plain_class g l.row no_copy)
          ∙ ap (λ q. value (option_map_or (λ r. r.class) q 0)) row
          ∙ at_each (λ r. value r.class ≡ row_meaning w r (map value r.operands)) g.rows scene.true_in.rows l.row (row_with class o name xs) row

      pub memory_class_is : memory_class_at g l.row ≡ slice_index xs 0
      memory_class_is = ap (λ q. option_map_or (λ r. slice_index r.operands 0) q 0) row

      pub arity_is : length xs ≡ arity_of_op o
      arity_is = at_each (λ r. length r.operands ≡ arity_of_op r.op) g.rows scene.graph.arities l.row (row_with class o name xs) row

      pub operand_value : (at : ℕ) → at < length xs → IsValue (operand_sort o at) (value (slice_index xs at))
      operand_value at lt =
          of_sort (operand_sort o at) (slice_index xs at)
          (at_each (λ r. (at : ℕ) → at < length r.operands → ClassHasSort g (operand_sort r.op at) (slice_index r.operands at)) g.rows scene.graph.operands l.row (row_with class o name xs) row at lt)

      pub can_is : IsSomeAnd (op_instr g o xs) (λ i. MayUse table i l.slot)
      can_is = subst (λ (q : Option InstrKind). IsSomeAnd q (λ i. MayUse table i l.slot)) kind_is can

      pub reads_is : All (CanUse g table ordered l) (op_operands o xs)
      reads_is = subst (All (CanUse g table ordered l)) operands_are uses
