-- The class of the memory that a load or store uses, and of what a store gives.
use Rattle.std.proofs.Common.{◌≡◌, ℕ, ◌<◌, true, not, cond, length, get_or, refl, sym, ap, subst, arith, Option, Some, None}
use Rattle.std.specs.Prelude.{◌&&◌, ◌==◌, Contains}
use Rattle.std.specs.Option.{option_map_or}
use Rattle.std.specs.List.{find}
use Rattle.std.proofs.lemmas.Bool.{false≢true, eq-eqb, and_from}
use Rattle.std.proofs.lemmas.List.Elements.{All-contains}
use Rattle.word_ops.specs.Meanings.{sort_of, operand_sort, takes_memory, arity_of_op}
use Rattle.word_ops.specs.declared.sorts.Op.{Op}
use Rattle.word_ops.specs.declared.sorts.Op.TheVariants.{Select, Store, Load, Put}
use Rattle.word_ops.specs.declared.sorts.Sort.TheVariants as sort
use Rattle.graph_meaning.specs.Graphs.{memory_target, is_memory_name}
use Rattle.graph_meaning.specs.WellFormed.{ClassHasSort, IsLaunchGraph, next_class}
use Rattle.schedule_meaning.specs.Launches.{launches, is_store, class_at, memory_class_at}
use Rattle.graph_meaning.specs.declared.graphs.LaunchGraph.{LaunchGraph}
use Rattle.graph_meaning.specs.declared.graphs.LaunchRow.{LaunchRow}
use Rattle.graph_meaning.specs.declared.graphs.SetClass.{SetClass}
use Rattle.schedule_meaning.specs.declared.schedules.Launch.{Launch}
use Rattle.cycle_encoding.specs.Variables.{is_word}
use Rattle.order_encoding.specs.OrderVariables.{is_memory_class}
use Rattle.order_encoding.specs.OrderFamilies.{uses_memory}
use Rattle.cycle_encoding.proofs.Tests.{some_in}
use Rattle.cycle_encoding.proofs.Members.{find-out}
use Rattle.cycle_encoding.proofs.RowFacts.{got, class-below, at_row}
use Rattle.cycle_encoding.proofs.PinnedRows.{store-sort, memory-taken}

module _ (g : LaunchGraph) where
  memory_class : (r : LaunchRow) → Contains g.rows r → sort_of r.op ≡ sort.Memory → (is_memory_class g r.class ≡ true) × (r.class < next_class g.rows)
  memory_class r h e = (
    some_in (λ s. s.class == r.class && not (is_word (sort_of s.op))) g.rows r h (and_from (r.class == r.class) (not (is_word (sort_of r.op))) (eq-eqb r.class r.class refl) (ap (λ s. not (is_word s)) e)),
    class-below g r h,
  )

  pub memory-sort : (c : ℕ) → ClassHasSort g sort.Memory c → (is_memory_class g c ≡ true) × (c < next_class g.rows)
  memory-sort c (k, r, lt, e, h) = subst (λ c. (is_memory_class g c ≡ true) × (c < next_class g.rows)) h.0 (memory_class r (k, lt, e) h.1)

  pub store-launch : (l : Launch) → launches g is_store l ≡ true → (is_memory_class g (class_at g l.row) ≡ true) × (class_at g l.row < next_class g.rows)
  store-launch l h =
      let r = store-sort g l h in
      subst (λ c. (is_memory_class g c ≡ true) × (c < next_class g.rows)) (sym (at_row g l.row r.0 r.1)) (memory_class r.0 (got g.rows l.row r.0 r.1) r.2)

  takes_some : (op : Op) → takes_memory op ≡ true → 0 < arity_of_op op
  takes_some (Select access) h = omega arith
  takes_some (Store access) h = omega arith
  takes_some (Load access) h = omega arith
  takes_some (Put access) h = omega arith
  takes_some op h = absurd (false≢true h)

  -- what a load or store reads is a memory class
  pub read-launch : IsLaunchGraph g → (l : Launch) → uses_memory g l ≡ true → (is_memory_class g (memory_class_at g l.row) ≡ true) × (memory_class_at g l.row < next_class g.rows)
  read-launch well l h =
      let r = memory-taken g l h in
      let row = got g.rows l.row r.0 r.1 in
      let takes = r.2 in
      let size : length r.0.operands ≡ arity_of_op r.0.op = All-contains (λ r. length r.operands ≡ arity_of_op r.op) g.rows r.0 well.arities row in
      let some = takes_some r.0.op takes in
      let has : ClassHasSort g (operand_sort r.0.op 0) (get_or r.0.operands 0 0) = All-contains (λ r. (at : ℕ) → at < length r.operands → ClassHasSort g (operand_sort r.op at) (get_or r.operands at 0)) g.rows r.0 well.operands row 0 (omega arith) in
      let sorted : operand_sort r.0.op 0 ≡ sort.Memory = ap (λ b. cond (b && (0 == 0)) sort.Memory sort.Word) takes in
      let at : memory_class_at g l.row ≡ get_or r.0.operands 0 0 = ap (λ o. option_map_or (λ (r : LaunchRow). get_or r.operands 0 0) o 0) r.1 in
      subst (λ c. (is_memory_class g c ≡ true) × (c < next_class g.rows)) (sym at) (memory-sort (get_or r.0.operands 0 0) (subst (λ s. ClassHasSort g s (get_or r.0.operands 0 0)) sorted has))

  target_in : IsLaunchGraph g → (o : Option SetClass) → find (λ (s : SetClass). is_memory_name s.name) g.sets ≡ o → ClassHasSort g sort.Memory (option_map_or (λ (s : SetClass). s.class) o g.entry)
  target_in well None e = well.entry
  target_in well (Some s) e =
      let f = find-out (λ (s : SetClass). is_memory_name s.name) g.sets s e in
      subst (λ b. ClassHasSort g (cond b sort.Memory sort.Word) s.class) f.1 (All-contains (λ s. ClassHasSort g (cond (is_memory_name s.name) sort.Memory sort.Word) s.class) g.sets s well.sets f.0)

  pub target-class : IsLaunchGraph g → (is_memory_class g (memory_target g) ≡ true) × (memory_target g < next_class g.rows)
  target-class well = memory-sort (memory_target g) (target_in well (find (λ (s : SetClass). is_memory_name s.name) g.sets) refl)
