-- Rows of a launch graph: which one has a term's class, and what a launch of it is.
use Rattle.std.proofs.Common.{◌≡◌, ℕ, zero, suc, ◌<◌, List, [], ◌∷◌, length, map, get_or, Some, None, false, refl, sym, ap, ◌∙◌, inl, inr, arith}
use Rattle.std.specs.Prelude.{slice_get, ◌==◌}
use Rattle.std.proofs.lemmas.Bool.{cases_lt}
use Rattle.std.proofs.lemmas.Bool.Decides.{eqb_tells}
use Rattle.std.proofs.lemmas.Option.{slice_get_within, get_or_from_slice_get, none-some}
use Rattle.word_ops.specs.declared.sorts.Op.{Op}
use Rattle.word_ops.specs.declared.sorts.Op.TheVariants.{Declared}
use Rattle.word_terms.specs.Tree.{Tree, application, none, more}
use Rattle.egraph.specs.Graph.{Graph, HasRow}
use Rattle.pattern_match.specs.Classes.{IsClass, at_row, classes, no_classes}
use Rattle.goal_meaning.specs.declared.goals.DeclaredOp.{DeclaredOp}
use Rattle.graph_meaning.specs.WellFormed.{IsLaunchGraph, declared_index}
use Rattle.graph_meaning.specs.declared.graphs.LaunchGraph.{LaunchGraph}
use Rattle.graph_meaning.specs.declared.graphs.LaunchRow.{LaunchRow}
use Rattle.saturation.specs.StandsFor.{graph_view, numbered_op, row_view}
use Rattle.schedule_meaning.specs.Launches.{instr_at, operands_at, class_at, op_instr, op_operands}
use Rattle.schedule_meaning.specs.Plain.{plain_class_at, plain_instr_at, plain_operands_at}
use Rattle.schedule_meaning.proofs.Copies.{plain_class, plain_kind, plain_operands, row_no_copy}

-- ---- terms

pub leaf_row : (g : Graph Op) (op : Op) (c : ℕ) → IsClass g [] (application op none) c → HasRow g.rows op [] c
leaf_row g op _ (at_row no_classes here) = here

-- the classes of two operands, and the row of the application
pub record IsApplied (g : Graph Op) (op : Op) (t u : Tree Op) (class : ℕ) : Type 0 where
  pub first : ℕ
  pub second : ℕ
  pub of_first : IsClass g [] t first
  pub of_second : IsClass g [] u second
  pub row : HasRow g.rows op (first ∷ second ∷ []) class

pub applied_row : (g : Graph Op) (op : Op) (t u : Tree Op) (c : ℕ) → IsClass g [] (application op (more t (more u none))) c → IsApplied g op t u c
applied_row g op t u _ (at_row (classes p (classes q no_classes)) here) = record { first = _; second = _; of_first = p; of_second = q; row = here }

-- ---- rows

-- the graph's row of this number
pub record IsRowOf (g : LaunchGraph) (op : Op) (operands : List ℕ) (class : ℕ) : Type 0 where
  pub number : ℕ
  pub row : LaunchRow
  pub there : slice_get g.rows number ≡ Some row
  pub op_is : row.op ≡ op
  pub operands_are : row.operands ≡ operands
  pub class_is : row.class ≡ class

viewed_at : {X Y : Type 0} (f : X → Y) (xs : List X) (k : ℕ) (d : Y) → k < length (map f xs) → (x : X) × (slice_get xs k ≡ Some x) × (get_or (map f xs) k d ≡ f x)
viewed_at f [] k d l = absurd (omega arith)
viewed_at f (x ∷ xs) zero d l = (x, refl, refl)
viewed_at f (x ∷ xs) (suc k) d l = viewed_at f xs k d (omega arith)

own_op : (declared : List DeclaredOp) (o : Op) (name : List ℕ) (target : Op) → declared_index target ≡ None → numbered_op declared o name ≡ target → o ≡ target
own_op declared (Declared index arity) name target n e = absurd (none-some _ (sym n ∙ ap declared_index (sym e)))
own_op declared o name target n e = e

pub row_of : (g : LaunchGraph) (declared : List DeclaredOp) (op : Op) (operands : List ℕ) (c : ℕ) → declared_index op ≡ None → HasRow (graph_view declared g).rows op operands c → IsRowOf g op operands c
row_of g declared op operands c plain h =
    let at = viewed_at (row_view declared) g.rows h.0 (record { op = op; operands = operands; class = c }) h.1 in
    let e = sym at.2 ∙ h.2 in
    record {
      number = h.0;
      row = at.0;
      there = at.1;
      op_is = own_op declared at.0.op at.0.name op plain (ap (λ r. r.op) e);
      operands_are = ap (λ r. r.operands) e;
      class_is = ap (λ r. r.class) e;
    }

-- ---- classes are one

module _ (g : LaunchGraph) (graph : IsLaunchGraph g) (op : Op) (operands : List ℕ) where
  apart : (c d : ℕ) (r : IsRowOf g op operands c) (s : IsRowOf g op operands d) → r.number < s.number → ⊥
  apart c d r s lt =
      let in' : s.number < length g.rows = slice_get_within g.rows s.number s.row s.there in
      let x : get_or g.rows r.number r.row ≡ r.row = get_or_from_slice_get g.rows r.number r.row r.row r.there in
      let y : get_or g.rows s.number r.row ≡ s.row = get_or_from_slice_get g.rows s.number s.row r.row s.there in
      let o : (get_or g.rows r.number r.row).op ≡ (get_or g.rows s.number r.row).op =
      ap (λ r. r.op) x ∙ r.op_is ∙ sym s.op_is ∙ sym (ap (λ r. r.op) y) in
      let p : (get_or g.rows r.number r.row).operands ≡ (get_or g.rows s.number r.row).operands =
      ap (λ r. r.operands) x ∙ r.operands_are ∙ sym s.operands_are ∙ sym (ap (λ r. r.operands) y) in
      graph.distinct r.number s.number r.row lt in' (o, p)

  same_place : (c d : ℕ) (r : IsRowOf g op operands c) (s : IsRowOf g op operands d) → r.number ≡ s.number → c ≡ d
  same_place c d r s e =
      let x : Some r.row ≡ Some s.row = sym r.there ∙ ap (slice_get g.rows) e ∙ s.there in
      let y : r.row ≡ s.row = cc in
      sym r.class_is ∙ ap (λ r. r.class) y ∙ s.class_is

  pub one_class : (c d : ℕ) → IsRowOf g op operands c → IsRowOf g op operands d → c ≡ d
  one_class c d r s = elim (cases_lt r.number s.number) [
    | inl b ↦ absurd (apart c d r s b)
    | inr b ↦ elim (cases_lt s.number r.number) [
      | inl k ↦ absurd (apart d c s r k)
      | inr k ↦ same_place c d r s (omega arith)
    ]
  ]

-- ---- launches of rows

not_last : (n m : ℕ) → n < m → (n == m) ≡ false
not_last n m l = elim (eqb_tells n m) [ inl t ↦ (let e : n ≡ m = t.1 in absurd (omega arith)) | inr t ↦ t.0 ]

module _ (g : LaunchGraph) (number : ℕ) (row : LaunchRow) (there : slice_get g.rows number ≡ Some row) where
  within : (number == length g.rows) ≡ false
  within = not_last number (length g.rows) (slice_get_within g.rows number row there)

  pub row_instr : instr_at g number ≡ op_instr g row.op row.operands
  row_instr =
      let plain : plain_instr_at g number ≡ op_instr g row.op row.operands = rw (within, there) refl in
      plain_kind g number (row_no_copy g number row there) ∙ plain

  pub row_reads : operands_at g number ≡ op_operands row.op row.operands
  row_reads =
      let plain : plain_operands_at g number ≡ op_operands row.op row.operands = rw (within, there) refl in
      plain_operands g number (row_no_copy g number row there) ∙ plain

  pub row_class : class_at g number ≡ row.class
  row_class =
      let plain : plain_class_at g number ≡ row.class = rw there refl in
      plain_class g number (row_no_copy g number row there) ∙ plain
