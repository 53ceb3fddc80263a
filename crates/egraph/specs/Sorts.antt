-- The sorts of classes: what the operators of a class give, words or memories. From Denali (PLDI 2002), whose classes
-- stand for values of one sort.
use Rattle.std.specs.Prelude.{◌≡◌, ℕ, ◌<◌, List, length, slice_index, Contains}
use Rattle.word_ops.specs.declared.sorts.Sort.{Sort}
use Rattle.word_terms.specs.Signature.{Signature}
use Rattle.egraph.specs.declared.rows.Row.{Row}
use Rattle.egraph.specs.Graph.{Graph}

-- the class was made, and a row of the class that it is in at present gives the sort
pub record IsOfSort {O : Type 0} (s : Signature O) (g : Graph O) (class : ℕ) (sort : Sort) : Type 0 where
  pub made : class < length g.current
  pub row : Row O
  pub there : Contains g.rows row
  pub in_class : row.class ≡ slice_index g.current class
  pub sort_is : s.sort row.op ≡ sort

-- each class has the sorts that it had
abbrev pub KeepsSorts : {O : Type 0} → Signature O → Graph O → Graph O → Type 0
KeepsSorts s old new = (class : ℕ) (sort : Sort) → IsOfSort s old class sort → IsOfSort s new class sort

-- each of the classes is of the sort for its place
abbrev pub AreOfSorts : {O : Type 0} → Signature O → Graph O → (ℕ → Sort) → List ℕ → Type 0
AreOfSorts s g sort_at classes = (at : ℕ) → at < length classes → IsOfSort s g (slice_index classes at) (sort_at at)

-- no row of one of the classes gives another sort than the operator takes there
abbrev pub FitOperator : {O : Type 0} → Signature O → Graph O → O → List ℕ → Type 0
FitOperator {O} s g op classes =
    (at : ℕ) (t : Row O) →
    at < length classes →
    Contains g.rows t →
    t.class ≡ slice_index g.current (slice_index classes at) →
    s.operand_sort op at ≡ s.sort t.op

-- the rows of both classes give one sort
abbrev pub AreOfOneSort : {O : Type 0} → Signature O → Graph O → ℕ → ℕ → Type 0
AreOfOneSort {O} s g a b =
    (r t : Row O) →
    Contains g.rows r →
    Contains g.rows t →
    r.class ≡ slice_index g.current a →
    t.class ≡ slice_index g.current b →
    s.sort r.op ≡ s.sort t.op
