-- The sorts of a match's classes, so that what it asks may be made.
use Rattle.std.proofs.Common.{◌≡◌, ℕ, suc, ◌+◌, ◌<◌, List, [], ◌∷◌, length, get_or, Contains, refl, sym, ◌∙◌, subst, inl, inr, arith}
use Rattle.word_ops.specs.declared.sorts.Op.{Op}
use Rattle.word_ops.specs.declared.sorts.Sort.{Sort}
use Rattle.word_ops.specs.declared.sorts.Sort.TheVariants as sorts
use Rattle.word_ops.specs.Meanings.{sort_of, operand_sort}
use Rattle.word_terms.specs.Keys.{op_signature}
use Rattle.word_terms.specs.Laws.{op_constant_is_word}
use Rattle.word_terms.specs.Tree.{Tree, Trees, variable, application, none, more}
use Rattle.axiom_base.specs.Rewrites.{Rewrite, IsUsable}
use Rattle.word_terms.specs.Sorting.{HasSort, HaveSorts, sort_at, Occurs, OccursInOne, IsApplication}
use Rattle.egraph.specs.declared.rows.Row.{Row}
use Rattle.egraph.specs.Graph.{Graph, HasClass, HasConstant, IsGraph}
use Rattle.pattern_match.specs.Classes.{IsClass, AreClasses, at_variable, at_row, classes}
use Rattle.pattern_match.specs.Matches.{IsMatch}
use Rattle.saturation.specs.Trace.{MayJoin}
use Rattle.egraph.specs.Sorts.{IsOfSort}
use Rattle.saturation.proofs.Graphs.{has_made, has_present, operands_have}

-- the class of a row is of the sort that the row gives
of_row : (g : Graph Op) → IsGraph op_signature g → (c : ℕ) (sort : Sort) (r : Row Op) → Contains g.rows r → r.class ≡ c → sort_of r.op ≡ sort → IsOfSort op_signature g c sort
of_row g is c sort r h e s =
    let has : HasClass g c = record { row = r; there = h; is = e } in
    record { made = has_made op_signature g is c has; row = r; there = h; in_class = e ∙ sym (has_present op_signature g is c has); sort_is = s }

module _ (g : Graph Op) (is : IsGraph op_signature g) (cs : List ℕ) (variables : List Sort) where
  -- the class of an application
  pub class_sort : (p : Tree Op) (sort : Sort) {c : ℕ} → IsApplication p → HasSort op_signature variables sort p → IsClass g cs p c → IsOfSort op_signature g c sort
  class_sort (variable n) sort a h k = absurd a
  class_sort (application op ts) sort a h (at_row {cs = ds} {c} k r) = of_row g is c sort (record { op = op; operands = ds; class = c }) r refl h.0

  -- the operand classes of a row are of the sorts that its operator takes
  operands_of_sorts : (r : Row Op) → Contains g.rows r → (i : ℕ) → i < length r.operands → IsOfSort op_signature g (get_or r.operands i 0) (operand_sort r.op (0 + i))
  operands_of_sorts r h i l =
      let has = operands_have op_signature g is r h i 0 l in
      let z : i ≡ 0 + i = omega arith in
      let e = is.operand_sorts r has.row i h has.there l has.is in
      subst (λ n. IsOfSort op_signature g (get_or r.operands i 0) (operand_sort r.op n)) z (of_row g is (get_or r.operands i 0) (operand_sort r.op i) has.row has.there has.is (sym e))

  module _ (v : ℕ) where
    mutual
      place_sort : (p : Tree Op) (sort : Sort) {c : ℕ} → HasSort op_signature variables sort p → Occurs v p → IsClass g cs p c → IsOfSort op_signature g c sort → IsOfSort op_signature g (get_or cs v 0) (sort_at variables v)
      place_sort (variable n) sort h e (at_variable l) o =
          let f : n ≡ v = sym e in
          subst (λ m. IsOfSort op_signature g (get_or cs m 0) (sort_at variables m)) f (subst (IsOfSort op_signature g (get_or cs n 0)) (sym h.1) o)
      place_sort (application op ts) sort h o (at_row {cs = ds} {c} k r) s = place_sort_in op 0 ts ds (operands_of_sorts (record { op = op; operands = ds; class = c }) r) h.3 o k

      -- `ds` are the operand classes from number `at` on
      place_sort_in : (op : Op) (at : ℕ) (ps : Trees Op) (ds : List ℕ) → ((i : ℕ) → i < length ds → IsOfSort op_signature g (get_or ds i 0) (operand_sort op (at + i))) →
          HaveSorts op_signature variables op at ps → OccursInOne v ps → AreClasses g cs ps ds → IsOfSort op_signature g (get_or cs v 0) (sort_at variables v)
      place_sort_in op at none ds f h o k = absurd o
      place_sort_in op at (more p ps) (d ∷ ds) f h o (classes k m) =
          let z : at + 0 ≡ at = omega arith in
          elim o [
            | inl a ↦ place_sort p (operand_sort op at) h.0 a k (subst (λ n. IsOfSort op_signature g d (operand_sort op n)) z (f 0 (omega arith)))
            | inr b ↦
                place_sort_in op (at + 1) ps ds
                (λ i l. let e : at + suc i ≡ at + 1 + i = omega arith in subst (λ n. IsOfSort op_signature g (get_or ds i 0) (operand_sort op n)) e (f (suc i) (omega (arith, l)))) h.1 b m
          ]
      place_sort_in op at (more p ps) [] f h o k = elim k [ ]

  pub place_of_sort : (v : ℕ) (p : Tree Op) (sort : Sort) {c : ℕ} → HasSort op_signature variables sort p → Occurs v p → IsClass g cs p c → IsOfSort op_signature g c sort → IsOfSort op_signature g (get_or cs v 0) (sort_at variables v)
  place_of_sort v p sort h o k s = place_sort v p sort h o k s

constant_sort : (g : Graph Op) → IsGraph op_signature g → (c x : ℕ) → HasConstant op_signature g.rows c x → IsOfSort op_signature g c sorts.Word
constant_sort g is c x h = of_row g is c sorts.Word h.row h.there h.of_class (op_constant_is_word h.row.op x h.is)

-- what an unmet match asks may be made
module _ (g : Graph Op) (is : IsGraph op_signature g) (r : Rewrite) (u : IsUsable r) (places : List ℕ) (c : ℕ) (m : IsMatch g r places c) where
  variable_sort : (p : Tree Op) {d : ℕ} → HasSort op_signature r.variables u.sort p → IsClass g places p d →
      ((n : ℕ) → n < length r.variables → (x : ℕ) × Contains r.constants (n, x) × (sort_at r.variables n ≡ sorts.Word)) → IsOfSort op_signature g d u.sort
  variable_sort (variable n) h (at_variable l) f =
      let k = f n h.0 in
      subst (IsOfSort op_signature g (get_or places n 0)) (sym k.2 ∙ h.1) (constant_sort g is (get_or places n 0) k.0 (m.constants n k.0 k.1))
  variable_sort (application op ts) h k f = class_sort g is places r.variables (application op ts) u.sort tt h k

  pub match_class : IsOfSort op_signature g c u.sort
  match_class = elim u.grounded [
    | inl a ↦ class_sort g is places r.variables r.left u.sort a u.left m.left
    | inr f ↦ variable_sort r.left u.left m.left f
  ]

  -- the class of the left side is one of the graph
  variable_has : (p : Tree Op) {d : ℕ} → HasSort op_signature r.variables u.sort p → IsClass g places p d → HasClass g d
  variable_has (variable n) h (at_variable l) = m.present n 0 l
  variable_has (application op ts) h (at_row {cs = ds} {c = d} k i) = record { row = record { op = op; operands = ds; class = d }; there = i; is = refl }

  pub match_has : HasClass g c
  match_has = variable_has r.left u.left m.left

  pub match_places : (n : ℕ) → n < length places → IsOfSort op_signature g (get_or places n 0) (sort_at r.variables n)
  match_places n l = place_of_sort g is places r.variables n r.left u.sort u.left (u.all n (omega (arith, l, m.count))) m.left match_class

  pub match_may : MayJoin g (record { right = r.right; places = places; class = c })
  match_may = record {
    sort = u.sort;
    right = record { variables = r.variables; count = m.count; places_have = match_places; has_sort = u.right };
    class = match_class;
  }
