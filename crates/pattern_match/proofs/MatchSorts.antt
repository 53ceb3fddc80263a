-- The sorts of a match's classes. What an E-graph says of its rows' sorts is what `egraph` promises, given here as
-- arguments.
use Rattle.std.proofs.Common.{◌≡◌, ℕ, zero, suc, ◌+◌, ◌<◌, ◌≤◌, List, [], ◌∷◌, length, get_or, slice_index, drop, refl, sym, ap, ◌∙◌, subst, inl, inr, arith, drop-cons}
use Rattle.std.specs.Prelude.{All, Contains}
use Rattle.word_ops.specs.Words.{IsWord}
use Rattle.word_ops.specs.Operators.{arity_of}
use Rattle.word_ops.specs.Meanings.{sort_of, operand_sort}
use Rattle.word_ops.specs.declared.operators.WordOp.{WordOp}
use Rattle.word_ops.specs.declared.sorts.Op.{Op}
use Rattle.word_ops.specs.declared.sorts.Op.TheVariants.{Word}
use Rattle.word_ops.specs.declared.sorts.Sort.{Sort}
use Rattle.word_ops.specs.declared.sorts.Sort.TheVariants as sorts
use Rattle.word_terms.specs.Keys.{op_signature}
use Rattle.word_terms.specs.Tree.{Tree, Trees, variable, application, none, more}
use Rattle.word_terms.specs.Sorting.{HasSort, HaveSorts, sort_at, Occurs, OccursInOne, IsApplication}
use Rattle.axiom_base.specs.Rewrites.{Rewrite, IsUsable}
use Rattle.axiom_base.specs.Computed.{fold_rewrite, variables_from, words_for}
use Rattle.axiom_base.specs.Schemes.{Scheme, folding, IsOf, itself, calculated, folded}
use Rattle.egraph.specs.declared.rows.Row.{Row}
use Rattle.egraph.specs.Graph.{Graph, IsGraph, HasClass, HasConstant, HasRow}
use Rattle.egraph.specs.Sorts.{IsOfSort}
use Rattle.pattern_match.specs.Classes.{IsClass, AreClasses, at_variable, at_row, no_classes, classes}
use Rattle.pattern_match.specs.Matches.{IsMatch}
use Rattle.pattern_match.proofs.Matching.{class_has}

pub match_has : (g : Graph Op) (r : Rewrite) (places : List ℕ) (c : ℕ) → IsMatch g r places c → HasClass g c
match_has g r places c m = class_has g places r.left m.present m.left

module _
    (rows : (g : Graph Op) (r : Row Op) → IsGraph op_signature g → Contains g.rows r → IsOfSort op_signature g r.class (sort_of r.op))
    (operands : (g : Graph Op) (r : Row Op) (at : ℕ) → IsGraph op_signature g → Contains g.rows r → at < length r.operands → IsOfSort op_signature g (slice_index r.operands at) (operand_sort r.op at))
    (constants : (g : Graph Op) (c x : ℕ) → IsGraph op_signature g → HasConstant op_signature g.rows c x → IsOfSort op_signature g c sorts.Word)
    (g : Graph Op) (is : IsGraph op_signature g)
  where
    module _ (cs : List ℕ) (variables : List Sort) where
      class_sort : (p : Tree Op) (sort : Sort) {c : ℕ} → IsApplication p → HasSort op_signature variables sort p → IsClass g cs p c → IsOfSort op_signature g c sort
      class_sort (variable n) sort a h k = absurd a
      class_sort (application op ts) sort a h (at_row {cs = ds} {c} k r) = subst (IsOfSort op_signature g c) h.0 (rows g (record { op = op; operands = ds; class = c }) is r)

      module _ (v : ℕ) where
        mutual
          place_sort : (p : Tree Op) (sort : Sort) {c : ℕ} → HasSort op_signature variables sort p → Occurs v p → IsClass g cs p c → IsOfSort op_signature g c sort → IsOfSort op_signature g (get_or cs v 0) (sort_at variables v)
          place_sort (variable n) sort h e (at_variable l) o =
              let f : n ≡ v = sym e in
              subst (λ m. IsOfSort op_signature g (get_or cs m 0) (sort_at variables m)) f (subst (IsOfSort op_signature g (get_or cs n 0)) (sym h.1) o)
          place_sort (application op ts) sort h o (at_row {cs = ds} {c} k r) s =
              place_sort_in op 0 ts ds (λ i l. let z : i ≡ 0 + i = omega arith in subst (λ n. IsOfSort op_signature g (get_or ds i 0) (operand_sort op n)) z (operands g (record { op = op; operands = ds; class = c }) i is r l)) h.3 o k

          -- `ds` are the operand classes from number `at` on
          place_sort_in : (op : Op) (at : ℕ) (ps : Trees Op) (ds : List ℕ) → ((i : ℕ) → i < length ds → IsOfSort op_signature g (get_or ds i 0) (operand_sort op (at + i))) →
              HaveSorts op_signature variables op at ps → OccursInOne v ps → AreClasses g cs ps ds → IsOfSort op_signature g (get_or cs v 0) (sort_at variables v)
          place_sort_in op at none ds f h o k = absurd o
          place_sort_in op at (more p ps) (d ∷ ds) f h o (classes k m) =
              let z : at + 0 ≡ at = omega arith in
              elim o [
                | inl a ↦ place_sort p (operand_sort op at) h.0 a k (subst (λ n. IsOfSort op_signature g d (operand_sort op n)) z (f 0 (omega arith)))
                | inr b ↦
                    place_sort_in op (at + 1) ps ds
                    (λ i l. let e : at + suc i ≡ at + 1 + i = omega arith in subst (λ n. IsOfSort op_signature g (get_or ds i 0) (operand_sort op n)) e (f (suc i) (omega (arith, l)))) h.1 b m
              ]
          place_sort_in op at (more p ps) [] f h o k = elim k [ ]

    module _ (r : Rewrite) (u : IsUsable r) (places : List ℕ) (c : ℕ) (m : IsMatch g r places c) where
      variable_sort : (p : Tree Op) {d : ℕ} → HasSort op_signature r.variables u.sort p → IsClass g places p d →
          ((n : ℕ) → n < length r.variables → (x : ℕ) × Contains r.constants (n, x) × (sort_at r.variables n ≡ sorts.Word)) → IsOfSort op_signature g d u.sort
      variable_sort (variable n) h (at_variable l) f =
          let k = f n h.0 in
          subst (IsOfSort op_signature g (get_or places n 0)) (sym k.2 ∙ h.1) (constants g (get_or places n 0) k.0 is (m.constants n k.0 k.1))
      variable_sort (application op ts) h k f = class_sort places r.variables (application op ts) u.sort tt h k

      pub match_class : IsOfSort op_signature g c u.sort
      match_class = elim u.grounded [
        | inl a ↦ class_sort places r.variables r.left u.sort a u.left m.left
        | inr f ↦ variable_sort r.left u.left m.left f
      ]

      pub match_places : (n : ℕ) → n < length places → IsOfSort op_signature g (get_or places n 0) (sort_at r.variables n)
      match_places n l = place_sort places r.variables n r.left u.sort u.left (u.all n (omega (arith, l, m.count))) m.left match_class

-- ---- folding

pub fold_only : (s : Scheme) (q : Rewrite) (op : WordOp) → s ≡ folding op → IsOf s q → (cs : List ℕ) × All IsWord cs × (length cs ≡ arity_of op) × (q ≡ fold_rewrite op cs)
fold_only s q op p (itself r) = absurd (cc)
fold_only s q op p (calculated kind cs e is) = absurd (cc)
fold_only s q op p (folded other cs words count) =
    let e : other ≡ op = cc in
    (cs, words, count ∙ ap arity_of e, ap (λ o. fold_rewrite o cs) e)

pub drop_none : (n : ℕ) (xs : List ℕ) → length xs ≤ n → drop n xs ≡ []
drop_none n [] l = at_nil n
  where
    at_nil : (n : ℕ) → drop {A = ℕ} n [] ≡ []
    at_nil zero = refl
    at_nil (suc n) = refl
drop_none zero (x ∷ xs) l = absurd (omega (arith, l))
drop_none (suc n) (x ∷ xs) l = drop_none n xs (omega (arith, l))

-- the classes of variables in order are the places
classes_of_variables : (g : Graph Op) (places : List ℕ) (k : ℕ) (cs : List ℕ) {ds : List ℕ} → k + length cs ≡ length places → AreClasses g places (variables_from k cs) ds → ds ≡ drop k places
classes_of_variables g places k [] e no_classes = sym (drop_none k places (omega (arith, e)))
classes_of_variables g places k (c ∷ cs) e (classes (at_variable l) m) =
    let rest = classes_of_variables g places (k + 1) cs (omega (arith, e)) m in
    let s : k + 1 ≡ suc k = omega arith in
    ap (λ xs. get_or places k 0 ∷ xs) (rest ∙ ap (λ n. drop n places) s) ∙ sym (drop-cons places k 0 l)

pub words_length : (cs : List ℕ) → length (words_for cs) ≡ length cs
words_length [] = refl
words_length (c ∷ cs) = let e = words_length cs in omega (arith, e)

row_of : (g : Graph Op) (places : List ℕ) (op : WordOp) (cs : List ℕ) (c : ℕ) → length places ≡ length cs → IsClass g places (application (Word op) (variables_from 0 cs)) c → HasRow g.rows (Word op) places c
row_of g places op cs c e (at_row {cs = ds} k r) = subst (λ xs. HasRow g.rows (Word op) xs c) (classes_of_variables g places 0 cs (omega (arith, e)) k) r

pub fold_row : (g : Graph Op) (op : WordOp) (r : Rewrite) (places : List ℕ) (c : ℕ) → IsOf (folding op) r → IsMatch g r places c → HasRow g.rows (Word op) places c
fold_row g op r places c of m =
    let o = fold_only (folding op) r op refl of in
    let n = subst (λ q. IsMatch g q places c) o.3 m in
    row_of g places op o.0 c (n.count ∙ words_length o.0) n.left
