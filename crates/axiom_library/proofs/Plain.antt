-- An axiom is well formed if it passes a test, which computes.
use Rattle.std.proofs.Common.{◌≡◌, ℕ, zero, suc, ◌+◌, ◌^◌, ◌<◌, ◌≤◌, ◌==◌, ◌≢◌, Bool, true, false, not as negated, List, length, replicate, refl, sym, subst, arith, ⊎_elim, inl, inr}
use Rattle.std.specs.Prelude.{◌&&◌, ◌||◌, AllPairs, if◌then◌else◌, nat_lt, bytes_eq}
use Rattle.std.specs.List.{list_all}
use Rattle.std.proofs.lemmas.Bool.{and_parts, or_cases, cases_lt, false≢true}
use Rattle.std.proofs.lemmas.Bool.Decides.{nat_tests}
use Rattle.std.proofs.lemmas.List.{get_or-replicate, length-replicate}
use Rattle.std.proofs.lemmas.List.Sums.{AllPass-from_list_all}
use Rattle.std.proofs.lemmas.Slice.Eq.{bytes_eq-Decides}
use Rattle.text_core.specs.Names.{IsName, begins_name}
use Rattle.text_core.specs.Pieces.{is_word_byte}
use Rattle.machine_table.proofs.Decide.{Dec, dec_by, dec_not, dec_pairs, holds, sure}
use Rattle.word_ops.specs.Meanings.{takes_memory}
use Rattle.word_ops.specs.Operators.{arity_of}
use Rattle.word_ops.specs.declared.sorts.Op.{Op}
use Rattle.word_ops.specs.declared.sorts.Op.TheVariants.{Constant, Word}
use Rattle.word_ops.specs.declared.sorts.Sort.TheVariants as sorts
use Rattle.word_terms.specs.Keys.{op_signature}
use Rattle.word_terms.specs.OperatorsIn.{operators_in, EachOperator, EachOperatorOfAll}
use Rattle.word_terms.specs.Sorting.{tree_count, HasSort, HaveSorts, Occurs, OccursInOne, IsApplication}
use Rattle.word_terms.specs.Tree.{Tree, Trees, variable, application, none, more}
use Rattle.goal_meaning.specs.Names.{is_reserved, is_written}
use Rattle.goal_meaning.specs.Views.{AxiomTree}
use Rattle.goal_meaning.specs.WellFormed.{IsAxiom, IsOfAxiom, IsOperation}
use Rattle.goal_meaning.specs.declared.goals.DeclaredOp.{DeclaredOp}
use Rattle.axiom_library.specs.Families.{IsApart}

-- ---- operators that a text can write, with as many operands as they take, and variables below k

abbrev pub is_plain_operator : Op → ℕ → Bool
is_plain_operator (Constant c) count = nat_lt c (2 ^ 64) && count == 0
is_plain_operator (Word op) count = is_written op && count == arity_of op
is_plain_operator _ count = false

abbrev mutual
  pub is_plain : ℕ → Tree Op → Bool
  is_plain k (variable n) = nat_lt n k
  is_plain k (application op ts) = is_plain_operator op (tree_count ts) && are_plain k ts

  pub are_plain : ℕ → Trees Op → Bool
  are_plain k none = true
  are_plain k (more t ts) = is_plain k t && are_plain k ts

below_from_test : (n k : ℕ) → nat_lt n k ≡ true → n < k
below_from_test n k e = grind (arith, nat_tests, e)

same_from_test : (n k : ℕ) → (n == k) ≡ true → n ≡ k
same_from_test n k e = grind (arith, nat_tests, e)

mutual
  sorted : (k : ℕ) (t : Tree Op) → is_plain k t ≡ true → HasSort op_signature (replicate k sorts.Word) sorts.Word t
  sorted k (variable n) e =
      let below = below_from_test n k e in
      (omega (arith, length-replicate k sorts.Word, below), get_or-replicate k n sorts.Word sorts.Word below)
  sorted k (application (Constant c) ts) e =
      let parts = and_parts _ _ e in
      let own = and_parts _ _ parts.0 in
      (refl, below_from_test c (2 ^ 64) own.0, same_from_test (tree_count ts) 0 own.1, all_sorted k (Constant c) refl 0 ts parts.1)
  sorted k (application (Word op) ts) e =
      let parts = and_parts _ _ e in
      let own = and_parts _ _ parts.0 in
      (refl, tt, same_from_test (tree_count ts) (arity_of op) own.1, all_sorted k (Word op) refl 0 ts parts.1)
  sorted k (application _ ts) e = absurd (false≢true e)

  all_sorted :
      (k : ℕ) (op : Op) →
      takes_memory op ≡ false →
      (at : ℕ) (ts : Trees Op) →
      are_plain k ts ≡ true →
      HaveSorts op_signature (replicate k sorts.Word) op at ts
  all_sorted k op of_words at none e = tt
  all_sorted k op of_words at (more t ts) e =
      let parts = and_parts _ _ e in (
        subst (λ b. HasSort op_signature (replicate k sorts.Word) (if b && at == 0 then sorts.Memory else sorts.Word) t) (sym of_words) (sorted k t parts.0),
        all_sorted k op of_words (at + 1) ts parts.1,
      )

module _ (declared : List DeclaredOp) where
  mutual
    written : (k : ℕ) (t : Tree Op) → is_plain k t ≡ true → EachOperator (IsOfAxiom declared) t
    written k (variable n) e = tt
    written k (application (Constant c) ts) e = (tt, all_written k ts (and_parts _ _ e).1)
    written k (application (Word op) ts) e =
        let parts = and_parts _ _ e in
        let own = and_parts _ _ parts.0 in
        (own.0, all_written k ts parts.1)
    written k (application _ ts) e = absurd (false≢true e)

    all_written : (k : ℕ) (ts : Trees Op) → are_plain k ts ≡ true → EachOperatorOfAll (IsOfAxiom declared) ts
    all_written k none e = tt
    all_written k (more t ts) e = let parts = and_parts _ _ e in (written k t parts.0, all_written k ts parts.1)

-- ---- where variables stand

abbrev mutual
  pub occurs : ℕ → Tree Op → Bool
  occurs n (variable k) = n == k
  occurs n (application op ts) = occurs_in_one n ts

  pub occurs_in_one : ℕ → Trees Op → Bool
  occurs_in_one n none = false
  occurs_in_one n (more t ts) = occurs n t || occurs_in_one n ts

mutual
  found : (n : ℕ) (t : Tree Op) → occurs n t ≡ true → Occurs n t
  found n (variable k) e = same_from_test n k e
  found n (application op ts) e = found_in_one n ts e

  found_in_one : (n : ℕ) (ts : Trees Op) → occurs_in_one n ts ≡ true → OccursInOne n ts
  found_in_one n none e = absurd (false≢true e)
  found_in_one n (more t ts) e = ⊎_elim (λ first. inl (found n t first)) (λ rest. inr (found_in_one n ts rest)) (or_cases _ _ e)

mutual
  below : (k n : ℕ) (t : Tree Op) → is_plain k t ≡ true → Occurs n t → n < k
  below k n (variable m) e h = let l = below_from_test m k e in omega (arith, l, h)
  below k n (application op ts) e h = one_below k n ts (and_parts _ _ e).1 h

  one_below : (k n : ℕ) (ts : Trees Op) → are_plain k ts ≡ true → OccursInOne n ts → n < k
  one_below k n none e h = absurd h
  one_below k n (more t ts) e h =
      let parts = and_parts _ _ e in ⊎_elim (λ first. below k n t parts.0 first) (λ rest. one_below k n ts parts.1 rest) h

-- each variable below k stands in the tree
abbrev pub all_occur : ℕ → Tree Op → Bool
all_occur zero t = true
all_occur (suc k) t = occurs k t && all_occur k t

each_occurs : (k n : ℕ) (t : Tree Op) → n < k → all_occur k t ≡ true → Occurs n t
each_occurs zero n t l e = absurd (omega arith)
each_occurs (suc k) n t l e =
    let parts = and_parts _ _ e in
    ⊎_elim
    (λ (less : n < k). each_occurs k n t less parts.1)
    (λ (from : k ≤ n). let same : k ≡ n = omega arith in subst (λ m. Occurs m t) same (found k t parts.0))
    (cases_lt n k)

-- ---- sides

abbrev pub is_operation : Tree Op → Bool
is_operation (variable n) = false
is_operation (application (Word op) ts) = true
is_operation (application _ ts) = false

applied : (t : Tree Op) → is_operation t ≡ true → IsApplication t × IsOperation t
applied (variable n) e = absurd (false≢true e)
applied (application (Word op) ts) e = (tt, refl)
applied (application _ ts) e = absurd (false≢true e)

abbrev pub sides_fit : AxiomTree → Bool
sides_fit a =
    is_plain (length a.variables) a.left
    && (is_plain (length a.variables) a.right
    && (is_operation a.left && (all_occur (length a.variables) a.left && nat_lt (operators_in a.left + operators_in a.right) (2 ^ 29))))

-- ---- names of variables

abbrev pub is_own_name : List ℕ → Bool
is_own_name n = begins_name n && (list_all is_word_byte n && negated (is_reserved n))

abbrev pub decided_apart : (ns : List (List ℕ)) → Dec (AllPairs (λ m n. m ≢ n) ns)
decided_apart ns = dec_pairs (λ m n. m ≢ n) (λ m n. dec_not (dec_by (bytes_eq m n) (bytes_eq-Decides m n))) ns

abbrev pub names_fit : List (List ℕ) → Bool
names_fit ns = list_all is_own_name ns && (holds (decided_apart ns) && (nat_lt 0 (length ns) && nat_lt (length ns) 9))

false_from_test : (b : Bool) → negated b ≡ true → b ≡ false
false_from_test true e = absurd (false≢true e)
false_from_test false e = refl

own_name : (n : List ℕ) → is_own_name n ≡ true → IsName n × (is_reserved n ≡ false)
own_name n e =
    let parts = and_parts _ _ e in
    let rest = and_parts _ _ parts.1 in
    (record { begins = parts.0; each = rest.0 }, false_from_test (is_reserved n) rest.1)

-- ---- axioms

abbrev pub fits : AxiomTree → Bool
fits a = names_fit a.variables && sides_fit a

pub well_formed : (declared : List DeclaredOp) (a : AxiomTree) → fits a ≡ true → IsApart declared a → IsAxiom declared a
well_formed declared a e apart =
    let k = length a.variables in
    let both = and_parts _ _ e in
    let names = and_parts _ _ both.0 in
    let pairs = and_parts _ _ names.1 in
    let count = and_parts _ _ pairs.1 in
    let own = AllPass-from_list_all is_own_name a.variables names.0 in
    let left = and_parts _ _ both.1 in
    let right = and_parts _ _ left.1 in
    let operation = and_parts _ _ right.1 in
    let all = and_parts _ _ operation.1 in
    let some = below_from_test 0 k count.0 in
    let most = below_from_test k 9 count.1 in
    record {
      named = λ i d l. (own_name _ (own i d l)).0;
      some = (some, omega (arith, most));
      differ = sure (decided_apart a.variables) pairs.0;
      own = λ i d l. ((own_name _ (own i d l)).1, apart i d l);
      left = sorted k a.left left.0;
      right = sorted k a.right right.0;
      left_operators = written declared k a.left left.0;
      right_operators = written declared k a.right right.0;
      application = (applied a.left operation.0).0;
      operation = (applied a.left operation.0).1;
      bound = λ n h. each_occurs k n a.left (below k n a.right right.0 h) all.0;
      few = below_from_test _ (2 ^ 29) all.1;
    }
