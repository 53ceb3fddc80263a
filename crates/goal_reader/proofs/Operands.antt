-- Operands read one after another.
use Rattle.std.proofs.Common.{◌≡◌, ℕ, zero, suc, ◌+◌, ◌<◌, ◌-◌, Option, None, Some, List, [], ◌∷◌, ◌++◌, length, take, drop, get_or, refl, sym, ap, ◌∙◌, subst, arith, slice_get, option_map, All}
use Rattle.std.proofs.lemmas.Option.{slice_get-get_or}
use Rattle.std.proofs.lemmas.List.{length-map, take_all, length-take}
use Rattle.word_ops.specs.Meanings.{arity_of_op, sort_of, operand_sort}
use Rattle.word_ops.specs.declared.sorts.Sort.{Sort}
use Rattle.word_ops.specs.declared.sorts.Op.{Op}
use Rattle.word_terms.specs.Tree.{Tree, operands_of}
use Rattle.word_terms.specs.Tree as tree
use Rattle.text_core.specs.declared.faults.Kind.{Kind}
use Rattle.text_core.specs.declared.sexps.Sexp.{Sexp}
use Rattle.text_core.specs.Faults.{IsFirst}
use Rattle.forms.specs.Forms.{Form, Forms, atom, list, more, name, place_of, parts_of, forms_list, forms_from, name_in, sexp_form, sexp_forms}
use Rattle.forms.specs.Forms.{Stands}
use Rattle.forms.proofs.First.{first_inside, ClearTo}
use Rattle.goal_reader.specs.declared.scopes.Scope.{Scope}
use Rattle.goal_reader.specs.Scopes.{operator_named}
use Rattle.goal_reader.specs.Terms.{Writes, WritesEach, application, nothing, operand}
use Rattle.goal_reader.specs.Roles.{term, operator, IsOwn, part_role, IsFaultAs, IsApplicationForm, WritesTerm, operator_in, ◌>>=◌}
use Rattle.goal_reader.proofs.Heads.{list_from, part_form}
use Rattle.goal_reader.proofs.Apart.{operator_name_clear, each_clear, operand_role, at_role}
use Rattle.goal_reader.proofs.Atoms.{name_is}
use Rattle.word_terms.specs.declared.term.Term.{Term}
use Rattle.word_terms.specs.View.{tree_of, trees_of}
use Rattle.goal_reader.proofs.Owns as owns

-- one operand more
writes_behind : (scope : Scope) (op : Op) (at : ℕ) (fs : List Form) (ts : List (Tree Op)) (f : Form) (t : Tree Op) → WritesEach scope op at (forms_from fs) (operands_of ts) → Writes scope (operand_sort op (at + length fs)) f t
    → WritesEach scope op at (forms_from (fs ++ f ∷ [])) (operands_of (ts ++ t ∷ []))
writes_behind scope op at [] [] f t nothing w = operand (subst (λ n. Writes scope (operand_sort op n) f t) (omega arith) w) nothing
writes_behind scope op at [] (y ∷ ts) f t each w = elim each [ ]
writes_behind scope op at (x ∷ fs) [] f t each w = elim each [ ]
writes_behind scope op at (x ∷ fs) (y ∷ ts) f t (operand one others) w =
    operand one (writes_behind scope op (at + 1) fs ts f t others (subst (λ n. Writes scope (operand_sort op n) f t) (omega arith) w))

map_behind : (text : List ℕ) (parts : List Sexp) (part : Sexp) → sexp_forms text (parts ++ part ∷ []) ≡ sexp_forms text parts ++ sexp_form text part ∷ []
map_behind text [] part = refl
map_behind text (x ∷ xs) part = ap (λ fs. sexp_form text x ∷ fs) (map_behind text xs part)

map_take : (text : List ℕ) (parts : List Sexp) (i : ℕ) → sexp_forms text (take i parts) ≡ take i (sexp_forms text parts)
map_take text [] zero = refl
map_take text [] (suc i) = refl
map_take text (x ∷ xs) zero = refl
map_take text (x ∷ xs) (suc i) = ap (λ fs. sexp_form text x ∷ fs) (map_take text xs i)

pub writes_more : (scope : Scope) (op : Op) (text : List ℕ) (parts : List Sexp) (ts : List (Tree Op)) (part : Sexp) (t : Tree Op) (i : ℕ) → i ≡ length parts → WritesEach scope op 0 (forms_from (sexp_forms text parts)) (operands_of ts) → WritesTerm scope (Some (operand_sort op i)) (sexp_form text part) t
    → WritesEach scope op 0 (forms_from (sexp_forms text (parts ++ part ∷ []))) (operands_of (ts ++ t ∷ []))
writes_more scope op text parts ts part t i e each one =
    let count : i ≡ 0 + length (sexp_forms text parts) = (let l = length-map parts (sexp_form text) in omega (arith, l, e)) in
    let more_one = writes_behind scope op 0 (sexp_forms text parts) ts (sexp_form text part) t each (subst (λ n. Writes scope (operand_sort op n) (sexp_form text part) t) count (subst (λ (s : Sort). Writes scope s (sexp_form text part) t) one.wanted_one one.writes)) in
    subst (λ (fs : List Form). WritesEach scope op 0 (forms_from fs) (operands_of (ts ++ t ∷ []))) (sym (map_behind text parts part)) more_one

known_name : (scope : Scope) (op : Op) (known : Option (List ℕ)) → (known >>= operator_named scope.declared) ≡ Some op → (bytes : List ℕ) × (known ≡ Some bytes) × (operator_named scope.declared bytes ≡ Some op)
known_name scope op None k = cc
known_name scope op (Some bytes) k = (bytes, refl, k)

-- the head of an application that is known has no fault
head_clear : (scope : Scope) (wanted : Option Sort) (p : ℕ) (head : Form) (rest : Forms) (op : Op) → IsApplicationForm scope wanted (list p (more head rest)) op → (place : ℕ) (kind : Kind) → IsFaultAs (operator scope.declared) head place kind → ⊥
head_clear scope wanted p head rest op a =
    let n = known_name scope op (name_in head) a.known in
    operator_name_clear scope.declared head n.0 op n.1 n.2

take_get : {X : Type 0} (xs : List X) (i k : ℕ) → k < i → slice_get (take i xs) k ≡ slice_get xs k
take_get [] zero k l = refl
take_get [] (suc i) k l = refl
take_get (x ∷ xs) zero k l = absurd (omega arith)
take_get (x ∷ xs) (suc i) zero l = refl
take_get (x ∷ xs) (suc i) (suc k) l = take_get xs i k (omega arith)

clear_before : (scope : Scope) (wanted : Option Sort) (p : ℕ) (head : Form) (rest : List Form) (op : Op) (i : ℕ) (ts : List (Tree Op)) → IsApplicationForm scope wanted (list p (more head (forms_from rest))) op → WritesEach scope op 0 (forms_from (take i rest)) (operands_of ts)
    → ClearTo IsOwn part_role (term scope wanted) (list p (more head (forms_from rest))) (suc i)
clear_before scope wanted p head rest op i ts a each zero part other place kind l g e fault =
    let same : part ≡ head = cc in
    let role : other ≡ operator scope.declared = cc in
    head_clear scope wanted p head (forms_from rest) op a place kind (at_role _ other head part place kind role same fault)
clear_before scope wanted p head rest op i ts a each (suc k) part other place kind l g e fault =
    let role = operand_role scope op (operator_in scope.declared (list p (more head (forms_from rest)))) k other a.known e in
    let got : slice_get (forms_list (forms_from (take i rest))) k ≡ Some part =
    ap (λ fs. slice_get fs k) (list_from (take i rest)) ∙ take_get rest i k (omega arith) ∙ ap (λ fs. slice_get fs k) (sym (list_from rest)) ∙ g in
    each_clear each k part got place kind (at_role _ other part part place kind (role ∙ ap (λ m. term scope (Some (operand_sort op m))) (omega arith)) refl fault)

-- the first fault of an application whose operands so far have none
module _ (scope : Scope) (wanted : Option Sort) (form : Form) (p low high : ℕ) (h : Stands low high form) (op : Op) (a : IsApplicationForm scope wanted form op) where
  operand_first_in : (text : List ℕ) (head : Form) (rest : List Sexp) (ts : List (Tree Op)) (part : Sexp) (i place : ℕ) (kind : Kind) → form ≡ list p (more head (forms_from (sexp_forms text rest))) → i < length rest → part ≡ get_or rest i part
      → WritesEach scope op 0 (forms_from (sexp_forms text (take i rest))) (operands_of ts) → IsFirst (IsFaultAs (term scope (Some (operand_sort op i))) (sexp_form text part)) place kind → IsFirst (IsFaultAs (term scope wanted) form) place kind
  operand_first_in text head rest ts part i place kind e l is each first =
      let whole : Form = list p (more head (forms_from (sexp_forms text rest))) in
      let b : IsApplicationForm scope wanted whole op = subst (λ (x : Form). IsApplicationForm scope wanted x op) e a in
      let s : Stands low high whole = subst (λ (x : Form). Stands low high x) e h in
      let got : slice_get rest i ≡ Some part = slice_get-get_or rest i part l ∙ ap Some (sym is) in
      let got_form : slice_get (forms_list (forms_from (sexp_forms text rest))) i ≡ Some (sexp_form text part) = ap (λ fs. slice_get fs i) (list_from (sexp_forms text rest)) ∙ part_form text rest i part got in
      let before : WritesEach scope op 0 (forms_from (take i (sexp_forms text rest))) (operands_of ts) = subst (λ (fs : List Form). WritesEach scope op 0 (forms_from fs) (operands_of ts)) (map_take text rest i) each in
      subst (λ (x : Form). IsFirst (IsFaultAs (term scope wanted) x) place kind) (sym e)
      (first_inside IsOwn part_role (term scope wanted) whole low high (suc i) (sexp_form text part) (term scope (Some (operand_sort op i))) place kind s
      (owns.application_clear scope p head (forms_from (sexp_forms text rest)) wanted op b) got_form (ap (option_map (λ o. term scope (Some (operand_sort o i)))) b.known)
      (clear_before scope wanted p head (sexp_forms text rest) op i ts b before) first)

  pub operand_first : (text : List ℕ) (parts rest : List Sexp) (ts : List (Tree Op)) (part : Sexp) (i place : ℕ) (kind : Kind) → form ≡ list p (forms_from (sexp_forms text parts)) → rest ≡ drop 1 parts → i < length rest → part ≡ get_or rest i part
      → WritesEach scope op 0 (forms_from (sexp_forms text (take i rest))) (operands_of ts) → IsFirst (IsFaultAs (term scope (Some (operand_sort op i))) (sexp_form text part)) place kind → IsFirst (IsFaultAs (term scope wanted) form) place kind
  operand_first text [] rest ts part i place kind e r l is each first = absurd (let n : length rest ≡ 0 = ap length r in omega (arith, l, n))
  operand_first text (x ∷ xs) rest ts part i place kind e r l is each first =
      operand_first_in text (sexp_form text x) rest ts part i place kind (e ∙ ap (λ ys. list p (more (sexp_form text x) (forms_from (sexp_forms text ys)))) (sym r)) l is each first

  whole_in : (text : List ℕ) (head : Form) (rest : List Sexp) (ts : List (Tree Op)) → form ≡ list p (more head (forms_from (sexp_forms text rest))) → WritesEach scope op 0 (forms_from (sexp_forms text rest)) (operands_of ts)
      → WritesTerm scope wanted form (tree.application op (operands_of ts))
  whole_in text head rest ts e each =
      let b : IsApplicationForm scope wanted (list p (more head (forms_from (sexp_forms text rest)))) op = subst (λ (x : Form). IsApplicationForm scope wanted x op) e a in
      let n = known_name scope op (name_in head) b.known in
      let is : head ≡ atom (place_of head) (name n.0) = name_is head n.0 n.1 in
      let count : length (forms_list (forms_from (sexp_forms text rest))) ≡ arity_of_op op = (let c = b.count in omega (arith, c)) in
      record {
        sort = sort_of op;
        wanted_one = a.wanted_one;
        writes = subst (λ (x : Form). Writes scope (sort_of op) x (tree.application op (operands_of ts))) (sym (e ∙ ap (λ hd. list p (more hd (forms_from (sexp_forms text rest)))) is)) (application n.2 refl count each);
      }

  pub whole_term : (text : List ℕ) (parts rest : List Sexp) (ts : List (Tree Op)) → form ≡ list p (forms_from (sexp_forms text parts)) → rest ≡ drop 1 parts → WritesEach scope op 0 (forms_from (sexp_forms text rest)) (operands_of ts)
      → WritesTerm scope wanted form (tree.application op (operands_of ts))
  whole_term text [] rest ts e r each = absurd (let n : 0 ≡ 1 + arity_of_op op = ap (λ (f : Form). length (parts_of f)) (sym e) ∙ a.count in omega (arith, n))
  whole_term text (x ∷ xs) rest ts e r each = whole_in text (sexp_form text x) rest ts (e ∙ ap (λ ys. list p (more (sexp_form text x) (forms_from (sexp_forms text ys)))) (sym r)) each

pub rest_is : (xs : List Sexp) → take (length xs - 1) (drop 1 xs) ≡ drop 1 xs
rest_is [] = refl
rest_is (x ∷ xs) = take_all (length (x ∷ xs) - 1) xs (omega arith)

-- how many operands an application has
pub operand_count : (scope : Scope) (wanted : Option Sort) (form : Form) (p : ℕ) (op : Op) (text : List ℕ) (parts : List Sexp) → IsApplicationForm scope wanted form op → form ≡ list p (forms_from (sexp_forms text parts)) → length parts ≡ 1 + arity_of_op op
operand_count scope wanted form p op text parts a e =
    sym (length-map parts (sexp_form text)) ∙ sym (ap length (list_from (sexp_forms text parts))) ∙ ap (λ (f : Form). length (parts_of f)) (sym e) ∙ a.count

all_drop : (P : Sexp → Type 0) (xs : List Sexp) → All P xs → All P (drop 1 xs)
all_drop P [] h = h
all_drop P (x ∷ xs) h = λ k d l. h (suc k) d (omega (arith, l))

pub all_rest : (P : Sexp → Type 0) (xs rest : List Sexp) → rest ≡ drop 1 xs → All P xs → All P rest
all_rest P xs rest e h = subst (All P) (sym e) (all_drop P xs h)

take_more : {X : Type 0} (xs : List X) (i : ℕ) (d : X) → i < length xs → take (i + 1) xs ≡ take i xs ++ get_or xs i d ∷ []
take_more [] i d l = absurd (omega arith)
take_more (x ∷ xs) zero d l = refl
take_more (x ∷ xs) (suc i) d l =
    ap (λ n. take n (x ∷ xs)) (let e : suc i + 1 ≡ suc (i + 1) = omega arith in e) ∙ ap (λ ys. x ∷ ys) (take_more xs i d (omega arith))

trees_more : (ts : List (Term Op)) (t : Term Op) → trees_of (ts ++ t ∷ []) ≡ trees_of ts ++ tree_of t ∷ []
trees_more [] t = refl
trees_more (x ∷ ts) t = ap (λ ys. tree_of x ∷ ys) (trees_more ts t)

-- as the loop goes on
pub step_writes : (scope : Scope) (op : Op) (text : List ℕ) (rest : List Sexp) (ts us : List (Term Op)) (part : Sexp) (t : Term Op) (sort : Sort) (i : ℕ) → i < length rest → part ≡ get_or rest i part → sort ≡ operand_sort op i → us ≡ ts ++ t ∷ []
    → WritesEach scope op 0 (forms_from (sexp_forms text (take i rest))) (operands_of (trees_of ts)) → WritesTerm scope (Some sort) (sexp_form text part) (tree_of t)
    → WritesEach scope op 0 (forms_from (sexp_forms text (take (i + 1) rest))) (operands_of (trees_of us))
step_writes scope op text rest ts us part t sort i l is s u each one =
    let parts : take (i + 1) rest ≡ take i rest ++ part ∷ [] = take_more rest i part l ∙ ap (λ x. take i rest ++ x ∷ []) (sym is) in
    let trees : trees_of us ≡ trees_of ts ++ tree_of t ∷ [] = ap trees_of u ∙ trees_more ts t in
    let count : i ≡ length (take i rest) = (let e = length-take i rest in omega (arith, e, l)) in
    subst (λ (ps : List Sexp). WritesEach scope op 0 (forms_from (sexp_forms text ps)) (operands_of (trees_of us))) (sym parts)
    (subst (λ (xs : List (Tree Op)). WritesEach scope op 0 (forms_from (sexp_forms text (take i rest ++ part ∷ []))) (operands_of xs)) (sym trees)
    (writes_more scope op text (take i rest) (trees_of ts) part (tree_of t) i count each (subst (λ (x : Sort). WritesTerm scope (Some x) (sexp_form text part) (tree_of t)) s one)))
