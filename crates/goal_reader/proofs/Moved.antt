-- What a form writes turns on what it prints, not on where it stands; and what it prints is told by what it writes.
use Rattle.std.proofs.Common.{◌≡◌, ℕ, suc, ◌++◌, Option, None, Some, List, [], ◌∷◌, length, map, refl, sym, ap, ap₂, ◌∙◌, subst, codes}
use Rattle.std.specs.Prelude.{slice_index_or}
use Rattle.word_ops.specs.declared.sorts.Op.{Op}
use Rattle.word_ops.specs.declared.sorts.Sort.{Sort}
use Rattle.word_ops.specs.declared.sorts.Sort.TheVariants as sorts
use Rattle.word_ops.specs.declared.sorts.Op.TheVariants as ops
use Rattle.word_terms.specs.Tree as tree
use Rattle.word_terms.specs.Tree.{Tree, Trees}
use Rattle.forms.specs.Forms as forms
use Rattle.forms.specs.Forms.{Form, Forms, Atom, name, register, number, parenthesis, forms_list, forms_from}
use Rattle.forms.specs.Printing.{Plain, Plains, atom, list, none, more, plain_of, plains_of, plains_from, keyword_list}
use Rattle.machine_table.specs.Grammar.{Each, more_of, IsListOf, IsNameOf, IsNumberOf}
use Rattle.machine_table.specs.Grammar as grammar
use Rattle.goal_reader.specs.declared.scopes.Named.TheVariants.{Memory, Input, Variable, Let}
use Rattle.goal_reader.specs.declared.scopes.Scope.{Scope}
use Rattle.goal_reader.specs.Grammar.{WritesLet, WritesAssume, WritesGuard, unguarded, guarded}
use Rattle.goal_meaning.specs.InputForms.{Naming, leaf_atom, atom_or, operator_name, input_name, term_plain, terms_plain, let_plain, assume_plain, guard_plains}
use Rattle.goal_reader.specs.Scopes.{leaf_named, operator_named}
use Rattle.goal_reader.specs.Terms.{Writes, WritesEach, memory, input, variable, binding, constant, application, nothing, operand}
use Rattle.goal_meaning.specs.Views.{LetTree, TwoTrees}
use Rattle.goal_reader.proofs.ItemForms.{list_from_list}

-- ---- forms by what they print
pub name_form : (g : Form) (bytes : List ℕ) → plain_of g ≡ atom (name bytes) → (p : ℕ) × (g ≡ forms.atom p (name bytes))
name_form (forms.atom p a) bytes e = let same : a ≡ name bytes = cc in (p, ap (forms.atom p) same)
name_form (forms.list p ps) bytes e = cc

pub number_form : (g : Form) (n : ℕ) → plain_of g ≡ atom (number n) → (p : ℕ) × (g ≡ forms.atom p (number n))
number_form (forms.atom p a) n e = let same : a ≡ number n = cc in (p, ap (forms.atom p) same)
number_form (forms.list p ps) n e = cc

pub list_form : (g : Form) (ps : Plains) → plain_of g ≡ list ps → (p : ℕ) × (parts : Forms) × (g ≡ forms.list p parts) × (plains_of parts ≡ ps)
list_form (forms.atom p a) ps e = cc
list_form (forms.list p parts) ps e = let same : plains_of parts ≡ ps = cc in (p, parts, refl, same)

pub more_form : (fs : Forms) (p : Plain) (ps : Plains) → plains_of fs ≡ more p ps → (f : Form) × (rest : Forms) × (fs ≡ forms.more f rest) × (plain_of f ≡ p) × (plains_of rest ≡ ps)
more_form forms.none p ps e = cc
more_form (forms.more f rest) p ps e =
    let one : plain_of f ≡ p = cc in
    let others : plains_of rest ≡ ps = cc in
    (f, rest, refl, one, others)

pub none_form : (fs : Forms) → plains_of fs ≡ none → fs ≡ forms.none
none_form forms.none e = refl
none_form (forms.more f rest) e = cc

abbrev counted : Plains → ℕ
counted none = 0
counted (more p ps) = suc (counted ps)

count_is : (fs : Forms) → length (forms_list fs) ≡ counted (plains_of fs)
count_is forms.none = refl
count_is (forms.more f fs) = ap suc (count_is fs)

pub plains_map : (fs : Forms) → plains_of fs ≡ plains_from (map plain_of (forms_list fs))
plains_map forms.none = refl
plains_map (forms.more f fs) = ap (more (plain_of f)) (plains_map fs)

pub plains_once : (xs ys : List Plain) → plains_from xs ≡ plains_from ys → xs ≡ ys
plains_once [] [] e = refl
plains_once [] (y ∷ ys) e = cc
plains_once (x ∷ xs) [] e = cc
plains_once (x ∷ xs) (y ∷ ys) e =
    let one : x ≡ y = cc in
    let others : plains_from xs ≡ plains_from ys = cc in
    ap₂ (λ a b. a ∷ b) one (plains_once xs ys others)

-- a form that prints as a list behind a keyword
pub listed_form : (word : List ℕ) (ps : List Plain) (g : Form) → plain_of g ≡ keyword_list word ps → (parts : List Form) × IsListOf word parts g × (map plain_of parts ≡ ps)
listed_form word ps g e =
    let l = list_form g (more (atom (name word)) (plains_from ps)) e in
    let m = more_form l.1 (atom (name word)) (plains_from ps) l.3 in
    let h = name_form m.0 word m.3 in (
      forms_list m.1,
      record {
        place = l.0;
        head_place = h.0;
        is = l.2 ∙ ap (forms.list l.0) (m.2 ∙ ap₂ forms.more h.1 (list_from_list m.1));
      },
      plains_once (map plain_of (forms_list m.1)) ps (sym (plains_map m.1) ∙ m.4),
    )

pub one_more_form : (fs : List Form) (p : Plain) (ps : List Plain) → map plain_of fs ≡ p ∷ ps → (f : Form) × (rest : List Form) × (fs ≡ f ∷ rest) × (plain_of f ≡ p) × (map plain_of rest ≡ ps)
one_more_form [] p ps e = cc
one_more_form (f ∷ rest) p ps e =
    let one : plain_of f ≡ p = cc in
    let others : map plain_of rest ≡ ps = cc in
    (f, rest, refl, one, others)

pub no_more_form : (fs : List Form) → map plain_of fs ≡ [] → fs ≡ []
no_more_form [] e = refl
no_more_form (f ∷ fs) e = cc

pub split_forms : (fs : List Form) (xs ys : List Plain) → map plain_of fs ≡ xs ++ ys → (as_first : List Form) × (behind : List Form) × (fs ≡ as_first ++ behind) × (map plain_of as_first ≡ xs) × (map plain_of behind ≡ ys)
split_forms fs [] ys e = ([], fs, refl, refl, e)
split_forms fs (x ∷ xs) ys e =
    let m = one_more_form fs x (xs ++ ys) e in
    let s = split_forms m.1 xs ys m.4 in
    (m.0 ∷ s.0, s.1, m.2 ∙ ap (λ l. m.0 ∷ l) s.2, ap₂ (λ a b. a ∷ b) m.3 s.3, s.4)

-- other forms that print as the items do write them too
pub each_from : {Y : Type 0} (W : Form → Y → Type 0) (p : Y → Plain) → ((f g : Form) (y : Y) → W f y → plain_of g ≡ p y → W g y) → (fs gs : List Form) (ys : List Y) → Each W fs ys → map plain_of gs ≡ map p ys → Each W gs ys
each_from W p step [] gs [] w e = subst (λ fs. Each W fs []) (sym (no_more_form gs e)) grammar.none
each_from W p step [] gs (y ∷ ys) w e = elim w [ ]
each_from W p step (f ∷ fs) gs [] w e = elim w [ ]
each_from W p step (f ∷ fs) gs (y ∷ ys) (more_of one others) e =
    let m = one_more_form gs (p y) (map p ys) e in
    subst (λ hs. Each W hs (y ∷ ys)) (sym m.2) (more_of (step f m.0 y one m.3) (each_from W p step fs m.1 ys others m.4))

-- ---- terms
module _ (scope : Scope) where
  mutual
    pub writes_moved : {sort : Sort} {f : Form} {t : Tree Op} → Writes scope sort f t → (g : Form) → plain_of g ≡ plain_of f → Writes scope sort g t
    writes_moved (memory {bytes = bytes} l) g e = let n = name_form g bytes e in subst (λ (x : Form). Writes scope sorts.Memory x (tree.application ops.Entry tree.none)) (sym n.1) (memory l)
    writes_moved (input {bytes = bytes} {register = r} l) g e = let n = name_form g bytes e in subst (λ (x : Form). Writes scope sorts.Word x (tree.application (ops.Input r) tree.none)) (sym n.1) (input l)
    writes_moved (variable {bytes = bytes} {n = k} l) g e = let n = name_form g bytes e in subst (λ (x : Form). Writes scope sorts.Word x (tree.variable k)) (sym n.1) (variable l)
    writes_moved (binding {bytes = bytes} {n = k} {sort = s} l) g e = let n = name_form g bytes e in subst (λ (x : Form). Writes scope s x (tree.variable k)) (sym n.1) (binding l)
    writes_moved (constant {n = n}) g e = let m = number_form g n e in subst (λ (x : Form). Writes scope sorts.Word x (tree.application (ops.Constant n) tree.none)) (sym m.1) constant
    writes_moved {sort} (application {bytes = bytes} {op = op} {operands = operands} {trees = trees} k s n each) g e =
        let l = list_form g (more (atom (name bytes)) (plains_of operands)) e in
        let m = more_form l.1 (atom (name bytes)) (plains_of operands) l.3 in
        let h = name_form m.0 bytes m.3 in
        let count : length (forms_list m.1) ≡ length (forms_list operands) = count_is m.1 ∙ ap counted m.4 ∙ sym (count_is operands) in
        subst (λ (x : Form). Writes scope sort x (tree.application op trees)) (sym (l.2 ∙ ap (forms.list l.0) (m.2 ∙ ap (λ (x : Form). forms.more x m.1) h.1))) (application k s (count ∙ n) (each_moved each m.1 m.4))

    pub each_moved : {op : Op} {at : ℕ} {fs : Forms} {ts : Trees Op} → WritesEach scope op at fs ts → (gs : Forms) → plains_of gs ≡ plains_of fs → WritesEach scope op at gs ts
    each_moved {op} {at} nothing gs e = subst (λ (x : Forms). WritesEach scope op at x tree.none) (sym (none_form gs e)) nothing
    each_moved {op} {at} (operand {form = form} {forms = forms} {one = t} {trees = ts} one others) gs e =
        let m = more_form gs (plain_of form) (plains_of forms) e in
        subst (λ (x : Forms). WritesEach scope op at x (tree.more t ts)) (sym m.2) (operand (writes_moved one m.0 m.3) (each_moved others m.1 m.4))

-- the names of a scope are those that its terms are printed with
pub record AreNamed (scope : Scope) (names : Naming) : Type 0 where
  pub memory_is : (bytes : List ℕ) → leaf_named scope.leaves bytes ≡ Some Memory → bytes ≡ codes "M"
  pub input_is : (bytes : List ℕ) (r : ℕ) → leaf_named scope.leaves bytes ≡ Some (Input r) → bytes ≡ input_name names.inputs r
  pub variable_is : (bytes : List ℕ) (n : ℕ) → leaf_named scope.leaves bytes ≡ Some (Variable n) → bytes ≡ slice_index_or names.variables n []
  pub let_is : (bytes : List ℕ) (n : ℕ) (sort : Sort) → leaf_named scope.leaves bytes ≡ Some (Let n sort) → bytes ≡ slice_index_or names.variables n []
  pub operator_is : (bytes : List ℕ) (op : Op) → operator_named scope.declared bytes ≡ Some op → (bytes ≡ operator_name names.declared op) × (leaf_atom names.inputs op ≡ None)

module _ (scope : Scope) (names : Naming) (named : AreNamed scope names) where
  mutual
    pub term_told : {sort : Sort} {f : Form} {t : Tree Op} → Writes scope sort f t → plain_of f ≡ term_plain names t
    term_told (memory {bytes = bytes} l) = ap (λ b. atom (name b)) (named.memory_is bytes l)
    term_told (input {bytes = bytes} {register = r} l) = ap (λ b. atom (name b)) (named.input_is bytes r l)
    term_told (variable {bytes = bytes} {n = n} l) = ap (λ b. atom (name b)) (named.variable_is bytes n l)
    term_told (binding {bytes = bytes} {n = n} {sort = s} l) = ap (λ b. atom (name b)) (named.let_is bytes n s l)
    term_told constant = refl
    term_told (application {bytes = bytes} {op = op} {trees = trees} k s n each) =
        let o = named.operator_is bytes op k in
        ap₂ (λ b ps. list (more (atom (name b)) ps)) o.0 (terms_told each)
        ∙ ap (λ x. atom_or x (list (more (atom (name (operator_name names.declared op))) (terms_plain names trees)))) (sym o.1)

    pub terms_told : {op : Op} {at : ℕ} {fs : Forms} {ts : Trees Op} → WritesEach scope op at fs ts → plains_of fs ≡ terms_plain names ts
    terms_told nothing = refl
    terms_told (operand one others) = ap₂ more (term_told one) (terms_told others)

  -- a form that prints as a term that some form writes, writes it
  pub term_again : {sort : Sort} {f : Form} {t : Tree Op} → Writes scope sort f t → (g : Form) → plain_of g ≡ term_plain names t → Writes scope sort g t
  term_again w g e = writes_moved scope w g (e ∙ sym (term_told w))

  pub let_again : (f g : Form) (l : LetTree) → WritesLet scope f l → plain_of g ≡ let_plain names l → WritesLet scope g l
  let_again f g l w e =
      let k = listed_form (codes "let") (atom (name l.name) ∷ term_plain names l.value ∷ []) g e in
      let m = one_more_form k.0 (atom (name l.name)) (term_plain names l.value ∷ []) k.2 in
      let n = one_more_form m.1 (term_plain names l.value) [] m.4 in
      let parts = m.2 ∙ ap (λ x. m.0 ∷ x) (n.2 ∙ ap (λ x. n.0 ∷ x) (no_more_form n.1 n.4)) in
      let h = name_form m.0 l.name m.3 in
      record {
        first = m.0;
        second = n.0;
        sort = w.sort;
        is = subst (λ ps. IsListOf (codes "let") ps g) parts k.1;
        named = record { place = h.0; is = h.1 };
        value = term_again w.value n.0 n.3;
      }

  pub assume_again : (f g : Form) (a : TwoTrees) → WritesAssume scope f a → plain_of g ≡ assume_plain names a → WritesAssume scope g a
  assume_again f g a w e =
      let l = listed_form (codes "assume") (term_plain names a.left ∷ term_plain names a.right ∷ []) g e in
      let m = one_more_form l.0 (term_plain names a.left) (term_plain names a.right ∷ []) l.2 in
      let n = one_more_form m.1 (term_plain names a.right) [] m.4 in
      let parts = m.2 ∙ ap (λ x. m.0 ∷ x) (n.2 ∙ ap (λ x. n.0 ∷ x) (no_more_form n.1 n.4)) in
      record {
        first = m.0;
        second = n.0;
        sort = w.sort;
        is = subst (λ ps. IsListOf (codes "assume") ps g) parts l.1;
        left = term_again w.left m.0 m.3;
        right = term_again w.right n.0 n.3;
      }

  pub guard_again : (fs gs : List Form) (t : Option (Tree Op)) → WritesGuard scope fs t → map plain_of gs ≡ guard_plains names t → WritesGuard scope gs t
  guard_again _ gs _ unguarded e = subst (λ xs. WritesGuard scope xs None) (sym (no_more_form gs e)) unguarded
  guard_again _ gs _ (guarded {term = t} one is w) e =
      let m = one_more_form gs (keyword_list (codes "when") (term_plain names t ∷ [])) [] e in
      let l = listed_form (codes "when") (term_plain names t ∷ []) m.0 m.3 in
      let n = one_more_form l.0 (term_plain names t) [] l.2 in
      let parts = n.2 ∙ ap (λ x. n.0 ∷ x) (no_more_form n.1 n.4) in
      subst (λ xs. WritesGuard scope xs (Some t)) (sym (m.2 ∙ ap (λ x. m.0 ∷ x) (no_more_form m.1 m.4)))
      (guarded n.0 (subst (λ ps. IsListOf (codes "when") ps m.0) parts l.1) (term_again w n.0 n.3))
