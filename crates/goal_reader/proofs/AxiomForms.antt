-- The two sides of an axiom, and what an axiom without a fault writes.
use Rattle.std.proofs.Common.{◌≡◌, ◌≢◌, ℕ, ◌+◌, ◌<◌, ◌≤◌, ◌||◌, if◌then◌else◌, Bool, true, false, Option, None, Some, inl, inr, ◌⊎◌, List, [], ◌∷◌, option_map, length, refl, sym, ap, ◌∙◌, subst, arith, slice_get, bytes_eq, codes}
use Rattle.std.specs.Prelude.{All, AllPairs}
use Rattle.std.specs.List.{cons_option}
use Rattle.std.specs.Option.{option_map_or}
use Rattle.std.proofs.lemmas.Slice.Eq.{bytes_eq-Decides}
use Rattle.text_core.specs.declared.faults.Kind.{Kind}
use Rattle.word_ops.specs.declared.sorts.Op.{Op}
use Rattle.word_ops.specs.declared.sorts.Sort.{Sort}
use Rattle.word_ops.specs.declared.sorts.Sort.TheVariants as sorts
use Rattle.word_terms.specs.Sorting.{Occurs, OccursInOne}
use Rattle.word_terms.specs.Tree.{Tree, Trees}
use Rattle.word_terms.specs.View.{tree_of}
use Rattle.text_core.specs.Names.{is_among}
use Rattle.forms.specs.Forms.{Form, Forms, atom, list, none, more, name, place_of, part, parts_of, name_in, forms_from, is_list, names_in}
use Rattle.machine_table.specs.Grammar.{Each, IsNameOf}
use Rattle.goal_meaning.specs.declared.goals.DeclaredOp.{DeclaredOp}
use Rattle.goal_reader.specs.declared.scopes.Scope.{Scope}
use Rattle.goal_reader.specs.declared.scopes.Leaf.{Leaf}
use Rattle.goal_reader.specs.declared.scopes.Named.{Named}
use Rattle.goal_reader.specs.declared.scopes.Named.TheVariants.{Memory, Input, Variable, Lacking, Let}
use Rattle.goal_meaning.specs.declared.goals.Axiom.{Axiom}
use Rattle.goal_reader.specs.Grammar.{WritesAxiom, axiom_scope}
use Rattle.goal_reader.specs.Reading.{IsClear, meaning_right, mentioned_scope}
use Rattle.goal_reader.specs.Roles as roles
use Rattle.goal_meaning.specs.Names as goal_names
use Rattle.goal_reader.specs.Roles.{a_list, too_few, IsOwn, rank, rank_from, text_keywords, numbered_leaves, mentions, mentions_any, variables_in, left_scope, right_scope, WritesTerm, Role, Shape, wrong, wrong_part}
use Rattle.goal_reader.specs.Scopes.{leaf_named}
use Rattle.goal_reader.specs.Terms.{Writes, WritesEach, memory, input, variable, binding, constant, application, nothing, operand}
use Rattle.goal_meaning.specs.Views.{axiom_view}
use Rattle.goal_reader.proofs.ItemForms.{keyworded_by, list_from_list}
use Rattle.goal_reader.proofs.VariableSteps.{is_seen, some_seen, all_free, none_free, each_named}

pub equation_only : (declared : List DeclaredOp) (form : Form) (k : Kind) → IsOwn (a_list (roles.equation declared)) form k → length (parts_of form) < 4
equation_only declared form k (too_few l) = l

-- ---- what a name means
numbered_by : (k : ℕ) (meaning : List ℕ → ℕ → Named) (n : List ℕ) (names : List (List ℕ)) (bytes : List ℕ) (b : Bool) → bytes_eq n bytes ≡ b → leaf_named (numbered_leaves (k + 1) meaning names) bytes ≡ option_map (meaning bytes) (rank_from (k + 1) names bytes)
    → (if b then Some (meaning n k) else leaf_named (numbered_leaves (k + 1) meaning names) bytes) ≡ option_map (meaning bytes) (if b then Some k else rank_from (k + 1) names bytes)
numbered_by k meaning n names bytes true e later = ap (λ m. Some (meaning m k)) ((bytes_eq-Decides n bytes).0 e)
numbered_by k meaning n names bytes false e later = later

pub numbered : (k : ℕ) (meaning : List ℕ → ℕ → Named) (names : List (List ℕ)) (bytes : List ℕ) → leaf_named (numbered_leaves k meaning names) bytes ≡ option_map (meaning bytes) (rank_from k names bytes)
numbered k meaning [] bytes = refl
numbered k meaning (n ∷ names) bytes = numbered_by k meaning n names bytes (bytes_eq n bytes) refl (numbered (k + 1) meaning names bytes)

left_number : (o : Option ℕ) (x : Named) → option_map (λ n. Variable n) o ≡ Some x → (n : ℕ) × (o ≡ Some n) × (x ≡ Variable n)
left_number None x e = cc
left_number (Some n) x e = let same : x ≡ Variable n = cc in (n, refl, same)

right_number : (left : Form) (bytes : List ℕ) (o : Option ℕ) (x : Named) → option_map (meaning_right left bytes) o ≡ Some x → (n : ℕ) × (o ≡ Some n) × (x ≡ meaning_right left bytes n)
right_number left bytes None x e = cc
right_number left bytes (Some n) x e = let same : x ≡ meaning_right left bytes n = cc in (n, refl, same)

has_it : (b : Bool) (n m : ℕ) → Variable m ≡ (if b then Variable n else Lacking) → (b ≡ true) × (m ≡ n)
has_it true n m e = let same : m ≡ n = cc in (refl, same)
has_it false n m e = cc

no_memory : (b : Bool) (n : ℕ) → Memory ≡ (if b then Variable n else Lacking) → ⊥
no_memory true n e = cc
no_memory false n e = cc

no_input : (b : Bool) (n r : ℕ) → Input r ≡ (if b then Variable n else Lacking) → ⊥
no_input true n r e = cc
no_input false n r e = cc

no_let : (b : Bool) (n k : ℕ) (s : Sort) → Let k s ≡ (if b then Variable n else Lacking) → ⊥
no_let true n k s e = cc
no_let false n k s e = cc

pub same_number : (m n : ℕ) → Variable m ≡ Variable n → m ≡ n
same_number m n e = cc

module _ (declared : List DeclaredOp) (names : List (List ℕ)) (left : Form) where
  abbrev on_left : Scope
  on_left = axiom_scope declared names

  abbrev on_right : Scope
  on_right = mentioned_scope declared names left

  pub left_told : (bytes : List ℕ) (x : Named) → leaf_named on_left.leaves bytes ≡ Some x → (n : ℕ) × (rank_from 0 names bytes ≡ Some n) × (x ≡ Variable n)
  left_told bytes x e = left_number (rank_from 0 names bytes) x (sym (numbered 0 (λ name n. Variable n) names bytes) ∙ e)

  right_told : (bytes : List ℕ) (x : Named) → leaf_named on_right.leaves bytes ≡ Some x → (n : ℕ) × (rank_from 0 names bytes ≡ Some n) × (x ≡ meaning_right left bytes n)
  right_told bytes x e = right_number left bytes (rank_from 0 names bytes) x (sym (numbered 0 (meaning_right left) names bytes) ∙ e)

  pub left_known : (bytes : List ℕ) (n : ℕ) → rank_from 0 names bytes ≡ Some n → leaf_named on_left.leaves bytes ≡ Some (Variable n)
  left_known bytes n e = numbered 0 (λ name m. Variable m) names bytes ∙ ap (option_map (λ m. Variable m)) e

  mutual
    -- a term of the right side is one over all variables
    pub on_left_too : {sort : Sort} {form : Form} {t : Tree Op} → Writes on_right sort form t → Writes on_left sort form t
    on_left_too (memory {bytes = bytes} h) = let told = right_told bytes Memory h in absurd (no_memory (mentions bytes left) told.0 told.2)
    on_left_too (input {bytes = bytes} {register = r} h) = let told = right_told bytes (Input r) h in absurd (no_input (mentions bytes left) told.0 r told.2)
    on_left_too (variable {bytes = bytes} {n = n} h) =
        let told = right_told bytes (Variable n) h in
        let is = has_it (mentions bytes left) told.0 n told.2 in
        variable (left_known bytes n (told.1 ∙ ap Some (sym is.1)))
    on_left_too (binding {bytes = bytes} {n = n} {sort = s} h) = let told = right_told bytes (Let n s) h in absurd (no_let (mentions bytes left) told.0 n s told.2)
    on_left_too constant = constant
    on_left_too (application h s l each) = application h s l (each_on_left each)

    each_on_left : {op : Op} {at : ℕ} {forms : Forms} {ts : Trees Op} → WritesEach on_right op at forms ts → WritesEach on_left op at forms ts
    each_on_left nothing = nothing
    each_on_left (operand one others) = operand (on_left_too one) (each_on_left others)

  abbrev IsMentioned : ℕ → Type 0
  IsMentioned n = (bytes : List ℕ) × (rank_from 0 names bytes ≡ Some n) × (mentions bytes left ≡ true)

  mutual
    mentioned : {sort : Sort} {form : Form} {t : Tree Op} → Writes on_right sort form t → (n : ℕ) → Occurs n t → IsMentioned n
    mentioned (memory h) n o = absurd o
    mentioned (input h) n o = absurd o
    mentioned (variable {bytes = bytes} {n = m} h) n o =
        let told = right_told bytes (Variable m) h in
        let is = has_it (mentions bytes left) told.0 m told.2 in
        (bytes, told.1 ∙ ap Some (sym is.1 ∙ sym o), is.0)
    mentioned (binding {bytes = bytes} {n = m} {sort = s} h) n o = let told = right_told bytes (Let m s) h in absurd (no_let (mentions bytes left) told.0 m s told.2)
    mentioned constant n o = absurd o
    mentioned (application h s l each) n o = mentioned_in each n o

    mentioned_in : {op : Op} {at : ℕ} {forms : Forms} {ts : Trees Op} → WritesEach on_right op at forms ts → (n : ℕ) → OccursInOne n ts → IsMentioned n
    mentioned_in nothing n o = absurd o
    mentioned_in (operand one others) n (inl o) = mentioned one n o
    mentioned_in (operand one others) n (inr o) = mentioned_in others n o

  pub either : (a b : Bool) → a || b ≡ true → (a ≡ true) ⊎ (b ≡ true)
  either true b e = inl refl
  either false b e = inr e

  mutual
    occurs : {sort : Sort} {form : Form} {t : Tree Op} → Writes on_left sort form t → (bytes : List ℕ) (n : ℕ) → rank_from 0 names bytes ≡ Some n → mentions bytes form ≡ true → Occurs n t
    occurs (memory {bytes = other} h) bytes n e m = let told = left_told other Memory h in absurd (let f : Memory ≡ Variable told.0 = told.2 in cc)
    occurs (input {bytes = other} {register = r} h) bytes n e m = let told = left_told other (Input r) h in absurd (let f : Input r ≡ Variable told.0 = told.2 in cc)
    occurs (variable {bytes = other} {n = k} h) bytes n e m =
        let told = left_told other (Variable k) h in
        let same : other ≡ bytes = (bytes_eq-Decides other bytes).0 m in
        let both : Some told.0 ≡ Some n = sym told.1 ∙ ap (rank_from 0 names) same ∙ e in
        let number : told.0 ≡ n = cc in
        sym (same_number k told.0 told.2 ∙ number)
    occurs (binding {bytes = other} {n = k} {sort = s} h) bytes n e m = let told = left_told other (Let k s) h in absurd (let f : Let k s ≡ Variable told.0 = told.2 in cc)
    occurs constant bytes n e m = cc
    occurs (application h s l each) bytes n e m = occurs_in each bytes n e m

    occurs_in : {op : Op} {at : ℕ} {forms : Forms} {ts : Trees Op} → WritesEach on_left op at forms ts → (bytes : List ℕ) (n : ℕ) → rank_from 0 names bytes ≡ Some n → mentions_any bytes forms ≡ true → OccursInOne n ts
    occurs_in nothing bytes n e m = cc
    occurs_in (operand {form = form} {forms = forms} one others) bytes n e m = elim (either (mentions bytes form) (mentions_any bytes forms) m) [
      | inl here ↦ inl (occurs one bytes n e here)
      | inr later ↦ inr (occurs_in others bytes n e later)
    ]

  pub bound_in : {sort : Sort} {right : Form} {t s : Tree Op} → Writes on_right sort right t → Writes on_left sorts.Word left s → (n : ℕ) → Occurs n t → Occurs n s
  bound_in on is n o = let m = mentioned on n o in occurs is m.0 n m.1 m.2

-- ---- four parts
-- the forms behind the keyword, where there are just three
four_parts : (declared : List DeclaredOp) (p : ℕ) (h : Form) (rest : Forms) → length (parts_of (list p (more h rest))) ≤ 4 → (a b c : Form) → slice_get (parts_of (list p (more h rest))) 1 ≡ Some a → slice_get (parts_of (list p (more h rest))) 2 ≡ Some b → slice_get (parts_of (list p (more h rest))) 3 ≡ Some c
    → rest ≡ forms_from (a ∷ b ∷ c ∷ [])
four_parts declared p h none l a b c g1 g2 g3 = cc
four_parts declared p h (more x none) l a b c g1 g2 g3 = cc
four_parts declared p h (more x (more y none)) l a b c g1 g2 g3 = cc
four_parts declared p h (more x (more y (more z none))) l a b c g1 g2 g3 =
    let e1 : x ≡ a = cc in
    let e2 : y ≡ b = cc in
    let e3 : z ≡ c = cc in
    ap (λ (f : Form). more f (more y (more z none))) e1 ∙ ap (λ (f : Form). more a (more f (more z none))) e2 ∙ ap (λ (f : Form). more a (more b (more f none))) e3
four_parts declared p h (more x (more y (more z (more w ws)))) l a b c g1 g2 g3 = absurd (omega (arith, l))

named_some : (fs : List Form) → 0 < length fs → ((j : ℕ) (part : Form) → slice_get fs j ≡ Some part → (bytes : List ℕ) × (name_in part ≡ Some bytes)) → 0 < length (names_in fs)
named_some [] l h = absurd (omega (arith, l))
named_some (f ∷ fs) l h = let one = h 0 f refl in subst (λ o. 0 < length (cons_option o (names_in fs))) (sym one.1) (omega arith)

list_is : (form : Form) → is_list form ≡ true → form ≡ list (place_of form) (forms_from (parts_of form))
list_is (atom p a) e = cc
list_is (list p parts) e = ap (list p) (list_from_list parts)

abbrev leaf_as : List ℕ → Named → Leaf
leaf_as n x = record { name = n; named = x }

abbrev scope_as : List DeclaredOp → List Leaf → Scope
scope_as ds ls = record { declared = ds; leaves = ls }

leaves_same : (m o : List ℕ → ℕ → Named) → ((n : List ℕ) (k : ℕ) → m n k ≡ o n k) → (k : ℕ) (names : List (List ℕ)) → numbered_leaves k m names ≡ numbered_leaves k o names
leaves_same m o h k [] = refl
leaves_same m o h k (n ∷ names) = ap (λ (x : Named). leaf_as n x ∷ numbered_leaves (k + 1) m names) (h n k) ∙ ap (λ ls. leaf_as n (o n k) ∷ ls) (leaves_same m o h (k + 1) names)

module _ (declared : List DeclaredOp) (form a b : Form) (names : List (List ℕ)) (g1 : slice_get (parts_of form) 1 ≡ Some a) (g2 : slice_get (parts_of form) 2 ≡ Some b) (names_are : names ≡ names_in (parts_of a)) where
  variables_are : variables_in form ≡ names
  variables_are = ap (λ o. option_map_or (λ (f : Form). names_in (parts_of f)) o []) g1 ∙ sym names_are

  pub left_same : axiom_scope declared names ≡ left_scope declared form
  left_same = ap (axiom_scope declared) (sym variables_are)

  pub right_same : mentioned_scope declared names b ≡ right_scope declared form
  right_same =
      ap (λ ns. mentioned_scope declared ns b) (sym variables_are)
      ∙ ap (λ ls. scope_as declared ls)
      (leaves_same (meaning_right b) (λ n k. if option_map_or (mentions n) (part 2 form) false then Variable k else Lacking)
      (λ n k. ap (λ o. if option_map_or (mentions n) o false then Variable k else Lacking) (sym g2)) 0 (variables_in form))

  pub axiom_written : (c : Form) (axiom_is : Axiom) → slice_get (parts_of form) 3 ≡ Some c → rank text_keywords form ≡ Some 2 → length (parts_of form) ≤ 4 → axiom_is.variables ≡ names → length names ≤ 8 → is_list a ≡ true → IsClear (a_list (roles.variables declared)) a → is_list b ≡ true
      → WritesTerm (axiom_scope declared names) (Some sorts.Word) b (tree_of axiom_is.left) → WritesTerm (mentioned_scope declared names b) (Some sorts.Word) c (tree_of axiom_is.right) → WritesAxiom declared form (axiom_view axiom_is)
  axiom_written c axiom_is g3 e most same few list_a clear list_b left right =
      let q = keyworded_by text_keywords 2 form e in
      let h : Form = atom q.head (name (codes "axiom")) in
      let at : (n : ℕ) (x : Form) → slice_get (parts_of form) n ≡ Some x → slice_get (parts_of (list q.place (more h q.rest))) n ≡ Some x =
      λ n x g. ap (λ (f : Form). slice_get (parts_of f) n) (sym q.is) ∙ g in
      let rest = four_parts declared q.place h q.rest (subst (λ (f : Form). length (parts_of f) ≤ 4) q.is most) a b c (at 1 a g1) (at 2 b g2) (at 3 c g3) in
      let free = all_free declared [] (parts_of a) (is_seen declared a clear) (none_free declared) in
      let all : names_in (parts_of a) ≡ axiom_is.variables = sym names_are ∙ sym same in
      let some = some_seen declared a clear in
      let l : Writes (axiom_scope declared names) sorts.Word b (tree_of axiom_is.left) = subst (λ s. Writes (axiom_scope declared names) s b (tree_of axiom_is.left)) left.wanted_one left.writes in
      let r : Writes (mentioned_scope declared names b) sorts.Word c (tree_of axiom_is.right) = subst (λ s. Writes (mentioned_scope declared names b) s c (tree_of axiom_is.right)) right.wanted_one right.writes in
      record {
        place = place_of a;
        names = parts_of a;
        left_form = b;
        right_form = c;
        is = record { place = q.place; head_place = q.head; is = q.is ∙ ap (λ fs. list q.place (more h fs)) rest ∙ ap (λ (f : Form). list q.place (more h (forms_from (f ∷ b ∷ c ∷ [])))) (list_is a list_a) };
        variables = subst (λ ns. Each (λ f n. IsNameOf n f) (parts_of a) ns) all (each_named (parts_of a) (λ j part g. let s = is_seen declared a clear j part g in (s.0, s.1)));
        some = subst (λ ns. (0 < length ns) × (length ns ≤ 8)) (sym same) (subst (λ ns. 0 < length ns) (sym names_are) (named_some (parts_of a) some (λ j part g. let s = is_seen declared a clear j part g in (s.0, s.1))), few);
        differ = subst (λ ns. AllPairs (λ m n. m ≢ n) ns) all free.pairs;
        own = subst (λ ns. All (λ n. (goal_names.is_reserved n ≡ false) × (is_among (goal_names.names_of_declared declared) n ≡ false)) ns) all free.own;
        application = list_b;
        left = subst (λ ns. Writes (axiom_scope declared ns) sorts.Word b (tree_of axiom_is.left)) (sym same) l;
        right = subst (λ ns. Writes (axiom_scope declared ns) sorts.Word c (tree_of axiom_is.right)) (sym same) (on_left_too declared names b r);
        bound = bound_in declared names b r l;
      }
