-- An item without a fault is written as the grammar has it.
use Rattle.std.proofs.Common.{◌≡◌, ℕ, suc, ◌+◌, ◌-◌, ◌≤◌, if◌then◌else◌, Bool, true, false, Option, None, Some, List, [], ◌∷◌, get_or, refl, sym, ap, ◌∙◌, subst, arith, slice_get, bytes_eq, codes}
use Rattle.std.specs.List.{cons_option}
use Rattle.std.proofs.lemmas.Slice.Eq.{bytes_eq-Decides}
use Rattle.word_ops.specs.declared.sorts.Sort.{Sort}
use Rattle.word_ops.specs.declared.sorts.Op.{Op}
use Rattle.word_terms.specs.Tree.{Tree}
use Rattle.word_terms.specs.View.{tree_of}
use Rattle.text_core.specs.declared.faults.Kind.TheVariants.{BadForm, LimitPassed, BadRegister}
use Rattle.word_ops.specs.declared.sorts.Sort.TheVariants as sorts
use Rattle.forms.specs.Forms.{Form, Forms, atom, list, none, more, name, part, parts_of, forms_list, forms_from, name_in, register_in, head_in}
use Rattle.forms.specs.Forms as forms
use Rattle.forms.specs.Faults.{own, inside}
use Rattle.goal_reader.specs.declared.scopes.Scope.{Scope}
use Rattle.goal_meaning.specs.declared.goals.DeclaredOp.{DeclaredOp}
use Rattle.goal_meaning.specs.declared.goals.InputReg.{InputReg}
use Rattle.goal_meaning.specs.declared.goals.Assume.{Assume}
use Rattle.goal_reader.specs.Roles as roles
use Rattle.goal_reader.specs.Roles.{Role, Shape, a_list, wrong, wrong_part, IsOwn, too_few, no_register, bad_register, part_role, shape_part, least_parts, IsFaultAs, fresh_register, rank, rank_from, goal_keywords, register_of, register_number, registers_in, input_in, second_name, sort_in, WritesTerm, ◌>>=◌}
use Rattle.goal_reader.specs.Reading.{IsClear, WritesPart}
use Rattle.goal_reader.specs.Terms.{Writes}
use Rattle.goal_reader.specs.Grammar.{IsRegister, WritesInput, WritesLet}
use Rattle.goal_reader.specs.Drafts.{IsAssumed}
use Rattle.machine_table.specs.Grammar.{Each, more_of, IsListOf, IsNameOf}
use Rattle.machine_table.specs.Grammar as grammar
use Rattle.goal_reader.proofs.Sorts.{sort_of_part}
use Rattle.goal_meaning.specs.Views.{LetTree}

pub bind_some : {A B : Type 0} (o : Option A) (f : A → Option B) (y : B) → (o >>= f) ≡ Some y → (x : A) × (o ≡ Some x) × (f x ≡ Some y)
bind_some None f y e = cc
bind_some (Some x) f y e = (x, refl, e)

-- ---- keywords
rank_step : (n at : ℕ) (k : List ℕ) (ks : List (List ℕ)) (w : List ℕ) (b : Bool) → bytes_eq k w ≡ b → (rank_from (n + 1) ks w ≡ Some at → (n + 1 ≤ at) × (get_or ks (at - (n + 1)) [] ≡ w))
    → (if b then Some n else rank_from (n + 1) ks w) ≡ Some at → (n ≤ at) × (get_or (k ∷ ks) (at - n) [] ≡ w)
rank_step n at k ks w true e later h =
    let same : n ≡ at = cc in
    (omega (arith, same), ap (λ m. get_or (k ∷ ks) m []) (let f : at - n ≡ 0 = omega (arith, same) in f) ∙ (bytes_eq-Decides k w).0 e)
rank_step n at k ks w false e later h =
    let rest = later h in
    let low = rest.0 in
    (omega (arith, low), ap (λ m. get_or (k ∷ ks) m []) (let f : at - n ≡ suc (at - (n + 1)) = omega (arith, low) in f) ∙ rest.1)

pub rank_from_is : (n at : ℕ) (ks : List (List ℕ)) (w : List ℕ) → rank_from n ks w ≡ Some at → (n ≤ at) × (get_or ks (at - n) [] ≡ w)
rank_from_is n at [] w h = cc
rank_from_is n at (k ∷ ks) w h = rank_step n at k ks w (bytes_eq k w) refl (rank_from_is (n + 1) at ks w) h

pub record Keyworded (word : List ℕ) (form : Form) : Type 0 where
  pub place : ℕ
  pub head : ℕ
  pub rest : Forms
  pub is : form ≡ list place (more (atom head (name word)) rest)

head_is : (form : Form) (w : List ℕ) → head_in form ≡ Some w → Keyworded w form
head_is (atom p a) w e = cc
head_is (list p none) w e = cc
head_is (list p (more (atom q (name v)) rest)) w e = let same : v ≡ w = cc in record { place = p; head = q; rest = rest; is = ap (λ x. list p (more (atom q (name x)) rest)) same }
head_is (list p (more (atom q (forms.register v)) rest)) w e = cc
head_is (list p (more (atom q (forms.number v)) rest)) w e = cc
head_is (list p (more (atom q forms.parenthesis) rest)) w e = cc
head_is (list p (more (list q ps) rest)) w e = cc

pub keyworded_by : (keywords : List (List ℕ)) (at : ℕ) (form : Form) → rank keywords form ≡ Some at → Keyworded (get_or keywords at []) form
keyworded_by keywords at form e =
    let b = bind_some (head_in form) (rank_from 0 keywords) at e in
    let word = (rank_from_is 0 at keywords b.0 b.2).1 in
    head_is form (get_or keywords at []) (b.1 ∙ ap Some (sym word ∙ ap (λ m. get_or keywords m []) (let f : at - 0 ≡ at = omega arith in f)))

pub keyworded : (at : ℕ) (form : Form) → rank goal_keywords form ≡ Some at → Keyworded (get_or goal_keywords at []) form
keyworded at form e = keyworded_by goal_keywords at form e

-- ---- how many parts
module _ (shape : Shape) (p : ℕ) (h : Form) where
  -- a part that the grammar doesn't have there is a fault
  pub no_part : (at : ℕ) (rest : Forms) (part : Form) → IsClear (a_list shape) (list p (more h rest)) → slice_get (h ∷ forms_list rest) at ≡ Some part → shape_part shape (list p (more h rest)) at ≡ Some wrong → ⊥
  no_part at rest part clear g e =
      clear (forms.place_of part) BadForm (inside at part wrong (λ o. clear p BadForm (own o refl)) (λ o. clear p LimitPassed (own o refl)) g e (own wrong_part refl))

  pub three : (rest : Forms) → ((rest : Forms) → least_parts shape (list p (more h rest)) ≡ 3) → ((rest : Forms) → shape_part shape (list p (more h rest)) 3 ≡ Some wrong) → IsClear (a_list shape) (list p (more h rest)) → (a : Form) × (b : Form) × (rest ≡ more a (more b none))
  three none least at clear = absurd (clear p BadForm (own (too_few (let e = least none in omega (arith, e))) refl))
  three (more a none) least at clear = absurd (clear p BadForm (own (too_few (let e = least (more a none) in omega (arith, e))) refl))
  three (more a (more b none)) least at clear = (a, b, refl)
  three (more a (more b (more c rest))) least at clear = absurd (no_part 3 (more a (more b (more c rest))) c clear refl (at _))

  pub two : (rest : Forms) → ((rest : Forms) → least_parts shape (list p (more h rest)) ≡ 2) → ((rest : Forms) → shape_part shape (list p (more h rest)) 2 ≡ Some wrong) → IsClear (a_list shape) (list p (more h rest)) → (a : Form) × (rest ≡ more a none)
  two none least at clear = absurd (clear p BadForm (own (too_few (let e = least none in omega (arith, e))) refl))
  two (more a none) least at clear = (a, refl)
  two (more a (more b rest)) least at clear = absurd (no_part 2 (more a (more b rest)) b clear refl (at _))

-- ---- names and registers
pub is_name : (form : Form) (bytes : List ℕ) → name_in form ≡ Some bytes → IsNameOf bytes form
is_name (atom p (name v)) bytes e = let same : v ≡ bytes = cc in record { place = p; is = ap (λ x. atom p (name x)) same }
is_name (atom p (forms.register v)) bytes e = cc
is_name (atom p (forms.number v)) bytes e = cc
is_name (atom p forms.parenthesis) bytes e = cc
is_name (list p ps) bytes e = cc

register_is : (form : Form) (bytes : List ℕ) (r : ℕ) → register_in form ≡ Some bytes → register_number bytes ≡ Some r → IsRegister r form
register_is (atom p (forms.register v)) bytes r e n = let same : v ≡ bytes = cc in record { place = p; bytes = bytes; is = ap (λ x. atom p (forms.register x)) same; number = n }
register_is (atom p (name v)) bytes r e n = cc
register_is (atom p (forms.number v)) bytes r e n = cc
register_is (atom p forms.parenthesis) bytes r e n = cc
register_is (list p ps) bytes r e n = cc

pub is_register : (form : Form) (r : ℕ) → register_of form ≡ Some r → IsRegister r form
is_register form r e = let b = bind_some (register_in form) register_number r e in register_is form b.0 r b.1 b.2

number_known : (given : List ℕ) (form : Form) (bytes : List ℕ) (o : Option ℕ) → register_in form ≡ Some bytes → register_number bytes ≡ o → IsClear (fresh_register given) form → (r : ℕ) × (register_of form ≡ Some r)
number_known given form bytes None e n clear = absurd (clear (forms.place_of form) BadRegister (own (bad_register e n) refl))
number_known given form bytes (Some r) e n clear = (r, ap (λ b. b >>= register_number) e ∙ n)

pub register_known_by : (given : List ℕ) (form : Form) (o : Option (List ℕ)) → register_in form ≡ o → IsClear (fresh_register given) form → (r : ℕ) × (register_of form ≡ Some r)
register_known_by given form None e clear = absurd (clear (forms.place_of form) BadForm (own (no_register e) refl))
register_known_by given form (Some bytes) e clear = number_known given form bytes (register_number bytes) e refl clear

-- ---- the items
pub list_from_list : (fs : Forms) → fs ≡ forms_from (forms_list fs)
list_from_list none = refl
list_from_list (more f fs) = ap (more f) (list_from_list fs)

pub input_writes : (declared : List DeclaredOp) (inputs : List InputReg) (form : Form) (i : InputReg) → rank goal_keywords form ≡ Some 0 → input_in form ≡ Some i → IsClear (a_list (roles.input declared inputs)) form → WritesInput form i
input_writes declared inputs form i e is clear =
    let k = keyworded 0 form e in
    let shape : Shape = roles.input declared inputs in
    let all = three shape k.place (atom k.head (name (codes "in"))) k.rest (λ rest. refl) (λ rest. refl) (subst (λ (f : Form). IsClear (a_list shape) f) k.is clear) in
    let whole : form ≡ list k.place (more (atom k.head (name (codes "in"))) (more all.0 (more all.1 none))) = k.is ∙ ap (λ r. list k.place (more (atom k.head (name (codes "in"))) r)) all.2 in
    let read : input_in (list k.place (more (atom k.head (name (codes "in"))) (more all.0 (more all.1 none)))) ≡ Some i = sym (ap input_in whole) ∙ is in
    let b = bind_some (name_in all.0) (λ nm. register_of all.1 >>= (λ reg. Some (record { name = nm; reg = reg }))) i read in
    let b2 = bind_some (register_of all.1) (λ reg. Some (record { name = b.0; reg = reg })) i b.2 in
    let one : record { name = b.0; reg = b2.0 } ≡ i = cc in
    record {
      first = all.0;
      second = all.1;
      is = record { place = k.place; head_place = k.head; is = whole };
      named = subst (λ n. IsNameOf n all.0) (ap (λ (x : InputReg). x.name) one) (is_name all.0 b.0 b.1);
      placed = subst (λ r. IsRegister r all.1) (ap (λ (x : InputReg). x.reg) one) (is_register all.1 b2.0 b2.1);
    }

pool_each : (fs : List Form) → ((j : ℕ) (part : Form) → slice_get fs j ≡ Some part → (r : ℕ) × (register_of part ≡ Some r)) → Each (λ f r. IsRegister r f) fs (registers_in fs)
pool_each [] h = grammar.none
pool_each (f ∷ fs) h =
    let one = h 0 f refl in
    subst (λ rs. Each (λ x r. IsRegister r x) (f ∷ fs) rs) (sym (ap (λ o. cons_option o (registers_in fs)) one.1)) (more_of (is_register f one.0 one.1) (pool_each fs (λ j part g. h (suc j) part g)))

pub pool_writes : (given : List ℕ) (form : Form) (registers : List ℕ) → rank goal_keywords form ≡ Some 1 → registers ≡ registers_in (parts_of form) → IsClear (a_list (roles.pool given)) form
    → (fs : List Form) × IsListOf (codes "pool") fs form × Each (λ f r. IsRegister r f) fs registers
pool_writes given form registers e is clear =
    let k = keyworded 1 form e in
    let whole = list k.place (more (atom k.head (name (codes "pool"))) k.rest) in
    let clear_whole = subst (λ (f : Form). IsClear (a_list (roles.pool given)) f) k.is clear in
    let same : registers ≡ registers_in (forms_list k.rest) = is ∙ ap (λ (f : Form). registers_in (parts_of f)) k.is in (
      forms_list k.rest,
      record { place = k.place; head_place = k.head; is = k.is ∙ ap (λ r. list k.place (more (atom k.head (name (codes "pool"))) r)) (list_from_list k.rest) },
      subst (λ rs. Each (λ f r. IsRegister r f) (forms_list k.rest) rs) (sym same)
          (pool_each (forms_list k.rest) (λ j part g. register_known_by _ part (register_in part) refl
          (λ place kind fault. clear_whole place kind (inside (suc j) part (fresh_register _) (λ o. clear_whole k.place BadForm (own o refl)) (λ o. clear_whole k.place LimitPassed (own o refl)) g refl fault)))),
    )

-- a term where a part is that part's
pub term_at : (scope : Scope) (wanted : Option Sort) (form a : Form) (at : ℕ) (t : Tree Op) → slice_get (parts_of form) at ≡ Some a → WritesPart scope wanted form at t → WritesTerm scope wanted a t
term_at scope wanted form a at t g w =
    let both : Some a ≡ Some w.part = sym g ∙ w.found in
    let same : w.part ≡ a = cc in
    subst (λ (f : Form). WritesTerm scope wanted f t) same w.writes

pub writes_as : (scope : Scope) (s r : Sort) (form : Form) (t : Tree Op) → s ≡ r → Writes scope s form t → Writes scope r form t
writes_as scope s r form t e w = subst (λ (x : Sort). Writes scope x form t) e w

pub binding_writes : (scope : Scope) (names : List (List ℕ)) (form : Form) (one : LetTree) → rank goal_keywords form ≡ Some 2 → second_name form ≡ Some one.name → WritesPart scope None form 2 one.value
    → IsClear (a_list (roles.binding scope names)) form → WritesLet scope form one
binding_writes scope names form one e named value clear =
    let k = keyworded 2 form e in
    let shape : Shape = roles.binding scope names in
    let all = three shape k.place (atom k.head (name (codes "let"))) k.rest (λ rest. refl) (λ rest. refl) (subst (λ (f : Form). IsClear (a_list shape) f) k.is clear) in
    let whole : form ≡ list k.place (more (atom k.head (name (codes "let"))) (more all.0 (more all.1 none))) = k.is ∙ ap (λ r. list k.place (more (atom k.head (name (codes "let"))) r)) all.2 in
    let v = term_at scope None form all.1 2 one.value (ap (λ (f : Form). slice_get (parts_of f) 2) whole) value in
    record {
      first = all.0;
      second = all.1;
      sort = v.sort;
      is = record { place = k.place; head_place = k.head; is = whole };
      named = is_name all.0 one.name (sym (ap second_name whole) ∙ named);
      value = v.writes;
    }

pub assume_writes : (scope : Scope) (form : Form) (one : Assume) → rank goal_keywords form ≡ Some 3 → WritesPart scope None form 1 (tree_of one.left) → WritesPart scope (part 1 form >>= sort_in scope) form 2 (tree_of one.right)
    → IsClear (a_list (roles.assume scope)) form → IsAssumed scope form one
assume_writes scope form one e left right clear =
    let k = keyworded 3 form e in
    let shape : Shape = roles.assume scope in
    let all = three shape k.place (atom k.head (name (codes "assume"))) k.rest (λ rest. refl) (λ rest. refl) (subst (λ (f : Form). IsClear (a_list shape) f) k.is clear) in
    let whole : form ≡ list k.place (more (atom k.head (name (codes "assume"))) (more all.0 (more all.1 none))) = k.is ∙ ap (λ r. list k.place (more (atom k.head (name (codes "assume"))) r)) all.2 in
    let g1 : slice_get (parts_of form) 1 ≡ Some all.0 = ap (λ (f : Form). slice_get (parts_of f) 1) whole in
    let l = term_at scope None form all.0 1 (tree_of one.left) g1 left in
    let second = subst (λ wanted. WritesPart scope wanted form 2 (tree_of one.right)) (sort_of_part scope form all.0 1 g1 l.writes) right in
    let r = term_at scope (Some l.sort) form all.1 2 (tree_of one.right) (ap (λ (f : Form). slice_get (parts_of f) 2) whole) second in
    record {
      first = all.0;
      second = all.1;
      sort = l.sort;
      is = record { place = k.place; head_place = k.head; is = whole };
      left = l.writes;
      right = writes_as scope r.sort l.sort all.1 (tree_of one.right) r.wanted_one r.writes;
    }

pub guard_writes : (scope : Scope) (form : Form) (t : Tree Op) → rank goal_keywords form ≡ Some 4 → WritesPart scope (Some sorts.Word) form 1 t → IsClear (a_list (roles.guard scope)) form
    → (one : Form) × IsListOf (codes "when") (one ∷ []) form × Writes scope sorts.Word one t
guard_writes scope form t e term clear =
    let k = keyworded 4 form e in
    let shape : Shape = roles.guard scope in
    let all = two shape k.place (atom k.head (name (codes "when"))) k.rest (λ rest. refl) (λ rest. refl) (subst (λ (f : Form). IsClear (a_list shape) f) k.is clear) in
    let whole : form ≡ list k.place (more (atom k.head (name (codes "when"))) (more all.0 none)) = k.is ∙ ap (λ r. list k.place (more (atom k.head (name (codes "when"))) r)) all.1 in
    let l = term_at scope (Some sorts.Word) form all.0 1 t (ap (λ (f : Form). slice_get (parts_of f) 1) whole) term in
    (all.0, record { place = k.place; head_place = k.head; is = whole }, writes_as scope l.sort sorts.Word all.0 t l.wanted_one l.writes)
