-- What a well-formed graph says of a class.
use Rattle.std.proofs.Common.{◌≡◌, ◌≢◌, ℕ, zero, suc, ◌+◌, ◌<◌, ◌≤◌, List, [], ◌∷◌, length, refl, sym, ◌∙◌, ap, subst, inl, inr, ◌⊎◌, arith, Bool, true, false, get_or, take, cond, Option, Some, None, max}
use Rattle.std.specs.Prelude.{All, Any, Contains, find, slice_get, slice_index, ◌==◌, option_map}
use Rattle.std.specs.Option.{option_map_or, option_or}
use Rattle.std.proofs.lemmas.Bool.{false≢true}
use Rattle.std.proofs.lemmas.List.{take_more}
use Rattle.std.proofs.lemmas.List.Sums.{fold-append}
use Rattle.std.proofs.lemmas.List.Elements.{All-from_get_or, Contains-get_or}
use Rattle.std.proofs.lemmas.Option.{slice_get-get_or, same_Some, none-some}
use Rattle.word_ops.specs.Words.{IsWord}
use Rattle.word_ops.specs.Meanings.{sort_of, operand_sort, constant_in}
use Rattle.word_ops.specs.declared.sorts.Op.{Op}
use Rattle.word_ops.specs.declared.sorts.Op.TheVariants as op
use Rattle.word_ops.specs.declared.sorts.Sort.{Sort}
use Rattle.word_ops.specs.declared.sorts.Sort.TheVariants as sorts
use Rattle.graph_meaning.specs.Graphs.{constant_among, constant_of, input_register, memory_target, is_memory_name}
use Rattle.graph_meaning.specs.WellFormed.{AreInOrder, IsLaunchGraph, ClassHasSort, TakesItsSorts, next_class, set_sort}
use Rattle.graph_meaning.specs.declared.graphs.LaunchRow.{LaunchRow}
use Rattle.graph_meaning.specs.declared.graphs.InputClass.{InputClass}
use Rattle.graph_meaning.specs.declared.graphs.SetClass.{SetClass}
use Rattle.graph_meaning.specs.declared.graphs.LaunchGraph.{LaunchGraph}
use Rattle.graph_meaning.proofs.Lists.{any_here, any_there, any_of, any_with, same_number, number_itself, found, found_none}

-- ---- how many classes there are

pub next_more : (rows : List LaunchRow) (i : ℕ) (d : LaunchRow) → i < length rows
    → next_class (take (i + 1) rows) ≡ max (next_class (take i rows)) ((get_or rows i d).class + 1)
next_more rows i d lt =
    ap next_class (take_more rows i d lt)
    ∙ fold-append (λ n (r : LaunchRow). max n (r.class + 1)) 0 (take i rows) (get_or rows i d ∷ [])

module _ (rows : List LaunchRow) (d : LaunchRow)
    (classes : AreInOrder rows) where
  class_at : (i : ℕ) → i < length rows → (get_or rows i d).class ≤ next_class (take i rows)
  class_at i lt = classes i (get_or rows i d) (slice_get-get_or rows i d lt)

  few_classes_at : (i : ℕ) → i < length rows → next_class (take i rows) ≤ i → next_class (take (i + 1) rows) ≤ i + 1
  few_classes_at i lt h =
      let low : (get_or rows i d).class ≤ next_class (take i rows) = class_at i lt in
      let more = next_more rows i d lt in
      omega arith

  few_classes : (i : ℕ) → i ≤ length rows → next_class (take i rows) ≤ i
  few_classes zero le = omega arith
  few_classes (suc i) le =
      let n : suc i ≡ i + 1 = omega arith in
      subst (λ k. next_class (take k rows) ≤ k) (sym n) (few_classes_at i (omega arith) (few_classes i (omega arith)))

  pub class_low : (i : ℕ) → i < length rows → (get_or rows i d).class < length rows
  class_low i lt =
      let low : (get_or rows i d).class ≤ next_class (take i rows) = class_at i lt in
      let few : next_class (take i rows) ≤ i = few_classes i (omega arith) in
      omega arith

module _ (g : LaunchGraph) (classes : AreInOrder g.rows) where
  rows_below : All (λ r. r.class < length g.rows) g.rows
  rows_below k d lt = class_low g.rows d classes k lt

  sorted_below : (sort : Sort) (class : ℕ) → ClassHasSort g sort class → class < length g.rows
  sorted_below sort class h =
      subst (λ n. n < length g.rows) (ap (λ (r : LaunchRow). r.class) h.3 ∙ h.4.0) (rows_below h.0 h.1 h.2)

  pub all_below : All (TakesItsSorts g) g.rows
      → All (λ r. (r.class < length g.rows) × All (λ c. c < length g.rows) r.operands) g.rows
  all_below operands k d lt =
      let r = get_or g.rows k d in (
        rows_below k d lt,
        All-from_get_or (λ c. c < length g.rows) r.operands 0
            (λ at l. sorted_below (operand_sort r.op at) (slice_index r.operands at) (operands k d lt at l)),
      )

-- ---- the constant of a class

abbrev pub HasConstant : ℕ → ℕ → LaunchRow → Type 0
HasConstant class n r = (r.class ≡ class) × (constant_in r.op ≡ Some n)

constant_row_step : (r : LaunchRow) (rs : List LaunchRow) (class n : ℕ) (b : Bool) → (r.class == class) ≡ b
    → (constant_among rs class ≡ Some n → Any (HasConstant class n) rs)
    → (o : Option ℕ) → constant_in r.op ≡ o
    → cond b (option_or o (constant_among rs class)) (constant_among rs class) ≡ Some n
    → Any (HasConstant class n) (r ∷ rs)
constant_row_step r rs class n true t rest (Some m) is e =
    any_here (HasConstant class n) r rs (same_number r.class class t, is ∙ e)
constant_row_step r rs class n true t rest None is e = any_there (HasConstant class n) r rs (rest e)
constant_row_step r rs class n false t rest o is e = any_there (HasConstant class n) r rs (rest e)

pub constant_row : (rs : List LaunchRow) (class n : ℕ) → constant_among rs class ≡ Some n → Any (HasConstant class n) rs
constant_row [] class n e = absurd (none-some n e)
constant_row (r ∷ rs) class n e =
    constant_row_step r rs class n (r.class == class) refl (constant_row rs class n) (constant_in r.op) refl e

-- a class that has a row with a constant has some constant
constant_some_step : (r : LaunchRow) (rs : List LaunchRow) (class n : ℕ) (b : Bool) → (r.class == class) ≡ b → (o : Option ℕ)
    → constant_in r.op ≡ o → HasConstant class n r ⊎ ((m : ℕ) × (constant_among rs class ≡ Some m))
    → (m : ℕ) × (cond b (option_or o (constant_among rs class)) (constant_among rs class) ≡ Some m)
constant_some_step r rs class n true t (Some k) is h = (k, refl)
constant_some_step r rs class n true t None is (inl h) = absurd (none-some n (sym is ∙ h.1))
constant_some_step r rs class n true t None is (inr h) = h
constant_some_step r rs class n false t o is (inl h) =
    absurd (false≢true (sym t ∙ subst (λ k. (k == class) ≡ true) (sym h.0) (number_itself class)))
constant_some_step r rs class n false t o is (inr h) = h

constant_some : (rs : List LaunchRow) (class n k : ℕ) (r : LaunchRow) → k < length rs → get_or rs k r ≡ r → HasConstant class n r
    → (m : ℕ) × (constant_among rs class ≡ Some m)
constant_some [] class n k r lt e h = absurd (omega arith)
constant_some (x ∷ rs) class n zero r lt e h =
    constant_some_step x rs class n (x.class == class) refl (constant_in x.op) refl (inl (subst (HasConstant class n) (sym e) h))
constant_some (x ∷ rs) class n (suc k) r lt e h =
    constant_some_step x rs class n (x.class == class) refl (constant_in x.op) refl
    (inr (constant_some rs class n k r (omega arith) e h))

constant_is_word : (o : Op) (n : ℕ) → constant_in o ≡ Some n → sort_of o ≡ sorts.Word
constant_is_word (op.Constant m) n e = refl
constant_is_word op.Entry n e = cc
constant_is_word (op.Input r) n e = refl
constant_is_word (op.Word o) n e = refl
constant_is_word (op.Select access) n e = refl
constant_is_word (op.Store access) n e = cc
constant_is_word (op.Load access) n e = refl
constant_is_word (op.Put access) n e = cc
constant_is_word (op.Declared i a) n e = refl

module _ (g : LaunchGraph) (is : IsLaunchGraph g) where
  place_of_row : (k : ℕ) (r : LaunchRow) → k < length g.rows → get_or g.rows k r ≡ r → slice_get g.rows k ≡ Some r
  place_of_row k r lt e = slice_get-get_or g.rows k r lt ∙ ap Some e

  pub rows_low : All (λ r. r.class < length g.rows) g.rows
  rows_low = rows_below g is.classes

  pub class_below : (sort : Sort) (class : ℕ) → ClassHasSort g sort class → class < length g.rows
  class_below = sorted_below g is.classes

  pub all_low : All (λ r. (r.class < length g.rows) × All (λ c. c < length g.rows) r.operands) g.rows
  all_low = all_below g is.classes is.operands

  pub own_sorts : All (λ r. ClassHasSort g (sort_of r.op) r.class) g.rows
  own_sorts k d lt =
      any_of (λ r. (r.class ≡ (get_or g.rows k d).class) × (sort_of r.op ≡ sort_of (get_or g.rows k d).op))
      g.rows (get_or g.rows k d) (Contains-get_or g.rows k d lt) (refl, refl)

  pub one_sort : (sort other : Sort) (class : ℕ) → ClassHasSort g sort class → ClassHasSort g other class → sort ≡ other
  one_sort sort other class h j =
      sym h.4.1
      ∙ is.sorts h.1 j.1 h.0 j.0 (place_of_row h.0 h.1 h.2 h.3, place_of_row j.0 j.1 j.2 j.3) (h.4.0 ∙ sym j.4.0)
      ∙ j.4.1

  pub constant_at : (row : LaunchRow) (n : ℕ) → Contains g.rows row → constant_in row.op ≡ Some n
      → constant_of g row.class ≡ Some n
  constant_at row n h e =
      let some = constant_some g.rows row.class n h.0 row h.1 h.2 (refl, e) in
      let other = constant_row g.rows row.class some.0 some.1 in
      some.1
      ∙ ap Some (is.constants other.1 row other.0 h.0 some.0 n
      (place_of_row other.0 other.1 other.2 other.3, place_of_row h.0 row h.1 h.2) other.4.0 other.4.1 e)

  pub constant_word : (class n : ℕ) → constant_of g class ≡ Some n → IsWord n × ClassHasSort g sorts.Word class
  constant_word class n e =
      let h = constant_row g.rows class n e in
      (is.words h.1 h.0 n (place_of_row h.0 h.1 h.2 h.3) h.4.1, (h.0, h.1, h.2, h.3, (h.4.0, constant_is_word h.1.op n h.4.1)))

-- ---- the first input of a class

abbrev pub HasRegister : ℕ → ℕ → InputClass → Type 0
HasRegister class register i = (i.class ≡ class) × (i.reg ≡ register)

input_case : (inputs : List InputClass) (class register : ℕ) (o : Option InputClass) → find (λ i. i.class == class) inputs ≡ o
    → option_map (λ i. i.reg) o ≡ Some register → Any (HasRegister class register) inputs
input_case inputs class register None e r = absurd (none-some register r)
input_case inputs class register (Some i) e r =
    any_with (λ z. z ≡ z) (λ z. (z ≡ i) × ((z.class == class) ≡ true)) (HasRegister class register) inputs (λ k d lt. refl)
    (λ z u h. (same_number z.class class h.1, ap (λ (w : InputClass). w.reg) h.0 ∙ same_Some i.reg register r))
    (found (λ i. i.class == class) inputs i e)

pub input_is : (g : LaunchGraph) (class register : ℕ) → input_register g class ≡ Some register
    → Any (HasRegister class register) g.inputs
input_is g class register e = input_case g.inputs class register (find (λ i. i.class == class) g.inputs) refl e

no_input_case : (inputs : List InputClass) (class : ℕ) (o : Option InputClass) → find (λ i. i.class == class) inputs ≡ o
    → option_map (λ i. i.reg) o ≡ None → All (λ i. i.class ≢ class) inputs
no_input_case inputs class None e r = λ k d lt same.
    false≢true (sym (found_none (λ i. i.class == class) inputs e k d lt)
    ∙ subst (λ n. (n == class) ≡ true) (sym same) (number_itself class))
no_input_case inputs class (Some i) e r = absurd (none-some i.reg (sym r))

pub no_input : (g : LaunchGraph) (class : ℕ) → input_register g class ≡ None → All (λ i. i.class ≢ class) g.inputs
no_input g class e = no_input_case g.inputs class (find (λ i. i.class == class) g.inputs) refl e

pub input_word : (g : LaunchGraph) → IsLaunchGraph g → (class register : ℕ) → input_register g class ≡ Some register
    → (register < 31) × ClassHasSort g sorts.Word class
input_word g is class register e =
    let h = input_is g class register e in
    let each = is.inputs h.0 h.1 h.2 in (
      subst (λ n. n < 31) (ap (λ (w : InputClass). w.reg) h.3 ∙ h.4.1) each.1,
      subst (ClassHasSort g sorts.Word) (ap (λ (w : InputClass). w.class) h.3 ∙ h.4.0) each.0,
    )

-- ---- the memory target

set_memory : (name : List ℕ) → is_memory_name name ≡ true → set_sort name ≡ sorts.Memory
set_memory name e = ap (λ b. cond b sorts.Memory sorts.Word) e

module _ (g : LaunchGraph) (is : IsLaunchGraph g) where
  target_case : (o : Option SetClass) → find (λ s. is_memory_name s.name) g.sets ≡ o
      → ClassHasSort g sorts.Memory (option_map_or (λ s. s.class) o g.entry)
  target_case None e = is.entry
  target_case (Some s) e =
      let h = found (λ s. is_memory_name s.name) g.sets s e in
      let each = is.sets h.0 h.1 h.2 in
      let same = sym h.3 in
      let named : is_memory_name (get_or g.sets h.0 h.1).name ≡ true =
      ap (λ (w : SetClass). is_memory_name w.name) h.3 ∙ h.4.1 in
      let memory : ClassHasSort g sorts.Memory (get_or g.sets h.0 h.1).class =
      subst (λ sort. ClassHasSort g sort (get_or g.sets h.0 h.1).class) (set_memory (get_or g.sets h.0 h.1).name named) each in
      subst (ClassHasSort g sorts.Memory) (ap (λ (w : SetClass). w.class) (h.3 ∙ h.4.0)) memory

  pub target_memory : ClassHasSort g sorts.Memory (memory_target g)
  target_memory = target_case (find (λ s. is_memory_name s.name) g.sets) refl
