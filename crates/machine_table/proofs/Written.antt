-- A form writes one table at most.
use Rattle.std.proofs.Common.{◌≡◌, ◌≢◌, ℕ, zero, suc, ◌<◌, List, [], ◌∷◌, drop, refl, sym, ap, ap₂, ◌∙◌, subst, arith, codes, Result, Ok, Err, IfOk, IfErr}
use Rattle.std.specs.Prelude.{AllPairs, Contains, IsPermutation}
use Rattle.std.proofs.lemmas.List.Sorted.{Contains-permutation, IsPermutation-sym, IsPermutation-trans}
use Rattle.forms.specs.Forms.{Form, atom, list, name, parts_of, forms_from, name_in, number_in}
use Rattle.forms.specs.Printing as plain
use Rattle.machine_table.proofs.Clear.{whole_parts, written_clear}
use Rattle.machine_table.proofs.Leaves.{same_some}
use Rattle.machine_table.proofs.Once.{instr_same, number_once, slot_of_parts, slot_back, use_of_parts, use_back, table_of_parts, table_back}
use Rattle.machine_table.proofs.Parts.{got_within, list_from, name_of}
use Rattle.machine_table.proofs.SlotLists.{first_named}
use Rattle.machine_table.proofs.SlotNumbers.{name_at_is}
use Rattle.machine_table.proofs.TableForms.{joined}
use Rattle.machine_table.specs.Grammar.{Each, none, more_of, IsListOf, IsSlotNamed, WritesSlot, WritesUse, WritesOps, WritesTable}
use Rattle.machine_table.specs.InstrOrder.{instr_name, kind_number}
use Rattle.machine_table.specs.Roles.{IsMachineFault, first_name}
use Rattle.machine_table.specs.declared.tables.Slot.{Slot}
use Rattle.machine_table.specs.declared.tables.Table.{Table}
use Rattle.machine_table.specs.declared.tables.Use.{Use}
use Rattle.text_core.specs.Faults.{GivesUnlessMemory, IsFaultBy, IsFirst}
use Rattle.text_core.specs.declared.faults.TextFault.{TextFault}
use Rattle.text_core.specs.declared.faults.TextFault.TheVariants as answers

first_is : {X : Type 0} (x y : X) (xs ys : List X) → x ∷ xs ≡ y ∷ ys → x ≡ y
first_is x y xs ys e = cc

rest_is : {X : Type 0} (x y : X) (xs ys : List X) → x ∷ xs ≡ y ∷ ys → xs ≡ ys
rest_is x y xs ys e = cc

-- what several forms write, the first of them and the others
record More {Y : Type 0} (P : Form → Y → Type 0) (form : Form) (forms : List Form) (all : List Y) : Type 0 where
  pub one : Y
  pub rest : List Y
  pub is : all ≡ one ∷ rest
  pub writes : P form one
  pub others : Each P forms rest

module _ {Y : Type 0} (P : Form → Y → Type 0) where
  each_nil : (ys : List Y) → Each P [] ys → ys ≡ []
  each_nil _ none = refl

  each_more : (form : Form) (forms : List Form) (ys : List Y) → Each P (form ∷ forms) ys → More P form forms ys
  each_more form forms _ (more_of {y = y} {ys = ys} w ws) = record { one = y; rest = ys; is = refl; writes = w; others = ws }

  each_once : ((form : Form) (x y : Y) → P form x → P form y → x ≡ y) → (forms : List Form) (xs ys : List Y) → Each P forms xs → Each P forms ys → xs ≡ ys
  each_once once _ _ ys none h = sym (each_nil ys h)
  each_once once _ _ ys (more_of {form = form} {forms = forms} {y = x} {ys = xs} w ws) h =
      let m = each_more form forms ys h in
      ap₂ (λ a b. a ∷ b) (once form x m.one w m.writes) (each_once once forms xs m.rest ws m.others) ∙ sym m.is

slot_once : (form : Form) (s r : Slot) → WritesSlot form s → WritesSlot form r → s ≡ r
slot_once form s r w v =
    let names = same_some (first_name form) s.name r.name (first_named form s w) (first_named form r v) in
    let parts : w.first ∷ w.second ∷ [] ≡ v.first ∷ v.second ∷ [] = sym (ap parts_of w.is) ∙ ap parts_of v.is in
    let seconds = first_is w.second v.second [] [] (rest_is w.first v.first (w.second ∷ []) (v.second ∷ []) parts) in
    let clusters = same_some (number_in w.second) s.cluster r.cluster (ap number_in w.placed.is) (ap number_in seconds ∙ ap number_in v.placed.is) in
    sym (slot_back s) ∙ ap₂ slot_of_parts names clusters ∙ slot_back r

module _ (slots : List Slot) (differ : AllPairs (λ s r. s.name ≢ r.name) slots) where
  named_once : (form : Form) (i j : ℕ) → IsSlotNamed slots form i → IsSlotNamed slots form j → i ≡ j
  named_once form i j w v =
      let names = same_some (name_in form) w.slot.name v.slot.name (name_of form w.slot.name w.named) (name_of form v.slot.name v.named) in
      number_once slots differ i j (got_within slots i w.slot w.found) (got_within slots j v.slot v.found)
      (ap (λ n. plain.atom (name n)) (name_at_is slots i w.slot w.found ∙ names ∙ sym (name_at_is slots j v.slot v.found)))

  use_once : (latency : ℕ) (used : List ℕ) (form : Form) (u v : Use) → WritesUse latency used form u → WritesUse latency used form v → u ≡ v
  use_once latency used form u v w x =
      let instrs = instr_same u.instr v.instr (same_some (name_in form) (instr_name u.instr) (instr_name v.instr) (name_of form (instr_name u.instr) w.instr) (name_of form (instr_name v.instr) x.instr)) in
      sym (use_back u) ∙ ap₂ (λ i n. use_of_parts i n u.slots) instrs (w.takes ∙ sym x.takes) ∙ ap (use_of_parts v.instr v.latency) (w.may_use ∙ sym x.may_use) ∙ use_back v

  ops_once : (form : Form) (us vs : List Use) → WritesOps slots form us → WritesOps slots form vs → us ≡ vs
  ops_once form us vs w v =
      let wl = list w.slots_place (forms_from w.slot_forms) in
      let vl = list v.slots_place (forms_from v.slot_forms) in
      let wh : Form = atom w.is.head_place (name (codes "ops")) in
      let vh : Form = atom v.is.head_place (name (codes "ops")) in
      let wn = w.first ∷ w.others in
      let vn = v.first ∷ v.others in
      let parts : wh ∷ w.latency_form ∷ wl ∷ wn ≡ vh ∷ v.latency_form ∷ vl ∷ vn =
      sym (ap (λ fs. wh ∷ w.latency_form ∷ wl ∷ w.first ∷ fs) (list_from w.others)) ∙ sym (ap parts_of w.is.is) ∙ ap parts_of v.is.is
      ∙ ap (λ fs. vh ∷ v.latency_form ∷ vl ∷ v.first ∷ fs) (list_from v.others) in
      let behind = rest_is wh vh (w.latency_form ∷ wl ∷ wn) (v.latency_form ∷ vl ∷ vn) parts in
      let latency_forms = first_is w.latency_form v.latency_form (wl ∷ wn) (vl ∷ vn) behind in
      let latencies = same_some (number_in w.latency_form) w.latency v.latency (ap number_in w.latency_is.is) (ap number_in latency_forms ∙ ap number_in v.latency_is.is) in
      let lists = rest_is w.latency_form v.latency_form (wl ∷ wn) (vl ∷ vn) behind in
      let slot_forms : w.slot_forms ≡ v.slot_forms = sym (list_from w.slot_forms) ∙ ap parts_of (first_is wl vl wn vn lists) ∙ list_from v.slot_forms in
      let used = each_once (IsSlotNamed slots) named_once v.slot_forms w.slots v.slots (subst (λ fs. Each (IsSlotNamed slots) fs w.slots) slot_forms w.slots_are) v.slots_are in
      let named : wn ≡ vn = rest_is wl vl wn vn lists in
      let moved = subst (λ fs. Each (WritesUse v.latency v.slots) fs us) named (subst (λ n. Each (WritesUse n v.slots) wn us) latencies (subst (λ s. Each (WritesUse w.latency s) wn us) used w.written)) in
      each_once (WritesUse v.latency v.slots) (use_once v.latency v.slots) vn us vs moved v.written

-- ---- lists that rise and have the same elements
module _ {X : Type 0} (n : X → ℕ) where
  below : (x : X) (xs : List X) → AllPairs (λ x y. n x < n y) (x ∷ xs) → (z : X) → Contains xs z → n x < n z
  below x xs up z h = subst (λ y. n x < n y) h.2 (up 0 (suc h.0) z (omega arith) (omega (arith, h.1)))

  in_rest : (y z : X) (ys : List X) → Contains (y ∷ ys) z → (y ≡ z → ⊥) → Contains ys z
  in_rest y z ys (zero, l, e) not = absurd (not e)
  in_rest y z ys (suc k, l, e) not = (k, omega (arith, l), e)

  heads : (x y : X) (xs ys : List X) → AllPairs (λ x y. n x < n y) (x ∷ xs) → AllPairs (λ x y. n x < n y) (y ∷ ys) → Contains (y ∷ ys) x → Contains (x ∷ xs) y → y ≡ x
  heads x y xs ys up vp (zero, l, e) h = e
  heads x y xs ys up vp (suc k, l, e) (zero, m, f) = sym f
  heads x y xs ys up vp (suc k, l, e) (suc j, m, f) =
      let a = below y ys vp x (k, omega (arith, l), e) in
      let b = below x xs up y (j, omega (arith, m), f) in
      absurd (omega (arith, a, b))

  tail_up : (x : X) (xs : List X) → AllPairs (λ x y. n x < n y) (x ∷ xs) → AllPairs (λ x y. n x < n y) xs
  tail_up x xs up i j d l m = up (suc i) (suc j) d (omega (arith, l)) (omega (arith, m))

  apart_from : (x : X) (xs : List X) → AllPairs (λ x y. n x < n y) (x ∷ xs) → (z : X) → Contains xs z → x ≡ z → ⊥
  apart_from x xs up z h e = let a = below x xs up z h in let b = ap n e in omega (arith, a, b)

  pub same_elements : (xs ys : List X) → AllPairs (λ x y. n x < n y) xs → AllPairs (λ x y. n x < n y) ys → ((z : X) → Contains xs z → Contains ys z) → ((z : X) → Contains ys z → Contains xs z) → xs ≡ ys
  same_elements [] [] up vp f g = refl
  same_elements [] (y ∷ ys) up vp f g = let h = g y (0, omega arith, refl) in absurd (omega (arith, h.1))
  same_elements (x ∷ xs) [] up vp f g = let h = f x (0, omega arith, refl) in absurd (omega (arith, h.1))
  same_elements (x ∷ xs) (y ∷ ys) up vp f g =
      let head = heads x y xs ys up vp (f x (0, omega arith, refl)) (g y (0, omega arith, refl)) in
      ap₂ (λ a b. a ∷ b) (sym head)
      (same_elements xs ys (tail_up x xs up) (tail_up y ys vp)
      (λ z h. in_rest y z ys (f z (suc h.0, omega (arith, h.1), h.2)) (λ e. apart_from x xs up z h (sym head ∙ e)))
      (λ z h. in_rest x z xs (g z (suc h.0, omega (arith, h.1), h.2)) (λ e. apart_from y ys vp z h (head ∙ e))))

-- ---- the whole form
module _ (form : Form) (t u : Table) (w : WritesTable form t) (v : WritesTable form u) where
  behind : w.slots_form ∷ w.cross_form ∷ w.ops_forms ≡ v.slots_form ∷ v.cross_form ∷ v.ops_forms
  behind =
      rest_is (atom w.is.head_place (name (codes "machine"))) (atom v.is.head_place (name (codes "machine"))) (w.slots_form ∷ w.cross_form ∷ w.ops_forms) (v.slots_form ∷ v.cross_form ∷ v.ops_forms)
      (sym (whole_parts form t w) ∙ whole_parts form u v)

  slots_forms : w.slots_form ≡ v.slots_form
  slots_forms = first_is w.slots_form v.slots_form (w.cross_form ∷ w.ops_forms) (v.cross_form ∷ v.ops_forms) behind

  others : w.cross_form ∷ w.ops_forms ≡ v.cross_form ∷ v.ops_forms
  others = rest_is w.slots_form v.slots_form (w.cross_form ∷ w.ops_forms) (v.cross_form ∷ v.ops_forms) behind

  listed : (keyword : List ℕ) (parts : List Form) (f : Form) → IsListOf keyword parts f → drop 1 (parts_of f) ≡ parts
  listed keyword parts f is = ap (λ g. drop 1 (parts_of g)) is.is ∙ list_from parts

  slots_same : t.slots ≡ u.slots
  slots_same =
      let forms : w.slot_forms ≡ v.slot_forms =
      sym (listed (codes "slots") w.slot_forms w.slots_form w.slots_is) ∙ ap (λ f. drop 1 (parts_of f)) slots_forms ∙ listed (codes "slots") v.slot_forms v.slots_form v.slots_is in
      each_once WritesSlot slot_once v.slot_forms t.slots u.slots (subst (λ fs. Each WritesSlot fs t.slots) forms w.slots) v.slots

  cross_same : t.cross ≡ u.cross
  cross_same =
      let forms = sym (listed (codes "cross") (w.delay_form ∷ []) w.cross_form w.cross_is) ∙ ap (λ f. drop 1 (parts_of f)) (first_is w.cross_form v.cross_form w.ops_forms v.ops_forms others)
      ∙ listed (codes "cross") (v.delay_form ∷ []) v.cross_form v.cross_is in
      let delays = first_is w.delay_form v.delay_form [] [] forms in
      same_some (number_in w.delay_form) t.cross u.cross (ap number_in w.cross.is) (ap number_in delays ∙ ap number_in v.cross.is)

  written_same : w.written ≡ v.written
  written_same =
      let forms = rest_is w.cross_form v.cross_form w.ops_forms v.ops_forms others in
      each_once (WritesOps u.slots) (ops_once u.slots v.well_formed.names) v.ops_forms w.written v.written
      (subst (λ fs. Each (WritesOps u.slots) fs w.written) forms (subst (λ s. Each (WritesOps s) w.ops_forms w.written) slots_same w.ops)) v.ops

  moved : IsPermutation t.uses u.uses
  moved =
      IsPermutation-trans t.uses (joined v.written) u.uses
      (IsPermutation-sym (joined v.written) t.uses (subst (λ us. IsPermutation (joined us) t.uses) written_same w.uses)) v.uses

  uses_same : t.uses ≡ u.uses
  uses_same =
      same_elements (λ (x : Use). kind_number x.instr) t.uses u.uses w.well_formed.order v.well_formed.order
      (λ z h. Contains-permutation t.uses u.uses z moved h) (λ z h. Contains-permutation u.uses t.uses z (IsPermutation-sym t.uses u.uses moved) h)

  pub table_once : t ≡ u
  table_once = sym (table_back t) ∙ ap₂ (λ s c. table_of_parts s c t.uses) slots_same cross_same ∙ ap (table_of_parts u.slots u.cross) uses_same ∙ table_back u

-- what a form writes is given, where the answer is a table that it writes, or its first fault, or out of memory
pub given : (form : Form) (answer : Result Table TextFault) → IfOk answer (WritesTable form) → IfErr answer (IsFaultBy (IsFirst (IsMachineFault form)))
    → (table : Table) → WritesTable form table → GivesUnlessMemory (λ read. read ≡ table) answer
given form (Ok one) ok err table w = table_once form one table ok w
given form (Err (answers.Fault fault)) ok err table w = absurd (written_clear form table w fault.place fault.kind err.found)
given form (Err answers.Memory) ok err table w = refl
