-- A form that writes a table has no fault.
use Rattle.std.proofs.Common.{◌≡◌, ◌≢◌, ℕ, zero, suc, ◌<◌, ◌≤◌, ◌||◌, ◌++◌, true, false, None, Some, List, [], ◌∷◌, All, length, map, take, drop, get_or, refl, sym, ap, ap₂, ◌∙◌, subst, arith, slice_get, bytes_eq, codes, if◌then◌else◌}
use Rattle.std.specs.Prelude.{⊤, AllPairs, IsPermutation, nat_lt}
use Rattle.std.specs.List.{cons_option}
use Rattle.std.specs.Option.{option_map_or}
use Rattle.std.proofs.lemmas.Bool.Decides.{Decides-ltb}
use Rattle.std.proofs.lemmas.List.{append-nil}
use Rattle.std.proofs.lemmas.List.Elements.{All-nil, All-cons, All-head, All-tail}
use Rattle.std.proofs.lemmas.List.Sorted.{All-permutation, IsPermutation-sym}
use Rattle.std.proofs.lemmas.List.Folds.{list_any-append}
use Rattle.std.proofs.lemmas.Slice.Eq.{bytes_eq-Decides}
use Rattle.forms.proofs.First.{no_fault}
use Rattle.forms.specs.Forms.{Form, list, atom, name, parts_of, forms_from, number_in, is_list, names_in}
use Rattle.forms.specs.Printing as plain
use Rattle.machine_table.proofs.Leaves.{same_some, no_both, slot_name_clear, cluster_clear, delay_clear, latency_clear, used_clear, instr_clear}
use Rattle.machine_table.proofs.Named.{found}
use Rattle.machine_table.proofs.Once.{instr_same, number_once}
use Rattle.machine_table.proofs.Parts.{got_within, list_from, name_of}
use Rattle.machine_table.proofs.SlotLists.{each_count, first_named, slots_written, not_true}
use Rattle.machine_table.proofs.SlotNumbers.{at_among, name_at_is}
use Rattle.machine_table.proofs.TableForms.{append_both, joined, numbers_apart, ops_named}
use Rattle.machine_table.proofs.UseLists.{names_both}
use Rattle.machine_table.specs.Grammar.{WritesTable, Each, none, more_of, IsListOf, IsNumberOf, WritesSlot, IsSlotNamed, WritesUse, WritesOps}
use Rattle.machine_table.specs.InstrOrder.{instr_name, kind_number}
use Rattle.machine_table.specs.Reading.{AreSlotNumbers, IsUseOf, IsClearTableForm, slot_names, name_at, slot_names_used, names_of_uses}
use Rattle.machine_table.specs.Roles as roles
use Rattle.text_core.specs.Names.{is_among}
use Rattle.machine_table.specs.Roles.{TableRole, IsOwnTableFault, table_part_role, named_in_all, slots_in, slots_in_form, first_name, has_head, other_keyword, too_few, no_list, none_used, no_slot, slot_again}
use Rattle.machine_table.specs.Tables.{IsUse}
use Rattle.machine_table.specs.declared.tables.Slot.{Slot}
use Rattle.machine_table.specs.declared.tables.Table.{Table}
use Rattle.machine_table.specs.declared.tables.Use.{Use}
use Rattle.text_core.specs.declared.faults.Kind.{Kind}

all_parts : (role : TableRole) (form : Form) → ((k : Kind) → IsOwnTableFault role form k → ⊥)
    → ((j : ℕ) (part : Form) (other : TableRole) → slice_get (parts_of form) j ≡ Some part → table_part_role role form j ≡ Some other → IsClearTableForm other part) → IsClearTableForm role form
all_parts role form own each = no_fault IsOwnTableFault table_part_role role form own (λ j part other place kind g r fault. each j part other g r place kind fault)

as_is : (one role other : TableRole) (form part : Form) → Some one ≡ Some role → Some form ≡ Some part → one ≡ other → IsClearTableForm other form → IsClearTableForm role part
as_is one role other form part r f same clear =
    let roles : other ≡ role = cc in
    let forms : form ≡ part = cc in
    subst (λ (x : TableRole). IsClearTableForm x part) roles (subst (λ (x : Form). IsClearTableForm other x) forms clear)

no_role : (role : TableRole) (part : Form) → None ≡ Some role → IsClearTableForm role part
no_role role part e = cc

module _ {X : Type 0} (P : X → Type 0) where
  all_left : (xs ys : List X) → All P (xs ++ ys) → All P xs
  all_left [] ys h = All-nil P
  all_left (x ∷ xs) ys h = All-cons P x xs (All-head P x (xs ++ ys) h) (all_left xs ys (All-tail P x (xs ++ ys) h))

  all_right : (xs ys : List X) → All P (xs ++ ys) → All P ys
  all_right [] ys h = h
  all_right (x ∷ xs) ys h = all_right xs ys (All-tail P x (xs ++ ys) h)

-- each name differs from those before it
abbrev FreshAll : List (List ℕ) → List (List ℕ) → Type 0
FreshAll before [] = ⊤
FreshAll before (n ∷ ns) = (is_among before n ≡ false) × FreshAll (before ++ n ∷ []) ns

among_push : (before : List (List ℕ)) (n m : List ℕ) → is_among before m ≡ false → n ≢ m → is_among (before ++ n ∷ []) m ≡ false
among_push before n m e d =
    let other : bytes_eq n m ≡ false = not_true (bytes_eq n m) (λ t. d ((bytes_eq-Decides n m).0 t)) in
    list_any-append (λ x. bytes_eq x m) before (n ∷ []) ∙ ap₂ (λ a b. a || (b || false)) e other

module _ {X : Type 0} (f : X → List ℕ) where
  pub fresh_all : (before : List (List ℕ)) (xs : List X) → ((k : ℕ) (d : X) → k < length xs → is_among before (f (get_or xs k d)) ≡ false) → AllPairs (λ x y. f x ≢ f y) xs → FreshAll before (map f xs)
  fresh_all before [] each pairs = tt
  fresh_all before (x ∷ xs) each pairs = (
    each 0 x (omega arith),
    fresh_all (before ++ f x ∷ []) xs
        (λ k d l. among_push before (f x) (f (get_or xs k d)) (each (suc k) d (omega (arith, l))) (pairs 0 (suc k) d (omega arith) (omega (arith, l))))
        (λ i j d l m. pairs (suc i) (suc j) d (omega (arith, l)) (omega (arith, m))),
  )

pub fresh_split : (before xs ys : List (List ℕ)) → FreshAll before (xs ++ ys) → FreshAll before xs × FreshAll (before ++ xs) ys
fresh_split before [] ys h = (tt, subst (λ b. FreshAll b ys) (sym (append-nil before)) h)
fresh_split before (x ∷ xs) ys h =
    let rest = fresh_split (before ++ x ∷ []) xs ys h.1 in
    ((h.0, rest.0), subst (λ b. FreshAll b ys) (append_both before (x ∷ []) xs) rest.1)

-- ---- a slot
module _ (before : List (List ℕ)) (form : Form) (slot : Slot) (w : WritesSlot form slot) (low : slot.cluster ≤ 3) (fresh : is_among before slot.name ≡ false) where
  slot_parts : parts_of form ≡ w.first ∷ w.second ∷ []
  slot_parts = ap parts_of w.is

  slot_own : (k : Kind) → IsOwnTableFault (roles.slot before) form k → ⊥
  slot_own k (other_keyword i j) = cc
  slot_own k (too_few l) = let n = ap length slot_parts in omega (arith, n, l)
  slot_own k (slot_again {name = other} i j) =
      no_both (is_among before slot.name) (ap (is_among before) (same_some (first_name form) slot.name other (first_named form slot w) i) ∙ j) fresh

  slot_each : (j : ℕ) (part : Form) (other : TableRole) → slice_get (w.first ∷ w.second ∷ []) j ≡ Some part → table_part_role (roles.slot before) form j ≡ Some other → IsClearTableForm other part
  slot_each zero part other g r = as_is roles.slot_name other roles.slot_name w.first part r g refl (slot_name_clear w.first slot.name (name_of w.first slot.name w.named))
  slot_each (suc zero) part other g r = as_is roles.cluster other roles.cluster w.second part r g refl (cluster_clear w.second slot.cluster (ap number_in w.placed.is) low)
  slot_each (suc (suc j)) part other g r = cc

  pub slot_clear : IsClearTableForm (roles.slot before) form
  slot_clear = all_parts (roles.slot before) form slot_own (λ j part other g r. slot_each j part other (ap (λ ps. slice_get ps j) (sym slot_parts) ∙ g) r)

pub slot_at : (before : List (List ℕ)) (forms : List Form) (slots : List Slot) → Each WritesSlot forms slots → All (λ s. s.cluster ≤ 3) slots → FreshAll before (slot_names slots)
    → (i : ℕ) (part : Form) → slice_get forms i ≡ Some part → IsClearTableForm (roles.slot (before ++ slots_in (take i forms))) part
slot_at before _ _ none low fresh i part g = cc
slot_at before _ _ (more_of {form = form} {forms = forms} {y = slot} {ys = slots} w ws) low fresh zero part g =
    as_is (roles.slot before) (roles.slot (before ++ [])) (roles.slot before) form part (ap (λ b. Some (roles.slot b)) (sym (append-nil before))) g refl
    (slot_clear before form slot w (low 0 slot (omega arith)) fresh.0)
slot_at before _ _ (more_of {form = form} {forms = forms} {y = slot} {ys = slots} w ws) low fresh (suc i) part g =
    let rest = slot_at (before ++ slot.name ∷ []) forms slots ws (λ k d l. low (suc k) d (omega (arith, l))) fresh.1 i part g in
    subst (λ b. IsClearTableForm (roles.slot b) part) (append_both before (slot.name ∷ []) (slots_in (take i forms)) ∙ ap (λ ns. before ++ ns) (sym (slots_first form slot w (take i forms)))) rest
  where
    slots_first : (form : Form) (slot : Slot) → WritesSlot form slot → (forms : List Form) → slots_in (form ∷ forms) ≡ slot.name ∷ slots_in forms
    slots_first form slot w forms = ap (λ o. cons_option o (slots_in forms)) (first_named form slot w)

-- ---- the slots that instructions may be launched in
pub used_at : (slots : List Slot) (before : List (List ℕ)) (forms : List Form) (used : List ℕ) → Each (IsSlotNamed slots) forms used → FreshAll before (slot_names_used slots used)
    → (i : ℕ) (part : Form) → slice_get forms i ≡ Some part → IsClearTableForm (roles.used_slot (slot_names slots) (before ++ names_in (take i forms))) part
used_at slots before _ _ none fresh i part g = cc
used_at slots before _ _ (more_of {form = form} {forms = forms} {y = at} {ys = used} w ws) fresh zero part g =
    as_is (roles.used_slot (slot_names slots) before) (roles.used_slot (slot_names slots) (before ++ [])) (roles.used_slot (slot_names slots) before) form part
    (ap (λ b. Some (roles.used_slot (slot_names slots) b)) (sym (append-nil before))) g refl
    (used_clear form w.slot.name (name_of form w.slot.name w.named) (slot_names slots) before (at_among slots at w.slot w.found)
    (ap (is_among before) (sym (name_at_is slots at w.slot w.found)) ∙ fresh.0))
used_at slots before _ _ (more_of {form = form} {forms = forms} {y = at} {ys = used} w ws) fresh (suc i) part g =
    let n = name_at slots at in
    let rest = used_at slots (before ++ n ∷ []) forms used ws fresh.1 i part g in
    let first : names_in (form ∷ take i forms) ≡ n ∷ names_in (take i forms) =
    ap (λ o. cons_option o (names_in (take i forms))) (name_of form w.slot.name w.named)
    ∙ ap (λ (m : List ℕ). m ∷ names_in (take i forms)) (sym (name_at_is slots at w.slot w.found)) in
    subst (λ b. IsClearTableForm (roles.used_slot (slot_names slots) b) part) (append_both before (n ∷ []) (names_in (take i forms)) ∙ ap (λ ns. before ++ ns) (sym first)) rest

module _ (slots : List Slot) (form : Form) (p : ℕ) (forms : List Form) (used : List ℕ) (is : form ≡ list p (forms_from forms)) (some : 0 < length forms)
    (named : Each (IsSlotNamed slots) forms used) (fresh : FreshAll [] (slot_names_used slots used)) where
  used_parts : parts_of form ≡ forms
  used_parts = ap parts_of is ∙ list_from forms

  used_own : (k : Kind) → IsOwnTableFault (roles.used_slots (slot_names slots)) form k → ⊥
  used_own k (other_keyword i j) = cc
  used_own k (too_few l) = omega (arith, l)
  used_own k (no_list i) = no_both (is_list form) (ap is_list is) i
  used_own k (none_used i j) = let n = ap length used_parts in omega (arith, n, j, some)

  used_each : (j : ℕ) (part : Form) (other : TableRole) → slice_get (parts_of form) j ≡ Some part → table_part_role (roles.used_slots (slot_names slots)) form j ≡ Some other → IsClearTableForm other part
  used_each j part other g r =
      as_is (roles.used_slot (slot_names slots) (names_in (take j (parts_of form)))) other (roles.used_slot (slot_names slots) (names_in (take j (parts_of form)))) part part r refl refl
      (subst (λ fs. IsClearTableForm (roles.used_slot (slot_names slots) (names_in (take j fs))) part) (sym used_parts)
      (used_at slots [] forms used named fresh j part (ap (λ ps. slice_get ps j) (sym used_parts) ∙ g)))

  pub used_slots_clear : IsClearTableForm (roles.used_slots (slot_names slots)) form
  used_slots_clear = all_parts (roles.used_slots (slot_names slots)) form used_own used_each

-- ---- the instructions
pub instr_at : (latency : ℕ) (slots : List ℕ) (before : List (List ℕ)) (forms : List Form) (uses : List Use) → Each (WritesUse latency slots) forms uses → FreshAll before (names_of_uses uses)
    → (i : ℕ) (part : Form) → slice_get forms i ≡ Some part → IsClearTableForm (roles.instr (before ++ names_in (take i forms))) part
instr_at latency slots before _ _ none fresh i part g = cc
instr_at latency slots before _ _ (more_of {form = form} {forms = forms} {y = u} {ys = uses} w ws) fresh zero part g =
    as_is (roles.instr before) (roles.instr (before ++ [])) (roles.instr before) form part (ap (λ b. Some (roles.instr b)) (sym (append-nil before))) g refl
    (instr_clear form (instr_name u.instr) (name_of form (instr_name u.instr) w.instr) before u.instr (found u.instr) fresh.0)
instr_at latency slots before _ _ (more_of {form = form} {forms = forms} {y = u} {ys = uses} w ws) fresh (suc i) part g =
    let n = instr_name u.instr in
    let rest = instr_at latency slots (before ++ n ∷ []) forms uses ws fresh.1 i part g in
    let first : names_in (form ∷ take i forms) ≡ n ∷ names_in (take i forms) = ap (λ o. cons_option o (names_in (take i forms))) (name_of form n w.instr) in
    subst (λ b. IsClearTableForm (roles.instr b) part) (append_both before (n ∷ []) (names_in (take i forms)) ∙ ap (λ ns. before ++ ns) (sym first)) rest

module _ (slots : List Slot) (before : List (List ℕ)) (form : Form) (uses : List Use) (w : WritesOps slots form uses) (latency : (1 ≤ w.latency) × (w.latency ≤ 16))
    (some : 0 < length w.slot_forms) (once : FreshAll [] (slot_names_used slots w.slots)) (fresh : FreshAll before (names_of_uses uses)) where
  abbrev parts : List Form
  parts = atom w.is.head_place (name (codes "ops")) ∷ w.latency_form ∷ list w.slots_place (forms_from w.slot_forms) ∷ w.first ∷ w.others

  ops_parts : parts_of form ≡ parts
  ops_parts =
      ap parts_of w.is.is
      ∙ ap (λ fs. atom w.is.head_place (name (codes "ops")) ∷ w.latency_form ∷ list w.slots_place (forms_from w.slot_forms) ∷ w.first ∷ fs) (list_from w.others)

  ops_own : (k : Kind) → IsOwnTableFault (roles.ops (slot_names slots) before) form k → ⊥
  ops_own k (other_keyword {word = word} i j) =
      let same : codes "ops" ≡ word = cc in
      no_both (has_head word form) (ap (λ f. has_head word f) w.is.is ∙ (bytes_eq-Decides (codes "ops") word).1 same) j
  ops_own k (too_few l) = let n = ap length ops_parts in omega (arith, n, l)

  ops_each : (j : ℕ) (part : Form) (other : TableRole) → slice_get parts j ≡ Some part → table_part_role (roles.ops (slot_names slots) before) form j ≡ Some other → IsClearTableForm other part
  ops_each zero part other g r = no_role other part r
  ops_each (suc zero) part other g r =
      as_is roles.latency other roles.latency w.latency_form part r g refl (latency_clear w.latency_form w.latency (ap number_in w.latency_is.is) latency.0 latency.1)
  ops_each (suc (suc zero)) part other g r =
      as_is (roles.used_slots (slot_names slots)) other (roles.used_slots (slot_names slots)) (list w.slots_place (forms_from w.slot_forms)) part r g refl
      (used_slots_clear slots (list w.slots_place (forms_from w.slot_forms)) w.slots_place w.slot_forms w.slots refl some w.slots_are once)
  ops_each (suc (suc (suc j))) part other g r =
      as_is (roles.instr (before ++ names_in (take j (drop 3 (parts_of form))))) other (roles.instr (before ++ names_in (take j (drop 3 (parts_of form))))) part part r refl refl
      (subst (λ fs. IsClearTableForm (roles.instr (before ++ names_in (take j (drop 3 fs)))) part) (sym ops_parts)
      (instr_at w.latency w.slots before (w.first ∷ w.others) uses w.written fresh j part g))

  pub ops_clear : IsClearTableForm (roles.ops (slot_names slots) before) form
  ops_clear = all_parts (roles.ops (slot_names slots) before) form ops_own (λ j part other g r. ops_each j part other (ap (λ ps. slice_get ps j) (sym ops_parts) ∙ g) r)

-- ---- the whole form
pub numbers_fresh : (slots : List Slot) (used : List ℕ) → AllPairs (λ s r. s.name ≢ r.name) slots → AreSlotNumbers slots used → FreshAll [] (slot_names_used slots used)
numbers_fresh slots used differ are =
    fresh_all (name_at slots) [] used (λ k d l. refl)
    (λ i j d l m e. are.once i j d l m (number_once slots differ (get_or used i d) (get_or used j d) (are.exist i d (omega (arith, l, m))) (are.exist j d m) (ap (λ n. plain.atom (name n)) e)))

-- what an `ops` list says of its uses, which are within the limits
first_use : (slots : List Slot) (latency : ℕ) (used : List ℕ) (form : Form) (forms : List Form) (uses : List Use) → Each (WritesUse latency used) (form ∷ forms) uses → All (IsUseOf slots) uses
    → (1 ≤ latency) × (latency ≤ 16) × (0 < length used) × AreSlotNumbers slots used
first_use slots latency used form forms _ (more_of {y = u} w ws) each =
    let h = each 0 u (omega arith) in
    (subst (λ n. 1 ≤ n) w.takes h.latency.0, subst (λ n. n ≤ 16) w.takes h.latency.1, subst (λ (us : List ℕ). 0 < length us) w.may_use h.some, subst (AreSlotNumbers slots) w.may_use h.numbers)

each_length : {Y : Type 0} (P : Form → Y → Type 0) (forms : List Form) (ys : List Y) → Each P forms ys → 0 < length ys → 0 < length forms
each_length P _ _ none l = l
each_length P _ _ (more_of w ws) l = omega arith

module _ (slots : List Slot) (differ : AllPairs (λ s r. s.name ≢ r.name) slots) where
  one_clear : (before : List (List ℕ)) (form : Form) (uses : List Use) → WritesOps slots form uses → All (IsUseOf slots) uses → FreshAll before (names_of_uses uses) → IsClearTableForm (roles.ops (slot_names slots) before) form
  one_clear before form uses w each fresh =
      let first = first_use slots w.latency w.slots w.first w.others uses w.written each in
      ops_clear slots before form uses w (first.0, first.1) (each_length (IsSlotNamed slots) w.slot_forms w.slots w.slots_are first.2) (numbers_fresh slots w.slots differ first.3) fresh

  pub ops_at : (before : List (List ℕ)) (forms : List Form) (written : List (List Use)) → Each (WritesOps slots) forms written → All (IsUseOf slots) (joined written) → FreshAll before (names_of_uses (joined written))
      → (i : ℕ) (part : Form) → slice_get forms i ≡ Some part → IsClearTableForm (roles.ops (slot_names slots) (before ++ named_in_all (take i forms))) part
  ops_at before _ _ none each fresh i part g = cc
  ops_at before _ _ (more_of {form = form} {forms = forms} {y = uses} {ys = written} w ws) each fresh zero part g =
      let split = fresh_split before (names_of_uses uses) (names_of_uses (joined written)) (subst (FreshAll before) (names_both uses (joined written)) fresh) in
      as_is (roles.ops (slot_names slots) before) (roles.ops (slot_names slots) (before ++ [])) (roles.ops (slot_names slots) before) form part
      (ap (λ b. Some (roles.ops (slot_names slots) b)) (sym (append-nil before))) g refl
      (one_clear before form uses w (all_left (IsUseOf slots) uses (joined written) each) split.0)
  ops_at before _ _ (more_of {form = form} {forms = forms} {y = uses} {ys = written} w ws) each fresh (suc i) part g =
      let split = fresh_split before (names_of_uses uses) (names_of_uses (joined written)) (subst (FreshAll before) (names_both uses (joined written)) fresh) in
      let rest = ops_at (before ++ names_of_uses uses) forms written ws (all_right (IsUseOf slots) uses (joined written) each) split.1 i part g in
      subst (λ b. IsClearTableForm (roles.ops (slot_names slots) b) part)
      (append_both before (names_of_uses uses) (named_in_all (take i forms)) ∙ ap (λ ns. before ++ (ns ++ named_in_all (take i forms))) (sym (ops_named slots form uses w))) rest

-- ---- the slots of a table
module _ (form : Form) (forms : List Form) (slots : List Slot) (is : IsListOf (codes "slots") forms form) (written : Each WritesSlot forms slots) (t : (1 ≤ length slots) × (length slots ≤ 8))
    (low : All (λ s. s.cluster ≤ 3) slots) (fresh : FreshAll [] (slot_names slots)) where
  abbrev slots_list : List Form
  slots_list = atom is.head_place (name (codes "slots")) ∷ forms

  slots_parts : parts_of form ≡ slots_list
  slots_parts = ap parts_of is.is ∙ ap (λ fs. atom is.head_place (name (codes "slots")) ∷ fs) (list_from forms)

  slots_count : length forms ≡ length slots
  slots_count = each_count WritesSlot forms slots written

  slots_own : (k : Kind) → IsOwnTableFault roles.slots form k → ⊥
  slots_own k (other_keyword {word = word} i j) =
      let same : codes "slots" ≡ word = cc in
      no_both (has_head word form) (ap (λ f. has_head word f) is.is ∙ (bytes_eq-Decides (codes "slots") word).1 same) j
  slots_own k (too_few l) = let n = ap length slots_parts in omega (arith, n, l)
  slots_own k (no_slot l) = let n = ap length slots_parts in let m = slots_count in omega (arith, n, m, l, t)

  slots_each : (j : ℕ) (part : Form) (other : TableRole) → slice_get slots_list j ≡ Some part → table_part_role roles.slots form j ≡ Some other → IsClearTableForm other part
  slots_each zero part other g r = no_role other part r
  slots_each (suc j) part other g r =
      let before = slots_in (take j (drop 1 (parts_of form))) in
      let within = got_within forms j part g in
      let m = slots_count in
      let below : nat_lt j 8 ≡ true = (Decides-ltb j 8).1 (omega (arith, within, m, t)) in
      let role : Some (roles.slot before) ≡ Some other = ap (λ b. Some (if b then roles.slot before else roles.ninth_slot)) (sym below) ∙ r in
      as_is (roles.slot before) other (roles.slot before) part part role refl refl
      (subst (λ fs. IsClearTableForm (roles.slot (slots_in (take j (drop 1 fs)))) part) (sym slots_parts) (slot_at [] forms slots written low fresh j part g))

  pub slots_clear : IsClearTableForm roles.slots form
  slots_clear = all_parts roles.slots form slots_own (λ j part other g r. slots_each j part other (ap (λ ps. slice_get ps j) (sym slots_parts) ∙ g) r)

-- ---- the delay
module _ (form delay_form : Form) (n : ℕ) (is : IsListOf (codes "cross") (delay_form ∷ []) form) (number : IsNumberOf n delay_form) (below : n ≤ 4) where
  cross_parts : parts_of form ≡ atom is.head_place (name (codes "cross")) ∷ delay_form ∷ []
  cross_parts = ap parts_of is.is

  cross_own : (k : Kind) → IsOwnTableFault roles.cross form k → ⊥
  cross_own k (other_keyword {word = word} i j) =
      let same : codes "cross" ≡ word = cc in
      no_both (has_head word form) (ap (λ f. has_head word f) is.is ∙ (bytes_eq-Decides (codes "cross") word).1 same) j
  cross_own k (too_few l) = let m = ap length cross_parts in omega (arith, m, l)

  cross_each : (j : ℕ) (part : Form) (other : TableRole) → slice_get (atom is.head_place (name (codes "cross")) ∷ delay_form ∷ []) j ≡ Some part → table_part_role roles.cross form j ≡ Some other → IsClearTableForm other part
  cross_each zero part other g r = no_role other part r
  cross_each (suc zero) part other g r = as_is roles.delay other roles.delay delay_form part r g refl (delay_clear delay_form n (ap number_in number.is) below)
  cross_each (suc (suc j)) part other g r = cc

  pub cross_clear : IsClearTableForm roles.cross form
  cross_clear = all_parts roles.cross form cross_own (λ j part other g r. cross_each j part other (ap (λ ps. slice_get ps j) (sym cross_parts) ∙ g) r)

-- ---- all of it
lt_apart : (m n : ℕ) → m < n → m ≢ n
lt_apart m n l e = omega (arith, l, e)

-- uses of different instructions have different names in any order
names_apart : (uses others : List Use) → AllPairs (λ u v. kind_number u.instr ≢ kind_number v.instr) uses → IsPermutation uses others → AllPairs (λ u v. instr_name u.instr ≢ instr_name v.instr) others
names_apart uses others differ moved i j d l m e =
    numbers_apart uses others (λ a b c n o f. differ a b c n o (ap kind_number f)) moved i j d l m
    (ap kind_number (instr_same (get_or others i d).instr (get_or others j d).instr e))

use_limits : (table : Table) (u : Use) → IsUse table u → IsUseOf table.slots u
use_limits table u h = record { latency = h.latency; some = h.some; numbers = record { exist = h.exist; once = h.once } }

module _ (form : Form) (table : Table) (w : WritesTable form table) where
  abbrev pub table_parts : List Form
  table_parts = atom w.is.head_place (name (codes "machine")) ∷ w.slots_form ∷ w.cross_form ∷ w.ops_forms

  pub whole_parts : parts_of form ≡ table_parts
  whole_parts = ap parts_of w.is.is ∙ ap (λ fs. atom w.is.head_place (name (codes "machine")) ∷ w.slots_form ∷ w.cross_form ∷ fs) (list_from w.ops_forms)

  whole_own : (k : Kind) → IsOwnTableFault roles.machine form k → ⊥
  whole_own k (other_keyword {word = word} i j) =
      let same : codes "machine" ≡ word = cc in
      no_both (has_head word form) (ap (λ f. has_head word f) w.is.is ∙ (bytes_eq-Decides (codes "machine") word).1 same) j
  whole_own k (too_few l) = let n = ap length whole_parts in omega (arith, n, l)

  back : IsPermutation table.uses (joined w.written)
  back = IsPermutation-sym (joined w.written) table.uses w.uses

  limits : All (IsUseOf table.slots) (joined w.written)
  limits = All-permutation (IsUseOf table.slots) table.uses (joined w.written) back (λ k d l. use_limits table _ (w.well_formed.uses k d l))

  instrs_fresh : FreshAll [] (names_of_uses (joined w.written))
  instrs_fresh =
      fresh_all (λ (u : Use). instr_name u.instr) [] (joined w.written) (λ k d l. refl)
      (λ i j d l m e. names_apart table.uses (joined w.written) (λ a b c n o. lt_apart _ _ (w.well_formed.order a b c n o)) back i j d l m e)

  named_slots : slots_in_form form ≡ slot_names table.slots
  named_slots =
      ap (λ ps. option_map_or (λ f. slots_in (drop 1 (parts_of f))) (slice_get ps 1) []) whole_parts
      ∙ ap (λ f. slots_in (drop 1 (parts_of f))) w.slots_is.is
      ∙ ap slots_in (list_from w.slot_forms)
      ∙ slots_written w.slot_forms table.slots w.slots

  slots_fresh : FreshAll [] (slot_names table.slots)
  slots_fresh = fresh_all (λ (s : Slot). s.name) [] table.slots (λ k d l. refl) w.well_formed.names

  whole_each : (j : ℕ) (part : Form) (other : TableRole) → slice_get table_parts j ≡ Some part → table_part_role roles.machine form j ≡ Some other → IsClearTableForm other part
  whole_each zero part other g r = no_role other part r
  whole_each (suc zero) part other g r =
      as_is roles.slots other roles.slots w.slots_form part r g refl
      (slots_clear w.slots_form w.slot_forms table.slots w.slots_is w.slots w.well_formed.slots w.well_formed.clusters slots_fresh)
  whole_each (suc (suc zero)) part other g r =
      as_is roles.cross other roles.cross w.cross_form part r g refl (cross_clear w.cross_form w.delay_form table.cross w.cross_is w.cross w.well_formed.cross)
  whole_each (suc (suc (suc j))) part other g r =
      let before = named_in_all (take j (drop 3 (parts_of form))) in
      let role : Some (roles.ops (slot_names table.slots) before) ≡ Some other = ap (λ s. Some (roles.ops s before)) (sym named_slots) ∙ r in
      as_is (roles.ops (slot_names table.slots) before) other (roles.ops (slot_names table.slots) before) part part role refl refl
      (subst (λ fs. IsClearTableForm (roles.ops (slot_names table.slots) (named_in_all (take j (drop 3 fs)))) part) (sym whole_parts)
      (ops_at table.slots w.well_formed.names [] w.ops_forms w.written w.ops limits instrs_fresh j part g))

  pub written_clear : IsClearTableForm roles.machine form
  written_clear = all_parts roles.machine form whole_own (λ j part other g r. whole_each j part other (ap (λ ps. slice_get ps j) (sym whole_parts) ∙ g) r)
