-- Lists of slots, those of a table and those that instructions may be launched in.
use Rattle.std.proofs.Common.{◌≡◌, ◌≢◌, ℕ, zero, suc, ◌+◌, ◌<◌, ◌≤◌, ◌++◌, Bool, true, false, Some, List, [], ◌∷◌, length, take, drop, get_or, refl, sym, ap, ap₂, ◌∙◌, subst, arith, slice_get, codes, if◌then◌else◌}
use Rattle.std.specs.Prelude.{nat_lt, ◌==◌}
use Rattle.std.specs.List.{cons_option}
use Rattle.std.proofs.lemmas.Bool.Decides.{Decides-eqb, Decides-ltb}
use Rattle.std.proofs.lemmas.List.{take_all}
use Rattle.std.proofs.lemmas.List.Elements.{All-push}
use Rattle.std.proofs.lemmas.List.Quantifiers.{all_pairs_push}
use Rattle.std.proofs.lemmas.Option.{slice_get-get_or}
use Rattle.forms.proofs.First.{first_own}
use Rattle.forms.specs.Forms as forms
use Rattle.forms.specs.Forms.{Form, Stands, atom, list, more, place_of, parts_of, forms_from, is_list, names_in}
use Rattle.machine_table.proofs.Leaves.{First, form_first, no_both}
use Rattle.machine_table.proofs.Parts.{ClearBefore, clear_next, all_clear, part_first, between, between_1, between_more, got_more, got_within, headed, name_of}
use Rattle.machine_table.proofs.SlotNumbers.{at_among, name_at_is, used_among}
use Rattle.machine_table.specs.Grammar.{Each, none, more_of, IsSlotNamed, WritesSlot}
use Rattle.machine_table.specs.Reading.{slot_names, name_at, slot_names_used, AreSlots, AreSlotNumbers, AreSlotsRead, AreUsedRead, IsSlotRead, IsUsedRead}
use Rattle.machine_table.specs.Roles as roles
use Rattle.text_core.specs.Names.{is_among}
use Rattle.machine_table.specs.Roles.{TableRole, IsOwnTableFault, table_part_role, slots_in, first_name, has_head, other_keyword, too_few, no_list, none_used, no_slot}
use Rattle.machine_table.specs.declared.tables.Slot.{Slot}
use Rattle.text_core.specs.Faults.{fault_number}
use Rattle.text_core.specs.declared.faults.Kind.{Kind}
use Rattle.text_core.specs.declared.faults.Kind.TheVariants.{BadForm, BadSlot}

pub length_push : {X : Type 0} (xs : List X) (x : X) → length (xs ++ x ∷ []) ≡ length xs + 1
length_push [] x = refl
length_push (y ∷ ys) x = let l = length_push ys x in omega (arith, l)

pub not_true : (b : Bool) → (b ≡ true → ⊥) → b ≡ false
not_true true n = absurd (n refl)
not_true false n = refl

pub is_zero : (n : ℕ) → true ≡ (n == 0) → n ≡ 0
is_zero n e = (Decides-eqb n 0).0 (sym e)

pub not_zero : (n : ℕ) → false ≡ (n == 0) → 1 ≤ n
not_zero zero e = cc
not_zero (suc n) e = omega arith

-- ---- what each form writes
module _ {Y : Type 0} (P : Form → Y → Type 0) where
  pub each_push : (forms : List Form) (ys : List Y) (form : Form) (y : Y) → Each P forms ys → P form y → Each P (forms ++ form ∷ []) (ys ++ y ∷ [])
  each_push _ _ form y none h = more_of h none
  each_push _ _ form y (more_of {forms = forms} {ys = ys} w ws) h = more_of w (each_push forms ys form y ws h)

  pub each_count : (forms : List Form) (ys : List Y) → Each P forms ys → length forms ≡ length ys
  each_count _ _ none = refl
  each_count _ _ (more_of {forms = forms} {ys = ys} w ws) = let l = each_count forms ys ws in omega (arith, l)

  pub each_forms : (forms others : List Form) (ys : List Y) → forms ≡ others → Each P forms ys → Each P others ys
  each_forms forms others ys e h = subst (λ fs. Each P fs ys) e h

pub slots_named : (slots : List Slot) (forms : List Form) (used : List ℕ) → Each (IsSlotNamed slots) forms used → names_in forms ≡ slot_names_used slots used
slots_named slots _ _ none = refl
slots_named slots _ _ (more_of {form = form} {forms = forms} {y = at} {ys = used} w ws) =
    ap (λ o. cons_option o (names_in forms)) (name_of form w.slot.name w.named)
    ∙ ap₂ (λ n ns. n ∷ ns) (sym (name_at_is slots at w.slot w.found)) (slots_named slots forms used ws)

pub first_named : (form : Form) (slot : Slot) → WritesSlot form slot → first_name form ≡ Some slot.name
first_named form slot w = ap first_name w.is ∙ name_of w.first slot.name w.named

pub slots_written : (forms : List Form) (slots : List Slot) → Each WritesSlot forms slots → slots_in forms ≡ slot_names slots
slots_written _ _ none = refl
slots_written _ _ (more_of {form = form} {forms = forms} {y = slot} {ys = slots} w ws) =
    ap (λ o. cons_option o (slots_in forms)) (first_named form slot w) ∙ ap (λ ns. slot.name ∷ ns) (slots_written forms slots ws)

-- ---- the slots that instructions may be launched in
module _ (slots : List Slot) (form : Form) where
  abbrev whole : TableRole
  whole = roles.used_slots (slot_names slots)

  empty_least : is_list form ≡ true → (k : Kind) → IsOwnTableFault whole form k → 14 ≤ fault_number k
  empty_least e k (other_keyword i j) = cc
  empty_least e k (too_few l) = absurd (omega (arith, l))
  empty_least e k (no_list i) = absurd (no_both (is_list form) e i)
  empty_least e k (none_used i j) = omega arith

  pub empty_first : (low high : ℕ) → Stands low high form → is_list form ≡ true → length (parts_of form) ≡ 0 → First whole form (place_of form) BadSlot
  empty_first low high h e l = first_own IsOwnTableFault table_part_role whole form low high BadSlot h (none_used e l) (empty_least e)

  used_own : is_list form ≡ true → 1 ≤ length (parts_of form) → (k : Kind) → IsOwnTableFault whole form k → ⊥
  used_own e l k (other_keyword i j) = cc
  used_own e l k (too_few m) = omega (arith, m)
  used_own e l k (no_list i) = no_both (is_list form) e i
  used_own e l k (none_used i j) = omega (arith, j, l)

  module _ (i : ℕ) (used : List ℕ) (named : Each (IsSlotNamed slots) (take i (parts_of form)) used) where
    used_role : table_part_role whole form i ≡ Some (roles.used_slot (slot_names slots) (slot_names_used slots used))
    used_role = ap (λ ns. Some (roles.used_slot (slot_names slots) ns)) (slots_named slots (take i (parts_of form)) used named)

    pub used_fault : (low high : ℕ) → Stands low high form → is_list form ≡ true → 1 ≤ length (parts_of form) → (part : Form) → slice_get (parts_of form) i ≡ Some part → ClearBefore whole form i
        → (place : ℕ) (kind : Kind) → First (roles.used_slot (slot_names slots) (slot_names_used slots used)) part place kind → First whole form place kind
    used_fault low high h e l part g clear place kind first =
        part_first whole form low high h (used_own e l) i part (roles.used_slot (slot_names slots) (slot_names_used slots used)) place kind g used_role clear first

    module _ (part : Form) (at : ℕ) (g : slice_get (parts_of form) i ≡ Some part) (read : IsUsedRead slots used part at) where
      pub used_next : Each (IsSlotNamed slots) (take (i + 1) (parts_of form)) (used ++ at ∷ [])
      used_next =
          each_forms (IsSlotNamed slots) _ _ _ (sym (got_more (parts_of form) i part g))
          (each_push (IsSlotNamed slots) (take i (parts_of form)) used part at named read.named)

      pub used_clear_next : ClearBefore whole form i → ClearBefore whole form (i + 1)
      used_clear_next clear = clear_next whole form i part _ g used_role read.clear clear

      new_number : (k d : ℕ) → k < length used → get_or used k d ≢ at
      new_number k d l e = no_both (is_among (slot_names_used slots used) (name_at slots at)) (used_among slots used k d at l e) read.fresh

      pub numbers_next : AreSlotNumbers slots used → AreSlotNumbers slots (used ++ at ∷ [])
      numbers_next are = record {
        exist = All-push (λ s. s < length slots) used at are.exist (got_within slots at read.named.slot read.named.found);
        once = all_pairs_push (λ s r. s ≢ r) used at are.once new_number;
      }

  pub used_whole : (i : ℕ) (used : List ℕ) → form ≡ list (place_of form) (forms_from (parts_of form)) → 1 ≤ length (parts_of form) → length (parts_of form) ≤ i
      → Each (IsSlotNamed slots) (take i (parts_of form)) used → AreSlotNumbers slots used → ClearBefore whole form i → AreUsedRead slots form used
  used_whole i used is some most named numbers clear =
      let all = each_forms (IsSlotNamed slots) _ _ used (take_all i (parts_of form) most) named in
      let count = each_count (IsSlotNamed slots) (parts_of form) used all in
      record {
        place = place_of form;
        forms = parts_of form;
        is = is;
        named = all;
        some = omega (arith, count, some);
        numbers = numbers;
        clear = all_clear whole form i (used_own (ap is_list is) some) most clear;
      }

-- ---- the slots of a table
pub no_slots : AreSlots []
no_slots = record { few = omega arith; clusters = λ k d l. absurd (omega (arith, l)); names = λ i j d l m. absurd (omega (arith, m)) }

pub no_between : (parts : List Form) → Each WritesSlot (between 1 1 parts) []
no_between [] = none
no_between (p ∷ ps) = none

pub pushed_count : (slots : List Slot) (slot : Slot) (i : ℕ) → length slots + 1 ≡ i → length (slots ++ slot ∷ []) + 1 ≡ i + 1
pushed_count slots slot i e = let l = length_push slots slot in omega (arith, e, l)

pub keyword_some : (word : List ℕ) (form : Form) → has_head word form ≡ true → 1 ≤ length (parts_of form)
keyword_some word (atom p a) e = cc
keyword_some word (list p forms.none) e = cc
keyword_some word (list p (more f fs)) e = omega arith

module _ (form : Form) where
  pub no_slots_first : (low high : ℕ) → Stands low high form → has_head (codes "slots") form ≡ false → First roles.slots form (place_of form) BadForm
  no_slots_first low high h e = form_first form low high h roles.slots (other_keyword refl e)

  module _ (keyword : has_head (codes "slots") form ≡ true) where
    one_least : 1 ≤ length (parts_of form) → (k : Kind) → IsOwnTableFault roles.slots form k → 14 ≤ fault_number k
    one_least some k (other_keyword {word = word} i j) =
        let same : codes "slots" ≡ word = cc in absurd (no_both (has_head word form) (ap (λ w. has_head w form) (sym same) ∙ keyword) j)
    one_least some k (too_few l) = absurd (omega (arith, l, some))
    one_least some k (no_slot l) = omega arith

    pub one_first : (low high : ℕ) → Stands low high form → length (parts_of form) ≡ 1 → First roles.slots form (place_of form) BadSlot
    one_first low high h l = first_own IsOwnTableFault table_part_role roles.slots form low high BadSlot h (no_slot l) (one_least (omega (arith, l)))

    module _ (some : 2 ≤ length (parts_of form)) where
      slots_own : (k : Kind) → IsOwnTableFault roles.slots form k → ⊥
      slots_own k (other_keyword {word = word} i j) =
          let same : codes "slots" ≡ word = cc in no_both (has_head word form) (ap (λ w. has_head w form) (sym same) ∙ keyword) j
      slots_own k (too_few l) = omega (arith, l, some)
      slots_own k (no_slot l) = omega (arith, l, some)

      slot_role : (i : ℕ) (names : List (List ℕ)) → 1 ≤ i → i ≤ 8 → slots_in (between 1 i (parts_of form)) ≡ names → table_part_role roles.slots form i ≡ Some (roles.slot names)
      slot_role zero names l m e = absurd (omega (arith, l))
      slot_role (suc i) names l m e =
          ap (λ b. Some (if b then roles.slot (slots_in (take i (drop 1 (parts_of form)))) else roles.ninth_slot)) ((Decides-ltb i 8).1 (omega (arith, m)))
          ∙ ap (λ ns. Some (roles.slot ns)) (ap slots_in (sym (between_1 i (parts_of form))) ∙ e)

      ninth_role : (i : ℕ) → 8 < i → table_part_role roles.slots form i ≡ Some roles.ninth_slot
      ninth_role zero l = absurd (omega (arith, l))
      ninth_role (suc i) l =
          ap (λ b. Some (if b then roles.slot (slots_in (take i (drop 1 (parts_of form)))) else roles.ninth_slot)) (not_true (nat_lt i 8) (λ t. let k = (Decides-ltb i 8).0 t in omega (arith, k, l)))

      module _ (low high : ℕ) (h : Stands low high form) (i : ℕ) (part : Form) (g : slice_get (parts_of form) i ≡ Some part) (clear : ClearBefore roles.slots form i) where
        pub ninth_fault : 8 < i → (place : ℕ) (kind : Kind) → First roles.ninth_slot part place kind → First roles.slots form place kind
        ninth_fault l place kind first = part_first roles.slots form low high h slots_own i part roles.ninth_slot place kind g (ninth_role i l) clear first

        pub slot_fault : (slots : List Slot) → 1 ≤ i → i ≤ 8 → Each WritesSlot (between 1 i (parts_of form)) slots → (place : ℕ) (kind : Kind) → First (roles.slot (slot_names slots)) part place kind
            → First roles.slots form place kind
        slot_fault slots l m written place kind first =
            part_first roles.slots form low high h slots_own i part (roles.slot (slot_names slots)) place kind g
            (slot_role i (slot_names slots) l m (slots_written (between 1 i (parts_of form)) slots written)) clear first

      module _ (i : ℕ) (slots : List Slot) (l : 1 ≤ i) (m : i ≤ 8) (written : Each WritesSlot (between 1 i (parts_of form)) slots) (part : Form) (slot : Slot)
          (g : slice_get (parts_of form) i ≡ Some part) (read : IsSlotRead (slot_names slots) part slot) where
        pub written_next : Each WritesSlot (between 1 (i + 1) (parts_of form)) (slots ++ slot ∷ [])
        written_next =
            each_forms WritesSlot _ _ _ (sym (between_more 1 (parts_of form) i part l g))
            (each_push WritesSlot (between 1 i (parts_of form)) slots part slot written read.writes)

        pub slots_clear_next : ClearBefore roles.slots form i → ClearBefore roles.slots form (i + 1)
        slots_clear_next clear = clear_next roles.slots form i part _ g (slot_role i (slot_names slots) l m (slots_written (between 1 i (parts_of form)) slots written)) read.clear clear

        new_name : (k : ℕ) (d : Slot) → k < length slots → (get_or slots k d).name ≢ slot.name
        new_name k d n e =
            no_both (is_among (slot_names slots) slot.name)
            (ap (is_among (slot_names slots)) (sym e) ∙ at_among slots k (get_or slots k d) (slice_get-get_or slots k d n)) read.fresh

        pub slots_next : AreSlots slots → length slots + 1 ≤ 8 → AreSlots (slots ++ slot ∷ [])
        slots_next are n = record {
          few = (let k = length_push slots slot in omega (arith, n, k));
          clusters = All-push (λ (s : Slot). s.cluster ≤ 3) slots slot are.clusters read.cluster;
          names = all_pairs_push (λ (s r : Slot). s.name ≢ r.name) slots slot are.names new_name;
        }

      pub slots_whole : (i : ℕ) (slots : List Slot) → length (parts_of form) ≤ i → length slots + 1 ≡ i → 2 ≤ i → Each WritesSlot (between 1 i (parts_of form)) slots → AreSlots slots → ClearBefore roles.slots form i
          → AreSlotsRead form slots
      slots_whole i slots most count two written are clear = record {
        forms = drop 1 (parts_of form);
        is = headed (codes "slots") form keyword;
        written = each_forms WritesSlot _ _ slots (ap (drop 1) (take_all i (parts_of form) most)) written;
        some = omega (arith, count, two);
        differ = are;
        clear = all_clear roles.slots form i slots_own most clear;
      }
