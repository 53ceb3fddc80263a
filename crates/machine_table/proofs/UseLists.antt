-- An `ops` list of a machine form.
use Rattle.std.proofs.Common.{◌≡◌, ◌≢◌, ℕ, zero, suc, ◌+◌, ◌<◌, ◌≤◌, ◌||◌, ◌++◌, Bool, true, false, Some, List, [], ◌∷◌, length, drop, get_or, refl, sym, ap, ap₂, ◌∙◌, subst, arith, slice_get, codes, bytes_eq}
use Rattle.std.specs.List.{cons_option}
use Rattle.std.proofs.lemmas.List.{take_all}
use Rattle.std.proofs.lemmas.List.Elements.{All-push}
use Rattle.std.proofs.lemmas.List.Quantifiers.{all_pairs_push}
use Rattle.std.proofs.lemmas.Slice.Eq.{bytes_eq-Decides}
use Rattle.forms.specs.Forms.{Form, Stands, place_of, parts_of, names_in}
use Rattle.machine_table.proofs.Leaves.{First, form_first, no_both}
use Rattle.machine_table.proofs.Parts.{ClearBefore, clear_0, clear_next, clear_skip, all_clear, part_first, between, between_3, between_more, headed, name_of}
use Rattle.machine_table.proofs.SlotLists.{each_push, each_forms}
use Rattle.machine_table.specs.Grammar.{Each, none, more_of, WritesUse, IsListOf, IsNumberOf}
use Rattle.machine_table.specs.InstrOrder.{instr_name}
use Rattle.machine_table.specs.Reading.{slot_names, names_of_uses, IsClearTableForm, AreUses, IsUseOf, AreUsedRead, AreOpsRead, IsInstrRead}
use Rattle.machine_table.specs.Roles as roles
use Rattle.text_core.specs.Names.{is_among}
use Rattle.machine_table.specs.Roles.{TableRole, IsOwnTableFault, table_part_role, has_head, other_keyword, too_few}
use Rattle.machine_table.specs.declared.tables.InstrKind.{InstrKind}
use Rattle.machine_table.specs.declared.tables.Slot.{Slot}
use Rattle.machine_table.specs.declared.tables.Use.{Use}
use Rattle.text_core.specs.declared.faults.Kind.{Kind}
use Rattle.text_core.specs.declared.faults.Kind.TheVariants.{BadForm}

abbrev pub use_of_parts : InstrKind → ℕ → List ℕ → Use
use_of_parts i n s = record { instr = i; latency = n; slots = s }

pub names_both : (xs ys : List Use) → names_of_uses (xs ++ ys) ≡ names_of_uses xs ++ names_of_uses ys
names_both [] ys = refl
names_both (x ∷ xs) ys = ap (λ ns. instr_name x.instr ∷ ns) (names_both xs ys)

pub uses_written : (latency : ℕ) (slots : List ℕ) (forms : List Form) (uses : List Use) → Each (WritesUse latency slots) forms uses → names_in forms ≡ names_of_uses uses
uses_written latency slots _ _ none = refl
uses_written latency slots _ _ (more_of {form = form} {forms = forms} {y = u} {ys = uses} w ws) =
    ap (λ o. cons_option o (names_in forms)) (name_of form (instr_name u.instr) w.instr)
    ∙ ap (λ ns. instr_name u.instr ∷ ns) (uses_written latency slots forms uses ws)

or_true : (b : Bool) → b || true ≡ true
or_true true = refl
or_true false = refl

use_among : (uses : List Use) (k : ℕ) (d : Use) (one : InstrKind) → k < length uses → (get_or uses k d).instr ≡ one → is_among (names_of_uses uses) (instr_name one) ≡ true
use_among [] k d one l e = absurd (omega (arith, l))
use_among (u ∷ us) zero d one l e =
    ap (λ b. b || is_among (names_of_uses us) (instr_name one)) ((bytes_eq-Decides (instr_name u.instr) (instr_name one)).1 (ap instr_name e))
use_among (u ∷ us) (suc k) d one l e =
    ap (λ b. bytes_eq (instr_name u.instr) (instr_name one) || b) (use_among us k d one (omega (arith, l)) e)
    ∙ or_true (bytes_eq (instr_name u.instr) (instr_name one))

append_push : {X : Type 0} (xs ys : List X) (x : X) → (xs ++ ys) ++ x ∷ [] ≡ xs ++ (ys ++ x ∷ [])
append_push [] ys x = refl
append_push (z ∷ xs) ys x = ap (λ zs. z ∷ zs) (append_push xs ys x)

record FourParts (parts : List Form) (second third : Form) : Type 0 where
  pub first : Form
  pub others : List Form
  pub is : drop 1 parts ≡ second ∷ third ∷ first ∷ others
  pub rest : drop 3 parts ≡ first ∷ others

four_parts : (parts : List Form) (second third : Form) → 4 ≤ length parts → slice_get parts 1 ≡ Some second → slice_get parts 2 ≡ Some third → FourParts parts second third
four_parts [] second third l g e = cc
four_parts (a ∷ []) second third l g e = cc
four_parts (a ∷ (b ∷ [])) second third l g e = cc
four_parts (a ∷ (b ∷ (c ∷ []))) second third l g e = absurd (omega (arith, l))
four_parts (a ∷ (b ∷ (c ∷ (d ∷ ds)))) second third l g e =
    let one : b ≡ second = cc in
    let two : c ≡ third = cc in
    record { first = d; others = ds; is = ap₂ (λ x y. x ∷ y ∷ d ∷ ds) one two; rest = refl }

module _ (slots : List Slot) (before : List Use) (form : Form) where
  abbrev pub whole : TableRole
  whole = roles.ops (slot_names slots) (names_of_uses before)

  pub no_ops_first : (low high : ℕ) → Stands low high form → has_head (codes "ops") form ≡ false → First whole form (place_of form) BadForm
  no_ops_first low high h e = form_first form low high h whole (other_keyword refl e)

  pub short_ops_first : (low high : ℕ) → Stands low high form → length (parts_of form) < 4 → First whole form (place_of form) BadForm
  short_ops_first low high h l = form_first form low high h whole (too_few l)

  module _ (keyword : has_head (codes "ops") form ≡ true) (enough : 4 ≤ length (parts_of form)) (second : Form) (g1 : slice_get (parts_of form) 1 ≡ Some second) where
    own : (k : Kind) → IsOwnTableFault whole form k → ⊥
    own k (other_keyword {word = word} i j) =
        let same : codes "ops" ≡ word = cc in no_both (has_head word form) (ap (λ w. has_head w form) (sym same) ∙ keyword) j
    own k (too_few l) = omega (arith, l, enough)

    clear_1 : ClearBefore whole form 1
    clear_1 = clear_skip whole form 0 refl (clear_0 whole form)

    pub latency_fault : (low high : ℕ) → Stands low high form → (place : ℕ) (kind : Kind) → First roles.latency second place kind → First whole form place kind
    latency_fault low high h place kind first = part_first whole form low high h own 1 second roles.latency place kind g1 refl clear_1 first

    module _ (latency_clear : IsClearTableForm roles.latency second) (third : Form) (g2 : slice_get (parts_of form) 2 ≡ Some third) where
      clear_2 : ClearBefore whole form 2
      clear_2 = clear_next whole form 1 second roles.latency g1 refl latency_clear clear_1

      pub slots_fault : (low high : ℕ) → Stands low high form → (place : ℕ) (kind : Kind) → First (roles.used_slots (slot_names slots)) third place kind → First whole form place kind
      slots_fault low high h place kind first = part_first whole form low high h own 2 third (roles.used_slots (slot_names slots)) place kind g2 refl clear_2 first

      pub clear_3 : IsClearTableForm (roles.used_slots (slot_names slots)) third → ClearBefore whole form 3
      clear_3 used_clear = clear_next whole form 2 third (roles.used_slots (slot_names slots)) g2 refl used_clear clear_2

    -- ---- the instructions
    module _ (latency : ℕ) (used : List ℕ) (i : ℕ) (uses added : List Use) (l : 3 ≤ i) (is : uses ≡ before ++ added) (written : Each (WritesUse latency used) (between 3 i (parts_of form)) added) where
      role_from : (j : ℕ) → 3 ≤ j → names_in (between 3 j (parts_of form)) ≡ names_of_uses added → table_part_role whole form j ≡ Some (roles.instr (names_of_uses before ++ names_of_uses added))
      role_from zero m e = absurd (omega (arith, m))
      role_from (suc zero) m e = absurd (omega (arith, m))
      role_from (suc (suc zero)) m e = absurd (omega (arith, m))
      role_from (suc (suc (suc j))) m e =
          ap (λ ns. Some (roles.instr (names_of_uses before ++ ns))) (ap names_in (sym (between_3 j (parts_of form))) ∙ e)

      instr_role : table_part_role whole form i ≡ Some (roles.instr (names_of_uses uses))
      instr_role =
          role_from i l (uses_written latency used (between 3 i (parts_of form)) added written)
          ∙ ap (λ ns. Some (roles.instr ns)) (sym (ap names_of_uses is ∙ names_both before added))

      pub instr_fault : (low high : ℕ) → Stands low high form → (part : Form) → slice_get (parts_of form) i ≡ Some part → ClearBefore whole form i
          → (place : ℕ) (kind : Kind) → First (roles.instr (names_of_uses uses)) part place kind → First whole form place kind
      instr_fault low high h part g clear place kind first = part_first whole form low high h own i part (roles.instr (names_of_uses uses)) place kind g instr_role clear first

      module _ (part : Form) (g : slice_get (parts_of form) i ≡ Some part) (one : InstrKind) (read : IsInstrRead (names_of_uses uses) part one) where
        pub added_is : uses ++ use_of_parts one latency used ∷ [] ≡ before ++ (added ++ use_of_parts one latency used ∷ [])
        added_is = ap (λ us. us ++ use_of_parts one latency used ∷ []) is ∙ append_push before added (use_of_parts one latency used)

        pub uses_next : Each (WritesUse latency used) (between 3 (i + 1) (parts_of form)) (added ++ use_of_parts one latency used ∷ [])
        uses_next =
            each_forms (WritesUse latency used) _ _ _ (sym (between_more 3 (parts_of form) i part l g))
            (each_push (WritesUse latency used) (between 3 i (parts_of form)) added part (use_of_parts one latency used) written
            (record { instr = read.named; takes = refl; may_use = refl }))

        pub uses_clear_next : ClearBefore whole form i → ClearBefore whole form (i + 1)
        uses_clear_next clear = clear_next whole form i part _ g instr_role read.clear clear

        new_instr : (k : ℕ) (d : Use) → k < length uses → (get_or uses k d).instr ≢ one
        new_instr k d n e = no_both (is_among (names_of_uses uses) (instr_name one)) (use_among uses k d one n e) read.fresh

        pub are_next : (1 ≤ latency) × (latency ≤ 16) → (third : Form) → AreUsedRead slots third used → AreUses slots uses → AreUses slots (uses ++ use_of_parts one latency used ∷ [])
        are_next within third used_read are = record {
          each = All-push (IsUseOf slots) uses (use_of_parts one latency used) are.each (record { latency = within; some = used_read.some; numbers = used_read.numbers });
          once = all_pairs_push (λ (u v : Use). u.instr ≢ v.instr) uses (use_of_parts one latency used) are.once new_instr;
        }

      pub ops_whole : (third : Form) → slice_get (parts_of form) 2 ≡ Some third → IsNumberOf latency second → AreUsedRead slots third used → length (parts_of form) ≤ i
          → AreUses slots uses → ClearBefore whole form i → AreOpsRead slots before form uses
      ops_whole third g2 number used_read most are clear =
          let four = four_parts (parts_of form) second third enough g1 g2 in
          record {
            added = added;
            is = is;
            written = record {
              latency_form = second;
              slots_place = used_read.place;
              slot_forms = used_read.forms;
              first = four.first;
              others = four.others;
              latency = latency;
              slots = used;
              is = subst (λ fs. IsListOf (codes "ops") fs form) (four.is ∙ ap (λ f. second ∷ f ∷ four.first ∷ four.others) used_read.is) (headed (codes "ops") form keyword);
              latency_is = number;
              slots_are = used_read.named;
              written = each_forms (WritesUse latency used) _ _ added (ap (drop 3) (take_all i (parts_of form) most) ∙ four.rest) written;
            };
            uses = are;
            clear = all_clear whole form i own most clear;
          }

  pub no_uses : (latency : ℕ) (used : List ℕ) → 3 ≤ length (parts_of form) → Each (WritesUse latency used) (between 3 3 (parts_of form)) []
  no_uses latency used l = each_forms (WritesUse latency used) _ _ [] (sym (none_between (parts_of form))) none
    where
      none_between : (parts : List Form) → between 3 3 parts ≡ []
      none_between [] = refl
      none_between (a ∷ []) = refl
      none_between (a ∷ (b ∷ [])) = refl
      none_between (a ∷ (b ∷ (c ∷ cs))) = refl
