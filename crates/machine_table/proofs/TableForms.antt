-- A machine form: its first fault, and the table that it writes.
use Rattle.std.proofs.Common.{◌≡◌, ◌≢◌, ℕ, zero, suc, ◌+◌, ◌<◌, ◌≤◌, ◌++◌, Bool, true, false, Some, List, [], ◌∷◌, length, drop, get_or, refl, sym, ap, ap₂, ◌∙◌, subst, arith, slice_get, codes}
use Rattle.std.specs.Prelude.{◌==◌, AllPairs, IsPermutation}
use Rattle.std.specs.List.{flat_map}
use Rattle.std.specs.Option.{option_map_or}
use Rattle.std.proofs.lemmas.Bool.Decides.{Decides-eqb}
use Rattle.std.proofs.lemmas.List.{append-nil, take_all}
use Rattle.std.proofs.lemmas.List.Sorted.{All-permutation}
use Rattle.std.proofs.lemmas.Map.Keys.{IsDistinct-from_apart, IsDistinct-IsPermutation, apart_from_distinct}
use Rattle.forms.specs.Forms.{Form, Stands, place_of, parts_of, names_in}
use Rattle.machine_table.proofs.Leaves.{First, form_first, no_both}
use Rattle.machine_table.proofs.Named.{once}
use Rattle.machine_table.proofs.Parts.{ClearBefore, clear_0, clear_next, clear_skip, all_clear, part_first, between, between_3, between_more, headed, list_from}
use Rattle.machine_table.proofs.SlotLists.{each_push, each_forms, slots_written, not_true}
use Rattle.machine_table.proofs.UseLists.{names_both, uses_written}
use Rattle.machine_table.specs.Grammar.{Each, none, more_of, WritesOps, WritesTable, IsListOf}
use Rattle.machine_table.specs.InstrOrder.{kind_number}
use Rattle.machine_table.specs.Reading.{slot_names, names_of_uses, IsClearTableForm, AreUses, IsUseOf, AreSlotsRead, AreOpsRead, IsCrossRead, DontFall}
use Rattle.machine_table.specs.Roles as roles
use Rattle.machine_table.specs.Roles.{TableRole, IsOwnTableFault, table_part_role, named_in_ops, named_in_all, slots_in, slots_in_form, has_head, other_keyword, too_few}
use Rattle.machine_table.specs.Tables.{IsTable, IsUse}
use Rattle.machine_table.specs.declared.tables.Slot.{Slot}
use Rattle.machine_table.specs.declared.tables.Table.{Table}
use Rattle.machine_table.specs.declared.tables.Use.{Use}
use Rattle.text_core.specs.declared.faults.Kind.{Kind}
use Rattle.text_core.specs.declared.faults.Kind.TheVariants.{BadForm}

abbrev pub table_of_parts : List Slot → ℕ → List Use → Table
table_of_parts slots cross uses = record { slots = slots; cross = cross; uses = uses }

abbrev pub joined : List (List Use) → List Use
joined written = flat_map (λ (uses : List Use). uses) written

pub append_both : {X : Type 0} (xs ys zs : List X) → (xs ++ ys) ++ zs ≡ xs ++ (ys ++ zs)
append_both [] ys zs = refl
append_both (x ∷ xs) ys zs = ap (λ rest. x ∷ rest) (append_both xs ys zs)

joined_push : (written : List (List Use)) (added : List Use) → joined (written ++ added ∷ []) ≡ joined written ++ added
joined_push [] added = append-nil added
joined_push (w ∷ ws) added = ap (λ us. w ++ us) (joined_push ws added) ∙ sym (append_both w (joined ws) added)

pub ops_named : (slots : List Slot) (form : Form) (uses : List Use) → WritesOps slots form uses → named_in_ops form ≡ names_of_uses uses
ops_named slots form uses w =
    ap (λ f. names_in (drop 3 (parts_of f))) w.is.is
    ∙ ap names_in (list_from (w.first ∷ w.others))
    ∙ uses_written w.latency w.slots (w.first ∷ w.others) uses w.written

all_named : (slots : List Slot) (forms : List Form) (written : List (List Use)) → Each (WritesOps slots) forms written → named_in_all forms ≡ names_of_uses (joined written)
all_named slots _ _ none = refl
all_named slots _ _ (more_of {form = form} {forms = forms} {y = uses} {ys = written} w ws) =
    ap₂ (λ a b. a ++ b) (ops_named slots form uses w) (all_named slots forms written ws) ∙ sym (names_both uses (joined written))

three_parts : (parts : List Form) (second third : Form) → 3 ≤ length parts → slice_get parts 1 ≡ Some second → slice_get parts 2 ≡ Some third → drop 1 parts ≡ second ∷ third ∷ drop 3 parts
three_parts [] second third l g e = cc
three_parts (a ∷ []) second third l g e = cc
three_parts (a ∷ (b ∷ [])) second third l g e = cc
three_parts (a ∷ (b ∷ (c ∷ cs))) second third l g e =
    let one : b ≡ second = cc in
    let two : c ≡ third = cc in
    ap₂ (λ x y. x ∷ y ∷ cs) one two

none_between : (parts : List Form) → between 3 3 parts ≡ []
none_between [] = refl
none_between (a ∷ []) = refl
none_between (a ∷ (b ∷ [])) = refl
none_between (a ∷ (b ∷ (c ∷ cs))) = refl

-- ---- uses in the order of their instructions
same_number : Use → Use → Bool
same_number u v = kind_number u.instr == kind_number v.instr

flips : (u v : Use) → same_number u v ≡ same_number v u
unfolding same_number
flips u v = both_ways (kind_number u.instr == kind_number v.instr) (kind_number v.instr == kind_number u.instr)
    (λ t. (Decides-eqb (kind_number v.instr) (kind_number u.instr)).1 (sym ((Decides-eqb (kind_number u.instr) (kind_number v.instr)).0 t)))
    (λ t. (Decides-eqb (kind_number u.instr) (kind_number v.instr)).1 (sym ((Decides-eqb (kind_number v.instr) (kind_number u.instr)).0 t)))
  where
    both_ways : (a b : Bool) → (a ≡ true → b ≡ true) → (b ≡ true → a ≡ true) → a ≡ b
    both_ways true b f g = sym (f refl)
    both_ways false true f g = g refl
    both_ways false false f g = refl

apart : (uses : List Use) → AllPairs (λ u v. u.instr ≢ v.instr) uses → (i j : ℕ) (d : Use) → i < j → j < length uses → same_number (get_or uses i d) (get_or uses j d) ≡ false
unfolding same_number
apart uses differ i j d l m =
    not_true (kind_number (get_or uses i d).instr == kind_number (get_or uses j d).instr)
    (λ t. differ i j d l m (once (get_or uses i d).instr (get_or uses j d).instr ((Decides-eqb (kind_number (get_or uses i d).instr) (kind_number (get_or uses j d).instr)).0 t)))

differ_by : (m n : ℕ) → (m == n) ≡ false → m ≢ n
differ_by m n f e = no_both (m == n) ((Decides-eqb m n).1 e) f

-- uses of different instructions have different numbers in any order
pub numbers_apart : (uses others : List Use) → AllPairs (λ u v. u.instr ≢ v.instr) uses → IsPermutation uses others → AllPairs (λ u v. kind_number u.instr ≢ kind_number v.instr) others
unfolding same_number
numbers_apart uses others differ moved i j d l m =
    let distinct = IsDistinct-IsPermutation same_number flips uses others moved (IsDistinct-from_apart same_number uses (apart uses differ)) in
    differ_by (kind_number (get_or others i d).instr) (kind_number (get_or others j d).instr) (apart_from_distinct same_number others i j d distinct l m)

pub in_order : (uses sorted : List Use) → AllPairs (λ u v. u.instr ≢ v.instr) uses → IsPermutation uses sorted → DontFall sorted → AllPairs (λ u v. kind_number u.instr < kind_number v.instr) sorted
in_order uses sorted differ moved rise i j d l m =
    let other = numbers_apart uses sorted differ moved i j d l m in
    let low = rise i j d (omega (arith, l)) m in
    omega (arith, other, low)

-- ---- the form
module _ (form : Form) where
  abbrev pub whole : TableRole
  whole = roles.machine

  pub no_machine_first : (low high : ℕ) → Stands low high form → has_head (codes "machine") form ≡ false → First whole form (place_of form) BadForm
  no_machine_first low high h e = form_first form low high h whole (other_keyword refl e)

  pub short_machine_first : (low high : ℕ) → Stands low high form → length (parts_of form) < 3 → First whole form (place_of form) BadForm
  short_machine_first low high h l = form_first form low high h whole (too_few l)

  module _ (keyword : has_head (codes "machine") form ≡ true) (enough : 3 ≤ length (parts_of form)) (second : Form) (g1 : slice_get (parts_of form) 1 ≡ Some second) where
    own : (k : Kind) → IsOwnTableFault whole form k → ⊥
    own k (other_keyword {word = word} i j) =
        let same : codes "machine" ≡ word = cc in no_both (has_head word form) (ap (λ w. has_head w form) (sym same) ∙ keyword) j
    own k (too_few l) = omega (arith, l, enough)

    clear_1 : ClearBefore whole form 1
    clear_1 = clear_skip whole form 0 refl (clear_0 whole form)

    pub slots_fault : (low high : ℕ) → Stands low high form → (place : ℕ) (kind : Kind) → First roles.slots second place kind → First whole form place kind
    slots_fault low high h place kind first = part_first whole form low high h own 1 second roles.slots place kind g1 refl clear_1 first

    module _ (slots : List Slot) (slots_read : AreSlotsRead second slots) (third : Form) (g2 : slice_get (parts_of form) 2 ≡ Some third) where
      clear_2 : ClearBefore whole form 2
      clear_2 = clear_next whole form 1 second roles.slots g1 refl slots_read.clear clear_1

      pub cross_fault : (low high : ℕ) → Stands low high form → (place : ℕ) (kind : Kind) → First roles.cross third place kind → First whole form place kind
      cross_fault low high h place kind first = part_first whole form low high h own 2 third roles.cross place kind g2 refl clear_2 first

      pub clear_3 : IsClearTableForm roles.cross third → ClearBefore whole form 3
      clear_3 cross_clear = clear_next whole form 2 third roles.cross g2 refl cross_clear clear_2

      slots_are : slots_in_form form ≡ slot_names slots
      slots_are =
          ap (λ o. option_map_or (λ f. slots_in (drop 1 (parts_of f))) o []) g1
          ∙ ap (λ f. slots_in (drop 1 (parts_of f))) slots_read.is.is
          ∙ ap slots_in (list_from slots_read.forms)
          ∙ slots_written slots_read.forms slots slots_read.written

      module _ (i : ℕ) (written : List (List Use)) (uses : List Use) (l : 3 ≤ i) (each : Each (WritesOps slots) (between 3 i (parts_of form)) written) (is : joined written ≡ uses) where
        role_from : (j : ℕ) → 3 ≤ j → named_in_all (between 3 j (parts_of form)) ≡ names_of_uses uses → table_part_role whole form j ≡ Some (roles.ops (slot_names slots) (names_of_uses uses))
        role_from zero m e = absurd (omega (arith, m))
        role_from (suc zero) m e = absurd (omega (arith, m))
        role_from (suc (suc zero)) m e = absurd (omega (arith, m))
        role_from (suc (suc (suc j))) m e =
            ap₂ (λ s ns. Some (roles.ops s ns)) slots_are (ap named_in_all (sym (between_3 j (parts_of form))) ∙ e)

        ops_role : table_part_role whole form i ≡ Some (roles.ops (slot_names slots) (names_of_uses uses))
        ops_role = role_from i l (all_named slots (between 3 i (parts_of form)) written each ∙ ap names_of_uses is)

        module _ (part : Form) (g : slice_get (parts_of form) i ≡ Some part) where
          pub ops_fault : (low high : ℕ) → Stands low high form → ClearBefore whole form i → (place : ℕ) (kind : Kind) → First (roles.ops (slot_names slots) (names_of_uses uses)) part place kind → First whole form place kind
          ops_fault low high h clear place kind first = part_first whole form low high h own i part _ place kind g ops_role clear first

          module _ (after : List Use) (read : AreOpsRead slots uses part after) where
            pub each_next : Each (WritesOps slots) (between 3 (i + 1) (parts_of form)) (written ++ read.added ∷ [])
            each_next =
                each_forms (WritesOps slots) _ _ _ (sym (between_more 3 (parts_of form) i part l g))
                (each_push (WritesOps slots) (between 3 i (parts_of form)) written part read.added each read.written)

            pub joined_next : joined (written ++ read.added ∷ []) ≡ after
            joined_next = joined_push written read.added ∙ ap (λ us. us ++ read.added) is ∙ sym read.is

            pub ops_clear_next : ClearBefore whole form i → ClearBefore whole form (i + 1)
            ops_clear_next clear = clear_next whole form i part _ g ops_role read.clear clear

        module _ (cross : ℕ) (cross_read : IsCrossRead third cross) (are : AreUses slots uses) (sorted : List Use) (moved : IsPermutation uses sorted) (rise : DontFall sorted) where
          abbrev pub the_table : Table
          the_table = record { slots = slots; cross = cross; uses = sorted }

          use_within : (u : Use) → IsUseOf slots u → IsUse the_table u
          use_within u h = record { latency = h.latency; some = h.some; exist = h.numbers.exist; once = h.numbers.once }

          pub table_is : IsTable the_table
          table_is = record {
            slots = (slots_read.some, slots_read.differ.few);
            clusters = slots_read.differ.clusters;
            names = slots_read.differ.names;
            cross = cross_read.below;
            uses = λ k d m. use_within _ (All-permutation (IsUseOf slots) uses sorted moved are.each k d m);
            order = in_order uses sorted are.once moved rise;
          }

          pub table_written : length (parts_of form) ≤ i → WritesTable form the_table
          table_written most = record {
            slots_form = second;
            slot_forms = slots_read.forms;
            cross_form = third;
            delay_form = cross_read.delay_form;
            ops_forms = drop 3 (parts_of form);
            written = written;
            is = subst (λ fs. IsListOf (codes "machine") fs form) (three_parts (parts_of form) second third enough g1 g2) (headed (codes "machine") form keyword);
            slots_is = slots_read.is;
            slots = slots_read.written;
            cross_is = cross_read.is;
            cross = cross_read.number;
            ops = each_forms (WritesOps slots) _ _ written (ap (drop 3) (take_all i (parts_of form) most)) each;
            uses = subst (λ us. IsPermutation us sorted) (sym is) moved;
            well_formed = table_is;
          }

      pub machine_clear : (i : ℕ) → length (parts_of form) ≤ i → ClearBefore whole form i → IsClearTableForm whole form
      machine_clear i most clear = all_clear whole form i own most clear

      pub no_ops : Each (WritesOps slots) (between 3 3 (parts_of form)) []
      no_ops = each_forms (WritesOps slots) _ _ [] (sym (none_between (parts_of form))) none

pub no_uses : (slots : List Slot) → AreUses slots []
no_uses slots = record { each = λ k d l. absurd (omega (arith, l)); once = λ i j d l m. absurd (omega (arith, m)) }
