-- A form that is read as a slot of a machine form, and one that is read as its delay: the first fault, and the value.
use Rattle.std.proofs.Common.{◌≡◌, ℕ, ◌<◌, ◌≤◌, true, false, None, Some, List, [], ◌∷◌, length, drop, refl, sym, ap, ◌∙◌, subst, arith, slice_get, codes}
use Rattle.std.specs.Option.{option_and_then}
use Rattle.forms.proofs.First.{first_own}
use Rattle.forms.specs.Forms.{Form, Stands, list, place_of, parts_of, forms_from, name_in}
use Rattle.machine_table.proofs.Leaves.{First, form_first, no_some, same_some, no_both, slot_name_clear}
use Rattle.machine_table.proofs.Parts.{ClearBefore, clear_0, clear_next, clear_skip, all_clear, part_first, extra_first, name_is, headed}
use Rattle.machine_table.specs.Grammar.{IsNumberOf, IsListOf}
use Rattle.machine_table.specs.Reading.{IsClearTableForm, IsSlotRead, IsCrossRead}
use Rattle.machine_table.specs.Roles as roles
use Rattle.text_core.specs.Names.{is_among}
use Rattle.machine_table.specs.Roles.{IsOwnTableFault, table_part_role, first_name, has_head, other_keyword, too_few, no_slot_name, slot_again}
use Rattle.machine_table.specs.Tables.{slot_of}
use Rattle.text_core.specs.Faults.{fault_number}
use Rattle.text_core.specs.declared.faults.Kind.{Kind}
use Rattle.text_core.specs.declared.faults.Kind.TheVariants.{BadForm, BadSlot}

two_parts : {X : Type 0} (xs : List X) (a b : X) → length xs ≤ 2 → slice_get xs 0 ≡ Some a → slice_get xs 1 ≡ Some b → xs ≡ a ∷ b ∷ []
two_parts [] a b l g e = cc
two_parts (x ∷ []) a b l g e = cc
two_parts (x ∷ (y ∷ [])) a b l g e =
    let one : x ≡ a = cc in
    let two : y ≡ b = cc in
    ap (λ z. z ∷ y ∷ []) one ∙ ap (λ z. a ∷ z ∷ []) two
two_parts (x ∷ (y ∷ (z ∷ zs))) a b l g e = absurd (omega (arith, l))

module _ (before : List (List ℕ)) (form : Form) (low high : ℕ) (h : Stands low high form) where
  pub short_first : length (parts_of form) < 2 → First (roles.slot before) form (place_of form) BadForm
  short_first l = form_first form low high h (roles.slot before) (too_few l)

  module _ (first : Form) (g : slice_get (parts_of form) 0 ≡ Some first) (enough : 2 ≤ length (parts_of form)) where
    named_first : first_name form ≡ name_in first
    named_first = ap (option_and_then name_in) g

    own_unnamed : name_in first ≡ None → (k : Kind) → IsOwnTableFault (roles.slot before) form k → ⊥
    own_unnamed e k (other_keyword i j) = cc
    own_unnamed e k (too_few l) = omega (arith, l, enough)
    own_unnamed e k (slot_again {name = other} i j) = no_some (first_name form) other i (named_first ∙ e)

    pub unnamed_first : (from to : ℕ) → Stands from to first → name_in first ≡ None → First (roles.slot before) form (place_of first) BadForm
    unnamed_first from to s e =
        part_first (roles.slot before) form low high h (own_unnamed e) 0 first roles.slot_name (place_of first) BadForm g refl
        (clear_0 (roles.slot before) form) (form_first first from to s roles.slot_name (no_slot_name e))

    module _ (bytes : List ℕ) (named : name_in first ≡ Some bytes) where
      again_least : (k : Kind) → IsOwnTableFault (roles.slot before) form k → 14 ≤ fault_number k
      again_least k (other_keyword i j) = cc
      again_least k (too_few l) = absurd (omega (arith, l, enough))
      again_least k (slot_again i j) = omega arith

      pub again_first : is_among before bytes ≡ true → First (roles.slot before) form (place_of form) BadSlot
      again_first e = first_own IsOwnTableFault table_part_role (roles.slot before) form low high BadSlot h (slot_again (named_first ∙ named) e) again_least

      module _ (fresh : is_among before bytes ≡ false) (second : Form) (g1 : slice_get (parts_of form) 1 ≡ Some second) where
        own : (k : Kind) → IsOwnTableFault (roles.slot before) form k → ⊥
        own k (other_keyword i j) = cc
        own k (too_few l) = omega (arith, l, enough)
        own k (slot_again {name = other} i j) =
            no_both (is_among before bytes) (ap (is_among before) (same_some (first_name form) bytes other (named_first ∙ named) i) ∙ j) fresh

        clear_1 : ClearBefore (roles.slot before) form 1
        clear_1 = clear_next (roles.slot before) form 0 first roles.slot_name g refl (slot_name_clear first bytes named) (clear_0 (roles.slot before) form)

        pub cluster_fault : (place : ℕ) (kind : Kind) → First roles.cluster second place kind → First (roles.slot before) form place kind
        cluster_fault place kind first_is = part_first (roles.slot before) form low high h own 1 second roles.cluster place kind g1 refl clear_1 first_is

        module _ (clear : IsClearTableForm roles.cluster second) where
          clear_2 : ClearBefore (roles.slot before) form 2
          clear_2 = clear_next (roles.slot before) form 1 second roles.cluster g1 refl clear clear_1

          pub third_first : (third : Form) (from to : ℕ) → Stands from to third → slice_get (parts_of form) 2 ≡ Some third → First (roles.slot before) form (place_of third) BadForm
          third_first third from to s g2 = extra_first (roles.slot before) form low high h own 2 third from to s g2 refl clear_2

          pub slot_read : (p : ℕ) (n : List ℕ) (k : ℕ) → form ≡ list p (forms_from (parts_of form)) → length (parts_of form) ≤ 2 → n ≡ bytes → IsNumberOf k second → k ≤ 3
              → IsSlotRead before form (slot_of n k)
          slot_read p n k is most same number below = record {
            writes = record {
              place = p;
              first = first;
              second = second;
              is = is ∙ ap (λ fs. list p (forms_from fs)) (two_parts (parts_of form) first second most g g1);
              named = name_is first n (named ∙ ap Some (sym same));
              placed = number;
            };
            fresh = ap (is_among before) same ∙ fresh;
            cluster = below;
            clear = all_clear (roles.slot before) form 2 own most clear_2;
          }

-- ---- the delay
drop_two : {X : Type 0} (xs : List X) (b : X) → length xs ≤ 2 → slice_get xs 1 ≡ Some b → drop 1 xs ≡ b ∷ []
drop_two [] b l e = cc
drop_two (x ∷ []) b l e = cc
drop_two (x ∷ (y ∷ [])) b l e = let two : y ≡ b = cc in ap (λ z. z ∷ []) two
drop_two (x ∷ (y ∷ (z ∷ zs))) b l e = absurd (omega (arith, l))

module _ (form : Form) (low high : ℕ) (h : Stands low high form) where
  pub no_cross_first : has_head (codes "cross") form ≡ false → First roles.cross form (place_of form) BadForm
  no_cross_first e = form_first form low high h roles.cross (other_keyword refl e)

  pub short_cross_first : length (parts_of form) < 2 → First roles.cross form (place_of form) BadForm
  short_cross_first l = form_first form low high h roles.cross (too_few l)

  module _ (keyword : has_head (codes "cross") form ≡ true) (enough : 2 ≤ length (parts_of form)) (second : Form) (g : slice_get (parts_of form) 1 ≡ Some second) where
    cross_own : (k : Kind) → IsOwnTableFault roles.cross form k → ⊥
    cross_own k (other_keyword {word = word} i j) = let same : codes "cross" ≡ word = cc in no_both (has_head word form) (ap (λ w. has_head w form) (sym same) ∙ keyword) j
    cross_own k (too_few l) = omega (arith, l, enough)

    cross_clear_1 : ClearBefore roles.cross form 1
    cross_clear_1 = clear_skip roles.cross form 0 refl (clear_0 roles.cross form)

    pub delay_fault : (place : ℕ) (kind : Kind) → First roles.delay second place kind → First roles.cross form place kind
    delay_fault place kind first_is = part_first roles.cross form low high h cross_own 1 second roles.delay place kind g refl cross_clear_1 first_is

    module _ (clear : IsClearTableForm roles.delay second) where
      cross_clear_2 : ClearBefore roles.cross form 2
      cross_clear_2 = clear_next roles.cross form 1 second roles.delay g refl clear cross_clear_1

      pub cross_third_first : (third : Form) (from to : ℕ) → Stands from to third → slice_get (parts_of form) 2 ≡ Some third → First roles.cross form (place_of third) BadForm
      cross_third_first third from to s g2 = extra_first roles.cross form low high h cross_own 2 third from to s g2 refl cross_clear_2

      pub cross_read : (n : ℕ) → length (parts_of form) ≤ 2 → IsNumberOf n second → n ≤ 4 → IsCrossRead form n
      cross_read n most number below = record {
        delay_form = second;
        is = subst (λ fs. IsListOf (codes "cross") fs form) (drop_two (parts_of form) second most g) (headed (codes "cross") form keyword);
        number = number;
        below = below;
        clear = all_clear roles.cross form 2 cross_own most cross_clear_2;
      }
