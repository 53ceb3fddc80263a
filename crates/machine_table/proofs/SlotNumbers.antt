-- Slots by their names and by their numbers.
use Rattle.std.proofs.Common.{◌≡◌, ℕ, zero, suc, ◌<◌, ◌||◌, Bool, true, false, Some, List, [], ◌∷◌, All, length, get_or, refl, sym, ap, ap₂, ◌∙◌, arith, slice_get, bytes_eq}
use Rattle.std.specs.Prelude.{◌==◌}
use Rattle.std.specs.List.{list_any}
use Rattle.std.proofs.lemmas.Bool.Decides.{Decides-eqb}
use Rattle.std.proofs.lemmas.Slice.Eq.{bytes_eq-Decides}
use Rattle.forms.specs.Forms.{Form, name_in, name}
use Rattle.forms.specs.Printing as plain
use Rattle.machine_table.proofs.Leaves.{used_clear}
use Rattle.machine_table.proofs.Once.{number_once}
use Rattle.machine_table.proofs.Parts.{got_within, name_is}
use Rattle.machine_table.specs.Reading.{slot_names, name_at, slot_names_used, AreSlots, AreSlotNumbers, IsNameAt, IsUsedRead}
use Rattle.text_core.specs.Names.{is_among}
use Rattle.machine_table.specs.declared.tables.Slot.{Slot}

same_bytes : (a b : List ℕ) → a ≡ b → bytes_eq a b ≡ true
same_bytes a b e = (bytes_eq-Decides a b).1 e

or_true : (b : Bool) → b || true ≡ true
or_true true = refl
or_true false = refl

both_ways : (a b : Bool) → (a ≡ true → b ≡ true) → (b ≡ true → a ≡ true) → a ≡ b
both_ways true b f g = sym (f refl)
both_ways false true f g = g refl
both_ways false false f g = refl

pub name_at_is : (slots : List Slot) (at : ℕ) (slot : Slot) → slice_get slots at ≡ Some slot → name_at slots at ≡ slot.name
name_at_is [] at slot g = cc
name_at_is (s ∷ ss) zero slot g = let same : s ≡ slot = cc in ap (λ (x : Slot). x.name) same
name_at_is (s ∷ ss) (suc at) slot g = name_at_is ss at slot g

pub at_among : (slots : List Slot) (at : ℕ) (slot : Slot) → slice_get slots at ≡ Some slot → is_among (slot_names slots) slot.name ≡ true
at_among [] at slot g = cc
at_among (s ∷ ss) zero slot g =
    let same : s ≡ slot = cc in
    ap (λ b. b || is_among (slot_names ss) slot.name) (same_bytes s.name slot.name (ap (λ (x : Slot). x.name) same))
at_among (s ∷ ss) (suc at) slot g = ap (λ b. bytes_eq s.name slot.name || b) (at_among ss at slot g) ∙ or_true (bytes_eq s.name slot.name)

pub no_numbers : (slots : List Slot) → AreSlotNumbers slots []
no_numbers slots = record { exist = λ k d l. absurd (omega (arith, l)); once = λ i j d l m. absurd (omega (arith, m)) }

-- a number that is used has its name among those used
pub used_among : (slots : List Slot) (used : List ℕ) (k d at : ℕ) → k < length used → get_or used k d ≡ at → is_among (slot_names_used slots used) (name_at slots at) ≡ true
used_among slots [] k d at l e = absurd (omega (arith, l))
used_among slots (u ∷ us) zero d at l e =
    ap (λ b. b || is_among (slot_names_used slots us) (name_at slots at)) (same_bytes (name_at slots u) (name_at slots at) (ap (name_at slots) e))
used_among slots (u ∷ us) (suc k) d at l e =
    ap (λ b. bytes_eq (name_at slots u) (name_at slots at) || b) (used_among slots us k d at (omega (arith, l)) e)
    ∙ or_true (bytes_eq (name_at slots u) (name_at slots at))

module _ (slots : List Slot) (are : AreSlots slots) where
  named_once : (i j : ℕ) → i < length slots → j < length slots → name_at slots i ≡ name_at slots j → i ≡ j
  named_once i j l m e = number_once slots are.names i j l m (ap (λ n. plain.atom (name n)) e)

  -- the name of a slot is among those of the slots of these numbers where its number is among these
  pub among_is : (used : List ℕ) (at : ℕ) (bytes : List ℕ) → All (λ s. s < length slots) used → at < length slots → name_at slots at ≡ bytes
      → is_among (slot_names_used slots used) bytes ≡ list_any (λ y. y == at) used
  among_is [] at bytes exist l e = refl
  among_is (u ∷ us) at bytes exist l e =
      let here : bytes_eq (name_at slots u) bytes ≡ (u == at) =
      both_ways (bytes_eq (name_at slots u) bytes) (u == at)
      (λ t. (Decides-eqb u at).1 (named_once u at (exist 0 0 (omega arith)) l ((bytes_eq-Decides (name_at slots u) bytes).0 t ∙ sym e)))
      (λ t. same_bytes (name_at slots u) bytes (ap (name_at slots) ((Decides-eqb u at).0 t) ∙ e)) in
      let rest = among_is us at bytes (λ k d m. exist (suc k) d (omega (arith, m))) l e in
      ap₂ (λ a b. a || b) here rest

  module _ (used : List ℕ) (numbers : AreSlotNumbers slots used) (form : Form) (bytes : List ℕ) (named : name_in form ≡ Some bytes) (at : ℕ) (is : IsNameAt slots bytes at) where
    at_is : name_at slots at ≡ bytes
    at_is = name_at_is slots at is.slot is.found ∙ is.named

    pub used_is : is_among (slot_names_used slots used) bytes ≡ list_any (λ y. y == at) used
    used_is = among_is used at bytes numbers.exist (got_within slots at is.slot is.found) at_is

    pub used_read : list_any (λ y. y == at) used ≡ false → IsUsedRead slots used form at
    used_read not =
        let fresh = used_is ∙ not in
        record {
          named = record { slot = is.slot; found = is.found; named = name_is form is.slot.name (named ∙ ap Some (sym is.named)) };
          fresh = ap (is_among (slot_names_used slots used)) at_is ∙ fresh;
          clear = used_clear form bytes named (slot_names slots) (slot_names_used slots used) (ap (is_among (slot_names slots)) (sym is.named) ∙ at_among slots at is.slot is.found) fresh;
        }
