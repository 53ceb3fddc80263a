-- The parts of a set, and that a set without a fault is written as the grammar has it.
use Rattle.std.proofs.Common.{◌≡◌, ℕ, ◌<◌, if◌then◌else◌, Bool, true, false, Option, None, Some, List, [], ◌∷◌, refl, sym, ap, ◌∙◌, subst, arith, slice_get, bytes_eq, codes}
use Rattle.std.specs.Prelude.{is_some}
use Rattle.std.specs.Option.{option_map_or}
use Rattle.word_terms.specs.View.{tree_of}
use Rattle.text_core.specs.declared.faults.Kind.TheVariants.{BadForm, LimitPassed}
use Rattle.forms.specs.Forms.{Form, Forms, atom, list, none, more, name, place_of, parts_of, name_in, register_in}
use Rattle.forms.specs.Faults.{own, inside}
use Rattle.goal_meaning.specs.declared.goals.Set.{Set}
use Rattle.goal_meaning.specs.WellFormed.{sort_of_target}
use Rattle.goal_reader.specs.declared.scopes.Scope.{Scope}
use Rattle.goal_reader.specs.Drafts.{IsTargeted}
use Rattle.goal_reader.specs.Grammar.{WritesPin, pinned, unpinned}
use Rattle.goal_reader.specs.Reading.{IsClear, WritesPart}
use Rattle.goal_reader.specs.Roles as roles
use Rattle.goal_reader.specs.Roles.{Role, a_list, wrong, wrong_part, too_few, fresh_name, fresh_register, listed_role, set_roles, pin_role, rank, goal_keywords, is_pinned, pin_in, value_part, register_of, register_number, second_name, shape_part, ◌>>=◌}
use Rattle.goal_reader.proofs.ItemForms.{keyworded, no_part, term_at, writes_as, is_name, is_register, register_known_by}

-- the name has its role whether the set is pinned or not
pub name_role : (scope : Scope) (names : List (List ℕ)) (taken : List ℕ) (form : Form) (b : Bool) → listed_role (set_roles scope names taken form b) 1 ≡ Some (fresh_name names)
name_role scope names taken form true = refl
name_role scope names taken form false = refl

-- the parts behind the keyword of a set without a fault
pub data SetParts : Forms → Type 0 where
  plain_parts : (a b : Form) → register_in b ≡ None → SetParts (more a (more b none))
  pinned_parts : (a b c : Form) (bytes : List ℕ) → register_in b ≡ Some bytes → SetParts (more a (more b (more c none)))

module _ (scope : Scope) (names : List (List ℕ)) (taken : List ℕ) (p : ℕ) (h : Form) where
  abbrev as_set : Role
  as_set = a_list (roles.set scope names taken)

  abbrev set_of : Forms → Form
  set_of rest = list p (more h rest)

  -- a part that the grammar doesn't have where the third part is a register, or is none
  no_such_part : (at : ℕ) (a b : Form) (rest : Forms) (part : Form) (o : Option (List ℕ)) → register_in b ≡ o → IsClear as_set (set_of (more a (more b rest))) → slice_get (parts_of (set_of (more a (more b rest)))) at ≡ Some part
      → listed_role (set_roles scope names taken (set_of (more a (more b rest))) (is_some o)) at ≡ Some wrong → ⊥
  no_such_part at a b rest part o e clear g role =
      no_part (roles.set scope names taken) p h at (more a (more b rest)) part clear g
      (ap (λ x. listed_role (set_roles scope names taken (set_of (more a (more b rest))) (is_some x)) at) e ∙ role)

  two_parts : (a b : Form) (o : Option (List ℕ)) → register_in b ≡ o → IsClear as_set (set_of (more a (more b none))) → SetParts (more a (more b none))
  two_parts a b None e clear = plain_parts a b e
  two_parts a b (Some bytes) e clear =
      let l : 3 < 4 = omega arith in
      absurd (clear p BadForm (own (too_few (subst (λ x. 3 < (if is_some x then 4 else 3)) (sym e) l)) refl))

  three_parts : (a b c : Form) (o : Option (List ℕ)) → register_in b ≡ o → IsClear as_set (set_of (more a (more b (more c none)))) → SetParts (more a (more b (more c none)))
  three_parts a b c None e clear = absurd (no_such_part 3 a b (more c none) c None e clear refl refl)
  three_parts a b c (Some bytes) e clear = pinned_parts a b c bytes e

  four_parts : (a b c d : Form) (rest : Forms) (o : Option (List ℕ)) → register_in b ≡ o → IsClear as_set (set_of (more a (more b (more c (more d rest))))) → ⊥
  four_parts a b c d rest None e clear = no_such_part 3 a b (more c (more d rest)) c None e clear refl refl
  four_parts a b c d rest (Some bytes) e clear = no_such_part 4 a b (more c (more d rest)) d (Some bytes) e clear refl refl

  set_parts : (rest : Forms) → IsClear as_set (set_of rest) → SetParts rest
  set_parts none clear = let l : 1 < 3 = omega arith in absurd (clear p BadForm (own (too_few l) refl))
  set_parts (more a none) clear = let l : 2 < 3 = omega arith in absurd (clear p BadForm (own (too_few l) refl))
  set_parts (more a (more b none)) clear = two_parts a b (register_in b) refl clear
  set_parts (more a (more b (more c none))) clear = three_parts a b c (register_in b) refl clear
  set_parts (more a (more b (more c (more d rest)))) clear = absurd (four_parts a b c d rest (register_in b) refl clear)

-- a pin without a fault is a register, and the memory has none
pub pin_known : (taken : List ℕ) (named : Option (List ℕ)) (form : Form) → IsClear (pin_role taken named) form → (option_map_or (λ bytes. bytes_eq bytes (codes "M")) named false ≡ false) × IsClear (fresh_register taken) form
pin_known taken named form clear = by_test (option_map_or (λ bytes. bytes_eq bytes (codes "M")) named false) clear
  where
    by_test : (b : Bool) → IsClear (if b then wrong else fresh_register taken) form → (b ≡ false) × IsClear (fresh_register taken) form
    by_test true c = absurd (c (place_of form) BadForm (own wrong_part refl))
    by_test false c = (refl, c)

-- the role of the pin of a set whose third part is a register
pub pin_role_is : (scope : Scope) (names : List (List ℕ)) (taken : List ℕ) (form : Form) → is_pinned form ≡ true → shape_part (roles.set scope names taken) form 2 ≡ Some (pin_role taken (second_name form))
pin_role_is scope names taken form e = ap (λ b. listed_role (set_roles scope names taken form b) 2) e

module _ (scope : Scope) (names : List (List ℕ)) (taken : List ℕ) (form : Form) (clear : IsClear (a_list (roles.set scope names taken)) form) where
  pub pin_clear : (part : Form) → is_pinned form ≡ true → slice_get (parts_of form) 2 ≡ Some part → IsClear (pin_role taken (second_name form)) part
  pin_clear part e g place kind fault =
      clear place kind (inside 2 part (pin_role taken (second_name form)) (λ o. clear (place_of form) BadForm (own o refl)) (λ o. clear (place_of form) LimitPassed (own o refl)) g (pin_role_is scope names taken form e) fault)

  target_by : (one : Set) (p q : ℕ) (rest : Forms) → form ≡ list p (more (atom q (name (codes "set"))) rest) → SetParts rest → second_name form ≡ Some one.name → pin_in form ≡ one.pin
      → WritesPart scope (Some (sort_of_target one.name)) form (value_part form) (tree_of one.value) → IsTargeted scope form one
  target_by one p q _ whole (plain_parts a b e) named has_pin value =
      let read : name_in a ≡ Some one.name = sym (ap second_name whole) ∙ named in
      let at : value_part form ≡ 2 = ap value_part whole ∙ ap (λ o. if is_some o then 3 else 2) e in
      let found = subst (λ n. WritesPart scope (Some (sort_of_target one.name)) form n (tree_of one.value)) at value in
      let r = term_at scope (Some (sort_of_target one.name)) form b 2 (tree_of one.value) (ap (λ (f : Form). slice_get (parts_of f) 2) whole) found in
      let nothing : None ≡ one.pin = sym (ap pin_in whole ∙ ap (λ o. o >>= register_number) e) ∙ has_pin in
      record {
        first = a;
        pins = [];
        last = b;
        is = record { place = p; head_place = q; is = whole };
        named = is_name a one.name read;
        pin = subst (WritesPin []) nothing unpinned;
        value = writes_as scope r.sort (sort_of_target one.name) b (tree_of one.value) r.wanted_one r.writes;
      }
  target_by one p q _ whole (pinned_parts a b c bytes e) named has_pin value =
      let read : name_in a ≡ Some one.name = sym (ap second_name whole) ∙ named in
      let at : value_part form ≡ 3 = ap value_part whole ∙ ap (λ o. if is_some o then 3 else 2) e in
      let found = subst (λ n. WritesPart scope (Some (sort_of_target one.name)) form n (tree_of one.value)) at value in
      let r = term_at scope (Some (sort_of_target one.name)) form c 3 (tree_of one.value) (ap (λ (f : Form). slice_get (parts_of f) 3) whole) found in
      let there : is_pinned form ≡ true = ap is_pinned whole ∙ ap is_some e in
      let known = register_known_by taken b (register_in b) refl (pin_known taken (second_name form) b (pin_clear b there (ap (λ (f : Form). slice_get (parts_of f) 2) whole))).1 in
      let register : Some known.0 ≡ one.pin = sym (ap pin_in whole ∙ known.1) ∙ has_pin in
      record {
        first = a;
        pins = b ∷ [];
        last = c;
        is = record { place = p; head_place = q; is = whole };
        named = is_name a one.name read;
        pin = subst (WritesPin (b ∷ [])) register (pinned (is_register b known.0 known.1));
        value = writes_as scope r.sort (sort_of_target one.name) c (tree_of one.value) r.wanted_one r.writes;
      }

  pub target_writes : (one : Set) → rank goal_keywords form ≡ Some 5 → second_name form ≡ Some one.name → pin_in form ≡ one.pin
      → WritesPart scope (Some (sort_of_target one.name)) form (value_part form) (tree_of one.value) → IsTargeted scope form one
  target_writes one e named has_pin value =
      let k = keyworded 5 form e in
      let parts = set_parts scope names taken k.place (atom k.head (name (codes "set"))) k.rest (subst (λ (f : Form). IsClear (a_list (roles.set scope names taken)) f) k.is clear) in
      target_by one k.place k.head k.rest k.is parts named has_pin value
