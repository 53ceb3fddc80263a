-- The places of a code, one after the other.
use Rattle.std.proofs.Common.{◌≡◌, ◌≢◌, ℕ, zero, suc, ◌+◌, ◌<◌, ◌≤◌, ◌||◌, ◌&&◌, if◌then◌else◌, true, false, Option, None, Some, List, [], ◌∷◌, length, map, take, get_or, nat_le, bytes_eq, codes, refl, sym, ap, ◌∙◌, subst, arith, slice_get, inl, inr, ◌⊎◌}
use Rattle.std.specs.Prelude.{AllPairs, Contains, not}
use Rattle.std.specs.List.{cons_option}
use Rattle.std.specs.Option.{option_map_or}
use Rattle.std.proofs.lemmas.Bool.{and_cases, and_from, and_parts, cases_Bool, cases_order, false_from_ne_true, not-false, not-true, not_from_false, or_cases, or_right}
use Rattle.std.proofs.lemmas.Bool.Decides.{nat_tests}
use Rattle.std.proofs.lemmas.List.{length-map}
use Rattle.std.proofs.lemmas.List.Elements.{Contains-get_or}
use Rattle.std.proofs.lemmas.Option.{get_or_from_slice_get, same_Some, slice_get-get_or, slice_get_within}
use Rattle.std.proofs.lemmas.Slice.Eq.{bytes_eq-Decides}
use Rattle.text_core.specs.Names.{is_among}
use Rattle.text_core.specs.declared.faults.Kind.{Kind}
use Rattle.text_core.specs.declared.faults.Kind.TheVariants.{BadForm, Twice}
use Rattle.forms.specs.Faults.{own}
use Rattle.forms.specs.Forms.{Form, atom, list, place_of, parts_of, name_in, register_in, is_list, Stands}
use Rattle.machine_table.specs.Grammar.{Each, IsListOf}
use Rattle.goal_meaning.specs.Outcomes.{is_memory}
use Rattle.goal_meaning.specs.Views.{TargetTree, target_view}
use Rattle.goal_meaning.specs.declared.goals.Set.{Set}
use Rattle.goal_reader.specs.Roles.{second_name, ◌>>=◌}
use Rattle.goal_reader.specs.Grammar.{IsRegister}
use Rattle.code_check.specs.CodeGrammar.{WritesPlace}
use Rattle.code_check.specs.CodeReading.{ArePlacesClear, IsClearCode, IsFirstCodeFault, IsFreshTarget}
use Rattle.code_check.specs.CodeRoles.{CodeRole, a_place, target_name, a_register, wrong, short_place, target_given, wrong_part, place_role, has_head, target_in, targets_named, word_named, is_word_named, pin_named, has_no_place, lacks_place}
use Rattle.code_check.specs.Codes.{ArePlaces, IsWordTarget, is_other}
use Rattle.code_check.specs.declared.codes.At.{At}
use Rattle.code_check.proofs.FormLists.{is_name, register_low}
use Rattle.code_check.proofs.Growing.{ClearParts, HasNone, all_clear, clear_next, clear_silent, clear_zero, part_clear, part_first}
use Rattle.code_check.proofs.Leaves.{form_first, register_clear, target_clear}
use Rattle.code_check.proofs.Searches.{each_form, each_item, find_some, found_alone, just_two, keyword_told, listed_of, none_there, one_place as same_place}

-- ---- a name among those of places

-- a name among those of a form and others is that of the form, or among those of the others
among_split : (o : Option (List ℕ)) (others : List (List ℕ)) (bytes : List ℕ) → is_among (cons_option o others) bytes ≡ true → (o ≡ Some bytes) ⊎ (is_among others bytes ≡ true)
among_split None others bytes e = inr e
among_split (Some one) others bytes e = elim (or_cases (bytes_eq one bytes) (is_among others bytes) e) [
  | inl t ↦ inl (ap Some ((bytes_eq-Decides one bytes).0 t))
  | inr h ↦ inr h
]

among_first : (o : Option (List ℕ)) (others : List (List ℕ)) (bytes : List ℕ) → o ≡ Some bytes → is_among (cons_option o others) bytes ≡ true
among_first o others bytes e =
    ap (λ x. is_among (cons_option x others) bytes) e ∙ ap (λ b. b || is_among others bytes) ((bytes_eq-Decides bytes bytes).1 refl)

among_later : (o : Option (List ℕ)) (others : List (List ℕ)) (bytes : List ℕ) → is_among others bytes ≡ true → is_among (cons_option o others) bytes ≡ true
among_later None others bytes e = e
among_later (Some one) others bytes e = or_right (bytes_eq one bytes) (is_among others bytes) e

pub among_more : (o : Option (List ℕ)) (others : List (List ℕ)) (bytes : List ℕ)
    → is_among (cons_option o others) bytes ≡ (option_map_or (λ other. bytes_eq other bytes) o false || is_among others bytes)
among_more None others bytes = refl
among_more (Some one) others bytes = refl

among_before : (forms : List Form) (k j : ℕ) (form : Form) (bytes : List ℕ) → slice_get forms k ≡ Some form → target_in form ≡ Some bytes → k < j → is_among (targets_named (take j forms)) bytes ≡ true
among_before [] k j form bytes g e l = cc
among_before (f ∷ fs) k zero form bytes g e l = absurd (omega (arith, l))
among_before (f ∷ fs) zero (suc j) form bytes g e l = (let same : f ≡ form = cc in among_first (target_in f) (targets_named (take j fs)) bytes (ap target_in same ∙ e))
among_before (f ∷ fs) (suc k) (suc j) form bytes g e l = among_later (target_in f) (targets_named (take j fs)) bytes (among_before fs k j form bytes g e (omega (arith, l)))

-- a name that is among those of forms is that of one of them
among_some : (forms : List Form) (bytes : List ℕ) → is_among (targets_named forms) bytes ≡ true → (k : ℕ) × (form : Form) × (slice_get forms k ≡ Some form) × (target_in form ≡ Some bytes)
among_some [] bytes e = cc
among_some (f ∷ fs) bytes e = elim (among_split (target_in f) (targets_named fs) bytes e) [
  | inl is ↦ (0, f, refl, is)
  | inr rest ↦ (let r = among_some fs bytes rest in (suc r.0, r.1, r.2, r.3))
]

-- ---- the list of one place

module _ (sets : List TargetTree) (given : List (List ℕ)) (form : Form) where
  abbrev one_place : CodeRole
  one_place = a_place sets given

  pub place_own : 3 ≤ length (parts_of form) → HasNone one_place form
  place_own enough k (short_place l) = absurd (omega (arith, enough, l))

  pub short_first : (low high : ℕ) → Stands low high form → length (parts_of form) < 3 → IsFirstCodeFault one_place form (place_of form) BadForm
  short_first low high h l = form_first one_place form low high h (short_place l)

  -- the keyword isn't examined
  keyword_clear : ClearParts one_place form 1
  keyword_clear = clear_silent one_place form 0 refl (clear_zero one_place form)

  module _ (first : Form) (g : slice_get (parts_of form) 1 ≡ Some first) where
    pub name_first : (low high place : ℕ) (kind : Kind) → Stands low high form → 3 ≤ length (parts_of form) → IsFirstCodeFault (target_name sets given) first place kind → IsFirstCodeFault one_place form place kind
    name_first low high place kind h enough one = part_first one_place form low high 1 first (target_name sets given) place kind h (place_own enough) g refl keyword_clear one

    name_clear : IsClearCode (target_name sets given) first → ClearParts one_place form 2
    name_clear clear = clear_next one_place form 1 first (target_name sets given) g refl clear keyword_clear

    module _ (second : Form) (g2 : slice_get (parts_of form) 2 ≡ Some second) (before : IsClearCode (target_name sets given) first) where
      pub register_first : (low high place : ℕ) (kind : Kind) → Stands low high form → 3 ≤ length (parts_of form) → IsFirstCodeFault (a_register (pin_named sets form)) second place kind → IsFirstCodeFault one_place form place kind
      register_first low high place kind h enough one =
          part_first one_place form low high 2 second (a_register (pin_named sets form)) place kind h (place_own enough) g2 refl (name_clear before) one

      module _ (clear : IsClearCode (a_register (pin_named sets form)) second) where
        both_clear : ClearParts one_place form 3
        both_clear = clear_next one_place form 2 second (a_register (pin_named sets form)) g2 refl clear (name_clear before)

        pub third_first : (low high : ℕ) (third : Form) (from to : ℕ) → Stands low high form → Stands from to third → slice_get (parts_of form) 3 ≡ Some third → 3 ≤ length (parts_of form) → IsFirstCodeFault one_place form (place_of third) BadForm
        third_first low high third from to h s g3 enough =
            part_first one_place form low high 3 third wrong (place_of third) BadForm h (place_own enough) g3 refl both_clear
            (form_first wrong third from to s wrong_part)

        pub place_clear : 3 ≤ length (parts_of form) → length (parts_of form) ≤ 3 → IsClearCode one_place form
        place_clear enough most = all_clear one_place form 3 (place_own enough) most both_clear

pub at_role : (sets : List TargetTree) (before : List Form) (form : Form) → has_head (codes "at") form ≡ true → place_role sets before form ≡ a_place sets (targets_named before)
at_role sets before form e = ap (λ b. if b then a_place sets (targets_named before) else wrong) e

pub other_role : (sets : List TargetTree) (before : List Form) (form : Form) → has_head (codes "at") form ≡ false → place_role sets before form ≡ wrong
other_role sets before form e = ap (λ b. if b then a_place sets (targets_named before) else wrong) e

-- a form that is no list of a place, or lacks a part, has BadForm and nothing else
pub short_role_first : (sets : List TargetTree) (before : List Form) (form : Form) (low high : ℕ) → Stands low high form → (length (parts_of form) < 3) ⊎ (has_head (codes "at") form ≡ false) → IsFirstCodeFault (place_role sets before form) form (place_of form) BadForm
short_role_first sets before form low high h short = elim (cases_Bool (has_head (codes "at") form)) [
  | inr f ↦ subst (λ (r : CodeRole). IsFirstCodeFault r form (place_of form) BadForm) (sym (other_role sets before form f)) (form_first wrong form low high h wrong_part)
  | inl t ↦ elim short [
    | inl l ↦ subst (λ (r : CodeRole). IsFirstCodeFault r form (place_of form) BadForm) (sym (at_role sets before form t)) (short_first sets (targets_named before) form low high h l)
    | inr f ↦ (let e : true ≡ false = sym t ∙ f in absurd cc)
  ]
]

pub second_told : (form first : Form) (bytes : List ℕ) → slice_get (parts_of form) 1 ≡ Some first → name_in first ≡ Some bytes → second_name form ≡ Some bytes
second_told form first bytes g n = ap (λ o. o >>= name_in) g ∙ n

pub pin_told : (sets : List TargetTree) (form : Form) (bytes : List ℕ) (t : TargetTree) → second_name form ≡ Some bytes → word_named sets bytes ≡ Some t → pin_named sets form ≡ t.pin
pin_told sets form bytes t e f =
    ap (λ o. option_map_or (λ (x : TargetTree). x.pin) (option_map_or (word_named sets) o None) None) e
    ∙ ap (λ o. option_map_or (λ (x : TargetTree). x.pin) o None) f

-- ---- what a list of a place writes

module _ (sets : List TargetTree) (form : Form) (p : At) (w : WritesPlace sets form p) where
  parts_are : slice_get (parts_of form) 1 ≡ Some w.first
  parts_are = ap (λ (f : Form). slice_get (parts_of f) 1) w.is.is

  pub target_told : target_in form ≡ Some w.target.name
  target_told =
      ap target_in w.is.is
      ∙ ap (λ b. if b && true then name_in w.first else None) ((bytes_eq-Decides (codes "at") (codes "at")).1 refl)
      ∙ ap name_in w.named.is

  -- a target of its name that is a word is the one that is written
  word_is : (t : TargetTree) → is_word_named w.target.name t ≡ true → t.name ≡ w.target.name
  word_is t e = (bytes_eq-Decides t.name w.target.name).0 (and_parts (not (is_memory t)) (bytes_eq t.name w.target.name) e).1

  pub target_found : AllPairs (λ (s t : TargetTree). s.name ≢ t.name) sets → word_named sets w.target.name ≡ Some w.target
  target_found pairs =
      found_alone (is_word_named w.target.name) (λ (t : TargetTree). t.name) (λ s t a b. word_is s a ∙ sym (word_is t b)) sets pairs p.set w.target w.there
      (and_from (not (is_memory w.target)) (bytes_eq w.target.name w.target.name) (not_from_false (is_memory w.target) w.is_word) ((bytes_eq-Decides w.target.name w.target.name).1 refl))

  -- behind places of other targets it has no fault
  pub written_clear : (before : List Form) → AllPairs (λ (s t : TargetTree). s.name ≢ t.name) sets → is_among (targets_named before) w.target.name ≡ false → IsClearCode (place_role sets before form) form
  written_clear before pairs fresh =
      let found = target_found pairs in
      let count : length (parts_of form) ≡ 3 = ap (λ (f : Form). length (parts_of f)) w.is.is in
      let pin : w.target.pin ≡ pin_named sets form = sym (pin_told sets form w.target.name w.target (second_told form w.first w.target.name parts_are (ap name_in w.named.is)) found) in
      let register : IsClearCode (a_register (pin_named sets form)) w.second =
      subst (λ (o : Option ℕ). IsClearCode (a_register o) w.second) pin
      (register_clear w.target.pin w.second w.placed.bytes p.reg (ap register_in w.placed.is) w.placed.number w.pinned) in
      subst (λ (r : CodeRole). IsClearCode r form) (sym (at_role sets before form (keyword_told (codes "at") _ form w.is)))
      (place_clear sets (targets_named before) form w.first parts_are w.second (ap (λ (f : Form). slice_get (parts_of f) 2) w.is.is)
      (target_clear sets (targets_named before) w.first w.target.name w.target (ap name_in w.named.is) found fresh) register (omega (arith, count)) (omega (arith, count)))

-- ---- all places of a code

pub none_clear : (sets : List TargetTree) (forms : List Form) → ArePlacesClear sets forms 0
none_clear sets forms k form l = absurd (omega (arith, l))

pub one_more_clear : (sets : List TargetTree) (forms : List Form) (i : ℕ) (form : Form) → slice_get forms i ≡ Some form → IsClearCode (place_role sets (take i forms) form) form → ArePlacesClear sets forms i → ArePlacesClear sets forms (i + 1)
one_more_clear sets forms i form g is clear k other l h = elim (cases_order k i) [
  | inl same ↦
      (let items : Some form ≡ Some other = sym g ∙ ap (slice_get forms) (sym same) ∙ h in
      let form_is : form ≡ other = same_Some form other items in
      subst (λ n. IsClearCode (place_role sets (take n forms) other) other) (sym same) (subst (λ (f : Form). IsClearCode (place_role sets (take i forms) f) f) form_is is))
  | inr (inl before) ↦ clear k other before h
  | inr (inr after) ↦ absurd (omega (arith, l, after))
]

module _ (sets : List TargetTree) (pairs : AllPairs (λ (s t : TargetTree). s.name ≢ t.name) sets) (forms : List Form) (places : List At) (each : Each (WritesPlace sets) forms places)
    (lacks : lacks_place sets forms ≡ false) (fresh : (k : ℕ) (form : Form) (bytes : List ℕ) → slice_get forms k ≡ Some form → target_in form ≡ Some bytes → is_among (targets_named (take k forms)) bytes ≡ false) where
  record IsWritten (k : ℕ) (p : At) : Type 0 where
    pub form : Form
    pub there : slice_get forms k ≡ Some form
    pub writes : WritesPlace sets form p

  written : (k : ℕ) (d : At) → k < length places → IsWritten k (get_or places k d)
  written k d l = (let f = each_form (WritesPlace sets) forms places each k (get_or places k d) (slice_get-get_or places k d l) in record { form = f.0; there = f.1; writes = f.2 })

  -- two places of one target would have one name
  apart : (i j : ℕ) (d : At) → i < j → j < length places → (get_or places i d).set ≢ (get_or places j d).set
  apart i j d l m e =
      let a = written i d (omega (arith, l, m)) in
      let b = written j d m in
      let s = a.writes in
      let t = b.writes in
      let same : s.target ≡ t.target = same_Some s.target t.target (sym s.there ∙ ap (slice_get sets) e ∙ t.there) in
      let told : target_in a.form ≡ Some t.target.name = target_told sets a.form (get_or places i d) s ∙ ap (λ (x : TargetTree). Some x.name) same in
      let yes = among_before forms i j a.form t.target.name a.there told l in
      let no = fresh j b.form t.target.name b.there (target_told sets b.form (get_or places j d) t) in
      let f : true ≡ false = sym yes ∙ no in
      cc

  at_back : (p : At) → record { set = p.set; reg = p.reg } ≡ p
  at_back p = refl

  has_place : (i : ℕ) → IsWordTarget sets i → (reg : ℕ) × Contains places (record { set = i; reg = reg })
  has_place i h =
      let t = h.target in
      let none : has_no_place forms t ≡ false = none_there (has_no_place forms) sets i t lacks h.there in
      let named : is_among (targets_named forms) t.name ≡ true = elim (and_cases (not (is_memory t)) (not (is_among (targets_named forms) t.name)) none) [
        | inl f ↦ (let g : true ≡ false = sym (not_from_false (is_memory t) h.is_word) ∙ f in absurd cc)
        | inr f ↦ not-false (is_among (targets_named forms) t.name) f
      ] in
      let some = among_some forms t.name named in
      let item = each_item (WritesPlace sets) forms places each some.0 some.1 some.2 in
      let p = item.0 in
      let w = item.2 in
      let names : w.target.name ≡ t.name = same_Some w.target.name t.name (sym (target_told sets some.1 p w) ∙ some.3) in
      let place : p.set ≡ i = same_place (λ (x : TargetTree). x.name) sets pairs p.set i w.target t w.there h.there names in
      let l = slice_get_within places some.0 p item.1 in
      let among : Contains places p = subst (Contains places) (get_or_from_slice_get places some.0 p p item.1) (Contains-get_or places some.0 p l) in
      (p.reg, subst (λ n. Contains places (record { set = n; reg = p.reg })) place (subst (Contains places) (sym (at_back p)) among))

  pub are_places : ArePlaces sets places
  are_places = record {
    targets = λ k d l. (let w = (written k d l).writes in record { target = w.target; there = w.there; is_word = w.is_word });
    each = has_place;
    differ = apart;
    low = λ k d l. (let w = (written k d l).writes in register_low w.placed.bytes (get_or places k d).reg w.placed.number);
    pinned = λ k d l t g.
        let w = (written k d l).writes in
        subst (λ (x : TargetTree). is_other x.pin (get_or places k d).reg ≡ false) (same_Some w.target t (sym w.there ∙ g)) w.pinned;
  }

-- a place without a fault is of a target that none before is of
pub fresh_told : (sets : List TargetTree) (before : List Form) (form : Form) (p : At) (w : WritesPlace sets form p) → IsClearCode (place_role sets before form) form → is_among (targets_named before) w.target.name ≡ false
fresh_told sets before form p w clear =
    let given = targets_named before in
    let role = at_role sets before form (keyword_told (codes "at") (w.first ∷ w.second ∷ []) form w.is) in
    let whole : IsClearCode (a_place sets given) form = subst (λ (r : CodeRole). IsClearCode r form) role clear in
    let name : IsClearCode (target_name sets given) w.first =
    part_clear (a_place sets given) (target_name sets given) form w.first 1 whole (ap (λ (f : Form). slice_get (parts_of f) 1) w.is.is) refl in
    false_from_ne_true (is_among given w.target.name) (λ t. name (place_of w.first) Twice (own (target_given (ap name_in w.named.is) t) refl))

pub all_fresh : (sets : List TargetTree) (forms : List Form) (places : List At) → Each (WritesPlace sets) forms places → ArePlacesClear sets forms (length forms)
    → (k : ℕ) (form : Form) (bytes : List ℕ) → slice_get forms k ≡ Some form → target_in form ≡ Some bytes → is_among (targets_named (take k forms)) bytes ≡ false
all_fresh sets forms places each clear k form bytes g e =
    let item = each_item (WritesPlace sets) forms places each k form g in
    let w = item.2 in
    let name : w.target.name ≡ bytes = same_Some w.target.name bytes (sym (target_told sets form item.0 w) ∙ e) in
    subst (λ n. is_among (targets_named (take k forms)) n ≡ false) name
    (fresh_told sets (take k forms) form item.0 w (clear k form (slice_get_within forms k form g) g))

-- ---- as the grammar needs them

-- a name among those of the first so many forms is that of one of these
pub among_at : (forms : List Form) (n : ℕ) (bytes : List ℕ) → is_among (targets_named (take n forms)) bytes ≡ true → (j : ℕ) × (form : Form) × (j < n) × (slice_get forms j ≡ Some form) × (target_in form ≡ Some bytes)
among_at forms zero bytes e = cc
among_at [] (suc n) bytes e = cc
among_at (f ∷ fs) (suc n) bytes e = elim (among_split (target_in f) (targets_named (take n fs)) bytes e) [
  | inl is ↦ (0, f, omega arith, refl, is)
  | inr rest ↦ (let r = among_at fs n bytes rest in let l = r.2 in (suc r.0, r.1, omega (arith, l), r.3, r.4))
]

-- the name of a form is among those of all
pub among_found : (forms : List Form) (k : ℕ) (form : Form) (bytes : List ℕ) → slice_get forms k ≡ Some form → target_in form ≡ Some bytes → is_among (targets_named forms) bytes ≡ true
among_found [] k form bytes g e = cc
among_found (f ∷ fs) zero form bytes g e = (let same : f ≡ form = cc in among_first (target_in f) (targets_named fs) bytes (ap target_in same ∙ e))
among_found (f ∷ fs) (suc k) form bytes g e = among_later (target_in f) (targets_named fs) bytes (among_found fs k form bytes g e)

-- ---- one place, as it is read

-- the target that is found is a word and has the name
pub word_item : (sets : List TargetTree) (bytes : List ℕ) (t : TargetTree) → word_named sets bytes ≡ Some t → (is_memory t ≡ false) × (t.name ≡ bytes)
word_item sets bytes t e =
    let both = and_parts (not (is_memory t)) (bytes_eq t.name bytes) (find_some (is_word_named bytes) sets t e).0 in
    (not-true (is_memory t) both.0, (bytes_eq-Decides t.name bytes).0 both.1)

module _ (sets : List TargetTree) (before : List Form) (form first second : Form) (g1 : slice_get (parts_of form) 1 ≡ Some first) (g2 : slice_get (parts_of form) 2 ≡ Some second) (p : At) (fresh : IsFreshTarget sets before first p.set) where
  pub fresh_clear : IsClearCode (target_name sets (targets_named before)) first
  fresh_clear = target_clear sets (targets_named before) first fresh.bytes fresh.found.item fresh.named fresh.found.is fresh.fresh

  pub fresh_pin : (t : TargetTree) → slice_get sets p.set ≡ Some t → pin_named sets form ≡ t.pin
  fresh_pin t g =
      pin_told sets form fresh.bytes fresh.found.item (second_told form first fresh.bytes g1 fresh.named) fresh.found.is
      ∙ ap (λ (x : TargetTree). x.pin) (same_Some fresh.found.item t (sym fresh.found.there ∙ g))

  module _ (t : TargetTree) (there : slice_get sets p.set ≡ Some t) (placed : IsRegister p.reg second) (pinned : is_other t.pin p.reg ≡ false) where
    pub register_is_clear : IsClearCode (a_register (pin_named sets form)) second
    register_is_clear = subst (λ (o : Option ℕ). IsClearCode (a_register o) second) (sym (fresh_pin t there))
        (register_clear t.pin second placed.bytes p.reg (ap register_in placed.is) placed.number pinned)

    pub place_writes : has_head (codes "at") form ≡ true → length (parts_of form) ≤ 3 → WritesPlace sets form p
    place_writes head most =
        let item = word_item sets fresh.bytes fresh.found.item fresh.found.is in
        let same : fresh.found.item ≡ t = same_Some fresh.found.item t (sym fresh.found.there ∙ there) in
        let name : t.name ≡ fresh.bytes = ap (λ (x : TargetTree). x.name) (sym same) ∙ item.1 in
        record {
          first = first;
          second = second;
          is = subst (λ fs. IsListOf (codes "at") fs form) (just_two (parts_of form) first second g1 g2 most) (listed_of (codes "at") form head);
          target = t;
          there = there;
          is_word = ap is_memory (sym same) ∙ item.0;
          named = is_name first t.name (fresh.named ∙ ap Some (sym name));
          placed = placed;
          pinned = pinned;
        }

    pub place_is_clear : has_head (codes "at") form ≡ true → 3 ≤ length (parts_of form) → length (parts_of form) ≤ 3 → IsClearCode (place_role sets before form) form
    place_is_clear head enough most = subst (λ (r : CodeRole). IsClearCode r form) (sym (at_role sets before form head))
        (place_clear sets (targets_named before) form first g1 second g2 fresh_clear register_is_clear enough most)

pub no_three : (form : Form) → is_list form ≡ false → length (parts_of form) < 3
no_three (atom p a) e = omega arith
no_three (list p ps) e = cc

pub low_target : (sets : List Set) (i : ℕ) (t : TargetTree) → slice_get (map target_view sets) i ≡ Some t → i < length sets
low_target sets i t g = (let l = slice_get_within (map target_view sets) i t g in let n = length-map sets target_view in omega (arith, l, n))

-- the name in a list of a place that has all its parts
pub target_is : (form first : Form) → has_head (codes "at") form ≡ true → 3 ≤ length (parts_of form) → slice_get (parts_of form) 1 ≡ Some first → target_in form ≡ name_in first
target_is form first head enough g =
    let t : nat_le 3 (length (parts_of form)) ≡ true = grind (arith, nat_tests, enough) in
    ap (λ b. if b then second_name form else None) (and_from (has_head (codes "at") form) (nat_le 3 (length (parts_of form))) head t) ∙ ap (λ o. o >>= name_in) g
