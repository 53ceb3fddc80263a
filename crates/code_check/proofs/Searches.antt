-- Searches in lists, and lists of forms with their items.
use Rattle.std.proofs.Common.{◌≡◌, ◌≢◌, ℕ, zero, suc, ◌+◌, ◌<◌, ◌≤◌, if◌then◌else◌, Bool, true, false, Option, None, Some, List, [], ◌∷◌, length, map, take, drop, get_or, find, option_map, refl, sym, ap, ◌∙◌, subst, arith, slice_get, inl, inr}
use Rattle.std.specs.Prelude.{AllPairs}
use Rattle.std.specs.List.{list_any}
use Rattle.std.proofs.lemmas.Bool.{cases_Bool, cases_order, or_parts}
use Rattle.std.proofs.lemmas.List.{drop_all, drop_more}
use Rattle.std.proofs.lemmas.Option.{get_or_from_slice_get, same_Some, slice_get-get_or, slice_get-map, slice_get_within}
use Rattle.forms.specs.Forms as forms
use Rattle.forms.specs.Forms.{Form, Forms, atom, list, none, more, name, parts_of, forms_list, forms_from, head_in, is_list}
use Rattle.std.specs.Option.{option_map_or}
use Rattle.std.proofs.lemmas.Slice.Eq.{bytes_eq-Decides}
use Rattle.std.specs.Prelude.{bytes_eq}
use Rattle.machine_table.specs.Grammar.{Each, more_of, IsListOf}
use Rattle.code_check.specs.CodeReading.{IsFoundAt}
use Rattle.code_check.specs.CodeRoles.{has_head}
use Rattle.code_check.proofs.FormLists.{list_from}

-- ---- the first so many items

pub take_short : {X : Type 0} (n : ℕ) (xs : List X) → length (take n xs) ≤ length xs
take_short zero xs = omega arith
take_short (suc n) [] = omega arith
take_short (suc n) (x ∷ xs) = (let l = take_short n xs in omega (arith, l))

take_least : {X : Type 0} (n : ℕ) (xs : List X) → length (take n xs) ≤ n
take_least zero xs = omega arith
take_least (suc n) [] = omega arith
take_least (suc n) (x ∷ xs) = (let l = take_least n xs in omega (arith, l))

pub few_taken : {X : Type 0} (n : ℕ) (xs : List X) (count : ℕ) → count ≡ length (take n xs) → n ≤ 64 → count ≤ 64
few_taken n xs count e l = (let t = take_least n xs in omega (arith, e, l, t))

-- ---- items of different keys

pub one_place : {X : Type 0} (key : X → List ℕ) (xs : List X) → AllPairs (λ x y. key x ≢ key y) xs → (i j : ℕ) (x y : X) → slice_get xs i ≡ Some x → slice_get xs j ≡ Some y → key x ≡ key y → i ≡ j
one_place key xs pairs i j x y g h e = elim (cases_order i j) [
  | inl same ↦ same
  | inr (inl before) ↦ absurd (apart i j x y before g h e)
  | inr (inr after) ↦ absurd (apart j i y x after h g (sym e))
]
  where
    apart : (a b : ℕ) (v w : _) → a < b → slice_get xs a ≡ Some v → slice_get xs b ≡ Some w → key v ≡ key w → ⊥
    apart a b v w l k m f =
        pairs a b v l (slice_get_within xs b w m)
        (ap key (get_or_from_slice_get xs a v v k) ∙ f ∙ sym (ap key (get_or_from_slice_get xs b w v m)))

-- ---- the first item that passes

module _ {X : Type 0} (p : X → Bool) where
  pub find_here : (x : X) (xs : List X) → p x ≡ true → find p (x ∷ xs) ≡ Some x
  find_here x xs e = ap (λ b. if b then Some x else find p xs) e

  pub find_later : (x : X) (xs : List X) → p x ≡ false → find p (x ∷ xs) ≡ find p xs
  find_later x xs e = ap (λ b. if b then Some x else find p xs) e

  -- where none is found, none passes
  pub find_none : (xs : List X) (i : ℕ) (x : X) → find p xs ≡ None → slice_get xs i ≡ Some x → p x ≡ true → ⊥
  find_none [] i x e g t = cc
  find_none (y ∷ ys) zero x e g t = (let same : y ≡ x = cc in let f : Some y ≡ None = sym (find_here y ys (ap p same ∙ t)) ∙ e in cc)
  find_none (y ∷ ys) (suc i) x e g t = elim (cases_Bool (p y)) [
    | inl s ↦ (let f : Some y ≡ None = sym (find_here y ys s) ∙ e in cc)
    | inr f ↦ find_none ys i x (sym (find_later y ys f) ∙ e) g t
  ]

  -- what is found passes, and is an item
  pub find_some : (xs : List X) (x : X) → find p xs ≡ Some x → (p x ≡ true) × (i : ℕ) × (slice_get xs i ≡ Some x)
  find_some [] x e = cc
  find_some (y ∷ ys) x e = elim (cases_Bool (p y)) [
    | inl t ↦ (let same : y ≡ x = same_Some y x (sym (find_here y ys t) ∙ e) in (ap p (sym same) ∙ t, 0, ap Some same))
    | inr f ↦ (let rest = find_some ys x (sym (find_later y ys f) ∙ e) in (rest.0, suc rest.1, rest.2))
  ]

  module _ (key : X → List ℕ) (by_key : (x y : X) → p x ≡ true → p y ≡ true → key x ≡ key y) where
    -- items of different keys: one that passes is the one that is found
    pub found_alone : (xs : List X) → AllPairs (λ x y. key x ≢ key y) xs → (i : ℕ) (x : X) → slice_get xs i ≡ Some x → p x ≡ true → find p xs ≡ Some x
    found_alone xs pairs i x g t = by_found (find p xs) refl
      where
        by_found : (o : Option X) → find p xs ≡ o → o ≡ Some x
        by_found None e = absurd (find_none xs i x e g t)
        by_found (Some y) e =
            let found = find_some xs y e in
            let place = one_place key xs pairs found.1 i y x found.2 g (by_key y x found.0 t) in
            sym found.2 ∙ ap (slice_get xs) place ∙ g

-- none passes
pub none_there : {X : Type 0} (p : X → Bool) (xs : List X) (i : ℕ) (x : X) → list_any p xs ≡ false → slice_get xs i ≡ Some x → p x ≡ false
none_there p [] i x e g = cc
none_there p (y ∷ ys) zero x e g = (let same : y ≡ x = cc in ap p (sym same) ∙ (or_parts (p y) (list_any p ys) e).0)
none_there p (y ∷ ys) (suc i) x e g = none_there p ys i x (or_parts (p y) (list_any p ys) e).1 g

-- ---- forms and their items

module _ {Y : Type 0} (W : Form → Y → Type 0) where
  pub each_form : (fs : List Form) (ys : List Y) → Each W fs ys → (k : ℕ) (y : Y) → slice_get ys k ≡ Some y → (f : Form) × (slice_get fs k ≡ Some f) × W f y
  each_form [] [] e k y g = cc
  each_form [] (z ∷ zs) e k y g = elim e [ ]
  each_form (f ∷ fs) [] e k y g = elim e [ ]
  each_form (f ∷ fs) (z ∷ zs) (more_of one others) zero y g = (let same : z ≡ y = cc in (f, refl, subst (W f) same one))
  each_form (f ∷ fs) (z ∷ zs) (more_of one others) (suc k) y g = each_form fs zs others k y g

  pub each_item : (fs : List Form) (ys : List Y) → Each W fs ys → (k : ℕ) (f : Form) → slice_get fs k ≡ Some f → (y : Y) × (slice_get ys k ≡ Some y) × W f y
  each_item [] [] e k f g = cc
  each_item [] (z ∷ zs) e k f g = elim e [ ]
  each_item (h ∷ fs) [] e k f g = elim e [ ]
  each_item (h ∷ fs) (z ∷ zs) (more_of one others) zero f g = (let same : h ≡ f = cc in (z, refl, subst (λ (x : Form). W x z) same one))
  each_item (h ∷ fs) (z ∷ zs) (more_of one others) (suc k) f g = each_item fs zs others k f g

-- ---- lists behind a keyword

forms_back : (fs : Forms) → forms_from (forms_list fs) ≡ fs
forms_back none = refl
forms_back (more f fs) = ap (more f) (forms_back fs)

no_head : (word : List ℕ) (form : Form) → head_in form ≡ None → has_head word form ≡ true → ⊥
no_head word form n h = (let e : false ≡ true = sym (ap (λ o. option_map_or (bytes_eq word) o false) n) ∙ h in cc)

-- a list with this keyword is the keyword and its other parts
pub listed_of : (word : List ℕ) (form : Form) → has_head word form ≡ true → IsListOf word (drop 1 (parts_of form)) form
listed_of word (list p (more (atom q (name w)) rest)) h =
    let same : word ≡ w = (bytes_eq-Decides word w).0 h in
    record {
      place = p;
      head_place = q;
      is = ap (λ v. list p (more (atom q (name v)) rest)) (sym same) ∙ ap (λ fs. list p (more (atom q (name word)) fs)) (sym (forms_back rest));
    }
listed_of word (atom p a) h = absurd (no_head word (atom p a) refl h)
listed_of word (list p none) h = absurd (no_head word (list p none) refl h)
listed_of word (list p (more (atom q (forms.register w)) rest)) h = absurd (no_head word (list p (more (atom q (forms.register w)) rest)) refl h)
listed_of word (list p (more (atom q (forms.number w)) rest)) h = absurd (no_head word (list p (more (atom q (forms.number w)) rest)) refl h)
listed_of word (list p (more (atom q forms.parenthesis) rest)) h = absurd (no_head word (list p (more (atom q forms.parenthesis) rest)) refl h)
listed_of word (list p (more (list q ps) rest)) h = absurd (no_head word (list p (more (list q ps) rest)) refl h)

-- it is a list
pub listed_head : (word : List ℕ) (form : Form) → has_head word form ≡ true → is_list form ≡ false → ⊥
listed_head word form h e = (let f : true ≡ false = sym (ap is_list (listed_of word form h).is) ∙ e in cc)

-- and the other way round
pub keyword_told : (word : List ℕ) (parts : List Form) (form : Form) → IsListOf word parts form → has_head word form ≡ true
keyword_told word parts form is = ap (has_head word) is.is ∙ (bytes_eq-Decides word word).1 refl

pub others_told : (word : List ℕ) (parts : List Form) (form : Form) → IsListOf word parts form → drop 1 (parts_of form) ≡ parts
others_told word parts form is = ap (λ (f : Form). drop 1 (parts_of f)) is.is ∙ list_from parts

pub two_behind : (xs : List Form) (a b : Form) → slice_get xs 1 ≡ Some a → slice_get xs 2 ≡ Some b → drop 1 xs ≡ a ∷ b ∷ drop 3 xs
two_behind [] a b g h = cc
two_behind (x ∷ []) a b g h = cc
two_behind (x ∷ y ∷ []) a b g h = cc
two_behind (x ∷ y ∷ z ∷ zs) a b g h = (let first : y ≡ a = cc in let second : z ≡ b = cc in ap (λ (v : Form). v ∷ z ∷ zs) first ∙ ap (λ (v : Form). a ∷ v ∷ zs) second)

pub just_two : (xs : List Form) (a b : Form) → slice_get xs 1 ≡ Some a → slice_get xs 2 ≡ Some b → length xs ≤ 3 → drop 1 xs ≡ a ∷ b ∷ []
just_two xs a b g h l = two_behind xs a b g h ∙ ap (λ zs. a ∷ b ∷ zs) (drop_all 3 xs l)

-- ---- a search that has come to item i

module _ {X V : Type 0} (p : V → Bool) (view : X → V) (xs : List X) where
  abbrev pub found_of : ℕ → Option V
  found_of i = find p (map view (drop i xs))

  pub none_left : (i : ℕ) → length xs ≤ i → find p (map view xs) ≡ found_of i → find p (map view xs) ≡ None
  none_left i l e = e ∙ ap (λ ys. find p (map view ys)) (drop_all i xs l)

  module _ (i : ℕ) (x : X) (l : i < length xs) (is : x ≡ get_or xs i x) (so_far : find p (map view xs) ≡ found_of i) where
    dropped : drop i xs ≡ x ∷ drop (i + 1) xs
    dropped = drop_more xs i x l ∙ ap (λ y. y ∷ drop (i + 1) xs) (sym is)

    pub found_here : p (view x) ≡ true → IsFoundAt (find p (map view xs)) (map view xs) i
    found_here t = record {
      item = view x;
      is = so_far ∙ ap (λ ys. find p (map view ys)) dropped ∙ find_here p (view x) (map view (drop (i + 1) xs)) t;
      there = slice_get-map view xs i ∙ ap (option_map view) (slice_get-get_or xs i x l ∙ ap Some (sym is));
    }

    pub not_here : p (view x) ≡ false → find p (map view xs) ≡ found_of (i + 1)
    not_here f = so_far ∙ ap (λ ys. find p (map view ys)) dropped ∙ find_later p (view x) (map view (drop (i + 1) xs)) f
