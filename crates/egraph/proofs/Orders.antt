-- The rows in the order of their keys in a list.
use Rattle.std.proofs.Common.{◌≡◌, ℕ, zero, suc, ◌<◌, ◌≤◌, ◌⊎◌, List, [], ◌∷◌, map, length, get_or, slice_get, filter, filter_map, Contains, All, Option, Some, None, IsSome, is_some, true≢false, Bool, if◌then◌else◌, refl, sym, ap, ◌∙◌, subst, inl, inr, arith}
use Rattle.std.specs.Option.{option_map}
use Rattle.std.specs.List.{cons_option}
use Rattle.slab.specs.Slab.{Slab, get}
use Rattle.slab.proofs.SlabLemmas.{Contains-cons, Contains-cons_cases}
use Rattle.egraph.specs.declared.rows.Row.{Row}
use Rattle.egraph.specs.Tables.{rows_in, EachBecomes}

module _ {X Y : Type 0} (h : X → Option Y) where
  has_by : (z x : X) (xs : List X) (y : Y) (o : Option Y) → h z ≡ o → h x ≡ Some y → (Contains xs x → Contains (filter_map h xs) y) → (z ≡ x) ⊎ Contains xs x → Contains (cons_option o (filter_map h xs)) y
  has_by z x xs y None f e later (inl same) = (let g : None ≡ Some y = sym f ∙ ap h same ∙ e in absurd (cc))
  has_by z x xs y None f e later (inr rest) = later rest
  has_by z x xs y (Some w) f e later (inl same) = (let g : Some w ≡ Some y = sym f ∙ ap h same ∙ e in (0, omega arith, cc))
  has_by z x xs y (Some w) f e later (inr rest) = Contains-cons w y (filter_map h xs) (later rest)

  pub filter_map_has : (xs : List X) (x : X) (y : Y) → Contains xs x → h x ≡ Some y → Contains (filter_map h xs) y
  filter_map_has [] x y c e = absurd (omega (arith, c.1))
  filter_map_has (z ∷ xs) x y c e = has_by z x xs y (h z) refl e (λ r. filter_map_has xs x y r e) (Contains-cons_cases z x xs c)

  from_by : (z : X) (xs : List X) (y : Y) (o : Option Y) → h z ≡ o → (Contains (filter_map h xs) y → (x : X) × Contains xs x × (h x ≡ Some y)) → Contains (cons_option o (filter_map h xs)) y → (x : X) × Contains (z ∷ xs) x × (h x ≡ Some y)
  from_by z xs y None f later d = let r = later d in (r.0, Contains-cons z r.0 xs r.1, r.2)
  from_by z xs y (Some w) f later d = elim (Contains-cons_cases w y (filter_map h xs) d) [
    | inl same ↦ (z, (0, omega arith, refl), f ∙ ap Some same)
    | inr rest ↦ (let r = later rest in (r.0, Contains-cons z r.0 xs r.1, r.2))
  ]

  pub filter_map_from : (xs : List X) (y : Y) → Contains (filter_map h xs) y → (x : X) × Contains xs x × (h x ≡ Some y)
  filter_map_from [] y c = absurd (omega (arith, c.1))
  filter_map_from (z ∷ xs) y c = from_by z xs y (h z) refl (filter_map_from xs y) c

tail_all : {X : Type 0} (P : X → Type 0) (x : X) (xs : List X) → All P (x ∷ xs) → All P xs
tail_all P x xs all k d l = all (suc k) d (omega arith)

module _ {O : Type 0} (rows : Slab (Row O)) where
  abbrev pub AllHeld : List ℕ → Type 0
  AllHeld order = All (λ place. IsSome (get rows place)) order

  length_by : (order : List ℕ) (o : Option (Row O)) → IsSome o → length (rows_in rows order) ≡ length order → length (cons_option o (rows_in rows order)) ≡ suc (length order)
  length_by order None some later = absurd (true≢false (sym some))
  length_by order (Some r) some later = ap suc later

  -- where each key has a row, the row at a place is that of the key there
  pub rows_length : (order : List ℕ) → AllHeld order → length (rows_in rows order) ≡ length order
  rows_length [] all = refl
  rows_length (k ∷ order) all = length_by order (get rows k) (all 0 k (omega arith)) (rows_length order (tail_all (λ place. IsSome (get rows place)) k order all))

  row_by : (k : ℕ) (order : List ℕ) (o : Option (Row O)) → IsSome o → get rows k ≡ o →
      ((at : ℕ) → at < length order → slice_get (rows_in rows order) at ≡ get rows (get_or order at 0)) →
      (at : ℕ) → at < suc (length order) → slice_get (cons_option o (rows_in rows order)) at ≡ get rows (get_or (k ∷ order) at 0)
  row_by k order None some e later at l = absurd (true≢false (sym some))
  row_by k order (Some r) some e later zero l = sym e
  row_by k order (Some r) some e later (suc at) l = later at (omega arith)

  pub row_of : (order : List ℕ) → AllHeld order → (at : ℕ) → at < length order → slice_get (rows_in rows order) at ≡ get rows (get_or order at 0)
  row_of [] all at l = absurd (omega arith)
  row_of (k ∷ order) all at l = row_by k order (get rows k) (all 0 k (omega arith)) refl (row_of order (tail_all (λ place. IsSome (get rows place)) k order all)) at l

-- the same rows under the keys of the list
pub rows_same : {O : Type 0} (rows rows' : Slab (Row O)) (order : List ℕ) → ((k : ℕ) → Contains order k → get rows' k ≡ get rows k) → rows_in rows' order ≡ rows_in rows order
rows_same rows rows' [] same = refl
rows_same rows rows' (k ∷ order) same =
    (λ i. cons_option (same k (0, omega arith, refl) i) (rows_same rows rows' order (λ j c. same j (Contains-cons k j order c)) i))

mapped_by : {O : Type 0} (F : Row O → Row O) (xs ys : List (Row O)) (o : Option (Row O)) → xs ≡ map F ys → cons_option (option_map F o) xs ≡ map F (cons_option o ys)
mapped_by F xs ys None e = e
mapped_by F xs ys (Some r) e = ap (λ zs. F r ∷ zs) e

pub rows_mapped : {O : Type 0} (F : Row O → Row O) (rows rows' : Slab (Row O)) → EachBecomes F rows rows' → (order : List ℕ) → rows_in rows' order ≡ map F (rows_in rows order)
rows_mapped F rows rows' each [] = refl
rows_mapped F rows rows' each (k ∷ order) = ap (λ o. cons_option o (rows_in rows' order)) (each k) ∙ mapped_by F (rows_in rows' order) (rows_in rows order) (get rows k) (rows_mapped F rows rows' each order)

fewer_by : {X : Type 0} (xs ys : List X) (o q : Option X) → (o ≡ None) ⊎ (o ≡ q) → length xs ≤ length ys → length (cons_option o xs) ≤ length (cons_option q ys)
fewer_by xs ys None None h l = l
fewer_by xs ys None (Some r) h l = omega (arith, l)
fewer_by xs ys (Some r) None h l = absurd (elim h [ inl e ↦ cc | inr e ↦ cc ])
fewer_by xs ys (Some r) (Some t) h l = omega (arith, l)

-- fewer rows under the same keys
pub rows_fewer : {O : Type 0} (rows rows' : Slab (Row O)) → ((k : ℕ) → (get rows' k ≡ None) ⊎ (get rows' k ≡ get rows k)) → (order : List ℕ) → length (rows_in rows' order) ≤ length (rows_in rows order)
rows_fewer rows rows' fewer [] = omega arith
rows_fewer rows rows' fewer (k ∷ order) = fewer_by (rows_in rows' order) (rows_in rows order) (get rows' k) (get rows k) (fewer k) (rows_fewer rows rows' fewer order)

abbrev held : {O : Type 0} → Slab (Row O) → ℕ → Bool
held rows k = is_some (get rows k)

kept_by : {O : Type 0} (rows : Slab (Row O)) (k : ℕ) (order : List ℕ) (o : Option (Row O)) → get rows k ≡ o → rows_in rows (filter (held rows) order) ≡ rows_in rows order →
    rows_in rows (if is_some o then k ∷ filter (held rows) order else filter (held rows) order) ≡ cons_option o (rows_in rows order)
kept_by rows k order None e later = later
kept_by rows k order (Some r) e later = ap (λ o. cons_option o (rows_in rows (filter (held rows) order))) e ∙ ap (λ xs. r ∷ xs) later

-- keys without a row may go
pub rows_kept : {O : Type 0} (rows : Slab (Row O)) (order : List ℕ) → rows_in rows (filter (held rows) order) ≡ rows_in rows order
rows_kept rows [] = refl
rows_kept rows (k ∷ order) = kept_by rows k order (get rows k) refl (rows_kept rows order)

all_by : {O : Type 0} (rows : Slab (Row O)) (k : ℕ) (order : List ℕ) (o : Option (Row O)) → get rows k ≡ o → AllHeld rows (filter (held rows) order) → AllHeld rows (if is_some o then k ∷ filter (held rows) order else filter (held rows) order)
all_by rows k order None e later n d l = later n d l
all_by rows k order (Some r) e later zero d l = subst IsSome (sym e) refl
all_by rows k order (Some r) e later (suc n) d l = later n d (omega arith)

pub all_held : {O : Type 0} (rows : Slab (Row O)) (order : List ℕ) → AllHeld rows (filter (held rows) order)
all_held rows [] n d l = absurd (omega arith)
all_held rows (k ∷ order) n d l = all_by rows k order (get rows k) refl (all_held rows order) n d l

stay_by : {O : Type 0} (rows : Slab (Row O)) (k : ℕ) (order : List ℕ) (o : Option (Row O)) → IsSome o → filter (held rows) order ≡ order → (if is_some o then k ∷ filter (held rows) order else filter (held rows) order) ≡ k ∷ order
stay_by rows k order None some later = absurd (true≢false (sym some))
stay_by rows k order (Some r) some later = ap (λ xs. k ∷ xs) later

-- where each key has a row, none goes
pub all_stay : {O : Type 0} (rows : Slab (Row O)) (order : List ℕ) → AllHeld rows order → filter (held rows) order ≡ order
all_stay rows [] all = refl
all_stay rows (k ∷ order) all = stay_by rows k order (get rows k) (all 0 k (omega arith)) (all_stay rows order (tail_all (λ place. IsSome (get rows place)) k order all))

still_by : {O : Type 0} (rows : Slab (Row O)) (k x : ℕ) (order : List ℕ) (r : Row O) → get rows x ≡ Some r → (o : Option (Row O)) → get rows k ≡ o → (Contains order x → Contains (filter (held rows) order) x) → (k ≡ x) ⊎ Contains order x →
    Contains (if is_some o then k ∷ filter (held rows) order else filter (held rows) order) x
still_by rows k x order r e None f later (inl same) = (let g : None ≡ Some r = sym f ∙ ap (get rows) same ∙ e in absurd (cc))
still_by rows k x order r e None f later (inr rest) = later rest
still_by rows k x order r e (Some t) f later (inl same) = (0, omega arith, same)
still_by rows k x order r e (Some t) f later (inr rest) = Contains-cons k x (filter (held rows) order) (later rest)

pub still_listed : {O : Type 0} (rows : Slab (Row O)) (order : List ℕ) (x : ℕ) (r : Row O) → get rows x ≡ Some r → Contains order x → Contains (filter (held rows) order) x
still_listed rows [] x r e c = absurd (omega (arith, c.1))
still_listed rows (k ∷ order) x r e c = still_by rows k x order r e (get rows k) refl (still_listed rows order x r e) (Contains-cons_cases k x order c)
