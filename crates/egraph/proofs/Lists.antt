-- Lists: elements of a `map` and after a `remove`.
use Rattle.std.proofs.Common.{◌≡◌, ◌≢◌, ℕ, zero, suc, ◌<◌, ◌+◌, ◌-◌, List, [], ◌∷◌, map, length, get_or, Contains, AllPairs, All, remove, refl, sym, ap, ◌∙◌, inl, inr, ◌⊎◌, arith, if◌then◌else◌}
use Rattle.std.proofs.lemmas.List.{get_or-map, length-map, get_or_default}
use Rattle.std.proofs.lemmas.List.Edits.{length-remove, get_or-remove_below, get_or-remove_above}
use Rattle.std.proofs.lemmas.Bool.{cases_lt}
use Rattle.std.proofs.lemmas.Bool.Decides.{eqb_tells}
use Rattle.egraph.specs.declared.rows.Row.{Row}
use Rattle.egraph.specs.Graph.{Agree}
use Rattle.egraph.specs.Steps.{moved}

pub some_at : {X : Type 0} (xs : List X) (k : ℕ) → k < length xs → (x : X) × (get_or xs k x ≡ x)
some_at [] k h = absurd (omega arith)
some_at (x ∷ xs) zero h = (x, refl)
some_at (x ∷ xs) (suc k) h = some_at xs k (omega arith)

pub contains_map : {X Y : Type 0} (f : X → Y) (xs : List X) (x : X) → Contains xs x → Contains (map f xs) (f x)
contains_map f xs x h = (h.0, omega (arith, length-map xs f, h.1), get_or-map f xs h.0 x (f x) h.1 ∙ ap f h.2)

pub contains_map_back : {X Y : Type 0} (f : X → Y) (xs : List X) (y : Y) → Contains (map f xs) y → (x : X) × Contains xs x × (y ≡ f x)
contains_map_back f xs y h =
    let l : h.0 < length xs = omega (arith, length-map xs f, h.1) in
    let s = some_at xs h.0 l in
    (s.0, (h.0, l, s.1), sym h.2 ∙ get_or-map f xs h.0 s.0 y l ∙ ap f s.1)

pub contains_remove_back : {X : Type 0} (xs : List X) (j : ℕ) (x : X) → j < length xs → Contains (remove xs j) x → Contains xs x
contains_remove_back xs j x l h =
    let n = length-remove xs j l in
    let k = h.0 in
    elim (cases_lt k j) [
      | inl b ↦ (k, omega (arith, h.1), sym (get_or-remove_below xs j x k b l) ∙ h.2)
      | inr b ↦ (k + 1, omega (arith, h.1), sym (get_or-remove_above xs j x k b l) ∙ h.2)
    ]

pub contains_remove : {X : Type 0} (xs : List X) (i j : ℕ) (x : X) → i < j → j < length xs → ((d : X) → get_or xs i d ≡ get_or xs j d) → Contains xs x → Contains (remove xs j) x
contains_remove xs i j x lt l same h =
    let n = length-remove xs j l in
    let k = h.0 in
    elim (cases_lt k j) [
      | inl b ↦ (k, omega (arith, h.1), get_or-remove_below xs j x k b l ∙ h.2)
      | inr b ↦ elim (cases_lt j k) [
        | inl d ↦ (k - 1, omega (arith, h.1), get_or-remove_above xs j x (k - 1) (omega arith) l ∙ ap (λ y. get_or xs y x) (let e : k - 1 + 1 ≡ k = omega arith in e) ∙ h.2)
        | inr d ↦ (i, omega (arith, h.1), get_or-remove_below xs j x i lt l ∙ same x ∙ ap (λ y. get_or xs y x) (let e : j ≡ k = omega arith in e) ∙ h.2)
      ]
    ]

-- two rows of a list without rows that agree are one where they agree
pub one_row : {O : Type 0} (rows : List (Row O)) (r s : Row O) → AllPairs (λ x y. ¬ Agree x y) rows → Contains rows r → Contains rows s → Agree r s → r ≡ s
one_row rows r s apart h k e =
    let f : get_or rows k.0 r ≡ s = get_or_default rows k.0 r s k.1 ∙ k.2 in
    let g : get_or rows h.0 s ≡ r = get_or_default rows h.0 s r h.1 ∙ h.2 in
    elim (cases_lt h.0 k.0) [
      | inl b ↦ absurd (apart h.0 k.0 r b k.1 (rw (h.2, f) e))
      | inr b ↦ elim (cases_lt k.0 h.0) [
        | inl d ↦ absurd (apart k.0 h.0 s d h.1 (rw (k.2, g) (record { op = sym e.op; operands = sym e.operands })))
        | inr d ↦ (let m : h.0 ≡ k.0 = omega arith in sym h.2 ∙ ap (λ y. get_or rows y r) m ∙ f)
      ]
    ]

pub moved_cases : (from to x : ℕ) → ((x ≡ from) × (moved from to x ≡ to)) ⊎ ((x ≢ from) × (moved from to x ≡ x))
moved_cases from to x = elim (eqb_tells x from) [ inl h ↦ inl (h.1, ap (λ b. if b then to else x) h.0) | inr h ↦ inr (h.1, ap (λ b. if b then to else x) h.0) ]

pub moved_to : (from to : ℕ) → moved from to to ≡ to
moved_to from to = elim (moved_cases from to to) [ inl h ↦ h.1 | inr h ↦ h.1 ]

pub at_map : (f : ℕ → ℕ) (now : List ℕ) (x : ℕ) → x < length now → get_or (map f now) x 0 ≡ f (get_or now x 0)
at_map f now x h = get_or-map f now x 0 0 h

pub map_at_same : (f : ℕ → ℕ) (xs : List ℕ) → All (λ x. f x ≡ x) xs → map f xs ≡ xs
map_at_same f [] h = refl
map_at_same f (x ∷ xs) h = let e = h 0 x (omega arith) in let t = map_at_same f xs (λ k d l. h (suc k) d (omega arith)) in cc

pub map_agree : {V : Type 0} (f g : ℕ → V) (xs : List ℕ) → All (λ x. f x ≡ g x) xs → map f xs ≡ map g xs
map_agree f g [] h = refl
map_agree f g (x ∷ xs) h = let e = h 0 x (omega arith) in let t = map_agree f g xs (λ k d l. h (suc k) d (omega arith)) in cc

pub map-map : {V : Type 0} (f : ℕ → V) (g : ℕ → ℕ) (xs : List ℕ) → map f (map g xs) ≡ map (λ x. f (g x)) xs
map-map f g [] = refl
map-map f g (x ∷ xs) = let t = map-map f g xs in cc

pub map_at_each : {V : Type 0} (f : ℕ → V) (xs ys : List ℕ) → length xs ≡ length ys → ((k : ℕ) → k < length xs → f (get_or xs k 0) ≡ f (get_or ys k 0)) → map f xs ≡ map f ys
map_at_each f [] [] l h = refl
map_at_each f [] (y ∷ ys) l h = absurd (omega arith)
map_at_each f (x ∷ xs) [] l h = absurd (omega arith)
map_at_each f (x ∷ xs) (y ∷ ys) l h = let e = h 0 (omega arith) in let t = map_at_each f xs ys (omega arith) (λ k b. h (suc k) (omega arith)) in cc

-- what the two maps give at a place, where they are one list
pub each_of_map : (f : ℕ → ℕ) (xs ys : List ℕ) → map f xs ≡ map f ys → (k : ℕ) → k < length xs → f (get_or xs k 0) ≡ f (get_or ys k 0)
each_of_map f xs ys e k l =
    let m : k < length ys = omega (arith, length-map xs f, length-map ys f, ap length e) in
    sym (get_or-map f xs k 0 (f 0) l) ∙ ap (λ zs. get_or zs k (f 0)) e ∙ get_or-map f ys k 0 (f 0) m

pub length_of_map : (f : ℕ → ℕ) (xs ys : List ℕ) → map f xs ≡ map f ys → length xs ≡ length ys
length_of_map f xs ys e = omega (arith, length-map xs f, length-map ys f, ap length e)
