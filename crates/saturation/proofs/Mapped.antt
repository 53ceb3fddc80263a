-- Lists made by `map` and `filter_map`: what they contain.
use Rattle.std.proofs.Common.{◌≡◌, ℕ, zero, suc, ◌+◌, ◌<◌, Option, Some, None, List, [], ◌∷◌, ◌++◌, map, fold, length, get_or, take, Contains, All, refl, sym, ap, ◌∙◌, subst, arith}
use Rattle.std.specs.List.{filter_map, cons_option, AllZip}
use Rattle.std.proofs.lemmas.List.{get_or-map, length-map, take_more}
use Rattle.std.proofs.lemmas.List.Elements.{All-head, All-tail, All-cons, All-nil, filter_map-append}

pub some_at : {X : Type 0} (xs : List X) (k : ℕ) → k < length xs → (x : X) × (get_or xs k x ≡ x)
some_at [] k h = absurd (omega arith)
some_at (x ∷ xs) zero h = (x, refl)
some_at (x ∷ xs) (suc k) h = some_at xs k (omega arith)

pub contains_map : {X Y : Type 0} (f : X → Y) (xs : List X) (x : X) → Contains xs x → Contains (map f xs) (f x)
contains_map f xs x h = (h.0, omega (arith, length-map xs f, h.1), get_or-map f xs h.0 x (f x) h.1 ∙ ap f h.2)

pub contains_map_back : {X Y : Type 0} (f : X → Y) (xs : List X) (y : Y) → Contains (map f xs) y → (x : X) × Contains xs x × (y ≡ f x)
contains_map_back f xs y h =
    let l : h.0 < length xs = omega (arith, length-map xs f, h.1) in
    let s = some_at xs h.0 l in
    (s.0, (h.0, l, s.1), sym h.2 ∙ get_or-map f xs h.0 s.0 y l ∙ ap f s.1)

pub map_twice : {X Y Z : Type 0} (f : X → Y) (h : Y → Z) (xs : List X) → map h (map f xs) ≡ map (λ x. h (f x)) xs
map_twice f h [] = refl
map_twice f h (x ∷ xs) = ap (λ ys. h (f x) ∷ ys) (map_twice f h xs)

-- two functions that agree at each element
pub map_same : {X Y : Type 0} (f h : X → Y) (xs : List X) → All (λ x. f x ≡ h x) xs → map f xs ≡ map h xs
map_same f h [] e = refl
map_same f h (x ∷ xs) e =
    let one : f x ≡ h x = All-head (λ x. f x ≡ h x) x xs e in
    let more = map_same f h xs (All-tail (λ x. f x ≡ h x) x xs e) in
    cc

pub map_itself : {X : Type 0} (f : X → X) (xs : List X) → All (λ x. f x ≡ x) xs → map f xs ≡ xs
map_itself f [] e = refl
map_itself f (x ∷ xs) e =
    let one : f x ≡ x = All-head (λ x. f x ≡ x) x xs e in
    let more = map_itself f xs (All-tail (λ x. f x ≡ x) x xs e) in
    cc

pub fold_map : {A X Y : Type 0} (h : A → Y → A) (f : X → Y) (xs : List X) (a : A) → fold h a (map f xs) ≡ fold (λ b x. h b (f x)) a xs
fold_map h f [] a = refl
fold_map h f (x ∷ xs) a = fold_map h f xs (h a (f x))

pub fold_same : {A X : Type 0} (h k : A → X → A) (xs : List X) (a : A) → ((b : A) (x : X) → h b x ≡ k b x) → fold h a xs ≡ fold k a xs
fold_same h k [] a e = refl
fold_same h k (x ∷ xs) a e = ap (λ b. fold h b xs) (e a x) ∙ fold_same h k xs (k a x) e

pub fold_same_each : {A X : Type 0} (h k : A → X → A) (xs : List X) (a : A) → All (λ x. (b : A) → h b x ≡ k b x) xs → fold h a xs ≡ fold k a xs
fold_same_each h k [] a e = refl
fold_same_each {A} h k (x ∷ xs) a e =
    ap (λ b. fold h b xs) (All-head (λ x. (b : A) → h b x ≡ k b x) x xs e a)
    ∙ fold_same_each h k xs (k a x) (All-tail (λ x. (b : A) → h b x ≡ k b x) x xs e)

pub filter_map_all : {X Y : Type 0} (f : X → Y) (xs : List X) → filter_map (λ x. Some (f x)) xs ≡ map f xs
filter_map_all f [] = refl
filter_map_all f (x ∷ xs) = ap (λ ys. f x ∷ ys) (filter_map_all f xs)

pub filter_map_more : {X Y : Type 0} (f : X → Option Y) (xs : List X) (i : ℕ) (d : X) → i < length xs → filter_map f (take (i + 1) xs) ≡ filter_map f (take i xs) ++ cons_option (f (get_or xs i d)) []
filter_map_more f xs i d l = ap (filter_map f) (take_more xs i d l) ∙ filter_map-append f (take i xs) (get_or xs i d ∷ [])

all_some : {Y : Type 0} (P : Y → Type 0) (o : Option Y) (ys : List Y) → ((y : Y) → o ≡ Some y → P y) → All P ys → All P (cons_option o ys)
all_some P None ys h k = k
all_some P (Some y) ys h k = All-cons P y ys (h y refl) k

pub all_filter_map : {X Y : Type 0} (f : X → Option Y) (Q : X → Type 0) (P : Y → Type 0) (xs : List X) → ((x : X) (y : Y) → Q x → f x ≡ Some y → P y) → All Q xs → All P (filter_map f xs)
all_filter_map f Q P [] h k = All-nil P
all_filter_map f Q P (x ∷ xs) h k = all_some P (f x) (filter_map f xs) (λ y e. h x y (All-head Q x xs k) e) (all_filter_map f Q P xs h (All-tail Q x xs k))

contains_some : {X Y : Type 0} (f : X → Option Y) (x : X) (ys : List Y) (y : Y) → f x ≡ Some y → Contains (cons_option (f x) ys) y
contains_some f x ys y e = subst (λ o. Contains (cons_option o ys) y) (sym e) (0, omega arith, refl)

contains_past : {Y : Type 0} (o : Option Y) (ys : List Y) (y : Y) → Contains ys y → Contains (cons_option o ys) y
contains_past None ys y h = h
contains_past (Some z) ys y h = (suc h.0, (let l = h.1 in omega arith), h.2)

pub contains_filter_map : {X Y : Type 0} (f : X → Option Y) (xs : List X) (x : X) (y : Y) (k : ℕ) → k < length xs → get_or xs k x ≡ x → f x ≡ Some y → Contains (filter_map f xs) y
contains_filter_map f [] x y k l is e = absurd (omega arith)
contains_filter_map f (z ∷ xs) x y zero l is e = contains_some f z (filter_map f xs) y (ap f is ∙ e)
contains_filter_map f (z ∷ xs) x y (suc k) l is e = contains_past (f z) (filter_map f xs) y (contains_filter_map f xs x y k (omega arith) is e)

pub zip_push : {X Y : Type 0} (R : Y → X → Type 0) (ys : List Y) (xs : List X) (y : Y) (x : X) → AllZip R ys xs → R y x → AllZip R (ys ++ y ∷ []) (xs ++ x ∷ [])
zip_push R [] [] y x h r = (r, tt)
zip_push R [] (z ∷ xs) y x h r = absurd h
zip_push R (z ∷ ys) [] y x h r = absurd h
zip_push R (z ∷ ys) (w ∷ xs) y x h r = (h.0, zip_push R ys xs y x h.1 r)

-- a list that grows by one at its end, beside the items of another list
pub all_zip_next : {X Y : Type 0} (R : Y → X → Type 0) (xs : List X) (ys : List Y) (i : ℕ) (x : X) (y : Y) → i < length xs → x ≡ get_or xs i x → AllZip R ys (take i xs) → R y x → AllZip R (ys ++ y ∷ []) (take (i + 1) xs)
all_zip_next R xs ys i x y l is h r =
    subst (AllZip R (ys ++ y ∷ [])) (sym (take_more xs i x l ∙ ap (λ z. take i xs ++ z ∷ []) (sym is))) (zip_push R ys (take i xs) y x h r)
