-- Parts of a list by the places where they end: one more part, fewer parts, and each part by its place.
use Rattle.std.proofs.Common.{◌≡◌, ℕ, zero, suc, ◌+◌, ◌-◌, ◌<◌, ◌≤◌, List, [], ◌∷◌, ◌++◌, length, take, drop, get_or, refl, sym, ap, ◌∙◌, subst, arith}
use Rattle.std.specs.Prelude.{slice_range}
use Rattle.std.proofs.lemmas.List.{take-append-le, drop-append-le, take-append-drop, length-drop, length-append, length-take-le, take_all}
use Rattle.std.proofs.Math.Seq.{drop-append_seam}
use Rattle.cnf_core.specs.Pieces.{pieces, AreEnds}

pub length_pieces : {X : Type 0} (from : ℕ) (ends : List ℕ) (xs : List X) → length (pieces from ends xs) ≡ length ends
length_pieces from [] xs = refl
length_pieces from (end ∷ ends) xs = ap suc (length_pieces end ends xs)

-- the first place is at most the last
first-le : (from : ℕ) (ends : List ℕ) (n : ℕ) → AreEnds from ends n → from ≤ n
first-le from [] n h = omega arith
first-le from (end ∷ ends) n h = (let rest = first-le end ends n h.1 in omega arith)

-- each part ends where or after it begins, and not after the whole
pub part_rises : (from : ℕ) (ends : List ℕ) (n k : ℕ) → AreEnds from ends n → k < length ends → get_or (from ∷ ends) k 0 ≤ get_or ends k 0
part_rises from [] n k h few = absurd (omega arith)
part_rises from (end ∷ ends) n zero h few = h.0
part_rises from (end ∷ ends) n (suc k) h few = part_rises end ends n k h.1 (omega arith)

pub part_within : (from : ℕ) (ends : List ℕ) (n k : ℕ) → AreEnds from ends n → k < length ends → get_or ends k 0 ≤ n
part_within from [] n k h few = absurd (omega arith)
part_within from (end ∷ ends) n zero h few = first-le end ends n h.1
part_within from (end ∷ ends) n (suc k) h few = part_within end ends n k h.1 (omega arith)

-- a place among the parts is one among their ends
pub part-few : {X : Type 0} (ends : List ℕ) (xs : List X) (parts : List (List X)) (k : ℕ) → pieces 0 ends xs ≡ parts → k < length parts → k < length ends
part-few ends xs parts k is few =
    let size = length_pieces 0 ends xs in
    let same = ap length is in
    omega arith

-- each part by its place
pub pieces-at : {X : Type 0} (from : ℕ) (ends : List ℕ) (xs : List X) (k : ℕ) (d : List X) → k < length ends → get_or (pieces from ends xs) k d ≡ slice_range xs (get_or (from ∷ ends) k 0) (get_or ends k 0)
pieces-at from [] xs k d few = absurd (omega arith)
pieces-at from (end ∷ ends) xs zero d few = refl
pieces-at from (end ∷ ends) xs (suc k) d few = pieces-at end ends xs k d (omega arith)

-- a part of a front is the part of the whole
range-append : {X : Type 0} (xs ys : List X) (from end : ℕ) → from ≤ end → end ≤ length xs → slice_range (xs ++ ys) from end ≡ slice_range xs from end
range-append xs ys from end rises within =
    ap (λ (zs : List _). take (end - from) zs) (drop-append-le from xs ys (omega arith))
    ∙ take-append-le (end - from) (drop from xs) ys (omega (arith, length-drop from xs))

pieces-append : {X : Type 0} (from : ℕ) (ends : List ℕ) (xs ys : List X) (n : ℕ) → AreEnds from ends n → n ≤ length xs → pieces from ends (xs ++ ys) ≡ pieces from ends xs
pieces-append from [] xs ys n h few = refl
pieces-append from (end ∷ ends) xs ys n h few =
    let within = first-le end ends n h.1 in
    ap (λ (part : List _). part ∷ pieces end ends (xs ++ ys)) (range-append xs ys from end h.0 (omega arith))
    ∙ ap (λ (rest : List (List _)). slice_range xs from end ∷ rest) (pieces-append end ends xs ys n h.1 few)

-- one more part
pieces-snoc : {X : Type 0} (from : ℕ) (ends : List ℕ) (xs : List X) (n m : ℕ) → AreEnds from ends n → pieces from (ends ++ m ∷ []) xs ≡ pieces from ends xs ++ slice_range xs n m ∷ []
pieces-snoc from [] xs n m h = ap (λ (k : ℕ). slice_range xs k m ∷ []) h
pieces-snoc from (end ∷ ends) xs n m h = ap (λ (rest : List (List _)). slice_range xs from end ∷ rest) (pieces-snoc end ends xs n m h.1)

pub ends-push : (from : ℕ) (ends : List ℕ) (n m : ℕ) → AreEnds from ends n → n ≤ m → AreEnds from (ends ++ m ∷ []) m
ends-push from [] n m h more = (omega arith, refl)
ends-push from (end ∷ ends) n m h more = (h.0, ends-push end ends n m h.1 more)

pub pieces-push : {X : Type 0} (ends : List ℕ) (xs ys : List X) → AreEnds 0 ends (length xs) → pieces 0 (ends ++ (length (xs ++ ys)) ∷ []) (xs ++ ys) ≡ pieces 0 ends xs ++ ys ∷ []
pieces-push ends xs ys h =
    let size = length-append xs ys in
    let last : slice_range (xs ++ ys) (length xs) (length (xs ++ ys)) ≡ ys =
    ap (λ (zs : List _). take (length (xs ++ ys) - length xs) zs) (drop-append_seam xs ys)
    ∙ take_all (length (xs ++ ys) - length xs) ys (omega arith) in
    pieces-snoc 0 ends (xs ++ ys) (length xs) (length (xs ++ ys)) h
    ∙ ap (λ (front : List (List _)). front ++ slice_range (xs ++ ys) (length xs) (length (xs ++ ys)) ∷ []) (pieces-append 0 ends xs ys (length xs) h (omega arith))
    ∙ ap (λ (part : List _). pieces 0 ends xs ++ part ∷ []) last

-- fewer parts
pub ends-take : (from : ℕ) (ends : List ℕ) (n k : ℕ) → AreEnds from ends n → k ≤ length ends → AreEnds from (take k ends) (get_or (from ∷ ends) k 0)
ends-take from ends n zero h few = refl
ends-take from [] n (suc k) h few = absurd (omega arith)
ends-take from (end ∷ ends) n (suc k) h few = (h.0, ends-take end ends n k h.1 (omega arith))

pieces-few : {X : Type 0} (from : ℕ) (ends : List ℕ) (xs : List X) (k : ℕ) → pieces from (take k ends) xs ≡ take k (pieces from ends xs)
pieces-few from ends xs zero = refl
pieces-few from [] xs (suc k) = refl
pieces-few from (end ∷ ends) xs (suc k) = ap (λ (rest : List (List _)). slice_range xs from end ∷ rest) (pieces-few end ends xs k)

pub start-within : (from : ℕ) (ends : List ℕ) (n k : ℕ) → AreEnds from ends n → k ≤ length ends → get_or (from ∷ ends) k 0 ≤ n
start-within from ends n zero h few = first-le from ends n h
start-within from [] n (suc k) h few = absurd (omega arith)
start-within from (end ∷ ends) n (suc k) h few = start-within end ends n k h.1 (omega arith)

pub pieces-take : {X : Type 0} (ends : List ℕ) (xs : List X) (k : ℕ) → AreEnds 0 ends (length xs) → k ≤ length ends → pieces 0 (take k ends) (take (get_or (0 ∷ ends) k 0) xs) ≡ take k (pieces 0 ends xs)
pieces-take ends xs k h few =
    let n = get_or (0 ∷ ends) k 0 in
    let within = start-within 0 ends (length xs) k h few in
    let size = length-take-le n xs within in
    sym (pieces-append 0 (take k ends) (take n xs) (drop n xs) n (ends-take 0 ends (length xs) k h few) (omega arith))
    ∙ ap (λ (zs : List _). pieces 0 (take k ends) zs) (take-append-drop n xs)
    ∙ pieces-few 0 ends xs k

-- what a store has after one more part
pub pushed-ends : {X : Type 0} (ends ends' : List ℕ) (xs ys xs' : List X) → AreEnds 0 ends (length xs) → xs' ≡ xs ++ ys → ends' ≡ ends ++ (length xs') ∷ [] → AreEnds 0 ends' (length xs')
pushed-ends ends ends' xs ys xs' h is-xs is-ends =
    let size : length xs' ≡ length xs + length ys = ap length is-xs ∙ length-append xs ys in
    subst (λ (es : List ℕ). AreEnds 0 es (length xs')) (sym is-ends) (ends-push 0 ends (length xs) (length xs') h (omega arith))

pub pushed-pieces : {X : Type 0} (ends ends' : List ℕ) (xs ys xs' : List X) → AreEnds 0 ends (length xs) → xs' ≡ xs ++ ys → ends' ≡ ends ++ (length xs') ∷ [] → pieces 0 ends' xs' ≡ pieces 0 ends xs ++ ys ∷ []
pushed-pieces ends ends' xs ys xs' h is-xs is-ends =
    ap (λ (es : List ℕ). pieces 0 es xs') is-ends
    ∙ ap (λ (zs : List _). pieces 0 (ends ++ length zs ∷ []) zs) is-xs
    ∙ pieces-push ends xs ys h

-- what a store has after its first parts alone were kept
pub truncated-ends : {X : Type 0} (ends ends' : List ℕ) (xs xs' : List X) (k : ℕ) → AreEnds 0 ends (length xs) → k ≤ length ends → xs' ≡ take (get_or (0 ∷ ends) k 0) xs → ends' ≡ take k ends → AreEnds 0 ends' (length xs')
truncated-ends ends ends' xs xs' k h few is-xs is-ends =
    let n = get_or (0 ∷ ends) k 0 in
    let size : length xs' ≡ n = ap length is-xs ∙ length-take-le n xs (start-within 0 ends (length xs) k h few) in
    subst (λ (es : List ℕ). AreEnds 0 es (length xs')) (sym is-ends)
    (subst (λ (m : ℕ). AreEnds 0 (take k ends) m) (sym size) (ends-take 0 ends (length xs) k h few))

pub truncated-pieces : {X : Type 0} (ends ends' : List ℕ) (xs xs' : List X) (k : ℕ) → AreEnds 0 ends (length xs) → k ≤ length ends → xs' ≡ take (get_or (0 ∷ ends) k 0) xs → ends' ≡ take k ends → pieces 0 ends' xs' ≡ take k (pieces 0 ends xs)
truncated-pieces ends ends' xs xs' k h few is-xs is-ends =
    ap (λ (es : List ℕ). pieces 0 es xs') is-ends ∙ ap (λ (zs : List _). pieces 0 (take k ends) zs) is-xs ∙ pieces-take ends xs k h few

-- a count that is at least that of the parts keeps them all
pub kept-all : {X : Type 0} (ends : List ℕ) (xs : List X) (parts : List (List X)) (k : ℕ) → pieces 0 ends xs ≡ parts → length ends ≤ k → parts ≡ take k parts
kept-all ends xs parts k is few =
    let size = length_pieces 0 ends xs in
    let same = ap length is in
    sym (take_all k parts (omega arith))
