-- The rows of clauses that loops add, one clause or one row at a time, and their lengths.
use Rattle.std.proofs.Common.{◌≡◌, ℕ, zero, suc, ◌+◌, ◌*◌, ◌-◌, List, [], ◌∷◌, ◌++◌, length, map, take, drop, sym, ap, ◌∙◌, arith, append_assoc, append-nil}
use Rattle.std.specs.List.{range_with_len, flat_map}
use Rattle.cnf_core.specs.Counter.{counter_rows, counter_clauses}
use Rattle.cnf_core.specs.declared.literal.Lit.{Lit}
use Rattle.std.proofs.lemmas.List.{length-append, map-id, take-append-drop}
use Rattle.std.proofs.Math.Seq.{take-append_seam}
use Rattle.std.proofs.lemmas.List.Concat.{flat_map-append}
use Rattle.std.proofs.lemmas.List.FromFn.{map-range_with_len_more, length-map-range_with_len}

-- what stood first still stands first after one more list, and after a step that was refused
pub front_alone : {X : Type 0} (cs ds xs : List X) → ds ≡ cs ++ xs → take (length cs) ds ≡ cs
front_alone cs ds xs is = ap (take (length cs)) is ∙ take-append_seam cs xs

pub front_kept : {X : Type 0} (cs ds es xs : List X) → ds ≡ cs ++ xs → take (length ds) es ≡ ds → take (length cs) es ≡ cs
front_kept cs ds es xs is kept =
    let rest = drop (length ds) es in
    front_alone cs es (xs ++ rest) (sym (take-append-drop (length ds) es) ∙ ap (λ (front : List _). front ++ rest) (kept ∙ is) ∙ append_assoc cs xs rest)

-- one more clause of a row
pub added_one : {X : Type 0} (f : ℕ → X) (cs : List X) (i : ℕ) → (cs ++ map f (range_with_len 0 i)) ++ f i ∷ [] ≡ cs ++ map f (range_with_len 0 (i + 1))
added_one f cs i =
    append_assoc cs (map f (range_with_len 0 i)) (f i ∷ []) ∙ ap (λ (ys : List _). cs ++ ys) (sym (map-range_with_len_more f 0 i i (omega arith)))

pub added_length : {X : Type 0} (f : ℕ → X) (cs : List X) (i : ℕ) → length (cs ++ map f (range_with_len 0 i)) ≡ length cs + i
added_length f cs i = length-append cs (map f (range_with_len 0 i)) ∙ ap (λ (n : ℕ). length cs + n) (length-map-range_with_len f 0 i)

-- one more number
range_more : (i : ℕ) → range_with_len 0 (i + 1) ≡ range_with_len 0 i ++ i ∷ []
range_more i = sym (map-id (range_with_len 0 (i + 1))) ∙ map-range_with_len_more (λ (x : ℕ). x) 0 i i (omega arith) ∙ ap (λ (xs : List ℕ). xs ++ i ∷ []) (map-id (range_with_len 0 i))

-- one more row of clauses
pub added_row : {X : Type 0} (f : ℕ → List X) (cs : List X) (i : ℕ) → (cs ++ flat_map f (range_with_len 0 i)) ++ f i ≡ cs ++ flat_map f (range_with_len 0 (i + 1))
added_row f cs i =
    append_assoc cs (flat_map f (range_with_len 0 i)) (f i)
    ∙ ap (λ (ys : List _). cs ++ ys) (ap (λ (ys : List _). flat_map f (range_with_len 0 i) ++ ys) (sym (append-nil (f i))) ∙ sym (flat_map-append f (range_with_len 0 i) (i ∷ [])) ∙ ap (flat_map f) (sym (range_more i)))

rows_length : {X : Type 0} (f : ℕ → List X) (n : ℕ) → ((i : ℕ) → length (f i) ≡ n) → (i : ℕ) → length (flat_map f (range_with_len 0 i)) ≡ i * n
rows_length f n each zero = omega arith
rows_length f n each (suc i) =
    let one : length (flat_map f (range_with_len 0 (i + 1))) ≡ length (flat_map f (range_with_len 0 i)) + length (f i) =
    ap length (sym (added_row f [] i)) ∙ length-append (flat_map f (range_with_len 0 i)) (f i) in
    let at : i + 1 ≡ suc i = omega arith in
    let e = each i in
    let before = rows_length f n each i in
    ap (λ (m : ℕ). length (flat_map f (range_with_len 0 m))) (sym at) ∙ one ∙ omega arith

pub rows_more : {X : Type 0} (f : ℕ → ℕ → X) (n : ℕ) (cs : List X) (i : ℕ) → (cs ++ counter_rows f i n) ++ map (f i) (range_with_len 0 n) ≡ cs ++ counter_rows f (i + 1) n
unfolding counter_rows
rows_more f n cs i = added_row (λ k. map (f k) (range_with_len 0 n)) cs i

pub rows_none : {X : Type 0} (f : ℕ → ℕ → X) (n : ℕ) (cs : List X) → cs ++ counter_rows f 0 n ≡ cs
unfolding counter_rows
rows_none f n cs = append-nil cs

-- the length of rows of n clauses
pub length_rows : {X : Type 0} (f : ℕ → ℕ → X) (i n : ℕ) → length (counter_rows f i n) ≡ i * n
unfolding counter_rows
length_rows f i n = rows_length (λ k. map (f k) (range_with_len 0 n)) n (λ k. length-map-range_with_len (f k) 0 n) i

pub added_rows_length : {X : Type 0} (f : ℕ → ℕ → X) (n : ℕ) (cs : List X) (i : ℕ) → length (cs ++ counter_rows f i n) ≡ length cs + i * n
added_rows_length f n cs i = length-append cs (counter_rows f i n) ∙ ap (λ (m : ℕ). length cs + m) (length_rows f i n)

-- how many clauses a counter has
pub length_counter_clauses : (old p : ℕ) (lits : List Lit) → length (counter_clauses old p lits) ≡ (length lits - 1) + (length lits - 2) * p + (length lits - 2) * (p - 1) + (length lits - 1)
length_counter_clauses old p lits =
    simp (length-append, length-map-range_with_len, length_rows)

pub length_after_map : {X : Type 0} (f : ℕ → X) (cs : List X) (i : ℕ) → length (cs ++ map f (range_with_len 0 i)) ≡ length cs + i
length_after_map f cs i = added_length f cs i

pub length_after_rows : {X : Type 0} (f : ℕ → ℕ → X) (cs : List X) (m n : ℕ) → length (cs ++ counter_rows f m n) ≡ length cs + m * n
length_after_rows f cs m n = added_rows_length f n cs m
