-- Lines that are printed one after another.
use Rattle.std.proofs.Common.{◌≡◌, ℕ, zero, suc, ◌+◌, ◌<◌, ◌^◌, List, [], ◌∷◌, ◌++◌, length, take, get_or, map, refl, sym, ap, ◌∙◌, append_assoc, append-nil, arith, true, Some, Option, None}
use Rattle.std.specs.Prelude.{All, is_some}
use Rattle.std.specs.List.{flat_map, list_any}
use Rattle.std.specs.FinMap.{entries, get, contains_key-keys, keys}
use Rattle.std.proofs.lemmas.Cmp.{nat_cmp_total, tied_itself}
use Rattle.std.specs.Ordering.{nat_cmp, eq_by_cmp, is_eq}
use Rattle.std.proofs.lemmas.List.{take_more, length-map, get_or-map}
use Rattle.std.proofs.lemmas.List.Folds.{list_any_at}
use Rattle.std.proofs.lemmas.List.Concat.{flat_map-cons}
use Rattle.std.proofs.lemmas.Grind.{flat_map-append}
use Rattle.word_ops.specs.Memory.{Memory, IsMemory}
use Rattle.text_core.specs.LineTexts.{Words, line_text, lines_text}
use Rattle.run_texts.specs.Reports.{register_line, register_lines}

-- the text of the next item, after those of the items so far
each_more : {X : Type 0} (f : X → List ℕ) (xs : List X) (i : ℕ) (d : X) (start text new : List ℕ)
    → i < length xs → text ≡ start ++ flat_map f (take i xs) → new ≡ text ++ f (get_or xs i d)
    → new ≡ start ++ flat_map f (take (i + 1) xs)
each_more f xs i d start text new lt so_far more =
    more ∙ ap (λ l. l ++ f (get_or xs i d)) so_far ∙ append_assoc start (flat_map f (take i xs)) (f (get_or xs i d))
    ∙ ap (λ l. start ++ l)
    (sym (ap (flat_map f) (take_more xs i d lt) ∙ flat_map-append f (take i xs) (get_or xs i d ∷ [])
    ∙ ap (λ l. flat_map f (take i xs) ++ l) (append-nil (f (get_or xs i d)))))

lines_map : {X : Type 0} (f : X → Words) (xs : List X) → lines_text (map f xs) ≡ flat_map (λ x. line_text (f x)) xs
lines_map f [] = refl
lines_map f (x ∷ xs) =
    flat_map-cons line_text (f x) (map f xs) ∙ ap (λ t. line_text (f x) ++ t) (lines_map f xs)
    ∙ sym (flat_map-cons (λ y. line_text (f y)) x xs)

-- the line of the next item, after those of the items so far
pub line_more : {X : Type 0} (f : X → Words) (xs : List X) (i : ℕ) (d : X) (start text new : List ℕ)
    → i < length xs → text ≡ start ++ lines_text (map f (take i xs)) → new ≡ text ++ line_text (f (get_or xs i d))
    → new ≡ start ++ lines_text (map f (take (i + 1) xs))
line_more f xs i d start text new lt so_far more =
    each_more (λ x. line_text (f x)) xs i d start text new lt
    (so_far ∙ ap (λ t. start ++ t) (lines_map f (take i xs))) more
    ∙ ap (λ t. start ++ t) (sym (lines_map f (take (i + 1) xs)))

pub lines_append : (a b : List Words) → lines_text (a ++ b) ≡ lines_text a ++ lines_text b
lines_append a b = flat_map-append line_text a b

pub one_line : (l : Words) → lines_text (l ∷ []) ≡ line_text l
one_line l = flat_map-cons line_text l [] ∙ append-nil (line_text l)

pub first_line : (l : Words) (ls : List Words) → lines_text (l ∷ ls) ≡ line_text l ++ lines_text ls
first_line l ls = flat_map-cons line_text l ls

register_push : (from : ℕ) (ws : List ℕ) (w : ℕ) → register_lines from (ws ++ w ∷ []) ≡ register_lines from ws ++ register_line (from + length ws) w
register_push from [] w = append-nil (register_line from w) ∙ ap (λ n. register_line n w) (let e : from ≡ from + 0 = omega arith in e)
register_push from (v ∷ ws) w =
    ap (λ l. register_line from v ++ l) (register_push (from + 1) ws w)
    ∙ sym (append_assoc (register_line from v) (register_lines (from + 1) ws) (register_line (from + 1 + length ws) w))
    ∙ ap (λ n. (register_line from v ++ register_lines (from + 1) ws) ++ register_line n w) (let e : from + 1 + length ws ≡ from + suc (length ws) = omega arith in e)

-- the line of the next register, after those so far
pub register_more : (ws : List ℕ) (i w : ℕ) (start text new : List ℕ) → i < length ws → w ≡ get_or ws i 0
    → text ≡ start ++ lines_text (register_lines 0 (take i ws)) → new ≡ text ++ lines_text (register_line i w)
    → new ≡ start ++ lines_text (register_lines 0 (take (i + 1) ws))
register_more ws i w start text new lt is so_far more =
    let size : 0 + length (take i ws) ≡ i = (let e = length_front ws i lt in omega arith) in
    let lines : register_lines 0 (take (i + 1) ws) ≡ register_lines 0 (take i ws) ++ register_line i w =
    ap (register_lines 0) (take_more ws i 0 lt) ∙ register_push 0 (take i ws) (get_or ws i 0)
    ∙ ap (λ n. register_lines 0 (take i ws) ++ register_line n (get_or ws i 0)) size
    ∙ ap (λ v. register_lines 0 (take i ws) ++ register_line i v) (sym is) in
    more ∙ ap (λ t. t ++ lines_text (register_line i w)) so_far
    ∙ append_assoc start (lines_text (register_lines 0 (take i ws))) (lines_text (register_line i w))
    ∙ ap (λ t. start ++ t) (sym (lines_append (register_lines 0 (take i ws)) (register_line i w)) ∙ ap lines_text (sym lines))
  where
    length_front : (xs : List ℕ) (i : ℕ) → i < length xs → length (take i xs) ≡ i
    length_front [] i lt = absurd (omega arith)
    length_front (x ∷ xs) zero lt = refl
    length_front (x ∷ xs) (suc i) lt = ap suc (length_front xs i (omega arith))

-- the pieces of a report, one after another
pub three_pieces : (a : Words) (b c : List Words) (t1 t2 t3 : List ℕ) → t1 ≡ [] ++ line_text a → t2 ≡ t1 ++ lines_text b → t3 ≡ t2 ++ lines_text c
    → t3 ≡ lines_text (a ∷ (b ++ c))
three_pieces a b c t1 t2 t3 e1 e2 e3 =
    e3 ∙ ap (λ t. t ++ lines_text c) (e2 ∙ ap (λ t. t ++ lines_text b) e1)
    ∙ append_assoc (line_text a) (lines_text b) (lines_text c)
    ∙ ap (λ t. line_text a ++ t) (sym (lines_append b c)) ∙ sym (first_line a (b ++ c))

-- each place of a memory is below 2 ^ 61
tied : (k : ℕ) → eq_by_cmp nat_cmp k k ≡ true
tied k = ap is_eq (tied_itself nat_cmp_total k)

found : (o : Option ℕ) → is_some o ≡ true → (v : ℕ) × (o ≡ Some v)
found None h = cc
found (Some v) h = (v, refl)

pub places_low : (m : Memory) → IsMemory m → All (λ (e : ℕ × ℕ). e.0 < 2 ^ 61) (entries m)
places_low m is k d lt =
    let e : ℕ × ℕ = get_or (entries m) k d in
    let size : length (keys m) ≡ length (entries m) = length-map (entries m) (λ (x : ℕ × ℕ). x.0) in
    let key : get_or (keys m) k 0 ≡ e.0 = get_or-map (λ (x : ℕ × ℕ). x.0) (entries m) k d 0 lt in
    let there : list_any (eq_by_cmp nat_cmp e.0) (keys m) ≡ true =
    list_any_at (eq_by_cmp nat_cmp e.0) (keys m) k 0 (omega arith) (ap (eq_by_cmp nat_cmp e.0) key ∙ tied e.0) in
    let some = found (get m e.0) (contains_key-keys m e.0 ∙ there) in
    (is.words e.0 some.0 some.1).2
