-- Lines that are printed one after another.
use Rattle.std.proofs.Common.{◌≡◌, ℕ, suc, ◌+◌, ◌<◌, ◌≤◌, List, [], ◌∷◌, ◌++◌, length, take, get_or, map, refl, sym, ap, ◌∙◌, append_assoc, append-nil, codes, decimal}
use Rattle.std.specs.List.{flat_map}
use Rattle.std.proofs.lemmas.List.{take_more, take_all}
use Rattle.std.proofs.lemmas.List.Concat.{flat_map-cons}
use Rattle.std.proofs.lemmas.Grind.{flat_map-append}
use Rattle.text_core.specs.LineTexts.{Words, line_text, lines_text}
use Rattle.graph_meaning.specs.declared.graphs.LaunchRow.{LaunchRow}
use Rattle.graph_meaning.specs.declared.graphs.SetClass.{SetClass}
use Rattle.graph_meaning.specs.declared.graphs.LaunchGraph.{LaunchGraph}
use Rattle.launch_graph.specs.GraphLines.{graph_lines, said, said_row, said_op, rows_words, entry_words, in_words, pool_words, guard_lines, pin_words, set_words}
use Rattle.launch_graph.specs.LineParts.{words_behind}
use Rattle.launch_graph.specs.RowLines.{row_words, line_op_words}

-- the text of the next item, after those of the items so far
pub each_more : {X : Type 0} (f : X → List ℕ) (xs : List X) (i : ℕ) (d : X) (start text new : List ℕ)
    → i < length xs → text ≡ start ++ flat_map f (take i xs) → new ≡ text ++ f (get_or xs i d)
    → new ≡ start ++ flat_map f (take (i + 1) xs)
each_more f xs i d start text new lt so_far more =
    more ∙ ap (λ l. l ++ f (get_or xs i d)) so_far ∙ append_assoc start (flat_map f (take i xs)) (f (get_or xs i d))
    ∙ ap (λ l. start ++ l)
    (sym (ap (flat_map f) (take_more xs i d lt) ∙ flat_map-append f (take i xs) (get_or xs i d ∷ [])
    ∙ ap (λ l. flat_map f (take i xs) ++ l) (append-nil (f (get_or xs i d)))))

lines_map : {X : Type 0} (f : X → Words) (xs : List X) → lines_text (map f xs) ≡ flat_map (λ x. line_text (f x)) xs
lines_map f [] = refl
lines_map f (x ∷ xs) =
    flat_map-cons line_text (f x) (map f xs) ∙ ap (λ t. line_text (f x) ++ t) (lines_map f xs)
    ∙ sym (flat_map-cons (λ y. line_text (f y)) x xs)

-- the line of the next item, after those of the items so far
pub line_more : {X : Type 0} (f : X → Words) (xs : List X) (i : ℕ) (d : X) (start text new : List ℕ)
    → i < length xs → text ≡ start ++ lines_text (map f (take i xs)) → new ≡ text ++ line_text (f (get_or xs i d))
    → new ≡ start ++ lines_text (map f (take (i + 1) xs))
line_more f xs i d start text new lt so_far more =
    each_more (λ x. line_text (f x)) xs i d start text new lt
    (so_far ∙ ap (λ t. start ++ t) (lines_map f (take i xs))) more
    ∙ ap (λ t. start ++ t) (sym (lines_map f (take (i + 1) xs)))

-- a line is its first word, and each other one behind a space
pub line_words : (w : List ℕ) (ws : Words) → line_text (w ∷ ws) ≡ w ++ (words_behind ws ++ codes "\n")
line_words w [] = refl
line_words w (v ∷ vs) =
    ap (λ t. w ++ (codes " " ++ t)) (line_words v vs)
    ∙ ap (λ t. w ++ t)
    (sym (ap (λ t. t ++ codes "\n") (flat_map-cons (λ (u : List ℕ). codes " " ++ u) v vs)
    ∙ append_assoc (codes " " ++ v) (words_behind vs) (codes "\n")
    ∙ append_assoc (codes " ") v (words_behind vs ++ codes "\n")))

pub words_numbers : (ns : List ℕ) → words_behind (map decimal ns) ≡ flat_map (λ n. codes " " ++ decimal n) ns
words_numbers [] = refl
words_numbers (n ∷ ns) =
    flat_map-cons (λ (u : List ℕ). codes " " ++ u) (decimal n) (map decimal ns)
    ∙ ap (λ t. (codes " " ++ decimal n) ++ t) (words_numbers ns)
    ∙ sym (flat_map-cons (λ m. codes " " ++ decimal m) n ns)

-- pieces, one after another
two_pieces : (start a b t1 t2 : List ℕ) → t1 ≡ start ++ a → t2 ≡ t1 ++ b → t2 ≡ start ++ (a ++ b)
two_pieces start a b t1 t2 e1 e2 = e2 ∙ ap (λ t. t ++ b) e1 ∙ append_assoc start a b

whole : (start ns : List ℕ) (i : ℕ) → length ns ≤ i
    → start ++ flat_map (λ n. codes " " ++ decimal n) (take i ns) ≡ start ++ flat_map (λ n. codes " " ++ decimal n) ns
whole start ns i all = ap (λ ms. start ++ flat_map (λ n. codes " " ++ decimal n) ms) (take_all i ns all)

pub row_text : (row : LaunchRow) (i : ℕ) (start t1 t2 t3 t4 : List ℕ) → length row.operands ≤ i → t1 ≡ start ++ decimal row.class
    → t2 ≡ t1 ++ words_behind (line_op_words (said_op row.op row.name))
    → t3 ≡ t2 ++ flat_map (λ n. codes " " ++ decimal n) (take i row.operands) → t4 ≡ t3 ++ codes "\n"
    → t4 ≡ start ++ line_text (row_words (said_row row))
row_text row i start t1 t2 t3 t4 all e1 e2 e3 e4 =
    let op : Words = line_op_words (said_op row.op row.name) in
    let numbers : List ℕ = flat_map (λ n. codes " " ++ decimal n) row.operands in
    let behind : words_behind (op ++ map decimal row.operands) ≡ words_behind op ++ numbers =
    flat_map-append (λ (u : List ℕ). codes " " ++ u) op (map decimal row.operands)
    ∙ ap (λ t. words_behind op ++ t) (words_numbers row.operands) in
    two_pieces start (decimal row.class) (words_behind op ++ (numbers ++ codes "\n")) t1 t4 e1
    (two_pieces t1 (words_behind op) (numbers ++ codes "\n") t2 t4 e2 (two_pieces t2 numbers (codes "\n") t3 t4 (e3 ∙ whole t2 row.operands i all) e4))
    ∙ ap (λ t. start ++ (decimal row.class ++ t))
    (sym (ap (λ t. t ++ codes "\n") behind ∙ append_assoc (words_behind op) numbers (codes "\n")))
    ∙ ap (λ t. start ++ t) (sym (line_words (decimal row.class) (op ++ map decimal row.operands)))

pub pool_text : (i : ℕ) (pool start t1 t2 t3 : List ℕ) → length pool ≤ i → t1 ≡ start ++ codes "pool"
    → t2 ≡ t1 ++ flat_map (λ n. codes " " ++ decimal n) (take i pool) → t3 ≡ t2 ++ codes "\n"
    → t3 ≡ start ++ line_text (pool_words pool)
pool_text i pool start t1 t2 t3 all e1 e2 e3 =
    let numbers : List ℕ = flat_map (λ n. codes " " ++ decimal n) pool in
    two_pieces start (codes "pool") (numbers ++ codes "\n") t1 t3 e1 (two_pieces t1 numbers (codes "\n") t2 t3 (e2 ∙ whole t1 pool i all) e3)
    ∙ ap (λ t. start ++ (codes "pool" ++ (t ++ codes "\n"))) (sym (words_numbers pool))
    ∙ ap (λ t. start ++ t) (sym (line_words (codes "pool") (map decimal pool)))

pub set_text : (set : SetClass) (start t1 t2 t3 t4 t5 : List ℕ) → t1 ≡ start ++ codes "set"
    → t2 ≡ t1 ++ (codes " " ++ set.name) → t3 ≡ t2 ++ (codes " " ++ decimal set.class)
    → t4 ≡ t3 ++ words_behind (pin_words set.pin) → t5 ≡ t4 ++ codes "\n" → t5 ≡ start ++ line_text (set_words set)
set_text set start t1 t2 t3 t4 t5 e1 e2 e3 e4 e5 =
    let name : List ℕ = codes " " ++ set.name in
    let class : List ℕ = codes " " ++ decimal set.class in
    let pin : List ℕ = words_behind (pin_words set.pin) in
    let words : words_behind (set.name ∷ decimal set.class ∷ pin_words set.pin) ≡ name ++ (class ++ pin) =
    flat_map-cons (λ (u : List ℕ). codes " " ++ u) set.name (decimal set.class ∷ pin_words set.pin)
    ∙ ap (λ t. name ++ t) (flat_map-cons (λ (u : List ℕ). codes " " ++ u) (decimal set.class) (pin_words set.pin)) in
    two_pieces start (codes "set") (name ++ (class ++ (pin ++ codes "\n"))) t1 t5 e1
    (two_pieces t1 name (class ++ (pin ++ codes "\n")) t2 t5 e2
    (two_pieces t2 class (pin ++ codes "\n") t3 t5 e3 (two_pieces t3 pin (codes "\n") t4 t5 e4 e5)))
    ∙ ap (λ t. start ++ (codes "set" ++ t))
    (sym (ap (λ t. t ++ codes "\n") words ∙ append_assoc name (class ++ pin) (codes "\n")
    ∙ ap (λ t. name ++ t) (append_assoc class pin (codes "\n"))))
    ∙ ap (λ t. start ++ t) (sym (line_words (codes "set") (set.name ∷ decimal set.class ∷ pin_words set.pin)))

map_again : {X Y Z : Type 0} (f : X → Y) (h : Y → Z) (xs : List X) → map h (map f xs) ≡ map (λ x. h (f x)) xs
map_again f h [] = refl
map_again f h (x ∷ xs) = ap (λ ys. h (f x) ∷ ys) (map_again f h xs)

pub map_count : {X Y : Type 0} (f : X → Y) (xs : List X) → length (map f xs) ≡ length xs
map_count f [] = refl
map_count f (x ∷ xs) = ap suc (map_count f xs)

lines_append : (a b : List Words) → lines_text (a ++ b) ≡ lines_text a ++ lines_text b
lines_append a b = flat_map-append line_text a b

lines_cons : (w : Words) (b : List Words) → lines_text (w ∷ b) ≡ line_text w ++ lines_text b
lines_cons w b = flat_map-cons line_text w b

pub graph_text : (g : LaunchGraph) (start t1 t2 t3 t4 t5 t6 t7 : List ℕ) → t1 ≡ start ++ line_text (rows_words (length g.rows))
    → t2 ≡ t1 ++ lines_text (map (λ r. row_words (said_row r)) g.rows) → t3 ≡ t2 ++ line_text (entry_words g.entry)
    → t4 ≡ t3 ++ lines_text (map in_words g.inputs) → t5 ≡ t4 ++ line_text (pool_words g.pool)
    → t6 ≡ t5 ++ lines_text (guard_lines g.guard) → t7 ≡ t6 ++ lines_text (map set_words g.sets)
    → t7 ≡ start ++ lines_text (graph_lines (said g))
graph_text g start t1 t2 t3 t4 t5 t6 t7 e1 e2 e3 e4 e5 e6 e7 =
    let sets : List Words = map set_words g.sets in
    let last : List Words = guard_lines g.guard ++ sets in
    let five : List Words = pool_words g.pool ∷ last in
    let four : List Words = map in_words g.inputs ++ five in
    let three : List Words = entry_words g.entry ∷ four in
    let rows : List Words = map (λ r. row_words (said_row r)) g.rows in
    let s6 : t7 ≡ t5 ++ lines_text last =
    two_pieces t5 (lines_text (guard_lines g.guard)) (lines_text sets) t6 t7 e6 e7
    ∙ ap (λ t. t5 ++ t) (sym (lines_append (guard_lines g.guard) sets)) in
    let s5 : t7 ≡ t4 ++ lines_text five =
    two_pieces t4 (line_text (pool_words g.pool)) (lines_text last) t5 t7 e5 s6
    ∙ ap (λ t. t4 ++ t) (sym (lines_cons (pool_words g.pool) last)) in
    let s4 : t7 ≡ t3 ++ lines_text four =
    two_pieces t3 (lines_text (map in_words g.inputs)) (lines_text five) t4 t7 e4 s5
    ∙ ap (λ t. t3 ++ t) (sym (lines_append (map in_words g.inputs) five)) in
    let s3 : t7 ≡ t2 ++ lines_text three =
    two_pieces t2 (line_text (entry_words g.entry)) (lines_text four) t3 t7 e3 s4
    ∙ ap (λ t. t2 ++ t) (sym (lines_cons (entry_words g.entry) four)) in
    let s2 : t7 ≡ t1 ++ lines_text (rows ++ three) =
    two_pieces t1 (lines_text rows) (lines_text three) t2 t7 e2 s3
    ∙ ap (λ t. t1 ++ t) (sym (lines_append rows three)) in
    let s1 : t7 ≡ start ++ lines_text (rows_words (length g.rows) ∷ (rows ++ three)) =
    two_pieces start (line_text (rows_words (length g.rows))) (lines_text (rows ++ three)) t1 t7 e1 s2
    ∙ ap (λ t. start ++ t) (sym (lines_cons (rows_words (length g.rows)) (rows ++ three))) in
    let counted : rows_words (length g.rows) ≡ rows_words (length (map said_row g.rows)) =
    ap rows_words (sym (map_count said_row g.rows)) in
    s1 ∙ ap (λ w. start ++ lines_text (w ∷ (rows ++ three))) counted
    ∙ ap (λ r. start ++ lines_text (rows_words (length (map said_row g.rows)) ∷ (r ++ three)))
    (sym (map_again said_row row_words g.rows))
