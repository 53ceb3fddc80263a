-- Lines are one graph.
use Rattle.std.proofs.Common.{◌≡◌, ℕ, suc, ◌+◌, ◌-◌, ◌<◌, ◌≤◌, ◌^◌, List, [], ◌∷◌, ◌++◌, length, map, take, drop, get_or, refl, sym, ap, subst, ◌∙◌, append_assoc, arith, inl, inr, ◌⊎◌, codes, decimal, Option, Some, None, Bool, true, false}
use Rattle.std.specs.Prelude.{All, IsTrue, is_some, slice_get}
use Rattle.std.proofs.lemmas.Bool.{false≢true}
use Rattle.std.proofs.lemmas.Fmt.{decimal_injective}
use Rattle.std.specs.List.{slice_range}
use Rattle.std.proofs.lemmas.List.{length-drop, map-append}
use Rattle.std.proofs.lemmas.List.Folds.{drop_split}
use Rattle.std.proofs.lemmas.List.Elements.{All-head, All-tail, All-weaker}
use Rattle.std.proofs.lemmas.Option.{slice_get-get_or, none-some}
use Rattle.word_ops.specs.Names.{name_of}
use Rattle.word_ops.specs.Meanings.{arity_of_op, count_of}
use Rattle.word_ops.specs.declared.operators.WordOp.{WordOp}
use Rattle.word_ops.specs.declared.sorts.Arity.{Arity}
use Rattle.word_ops.specs.declared.sorts.Arity.TheVariants as arities
use Rattle.word_ops.specs.declared.sorts.Op.{Op}
use Rattle.word_ops.specs.declared.sorts.Op.TheVariants.{Entry, Input, Constant, Word, Select, Store, Load, Put, Declared}
use Rattle.text_core.specs.Lines.{Line, line_at}
use Rattle.text_core.specs.LineTexts.{Words, words_of_lines}
use Rattle.graph_meaning.specs.declared.graphs.LaunchRow.{LaunchRow}
use Rattle.graph_meaning.specs.declared.graphs.InputClass.{InputClass}
use Rattle.graph_meaning.specs.declared.graphs.Guard.{Guard}
use Rattle.graph_meaning.specs.declared.graphs.SetClass.{SetClass}
use Rattle.graph_meaning.specs.declared.graphs.LaunchGraph.{LaunchGraph}
use Rattle.launch_graph.specs.declared.row_lines.RowLine.{RowLine}
use Rattle.launch_graph.specs.LineFormats.{words_between, words_from}
use Rattle.launch_graph.specs.GraphLines.{GraphLines, SetFits, said, said_row, said_op, rows_words, entry_words, in_words, pool_words, guard_words, held_word, guard_lines, pin_words, set_words}
use Rattle.launch_graph.specs.GraphTexts.{IsGraphOf, EndsGraph}
use Rattle.launch_graph.specs.GraphStages.{InputFits, Low, GuardFits}
use Rattle.launch_graph.specs.declared.row_lines.LineOp.TheVariants.{Use}
use Rattle.launch_graph.specs.LineFaults.{AreRowLines}
use Rattle.launch_graph.specs.RowFaults.{names_used, ops_of}
use Rattle.graph_meaning.specs.Multiples.{AreMultiplesOf}
use Rattle.graph_meaning.specs.WellFormed.{IsLaunchGraph, declared_index}
use Rattle.launch_graph.proofs.Blocks.{rows_once, each_lines}
use Rattle.launch_graph.proofs.ClassLines.{begin_same, head_same, rest_same}
use Rattle.launch_graph.proofs.GoodGraphs.{SameSaid, same_plain, same_use, same_said, map_take, map_get, any_launch, names_upto, names_are, one_name}
use Rattle.launch_graph.proofs.Printed.{map_count}
use Rattle.launch_graph.proofs.SetLines.{SetIsLow, one_set, set_low}
use Rattle.launch_graph.proofs.WholeGraphs.{cons_same, tail_lines, parts, block, tail_are, room}

-- ---- lines behind the rows

input_of : List ℕ → ℕ → ℕ → InputClass
input_of name reg class = record { name = name; reg = reg; class = class }

one_input : (i j : InputClass) → InputFits i → InputFits j → in_words i ≡ in_words j → i ≡ j
unfolding input_of
one_input i j f g e =
    let low : i.reg < 31 = f.1 in
    let less : j.reg < 31 = g.1 in
    let behind = rest_same (codes "in") (codes "in") (i.name ∷ decimal i.reg ∷ decimal i.class ∷ []) (j.name ∷ decimal j.reg ∷ decimal j.class ∷ []) e in
    let numbers = rest_same i.name j.name (decimal i.reg ∷ decimal i.class ∷ []) (decimal j.reg ∷ decimal j.class ∷ []) behind in
    let classes = rest_same (decimal i.reg) (decimal j.reg) (decimal i.class ∷ []) (decimal j.class ∷ []) numbers in
    let small : i.class < 2 ^ 31 = f.2 in
    let fits : j.class < 2 ^ 31 = g.2 in
    ap (λ n. input_of n i.reg i.class) (head_same i.name j.name (decimal i.reg ∷ decimal i.class ∷ []) (decimal j.reg ∷ decimal j.class ∷ []) behind)
    ∙ ap (λ r. input_of j.name r i.class) (decimal_injective i.reg j.reg (omega arith) (omega arith) (head_same (decimal i.reg) (decimal j.reg) (decimal i.class ∷ []) (decimal j.class ∷ []) numbers))
    ∙ ap (λ c. input_of j.name j.reg c) (decimal_injective i.class j.class (omega arith) (omega arith) (head_same (decimal i.class) (decimal j.class) [] [] classes))

one_held : (a b : Bool) → held_word a ≡ held_word b → a ≡ b
one_held true true e = refl
one_held false false e = refl
one_held true false e = absurd (let h : ◌≡◌ {A = ℕ} 104 102 = ap (λ w. get_or w 0 0) e in omega (arith, h))
one_held false true e = absurd (let h : ◌≡◌ {A = ℕ} 102 104 = ap (λ w. get_or w 0 0) e in omega (arith, h))

guard_of : ℕ → Bool → Guard
guard_of class held = record { class = class; held = held }

one_guard : (o p : Guard) → o.class < 2 ^ 31 → p.class < 2 ^ 31 → guard_words o ≡ guard_words p → o ≡ p
unfolding guard_of
one_guard o p f g e =
    let behind = rest_same (codes "guard") (codes "guard") (decimal o.class ∷ held_word o.held ∷ []) (decimal p.class ∷ held_word p.held ∷ []) e in
    let held = rest_same (decimal o.class) (decimal p.class) (held_word o.held ∷ []) (held_word p.held ∷ []) behind in
    ap (λ c. guard_of c o.held) (decimal_injective o.class p.class (omega arith) (omega arith) (head_same (decimal o.class) (decimal p.class) (held_word o.held ∷ []) (held_word p.held ∷ []) behind))
    ∙ ap (λ b. guard_of p.class b) (one_held o.held p.held (head_same (held_word o.held) (held_word p.held) [] [] held))

one_numbers : (ms ns : List ℕ) → All Low ms → All Low ns → map decimal ms ≡ map decimal ns → ms ≡ ns
one_numbers [] [] a b e = refl
one_numbers [] (n ∷ ns) a b e = cc
one_numbers (m ∷ ms) [] a b e = cc
one_numbers (m ∷ ms) (n ∷ ns) a b e =
    let low : m < 31 = All-head Low m ms a in
    let less : n < 31 = All-head Low n ns b in
    ap (λ k. k ∷ ms) (decimal_injective m n (omega arith) (omega arith) (head_same (decimal m) (decimal n) (map decimal ms) (map decimal ns) e))
    ∙ ap (λ ks. n ∷ ks) (one_numbers ms ns (All-tail Low m ms a) (All-tail Low n ns b) (rest_same (decimal m) (decimal n) (map decimal ms) (map decimal ns) e))

no_set_behind : (s : SetClass) (lines rest : List Words) → EndsGraph rest → set_words s ∷ lines ≡ rest → ⊥
no_set_behind s lines rest h e = (subst EndsGraph (sym e) h).1 refl

no_guard_behind : (o : Guard) (lines rest : List Words) → EndsGraph rest → guard_words o ∷ lines ≡ rest → ⊥
no_guard_behind o lines rest h e = (subst EndsGraph (sym e) h).0 refl

same_sets : (ss ts : List SetClass) (r q : List Words) → All SetIsLow ss → All SetIsLow ts → EndsGraph r → EndsGraph q
    → map set_words ss ++ r ≡ map set_words ts ++ q → (ss ≡ ts) × (r ≡ q)
same_sets [] [] r q f g a b e = (refl, e)
same_sets [] (t ∷ ts) r q f g a b e = absurd (no_set_behind t (map set_words ts ++ q) r a (sym e))
same_sets (s ∷ ss) [] r q f g a b e = absurd (no_set_behind s (map set_words ss ++ r) q b e)
same_sets (s ∷ ss) (t ∷ ts) r q f g a b e =
    let both = cons_same (set_words s) (set_words t) (map set_words ss ++ r) (map set_words ts ++ q) e in
    let rest = same_sets ss ts r q (All-tail SetIsLow s ss f) (All-tail SetIsLow t ts g) a b both.1 in
    (ap (λ x. x ∷ ss) (one_set s t (All-head SetIsLow s ss f) (All-head SetIsLow t ts g) both.0) ∙ ap (λ xs. t ∷ xs) rest.0, rest.1)

guard_apart : (o : Guard) (ss : List SetClass) (lines r : List Words) → EndsGraph r → guard_words o ∷ lines ≡ map set_words ss ++ r → ⊥
guard_apart o [] lines r h e = no_guard_behind o lines r h e
guard_apart o (s ∷ ss) lines r h e =
    (let n : ◌≡◌ {A = ℕ} 103 115 = begin_same (codes "guard") (codes "set") (decimal o.class ∷ held_word o.held ∷ []) (s.name ∷ decimal s.class ∷ pin_words s.pin) (cons_same (guard_words o) (set_words s) lines (map set_words ss ++ r) e).0 in
    omega (arith, n))

pub same_targets : (o p : Option Guard) (ss ts : List SetClass) (r q : List Words) → GuardFits o → GuardFits p → All SetIsLow ss → All SetIsLow ts
    → EndsGraph r → EndsGraph q → guard_lines o ++ (map set_words ss ++ r) ≡ guard_lines p ++ (map set_words ts ++ q)
    → (o ≡ p) × (ss ≡ ts) × (r ≡ q)
same_targets None None ss ts r q a b f g h j e = (let s = same_sets ss ts r q f g h j e in (refl, s.0, s.1))
same_targets None (Some p) ss ts r q a b f g h j e = absurd (guard_apart p ss (map set_words ts ++ q) r h (sym e))
same_targets (Some o) None ss ts r q a b f g h j e = absurd (guard_apart o ts (map set_words ss ++ r) q j e)
same_targets (Some o) (Some p) ss ts r q a b f g h j e =
    let both = cons_same (guard_words o) (guard_words p) (map set_words ss ++ r) (map set_words ts ++ q) e in
    let s = same_sets ss ts r q f g h j both.1 in
    (ap Some (one_guard o p a b both.0), s.0, s.1)

in_pool : (i : InputClass) (ns : List ℕ) → in_words i ≡ pool_words ns → ⊥
in_pool i ns e =
    (let n : ◌≡◌ {A = ℕ} 105 112 = begin_same (codes "in") (codes "pool") (i.name ∷ decimal i.reg ∷ decimal i.class ∷ []) (map decimal ns) e in omega (arith, n))

pub same_inputs : (is js : List InputClass) (ms ns : List ℕ) (r q : List Words) → All InputFits is → All InputFits js → All Low ms → All Low ns
    → map in_words is ++ (pool_words ms ∷ r) ≡ map in_words js ++ (pool_words ns ∷ q) → (is ≡ js) × (ms ≡ ns) × (r ≡ q)
same_inputs [] [] ms ns r q f g a b e =
    let both = cons_same (pool_words ms) (pool_words ns) r q e in
    (refl, one_numbers ms ns a b (rest_same (codes "pool") (codes "pool") (map decimal ms) (map decimal ns) both.0), both.1)
same_inputs [] (j ∷ js) ms ns r q f g a b e = absurd (in_pool j ms (sym (cons_same (pool_words ms) (in_words j) r (map in_words js ++ (pool_words ns ∷ q)) e).0))
same_inputs (i ∷ is) [] ms ns r q f g a b e = absurd (in_pool i ns (cons_same (in_words i) (pool_words ns) (map in_words is ++ (pool_words ms ∷ r)) q e).0)
same_inputs (i ∷ is) (j ∷ js) ms ns r q f g a b e =
    let both = cons_same (in_words i) (in_words j) (map in_words is ++ (pool_words ms ∷ r)) (map in_words js ++ (pool_words ns ∷ q)) e in
    let rest = same_inputs is js ms ns r q (All-tail InputFits i is f) (All-tail InputFits j js g) a b both.1 in
    (ap (λ x. x ∷ is) (one_input i j (All-head InputFits i is f) (All-head InputFits j js g) both.0) ∙ ap (λ xs. j ∷ xs) rest.0, rest.1, rest.2)

-- ---- rows that are said alike

one_arity : (a b : Arity) → count_of a ≡ count_of b → a ≡ b
one_arity arities.One arities.One e = refl
one_arity arities.One _ e = absurd (omega (arith, e))
one_arity arities.Two arities.Two e = refl
one_arity arities.Two _ e = absurd (omega (arith, e))
one_arity arities.Three arities.Three e = refl
one_arity arities.Three _ e = absurd (omega (arith, e))
one_arity arities.Four arities.Four e = refl
one_arity arities.Four _ e = absurd (omega (arith, e))

row_of : ℕ → Op → List ℕ → List ℕ → LaunchRow
row_of class op name operands = record { class = class; op = op; name = name; operands = operands }

same_launch : (r s : LaunchRow) → r.class ≡ s.class → r.op ≡ s.op → r.name ≡ s.name → r.operands ≡ s.operands → r ≡ s
unfolding row_of
same_launch r s a b c d =
    ap (λ x. row_of x r.op r.name r.operands) a ∙ ap (λ x. row_of s.class x r.name r.operands) b
    ∙ ap (λ x. row_of s.class s.op x r.operands) c ∙ ap (λ x. row_of s.class s.op s.name x) d

no_name : (name : List ℕ) (o : Op) → declared_index o ≡ None → (name ≡ []) ⊎ IsTrue (is_some (declared_index o)) → name ≡ []
no_name name o none (inl e) = e
no_name name o none (inr h) = absurd (false≢true (ap is_some (sym none) ∙ h))

declared_or : (o : Op) → (declared_index o ≡ None) ⊎ ((i : ℕ) × (a : Arity) × (o ≡ Declared i a))
declared_or Entry = inl refl
declared_or (Input r) = inl refl
declared_or (Constant n) = inl refl
declared_or (Word v) = inl refl
declared_or (Select access) = inl refl
declared_or (Store access) = inl refl
declared_or (Load access) = inl refl
declared_or (Put access) = inl refl
declared_or (Declared i a) = inr (i, a, refl)

same_lists : {X : Type 0} (xs ys : List X) (d : X) → length xs ≡ length ys → ((k : ℕ) → k < length xs → get_or xs k d ≡ get_or ys k d) → xs ≡ ys
same_lists [] [] d n h = refl
same_lists [] (y ∷ ys) d n h = absurd (omega arith)
same_lists (x ∷ xs) [] d n h = absurd (omega arith)
same_lists (x ∷ xs) (y ∷ ys) d n h =
    ap (λ z. z ∷ xs) (h 0 (omega arith)) ∙ ap (λ zs. y ∷ zs) (same_lists xs ys d (omega arith) (λ k lt. h (suc k) (omega arith)))

module _ (g h : LaunchGraph) (is : IsLaunchGraph g) (also : IsLaunchGraph h) (e : map said_row g.rows ≡ map said_row h.rows) where
  sizes : length g.rows ≡ length h.rows
  sizes = sym (map_count said_row g.rows) ∙ ap length e ∙ map_count said_row h.rows

  module _ (k : ℕ) (lt : k < length g.rows) where
    abbrev one : LaunchRow
    one = get_or g.rows k any_launch

    abbrev two : LaunchRow
    two = get_or h.rows k any_launch

    lt_too : k < length h.rows
    lt_too = (let n : length g.rows ≡ length h.rows = sizes in omega arith)

    said_alike : said_row one ≡ said_row two
    said_alike =
        sym (map_get said_row k g.rows (said_row any_launch) any_launch lt) ∙ ap (λ rs. get_or rs k (said_row any_launch)) e
        ∙ map_get said_row k h.rows (said_row any_launch) any_launch lt_too

    at_one : slice_get g.rows k ≡ Some one
    at_one = slice_get-get_or g.rows k any_launch lt

    at_two : slice_get h.rows k ≡ Some two
    at_two = slice_get-get_or h.rows k any_launch lt_too

    names_alike : names_upto g.rows (k + 1) ≡ names_upto h.rows (k + 1)
    names_alike = ap (λ rs. names_used [] (ops_of rs)) (sym (map_take said_row (k + 1) g.rows) ∙ ap (take (k + 1)) e ∙ map_take said_row (k + 1) h.rows)

    -- the numbers of a name are one
    number_alike : (i j : ℕ) → declared_index one.op ≡ Some i → declared_index two.op ≡ Some j → one.name ≡ two.name → i ≡ j
    number_alike i j d f same =
        let a = (names_are g is (k + 1) (omega arith)) in
        let b = (names_are h also (k + 1) (let l : k < length h.rows = lt_too in omega arith)) in
        let x = a.named k i one (omega arith) at_one d in
        let y = b.named k j two (omega arith) at_two f in
        let there : j < length (names_upto g.rows (k + 1)) = subst (λ ns. j < length ns) (sym names_alike) y.0 in
        let u = a.used j there in
        sym (one_name g is u.1 one u.0 k j i u.3 at_one u.4 d
        (sym u.5 ∙ ap (λ ns. get_or ns j []) names_alike ∙ y.1 ∙ sym same))

    ops_alike : SameSaid one.op two.op one.name two.name → (one.op ≡ two.op) × (one.name ≡ two.name)
    ops_alike (same_use i j d f same) = (declared_alike (declared_or one.op) (declared_or two.op), same)
      where
        declared_alike : (declared_index one.op ≡ None) ⊎ ((i : ℕ) × (a : Arity) × (one.op ≡ Declared i a))
            → (declared_index two.op ≡ None) ⊎ ((i : ℕ) × (a : Arity) × (two.op ≡ Declared i a)) → one.op ≡ two.op
        declared_alike (inl none) y = absurd (none-some i (sym none ∙ d))
        declared_alike (inr x) (inl none) = absurd (none-some j (sym none ∙ f))
        declared_alike (inr x) (inr y) =
            let number : x.0 ≡ y.0 = number_alike x.0 y.0 (ap declared_index x.2) (ap declared_index y.2) same in
            let counts : count_of x.1 ≡ count_of y.1 =
            sym (ap arity_of_op x.2) ∙ sym (is.arities k any_launch lt) ∙ ap (λ (r : RowLine). length r.operands) said_alike
            ∙ also.arities k any_launch lt_too ∙ ap arity_of_op y.2 in
            x.2 ∙ ap (λ n. Declared n x.1) number ∙ ap (λ a. Declared y.0 a) (one_arity x.1 y.1 counts) ∙ sym y.2
    ops_alike (same_plain same) = (same, plain_names (declared_or one.op))
      where
        plain_names : (declared_index one.op ≡ None) ⊎ ((i : ℕ) × (a : Arity) × (one.op ≡ Declared i a)) → one.name ≡ two.name
        plain_names (inl none) =
            no_name one.name one.op none (is.unnamed k any_launch lt)
            ∙ sym (no_name two.name two.op (sym (ap declared_index same) ∙ none) (also.unnamed k any_launch lt_too))
        plain_names (inr x) =
            use_names (ap (λ (o : Op). said_op o one.name) (sym x.2) ∙ ap (λ (r : RowLine). r.op) said_alike ∙ ap (λ (o : Op). said_op o two.name) (sym same ∙ x.2))
          where
            use_names : Use one.name ≡ Use two.name → one.name ≡ two.name
            use_names e = cc

    row_alike : one ≡ two
    row_alike =
        let both = ops_alike (same_said one.op two.op one.name two.name (ap (λ (r : RowLine). r.op) said_alike)) in
        same_launch one two (ap (λ (r : RowLine). r.class) said_alike) both.0 both.1 (ap (λ (r : RowLine). r.operands) said_alike)

  pub rows_alike : g.rows ≡ h.rows
  rows_alike = same_lists g.rows h.rows any_launch sizes row_alike

graph_of : List LaunchRow → List ℕ → ℕ → List InputClass → List ℕ → Option Guard → List SetClass → LaunchGraph
graph_of rows multiples entry inputs pool guard sets =
    record {
      rows = rows;
      multiples = multiples;
      entry = entry;
      inputs = inputs;
      pool = pool;
      guard = guard;
      sets = sets;
    }

-- rows have one list of multiples
abbrev pub HaveOneList : Type 0
HaveOneList = (rows : List LaunchRow) (ms ns : List ℕ) → AreMultiplesOf rows ms → AreMultiplesOf rows ns → ms ≡ ns

multiples_alike : HaveOneList → (g h : LaunchGraph) → IsLaunchGraph g → IsLaunchGraph h → g.rows ≡ h.rows
    → g.multiples ≡ h.multiples
multiples_alike lists g h is also same =
    lists h.rows g.multiples h.multiples (subst (λ rows. AreMultiplesOf rows g.multiples) same is.multiples)
    also.multiples

by_parts : (g h : LaunchGraph) → g.rows ≡ h.rows → g.multiples ≡ h.multiples → g.entry ≡ h.entry
    → g.inputs ≡ h.inputs → g.pool ≡ h.pool → g.guard ≡ h.guard → g.sets ≡ h.sets → g ≡ h
unfolding graph_of
by_parts g h a m b c d e f =
    ap (λ x. graph_of x g.multiples g.entry g.inputs g.pool g.guard g.sets) a
    ∙ ap (λ x. graph_of h.rows x g.entry g.inputs g.pool g.guard g.sets) m
    ∙ ap (λ x. graph_of h.rows h.multiples x g.inputs g.pool g.guard g.sets) b
    ∙ ap (λ x. graph_of h.rows h.multiples h.entry x g.pool g.guard g.sets) c
    ∙ ap (λ x. graph_of h.rows h.multiples h.entry h.inputs x g.guard g.sets) d
    ∙ ap (λ x. graph_of h.rows h.multiples h.entry h.inputs h.pool x g.sets) e
    ∙ ap (λ x. graph_of h.rows h.multiples h.entry h.inputs h.pool h.guard x) f

pub same_graph : HaveOneList → (g h : LaunchGraph) → IsLaunchGraph g → IsLaunchGraph h → g.rows ≡ h.rows
    → g.entry ≡ h.entry → g.inputs ≡ h.inputs → g.pool ≡ h.pool → g.guard ≡ h.guard → g.sets ≡ h.sets → g ≡ h
same_graph lists g h is also a b c d e f = by_parts g h a (multiples_alike lists g h is also a) b c d e f

one_count : (a b : ℕ) (words : Words) → a ≤ 1000000 → b ≤ 1000000 → words ≡ rows_words a → words ≡ rows_words b → a ≡ b
one_count a b words la lb e f =
    decimal_injective a b (omega arith) (omega arith)
    (head_same (decimal a) (decimal b) [] [] (rest_same (codes "rows") (codes "rows") (decimal a ∷ []) (decimal b ∷ []) (sym e ∙ f)))

from_split : (lines : List Line) (a c : ℕ) → a ≤ c → words_from lines a ≡ words_between lines a c ++ words_from lines c
from_split lines a c le =
    ap words_of_lines (drop_split lines a c le)
    ∙ map-append (λ (l : Line). l.words) (slice_range lines a c) (drop c lines)

words_count : (ls : List Line) → length (words_of_lines ls) ≡ length ls
words_count [] = refl
words_count (l ∷ ls) = ap suc (words_count ls)

module _ {version : ℕ} (names : (o p : WordOp) → name_of o ≡ name_of p → o ≡ p) (lists : HaveOneList)
    (lines : List Line) (from : ℕ) where
  module _ (n m : ℕ) (g h : LaunchGraph) (p : IsGraphOf version lines from n g) (q : IsGraphOf version lines from m h) where
    abbrev count : ℕ
    count = length (map said_row g.rows)

    counts : count ≡ length (map said_row h.rows)
    counts = one_count count (length (map said_row h.rows)) (line_at lines from).words p.are.few q.are.few (parts lines from n g p).0 (parts lines from m h q).0

    same_rows : map said_row g.rows ≡ map said_row h.rows
    same_rows =
        rows_once names (take count (drop (from + 1) lines)) (map said_row g.rows) (map said_row h.rows)
        (each_lines (take count (drop (from + 1) lines)) (map said_row g.rows) (block lines from n g p))
        (subst (λ k. AreRowLines (take k (drop (from + 1) lines)) (map said_row h.rows)) (sym counts)
        (each_lines (take (length (map said_row h.rows)) (drop (from + 1) lines)) (map said_row h.rows) (block lines from m h q)))

    tails : tail_lines (said g) ++ words_from lines n ≡ tail_lines (said h) ++ words_from lines m
    tails =
        let r : from + 1 + count < n = room lines from n g p in
        let s : from + 1 + length (map said_row h.rows) < m = room lines from m h q in
        ap (λ ws. ws ++ words_from lines n) (sym (tail_are lines from n g p))
        ∙ sym (from_split lines (from + 1 + count) n (omega arith))
        ∙ ap (λ k. words_from lines (from + 1 + k)) counts
        ∙ from_split lines (from + 1 + length (map said_row h.rows)) m (omega arith)
        ∙ ap (λ ws. ws ++ words_from lines m) (tail_are lines from m h q)

    tail_then : (x : GraphLines) (rest : List Words) → tail_lines x ++ rest
        ≡ entry_words x.entry ∷ (map in_words x.inputs ++ (pool_words x.pool ∷ (guard_lines x.guard ++ (map set_words x.sets ++ rest))))
    tail_then x rest = simp append_assoc

    pub graph_once : (n ≡ m) × (g ≡ h)
    graph_once =
        let first = cons_same (entry_words g.entry) (entry_words h.entry)
        (map in_words g.inputs ++ (pool_words g.pool ∷ (guard_lines g.guard ++ (map set_words g.sets ++ words_from lines n))))
        (map in_words h.inputs ++ (pool_words h.pool ∷ (guard_lines h.guard ++ (map set_words h.sets ++ words_from lines m))))
        (sym (tail_then (said g) (words_from lines n)) ∙ tails ∙ tail_then (said h) (words_from lines m)) in
        let second = same_inputs g.inputs h.inputs g.pool h.pool
        (guard_lines g.guard ++ (map set_words g.sets ++ words_from lines n))
        (guard_lines h.guard ++ (map set_words h.sets ++ words_from lines m)) p.are.inputs q.are.inputs p.are.pool q.are.pool first.1 in
        let third = same_targets g.guard h.guard g.sets h.sets (words_from lines n) (words_from lines m) p.are.guard q.are.guard (All-weaker (SetFits version) SetIsLow (set_low version) g.sets p.are.sets) (All-weaker (SetFits version) SetIsLow (set_low version) h.sets q.are.sets) p.ends q.ends second.2 in
        let low : g.entry < 2 ^ 31 = p.are.entry in
        let less : h.entry < 2 ^ 31 = q.are.entry in
        let entries : g.entry ≡ h.entry =
        decimal_injective g.entry h.entry (omega arith) (omega arith)
        (head_same (decimal g.entry) (decimal h.entry) [] [] (rest_same (codes "entry") (codes "entry") (decimal g.entry ∷ []) (decimal h.entry ∷ []) first.0)) in
        let left : length (words_from lines n) ≡ length (words_from lines m) = ap length third.2 in
        let a : length (words_from lines n) ≡ length (drop n lines) = words_count (drop n lines) in
        let b : length (words_from lines m) ≡ length (drop m lines) = words_count (drop m lines) in
        let x : length (drop n lines) ≡ length lines - n = length-drop n lines in
        let y : length (drop m lines) ≡ length lines - m = length-drop m lines in
        let wn : n ≤ length lines = p.within in
        let wm : m ≤ length lines = q.within in (
          omega arith,
          same_graph lists g h p.well_formed q.well_formed (rows_alike g h p.well_formed q.well_formed same_rows)
              entries second.0 second.1 third.0 third.1,
        )
