-- Forms that are printed one after another.
use Rattle.std.proofs.Common.{◌≡◌, ℕ, zero, suc, ◌+◌, ◌<◌, ◌≤◌, ◌++◌, List, [], ◌∷◌, length, map, take, get_or, refl, sym, ap, ◌∙◌, arith, append_assoc, append-nil, option_map, true, false, Option, None, Some, Ok, Err, Result}
use Rattle.std.specs.Prelude.{OnOk, is_some}
use Rattle.std.specs.Option.{option_map_or}
use Rattle.std.specs.List.{flat_map}
use Rattle.forms.specs.Forms.{Atom}
use Rattle.forms.specs.Printing.{Plain, atom_text, plains_from, plain_text, others_of, lines_of}
use Rattle.word_ops.specs.declared.sorts.Op.{Op}
use Rattle.word_terms.specs.Tree.{operands_of}
use Rattle.word_terms.specs.declared.term.Term.{Term}
use Rattle.word_terms.specs.View.{tree_of}
use Rattle.goal_meaning.specs.declared.goals.Assume.{Assume}
use Rattle.goal_meaning.specs.declared.goals.Axiom.{Axiom}
use Rattle.goal_meaning.specs.declared.goals.Goal.{Goal}
use Rattle.goal_meaning.specs.declared.goals.Input.{Input}
use Rattle.goal_meaning.specs.declared.goals.Let.{Let}
use Rattle.goal_meaning.specs.declared.goals.Set.{Set}
use Rattle.goal_meaning.specs.declared.goals.DeclaredOp.{DeclaredOp}
use Rattle.goal_meaning.specs.InputForms.{Naming, term_plain, terms_plain, atom_or, assume_plain, axiom_plain, declaration_plain, goal_plain, guard_plains, input_plain, let_plain, machine_plains, pool_plain, target_plain}
use Rattle.goal_reader.specs.Printing.{input_text}
use Rattle.goal_meaning.specs.Views.{assume_view, axiom_view, goal_view, input_view, let_view, target_view}
use Rattle.std.proofs.lemmas.List.{take_more}
use Rattle.std.proofs.lemmas.Grind.{flat_map-append}

-- the text of the next item, after those of the items so far
pub each_more : {X : Type 0} (f : X → List ℕ) (xs : List X) (i : ℕ) (d : X) (start text new : List ℕ)
    → i < length xs → text ≡ start ++ flat_map f (take i xs) → new ≡ text ++ f (get_or xs i d) → new ≡ start ++ flat_map f (take (i + 1) xs)
each_more f xs i d start text new lt so_far more =
    more ∙ ap (λ l. l ++ f (get_or xs i d)) so_far ∙ append_assoc start (flat_map f (take i xs)) (f (get_or xs i d))
    ∙ ap (λ l. start ++ l) (sym (ap (flat_map f) (take_more xs i d lt) ∙ flat_map-append f (take i xs) (get_or xs i d ∷ []) ∙ ap (λ l. flat_map f (take i xs) ++ l) (append-nil (f (get_or xs i d)))))

pub others_each : {X : Type 0} (f : X → Plain) (xs : List X) → others_of (plains_from (map f xs)) ≡ flat_map (λ x. 32 ∷ plain_text (f x)) xs
others_each f [] = refl
others_each f (x ∷ xs) = ap (λ l. 32 ∷ plain_text (f x) ++ l) (others_each f xs)

line_first : (p : Plain) (rest : List ℕ) → plain_text p ++ 10 ∷ rest ≡ (plain_text p ++ 10 ∷ []) ++ rest
line_first p rest = sym (append_assoc (plain_text p) (10 ∷ []) rest)

-- several forms, each of them before a line feed
pub lines_each : {X : Type 0} (f : X → Plain) (xs : List X) → lines_of (plains_from (map f xs)) ≡ flat_map (λ x. plain_text (f x) ++ 10 ∷ []) xs
lines_each f [] = refl
lines_each f (x ∷ xs) = line_first (f x) (lines_of (plains_from (map f xs))) ∙ ap (λ l. (plain_text (f x) ++ 10 ∷ []) ++ l) (lines_each f xs)

taken_all : {X : Type 0} (xs : List X) (i : ℕ) → length xs ≤ i → take i xs ≡ xs
taken_all [] zero h = refl
taken_all [] (suc i) h = refl
taken_all (x ∷ xs) zero h = absurd (omega arith)
taken_all (x ∷ xs) (suc i) h = ap (λ l. x ∷ l) (taken_all xs i (omega arith))

-- all of them, each behind a space
pub all_printed : {X : Type 0} (f : X → Plain) (xs : List X) (i : ℕ) (start text : List ℕ)
    → length xs ≤ i → text ≡ start ++ flat_map (λ x. 32 ∷ plain_text (f x)) (take i xs) → text ≡ start ++ others_of (plains_from (map f xs))
all_printed f xs i start text all so_far =
    so_far ∙ ap (λ l. start ++ flat_map (λ x. 32 ∷ plain_text (f x)) l) (taken_all xs i all) ∙ ap (λ l. start ++ l) (sym (others_each f xs))

pub all_lines : {X : Type 0} (f : X → Plain) (xs : List X) (i : ℕ) (start text : List ℕ)
    → length xs ≤ i → text ≡ start ++ flat_map (λ x. plain_text (f x) ++ 10 ∷ []) (take i xs) → text ≡ start ++ lines_of (plains_from (map f xs))
all_lines f xs i start text all so_far =
    so_far ∙ ap (λ l. start ++ flat_map (λ x. plain_text (f x) ++ 10 ∷ []) l) (taken_all xs i all) ∙ ap (λ l. start ++ l) (sym (lines_each f xs))

-- ---- one list behind another
pub others_both : (xs ys : List Plain) → others_of (plains_from (xs ++ ys)) ≡ others_of (plains_from xs) ++ others_of (plains_from ys)
others_both [] ys = refl
others_both (x ∷ xs) ys = ap (λ l. 32 ∷ plain_text x ++ l) (others_both xs ys) ∙ ap (λ l. 32 ∷ l) (sym (append_assoc (plain_text x) (others_of (plains_from xs)) (others_of (plains_from ys))))

pub lines_both : (xs ys : List Plain) → lines_of (plains_from (xs ++ ys)) ≡ lines_of (plains_from xs) ++ lines_of (plains_from ys)
lines_both [] ys = refl
lines_both (x ∷ xs) ys = ap (λ l. plain_text x ++ 10 ∷ l) (lines_both xs ys) ∙ sym (append_assoc (plain_text x) (10 ∷ lines_of (plains_from xs)) (lines_of (plains_from ys)))

pub map_twice : {X Y Z : Type 0} (f : Y → Z) (g : X → Y) (xs : List X) → map f (map g xs) ≡ map (λ x. f (g x)) xs
map_twice f g [] = refl
map_twice f g (x ∷ xs) = ap (λ l. f (g x) ∷ l) (map_twice f g xs)

-- what stands in a goal behind its name
pub goal_items : (declared : List DeclaredOp) (g : Goal) (names : Naming) → others_of (plains_from (map input_plain g.inputs ++ (pool_plain g.pool ∷ (map (let_plain names) (map let_view g.lets) ++ (map (assume_plain names) (map assume_view g.assumes)
    ++ (guard_plains names (option_map tree_of g.guard) ++ map (target_plain names) (map target_view g.sets)))))))
    ≡ others_of (plains_from (map input_plain g.inputs)) ++ (32 ∷ plain_text (pool_plain g.pool) ++ (others_of (plains_from (map (λ (l : Let). let_plain names (let_view l)) g.lets)) ++ (others_of (plains_from (map (λ (a : Assume). assume_plain names (assume_view a)) g.assumes))
    ++ (others_of (plains_from (guard_plains names (option_map tree_of g.guard))) ++ others_of (plains_from (map (λ (t : Set). target_plain names (target_view t)) g.sets))))))
goal_items declared g names =
    let lets = map_twice (let_plain names) let_view g.lets in
    let assumes = map_twice (assume_plain names) assume_view g.assumes in
    let targets = map_twice (target_plain names) target_view g.sets in
    let guards = guard_plains names (option_map tree_of g.guard) in
    let behind = map (assume_plain names) (map assume_view g.assumes) ++ (guards ++ map (target_plain names) (map target_view g.sets)) in
    others_both (map input_plain g.inputs) _
    ∙ ap (λ l. others_of (plains_from (map input_plain g.inputs)) ++ (32 ∷ plain_text (pool_plain g.pool) ++ l))
    (others_both (map (let_plain names) (map let_view g.lets)) behind
    ∙ ap (λ l. others_of (plains_from l) ++ others_of (plains_from behind)) lets
    ∙ ap (λ l. others_of (plains_from (map (λ (x : Let). let_plain names (let_view x)) g.lets)) ++ l)
    (others_both (map (assume_plain names) (map assume_view g.assumes)) (guards ++ map (target_plain names) (map target_view g.sets))
    ∙ ap (λ l. others_of (plains_from l) ++ others_of (plains_from (guards ++ map (target_plain names) (map target_view g.sets)))) assumes
    ∙ ap (λ l. others_of (plains_from (map (λ (a : Assume). assume_plain names (assume_view a)) g.assumes)) ++ l)
    (others_both guards (map (target_plain names) (map target_view g.sets)) ∙ ap (λ l. others_of (plains_from guards) ++ others_of (plains_from l)) targets)))

-- the lines of an input
pub input_lines : (i : Input) → input_text (input_view i) ≡ lines_of (plains_from (machine_plains (input_view i))) ++ (lines_of (plains_from (map declaration_plain i.ops))
    ++ (lines_of (plains_from (map (λ (a : Axiom). axiom_plain i.ops (axiom_view a)) i.axioms)) ++ lines_of (plains_from (map (λ (g : Goal). goal_plain i.ops (goal_view g)) i.goals))))
input_lines i =
    let axs = map_twice (axiom_plain i.ops) axiom_view i.axioms in
    let gs = map_twice (goal_plain i.ops) goal_view i.goals in
    lines_both (machine_plains (input_view i)) _
    ∙ ap (λ l. lines_of (plains_from (machine_plains (input_view i))) ++ l)
    (lines_both (map declaration_plain i.ops) _
    ∙ ap (λ l. lines_of (plains_from (map declaration_plain i.ops)) ++ l)
    (lines_both (map (axiom_plain i.ops) (map axiom_view i.axioms)) (map (goal_plain i.ops) (map goal_view i.goals))
    ∙ ap (λ l. lines_of (plains_from l) ++ lines_of (plains_from (map (goal_plain i.ops) (map goal_view i.goals)))) axs
    ∙ ap (λ l. lines_of (plains_from (map (λ (a : Axiom). axiom_plain i.ops (axiom_view a)) i.axioms)) ++ lines_of (plains_from l)) gs))

-- ---- a term
pub on_ok : {X E : Type 0} {P Q : Type 0} (r : Result X E) → (P → Q) → OnOk r P → OnOk r Q
on_ok (Ok x) f p = f p
on_ok (Err e) f p = tt

pub leaf_text : (o : Option Atom) (p : Plain) → is_some o ≡ true → option_map_or atom_text o [] ≡ plain_text (atom_or o p)
leaf_text (Some a) p e = refl
leaf_text None p e = cc

pub no_leaf : (o : Option Atom) (p : Plain) → is_some o ≡ false → plain_text (atom_or o p) ≡ plain_text p
no_leaf (Some a) p e = cc
no_leaf None p e = refl

pub terms_text : (names : Naming) (ts : List (Term Op)) → others_of (terms_plain names (operands_of (map tree_of ts))) ≡ flat_map (λ (t : Term Op). 32 ∷ plain_text (term_plain names (tree_of t))) ts
terms_text names [] = refl
terms_text names (t ∷ ts) = ap (λ l. 32 ∷ plain_text (term_plain names (tree_of t)) ++ l) (terms_text names ts)

pub all_terms : (names : Naming) (ts : List (Term Op)) (i : ℕ) (start text : List ℕ) → length ts ≤ i → text ≡ start ++ flat_map (λ (t : Term Op). 32 ∷ plain_text (term_plain names (tree_of t))) (take i ts)
    → text ≡ start ++ others_of (terms_plain names (operands_of (map tree_of ts)))
all_terms names ts i start text all so_far =
    so_far ∙ ap (λ l. start ++ flat_map (λ (t : Term Op). 32 ∷ plain_text (term_plain names (tree_of t))) l) (taken_all ts i all) ∙ ap (λ l. start ++ l) (sym (terms_text names ts))

pub list_printed : (old a b c d n rest : List ℕ) → a ≡ old ++ 40 ∷ [] → b ≡ a ++ n → c ≡ b ++ rest → d ≡ c ++ 41 ∷ [] → d ≡ old ++ 40 ∷ ((n ++ rest) ++ 41 ∷ [])
list_printed old a b c d n rest e1 e2 e3 e4 =
    e4 ∙ ap (λ l. l ++ 41 ∷ []) (e3 ∙ ap (λ l. l ++ rest) (e2 ∙ ap (λ l. l ++ n) e1))
    ∙ append_assoc ((old ++ 40 ∷ []) ++ n) rest (41 ∷ []) ∙ append_assoc (old ++ 40 ∷ []) n (rest ++ 41 ∷ []) ∙ append_assoc old (40 ∷ []) (n ++ (rest ++ 41 ∷ []))
    ∙ ap (λ l. old ++ 40 ∷ l) (sym (append_assoc n rest (41 ∷ [])))

-- ---- one text behind another
then : (x0 x y u v : List ℕ) → x ≡ x0 ++ u → y ≡ x ++ v → y ≡ x0 ++ (u ++ v)
then x0 x y u v e f = f ∙ ap (λ l. l ++ v) e ∙ append_assoc x0 u v

pub goal_printed : (old x1 x2 x3 x4 x5 y x6 x7 x8 x9 w n a p t b g s o : List ℕ) → o ≡ a ++ (32 ∷ p ++ (t ++ (b ++ (g ++ s)))) → x1 ≡ old ++ w → x2 ≡ x1 ++ n → x3 ≡ x2 ++ a → x4 ≡ x3 ++ 32 ∷ [] → x5 ≡ x4 ++ p → y ≡ x5 ++ t → x6 ≡ y ++ b → x7 ≡ x6 ++ g → x8 ≡ x7 ++ s
    → x9 ≡ x8 ++ 41 ∷ [] → x9 ≡ old ++ (w ++ ((n ++ o) ++ 41 ∷ []))
goal_printed old x1 x2 x3 x4 x5 y x6 x7 x8 x9 w n a p t b g s o is e1 e2 e3 e4 e5 ey e6 e7 e8 e9 =
    let end : List ℕ = 41 ∷ [] in
    let f8 = then x7 x8 x9 s end e8 e9 in
    let f7 = then x6 x7 x9 g (s ++ end) e7 f8 in
    let f6 = then y x6 x9 b (g ++ (s ++ end)) e6 f7 in
    let fy = then x5 y x9 t (b ++ (g ++ (s ++ end))) ey f6 in
    let f5 = then x4 x5 x9 p (t ++ (b ++ (g ++ (s ++ end)))) e5 fy in
    let f4 = then x3 x4 x9 (32 ∷ []) (p ++ (t ++ (b ++ (g ++ (s ++ end))))) e4 f5 in
    let f3 = then x2 x3 x9 a (32 ∷ p ++ (t ++ (b ++ (g ++ (s ++ end))))) e3 f4 in
    let f2 = then x1 x2 x9 n (a ++ (32 ∷ p ++ (t ++ (b ++ (g ++ (s ++ end)))))) e2 f3 in
    let f1 = then old x1 x9 w (n ++ (a ++ (32 ∷ p ++ (t ++ (b ++ (g ++ (s ++ end))))))) e1 f2 in
    let moved : o ++ end ≡ a ++ (32 ∷ p ++ (t ++ (b ++ (g ++ (s ++ end))))) =
    ap (λ l. l ++ end) is ∙ append_assoc a (32 ∷ p ++ (t ++ (b ++ (g ++ s)))) end
    ∙ ap (λ l. a ++ 32 ∷ l) (append_assoc p (t ++ (b ++ (g ++ s))) end ∙ ap (λ l. p ++ l) (append_assoc t (b ++ (g ++ s)) end
    ∙ ap (λ l. t ++ l) (append_assoc b (g ++ s) end ∙ ap (λ l. b ++ l) (append_assoc g s end)))) in
    f1 ∙ ap (λ l. old ++ (w ++ l)) (ap (λ l. n ++ l) (sym moved) ∙ sym (append_assoc n o end))

pub input_printed : (x0 x1 x2 x3 m d a g : List ℕ) → x0 ≡ m → x1 ≡ x0 ++ d → x2 ≡ x1 ++ a → x3 ≡ x2 ++ g → x3 ≡ m ++ (d ++ (a ++ g))
input_printed x0 x1 x2 x3 m d a g e0 e1 e2 e3 = then x0 x1 x3 d (a ++ g) e1 (then x1 x2 x3 a g e2 e3) ∙ ap (λ l. l ++ (d ++ (a ++ g))) e0
