-- Which row applies an operator to operands, and that it stays the one when rows are put behind the others.
use Rattle.std.proofs.Common.{◌≡◌, ℕ, zero, suc, ◌+◌, ◌<◌, ◌==◌, Bool, true, false, cond, List, [], ◌∷◌, ◌++◌, length, get_or, take, drop, Option, Some, None, option_map, refl, sym, ap, ap₂, ◌∙◌, subst, arith, eq-eqb, eqb-true, bytes_eq, find, is_some, unwrap_or, if◌then◌else◌, All, Contains, IsTrue}
use Rattle.std.specs.Option.{option_or}
use Rattle.std.proofs.lemmas.Bool.{and_from, and_parts}
use Rattle.std.proofs.lemmas.List.{append-nil, append_assoc, drop_more, map-append, take-append-drop, take_more}
use Rattle.std.proofs.lemmas.List.Elements.{All-head, All-tail}
use Rattle.std.proofs.lemmas.List.Folds.{find-append}
use Rattle.std.proofs.lemmas.Option.{none-some, same_Some}
use Rattle.std.proofs.lemmas.Slice.Eq.{bytes_eq-Decides}
use Rattle.word_ops.specs.declared.sorts.Op.{Op}
use Rattle.word_terms.specs.Keys.{key_of}
use Rattle.word_terms.specs.Laws.{op_key_is_own}
use Rattle.graph_meaning.specs.Graphs.{plain_row}
use Rattle.graph_meaning.specs.WellFormed.{next_class}
use Rattle.graph_meaning.specs.declared.graphs.LaunchRow.{LaunchRow}
use Rattle.own_graph.specs.Own.{with_row_of}
use Rattle.own_graph.specs.Rows.{HasItsRow, applies, class_in, class_of_part, class_with, classes_of, is_op, with_applied, with_leaves, with_row}
use Rattle.own_graph.specs.declared.operands.Part.{Part}
use Rattle.own_graph.specs.declared.operands.Part.TheVariants.{Class, Leaf}

-- ---- the operator and the operands of a row

pub is_op_itself : (a : Op) → is_op a a ≡ true
is_op_itself a =
    and_from ((key_of a).0 == (key_of a).0) ((key_of a).1 == (key_of a).1) (eq-eqb (key_of a).0 (key_of a).0 refl) (eq-eqb (key_of a).1 (key_of a).1 refl)

abbrev pair : ℕ → ℕ → ℕ × ℕ
pair m n = (m, n)

pub one_op : (a b : Op) → is_op a b ≡ true → a ≡ b
one_op a b e =
    let parts = and_parts ((key_of a).0 == (key_of b).0) ((key_of a).1 == (key_of b).1) e in
    let first : (key_of a).0 ≡ (key_of b).0 = eqb-true (key_of a).0 (key_of b).0 parts.0 in
    let second : (key_of a).1 ≡ (key_of b).1 = eqb-true (key_of a).1 (key_of b).1 parts.1 in
    op_key_is_own a b (ap₂ pair first second)

pub applies_itself : (class : ℕ) (op : Op) (operands : List ℕ) → applies op operands (plain_row class op operands) ≡ true
applies_itself class op operands =
    and_from (is_op op op) (bytes_eq operands operands) (is_op_itself op) ((bytes_eq-Decides operands operands).1 refl)

pub applies_same : (op : Op) (operands : List ℕ) (r : LaunchRow) → r.op ≡ op → r.operands ≡ operands → applies op operands r ≡ true
applies_same op operands r e f =
    and_from (is_op r.op op) (bytes_eq r.operands operands) (subst (λ o. is_op r.op o ≡ true) e (is_op_itself r.op)) ((bytes_eq-Decides r.operands operands).1 f)

its_operands : (op : Op) (operands : List ℕ) (r : LaunchRow) → applies op operands r ≡ true → r.operands ≡ operands
its_operands op operands r e = (bytes_eq-Decides r.operands operands).0 (and_parts (is_op r.op op) (bytes_eq r.operands operands) e).1

pub its_op : (op : Op) (operands : List ℕ) (r : LaunchRow) → applies op operands r ≡ true → r.op ≡ op
its_op op operands r e = one_op r.op op (and_parts (is_op r.op op) (bytes_eq r.operands operands) e).0

-- ---- what is found

found_in : (test : LaunchRow → Bool) (rows : List LaunchRow) (r : LaunchRow) → find test rows ≡ Some r → Contains rows r × (test r ≡ true)
found_in test [] r e = absurd (none-some r e)
found_in test (x ∷ xs) r e = by (test x) refl e (found_in test xs r)
  where
    by : (b : Bool) → test x ≡ b → cond b (Some x) (find test xs) ≡ Some r → (find test xs ≡ Some r → Contains xs r × (test r ≡ true)) → Contains (x ∷ xs) r × (test r ≡ true)
    by true h f later =
        let same : x ≡ r = same_Some x r f in
        ((0, omega arith, same), subst (λ y. test y ≡ true) same h)
    by false h f later =
        let rest = later f in
        let there = rest.0 in
        ((suc there.0, (let m = there.1 in omega arith), there.2), rest.1)

nowhere : (test : LaunchRow → Bool) (rows : List LaunchRow) (k : ℕ) (d : LaunchRow) → find test rows ≡ None → k < length rows → test (get_or rows k d) ≡ true → ⊥
nowhere test [] k d e l t = absurd (omega arith)
nowhere test (x ∷ xs) k d e l t = by (test x) refl e (λ j f m u. nowhere test xs j d f m u) k l t
  where
    by : (b : Bool) → test x ≡ b → cond b (Some x) (find test xs) ≡ None → ((j : ℕ) → find test xs ≡ None → j < length xs → test (get_or xs j d) ≡ true → ⊥) → (k : ℕ) → k < suc (length xs) → test (get_or (x ∷ xs) k d) ≡ true → ⊥
    by true h f later k l t = none-some x (sym f)
    by false h f later zero l t = let k : false ≡ true = sym h ∙ t in absurd (cc)
    by false h f later (suc k) l t = later k f (omega arith) t

-- where none of the first i rows passes, the next one does or doesn't
pub none_more : (test : LaunchRow → Bool) (rows : List LaunchRow) (i : ℕ) (d : LaunchRow) → i < length rows → find test (take i rows) ≡ None → test (get_or rows i d) ≡ false → find test (take (i + 1) rows) ≡ None
none_more test rows i d l e f =
    let row = get_or rows i d in
    ap (find test) (take_more rows i d l) ∙ find-append test (take i rows) (row ∷ [])
    ∙ ap (λ o. option_or o (cond (test row) (Some row) None)) e ∙ ap (λ b. cond b (Some row) None) f

pub first_found : (test : LaunchRow → Bool) (rows : List LaunchRow) (i : ℕ) (d : LaunchRow) → i < length rows → find test (take i rows) ≡ None → test (get_or rows i d) ≡ true → find test rows ≡ Some (get_or rows i d)
first_found test rows i d l e f =
    let row = get_or rows i d in
    let rest = drop (i + 1) rows in
    ap (find test) (sym (take-append-drop i rows)) ∙ find-append test (take i rows) (drop i rows)
    ∙ ap (λ rs. option_or (find test (take i rows)) (find test rs)) (drop_more rows i d l)
    ∙ ap (λ o. option_or o (cond (test row) (Some row) (find test rest))) e ∙ ap (λ b. cond b (Some row) (find test rest)) f

-- a row in this class applies the operator to the operands
pub record IsFound (rows : List LaunchRow) (op : Op) (operands : List ℕ) (class : ℕ) : Type 0 where
  pub row : LaunchRow
  pub there : Contains rows row
  pub op_is : row.op ≡ op
  pub operands_are : row.operands ≡ operands
  pub of_class : row.class ≡ class

pub found : (rows : List LaunchRow) (op : Op) (operands : List ℕ) (class : ℕ) → class_in rows op operands ≡ Some class → IsFound rows op operands class
found rows op operands class e = by (find (applies op operands) rows) refl e
  where
    by : (o : Option LaunchRow) → find (applies op operands) rows ≡ o → option_map (λ (r : LaunchRow). r.class) o ≡ Some class → IsFound rows op operands class
    by None f g = absurd (none-some class g)
    by (Some r) f g =
        let is = found_in (applies op operands) rows r f in
        record { row = r; there = is.0; op_is = its_op op operands r is.1; operands_are = its_operands op operands r is.1; of_class = same_Some r.class class g }

pub not_found : (rows : List LaunchRow) (op : Op) (operands : List ℕ) (k : ℕ) (d : LaunchRow) → class_in rows op operands ≡ None → k < length rows → (get_or rows k d).op ≡ op → (get_or rows k d).operands ≡ operands → ⊥
not_found rows op operands k d e l f g = by (find (applies op operands) rows) refl e
  where
    by : (o : Option LaunchRow) → find (applies op operands) rows ≡ o → option_map (λ (r : LaunchRow). r.class) o ≡ None → ⊥
    by None h i = nowhere (applies op operands) rows k d h l (applies_same op operands (get_or rows k d) f g)
    by (Some r) h i = none-some r.class (sym i)

-- ---- rows behind others

-- the first of the longer rows are the others
pub record IsLonger (rows longer : List LaunchRow) : Type 0 where
  pub more : List LaunchRow
  pub is : longer ≡ rows ++ more

pub not_longer : (rows : List LaunchRow) → IsLonger rows rows
not_longer rows = record { more = []; is = sym (append-nil rows) }

pub longer_still : (a b c : List LaunchRow) → IsLonger a b → IsLonger b c → IsLonger a c
longer_still a b c h k = record { more = h.more ++ k.more; is = k.is ∙ ap (λ rs. rs ++ k.more) h.is ∙ append_assoc a h.more k.more }

pub with_behind : (rows : List LaunchRow) (r : LaunchRow) → IsLonger rows (rows ++ r ∷ [])
with_behind rows r = record { more = r ∷ []; is = refl }

pub row_behind : (rows : List LaunchRow) (op : Op) (operands : List ℕ) → IsLonger rows (with_row rows op operands)
row_behind rows op operands = by (is_some (class_in rows op operands))
  where
    by : (b : Bool) → IsLonger rows (if b then rows else rows ++ plain_row (next_class rows) op operands ∷ [])
    by true = not_longer rows
    by false = with_behind rows (plain_row (next_class rows) op operands)

pub row_of_behind : (class : ℕ) (rows : List LaunchRow) (op : Op) (operands : List ℕ) → IsLonger rows (with_row_of class rows op operands)
row_of_behind class rows op operands = by (is_some (class_in rows op operands))
  where
    by : (b : Bool) → IsLonger rows (if b then rows else rows ++ plain_row class op operands ∷ [])
    by true = not_longer rows
    by false = with_behind rows (plain_row class op operands)

pub leaves_behind : (rows : List LaunchRow) (parts : List Part) → IsLonger rows (with_leaves rows parts)
leaves_behind rows [] = not_longer rows
leaves_behind rows (Class c ∷ parts) = leaves_behind rows parts
leaves_behind rows (Leaf op ∷ parts) = longer_still rows (with_row rows op []) (with_leaves (with_row rows op []) parts) (row_behind rows op []) (leaves_behind (with_row rows op []) parts)

pub applied_behind : (rows : List LaunchRow) (op : Op) (parts : List Part) → IsLonger rows (with_applied rows op parts)
applied_behind rows op parts =
    let all = with_leaves rows parts in
    longer_still rows all (with_row all op (classes_of all parts)) (leaves_behind rows parts) (row_behind all op (classes_of all parts))

-- ---- a row that is found stays the one

pub class_stays : (rows longer : List LaunchRow) (op : Op) (operands : List ℕ) (class : ℕ) → IsLonger rows longer → class_in rows op operands ≡ Some class → class_in longer op operands ≡ Some class
class_stays rows longer op operands class h e =
    ap (λ rs. class_in rs op operands) h.is
    ∙ ap (option_map (λ (r : LaunchRow). r.class)) (find-append (applies op operands) rows h.more)
    ∙ by (find (applies op operands) rows) e
  where
    by : (o : Option LaunchRow) → option_map (λ (r : LaunchRow). r.class) o ≡ Some class → option_map (λ (r : LaunchRow). r.class) (option_or o (find (applies op operands) h.more)) ≡ Some class
    by None f = absurd (none-some class f)
    by (Some r) f = f

-- where no row applies the operator to the operands, the next one that does is found
pub class_behind : (rows : List LaunchRow) (op : Op) (operands : List ℕ) (class : ℕ) → class_in rows op operands ≡ None → class_in (rows ++ plain_row class op operands ∷ []) op operands ≡ Some class
class_behind rows op operands class e =
    ap (option_map (λ (r : LaunchRow). r.class)) (find-append (applies op operands) rows (plain_row class op operands ∷ []))
    ∙ by (find (applies op operands) rows) e
    ∙ ap (λ b. option_map (λ (r : LaunchRow). r.class) (cond b (Some (plain_row class op operands)) None)) (applies_itself class op operands)
  where
    by : (o : Option LaunchRow) → option_map (λ (r : LaunchRow). r.class) o ≡ None → option_map (λ (r : LaunchRow). r.class) (option_or o (find (applies op operands) (plain_row class op operands ∷ []))) ≡ option_map (λ (r : LaunchRow). r.class) (find (applies op operands) (plain_row class op operands ∷ []))
    by None f = refl
    by (Some r) f = absurd (none-some r.class (sym f))

pub class_is : (rows : List LaunchRow) (op : Op) (operands : List ℕ) → class_in (with_row rows op operands) op operands ≡ Some (class_with rows op operands)
class_is rows op operands = by (class_in rows op operands) refl
  where
    by : (o : Option ℕ) → class_in rows op operands ≡ o → class_in (if is_some o then rows else rows ++ plain_row (next_class rows) op operands ∷ []) op operands ≡ Some (unwrap_or o (next_class rows))
    by None e = class_behind rows op operands (next_class rows) e
    by (Some class) e = e

-- ---- parts

part_has : (rows longer : List LaunchRow) (op : Op) (class : ℕ) → IsLonger rows longer → class_in rows op [] ≡ Some class → HasItsRow longer (Leaf op)
part_has rows longer op class h e = ap is_some (class_stays rows longer op [] class h e)

pub row_stays : (rows longer : List LaunchRow) (part : Part) → IsLonger rows longer → HasItsRow rows part → HasItsRow longer part
row_stays rows longer (Class c) h k = tt
row_stays rows longer (Leaf op) h k = by (class_in rows op []) refl k
  where
    by : (o : Option ℕ) → class_in rows op [] ≡ o → IsTrue (is_some o) → HasItsRow longer (Leaf op)
    by None e t = let f : false ≡ true = t in absurd (cc)
    by (Some class) e t = part_has rows longer op class h e

-- the class of a part that has its row stays
pub part_stays : (rows longer : List LaunchRow) (part : Part) → IsLonger rows longer → HasItsRow rows part → class_of_part longer part ≡ class_of_part rows part
part_stays rows longer (Class c) h k = refl
part_stays rows longer (Leaf op) h k = by (class_in rows op []) refl k
  where
    by : (o : Option ℕ) → class_in rows op [] ≡ o → IsTrue (is_some o) → class_with longer op [] ≡ class_with rows op []
    by None e t = let f : false ≡ true = t in absurd (cc)
    by (Some class) e t = ap (λ o. unwrap_or o (next_class longer)) (class_stays rows longer op [] class h e) ∙ sym (ap (λ o. unwrap_or o (next_class rows)) e)

-- the class that a part gets is the one that it has from then on
pub part_settles : (rows longer : List LaunchRow) (part : Part) → IsLonger (with_leaves rows (part ∷ [])) longer → class_of_part longer part ≡ class_of_part rows part
part_settles rows longer (Class c) h = refl
part_settles rows longer (Leaf op) h =
    ap (λ o. unwrap_or o (next_class longer)) (class_stays (with_row rows op []) longer op [] (class_with rows op []) h (class_is rows op []))

pub has_leaf : (rows : List LaunchRow) (op : Op) → HasItsRow (with_row rows op []) (Leaf op)
has_leaf rows op = ap is_some (class_is rows op [])

-- each part has its row behind those of all parts
pub have_rows : (rows : List LaunchRow) (parts : List Part) (k : ℕ) (d : Part) → k < length parts → HasItsRow (with_leaves rows parts) (get_or parts k d)
have_rows rows [] k d l = absurd (omega arith)
have_rows rows (Class c ∷ parts) zero d l = tt
have_rows rows (Class c ∷ parts) (suc k) d l = have_rows rows parts k d (omega arith)
have_rows rows (Leaf op ∷ parts) zero d l =
    let first = with_row rows op [] in
    row_stays first (with_leaves first parts) (Leaf op) (leaves_behind first parts) (has_leaf rows op)
have_rows rows (Leaf op ∷ parts) (suc k) d l = have_rows (with_row rows op []) parts k d (omega arith)

-- ---- parts one after another

pub leaves_then : (rows : List LaunchRow) (parts others : List Part) → with_leaves rows (parts ++ others) ≡ with_leaves (with_leaves rows parts) others
leaves_then rows [] others = refl
leaves_then rows (Class c ∷ parts) others = leaves_then rows parts others
leaves_then rows (Leaf op ∷ parts) others = leaves_then (with_row rows op []) parts others

same_classes : (rows longer : List LaunchRow) (parts : List Part) → IsLonger rows longer → All (HasItsRow rows) parts → classes_of longer parts ≡ classes_of rows parts
same_classes rows longer [] h k = refl
same_classes rows longer (part ∷ parts) h k =
    ap₂ (λ (c : ℕ) (cs : List ℕ). c ∷ cs) (part_stays rows longer part h (All-head (HasItsRow rows) part parts k))
    (same_classes rows longer parts h (All-tail (HasItsRow rows) part parts k))

-- the classes of one part more
pub classes_then : (rows : List LaunchRow) (parts : List Part) (part : Part) → classes_of (with_leaves rows (parts ++ part ∷ [])) (parts ++ part ∷ []) ≡ classes_of (with_leaves rows parts) parts ++ class_of_part (with_leaves rows parts) part ∷ []
classes_then rows parts part =
    let all = with_leaves rows parts in
    let more = with_leaves all (part ∷ []) in
    ap (λ rs. classes_of rs (parts ++ part ∷ [])) (leaves_then rows parts (part ∷ []))
    ∙ map-append (class_of_part more) parts (part ∷ [])
    ∙ ap (λ cs. cs ++ class_of_part more part ∷ []) (same_classes all more parts (leaves_behind all (part ∷ [])) (λ k d l. have_rows rows parts k d l))
    ∙ ap (λ c. classes_of all parts ++ c ∷ []) (part_settles all more part (not_longer more))
