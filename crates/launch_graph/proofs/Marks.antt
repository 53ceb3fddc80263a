-- Marks of classes, row by row.
use Rattle.std.proofs.Common.{◌≡◌, ◌≢◌, ℕ, ◌+◌, ◌-◌, ◌<◌, ◌≤◌, ◌==◌, ◌&&◌, Bool, true, false, if◌then◌else◌, Option, Some, None, List, [], ◌∷◌, ◌++◌, length, take, drop, get_or, refl, sym, ap, ◌∙◌, subst, arith, inl, inr, set, not}
use Rattle.std.specs.Prelude.{replicate}
use Rattle.std.proofs.lemmas.Bool.{cases_eq}
use Rattle.std.proofs.lemmas.List.Quantifiers.{Any-push}
use Rattle.std.proofs.lemmas.Bool.Decides.{nat_tests}
use Rattle.std.proofs.lemmas.List.{get_or-set_same, get_or-set_other, length-set, take_more, get_or-drop, length-drop, length_push, get_or_push, get_or_append_left, length-replicate, get_or-replicate}
use Rattle.text_core.specs.Lines.{Line, line_at}
use Rattle.word_ops.specs.declared.sorts.Sort.{Sort}
use Rattle.launch_graph.specs.declared.row_lines.RowLine.{RowLine}
use Rattle.launch_graph.specs.declared.class_marks.Mark.{Mark}
use Rattle.launch_graph.specs.declared.class_marks.Mark.TheVariants.{Absent, Unsorted, Sorted}
use Rattle.launch_graph.specs.RowFaults.{IsWrongClass, not_below, no_row, other_sort, HasRowOfClass, class_sort, tells_sort, sort_given}
use Rattle.launch_graph.specs.RowLines.{IsRowLine}
use Rattle.launch_graph.specs.RowReading.{IsOnlyRow}
use Rattle.launch_graph.specs.LineFaults.{AreRowLines, none, row, other}
use Rattle.launch_graph.specs.ClassMarks.{OnlyRows, IsMark, next_mark, absent, unsorted, sorted, AreMarks, HasMarks}

-- ---- the rows of one more line

-- the rows of lines and of one line more
data Split (lines : List Line) (line : Line) (others : List RowLine) : Type 0 where
  with_row : (front : List RowLine) (one : RowLine) → AreRowLines lines front → IsRowLine line.words one → others ≡ front ++ one ∷ [] → Split lines line others
  without : AreRowLines lines others → ((one : RowLine) → IsRowLine line.words one → ⊥) → Split lines line others

split_more : (l : Line) (lines : List Line) (line : Line) (r : RowLine) (others : List RowLine) → IsRowLine l.words r → Split lines line others → Split (l ∷ lines) line (r ∷ others)
split_more l lines line r others is (with_row front one are one_is e) = with_row (r ∷ front) one (row is are) one_is (ap (λ (rs : List RowLine). r ∷ rs) e)
split_more l lines line r others is (without are never) = without (row is are) never

split_skip : (l : Line) (lines : List Line) (line : Line) (others : List RowLine) → ((one : RowLine) → IsRowLine l.words one → ⊥) → Split lines line others → Split (l ∷ lines) line others
split_skip l lines line others miss (with_row front one are one_is e) = with_row front one (other miss are) one_is e
split_skip l lines line others miss (without are never) = without (other miss are) never

split : (lines : List Line) (line : Line) (others : List RowLine) → AreRowLines (lines ++ line ∷ []) others → Split lines line others
split [] line others (row {one = one} is none) = with_row [] one none is refl
split [] line others (other never none) = without none never
split (l ∷ lines) line others (row {one = one} {rows = rows} is are) = split_more l lines line one rows is (split lines line rows are)
split (l ∷ lines) line others (other never are) = split_skip l lines line others never (split lines line others are)

rows_push : (lines : List Line) (rows : List RowLine) (line : Line) (one : RowLine) → AreRowLines lines rows → IsRowLine line.words one → AreRowLines (lines ++ line ∷ []) (rows ++ one ∷ [])
rows_push [] rows line one none is = row is none
rows_push (l ∷ lines) rows line one (row also are) is = row also (rows_push lines _ line one are is)
rows_push (l ∷ lines) rows line one (other never are) is = other never (rows_push lines rows line one are is)

rows_skip : (lines : List Line) (rows : List RowLine) (line : Line) → AreRowLines lines rows → ((one : RowLine) → IsRowLine line.words one → ⊥) → AreRowLines (lines ++ line ∷ []) rows
rows_skip [] rows line none miss = other miss none
rows_skip (l ∷ lines) rows line (row also are) miss = row also (rows_skip lines _ line are miss)
rows_skip (l ∷ lines) rows line (other never are) miss = other never (rows_skip lines rows line are miss)

nothing : (others : List RowLine) → AreRowLines [] others → others ≡ []
nothing others none = refl

pub no_lines : OnlyRows [] []
no_lines = record { are = none; only = λ others h. nothing others h }

one_more : (lines : List Line) (rows others : List RowLine) (line : Line) (one : RowLine) → OnlyRows lines rows → IsOnlyRow line.words one → Split lines line others → others ≡ rows ++ one ∷ []
one_more lines rows others line one h is (with_row front r are r_is e) = e ∙ ap (λ (rs : List RowLine). rs ++ r ∷ []) (h.only front are) ∙ ap (λ (r : RowLine). rows ++ r ∷ []) (is.only r r_is)
one_more lines rows others line one h is (without are never) = absurd (never one is.is)

pub more_rows : (lines : List Line) (rows : List RowLine) (line : Line) (one : RowLine) → OnlyRows lines rows → IsOnlyRow line.words one → OnlyRows (lines ++ line ∷ []) (rows ++ one ∷ [])
more_rows lines rows line one h is = record {
  are = rows_push lines rows line one h.are is.is;
  only = λ others are. one_more lines rows others line one h is (split lines line others are);
}

no_more : (lines : List Line) (rows others : List RowLine) (line : Line) → OnlyRows lines rows → ((one : RowLine) → IsRowLine line.words one → ⊥) → Split lines line others → others ≡ rows
no_more lines rows others line h miss (with_row front r are r_is e) = absurd (miss r r_is)
no_more lines rows others line h miss (without are never) = h.only others are

pub same_rows : (lines : List Line) (rows : List RowLine) (line : Line) → OnlyRows lines rows → ((one : RowLine) → IsRowLine line.words one → ⊥) → OnlyRows (lines ++ line ∷ []) rows
same_rows lines rows line h miss = record {
  are = rows_skip lines rows line h.are miss;
  only = λ others are. no_more lines rows others line h miss (split lines line others are);
}

-- the lines up to the next one
pub next_lines : (text : List Line) (first line end : ℕ) → first ≤ line → line < end → end ≤ length text → take (line + 1 - first) (drop first text) ≡ take (line - first) (drop first text) ++ line_at text line ∷ []
next_lines text first line end low high within =
    let d : Line = record { place = 0; words = [] } in
    let left = length-drop first text in
    let at : line + 1 - first ≡ (line - first) + 1 = omega arith in
    let back : first + (line - first) ≡ line = omega arith in
    ap (λ n. take n (drop first text)) at
    ∙ take_more (drop first text) (line - first) d (omega (arith, left))
    ∙ ap (λ (l : Line). take (line - first) (drop first text) ++ l ∷ []) (get_or-drop first text (line - first) d ∙ ap (λ n. get_or text n d) back)

-- ---- the classes of one more row

pub has_left : (rows : List RowLine) (one : RowLine) (class : ℕ) → HasRowOfClass rows class → HasRowOfClass (rows ++ one ∷ []) class
has_left rows one class (k, r, less, at, is) = (k, r, omega (arith, length_push rows one), get_or_append_left rows (one ∷ []) r k less ∙ at, is)

pub has_last : (rows : List RowLine) (one : RowLine) (class : ℕ) → one.class ≡ class → HasRowOfClass (rows ++ one ∷ []) class
has_last rows one class is = Any-push (λ (r : RowLine). r.class ≡ class) rows one is

pub has_back : (rows : List RowLine) (one : RowLine) (class : ℕ) → one.class ≢ class → HasRowOfClass (rows ++ one ∷ []) class → HasRowOfClass rows class
has_back rows one class differs (k, r, less, at, is) = elim (cases_eq k (length rows)) [
  | inl same ↦ absurd (differs (ap (λ (x : RowLine). x.class) (sym (get_or_push rows one r k (sym same)) ∙ at) ∙ is))
  | inr apart ↦ (k, r, omega (arith, length_push rows one), sym (get_or_append_left rows (one ∷ []) r k (omega (arith, length_push rows one))) ∙ at, is)
]

-- whether a row tells the sort of a class
abbrev tells : RowLine → ℕ → Bool
tells one class = (one.class == class) && tells_sort one.op (length one.operands)

abbrev told : RowLine → ℕ → Option Sort
told one class = if tells one class then Some (sort_given one.op) else None

stays_by : (b : Bool) (x y z : Option Sort) (sort : Sort) → (if b then x else y) ≡ Some sort → (y ≡ Some sort → z ≡ Some sort) → (if b then x else z) ≡ Some sort
stays_by true x y z sort e f = e
stays_by false x y z sort e f = f e

-- the first row that tells a sort decides
sort_stays : (rows : List RowLine) (one : RowLine) (class : ℕ) (sort : Sort) → class_sort rows class ≡ Some sort → class_sort (rows ++ one ∷ []) class ≡ Some sort
sort_stays [] one class sort e = cc
sort_stays (r ∷ rows) one class sort e = stays_by (tells r class) _ _ _ sort e (sort_stays rows one class sort)

comes_by : (b : Bool) (given : Sort) (y z t : Option Sort) → (if b then Some given else y) ≡ None → (y ≡ None → z ≡ t) → (if b then Some given else z) ≡ t
comes_by true given y z t e f = cc
comes_by false given y z t e f = f e

sort_comes : (rows : List RowLine) (one : RowLine) (class : ℕ) → class_sort rows class ≡ None → class_sort (rows ++ one ∷ []) class ≡ told one class
sort_comes [] one class e = refl
sort_comes (r ∷ rows) one class e = comes_by (tells r class) (sort_given r.op) _ _ (told one class) e (sort_comes rows one class)

differs_told : (one : RowLine) (class : ℕ) → one.class ≢ class → told one class ≡ None
differs_told one class differs =
    let test : (one.class == class) ≡ false = grind (arith, nat_tests, differs) in
    ap (λ b. if b && tells_sort one.op (length one.operands) then Some (sort_given one.op) else None) test

same_told : (one : RowLine) (class : ℕ) → one.class ≡ class → told one class ≡ (if tells_sort one.op (length one.operands) then Some (sort_given one.op) else None)
same_told one class same =
    let test : (one.class == class) ≡ true = grind (arith, nat_tests, same) in
    ap (λ b. if b && tells_sort one.op (length one.operands) then Some (sort_given one.op) else None) test

pub mark_stays : (rows : List RowLine) (one : RowLine) (class : ℕ) (mark : Mark) → one.class ≢ class → IsMark rows class mark → IsMark (rows ++ one ∷ []) class mark
mark_stays rows one class mark differs (absent never untold) = absent (λ h. never (has_back rows one class differs h)) (sort_comes rows one class untold ∙ differs_told one class differs)
mark_stays rows one class mark differs (unsorted has untold) = unsorted (has_left rows one class has) (sort_comes rows one class untold ∙ differs_told one class differs)
mark_stays rows one class mark differs (sorted has sort) = sorted (has_left rows one class has) (sort_stays rows one class _ sort)

-- a class that no row told the sort of
by_told : (rows : List RowLine) (class : ℕ) (t : Option Sort) → HasRowOfClass rows class → class_sort rows class ≡ t → IsMark rows class (next_mark Unsorted t)
by_told rows class None has e = unsorted has e
by_told rows class (Some sort) has e = sorted has e

by_told_absent : (rows : List RowLine) (class : ℕ) (t : Option Sort) → HasRowOfClass rows class → class_sort rows class ≡ t → IsMark rows class (next_mark Absent t)
by_told_absent rows class None has e = unsorted has e
by_told_absent rows class (Some sort) has e = sorted has e

pub mark_comes : (rows : List RowLine) (one : RowLine) (class : ℕ) (mark : Mark) (t : Option Sort) → one.class ≡ class → t ≡ (if tells_sort one.op (length one.operands) then Some (sort_given one.op) else None) → IsMark rows class mark → IsMark (rows ++ one ∷ []) class (next_mark mark t)
mark_comes rows one class mark t same is (absent never untold) = by_told_absent (rows ++ one ∷ []) class t (has_last rows one class same) (sort_comes rows one class untold ∙ same_told one class same ∙ sym is)
mark_comes rows one class mark t same is (unsorted has untold) = by_told (rows ++ one ∷ []) class t (has_last rows one class same) (sort_comes rows one class untold ∙ same_told one class same ∙ sym is)
mark_comes rows one class mark t same is (sorted has sort) = sorted (has_last rows one class same) (sort_stays rows one class _ sort)

at_class : (marks : List Mark) (rows : List RowLine) (one : RowLine) (count : ℕ) (m : Mark) → one.class < count → AreMarks count rows marks → IsMark (rows ++ one ∷ []) one.class m → AreMarks count (rows ++ one ∷ []) (set marks one.class m)
at_class marks rows one count m low h is =
    let size = h.size in
    record {
      size = length-set marks one.class m ∙ size;
      each = λ class less. elim (cases_eq class one.class) [
        | inl same ↦ subst (λ c. IsMark (rows ++ one ∷ []) c (get_or (set marks one.class m) c Absent)) (sym same) (subst (IsMark (rows ++ one ∷ []) one.class) (sym (get_or-set_same marks one.class m Absent (omega arith))) is)
        | inr apart ↦ subst (IsMark (rows ++ one ∷ []) class) (sym (get_or-set_other marks one.class class m Absent apart)) (mark_stays rows one class (get_or marks class Absent) (λ e. apart (sym e)) (h.each class less))
      ];
    }

pub marked : (marks : List Mark) (rows : List RowLine) (one : RowLine) (count : ℕ) (mark m : Mark) (t : Option Sort) → one.class < count → mark ≡ get_or marks one.class Absent → m ≡ next_mark mark t
    → t ≡ (if tells_sort one.op (length one.operands) then Some (sort_given one.op) else None) → AreMarks count rows marks → AreMarks count (rows ++ one ∷ []) (set marks one.class m)
marked marks rows one count mark m t low read is told_is h =
    at_class marks rows one count m low h
    (subst (IsMark (rows ++ one ∷ []) one.class) (sym is) (mark_comes rows one one.class mark t refl told_is (subst (IsMark rows one.class) (sym read) (h.each one.class low))))

pub not_marked : (marks : List Mark) (rows : List RowLine) (one : RowLine) (count : ℕ) → count ≤ one.class → AreMarks count rows marks → AreMarks count (rows ++ one ∷ []) marks
not_marked marks rows one count high h = record {
  size = h.size;
  each = λ class less. mark_stays rows one class (get_or marks class Absent) (λ e. omega (arith, e, high, less)) (h.each class less);
}

-- ---- no rows at all

none_has : (class : ℕ) → HasRowOfClass [] class → ⊥
none_has class (k, r, less, at, is) = absurd (omega (arith, less))

pub all_absent : (count : ℕ) (marks : List Mark) → marks ≡ replicate count Absent → AreMarks count [] marks
all_absent count marks is =
    subst (AreMarks count []) (sym is) (record {
      size = length-replicate count Absent;
      each = λ class less. subst (IsMark [] class) (sym (get_or-replicate count class Absent Absent less)) (absent (none_has class) refl);
    })

-- ---- lines

pub has_none : (lines : List Line) (count : ℕ) (marks : List Mark) → lines ≡ [] → AreMarks count [] marks → HasMarks lines count marks
has_none lines count marks e h = record { rows = []; are = subst (λ (ls : List Line). OnlyRows ls []) (sym e) no_lines; marks_are = h }

pub has_more : (text : List Line) (first at end count : ℕ) (marks after_marks : List Mark) (one : RowLine) → first ≤ at → at < end → end ≤ length text → IsOnlyRow (line_at text at).words one
    → ((rows : List RowLine) → AreMarks (length marks) rows marks → AreMarks (length marks) (rows ++ one ∷ []) after_marks)
    → HasMarks (take (at - first) (drop first text)) count marks → HasMarks (take (at + 1 - first) (drop first text)) count after_marks
has_more text first at end count marks after_marks one low high within is step h =
    let size : length marks ≡ count = h.marks_are.size in
    let marks_are = subst (λ n. AreMarks n (h.rows ++ one ∷ []) after_marks) size (step h.rows (subst (λ n. AreMarks n h.rows marks) (sym size) h.marks_are)) in
    record {
      rows = h.rows ++ one ∷ [];
      are = subst (λ (ls : List Line). OnlyRows ls (h.rows ++ one ∷ [])) (sym (next_lines text first at end low high within)) (more_rows (take (at - first) (drop first text)) h.rows (line_at text at) one h.are is);
      marks_are = marks_are;
    }

pub has_same : (text : List Line) (first at end count : ℕ) (marks : List Mark) → first ≤ at → at < end → end ≤ length text → ((one : RowLine) → IsRowLine (line_at text at).words one → ⊥)
    → HasMarks (take (at - first) (drop first text)) count marks → HasMarks (take (at + 1 - first) (drop first text)) count marks
has_same text first at end count marks low high within never h =
    record {
      rows = h.rows;
      are = subst (λ (ls : List Line). OnlyRows ls h.rows) (sym (next_lines text first at end low high within)) (same_rows (take (at - first) (drop first text)) h.rows (line_at text at) h.are never);
      marks_are = h.marks_are;
    }

-- ---- wrong classes

sorted_in : (rows : List RowLine) (class : ℕ) (sort : Sort) → IsMark rows class (Sorted sort) → HasRowOfClass rows class × (class_sort rows class ≡ Some sort)
sorted_in rows class sort (sorted has is) = (has, is)

sorts_same : (a b : Sort) → Some a ≡ Some b → a ≡ b
sorts_same a b e = cc

is_true : (b : Bool) (P Q : Type 0) → (b ≡ true → P) × (P → b ≡ true) → ((P → ⊥) → Q) → (P → Q → ⊥) → (not b ≡ true → Q) × (Q → not b ≡ true)
is_true true P Q d f g = (λ e. cc, λ q. absurd (g (d.0 refl) q))
is_true false P Q d f g = (λ e. f (λ p. (let bad : false ≡ true = d.1 p in cc)), λ q. refl)

wrong_only : (count : ℕ) (rows : List RowLine) (wanted sort : Sort) (class : ℕ) → class < count → HasRowOfClass rows class → class_sort rows class ≡ Some sort → sort ≡ wanted → IsWrongClass count rows wanted class → ⊥
wrong_only count rows wanted sort class low has is same (not_below high) = absurd (omega (arith, low, high))
wrong_only count rows wanted sort class low has is same (no_row never) = never has
wrong_only count rows wanted sort class low has is same (other_sort {sort = s} e differs) = differs (sorts_same s sort (sym e ∙ is) ∙ same)

pub wrong_sort : (count : ℕ) (rows : List RowLine) (marks : List Mark) (wanted sort : Sort) (class : ℕ) → class < count → Sorted sort ≡ get_or marks class Absent → AreMarks count rows marks → sort ≢ wanted → IsWrongClass count rows wanted class
wrong_sort count rows marks wanted sort class low read h differs = other_sort (sorted_in rows class sort (subst (IsMark rows class) (sym read) (h.each class low))).1 differs

pub right_sort : (count : ℕ) (rows : List RowLine) (marks : List Mark) (wanted sort : Sort) (class : ℕ) → class < count → Sorted sort ≡ get_or marks class Absent → AreMarks count rows marks → sort ≡ wanted → IsWrongClass count rows wanted class → ⊥
right_sort count rows marks wanted sort class low read h same wrong =
    let in_rows = sorted_in rows class sort (subst (IsMark rows class) (sym read) (h.each class low)) in
    wrong_only count rows wanted sort class low in_rows.0 in_rows.1 same wrong

pub told_wrong : (b : Bool) (rows : List RowLine) (marks : List Mark) (wanted sort : Sort) (class : ℕ) → (b ≡ true → sort ≡ wanted) × (sort ≡ wanted → b ≡ true) → class < length marks → Sorted sort ≡ get_or marks class Absent → AreMarks (length marks) rows marks
    → (not b ≡ true → IsWrongClass (length marks) rows wanted class) × (IsWrongClass (length marks) rows wanted class → not b ≡ true)
told_wrong b rows marks wanted sort class d low read h =
    is_true b (sort ≡ wanted) (IsWrongClass (length marks) rows wanted class) d (wrong_sort (length marks) rows marks wanted sort class low read h) (right_sort (length marks) rows marks wanted sort class low read h)
