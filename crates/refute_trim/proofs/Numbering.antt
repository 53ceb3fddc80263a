-- The numbers of lines when some of them fall away, and the lines that are left.
use Rattle.std.proofs.Common.{◌≡◌, ℕ, ◌+◌, ◌-◌, ◌<◌, ◌≤◌, true, false, Bool, List, [], ◌∷◌, ◌++◌, take, length, get_or, refl, sym, ◌∙◌, ap, subst, inl, inr, arith, Some}
use Rattle.std.specs.Prelude.{slice_get}
use Rattle.std.specs.List.{AllZip}
use Rattle.std.proofs.lemmas.Bool.{cases_lt}
use Rattle.std.proofs.lemmas.List.{get_or_append_left, get_or_push, length_push}
use Rattle.std.proofs.lemmas.Option.{slice_get-get_or}
use Rattle.cnf_core.specs.Formula.{Formula}
use Rattle.cnf_core.specs.Refutation.{AreAccepted}
use Rattle.cnf_core.specs.declared.line.Line.{Line}
use Rattle.refute_trim.specs.Marks.{AreNeededMarks, AreNewNumbers, HaveIdsBehind, places_of}
use Rattle.refute_trim.specs.Trimmed.{AreTrimmed, IsLineFrom, IsRenumbered, new_number, places_below}
use Rattle.refute_trim.proofs.Accepted.{ids}
use Rattle.refute_trim.proofs.Places.{below_marked, below_none, below_unmarked, contained_marked, from_rising, marked_contained, of_line, places_kept, places_more}

-- ---- numbers

-- the numbers of the lines before one, and how many of these lines fall away
pub record AreNumberedTo (lines : List Line) (marks : List Bool) (at : ℕ) (numbers : List ℕ) (dropped : ℕ) : Type 0 where
  pub size : length numbers ≡ at
  pub fallen : dropped + places_below (places_of marks) at ≡ at
  pub each : (n : ℕ) → HaveIdsBehind n lines → AreNewNumbers n (places_of marks) numbers

pub numbered_none : (lines : List Line) (marks : List Bool) → AreNumberedTo lines marks 0 [] 0
numbered_none lines marks =
    let none = below_none (places_of marks) 0 (λ i d l. omega arith) in
    record { size = refl; fallen = omega (arith, none); each = λ n h j l. absurd (omega (arith, l)) }

numbers_more : (lines : List Line) (marks : List Bool) (at : ℕ) (numbers : List ℕ) (dropped : ℕ) (line : Line) → at < length lines → line ≡ get_or lines at line → AreNumberedTo lines marks at numbers dropped → (n : ℕ) → HaveIdsBehind n lines → AreNewNumbers n (places_of marks) (numbers ++ (line.id - dropped) ∷ [])
numbers_more lines marks at numbers dropped line within is t n h j l = elim (cases_lt j at) [
  | inl before ↦ get_or_append_left numbers ((line.id - dropped) ∷ []) 0 j (let s = t.size in omega (arith, s, before)) ∙ t.each n h j (let s = t.size in omega (arith, s, before))
  | inr le ↦ (
      let long = length_push numbers (line.id - dropped) in
      let s = t.size in
      let same : j ≡ at = omega (arith, le, l, long, s) in
      let ids = h at line within in
      let own : line.id ≡ (get_or lines at line).id = ap (λ (l : Line). l.id) is in
      let fallen = t.fallen in
      ap (λ i. get_or (numbers ++ (line.id - dropped) ∷ []) i 0) same ∙ get_or_push numbers (line.id - dropped) 0 at s
      ∙ (let e : line.id - dropped ≡ n + places_below (places_of marks) at + 1 = omega (arith, own, ids, fallen) in e)
      ∙ ap (λ i. n + places_below (places_of marks) i + 1) (sym same))
]

pub numbered_marked : (lines : List Line) (marks : List Bool) (at : ℕ) (numbers : List ℕ) (dropped : ℕ) (line : Line) → at < length lines → line ≡ get_or lines at line → AreNumberedTo lines marks at numbers dropped → get_or marks at false ≡ true → AreNumberedTo lines marks (at + 1) (numbers ++ (line.id - dropped) ∷ []) dropped
numbered_marked lines marks at numbers dropped line within is t marked =
    let fallen = t.fallen in
    let more = below_marked 0 marks at at (omega arith) marked in
    let s = t.size in
    let long = length_push numbers (line.id - dropped) in
    record { size = omega (arith, long, s); fallen = omega (arith, fallen, more); each = numbers_more lines marks at numbers dropped line within is t }

pub numbered_unmarked : (lines : List Line) (marks : List Bool) (at : ℕ) (numbers : List ℕ) (dropped : ℕ) (line : Line) → at < length lines → line ≡ get_or lines at line → AreNumberedTo lines marks at numbers dropped → get_or marks at false ≡ false → AreNumberedTo lines marks (at + 1) (numbers ++ (line.id - dropped) ∷ []) (dropped + 1)
numbered_unmarked lines marks at numbers dropped line within is t unmarked =
    let fallen = t.fallen in
    let more = below_unmarked 0 marks at at (omega arith) unmarked in
    let s = t.size in
    let long = length_push numbers (line.id - dropped) in
    record { size = omega (arith, long, s); fallen = omega (arith, fallen, more); each = numbers_more lines marks at numbers dropped line within is t }

-- the line at hand is numbered higher than the lines that fell away before it
pub fallen_below : (lines : List Line) (marks : List Bool) (at : ℕ) (numbers : List ℕ) (dropped : ℕ) (line : Line) (n : ℕ) → at < length lines → line ≡ get_or lines at line → HaveIdsBehind n lines → AreNumberedTo lines marks at numbers dropped → dropped + 1 ≤ line.id
fallen_below lines marks at numbers dropped line n within is h t =
    let ids = h at line within in
    let own : line.id ≡ (get_or lines at line).id = ap (λ (l : Line). l.id) is in
    let fallen = t.fallen in
    omega (arith, own, ids, fallen)

pub of_number : (n : ℕ) (places numbers : List ℕ) (number : ℕ) → AreNewNumbers n places numbers → n < number → number ≤ n + length numbers → get_or numbers (number - n - 1) 0 ≡ new_number n places number
of_number n places numbers number h high low = h (number - n - 1) (omega (arith, high, low)) ∙ sym (of_line n places number high)

-- ---- lines

zip_push : (n : ℕ) (all : List ℕ) (lines : List Line) (ps : List ℕ) (new : List Line) (p : ℕ) (line : Line) → AllZip (IsLineFrom n all lines) ps new → IsLineFrom n all lines p line → AllZip (IsLineFrom n all lines) (ps ++ p ∷ []) (new ++ line ∷ [])
zip_push n all lines [] [] p line h is = (is, tt)
zip_push n all lines [] (l ∷ new) p line h is = absurd h
zip_push n all lines (q ∷ ps) [] p line h is = absurd h
zip_push n all lines (q ∷ ps) (l ∷ new) p line h is = (h.0, zip_push n all lines ps new p line h.1 is)

-- the lines that are left of the first ones
abbrev pub AreKeptTo : ℕ → List Line → List Bool → List ℕ → ℕ → List Line → Type 0
AreKeptTo n lines marks numbers at kept =
    (places : List ℕ) → AreNewNumbers n places numbers → AllZip (IsLineFrom n places lines) (places_of (take at marks)) kept

pub kept_more : (n : ℕ) (lines : List Line) (marks : List Bool) (numbers : List ℕ) (at : ℕ) (kept : List Line) (line new : Line) → at < length lines → at < length marks → line ≡ get_or lines at line → get_or marks at false ≡ true → AreKeptTo n lines marks numbers at kept → ((places : List ℕ) → AreNewNumbers n places numbers → IsRenumbered n places line new) → AreKeptTo n lines marks numbers (at + 1) (kept ++ new ∷ [])
kept_more n lines marks numbers at kept line new within inside is marked h renumbered places numbered =
    let there : slice_get lines at ≡ Some line = slice_get-get_or lines at line within ∙ ap Some (sym is) in
    subst (λ ps. AllZip (IsLineFrom n places lines) ps (kept ++ new ∷ [])) (sym (places_more marks at inside marked))
    (zip_push n places lines (places_of (take at marks)) kept at new (h places numbered) (record { old = line; there = there; renumbered = renumbered places numbered }))

pub kept_same : (n : ℕ) (lines : List Line) (marks : List Bool) (numbers : List ℕ) (at : ℕ) (kept : List Line) → get_or marks at false ≡ false → AreKeptTo n lines marks numbers at kept → AreKeptTo n lines marks numbers (at + 1) kept
kept_same n lines marks numbers at kept unmarked h places numbered =
    subst (λ ps. AllZip (IsLineFrom n places lines) ps kept) (sym (places_kept marks at unmarked)) (h places numbered)

-- ---- all of them

pub trimmed_from : (n : ℕ) (lines : List Line) (marks : List Bool) (new : List Line) → AreNeededMarks lines marks → AllZip (IsLineFrom n (places_of marks) lines) (places_of marks) new → AreTrimmed n lines new
trimmed_from n lines marks new needed from = record {
  places = places_of marks;
  rising = from_rising 0 marks;
  exactly = λ k. (
    (λ c. (needed.1 k).0 (contained_marked marks k c)),
    (λ is. marked_contained 0 marks k k (omega arith) ((needed.1 k).1 is)),
  );
  from = from;
}

pub trimmed_of : (f : Formula) (lines : List Line) (marks first second : List Bool) (numbers given : List ℕ) (clauses : ℕ) (new : List Line) → AreAccepted f lines → AreNeededMarks lines marks → first ≡ marks → second ≡ marks → given ≡ numbers → clauses ≡ length f.clauses → ((n : ℕ) → HaveIdsBehind n lines → AreNewNumbers n (places_of first) numbers) → ((places : List ℕ) → AreNewNumbers clauses places given → AllZip (IsLineFrom clauses places lines) (places_of second) new) → AreTrimmed (length f.clauses) lines new
trimmed_of f lines marks first second numbers given clauses new accepted needed same_first same_second same_numbers same_clauses each kept =
    let n = length f.clauses in
    let places = places_of marks in
    let ours : AreNewNumbers n places numbers = subst (λ (ms : List Bool). AreNewNumbers n (places_of ms) numbers) same_first (each n (ids f lines accepted)) in
    let theirs : AreNewNumbers clauses places given = subst (λ m. AreNewNumbers m places given) (sym same_clauses) (subst (λ (xs : List ℕ). AreNewNumbers n places xs) (sym same_numbers) ours) in
    let from : AllZip (IsLineFrom clauses places lines) places new = subst (λ (ms : List Bool). AllZip (IsLineFrom clauses places lines) (places_of ms) new) same_second (kept places theirs) in
    trimmed_from n lines marks new needed (subst (λ m. AllZip (IsLineFrom m places lines) places new) same_clauses from)
