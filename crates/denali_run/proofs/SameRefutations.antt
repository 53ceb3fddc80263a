-- The lines of refutations, read back.
use Rattle.std.proofs.Common.{◌≡◌, ℕ, ◌+◌, ◌-◌, ◌<◌, ◌≤◌, ◌^◌, inl, inr, List, [], ◌∷◌, ◌++◌, length, map, refl, sym, ap, subst, ◌∙◌, arith, codes, decimal, Option, Some, None}
use Rattle.std.specs.Prelude.{All}
use Rattle.std.proofs.lemmas.Fmt.{decimal_injective}
use Rattle.cycle_encoding.specs.Limits.{most_vars, most_clauses}
use Rattle.cnf_core.specs.Formula.{Formula}
use Rattle.cnf_core.specs.Refutation.{AreAccepted}
use Rattle.cnf_core.specs.declared.line.Line.{Line}
use Rattle.cnf_core.specs.declared.line.Lines.{Lines}
use Rattle.cycle_encoding.specs.Plans.{IsTooLarge}
use Rattle.graph_meaning.specs.declared.graphs.LaunchGraph.{LaunchGraph}
use Rattle.machine_table.specs.declared.tables.Table.{Table}
use Rattle.refutation_check.specs.LineWords.{IsLineOf, IsReadableLine, line_words}
use Rattle.text_core.specs.LineTexts.{Words}
use Rattle.answer_texts.specs.AnswerLines.{refute_lines}
use Rattle.denali_run.proofs.ResultLines.{below_lines}
use Rattle.schedule_meaning.specs.declared.schedules.Allocation.{Allocation}
use Rattle.denali_run.specs.Right.{IsTooFew, AreRefutedBelow, nothing_less, one_less}
use Rattle.denali_run.proofs.SameParts.{head_same, rest_same, cons_same, counted_same, each_once}

-- ---- lines of a refutation

-- accepted lines can be read back
abbrev pub AcceptedAreReadable : Type 0
AcceptedAreReadable = (f : Formula) (lines : List Line) → AreAccepted f lines → f.vars < 2 ^ 29
    → length f.clauses + length lines < 2 ^ 31 → All IsReadableLine lines

-- words are one line at most
abbrev pub WordsAreOneLine : Type 0
WordsAreOneLine = (words : Words) (line other : Line) → IsLineOf words line → IsLineOf words other → line ≡ other

-- as many lines as a budget may have can be read back, where the formula is within the limits
pub readable : AcceptedAreReadable → (f : Formula) (lines : List Line) → ¬ IsTooLarge f → AreAccepted f lines
    → length lines ≤ 1000000 → All IsReadableLine lines × (length lines < 2 ^ 31)
readable accepted f lines within are few =
    let many : ¬ (most_vars < f.vars) = λ lt. within (inl lt) in
    let long : ¬ (most_clauses < length f.clauses) = λ lt. within (inr lt) in
    (accepted f lines are (omega (arith, many)) (omega (arith, long, few)), omega (arith, few))

one_line : WordsAreOneLine → (l m : Line) → IsReadableLine l → IsReadableLine m → line_words l ≡ line_words m → l ≡ m
one_line one l m a b e = one (line_words l) l m (record { words = refl; readable = a }) (record { words = e; readable = b })

-- a line with the count of lines behind it, and these lines
pub block_once : WordsAreOneLine → (a b : List ℕ) (xs ys : List Line) (r q : List Words)
    → All IsReadableLine xs × (length xs < 2 ^ 31) → All IsReadableLine ys × (length ys < 2 ^ 31)
    → ((a ∷ b ∷ decimal (length xs) ∷ []) ∷ (map line_words xs ++ r))
    ≡ ((a ∷ b ∷ decimal (length ys) ∷ []) ∷ (map line_words ys ++ q)) → (xs ≡ ys) × (r ≡ q)
block_once one a b xs ys r q f g e =
    let short : length xs < 2 ^ 31 = f.1 in
    let brief : length ys < 2 ^ 31 = g.1 in
    let both = cons_same (a ∷ b ∷ decimal (length xs) ∷ []) (a ∷ b ∷ decimal (length ys) ∷ []) (map line_words xs ++ r)
    (map line_words ys ++ q) e in
    let counts : length xs ≡ length ys =
    decimal_injective (length xs) (length ys) (omega arith) (omega arith)
    (head_same (decimal (length xs)) (decimal (length ys)) [] []
    (rest_same b b (decimal (length xs) ∷ []) (decimal (length ys) ∷ [])
    (rest_same a a (b ∷ decimal (length xs) ∷ []) (b ∷ decimal (length ys) ∷ []) both.0))) in
    let lines = counted_same line_words xs ys r q counts both.1 in
    (each_once line_words IsReadableLine (one_line one) xs ys f.0 g.0 lines.0, lines.1)

pub one_less_than : (n : ℕ) → n + 1 - 1 ≡ n
one_less_than n = omega arith

lines_of : List Line → Lines
lines_of lines = record { lines = lines }

pub same_lines : (a b : Lines) → a.lines ≡ b.lines → a ≡ b
unfolding lines_of
same_lines a b e = ap lines_of e

module _ (accepted : AcceptedAreReadable) (one : WordsAreOneLine) (c d : ℕ → Formula) (g : LaunchGraph)
    (table : Table) (al : Allocation) (conflicts : ℕ) (low : conflicts ≤ 1000000) where
  pub refuted_once : (j : ℕ) (a b : Lines) (r q : List Words) → IsTooFew c g table al conflicts j a.lines
      → IsTooFew d g table al conflicts j b.lines → refute_lines j a.lines ++ r ≡ refute_lines j b.lines ++ q
      → (a ≡ b) × (r ≡ q)
  refuted_once j a b r q f h is =
      let few : length a.lines ≤ conflicts = f.few in
      let also : length b.lines ≤ conflicts = h.few in
      let both = block_once one (codes "refute") (decimal j) a.lines b.lines r q
      (readable accepted (c j) a.lines f.none_fits.within f.refutes.accepted (omega (arith, few, low)))
      (readable accepted (d j) b.lines h.none_fits.within h.refutes.accepted (omega (arith, also, low)))
      is in
      (same_lines a b both.0, both.1)

  -- the lines that refute the clauses for one cycle less, where there is one
  pub below_once : (k m : ℕ) (a b : Option Lines) (r q : List Words) → k ≡ m → AreRefutedBelow c g table al conflicts k a
      → AreRefutedBelow d g table al conflicts m b → below_lines k a ++ r ≡ below_lines m b ++ q → (a ≡ b) × (r ≡ q)
  below_once k m None None r q same f h is = (refl, is)
  below_once k m None (Some b) r q same nothing_less (one_less {k = n} h) is = absurd (omega (arith, same))
  below_once k m (Some a) None r q same (one_less {k = n} f) nothing_less is = absurd (omega (arith, same))
  below_once k m (Some a) (Some b) r q same (one_less {k = n} f) (one_less {k = j} h) is =
      let level : n ≡ j = omega (arith, same) in
      let both = refuted_once n a b r q f (subst (λ i. IsTooFew d g table al conflicts i b.lines) (sym level) h)
      (ap (λ i. refute_lines i a.lines ++ r) (sym (one_less_than n)) ∙ is
      ∙ ap (λ i. refute_lines i b.lines ++ q) (one_less_than j ∙ sym level)) in
      (ap Some both.0, both.1)
