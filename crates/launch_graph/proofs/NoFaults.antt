-- Lines that are clean have no fault.
use Rattle.std.proofs.Common.{◌≡◌, ◌≢◌, ℕ, zero, suc, ◌+◌, ◌<◌, ◌≤◌, ◌^◌, List, [], ◌∷◌, ◌++◌, length, map, get_or, refl, sym, ap, subst, ◌∙◌, arith, inl, inr, ◌⊎◌, codes, decimal}
use Rattle.std.proofs.lemmas.Fmt.{decimal_is_IsNumeral}
use Rattle.std.specs.Str.Parse.{AllDigits}
use Rattle.std.proofs.lemmas.Str.Parse.{digit_from_value}
use Rattle.std.proofs.lemmas.Bool.{cases_eq, cases_lt}
use Rattle.text_core.specs.Lines.{Line, line_at}
use Rattle.text_core.specs.LineTexts.{Words}
use Rattle.launch_graph.specs.declared.row_lines.RowLine.{RowLine}
use Rattle.launch_graph.specs.LineFormats.{words_between, GoesOn}
use Rattle.launch_graph.specs.GraphTexts.{BeginsWithGraph, IsGraphText}
use Rattle.launch_graph.specs.GraphStages.{Stage, start, over, Step, header, row, entry, input, pool, guard, first_set, set, leave_pool, leave, further, ReachesStage, stay, go}
use Rattle.launch_graph.specs.RowLines.{IsRowLine, line_op_words}
use Rattle.launch_graph.proofs.Stages.{split, stays_over, nothing_before}
use Rattle.launch_graph.proofs.GraphRuns.{goes_text, part_goes}
use Rattle.launch_graph.proofs.Between.{between_split, between_more}

-- ---- the header

starts_with_digit : (n : ℕ) → n < 2 ^ 31 → codes "rows" ≡ decimal n → ⊥
starts_with_digit n low e =
    let digits = (decimal_is_IsNumeral n (omega arith)).0 in
    first_digit (decimal n) digits.1 (sym e)
  where
    first_digit : (ds : List ℕ) → AllDigits 10 ds → ds ≡ codes "rows" → ⊥
    first_digit [] h e = cc
    first_digit (c ∷ cs) h e = (let range = digit_from_value c h.0 in let is : c ≡ 114 = cc in omega (arith, range, is))

row_no_header : (rest : Words) (r : RowLine) → IsRowLine (codes "rows" ∷ rest) r → ⊥
row_no_header rest r h = starts_with_digit r.class h.class (let e = h.is in let f : codes "rows" ≡ decimal r.class = first (codes "rows") (decimal r.class) rest (line_op_words r.op ++ map decimal r.operands) e in f)
  where
    first : (x y : List ℕ) (xs ys : Words) → x ∷ xs ≡ y ∷ ys → x ≡ y
    first x y xs ys e = cc

begins_apart : (x y : List ℕ) (xs ys : Words) → x ∷ xs ≡ y ∷ ys → x ≡ y
begins_apart x y xs ys e = cc

apart_entry : codes "rows" ≡ codes "entry" → ⊥
apart_entry e = (let h : ◌≡◌ {A = ℕ} 114 101 = ap (λ w. get_or w 0 0) e in omega (arith, h))

apart_in : codes "rows" ≡ codes "in" → ⊥
apart_in e = (let h : ◌≡◌ {A = ℕ} 114 105 = ap (λ w. get_or w 0 0) e in omega (arith, h))

apart_pool : codes "rows" ≡ codes "pool" → ⊥
apart_pool e = (let h : ◌≡◌ {A = ℕ} 114 112 = ap (λ w. get_or w 0 0) e in omega (arith, h))

apart_guard : codes "rows" ≡ codes "guard" → ⊥
apart_guard e = (let h : ◌≡◌ {A = ℕ} 114 103 = ap (λ w. get_or w 0 0) e in omega (arith, h))

apart_set : codes "rows" ≡ codes "set" → ⊥
apart_set e = (let h : ◌≡◌ {A = ℕ} 114 115 = ap (λ w. get_or w 0 0) e in omega (arith, h))

-- a header is the first line
header_first : {version : ℕ} (s t : Stage) (words rest : Words) → words ≡ codes "rows" ∷ rest → Step version s words t → t ≢ over → s ≡ start
header_first s t words rest e (header c few is) n = refl
header_first s t words rest e (row r is) n = absurd (row_no_header rest r (subst (λ w. IsRowLine w r) e is))
header_first s t words rest e (entry c low is) n = absurd (apart_entry (begins_apart _ _ _ _ (sym e ∙ is)))
header_first s t words rest e (input i fits is) n = absurd (apart_in (begins_apart _ _ _ _ (sym e ∙ is)))
header_first s t words rest e (pool ns low is) n = absurd (apart_pool (begins_apart _ _ _ _ (sym e ∙ is)))
header_first s t words rest e (guard o low is) n = absurd (apart_guard (begins_apart _ _ _ _ (sym e ∙ is)))
header_first s t words rest e (first_set o low is) n = absurd (apart_set (begins_apart _ _ _ _ (sym e ∙ is)))
header_first s t words rest e (set o low new is) n = absurd (apart_set (begins_apart _ _ _ _ (sym e ∙ is)))
header_first s t words rest e (leave_pool h) n = absurd (n refl)
header_first s t words rest e (leave h) n = absurd (n refl)
header_first s t words rest e further n = absurd (n refl)

module _ (lines : List Line) (from : ℕ) where
  empty_between : (a : ℕ) → from ≤ a → a < length lines → words_between lines from (a + 1) ≡ [] → ⊥
  empty_between a low lt e = (let size = ap length (sym (between_more lines from a low lt) ∙ e) in longer (words_between lines from a) size)
    where
      longer : (ws : List Words) → length (ws ++ (line_at lines a).words ∷ []) ≡ 0 → ⊥
      longer [] e = omega arith
      longer (w ∷ ws) e = omega arith

  between_empty : (a : ℕ) → from ≤ a → a ≤ length lines → words_between lines from a ≡ [] → a ≡ from
  between_empty a low le e = by_case a low le e
    where
      by_case : (a : ℕ) → from ≤ a → a ≤ length lines → words_between lines from a ≡ [] → a ≡ from
      by_case zero low le e = omega arith
      by_case (suc b) low le e = elim (split_le from b low) [
        | inl same ↦ sym same
        | inr less ↦ absurd (empty_between b less (omega arith) (ap (λ n. words_between lines from n) (let n : b + 1 ≡ suc b = omega arith in n) ∙ e))
      ]
        where
          split_le : (m n : ℕ) → m ≤ suc n → (m ≡ suc n) ⊎ (m ≤ n)
          split_le m n le = elim (cases_eq m (suc n)) [ inl same ↦ inl same | inr apart ↦ inr (omega arith) ]

module _ {version : ℕ} (lines : List Line) (from : ℕ) where
  -- the stage behind fewer lines
  pub front_stage : (a b : ℕ) (s : Stage) → from ≤ a → a ≤ b → ReachesStage version start (words_between lines from b) s
      → (t : Stage) × ReachesStage version start (words_between lines from a) t × ReachesStage version t (words_between lines a b) s
  front_stage a b s low le h =
      split (words_between lines from a) (words_between lines a b) start s
      (subst (λ ws. ReachesStage version start ws s) (between_split lines from a b low le) h)

  -- the step of one line
  pub step_at : (a : ℕ) (s : Stage) → from ≤ a → a < length lines → ReachesStage version start (words_between lines from (a + 1)) s
      → (t : Stage) × ReachesStage version start (words_between lines from a) t × Step version t (line_at lines a).words s
  step_at a s low lt h =
      let parts = split (words_between lines from a) ((line_at lines a).words ∷ []) start s (subst (λ ws. ReachesStage version start ws s) (between_more lines from a low lt) h) in
      (parts.0, parts.1, last parts.0 parts.2)
    where
      last : (t : Stage) → ReachesStage version t ((line_at lines a).words ∷ []) s → Step version t (line_at lines a).words s
      last t (go h stay) = h

  -- a header among the lines of a graph is its first line
  pub header_here : (h at : ℕ) (rest : Words) → from ≤ h → h < length lines → h ≤ at → (line_at lines h).words ≡ codes "rows" ∷ rest
      → GoesOn (IsGraphText version) (words_between lines from (at + 1)) → h ≡ from
  header_here h at rest low lt le is goes =
      let p = part_goes (words_between lines from (at + 1)) goes in
      let f = front_stage (h + 1) (at + 1) p.0 (omega arith) (omega arith) p.1 in
      let here : f.0 ≢ over = λ e. p.2 (stays_over (words_between lines (h + 1) (at + 1)) p.0 (subst (λ x. ReachesStage version x (words_between lines (h + 1) (at + 1)) p.0) e f.2)) in
      let t = step_at h f.0 low lt f.1 in
      let first : t.0 ≡ start = header_first t.0 f.0 (line_at lines h).words rest is t.2 here in
      between_empty lines from h low (omega arith) (nothing_before (words_between lines from h) start (subst (λ x. ReachesStage version start (words_between lines from h) x) first t.1)).0

  -- no line is wrong where a run goes on behind it
  pub no_bad_line : (at other : ℕ) (s : Stage) → ReachesStage version start (words_between lines from at) s → from ≤ other
      → (GoesOn (BeginsWithGraph version) (words_between lines from (other + 1)) → ⊥) → at ≤ other
  no_bad_line at other s h low never = elim (cases_lt other at) [
    | inl less ↦ absurd (never (goes_text (words_between lines from (other + 1)) (front_stage (other + 1) at s (omega arith) (omega arith) h).0 (front_stage (other + 1) at s (omega arith) (omega arith) h).1))
    | inr le ↦ le
  ]
