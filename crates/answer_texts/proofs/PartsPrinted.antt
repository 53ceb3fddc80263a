-- The lines of each part are those of what it says.
use Rattle.std.proofs.Common.{◌≡◌, ℕ, zero, suc, ◌+◌, ◌-◌, ◌<◌, ◌≤◌, List, [], ◌∷◌, ◌++◌, length, map, get_or, sym, ap, subst, ◌∙◌, arith, codes, Bool, Option}
use Rattle.cnf_core.specs.declared.line.Line.{Line as Row}
use Rattle.cnf_core.specs.declared.line.Lines.{Lines}
use Rattle.launch_graph.specs.LineFormats.{words_between}
use Rattle.machine_table.specs.declared.tables.Table.{Table}
use Rattle.refutation_check.specs.LineWords.{line_words}
use Rattle.text_core.specs.Lines.{Line, line_at}
use Rattle.text_core.specs.LineTexts.{Words}
use Rattle.answer_texts.specs.AnswerLines.{built_in_words, own_words, slot_words, cross_words, inst_words, own_lines, table_lines, counted_words, refute_lines, refute_part}
use Rattle.answer_texts.specs.AnswerParts.{IsTableLine, OwnPart, TableRest, TablePart, AreCounted, CountedPart, BelowPart}
use Rattle.answer_texts.specs.LineParts.{IsOneLine, AreLinesOf}
use Rattle.answer_texts.specs.declared.parts.TableLine.{TableLine}
use Rattle.answer_texts.specs.declared.parts.TableLine.TheVariants as tables
use Rattle.answer_texts.proofs.PartsBetween.{between_split, between_none, between_one, between_first}

-- the lines from one number on and before another have these words
pub record HasWords (lines : List Line) (from next : ℕ) (words : List Words) : Type 0 where
  pub order : from ≤ next
  pub within : next ≤ length lines
  pub words_are : words_between lines from next ≡ words

module _ (lines : List Line) where
  pub has_none : (from next : ℕ) → from ≤ length lines → next ≡ from → HasWords lines from next []
  has_none from next within same = record {
    order = omega (arith, same);
    within = omega (arith, same, within);
    words_are = ap (λ n. words_between lines from n) same ∙ between_none lines from;
  }

  pub has_both : (from middle next : ℕ) (ws vs : List Words) → HasWords lines from middle ws
      → HasWords lines middle next vs → HasWords lines from next (ws ++ vs)
  has_both from middle next ws vs a b = record {
    order = (let low = a.order in let high = b.order in omega (arith, low, high));
    within = b.within;
    words_are = between_split lines from middle next a.order b.order ∙ ap (λ l. l ++ words_between lines middle next) a.words_are
        ∙ ap (λ l. ws ++ l) b.words_are;
  }

  pub has_same : (from next : ℕ) (ws vs : List Words) → ws ≡ vs → HasWords lines from next ws → HasWords lines from next vs
  has_same from next ws vs e a = subst (HasWords lines from next) e a

  -- the same lines, where no line stands behind them
  pub has_end : (from middle next : ℕ) (ws : List Words) → next ≡ middle → HasWords lines from middle ws
      → HasWords lines from next ws
  has_end from middle next ws same a = subst (λ n. HasWords lines from n ws) (sym same) a

  -- ---- lines of one kind

  pub has_line : {X : Type 0} (Is : Words → X → Type 0) (from next : ℕ) (x : X) (ws : Words)
      → (Is (line_at lines from).words x → (line_at lines from).words ≡ ws) → IsOneLine Is lines from next x
      → HasWords lines from next (ws ∷ [])
  has_line Is from next x ws are a =
      let low = a.within in
      let end = a.behind in
      record {
        order = omega (arith, end);
        within = omega (arith, low, end);
        words_are = ap (λ n. words_between lines from n) a.behind ∙ between_one lines from a.within
            ∙ ap (λ w. w ∷ []) (are a.is);
      }

  pub has_lines : {X : Type 0} (first : List ℕ) (words_of : X → Words) (Fit : List X → Type 0) (from next : ℕ) (xs : List X)
      → AreLinesOf first words_of Fit lines from next xs → HasWords lines from next (map words_of xs)
  has_lines first words_of Fit from next xs a =
      record { order = a.so_far.order; within = a.so_far.within; words_are = a.so_far.words }

  -- ---- lines of a refutation

  abbrev HasRows : ℕ → List Row → Type 0
  HasRows from rows = (k : ℕ) (d : Row) → k < length rows
      → (from + k < length lines) × ((line_at lines (from + k)).words ≡ line_words (get_or rows k d))

  rows_words : (from : ℕ) (rows : List Row) → from ≤ length lines → HasRows from rows
      → HasWords lines from (from + length rows) (map line_words rows)
  rows_words from [] within each = has_none from (from + 0) within (omega arith)
  rows_words from (row ∷ rows) within each =
      let here = each 0 row (omega arith) in
      let same : from + 0 ≡ from = omega arith in
      let low : from < length lines = (let lt = here.0 in omega (arith, lt)) in
      let later : HasRows (from + 1) rows =
      λ k d lt.
      (let there : from + suc k ≡ from + 1 + k = omega arith in
      subst (λ n. (n < length lines) × ((line_at lines n).words ≡ line_words (get_or rows k d))) there
      (each (suc k) d (omega (arith, lt)))) in
      let rest = rows_words (from + 1) rows (omega (arith, low)) later in
      let end : from + 1 + length rows ≡ from + suc (length rows) = omega arith in
      let high = rest.within in
      record {
        order = omega arith;
        within = omega (arith, high, end);
        words_are = between_first lines from (from + suc (length rows)) (omega arith) low
            ∙ ap (λ w. w ∷ words_between lines (from + 1) (from + suc (length rows)))
            (ap (λ n. (line_at lines n).words) (sym same) ∙ here.1)
            ∙ ap (λ n. line_words row ∷ words_between lines (from + 1) n) (sym end)
            ∙ ap (λ l. line_words row ∷ l) rest.words_are;
      }

  has_rows : (count from next : ℕ) (read : Lines) → AreCounted lines count from next read
      → HasWords lines from next (map line_words read.lines)
  has_rows count from next read a =
      let size : length read.lines ≡ count = a.are.size in
      let end : next ≡ from + length read.lines = a.behind ∙ ap (λ n. from + n) (sym size) in
      has_end from (from + length read.lines) next (map line_words read.lines) end
      (rows_words from read.lines a.within
      (λ k d lt. (let each = a.are.each k d (omega (arith, lt, size)) in (each.0, each.1.words))))

  pub has_counted : (first : List ℕ) (cycles from next : ℕ) (read : Lines) → CountedPart lines first cycles from next read
      → HasWords lines from next (counted_words first cycles (length read.lines) ∷ map line_words read.lines)
  has_counted first cycles from next read a =
      has_both from a.middle next (counted_words first cycles (length read.lines) ∷ []) (map line_words read.lines)
      (has_line _ from a.middle a.said (counted_words first cycles (length read.lines))
      (λ is. is.is ∙ ap (counted_words first cycles) (sym a.second.are.size)) a.first)
      (has_rows a.said a.middle next read a.second)

  pub has_below : (k from next : ℕ) (read : Option Lines) → from ≤ length lines → BelowPart lines k from next read
      → HasWords lines from next (refute_part (k - 1) read)
  has_below zero from next read within a =
      subst (λ r. HasWords lines from next (refute_part (zero - 1) r)) (sym a.is) (has_none from next within a.stays)
  has_below (suc j) from next read within a =
      let one : suc j - 1 ≡ j = omega arith in
      subst (λ r. HasWords lines from next (refute_part (suc j - 1) r)) (sym a.second.is)
      (subst (λ n. HasWords lines from next (refute_lines n a.said.lines)) (sym one)
      (has_end from a.middle next (refute_lines j a.said.lines) a.second.stays
      (has_counted (codes "refute") j from a.middle a.said a.first)))

  -- ---- the table

  own_words_of : (from next : ℕ) (table : Table) → OwnPart lines from next table
      → HasWords lines from next (map slot_words table.slots ++ (cross_words table.cross ∷ map (inst_words table.slots) table.uses))
  own_words_of from next table a =
      subst (λ (t : Table). HasWords lines from next (map slot_words t.slots ++ (cross_words t.cross ∷ map (inst_words t.slots) t.uses)))
      (sym a.second.second.second.is)
      (has_end from a.second.second.middle next _ a.second.second.second.stays
      (has_both from a.middle a.second.second.middle (map slot_words a.said)
      (cross_words a.second.said ∷ map (inst_words a.said) a.second.second.said)
      (has_lines _ slot_words _ from a.middle a.said a.first)
      (has_both a.middle a.second.middle a.second.second.middle (cross_words a.second.said ∷ [])
      (map (inst_words a.said) a.second.second.said)
      (has_line _ a.middle a.second.middle a.second.said (cross_words a.second.said) (λ is. is.is) a.second.first)
      (has_lines _ (inst_words a.said) _ a.second.middle a.second.second.middle a.second.second.said a.second.second.first))))

  table_words : (first : TableLine) (from middle next : ℕ) (read : Table × Bool)
      → IsOneLine IsTableLine lines from middle first → TableRest lines first middle next read
      → HasWords lines from next (table_lines read.0 read.1)
  table_words tables.BuiltIn from middle next read a b =
      subst (λ (r : Table × Bool). HasWords lines from next (table_lines r.0 r.1)) (sym b.is)
      (has_end from middle next (built_in_words ∷ []) b.stays
      (has_line IsTableLine from middle tables.BuiltIn built_in_words (λ is. is) a))
  table_words tables.Own from middle next read a b =
      subst (λ (r : Table × Bool). HasWords lines from next (table_lines r.0 r.1)) (sym b.second.is)
      (has_end from b.middle next (own_lines b.said) b.second.stays
      (has_both from middle b.middle (own_words ∷ []) _
      (has_line IsTableLine from middle tables.Own own_words (λ is. is) a)
      (own_words_of middle b.middle b.said b.first)))

  pub has_table : (from next : ℕ) (read : Table × Bool) → TablePart lines from next read
      → HasWords lines from next (table_lines read.0 read.1)
  has_table from next read a = table_words a.said from a.middle next read a.first a.second
