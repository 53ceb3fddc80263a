-- The rows of a block and the lines behind them are a graph.
use Rattle.std.proofs.Common.{◌≡◌, ◌⊎◌, ℕ, min, ◌+◌, ◌-◌, ◌<◌, ◌≤◌, ◌^◌, List, [], ◌∷◌, ◌++◌, length, map, take, drop, get_or, refl, sym, ap, subst, ◌∙◌, arith, inl, inr, Option, Some, None}
use Rattle.std.specs.Prelude.{All, IfSome}
use Rattle.std.proofs.lemmas.List.{take_all, length-drop}
use Rattle.std.proofs.lemmas.List.Elements.{All-nil, All-cons}
use Rattle.text_core.specs.Lines.{Line, line_at}
use Rattle.text_core.specs.LineTexts.{Words, words_of_lines}
use Rattle.word_ops.specs.Names.{name_of}
use Rattle.word_ops.specs.declared.operators.WordOp.{WordOp}
use Rattle.word_ops.specs.declared.sorts.Sort.{Sort}
use Rattle.word_ops.specs.declared.sorts.Sort.TheVariants as sorts
use Rattle.launch_graph.specs.declared.behind_rows.BehindRows.{BehindRows}
use Rattle.launch_graph.specs.declared.class_marks.Mark.{Mark}
use Rattle.graph_meaning.specs.declared.graphs.InputClass.{InputClass}
use Rattle.graph_meaning.specs.declared.graphs.Guard.{Guard}
use Rattle.graph_meaning.specs.declared.graphs.SetClass.{SetClass}
use Rattle.graph_meaning.specs.declared.graphs.LaunchGraph.{LaunchGraph}
use Rattle.graph_meaning.specs.declared.graphs.LaunchRow.{LaunchRow}
use Rattle.launch_graph.specs.declared.row_lines.RowLine.{RowLine}
use Rattle.launch_graph.specs.declared.rows_reading.RowsSoFar.{RowsSoFar}
use Rattle.launch_graph.specs.BehindRows.{IsRight, IsCleanBehindRows, IsReadBehind}
use Rattle.launch_graph.specs.ClassMarks.{AreMarks, HasMarks}
use Rattle.launch_graph.specs.CleanLines.{EachRow, no_rows, row, IsGoodRow, IsClean}
use Rattle.launch_graph.specs.GraphLines.{said_row, said, graph_lines, AreGraphLines, SetFits, rows_words}
use Rattle.launch_graph.specs.GraphStages.{rows, RowFits, InputFits}
use Rattle.launch_graph.specs.GraphTexts.{IsGraphOf}
use Rattle.launch_graph.specs.LineFaults.{AreRowLines}
use Rattle.launch_graph.specs.LineFormats.{words_between}
use Rattle.launch_graph.specs.Readings.{IsHeaderAt, IsBlockEnd}
use Rattle.launch_graph.specs.RowFaults.{IsWrongClass}
use Rattle.launch_graph.specs.RowLines.{row_words}
use Rattle.launch_graph.specs.RowsRead.{AreRowsTo, IsBlockFrom, HasRead}
use Rattle.graph_meaning.specs.Multiples.{AreMultiplesOf}
use Rattle.graph_meaning.specs.WellFormed.{AreInOrder, IsLaunchGraph, TakesItsSorts, ClassHasSort, set_sort}
use Rattle.launch_graph.proofs.SetLines.{set_low}
use Rattle.launch_graph.proofs.Between.{between_split, between_first}
use Rattle.launch_graph.proofs.GraphRuns.{row_itself}
use Rattle.launch_graph.proofs.MadeGraphs.{all_take_sorts, in_order, right_class, made_graph}
use Rattle.launch_graph.proofs.Printed.{map_count}
use Rattle.launch_graph.proofs.RowsStart.{rows_end}

-- ---- the block of rows

same_take : {X : Type 0} (xs : List X) (n k : ℕ) → (n ≡ k) ⊎ ((n ≡ length xs) × (length xs ≤ k)) → take n xs ≡ take k xs
same_take xs n k (inl e) = ap (λ m. take m xs) e
same_take xs n k (inr e) = take_all n xs (omega (arith, e.0)) ∙ sym (take_all k xs e.1)

pub block_ends : (lines : List Line) (from count taken : ℕ) → from < length lines → taken ≡ min count (length lines - (from + 1))
    → IsBlockEnd lines (from + 1) count (from + 1 + taken)
block_ends lines from count taken low is =
    record { order = omega arith; within = grind (arith, is); is = grind (arith, is) }

block_lines : (lines : List Line) (first count end : ℕ) → IsBlockEnd lines first count end
    → take (end - first) (drop first lines) ≡ take count (drop first lines)
block_lines lines first count end b =
    same_take (drop first lines) (end - first) count
    (let left : length (drop first lines) ≡ length lines - first = length-drop first lines in
    let low : first ≤ end = b.order in
    elim b.is [
      | inl e ↦ inl (omega arith)
      | inr e ↦ inr (omega (arith, e.0, left), omega (arith, e.1, left))
    ])

module _ (lines : List Line) (from count : ℕ) (marks : List Mark) (h : IsHeaderAt lines from count) (end : ℕ)
    (b : IsBlockEnd lines (from + 1) count end) (m : HasMarks (take (end - (from + 1)) (drop (from + 1) lines)) count marks) where
  pub size : length marks ≡ count
  size = m.marks_are.size

  pub block : IsBlockFrom lines from m.rows marks (from + 1)
  block =
      record {
        first_is = refl;
        low = h.within;
        header_is = subst (λ n. (line_at lines from).words ≡ rows_words n) (sym size) h.is.is;
        few = subst (λ n. n ≤ 1000000) (sym size) h.is.few;
        are =
            subst (λ n. AreRowLines (take n (drop (from + 1) lines)) m.rows) (sym size)
            (subst (λ ls. AreRowLines ls m.rows) (block_lines lines (from + 1) count end b) m.are.are);
        marks_are = subst (λ n. AreMarks n m.rows marks) (sym size) m.marks_are;
      }

-- ---- the rows are read

module _ {version : ℕ} (names : (o p : WordOp) → name_of o ≡ name_of p → o ≡ p) (lines : List Line) (from : ℕ) (all : List RowLine) (marks : List Mark)
    (at : ℕ) (so : RowsSoFar) where
  pub all_rows : (before : List RowLine) → AreRowsTo version lines from all before marks at so → length before ≡ length marks
      → AreRowsTo version lines from all all marks at so
  all_rows before a full = subst (λ rs. AreRowsTo version lines from all rs marks at so) (rows_end names lines from all before marks at so a full) a

  pub all_count : (before : List RowLine) → AreRowsTo version lines from all before marks at so → length before ≡ length marks → length all ≡ length marks
  all_count before a full = ap length (sym (rows_end names lines from all before marks at so a full)) ∙ full

  pub begins_behind : AreRowsTo version lines from all all marks at so → length all ≡ length marks → IsCleanBehindRows version lines from all marks at (rows 0)
  begins_behind a full =
      record {
        clean = subst (λ n. IsClean version lines from (length marks) all all at (rows n)) (omega (arith, full)) a.clean;
        full = full;
        marks_are = a.marks_are;
      }

-- ---- all lines

each_words : (ls : List Line) (rs : List RowLine) → EachRow ls rs → words_of_lines ls ≡ map row_words rs
each_words [] [] no_rows = refl
each_words [] (r ∷ rs) h = elim h [ ]
each_words (l ∷ ls) [] h = elim h [ ]
each_words (l ∷ ls) (r ∷ rs) (row is more) = ap (λ (w : Words). w ∷ words_of_lines ls) is.is ∙ ap (λ (ws : List Words). row_words r ∷ ws) (each_words ls rs more)

each_fits : (ls : List Line) (rs : List RowLine) → EachRow ls rs → All RowFits rs
each_fits [] [] no_rows = All-nil RowFits
each_fits [] (r ∷ rs) h = elim h [ ]
each_fits (l ∷ ls) [] h = elim h [ ]
each_fits (l ∷ ls) (r ∷ rs) (row is more) = All-cons RowFits r rs (row_itself l.words r is) (each_fits ls rs more)

abbrev pub graph_of : RowsSoFar → List ℕ → BehindRows → LaunchGraph
graph_of so ms b =
    record {
      rows = so.rows;
      multiples = ms;
      entry = b.entry;
      inputs = b.inputs;
      pool = b.pool;
      guard = b.guard;
      sets = b.sets;
    }

-- what the finding of multiples asks of rows
pub record CanHaveMultiples (rows : List LaunchRow) : Type 0 where
  pub few : length rows < 2 ^ 30
  pub below : All (λ r. (r.class < length rows) × All (λ c. c < length rows) r.operands) rows

-- rows in order that take their sorts have classes below their number
abbrev pub OrderedAreBelow : Type 0
OrderedAreBelow =
    (g : LaunchGraph) → AreInOrder g.rows → All (TakesItsSorts g) g.rows
    → All (λ r. (r.class < length g.rows) × All (λ c. c < length g.rows) r.operands) g.rows

module _ {version : ℕ} (lines : List Line) (from at next : ℕ) (marks : List Mark) (so : RowsSoFar) (ms : List ℕ)
    (b : BehindRows) (a : AreRowsTo version lines from (map said_row so.rows) (map said_row so.rows) marks at so)
    (full : length so.rows ≡ length marks) where
  abbrev g : LaunchGraph
  g = graph_of so ms b

  abbrev all : List RowLine
  all = map said_row so.rows

  counted : length all ≡ length so.rows
  counted = map_count said_row so.rows

  fit : All RowFits all
  fit = each_fits (take (length all) (drop (from + 1) lines)) all a.clean.each

  good : (i : ℕ) (d : RowLine) → i < length all → IsGoodRow (length so.rows) all (take i all) (get_or all i d)
  good i d lt = subst (λ n. IsGoodRow n all (take i all) (get_or all i d)) (sym full) (a.clean.good i d lt)

  has : (sort : Sort) (class : ℕ) → IsRight marks sort class → ClassHasSort g sort class
  has sort class right =
      right_class g so.used so.index a.numbered fit good sort class
      (λ wrong. right all a.marks_are (subst (λ n. IsWrongClass n all sort class) full wrong))

  few : length so.rows ≤ 1000000
  few = (let c : length marks ≤ 1000000 = a.clean.few in omega (arith, c, full))

  both : {X : Type 0} (P Q R : X → Type 0) (xs : List X) → All P xs → All Q xs → ((x : X) → P x → Q x → R x) → All R xs
  both P Q R xs p q r = λ k d lt. r (get_or xs k d) (p k d lt) (q k d lt)

  pub can_have : OrderedAreBelow → CanHaveMultiples so.rows
  can_have ordered =
      record {
        few = omega (arith, few);
        below =
            ordered g (in_order g so.used so.index a.numbered fit good)
            (all_take_sorts g so.used so.index a.numbered fit good);
      }

  module _ (multiples : AreMultiplesOf so.rows ms) (h : IsReadBehind version lines marks at next b) where
    guard_has : (o : Option Guard) → IfSome o (λ (o : Guard). (o.class < 2 ^ 31) × IsRight marks sorts.Word o.class)
        → IfSome o (λ (o : Guard). ClassHasSort g sorts.Word o.class)
    guard_has None i = tt
    guard_has (Some o) i = has sorts.Word o.class i.1

    guard_small : (o : Option Guard) → IfSome o (λ (o : Guard). (o.class < 2 ^ 31) × IsRight marks sorts.Word o.class)
        → IfSome o (λ (o : Guard). o.class < 2 ^ 31)
    guard_small None i = tt
    guard_small (Some o) i = i.0

    well_formed : IsLaunchGraph g
    well_formed =
        made_graph g so.used so.index a.numbered fit good few multiples (has sorts.Memory b.entry h.entry.1)
        (both InputFits (λ (i : InputClass). IsRight marks sorts.Word i.class) (λ (i : InputClass). ClassHasSort g sorts.Word i.class × (i.reg < 31)) b.inputs
        h.inputs.0 h.inputs.1 (λ i f r. (has sorts.Word i.class r, f.1)))
        h.pool (guard_has b.guard h.guard)
        (both (SetFits version) (λ (s : SetClass). IsRight marks (set_sort s.name) s.class) (λ (s : SetClass). ClassHasSort g (set_sort s.name) s.class) b.sets
        h.sets.0 h.sets.1 (λ s f r. has (set_sort s.name) s.class r))
        (λ k d lt. (h.inputs.0 k d lt).0) (λ k d lt. (h.sets.0 k d lt).0) (λ k d lt. (set_low version (get_or b.sets k d) (h.sets.0 k d lt)).2) h.own_pins (λ k d lt. (h.sets.0 k d lt).3)

    are_lines : AreGraphLines version (said g)
    are_lines =
        record {
          few = omega (arith, few, counted);
          rows = fit;
          entry = h.entry.0;
          inputs = h.inputs.0;
          pool = h.pool;
          guard = guard_small b.guard h.guard;
          sets = h.sets.0;
          own_pins = h.own_pins;
        }

    row_lines : words_between lines (from + 1) at ≡ map row_words all
    row_lines =
        let p : at ≡ from + 1 + length all = a.place_is in
        ap (λ n. words_of_lines (take n (drop (from + 1) lines))) (let e : at - (from + 1) ≡ length all = omega arith in e)
        ∙ each_words (take (length all) (drop (from + 1) lines)) all a.clean.each

    whole : words_between lines from next ≡ graph_lines (said g)
    whole =
        let p : at ≡ from + 1 + length all = a.place_is in
        let o : at ≤ next = h.order in
        between_first lines from next (omega arith) a.clean.low
        ∙ ap (λ (w : Words). w ∷ words_between lines (from + 1) next)
        (a.clean.header_is ∙ ap rows_words (let e : length marks ≡ length all = omega (arith, full, counted) in e))
        ∙ ap (λ (ws : List Words). rows_words (length all) ∷ ws)
        (between_split lines (from + 1) at next (omega arith) h.order
        ∙ ap (λ (ws : List Words). ws ++ words_between lines at next) row_lines
        ∙ ap (λ (ws : List Words). map row_words all ++ ws) h.words)

    pub graph_read : IsGraphOf version lines from next g
    graph_read =
        record {
          order = (let p : at ≡ from + 1 + length all = a.place_is in let o : at ≤ next = h.order in omega arith);
          within = h.within;
          well_formed = well_formed;
          are = are_lines;
          is = whole;
          ends = h.ends;
        }

-- the rows of the block are those that were read
module _ {version : ℕ} (lines : List Line) (from at next : ℕ) (all : List RowLine) (marks : List Mark) (so : RowsSoFar)
    (ms : List ℕ) (b : BehindRows) (a : AreRowsTo version lines from all all marks at so)
    (full : length all ≡ length marks) where
  same : all ≡ map said_row so.rows
  same = sym a.numbered.said_are

  so_read : AreRowsTo version lines from (map said_row so.rows) (map said_row so.rows) marks at so
  so_read = subst (λ rs. AreRowsTo version lines from rs rs marks at so) same a

  all_read : length so.rows ≡ length marks
  all_read =
      let count : length (map said_row so.rows) ≡ length so.rows = map_count said_row so.rows in
      sym count ∙ ap length (sym same) ∙ full

  pub multiples_by_rows : OrderedAreBelow → CanHaveMultiples so.rows
  multiples_by_rows ordered = can_have lines from at next marks so ms b so_read all_read ordered

  pub graph_by_rows : AreMultiplesOf so.rows ms → IsReadBehind version lines marks at next b
      → IsGraphOf version lines from next (graph_of so ms b)
  graph_by_rows multiples h = graph_read lines from at next marks so ms b so_read all_read multiples h

-- ---- behind the header

module _ (names : (o p : WordOp) → name_of o ≡ name_of p → o ≡ p) (lines : List Line) (from count : ℕ) (marks : List Mark)
    (h : IsHeaderAt lines from count) (end : ℕ) (b : IsBlockEnd lines (from + 1) count end)
    (m : HasMarks (take (end - (from + 1)) (drop (from + 1) lines)) count marks) (so : RowsSoFar)
    (read : HasRead lines marks (from + 1) (length marks) so) (version : ℕ) where
  abbrev at : ℕ
  at = from + 1 + length marks

  here : (before : List RowLine) × AreRowsTo version lines from m.rows before marks at so × (length before ≡ length marks)
  here = read version from m.rows (block lines from count marks h end b m)

  rows_here : AreRowsTo version lines from m.rows m.rows marks at so
  rows_here = all_rows names lines from m.rows marks at so here.0 here.1 here.2

  full_here : length m.rows ≡ length marks
  full_here = all_count names lines from m.rows marks at so here.0 here.1 here.2

  at_is : at ≡ from + 1 + count
  at_is = ap (λ n. from + 1 + n) (size lines from count marks h end b m)

  pub behind_within : from + 1 + count ≤ length lines
  behind_within = subst (λ n. n ≤ length lines) at_is rows_here.clean.within

  pub behind_here : IsCleanBehindRows version lines from m.rows marks (from + 1 + count) (rows 0)
  behind_here =
      subst (λ n. IsCleanBehindRows version lines from m.rows marks n (rows 0)) at_is
      (begins_behind names lines from m.rows marks at so rows_here full_here)

  pub multiples_here : BehindRows → OrderedAreBelow → CanHaveMultiples so.rows
  multiples_here behind ordered =
      multiples_by_rows lines from at at m.rows marks so [] behind rows_here full_here ordered

  pub graph_here : (ms : List ℕ) → AreMultiplesOf so.rows ms → (behind : BehindRows) (next : ℕ)
      → IsReadBehind version lines marks (from + 1 + count) next behind
      → IsGraphOf version lines from next (graph_of so ms behind)
  graph_here ms multiples behind next is =
      graph_by_rows lines from at next m.rows marks so ms behind rows_here full_here multiples
      (subst (λ n. IsReadBehind version lines marks n next behind) (sym at_is) is)
