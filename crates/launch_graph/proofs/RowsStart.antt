-- The block of rows at its start and at its end.
use Rattle.std.proofs.Common.{◌≡◌, ℕ, ◌+◌, ◌-◌, ◌<◌, ◌≤◌, List, [], length, take, drop, get_or, refl, sym, subst, ◌∙◌, arith, Option, None}
use Rattle.std.proofs.lemmas.Option.{none-some}
use Rattle.word_ops.specs.Names.{name_of}
use Rattle.word_ops.specs.declared.operators.WordOp.{WordOp}
use Rattle.text_core.specs.Lines.{Line, line_at}
use Rattle.launch_graph.specs.declared.class_marks.Mark.{Mark}
use Rattle.launch_graph.specs.declared.row_lines.RowLine.{RowLine}
use Rattle.launch_graph.specs.declared.rows_reading.RowsSoFar.{RowsSoFar}
use Rattle.launch_graph.specs.ClassMarks.{AreMarks}
use Rattle.launch_graph.specs.GraphLines.{rows_words}
use Rattle.launch_graph.specs.GraphStages.{rows}
use Rattle.launch_graph.specs.CleanLines.{IsClean}
use Rattle.launch_graph.specs.LineFaults.{AreRowLines}
use Rattle.launch_graph.specs.Numbering.{AreNumbered}
use Rattle.launch_graph.specs.RowsRead.{AreRowsTo}
use Rattle.launch_graph.specs.SeenRows.{IsSeen}
use Rattle.launch_graph.proofs.Blocks.{rows_once, each_lines}
use Rattle.launch_graph.proofs.CleanSteps.{clean_start}
use Rattle.graph_meaning.proofs.Lists.{any_nil}

no_constants : (n : ℕ) (constants : List (Option ℕ)) → length constants ≡ n → ((k : ℕ) → get_or constants k None ≡ None) → IsSeen n [] 0 constants
no_constants n constants size none =
    record {
      size = size;
      next_is = refl;
      has = λ class lt. absurd (omega arith);
      below = λ class has. absurd (any_nil (λ (r : RowLine). r.class ≡ class) has);
      told = λ class m lt e. absurd (none-some m (sym (none class) ∙ e));
      only = λ other m has lt e. absurd (let l : has.0 < 0 = has.1 in omega arith);
    }

nothing_numbered : AreNumbered [] [] [] []
nothing_numbered =
    record {
      said_are = refl;
      keys_are = refl;
      declared_are = λ i n r at d. absurd (none-some r at);
      unnamed = λ k d lt. absurd (omega arith);
      arities = λ k d lt. absurd (omega arith);
      distinct = λ i j one other a b same. absurd (none-some one a);
      next_is = refl;
      few = omega arith;
      names_are = refl;
      used_are = λ n one at. absurd (none-some one at);
    }

-- behind the header nothing is read yet
pub rows_start : {version : ℕ} (lines : List Line) (from : ℕ) (all : List RowLine) (marks : List Mark) (so : RowsSoFar) → from < length lines
    → (line_at lines from).words ≡ rows_words (length marks) → length marks ≤ 1000000
    → AreRowLines (take (length marks) (drop (from + 1) lines)) all → AreMarks (length marks) all marks
    → so.used ≡ [] → so.index ≡ [] → so.rows ≡ [] → so.next ≡ 0 → length so.constants.items ≡ length marks
    → ((k : ℕ) → get_or so.constants.items k None ≡ None) → AreRowsTo version lines from all [] marks (from + 1) so
rows_start {version} lines from all marks so low is few are marks_are us ks rs n size none =
    record {
      clean =
          subst (λ k. IsClean version lines from (length marks) all [] (from + 1) (rows k)) (let k : length marks ≡ length marks - 0 = omega arith in k)
          (clean_start lines from (length marks) all low is few are);
      place_is = omega arith;
      marks_are = marks_are;
      seen = subst (λ k. IsSeen (length marks) [] k so.constants.items) (sym n) (no_constants (length marks) so.constants.items size none);
      numbered =
          subst (λ x. AreNumbered [] x so.index so.rows) (sym us)
          (subst (λ x. AreNumbered [] [] x so.rows) (sym ks) (subst (λ x. AreNumbered [] [] [] x) (sym rs) nothing_numbered));
    }

-- where all rows are read, they are those of the block
pub rows_end : {version : ℕ} (names : (o p : WordOp) → name_of o ≡ name_of p → o ≡ p) (lines : List Line) (from : ℕ) (all before : List RowLine) (marks : List Mark) (at : ℕ) (so : RowsSoFar)
    → AreRowsTo version lines from all before marks at so → length before ≡ length marks → before ≡ all
rows_end names lines from all before marks at so a full =
    rows_once names (take (length marks) (drop (from + 1) lines)) before all
    (subst (λ k. AreRowLines (take k (drop (from + 1) lines)) before) full
    (each_lines (take (length before) (drop (from + 1) lines)) before a.clean.each))
    a.clean.all_are
