-- The lines behind the rows, put together.
use Rattle.std.proofs.Common.{◌≡◌, ℕ, ◌+◌, ◌<◌, ◌≤◌, ◌^◌, List, [], ◌∷◌, ◌++◌, length, map, refl, ap, ◌∙◌, arith, Option, Some, None}
use Rattle.std.specs.Prelude.{MatchOption, IfSome}
use Rattle.text_core.specs.Lines.{Line}
use Rattle.text_core.specs.LineTexts.{Words}
use Rattle.word_ops.specs.Names.{name_of}
use Rattle.word_ops.specs.declared.operators.WordOp.{WordOp}
use Rattle.word_ops.specs.declared.sorts.Sort.TheVariants as sorts
use Rattle.launch_graph.specs.declared.class_marks.Mark.{Mark}
use Rattle.graph_meaning.specs.declared.graphs.InputClass.{InputClass}
use Rattle.graph_meaning.specs.declared.graphs.Guard.{Guard}
use Rattle.graph_meaning.specs.declared.graphs.SetClass.{SetClass}
use Rattle.launch_graph.specs.declared.row_lines.RowLine.{RowLine}
use Rattle.launch_graph.specs.BehindRows.{IsRight, IsCleanBehindRows, IsEntryAt, IsPoolAt, IsGuardAt, HasNoGuard, targets, no_guard, CanTakeSets, AreInputsAt, AreSetsAt, line_after_guard, IsReadBehind}
use Rattle.launch_graph.specs.GraphLines.{entry_words, in_words, pool_words, guard_lines}
use Rattle.launch_graph.specs.GraphStages.{rows, inputs, behind_pool}
use Rattle.launch_graph.specs.GraphTexts.{EndsGraph}
use Rattle.launch_graph.specs.LineFormats.{words_between, words_from}
use Rattle.launch_graph.proofs.Between.{between_split, between_first}
use Rattle.launch_graph.proofs.BehindLines.{entry_more, pool_more, guard_more}

abbrev pub HasGuard : List Line → List Mark → ℕ → Option Guard → Type 0
HasGuard lines marks at found = MatchOption found (HasNoGuard lines at) (IsGuardAt lines marks at)

pub guard_within : (lines : List Line) (marks : List Mark) (at : ℕ) (found : Option Guard) → at ≤ length lines → HasGuard lines marks at found
    → line_after_guard found at ≤ length lines
guard_within lines marks at None le h = le
guard_within lines marks at (Some o) le h = (let w : at < length lines = h.within in omega arith)

pub guard_order : (found : Option Guard) (at : ℕ) → at ≤ line_after_guard found at
guard_order None at = omega arith
guard_order (Some o) at = omega arith

guard_words_here : (lines : List Line) (marks : List Mark) (at next : ℕ) (found : Option Guard) → HasGuard lines marks at found
    → line_after_guard found at ≤ next → words_between lines at next ≡ guard_lines found ++ words_between lines (line_after_guard found at) next
guard_words_here lines marks at next None h le = refl
guard_words_here lines marks at next (Some o) h le =
    between_first lines at next (omega arith) h.within ∙ ap (λ (w : Words). w ∷ words_between lines (at + 1) next) h.is.is

right_guard : (lines : List Line) (marks : List Mark) (at : ℕ) (found : Option Guard) → HasGuard lines marks at found
    → IfSome found (λ (o : Guard). (o.class < 2 ^ 31) × IsRight marks sorts.Word o.class)
right_guard lines marks at None h = tt
right_guard lines marks at (Some o) h = (h.is.small, h.right)

module _ (names : (o p : WordOp) → name_of o ≡ name_of p → o ≡ p) (lines : List Line) (marks : List Mark) (first : ℕ) where
  module _ (entry : ℕ) (e : IsEntryAt lines marks first entry) where
    pub at_inputs : (version from : ℕ) (all : List RowLine) → IsCleanBehindRows version lines from all marks first (rows 0) → IsCleanBehindRows version lines from all marks (first + 1) inputs
    at_inputs version from all b = entry_more names lines marks first e.within entry e version from all b

    module _ (line : ℕ) (is : List InputClass) (i : AreInputsAt lines marks (first + 1) line is) where
      pub at_pool : (version from : ℕ) (all : List RowLine) → IsCleanBehindRows version lines from all marks first (rows 0) → IsCleanBehindRows version lines from all marks line inputs
      at_pool version from all b = i.behind version from all (at_inputs version from all b)

      module _ (pool : List ℕ) (p : IsPoolAt lines line pool) where
        pub at_guard : (version from : ℕ) (all : List RowLine) → IsCleanBehindRows version lines from all marks first (rows 0)
            → IsCleanBehindRows version lines from all marks (line + 1) behind_pool
        at_guard version from all b = pool_more names lines marks line p.within pool p.is version from all (at_pool version from all b)

        can_take : (found : Option Guard) → HasGuard lines marks (line + 1) found → (version from : ℕ) (all : List RowLine)
            → IsCleanBehindRows version lines from all marks (line + 1) behind_pool → CanTakeSets version lines from all marks (line_after_guard found (line + 1)) []
        can_take None h version from all b = record { stage = behind_pool; takes = no_guard h; behind = b }
        can_take (Some o) h version from all b =
            record { stage = _; takes = targets; behind = guard_more names lines marks (line + 1) h.within o h version from all b }

        module _ (found : Option Guard) (h : HasGuard lines marks (line + 1) found) where
          pub at_sets : (version from : ℕ) (all : List RowLine) → IsCleanBehindRows version lines from all marks first (rows 0)
              → CanTakeSets version lines from all marks (line_after_guard found (line + 1)) []
          at_sets version from all b = can_take found h version from all (at_guard version from all b)

          pub read_whole : (version : ℕ) (ss : List SetClass) (next : ℕ) → AreSetsAt version lines marks (line_after_guard found (line + 1)) next ss
              → EndsGraph (words_from lines next)
              → IsReadBehind version lines marks first next (record { entry = entry; inputs = is; pool = pool; guard = found; sets = ss })
          read_whole version ss next s ends =
              let t : ℕ = line_after_guard found (line + 1) in
              let a : first + 1 ≤ line = i.order in
              let b : line + 1 ≤ t = guard_order found (line + 1) in
              let d : t ≤ next = s.order in
              record {
                order = omega arith;
                within = s.within;
                words =
                    between_first lines first next (omega arith) e.within
                    ∙ ap (λ (w : Words). w ∷ words_between lines (first + 1) next) e.is.is
                    ∙ ap (λ (ws : List Words). entry_words entry ∷ ws)
                    (between_split lines (first + 1) line next a (omega arith)
                    ∙ ap (λ (ws : List Words). ws ++ words_between lines line next) i.words
                    ∙ ap (λ (ws : List Words). map in_words is ++ ws)
                    (between_first lines line next (omega arith) p.within
                    ∙ ap (λ (w : Words). w ∷ words_between lines (line + 1) next) p.is.is
                    ∙ ap (λ (ws : List Words). pool_words pool ∷ ws)
                    (guard_words_here lines marks (line + 1) next found h d ∙ ap (λ (ws : List Words). guard_lines found ++ ws) s.words)));
                entry = (e.is.small, e.right);
                inputs = (i.fit, i.right);
                pool = p.is.low;
                guard = right_guard lines marks (line + 1) found h;
                sets = (s.fit, s.right);
                own_pins = s.own_pins;
                ends = ends;
              }
