-- No line of a printed answer is the line `tail`.
use Rattle.std.proofs.Common.{◌≡◌, ◌≢◌, ◌≤◌, ℕ, Bool, true, false, List, [], ◌∷◌, ◌++◌, length, map, codes, decimal, refl, arith, length-append, subst, sym, Option, None, Some}
use Rattle.std.specs.Prelude.{All}
use Rattle.std.specs.List.{flat_map}
use Rattle.std.proofs.lemmas.List.Concat.{flat_map-cons}
use Rattle.std.proofs.lemmas.List.Elements.{All-cons, All-nil}
use Rattle.axiom_library.specs.declared.families.Family.{Family}
use Rattle.answer_texts.specs.AnswerLines.{families_lines, listed_families, answer_lines, claim_part, counted_words, end_words, goal_lines, graph_part, inst_words, launch_words, launches_part, lemmas_part, refute_part, refuted_cycles, slot_words, table_lines, where_words, word_words}
use Rattle.answer_texts.specs.declared.answers.AnswerText.{AnswerText}
use Rattle.answer_texts.specs.declared.answers.Claim.{Claim}
use Rattle.answer_texts.specs.declared.answers.Claim.TheVariants as claims
use Rattle.answer_texts.specs.declared.answers.Claimed.{Claimed}
use Rattle.answer_texts.proofs.PartsSame.{head_same, rest_same}
use Rattle.answer_texts.proofs.PrintedClaims.{apart}
use Rattle.cnf_core.specs.declared.line.Line.{Line as Row}
use Rattle.cnf_core.specs.declared.line.Lines.{Lines}
use Rattle.graph_meaning.specs.declared.graphs.Guard.{Guard}
use Rattle.graph_meaning.specs.declared.graphs.InputClass.{InputClass}
use Rattle.graph_meaning.specs.declared.graphs.LaunchGraph.{LaunchGraph}
use Rattle.graph_meaning.specs.declared.graphs.SetClass.{SetClass}
use Rattle.launch_graph.specs.GraphLines.{GraphLines, graph_lines, guard_lines, in_words, pool_words, said, set_words}
use Rattle.launch_graph.specs.RowLines.{line_op_words, row_words}
use Rattle.launch_graph.specs.declared.row_lines.LineOp.{LineOp}
use Rattle.launch_graph.specs.declared.row_lines.LineOp.TheVariants as ops
use Rattle.launch_graph.specs.declared.row_lines.RowLine.{RowLine}
use Rattle.machine_table.specs.declared.tables.Slot.{Slot}
use Rattle.machine_table.specs.declared.tables.Table.{Table}
use Rattle.machine_table.specs.declared.tables.Use.{Use}
use Rattle.refutation_check.specs.LineWords.{line_words, literal_word}
use Rattle.register_assign.specs.declared.listings.Where.{Where}
use Rattle.schedule_meaning.specs.declared.schedules.Launch.{Launch}
use Rattle.text_core.specs.LineTexts.{Words}
use Rattle.least_launch.specs.TailLines.{tail_words}

-- ---- lines of other words

abbrev pub Untailed : Words → Type 0
Untailed words = words ≢ tail_words

data AreUntailed : List Words → Type 0 where
  no_lines : AreUntailed []
  a_line : {words : Words} {lines : List Words} → Untailed words → AreUntailed lines → AreUntailed (words ∷ lines)

each_line : {lines : List Words} → AreUntailed lines → All Untailed lines
each_line no_lines = All-nil Untailed
each_line (a_line {words = ws} {lines = ls} is more) = All-cons Untailed ws ls is (each_line more)

and_lines : {lines : List Words} (others : List Words) → AreUntailed lines → AreUntailed others
    → AreUntailed (lines ++ others)
and_lines others no_lines more = more
and_lines others (a_line is rest) more = a_line is (and_lines others rest more)

lines_of : {X : Type 0} (f : X → Words) → ((x : X) → Untailed (f x)) → (xs : List X) → AreUntailed (map f xs)
lines_of f each [] = no_lines
lines_of f each (x ∷ xs) = a_line (each x) (lines_of f each xs)

-- a line of more words than one
two_words : (a b : List ℕ) (ws : Words) → Untailed (a ∷ b ∷ ws)
two_words a b ws e = (let rest : b ∷ ws ≡ [] = rest_same a (codes "tail") (b ∷ ws) [] e in cc)

more_words : (a : List ℕ) (ws : Words) → 1 ≤ length ws → Untailed (a ∷ ws)
more_words a [] some = absurd (omega (arith, some))
more_words a (b ∷ ws) some = two_words a b ws

-- a line that begins with another word
other_word : (w : List ℕ) (ws : Words) → w ≢ codes "tail" → Untailed (w ∷ ws)
other_word w ws differ e = differ (head_same w (codes "tail") ws [] e)

-- ---- the table

inst_line : (slots : List Slot) (u : Use) → Untailed (inst_words slots u)
inst_line slots u = two_words _ _ _

slot_line : (s : Slot) → Untailed (slot_words s)
slot_line s = two_words _ _ _

table_untailed : (table : Table) (builtin : Bool) → AreUntailed (table_lines table builtin)
table_untailed table true = a_line (two_words _ _ _) no_lines
table_untailed table false =
    a_line (two_words _ _ _)
    (and_lines _ (lines_of slot_words slot_line table.slots)
    (a_line (two_words _ _ _) (lines_of (inst_words table.slots) (inst_line table.slots) table.uses)))

-- ---- a graph

row_by : (class : List ℕ) (op : LineOp) (operands : Words) → Untailed (class ∷ (line_op_words op ++ operands))
row_by class (ops.Plain op) operands = two_words _ _ _
row_by class (ops.Use name) operands = two_words _ _ _
row_by class (ops.Unknown word) operands = two_words _ _ _

row_line : (row : RowLine) → Untailed (row_words row)
row_line row = row_by (decimal row.class) row.op (map decimal row.operands)

in_line : (i : InputClass) → Untailed (in_words i)
in_line i = two_words _ _ _

set_line : (s : SetClass) → Untailed (set_words s)
set_line s = two_words _ _ _

pool_line : (pool : List ℕ) → Untailed (pool_words pool)
pool_line pool =
    other_word (codes "pool") (map decimal pool)
    (apart 0 112 116 (codes "pool") (codes "tail") refl refl (λ n. omega (arith, n)))

guard_untailed : (guard : Option Guard) → AreUntailed (guard_lines guard)
guard_untailed None = no_lines
guard_untailed (Some g) = a_line (two_words _ _ _) no_lines

graph_untailed : (g : GraphLines) → AreUntailed (graph_lines g)
graph_untailed g =
    a_line (two_words _ _ _)
    (and_lines _ (lines_of row_words row_line g.rows)
    (a_line (two_words _ _ _)
    (and_lines _ (lines_of in_words in_line g.inputs)
    (a_line (pool_line g.pool) (and_lines _ (guard_untailed g.guard) (lines_of set_words set_line g.sets))))))

graph_part_untailed : (c : Claimed) (graph : Option LaunchGraph) → AreUntailed (graph_part c.rounds c.stop graph)
graph_part_untailed c None = no_lines
graph_part_untailed c (Some g) = a_line (two_words _ _ _) (graph_untailed (said g))

-- ---- a claim

launch_line : (table : Table) (g : LaunchGraph) (l : Launch) → Untailed (launch_words table g l)
launch_line table g l = two_words _ _ _

launches_untailed : (table : Table) (graph : Option LaunchGraph) (launches : List Launch)
    → AreUntailed (launches_part table graph launches)
launches_untailed table None launches = no_lines
launches_untailed table (Some g) launches = lines_of (launch_words table g) (launch_line table g) launches

word_line : (word : ℕ) → Untailed (word_words word)
word_line word = two_words _ _ _

where_line : (w : Where) → Untailed (where_words w)
where_line w = two_words _ _ _

claim_untailed : (table : Table) (graph : Option LaunchGraph) (claim : Claim)
    → AreUntailed (claim_part table graph claim)
claim_untailed table graph (claims.NoWorld class a b) = a_line (two_words _ _ _) no_lines
claim_untailed table graph (claims.Scheduled k schedule words places) =
    a_line (two_words _ _ _)
    (and_lines _ (launches_untailed table graph schedule.launches)
    (and_lines _ (lines_of word_words word_line words) (lines_of where_words where_line places)))
claim_untailed table graph (claims.Missing k) = a_line (two_words _ _ _) no_lines
claim_untailed table graph (claims.SpentConflicts k lemmas) = a_line (two_words _ _ _) no_lines
claim_untailed table graph (claims.SpentSize k vars clauses) = a_line (two_words _ _ _) no_lines

-- ---- refutations

proof_line : (line : Row) → Untailed (line_words line)
proof_line line =
    let behind : Words = codes "0" ∷ (map decimal line.hints ++ codes "0" ∷ []) in
    let size = length-append (map literal_word line.lits) behind in
    more_words (decimal line.id) (map literal_word line.lits ++ behind) (omega (arith, size))

counted_untailed : (first : List ℕ) (cycles : ℕ) (lines : List Row)
    → AreUntailed (counted_words first cycles (length lines) ∷ map line_words lines)
counted_untailed first cycles lines = a_line (two_words _ _ _) (lines_of line_words proof_line lines)

refute_untailed : (cycles : ℕ) (refute : Option Lines) → AreUntailed (refute_part cycles refute)
refute_untailed cycles None = no_lines
refute_untailed cycles (Some lines) = counted_untailed (codes "refute") cycles lines.lines

lemmas_untailed : (claim : Claim) → AreUntailed (lemmas_part claim)
lemmas_untailed (claims.NoWorld class a b) = no_lines
lemmas_untailed (claims.Scheduled k schedule words places) = no_lines
lemmas_untailed (claims.Missing k) = no_lines
lemmas_untailed (claims.SpentConflicts k lemmas) = counted_untailed (codes "lemmas") k lemmas.lines
lemmas_untailed (claims.SpentSize k vars clauses) = no_lines

-- ---- answers

end_line : Untailed end_words
end_line = other_word (codes "end") [] (apart 0 101 116 (codes "end") (codes "tail") refl refl (λ n. omega (arith, n)))

goal_untailed : (table : Table) (c : Claimed) → AreUntailed (goal_lines table c)
goal_untailed table c =
    a_line (two_words _ _ _)
    (and_lines _ (graph_part_untailed c c.graph)
    (and_lines _ (claim_untailed table c.graph c.claim)
    (and_lines _ (refute_untailed (refuted_cycles c.claim) c.refute)
    (and_lines _ (lemmas_untailed c.claim) (a_line end_line no_lines)))))

goals_untailed : (table : Table) (goals : List Claimed) → AreUntailed (flat_map (goal_lines table) goals)
goals_untailed table [] = no_lines
goals_untailed table (c ∷ goals) =
    subst AreUntailed (sym (flat_map-cons (goal_lines table) c goals))
    (and_lines _ (goal_untailed table c) (goals_untailed table goals))

library_untailed : (fs : List Family) → AreUntailed (families_lines fs)
library_untailed [] = no_lines
library_untailed (f ∷ fs) = a_line (two_words _ _ _) no_lines

pub answer_untailed : (a : AnswerText) → All Untailed (answer_lines a)
answer_untailed a =
    each_line
    (a_line (two_words _ _ _)
    (a_line (two_words _ _ _)
    (and_lines _ (and_lines _ (table_untailed a.table a.builtin) (library_untailed (listed_families a.library)))
    (goals_untailed a.table a.goals))))
