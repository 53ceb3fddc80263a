-- The lines of an answer, each a list of words. Numbers are decimal, words of the machine are eight hexadecimal digits.
-- Source: this project.
use Rattle.std.specs.Prelude.{ℕ, ℤ, zero, suc, ◌+◌, ◌*◌, ◌/◌, ◌%◌, ◌^◌, ◌-◌, Bool, List, [], ◌∷◌, ◌++◌, length, map, codes, decimal, Option, None, Some, nat_lt, slice_get, if◌then◌else◌}
use Rattle.std.specs.Fmt.{signed_decimal}
use Rattle.std.specs.List.{flat_map}
use Rattle.std.specs.Option.{option_map_or}
use Rattle.alpha_encode.specs.Codes.{is_unary}
use Rattle.alpha_encode.specs.Decoded.{decoded}
use Rattle.alpha_encode.specs.Texts.{register, second_text}
use Rattle.alpha_encode.specs.declared.instructions.Instr.{Instr}
use Rattle.alpha_encode.specs.declared.instructions.Instr.TheVariants.{Operate, Lda, Ldah, Load, Store, Ldq, Stq, Beq}
use Rattle.axiom_library.specs.Libraries.{families_of}
use Rattle.axiom_library.specs.Names.{family_name}
use Rattle.axiom_library.specs.declared.families.Family.{Family}
use Rattle.axiom_library.specs.declared.libraries.Library.{Library}
use Rattle.cnf_core.specs.declared.line.Line.{Line}
use Rattle.cnf_core.specs.declared.line.Lines.{Lines}
use Rattle.launch_graph.specs.GraphLines.{graph_lines, pin_words, said}
use Rattle.graph_meaning.specs.declared.graphs.LaunchGraph.{LaunchGraph}
use Rattle.machine_table.specs.InstrOrder.{instr_name}
use Rattle.machine_table.specs.declared.tables.Slot.{Slot}
use Rattle.machine_table.specs.declared.tables.Table.{Table}
use Rattle.machine_table.specs.declared.tables.Use.{Use}
use Rattle.refutation_check.specs.LineWords.{line_words}
use Rattle.register_assign.specs.declared.listings.Where.{Where}
use Rattle.graph_meaning.specs.declared.stops.Stop.{Stop}
use Rattle.graph_meaning.specs.declared.stops.Stop.TheVariants.{Quiet, Rounds, Full}
use Rattle.schedule_meaning.specs.Launches.{pin_of}
use Rattle.schedule_meaning.specs.declared.schedules.Launch.{Launch}
use Rattle.text_core.specs.LineTexts.{Words, lines_text}
use Rattle.word_ops.specs.Operates.{row_of}
use Rattle.word_ops.specs.declared.operates.Operate.{Operate as OperateOf}
use Rattle.machine_table.specs.declared.tables.InstrKind.TheVariants as kinds
use Rattle.answer_texts.specs.declared.answers.AnswerText.{AnswerText}
use Rattle.answer_texts.specs.declared.answers.Claim.{Claim}
use Rattle.answer_texts.specs.declared.answers.Claim.TheVariants.{NoWorld, Scheduled, Missing, SpentConflicts, SpentSize}
use Rattle.answer_texts.specs.declared.answers.Claimed.{Claimed}

-- ---- the head and the table

abbrev pub version_words : ℕ → Words
version_words version = codes "denali" ∷ decimal version ∷ []

abbrev pub encoding_words : ℕ → Words
encoding_words encoding = codes "encoding" ∷ decimal encoding ∷ []

abbrev pub built_in_words : Words
built_in_words = codes "table" ∷ codes "ev6" ∷ []

abbrev pub own_words : Words
own_words = codes "table" ∷ codes "own" ∷ []

-- the name of a slot, and nothing for one that isn't there
abbrev pub name_among : List Slot → ℕ → List ℕ
name_among slots slot = option_map_or (λ (s : Slot). s.name) (slice_get slots slot) []

abbrev pub slot_name : Table → ℕ → List ℕ
slot_name table slot = name_among table.slots slot

abbrev pub slot_words : Slot → Words
slot_words slot = codes "slot" ∷ slot.name ∷ decimal slot.cluster ∷ []

abbrev pub cross_words : ℕ → Words
cross_words cross = codes "cross" ∷ decimal cross ∷ []

-- an instruction, its latency, and the names of its slots among these
abbrev pub inst_words : List Slot → Use → Words
inst_words slots u = codes "inst" ∷ instr_name u.instr ∷ decimal u.latency ∷ map (name_among slots) u.slots

-- a table of the text's own with its slots, its delay between clusters, and its instructions
abbrev pub own_lines : Table → List Words
own_lines table =
    own_words
    ∷ (map slot_words table.slots ++ (cross_words table.cross ∷ map (inst_words table.slots) table.uses))

abbrev pub table_lines : Table → Bool → List Words
table_lines table builtin = if builtin then built_in_words ∷ [] else own_lines table

-- ---- the library

-- the families whose rules served the goals beside those of their text
abbrev pub families_words : List Family → Words
families_words families = codes "library" ∷ map family_name families

-- one line, if there are families
abbrev pub families_lines : List Family → List Words
families_lines [] = []
families_lines (family ∷ others) = families_words (family ∷ others) ∷ []

-- the families of a library, in the order of all families
unfoldable pub listed_families : Library → List Family
listed_families library = families_of library

abbrev pub library_words : Library → Words
library_words library = families_words (listed_families library)

abbrev pub library_lines : Library → List Words
library_lines library = families_lines (listed_families library)

-- ---- the schedule and its words

-- a launch, and behind its row the pin of the set that it goes to, where it goes to one
abbrev pub launch_words : Table → LaunchGraph → Launch → Words
launch_words table g l =
    codes "launch" ∷ decimal l.cycle ∷ slot_name table l.slot ∷ decimal l.row ∷ pin_words (pin_of g l.to)

-- the launches of a schedule of the graph; where there is no graph, there are no rows to launch
abbrev pub launches_part : Table → Option LaunchGraph → List Launch → List Words
launches_part table None launches = []
launches_part table (Some g) launches = map (launch_words table g) launches

abbrev pub hex_digit : ℕ → ℕ
hex_digit n = if nat_lt n 10 then 48 + n else 55 + n

-- the hexadecimal digits of a word from digit k - 1 down, in upper case
abbrev pub hex_digits : ℕ → ℕ → List ℕ
hex_digits zero word = []
hex_digits (suc k) word = hex_digit (word / 2 ^ (4 * k) % 16) ∷ hex_digits k word

-- a word of 32 bits
unfoldable pub hex_text : ℕ → List ℕ
hex_text word = hex_digits 8 word

-- a register with a comma behind it
abbrev pub before_comma : ℕ → List ℕ
before_comma r = register r ++ codes ","

-- an operate of one operand is printed without a first operand
abbrev pub first_operand_words : OperateOf → ℕ → Words
first_operand_words op ra = if is_unary op then [] else before_comma ra ∷ []

abbrev pub memory_words : List ℕ → ℕ → ℕ → ℤ → Words
memory_words name ra rb disp =
    name ∷ before_comma ra ∷ (signed_decimal disp ++ codes "(" ++ register rb ++ codes ")") ∷ []

-- the words of an instruction's text
abbrev pub instr_words : Instr → Words
instr_words (Operate op ra second rc) =
    (row_of op).name ∷ (first_operand_words op ra ++ ((second_text second ++ codes ",") ∷ register rc ∷ []))
instr_words (Lda ra rb disp) = memory_words (codes "lda") ra rb disp
instr_words (Ldah ra rb disp) = memory_words (codes "ldah") ra rb disp
instr_words (Load access ra rb disp) = memory_words (instr_name (kinds.Load access)) ra rb disp
instr_words (Store access ra rb disp) = memory_words (instr_name (kinds.Store access)) ra rb disp
instr_words (Ldq ra rb disp) = memory_words (codes "ldq") ra rb disp
instr_words (Stq ra rb disp) = memory_words (codes "stq") ra rb disp
instr_words (Beq ra disp) = codes "beq" ∷ before_comma ra ∷ signed_decimal disp ∷ []

-- the words of the instruction that a word is, and none for a word that is none
abbrev pub text_words : Option Instr → Words
text_words None = []
text_words (Some instr) = instr_words instr

-- the line of a word: its number, and the text of the instruction that it is
abbrev pub word_words : ℕ → Words
word_words word = codes "word" ∷ hex_text word ∷ text_words (decoded word)

abbrev pub where_words : Where → Words
where_words w = codes "where" ∷ w.name ∷ decimal w.reg ∷ []

-- ---- refutations and lemmas

-- a word, the number of cycles of the lines behind it, and the number of these lines
abbrev pub counted_words : List ℕ → ℕ → ℕ → Words
counted_words first cycles count = first ∷ decimal cycles ∷ decimal count ∷ []

-- the lines that refute the clauses for this number of cycles
abbrev pub refute_lines : ℕ → List Line → List Words
refute_lines cycles lines = counted_words (codes "refute") cycles (length lines) ∷ map line_words lines

abbrev pub lemmas_lines : ℕ → List Line → List Words
lemmas_lines cycles lines = counted_words (codes "lemmas") cycles (length lines) ∷ map line_words lines

-- ---- the answer to a goal

abbrev pub stop_name : Stop → List ℕ
stop_name Quiet = codes "quiet"
stop_name Rounds = codes "rounds"
stop_name Full = codes "full"

abbrev pub rounds_words : ℕ → Stop → Words
rounds_words rounds stop = codes "rounds" ∷ decimal rounds ∷ codes "stop" ∷ stop_name stop ∷ []

abbrev pub scheduled_words : ℕ → Words
scheduled_words k = codes "scheduled" ∷ decimal k ∷ []

abbrev pub none_words : ℕ → Words
none_words k = codes "none" ∷ decimal k ∷ []

abbrev pub conflicts_words : ℕ → Words
conflicts_words k = codes "spent" ∷ codes "conflicts" ∷ decimal k ∷ []

abbrev pub size_words : ℕ → ℕ → ℕ → Words
size_words k vars clauses = codes "spent" ∷ codes "size" ∷ decimal k ∷ decimal vars ∷ decimal clauses ∷ []

abbrev pub noworld_words : ℕ → ℕ → ℕ → Words
noworld_words class a b = codes "noworld" ∷ decimal class ∷ decimal a ∷ decimal b ∷ []

abbrev pub goal_words : List ℕ → Words
goal_words name = codes "goal" ∷ name ∷ []

abbrev pub end_words : Words
end_words = codes "end" ∷ []

-- the rounds, why they ended, and the graph, where there is one
abbrev pub graph_part : ℕ → Stop → Option LaunchGraph → List Words
graph_part rounds stop None = []
graph_part rounds stop (Some g) = rounds_words rounds stop ∷ graph_lines (said g)

-- a claim on the graph
abbrev pub claim_part : Table → Option LaunchGraph → Claim → List Words
claim_part table graph (NoWorld class a b) = noworld_words class a b ∷ []
claim_part table graph (Scheduled k schedule words places) =
    scheduled_words k
    ∷ (launches_part table graph schedule.launches ++ (map word_words words ++ map where_words places))
claim_part table graph (Missing k) = none_words k ∷ []
claim_part table graph (SpentConflicts k lemmas) = conflicts_words k ∷ []
claim_part table graph (SpentSize k vars clauses) = size_words k vars clauses ∷ []

-- the number of cycles below which, as a claim says, no schedule fits
abbrev pub refuted_below : Claim → ℕ
refuted_below (NoWorld class a b) = 0
refuted_below (Scheduled k schedule words places) = k
refuted_below (Missing k) = k + 1
refuted_below (SpentConflicts k lemmas) = k
refuted_below (SpentSize k vars clauses) = k

-- the number of cycles of the clauses that a claim's lines are to refute, where there are lines: one less
abbrev pub refuted_cycles : Claim → ℕ
refuted_cycles claim = refuted_below claim - 1

abbrev pub refute_part : ℕ → Option Lines → List Words
refute_part cycles None = []
refute_part cycles (Some lines) = refute_lines cycles lines.lines

abbrev pub lemmas_part : Claim → List Words
lemmas_part (SpentConflicts k lemmas) = lemmas_lines k lemmas.lines
lemmas_part claim = []

abbrev pub goal_lines : Table → Claimed → List Words
goal_lines table c =
    goal_words c.name
    ∷ (graph_part c.rounds c.stop c.graph
    ++ (claim_part table c.graph c.claim
    ++ (refute_part (refuted_cycles c.claim) c.refute ++ (lemmas_part c.claim ++ (end_words ∷ [])))))

-- ---- the answer to a text

abbrev pub head_lines : ℕ → ℕ → Table → Bool → Library → List Words
head_lines version encoding table builtin library =
    version_words version ∷ encoding_words encoding ∷ (table_lines table builtin ++ library_lines library)

abbrev pub answer_lines : AnswerText → List Words
answer_lines a =
    head_lines a.version a.encoding a.table a.builtin a.library ++ flat_map (goal_lines a.table) a.goals

-- the bytes of an answer
abbrev pub answer_bytes : AnswerText → List ℕ
answer_bytes a = lines_text (answer_lines a)
