-- The grammar of answers, part by part: which lines say which value, and the first fault of lines that don't.
-- Source: this project.
use Rattle.std.specs.Prelude.{⊤, ℕ, zero, suc, ◌≡◌, ◌≢◌, ◌⊎◌, ◌+◌, ◌<◌, ◌≤◌, ◌^◌, Bool, true, false, List, [], ◌∷◌, ◌++◌, length, codes, Option, None, Some, is_some, IsSomeAnd, IsTrue, All, AllPairs}
use Rattle.text_core.specs.Limits.{most_goals}
use Rattle.schedule_meaning.specs.Limits.{most_cycles}
use Rattle.alpha_encode.specs.Decoded.{decoded}
use Rattle.axiom_library.specs.Libraries.{no_library}
use Rattle.axiom_library.specs.declared.libraries.Library.{Library}
use Rattle.cnf_core.specs.declared.line.Lines.{Lines}
use Rattle.launch_graph.specs.GraphTexts.{IsGraphOf}
use Rattle.launch_graph.specs.LineFaults.{IsFirstFaultOf}
use Rattle.graph_meaning.specs.declared.graphs.LaunchGraph.{LaunchGraph}
use Rattle.machine_table.specs.Tables.{IsTable, ev6}
use Rattle.machine_table.specs.declared.tables.Slot.{Slot}
use Rattle.machine_table.specs.declared.tables.Table.{Table}
use Rattle.machine_table.specs.declared.tables.Use.{Use}
use Rattle.refutation_check.specs.LineWords.{AreLinesAt, IsFirstBadLine}
use Rattle.register_assign.specs.declared.listings.Where.{Where}
use Rattle.graph_meaning.specs.declared.stops.Stop.TheVariants.{Quiet}
use Rattle.schedule_meaning.specs.Launches.{pin_of}
use Rattle.schedule_meaning.specs.declared.schedules.To.{To}
use Rattle.schedule_meaning.specs.declared.schedules.To.TheVariants.{Pool, Set}
use Rattle.schedule_meaning.specs.declared.schedules.Launch.{Launch}
use Rattle.text_core.specs.Lines.{Line, line_word}
use Rattle.text_core.specs.LineTexts.{Words}
use Rattle.text_core.specs.Names.{IsName}
use Rattle.text_core.specs.declared.faults.Kind.{Kind}
use Rattle.answer_texts.specs.AnswerLines.{version_words, encoding_words, built_in_words, own_words, slot_words, cross_words, inst_words, library_words, listed_families, launch_words, word_words, where_words, counted_words, rounds_words, scheduled_words, none_words, conflicts_words, size_words, noworld_words, goal_words, end_words}
use Rattle.answer_texts.specs.LineParts.{IsBadOrMissingLine, IsOneLine, IsNoLine, AreLinesOf, HasBadLine, Leads, Says, LeadsFault, NoFault}
use Rattle.answer_texts.specs.declared.answers.AnswerText.{AnswerText}
use Rattle.answer_texts.specs.declared.answers.Claim.{Claim}
use Rattle.answer_texts.specs.declared.answers.Claim.TheVariants as claims
use Rattle.answer_texts.specs.declared.answers.Claimed.{Claimed}
use Rattle.answer_texts.specs.declared.parts.Body.{Body}
use Rattle.answer_texts.specs.declared.parts.BodyLine.{BodyLine}
use Rattle.answer_texts.specs.declared.parts.BodyLine.TheVariants as bodies
use Rattle.answer_texts.specs.declared.parts.ClaimLine.{ClaimLine}
use Rattle.answer_texts.specs.declared.parts.ClaimLine.TheVariants as lines_of
use Rattle.answer_texts.specs.declared.parts.TableLine.{TableLine}
use Rattle.answer_texts.specs.declared.parts.TableLine.TheVariants as tables

-- ---- the head

pub record IsVersion (words : Words) (version : ℕ) : Type 0 where
  pub known : (1 ≤ version) × (version ≤ 3)
  pub is : words ≡ version_words version

-- version 1 is that of the two encodings without pins, version 2 that of the one with pins, and version 3 that of the
-- one by live ranges
abbrev pub GoTogether : ℕ → ℕ → Type 0
GoTogether version encoding =
    ((version ≡ 1) × (1 ≤ encoding) × (encoding ≤ 2))
    ⊎ (((version ≡ 2) × (encoding ≡ 3)) ⊎ ((version ≡ 3) × (encoding ≡ 4)))

pub record IsEncoding (version : ℕ) (words : Words) (encoding : ℕ) : Type 0 where
  pub known : GoTogether version encoding
  pub is : words ≡ encoding_words encoding

-- ---- the table

abbrev pub IsTableLine : Words → TableLine → Type 0
IsTableLine words tables.BuiltIn = words ≡ built_in_words
IsTableLine words tables.Own = words ≡ own_words

-- at most eight slots with different names, in clusters 0 to 3
pub record AreNamedSlots (slots : List Slot) : Type 0 where
  pub few : length slots ≤ 8
  pub names : All (λ s. IsName s.name) slots
  pub clusters : All (λ s. s.cluster ≤ 3) slots
  pub once : AllPairs (λ s r. s.name ≢ r.name) slots

-- the delay between clusters, behind at least one slot
pub record IsCross (slots : List Slot) (words : Words) (cross : ℕ) : Type 0 where
  pub some : 1 ≤ length slots
  pub low : cross ≤ 4
  pub is : words ≡ cross_words cross

abbrev pub table_of : List Slot → ℕ → List Use → Table
table_of slots cross uses = record { slots = slots; cross = cross; uses = uses }

-- with these uses the table is within the limits
abbrev pub AreTableUses : List Slot → ℕ → List Use → Type 0
AreTableUses slots cross uses = IsTable (table_of slots cross uses)

abbrev pub SlotsPart : List Line → ℕ → ℕ → List Slot → Type 0
SlotsPart lines = AreLinesOf (codes "slot") slot_words AreNamedSlots lines

abbrev pub SlotsFault : List Line → ℕ → ℕ → Kind → Type 0
SlotsFault lines = HasBadLine (codes "slot") slot_words AreNamedSlots lines

abbrev pub UsesPart : List Line → List Slot → ℕ → ℕ → ℕ → List Use → Type 0
UsesPart lines slots cross = AreLinesOf (codes "inst") (inst_words slots) (AreTableUses slots cross) lines

abbrev pub UsesFault : List Line → List Slot → ℕ → ℕ → ℕ → Kind → Type 0
UsesFault lines slots cross = HasBadLine (codes "inst") (inst_words slots) (AreTableUses slots cross) lines

-- a table of the text's own: its slots, its delay, its instructions
abbrev pub OwnPart : List Line → ℕ → ℕ → Table → Type 0
OwnPart lines =
    Leads (SlotsPart lines) (λ slots.
    Leads (IsOneLine (IsCross slots) lines) (λ cross.
    Leads (UsesPart lines slots cross) (λ uses. Says (table_of slots cross uses))))

abbrev pub OwnFault : List Line → ℕ → ℕ → Kind → Type 0
OwnFault lines =
    LeadsFault (SlotsPart lines) (SlotsFault lines) (λ slots.
    LeadsFault (IsOneLine (IsCross slots) lines) (IsNoLine (IsCross slots) lines) (λ cross.
    LeadsFault (UsesPart lines slots cross) (UsesFault lines slots cross) (λ uses. NoFault)))

-- what stands behind the first line of a table
abbrev pub TableRest : List Line → TableLine → ℕ → ℕ → Table × Bool → Type 0
TableRest lines tables.BuiltIn = Says (ev6, true)
TableRest lines tables.Own = Leads (OwnPart lines) (λ table. Says (table, false))

abbrev pub TableRestFault : List Line → TableLine → ℕ → ℕ → Kind → Type 0
TableRestFault lines tables.BuiltIn = NoFault
TableRestFault lines tables.Own = LeadsFault (OwnPart lines) (OwnFault lines) (λ table. NoFault)

-- a table, and whether it is the built-in one
abbrev pub TablePart : List Line → ℕ → ℕ → Table × Bool → Type 0
TablePart lines = Leads (IsOneLine IsTableLine lines) (TableRest lines)

abbrev pub TableFault : List Line → ℕ → ℕ → Kind → Type 0
TableFault lines = LeadsFault (IsOneLine IsTableLine lines) (IsNoLine IsTableLine lines) (TableRestFault lines)

-- ---- the library

-- some families, in their order and each once
pub record IsLibrary (words : Words) (library : Library) : Type 0 where
  pub some : listed_families library ≢ []
  pub is : words ≡ library_words library

-- a line that begins with the word `library`
pub record BeginsLibrary (lines : List Line) (from : ℕ) : Type 0 where
  pub within : from < length lines
  pub begins : line_word lines from 0 ≡ codes "library"

-- a library's line, or no line and no family
pub data LibraryPart (lines : List Line) (from : ℕ) : ℕ → Library → Type 0 where
  no_line : ¬ BeginsLibrary lines from → LibraryPart lines from from no_library
  line : {next : ℕ} {library : Library} → IsOneLine IsLibrary lines from next library
      → LibraryPart lines from next library

-- a line that begins so and isn't that of a library
pub record LibraryFault (lines : List Line) (from place : ℕ) (kind : Kind) : Type 0 where
  pub begins : BeginsLibrary lines from
  pub fault : IsNoLine IsLibrary lines from place kind

-- ---- refutations and lemmas

pub record IsCount (first : List ℕ) (cycles : ℕ) (words : Words) (count : ℕ) : Type 0 where
  pub small : count < 2 ^ 31
  pub is : words ≡ counted_words first cycles count

-- `count` lines of a refutation
pub record AreCounted (lines : List Line) (count from next : ℕ) (read : Lines) : Type 0 where
  pub within : from ≤ length lines
  pub are : AreLinesAt lines from count read.lines
  pub behind : next ≡ from + count

pub record IsCountedFault (lines : List Line) (count from place : ℕ) (kind : Kind) : Type 0 where
  pub at : ℕ
  pub first : IsFirstBadLine lines from count at
  pub fault : IsBadOrMissingLine lines (from + at) place kind

abbrev pub CountedPart : List Line → List ℕ → ℕ → ℕ → ℕ → Lines → Type 0
CountedPart lines first cycles = Leads (IsOneLine (IsCount first cycles) lines) (AreCounted lines)

abbrev pub CountedFault : List Line → List ℕ → ℕ → ℕ → ℕ → Kind → Type 0
CountedFault lines first cycles =
    LeadsFault (IsOneLine (IsCount first cycles) lines) (IsNoLine (IsCount first cycles) lines) (IsCountedFault lines)

-- lines for one cycle less than k, where there is such a number
abbrev pub BelowPart : List Line → ℕ → ℕ → ℕ → Option Lines → Type 0
BelowPart lines zero = Says None
BelowPart lines (suc j) = Leads (CountedPart lines (codes "refute") j) (λ read. Says (Some read))

abbrev pub BelowFault : List Line → ℕ → ℕ → ℕ → Kind → Type 0
BelowFault lines zero = NoFault
BelowFault lines (suc j) =
    LeadsFault (CountedPart lines (codes "refute") j) (CountedFault lines (codes "refute") j) (λ read. NoFault)

-- ---- claims

-- the first line of a claim; up to `most_cycles` are spoken of
pub record IsClaimOf (words expected : Words) (k : ℕ) : Type 0 where
  pub low : k ≤ most_cycles
  pub is : words ≡ expected

abbrev pub IsClaimLine : Words → ClaimLine → Type 0
IsClaimLine words (lines_of.Scheduled k) = IsClaimOf words (scheduled_words k) k
IsClaimLine words (lines_of.Missing k) = IsClaimOf words (none_words k) k
IsClaimLine words (lines_of.Conflicts k) = IsClaimOf words (conflicts_words k) k
IsClaimLine words (lines_of.Size k vars clauses) =
    IsClaimOf words (size_words k vars clauses) k × (vars < 2 ^ 64) × (clauses < 2 ^ 64)

-- the pool, or a set of the graph that is pinned to a register
abbrev pub IsDestination : LaunchGraph → To → Type 0
IsDestination g Pool = ⊤
IsDestination g (Set j) = (j < 2 ^ 31) × IsSomeAnd (pin_of g (Set j)) (λ r. r < 31)

-- a launch in a slot of the table, all numbers of which are below 2 ^ 31
abbrev pub IsLaunch : Table → LaunchGraph → Launch → Type 0
IsLaunch table g l =
    (l.cycle < 2 ^ 31) × (l.slot < length table.slots) × (l.row < 2 ^ 31) × (l.slot < 2 ^ 31) × IsDestination g l.to

abbrev pub AreLaunches : Table → LaunchGraph → List Launch → Type 0
AreLaunches table g launches = All (IsLaunch table g) launches

-- a word of the machine
abbrev pub IsCode : ℕ → Type 0
IsCode word = (word < 2 ^ 32) × IsTrue (is_some (decoded word))

abbrev pub AreCodes : List ℕ → Type 0
AreCodes words = All IsCode words

-- the register of a target
abbrev pub IsPlace : Where → Type 0
IsPlace w = IsName w.name × (w.reg < 32)

abbrev pub AreWherePlaces : List Where → Type 0
AreWherePlaces places = All IsPlace places

abbrev pub LaunchesPart : List Line → Table → LaunchGraph → ℕ → ℕ → List Launch → Type 0
LaunchesPart lines table g = AreLinesOf (codes "launch") (launch_words table g) (AreLaunches table g) lines

abbrev pub LaunchesFault : List Line → Table → LaunchGraph → ℕ → ℕ → Kind → Type 0
LaunchesFault lines table g = HasBadLine (codes "launch") (launch_words table g) (AreLaunches table g) lines

abbrev pub CodesPart : List Line → ℕ → ℕ → List ℕ → Type 0
CodesPart lines = AreLinesOf (codes "word") word_words AreCodes lines

abbrev pub CodesFault : List Line → ℕ → ℕ → Kind → Type 0
CodesFault lines = HasBadLine (codes "word") word_words AreCodes lines

abbrev pub PlacesPart : List Line → ℕ → ℕ → List Where → Type 0
PlacesPart lines = AreLinesOf (codes "where") where_words AreWherePlaces lines

abbrev pub PlacesFault : List Line → ℕ → ℕ → Kind → Type 0
PlacesFault lines = HasBadLine (codes "where") where_words AreWherePlaces lines

-- a schedule of the graph: launches, words, places, and the lines for one cycle less
abbrev pub SchedulePart : List Line → Table → LaunchGraph → ℕ → ℕ → ℕ → Claim × Option Lines → Type 0
SchedulePart lines table g k =
    Leads (LaunchesPart lines table g) (λ launches.
    Leads (CodesPart lines) (λ words.
    Leads (PlacesPart lines) (λ places.
    Leads (BelowPart lines k) (λ refute.
    Says (claims.Scheduled k (record { launches = launches }) words places, refute)))))

abbrev pub ScheduleFault : List Line → Table → LaunchGraph → ℕ → ℕ → ℕ → Kind → Type 0
ScheduleFault lines table g k =
    LeadsFault (LaunchesPart lines table g) (LaunchesFault lines table g) (λ launches.
    LeadsFault (CodesPart lines) (CodesFault lines) (λ words.
    LeadsFault (PlacesPart lines) (PlacesFault lines) (λ places.
    LeadsFault (BelowPart lines k) (BelowFault lines k) (λ refute. NoFault))))

-- what stands behind the first line of a claim
abbrev pub ClaimRest : List Line → Table → LaunchGraph → ClaimLine → ℕ → ℕ → Claim × Option Lines → Type 0
ClaimRest lines table g (lines_of.Scheduled k) = SchedulePart lines table g k
ClaimRest lines table g (lines_of.Missing k) =
    Leads (CountedPart lines (codes "refute") k) (λ read. Says (claims.Missing k, Some read))
ClaimRest lines table g (lines_of.Conflicts k) =
    Leads (BelowPart lines k) (λ refute.
    Leads (CountedPart lines (codes "lemmas") k) (λ lemmas. Says (claims.SpentConflicts k lemmas, refute)))
ClaimRest lines table g (lines_of.Size k vars clauses) =
    Leads (BelowPart lines k) (λ refute. Says (claims.SpentSize k vars clauses, refute))

abbrev pub ClaimRestFault : List Line → Table → LaunchGraph → ClaimLine → ℕ → ℕ → Kind → Type 0
ClaimRestFault lines table g (lines_of.Scheduled k) = ScheduleFault lines table g k
ClaimRestFault lines table g (lines_of.Missing k) =
    LeadsFault (CountedPart lines (codes "refute") k) (CountedFault lines (codes "refute") k) (λ read. NoFault)
ClaimRestFault lines table g (lines_of.Conflicts k) =
    LeadsFault (BelowPart lines k) (BelowFault lines k) (λ refute.
    LeadsFault (CountedPart lines (codes "lemmas") k) (CountedFault lines (codes "lemmas") k) (λ lemmas. NoFault))
ClaimRestFault lines table g (lines_of.Size k vars clauses) =
    LeadsFault (BelowPart lines k) (BelowFault lines k) (λ refute. NoFault)

-- a claim on the graph
abbrev pub ClaimPart : List Line → Table → LaunchGraph → ℕ → ℕ → Claim × Option Lines → Type 0
ClaimPart lines table g = Leads (IsOneLine IsClaimLine lines) (ClaimRest lines table g)

abbrev pub ClaimFault : List Line → Table → LaunchGraph → ℕ → ℕ → Kind → Type 0
ClaimFault lines table g =
    LeadsFault (IsOneLine IsClaimLine lines) (IsNoLine IsClaimLine lines) (ClaimRestFault lines table g)

-- ---- goals

pub record IsGoalName (words : Words) (name : List ℕ) : Type 0 where
  pub named : IsName name
  pub is : words ≡ goal_words name

abbrev pub IsEnd : Words → Unit {0} → Type 0
IsEnd words nothing = words ≡ end_words

-- the line behind a goal's name: it has no world, or its rounds
abbrev pub IsBodyLine : Words → BodyLine → Type 0
IsBodyLine words (bodies.NoWorld class a b) =
    (class < 2 ^ 31) × (a < 2 ^ 64) × (b < 2 ^ 64) × (words ≡ noworld_words class a b)
IsBodyLine words (bodies.Rounds rounds stop) = (rounds < 2 ^ 31) × (words ≡ rounds_words rounds stop)

-- a graph of the version: in version 1 no set has a pin
abbrev pub GraphPart : List Line → ℕ → ℕ → ℕ → LaunchGraph → Type 0
GraphPart lines version from next g = IsGraphOf version lines from next g

abbrev pub GraphFault : List Line → ℕ → ℕ → ℕ → Kind → Type 0
GraphFault lines version from place kind = IsFirstFaultOf version lines from place kind

abbrev pub no_world_body : ℕ → ℕ → ℕ → Body
no_world_body class a b =
    record { graph = None; rounds = 0; stop = Quiet; claim = claims.NoWorld class a b; refute = None }

-- what stands behind that line
abbrev pub BodyRest : List Line → ℕ → Table → BodyLine → ℕ → ℕ → Body → Type 0
BodyRest lines version table (bodies.NoWorld class a b) = Says (no_world_body class a b)
BodyRest lines version table (bodies.Rounds rounds stop) =
    Leads (GraphPart lines version) (λ g.
    Leads (ClaimPart lines table g) (λ c.
    Says (record { graph = Some g; rounds = rounds; stop = stop; claim = c.0; refute = c.1 })))

abbrev pub BodyRestFault : List Line → ℕ → Table → BodyLine → ℕ → ℕ → Kind → Type 0
BodyRestFault lines version table (bodies.NoWorld class a b) = NoFault
BodyRestFault lines version table (bodies.Rounds rounds stop) =
    LeadsFault (GraphPart lines version) (GraphFault lines version) (λ g.
    LeadsFault (ClaimPart lines table g) (ClaimFault lines table g) (λ c. NoFault))

abbrev pub BodyPart : List Line → ℕ → Table → ℕ → ℕ → Body → Type 0
BodyPart lines version table = Leads (IsOneLine IsBodyLine lines) (BodyRest lines version table)

abbrev pub BodyFault : List Line → ℕ → Table → ℕ → ℕ → Kind → Type 0
BodyFault lines version table =
    LeadsFault (IsOneLine IsBodyLine lines) (IsNoLine IsBodyLine lines) (BodyRestFault lines version table)

abbrev pub claimed_of : List ℕ → Body → Claimed
claimed_of name body = record {
  name = name;
  graph = body.graph;
  rounds = body.rounds;
  stop = body.stop;
  claim = body.claim;
  refute = body.refute;
}

-- a goal: its name, what is said of it, and `end`
abbrev pub GoalPart : List Line → ℕ → Table → ℕ → ℕ → Claimed → Type 0
GoalPart lines version table =
    Leads (IsOneLine IsGoalName lines) (λ name.
    Leads (BodyPart lines version table) (λ body.
    Leads (IsOneLine IsEnd lines) (λ nothing. Says (claimed_of name body))))

abbrev pub GoalFault : List Line → ℕ → Table → ℕ → ℕ → Kind → Type 0
GoalFault lines version table =
    LeadsFault (IsOneLine IsGoalName lines) (IsNoLine IsGoalName lines) (λ name.
    LeadsFault (BodyPart lines version table) (BodyFault lines version table) (λ body.
    LeadsFault (IsOneLine IsEnd lines) (IsNoLine IsEnd lines) (λ nothing. NoFault)))

-- goals one behind another, at most 64 of them
pub data AreGoals (lines : List Line) (version : ℕ) (table : Table) (from : ℕ) : ℕ → List Claimed → Type 0 where
  no_goals : AreGoals lines version table from from []
  more : {middle next : ℕ} {goals : List Claimed} {goal : Claimed} → AreGoals lines version table from middle goals
      → length goals < most_goals → GoalPart lines version table middle next goal → AreGoals lines version table from next (goals ++ goal ∷ [])

-- at least one goal, up to the end of the text
pub record GoalsPart (lines : List Line) (version : ℕ) (table : Table) (from next : ℕ) (goals : List Claimed) : Type 0 where
  pub are : AreGoals lines version table from next goals
  pub some : goals ≢ []
  pub whole : next ≡ length lines

pub data GoalsFault (lines : List Line) (version : ℕ) (table : Table) (from place : ℕ) (kind : Kind) : Type 0 where
  in_goal : {at : ℕ} {goals : List Claimed} → AreGoals lines version table from at goals → length goals < most_goals
      → (at < length lines) ⊎ (goals ≡ []) → GoalFault lines version table at place kind
      → GoalsFault lines version table from place kind
  too_many : {at : ℕ} {goals : List Claimed} → AreGoals lines version table from at goals → length goals ≡ 64
      → at < length lines → IsBadOrMissingLine lines at place kind → GoalsFault lines version table from place kind

-- ---- answers

abbrev pub answer_of : ℕ → ℕ → Table × Bool → Library → List Claimed → AnswerText
answer_of version encoding table library goals = record {
  version = version;
  encoding = encoding;
  table = table.0;
  builtin = table.1;
  library = library;
  goals = goals;
}

abbrev pub AnswerPart : List Line → ℕ → ℕ → AnswerText → Type 0
AnswerPart lines =
    Leads (IsOneLine IsVersion lines) (λ version.
    Leads (IsOneLine (IsEncoding version) lines) (λ encoding.
    Leads (TablePart lines) (λ table.
    Leads (LibraryPart lines) (λ library.
    Leads (GoalsPart lines version table.0) (λ goals. Says (answer_of version encoding table library goals))))))

abbrev pub AnswerPartFault : List Line → ℕ → ℕ → Kind → Type 0
AnswerPartFault lines =
    LeadsFault (IsOneLine IsVersion lines) (IsNoLine IsVersion lines) (λ version.
    LeadsFault (IsOneLine (IsEncoding version) lines) (IsNoLine (IsEncoding version) lines) (λ encoding.
    LeadsFault (TablePart lines) (TableFault lines) (λ table.
    LeadsFault (LibraryPart lines) (LibraryFault lines) (λ library.
    LeadsFault (GoalsPart lines version table.0) (GoalsFault lines version table.0) (λ goals. NoFault)))))
