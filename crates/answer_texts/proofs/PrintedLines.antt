-- What an answer prints is lines of words.
use Rattle.std.proofs.Common.{◌≡◌, ℕ, zero, suc, ◌+◌, ◌-◌, ◌<◌, ◌≤◌, ◌^◌, Bool, true, false, List, [], ◌∷◌, ◌++◌, length, map, get_or, inl, inr, refl, sym, ap, subst, arith, codes, decimal, Option, None, Some}
use Rattle.std.specs.Prelude.{All, IsSomeAnd, IsTrue, is_some}
use Rattle.std.specs.List.{flat_map}
use Rattle.std.specs.Option.{option_map_or}
use Rattle.std.proofs.lemmas.Bool.{false≢true}
use Rattle.std.proofs.lemmas.List.Concat.{flat_map-cons}
use Rattle.std.proofs.lemmas.List.Elements.{All-nil, All-cons, All-head, All-tail, All-map, All-weaker}
use Rattle.std.proofs.lemmas.Option.{slice_get-get_or}
use Rattle.schedule_meaning.specs.Limits.{most_cycles}
use Rattle.alpha_encode.specs.Decoded.{decoded}
use Rattle.alpha_encode.specs.Formats.{IsWellFormed, encoded}
use Rattle.alpha_encode.specs.declared.instructions.Instr.{Instr}
use Rattle.cnf_core.specs.declared.line.Line.{Line as Row}
use Rattle.cnf_core.specs.declared.line.Lines.{Lines}
use Rattle.launch_graph.specs.GraphLines.{graph_lines, pin_words, said}
use Rattle.graph_meaning.specs.WellFormed.{IsLaunchGraph}
use Rattle.graph_meaning.specs.declared.graphs.LaunchGraph.{LaunchGraph}
use Rattle.machine_table.specs.InstrOrder.{instr_name}
use Rattle.machine_table.specs.Tables.{IsTable, IsUse}
use Rattle.machine_table.specs.declared.tables.InstrKind.{InstrKind}
use Rattle.machine_table.specs.declared.tables.Slot.{Slot}
use Rattle.machine_table.specs.declared.tables.Table.{Table}
use Rattle.machine_table.specs.declared.tables.Use.{Use}
use Rattle.refutation_check.specs.LineWords.{IsReadableLine, line_words}
use Rattle.register_assign.specs.declared.listings.Where.{Where}
use Rattle.graph_meaning.specs.declared.stops.Stop.{Stop}
use Rattle.graph_meaning.specs.declared.stops.Stop.TheVariants.{Quiet, Rounds, Full}
use Rattle.schedule_meaning.specs.Launches.{pin_of}
use Rattle.schedule_meaning.specs.declared.schedules.To.{To}
use Rattle.schedule_meaning.specs.declared.schedules.To.TheVariants.{Pool, Set}
use Rattle.schedule_meaning.specs.declared.schedules.Launch.{Launch}
use Rattle.text_core.specs.LineTexts.{Words, CanBeLine, line_text, lines_text, placed_lines, words_of_lines}
use Rattle.text_core.specs.Lines.{Line, AreLines, IsLineWord}
use Rattle.text_core.specs.Names.{IsName}
use Rattle.axiom_library.specs.Names.{family_name}
use Rattle.axiom_library.specs.declared.families.Family.{Family}
use Rattle.axiom_library.specs.declared.families.Family.TheVariants as families
use Rattle.answer_texts.specs.AnswerLines.{families_lines, listed_families, slot_words, name_among, inst_words, table_lines, launch_words, word_words, where_words, counted_words, stop_name, goal_words, end_words, claim_part, refuted_below, refute_part, lemmas_part, goal_lines, answer_lines}
use Rattle.answer_texts.specs.AnswerParts.{GoTogether, IsDestination, IsLaunch, IsCode, IsPlace}
use Rattle.answer_texts.specs.Printable.{AreReadable, IsGraphClaim, AreLinesBelow, IsPrintableGoal, no_world, worked, IsPrintable}
use Rattle.answer_texts.specs.declared.answers.AnswerText.{AnswerText}
use Rattle.answer_texts.specs.declared.answers.Claim.{Claim}
use Rattle.answer_texts.specs.declared.answers.Claim.TheVariants as claims
use Rattle.answer_texts.specs.declared.answers.Claimed.{Claimed}
use Rattle.answer_texts.proofs.HexInstrWords.{OperatorsAreListed, word_line}

-- what the crates below say of words and lines
pub record WordLaws : Type 0 where
  pub number : (n : ℕ) → n < 2 ^ 64 → IsLineWord (decimal n)
  pub name : (bytes : List ℕ) → IsName bytes → IsLineWord bytes
  pub each : (place : ℕ) (lines : List Line) (text : List ℕ) → AreLines place lines text → All CanBeLine (words_of_lines lines)
  pub listed : OperatorsAreListed
  pub forth : (word : ℕ) (instr : Instr) → word < 2 ^ 32 → decoded word ≡ Some instr → IsWellFormed instr × (encoded instr ≡ word)
  pub instr : (instr : InstrKind) → IsName (instr_name instr)
  pub graph : (g : LaunchGraph) → IsLaunchGraph g → All CanBeLine (graph_lines (said g))
  pub rows : (place : ℕ) (rows : List Row) → All IsReadableLine rows
      → AreLines place (placed_lines place (map line_words rows)) (lines_text (map line_words rows))

pub words_placed : (place : ℕ) (lines : List Words) → words_of_lines (placed_lines place lines) ≡ lines
words_placed place [] = refl
words_placed place (words ∷ lines) = ap (λ ls. words ∷ ls) (words_placed (place + length (line_text words)) lines)

-- ---- lists of words, and of lines

data AreWords : Words → Type 0 where
  no_words : AreWords []
  a_word : {word : List ℕ} {words : Words} → IsLineWord word → AreWords words → AreWords (word ∷ words)

each_word : {words : Words} → AreWords words → All IsLineWord words
each_word no_words = All-nil IsLineWord
each_word (a_word {word = w} {words = ws} is more) = All-cons IsLineWord w ws is (each_word more)

words_from_all : (words : Words) → All IsLineWord words → AreWords words
words_from_all [] each = no_words
words_from_all (word ∷ words) each =
    a_word (All-head IsLineWord word words each) (words_from_all words (All-tail IsLineWord word words each))

can_be : {word : List ℕ} {words : Words} → AreWords (word ∷ words) → CanBeLine (word ∷ words)
can_be are = record { some = λ e. cc; each = each_word are }

data CanBeLines : List Words → Type 0 where
  no_lines : CanBeLines []
  a_line : {words : Words} {lines : List Words} → CanBeLine words → CanBeLines lines → CanBeLines (words ∷ lines)

each_line : {lines : List Words} → CanBeLines lines → All CanBeLine lines
each_line no_lines = All-nil CanBeLine
each_line (a_line {words = ws} {lines = ls} is more) = All-cons CanBeLine ws ls is (each_line more)

lines_from_all : (lines : List Words) → All CanBeLine lines → CanBeLines lines
lines_from_all [] each = no_lines
lines_from_all (words ∷ lines) each =
    a_line (All-head CanBeLine words lines each) (lines_from_all lines (All-tail CanBeLine words lines each))

and_lines : {lines : List Words} (others : List Words) → CanBeLines lines → CanBeLines others → CanBeLines (lines ++ others)
and_lines others no_lines more = more
and_lines others (a_line is rest) more = a_line is (and_lines others rest more)

-- the lines of items
lines_of : {X : Type 0} (f : X → Words) (Fine : X → Type 0) (can : (x : X) → Fine x → CanBeLine (f x)) (xs : List X)
    → All Fine xs → CanBeLines (map f xs)
lines_of f Fine can [] each = no_lines
lines_of f Fine can (x ∷ xs) each =
    a_line (can x (All-head Fine x xs each)) (lines_of f Fine can xs (All-tail Fine x xs each))

-- ---- names

stop_word : (stop : Stop) → IsLineWord (stop_name stop)
stop_word Quiet = record { some = λ e. cc; printed = refl }
stop_word Rounds = record { some = λ e. cc; printed = refl }
stop_word Full = record { some = λ e. cc; printed = refl }

-- the name of a slot that is there
any_slot : Slot
any_slot = record { name = []; cluster = 0 }

name_there : (slots : List Slot) (k : ℕ) → k < length slots → name_among slots k ≡ (get_or slots k any_slot).name
name_there slots k lt =
    ap (λ (o : Option Slot). option_map_or (λ (s : Slot). s.name) o []) (slice_get-get_or slots k any_slot lt)

-- a version and an encoding that go together are words of 64 bits
pair_low : (version encoding : ℕ) → GoTogether version encoding → (version < 2 ^ 64) × (encoding < 2 ^ 64)
pair_low version encoding (inl is) =
    ((let one = is.0 in omega (arith, one)), (let two = is.2 in omega (arith, two)))
pair_low version encoding (inr (inl is)) =
    ((let two = is.0 in omega (arith, two)), (let three = is.1 in omega (arith, three)))
pair_low version encoding (inr (inr is)) =
    ((let three = is.0 in omega (arith, three)), (let four = is.1 in omega (arith, four)))

module _ (laws : WordLaws) where
  -- a word, and a number
  number_line : (a : List ℕ) (k : ℕ) → IsLineWord a → k < 2 ^ 64 → CanBeLine (a ∷ decimal k ∷ [])
  number_line a k is low = can_be (a_word is (a_word (laws.number k low) no_words))

  -- ---- the table

  module _ (table : Table) (named : All (λ (s : Slot). IsName s.name) table.slots) where
    slot_word : (s : ℕ) → s < length table.slots → IsLineWord (name_among table.slots s)
    slot_word s lt =
        subst IsLineWord (sym (name_there table.slots s lt))
        (laws.name (get_or table.slots s any_slot).name (named s any_slot lt))

    slot_line : (s : Slot) → IsName s.name × (s.cluster ≤ 3) → CanBeLine (slot_words s)
    slot_line s is =
        can_be
        (a_word (record { some = λ e. cc; printed = refl })
        (a_word (laws.name s.name is.0) (a_word (let low = is.1 in laws.number s.cluster (omega (arith, low))) no_words)))

    use_line : (u : Use) → IsUse table u → CanBeLine (inst_words table.slots u)
    use_line u is =
        can_be
        (a_word (record { some = λ e. cc; printed = refl })
        (a_word (laws.name (instr_name u.instr) (laws.instr u.instr))
        (a_word (let low = is.latency.1 in laws.number u.latency (omega (arith, low)))
        (words_from_all (map (name_among table.slots) u.slots)
        (All-map IsLineWord (name_among table.slots) u.slots
        (All-weaker (λ s. s < length table.slots) (λ s. IsLineWord (name_among table.slots s)) slot_word u.slots is.exist))))))

    table_can : (builtin : Bool) → IsTable table → CanBeLines (table_lines table builtin)
    table_can true is =
        a_line
        (can_be
        (a_word (record { some = λ e. cc; printed = refl }) (a_word (record { some = λ e. cc; printed = refl }) no_words)))
        no_lines
    table_can false is =
        a_line
        (can_be
        (a_word (record { some = λ e. cc; printed = refl }) (a_word (record { some = λ e. cc; printed = refl }) no_words)))
        (and_lines _
        (lines_of slot_words (λ (s : Slot). IsName s.name × (s.cluster ≤ 3)) slot_line table.slots
        (λ k d lt. (named k d lt, is.clusters k d lt)))
        (a_line
        (number_line (codes "cross") table.cross (record { some = λ e. cc; printed = refl })
        (let low = is.cross in omega (arith, low)))
        (lines_of (inst_words table.slots) (IsUse table) use_line table.uses is.uses)))

    -- ---- a schedule

    pin_word : (o : Option ℕ) → IsSomeAnd o (λ r. r < 31) → AreWords (pin_words o)
    pin_word None low = no_words
    pin_word (Some r) low = a_word (laws.number r (omega (arith, low))) no_words

    destination_word : (g : LaunchGraph) (to : To) → IsDestination g to → AreWords (pin_words (pin_of g to))
    destination_word g Pool at = no_words
    destination_word g (Set j) at = pin_word (pin_of g (Set j)) at.1

    launch_line : (g : LaunchGraph) (l : Launch) → IsLaunch table g l → CanBeLine (launch_words table g l)
    launch_line g l is =
        can_be
        (a_word (record { some = λ e. cc; printed = refl })
        (a_word (let low = is.0 in laws.number l.cycle (omega (arith, low)))
        (a_word (slot_word l.slot is.1)
        (a_word (let low = is.2 in laws.number l.row (omega (arith, low))) (destination_word g l.to is.4)))))

  code_by : (word : ℕ) (o : Option Instr) → decoded word ≡ o → word < 2 ^ 32 → IsTrue (is_some o)
      → CanBeLine (word_words word)
  code_by word None is low some = absurd (false≢true some)
  code_by word (Some i) is low some = word_line laws.number laws.listed laws.forth word i low is

  code_line : (word : ℕ) → IsCode word → CanBeLine (word_words word)
  code_line word is = code_by word (decoded word) refl is.0 is.1

  place_line : (w : Where) → IsPlace w → CanBeLine (where_words w)
  place_line w is =
      can_be
      (a_word (record { some = λ e. cc; printed = refl })
      (a_word (laws.name w.name is.0) (a_word (let low = is.1 in laws.number w.reg (omega (arith, low))) no_words)))

  -- ---- refutations

  counted_can : (a : List ℕ) (j : ℕ) (lines : Lines) → IsLineWord a → j ≤ most_cycles → AreReadable lines
      → CanBeLines (counted_words a j (length lines.lines) ∷ map line_words lines.lines)
  counted_can a j lines is low can =
      a_line
      (can_be
      (a_word is
      (a_word (laws.number j (omega (arith, low)))
      (a_word (let few = can.few in laws.number (length lines.lines) (omega (arith, few))) no_words))))
      (lines_from_all (map line_words lines.lines)
      (subst (All CanBeLine) (words_placed 0 (map line_words lines.lines))
      (laws.each 0 _ _ (laws.rows 0 lines.lines can.each))))

  below_can : (k : ℕ) (refute : Option Lines) → k ≤ 25 → AreLinesBelow k refute → CanBeLines (refute_part (k - 1) refute)
  below_can zero None low are = no_lines
  below_can zero (Some lines) low are = cc
  below_can (suc j) None low are = absurd are
  below_can (suc j) (Some lines) low are =
      counted_can (codes "refute") (suc j - 1) lines (record { some = λ e. cc; printed = refl }) (omega (arith, low)) are

  -- ---- claims

  module _ (table : Table) (named : All (λ (s : Slot). IsName s.name) table.slots) where
    claim_can : (g : LaunchGraph) (claim : Claim) → IsGraphClaim table g claim → CanBeLines (claim_part table (Some g) claim)
    claim_can g (claims.NoWorld class a b) h = absurd h
    claim_can g (claims.Scheduled k schedule words places) h =
        a_line
        (number_line (codes "scheduled") k (record { some = λ e. cc; printed = refl }) (let low = h.0 in omega (arith, low)))
        (and_lines _
        (lines_of (launch_words table g) (IsLaunch table g) (launch_line table named g) schedule.launches h.1)
        (and_lines _ (lines_of word_words IsCode code_line words h.2) (lines_of where_words IsPlace place_line places h.3)))
    claim_can g (claims.Missing k) h =
        a_line (number_line (codes "none") k (record { some = λ e. cc; printed = refl }) (omega (arith, h))) no_lines
    claim_can g (claims.SpentConflicts k lemmas) h =
        a_line
        (can_be
        (a_word (record { some = λ e. cc; printed = refl })
        (a_word (record { some = λ e. cc; printed = refl })
        (a_word (let low = h.0 in laws.number k (omega (arith, low))) no_words))))
        no_lines
    claim_can g (claims.SpentSize k vars clauses) h =
        a_line
        (can_be
        (a_word (record { some = λ e. cc; printed = refl })
        (a_word (record { some = λ e. cc; printed = refl })
        (a_word (let low = h.0 in laws.number k (omega (arith, low)))
        (a_word (laws.number vars h.1) (a_word (laws.number clauses h.2) no_words))))))
        no_lines

    claim_low : (g : LaunchGraph) (claim : Claim) → IsGraphClaim table g claim → refuted_below claim ≤ 25
    claim_low g (claims.NoWorld class a b) h = absurd h
    claim_low g (claims.Scheduled k schedule words places) h = (let low = h.0 in omega (arith, low))
    claim_low g (claims.Missing k) h = omega (arith, h)
    claim_low g (claims.SpentConflicts k lemmas) h = (let low = h.0 in omega (arith, low))
    claim_low g (claims.SpentSize k vars clauses) h = (let low = h.0 in omega (arith, low))

    lemmas_can : (g : LaunchGraph) (claim : Claim) → IsGraphClaim table g claim → CanBeLines (lemmas_part claim)
    lemmas_can g (claims.NoWorld class a b) h = absurd h
    lemmas_can g (claims.Scheduled k schedule words places) h = no_lines
    lemmas_can g (claims.Missing k) h = no_lines
    lemmas_can g (claims.SpentConflicts k lemmas) h =
        counted_can (codes "lemmas") k lemmas (record { some = λ e. cc; printed = refl }) h.0 h.1
    lemmas_can g (claims.SpentSize k vars clauses) h = no_lines

    -- ---- goals

    name_line : (name : List ℕ) → IsName name → CanBeLine (goal_words name)
    name_line name is =
        can_be (a_word (record { some = λ e. cc; printed = refl }) (a_word (laws.name name is) no_words))

    end_line : CanBeLine end_words
    end_line = can_be (a_word (record { some = λ e. cc; printed = refl }) no_words)

    goal_can : (version : ℕ) (c : Claimed) → IsPrintableGoal version table c → CanBeLines (goal_lines table c)
    goal_can version c (no_world {name = name} {class = class} {a = m} {b = n} is low first second) =
        a_line (name_line name is)
        (a_line
        (can_be
        (a_word (record { some = λ e. cc; printed = refl })
        (a_word (laws.number class (omega (arith, low)))
        (a_word (laws.number m first) (a_word (laws.number n second) no_words)))))
        (a_line end_line no_lines))
    goal_can version c
        (worked {name = name} {g = g} {rounds = rounds} {stop = stop} {claim = claim} {refute = refute} named is plain few low fine
        below) =
        a_line (name_line name named)
        (and_lines _
        (a_line
        (can_be
        (a_word (record { some = λ e. cc; printed = refl })
        (a_word (laws.number rounds (omega (arith, low)))
        (a_word (record { some = λ e. cc; printed = refl }) (a_word (stop_word stop) no_words)))))
        (lines_from_all (graph_lines (said g)) (laws.graph g is)))
        (and_lines _ (claim_can g claim fine)
        (and_lines _ (below_can (refuted_below claim) refute (claim_low g claim fine) below)
        (and_lines _ (lemmas_can g claim fine) (a_line end_line no_lines)))))

    goals_can : (version : ℕ) (goals : List Claimed) → All (IsPrintableGoal version table) goals
        → CanBeLines (flat_map (goal_lines table) goals)
    goals_can version [] fine = no_lines
    goals_can version (c ∷ goals) fine =
        subst CanBeLines (sym (flat_map-cons (goal_lines table) c goals))
        (and_lines _ (goal_can version c (All-head (IsPrintableGoal version table) c goals fine))
        (goals_can version goals (All-tail (IsPrintableGoal version table) c goals fine)))

  -- ---- the line of a library

  families_can : (fs : List Family) → AreWords (map family_name fs)
  families_can [] = no_words
  families_can (families.Bytes ∷ fs) = a_word (record { some = λ e. cc; printed = refl }) (families_can fs)
  families_can (families.Products ∷ fs) = a_word (record { some = λ e. cc; printed = refl }) (families_can fs)
  families_can (families.Sums ∷ fs) = a_word (record { some = λ e. cc; printed = refl }) (families_can fs)
  families_can (families.Halves ∷ fs) = a_word (record { some = λ e. cc; printed = refl }) (families_can fs)
  families_can (families.Extensions ∷ fs) = a_word (record { some = λ e. cc; printed = refl }) (families_can fs)
  families_can (families.Rounding ∷ fs) = a_word (record { some = λ e. cc; printed = refl }) (families_can fs)
  families_can (families.Comparisons ∷ fs) = a_word (record { some = λ e. cc; printed = refl }) (families_can fs)
  families_can (families.Minima ∷ fs) = a_word (record { some = λ e. cc; printed = refl }) (families_can fs)
  families_can (families.Carries ∷ fs) = a_word (record { some = λ e. cc; printed = refl }) (families_can fs)
  families_can (families.Masks ∷ fs) = a_word (record { some = λ e. cc; printed = refl }) (families_can fs)
  families_can (families.Fields ∷ fs) = a_word (record { some = λ e. cc; printed = refl }) (families_can fs)
  families_can (families.Constants ∷ fs) = a_word (record { some = λ e. cc; printed = refl }) (families_can fs)
  families_can (families.Unaligned ∷ fs) = a_word (record { some = λ e. cc; printed = refl }) (families_can fs)

  library_can : (fs : List Family) → CanBeLines (families_lines fs)
  library_can [] = no_lines
  library_can (f ∷ fs) =
      a_line (can_be (a_word (record { some = λ e. cc; printed = refl }) (families_can (f ∷ fs)))) no_lines

  -- ---- answers

  pub answer_can : (a : AnswerText) → IsPrintable a → All CanBeLine (answer_lines a)
  answer_can a is =
      let pair = pair_low a.version a.encoding is.encoding in
      each_line
      (a_line (number_line (codes "denali") a.version (record { some = λ e. cc; printed = refl }) pair.0)
      (a_line (number_line (codes "encoding") a.encoding (record { some = λ e. cc; printed = refl }) pair.1)
      (and_lines _
      (and_lines _ (table_can a.table is.names a.builtin is.table) (library_can (listed_families a.library)))
      (goals_can a.table is.names a.version a.goals is.goals))))
