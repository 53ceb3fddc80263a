-- Each kind of line says one value at most.
use Rattle.std.proofs.Common.{◌≡◌, ◌≢◌, ℕ, ◌<◌, ◌≤◌, ◌^◌, List, [], get_or, inl, inr, refl, sym, ap, ◌∙◌, arith, decimal}
use Rattle.std.proofs.lemmas.Fmt.{decimal_injective}
use Rattle.machine_table.specs.declared.tables.Slot.{Slot}
use Rattle.graph_meaning.specs.declared.stops.Stop.{Stop}
use Rattle.graph_meaning.specs.declared.stops.Stop.TheVariants.{Quiet, Rounds, Full}
use Rattle.text_core.specs.LineTexts.{Words}
use Rattle.answer_texts.specs.AnswerLines.{version_words, encoding_words, stop_name, rounds_words, noworld_words, scheduled_words, none_words, conflicts_words, size_words, counted_words, cross_words, goal_words, built_in_words, own_words}
use Rattle.answer_texts.specs.AnswerParts.{GoTogether, IsVersion, IsEncoding, IsTableLine, IsCross, IsCount, IsClaimOf, IsClaimLine, IsGoalName, IsEnd, IsBodyLine}
use Rattle.answer_texts.specs.declared.parts.BodyLine.{BodyLine}
use Rattle.answer_texts.specs.declared.parts.BodyLine.TheVariants as bodies
use Rattle.answer_texts.specs.declared.parts.ClaimLine.{ClaimLine}
use Rattle.answer_texts.specs.declared.parts.ClaimLine.TheVariants as lines_of
use Rattle.answer_texts.specs.declared.parts.TableLine.{TableLine}
use Rattle.answer_texts.specs.declared.parts.TableLine.TheVariants as tables
use Rattle.answer_texts.proofs.PartsSame.{word_same, byte_same}

-- the number at a place of words that are equal
pub number_same : (k m n : ℕ) (ws vs : Words) → m < 2 ^ 64 → n < 2 ^ 64 → ws ≡ vs → get_or ws k [] ≡ decimal m
    → get_or vs k [] ≡ decimal n → m ≡ n
number_same k m n ws vs lt less e a b = decimal_injective m n lt less (sym a ∙ word_same k ws vs e ∙ b)

-- ---- single lines

pub version_once : (words : Words) (x y : ℕ) → IsVersion words x → IsVersion words y → x ≡ y
version_once words x y a b =
    let low = a.known.1 in
    let less = b.known.1 in
    number_same 1 x y (version_words x) (version_words y) (omega (arith, low)) (omega (arith, less)) (sym a.is ∙ b.is) refl refl

pub encoding_low : (version encoding : ℕ) → GoTogether version encoding → encoding ≤ 4
encoding_low version encoding (inl is) = (let low = is.2 in omega (arith, low))
encoding_low version encoding (inr (inl is)) = (let three = is.1 in omega (arith, three))
encoding_low version encoding (inr (inr is)) = (let four = is.1 in omega (arith, four))

pub encoding_once : (version : ℕ) (words : Words) (x y : ℕ) → IsEncoding version words x → IsEncoding version words y → x ≡ y
encoding_once version words x y a b =
    let low = encoding_low version x a.known in
    let less = encoding_low version y b.known in
    number_same 1 x y (encoding_words x) (encoding_words y) (omega (arith, low)) (omega (arith, less)) (sym a.is ∙ b.is) refl refl

pub table_line_once : (words : Words) (x y : TableLine) → IsTableLine words x → IsTableLine words y → x ≡ y
table_line_once words tables.BuiltIn tables.BuiltIn a b = refl
table_line_once words tables.BuiltIn tables.Own a b =
    absurd (let h : ◌≡◌ {A = ℕ} 101 111 = byte_same 1 0 built_in_words own_words (sym a ∙ b) in omega (arith, h))
table_line_once words tables.Own tables.BuiltIn a b =
    absurd (let h : ◌≡◌ {A = ℕ} 111 101 = byte_same 1 0 own_words built_in_words (sym a ∙ b) in omega (arith, h))
table_line_once words tables.Own tables.Own a b = refl

pub cross_once : (slots : List Slot) (words : Words) (x y : ℕ) → IsCross slots words x → IsCross slots words y → x ≡ y
cross_once slots words x y a b =
    let low = a.low in
    let less = b.low in
    number_same 1 x y (cross_words x) (cross_words y) (omega (arith, low)) (omega (arith, less)) (sym a.is ∙ b.is) refl refl

pub count_once : (first : List ℕ) (cycles : ℕ) (words : Words) (x y : ℕ) → IsCount first cycles words x
    → IsCount first cycles words y → x ≡ y
count_once first cycles words x y a b =
    let low = a.small in
    let less = b.small in
    number_same 2 x y (counted_words first cycles x) (counted_words first cycles y) (omega (arith, low)) (omega (arith, less))
    (sym a.is ∙ b.is) refl refl

pub goal_name_once : (words : Words) (x y : List ℕ) → IsGoalName words x → IsGoalName words y → x ≡ y
goal_name_once words x y a b = word_same 1 (goal_words x) (goal_words y) (sym a.is ∙ b.is)

pub end_once : (words : Words) (x y : Unit {0}) → IsEnd words x → IsEnd words y → x ≡ y
end_once words x y a b = refl

-- ---- the first line of a claim

claim_number : (k m : ℕ) (i : ℕ) (ws vs words : Words) → IsClaimOf words ws k → IsClaimOf words vs m
    → get_or ws i [] ≡ decimal k → get_or vs i [] ≡ decimal m → k ≡ m
claim_number k m i ws vs words a b p q =
    let low = a.low in
    let less = b.low in
    number_same i k m ws vs (omega (arith, low)) (omega (arith, less)) (sym a.is ∙ b.is) p q

claim_apart : (k m : ℕ) (i j c d : ℕ) (ws vs words : Words) → IsClaimOf words ws k → IsClaimOf words vs m
    → get_or (get_or ws i []) j 0 ≡ c → get_or (get_or vs i []) j 0 ≡ d → c ≢ d → ⊥
claim_apart k m i j c d ws vs words a b p q differ = differ (sym p ∙ byte_same i j ws vs (sym a.is ∙ b.is) ∙ q)

pub claim_line_once : (words : Words) (x y : ClaimLine) → IsClaimLine words x → IsClaimLine words y → x ≡ y
claim_line_once words (lines_of.Scheduled k) (lines_of.Scheduled m) a b =
    ap lines_of.Scheduled (claim_number k m 1 (scheduled_words k) (scheduled_words m) words a b refl refl)
claim_line_once words (lines_of.Scheduled k) (lines_of.Missing m) a b =
    absurd (claim_apart k m 0 0 115 110 (scheduled_words k) (none_words m) words a b refl refl (λ e. omega (arith, e)))
claim_line_once words (lines_of.Scheduled k) (lines_of.Conflicts m) a b =
    absurd (claim_apart k m 0 1 99 112 (scheduled_words k) (conflicts_words m) words a b refl refl (λ e. omega (arith, e)))
claim_line_once words (lines_of.Scheduled k) (lines_of.Size m vars clauses) a b =
    absurd (claim_apart k m 0 1 99 112 (scheduled_words k) (size_words m vars clauses) words a b.0 refl refl (λ e. omega (arith, e)))
claim_line_once words (lines_of.Missing k) (lines_of.Scheduled m) a b =
    absurd (claim_apart k m 0 0 110 115 (none_words k) (scheduled_words m) words a b refl refl (λ e. omega (arith, e)))
claim_line_once words (lines_of.Missing k) (lines_of.Missing m) a b =
    ap lines_of.Missing (claim_number k m 1 (none_words k) (none_words m) words a b refl refl)
claim_line_once words (lines_of.Missing k) (lines_of.Conflicts m) a b =
    absurd (claim_apart k m 0 0 110 115 (none_words k) (conflicts_words m) words a b refl refl (λ e. omega (arith, e)))
claim_line_once words (lines_of.Missing k) (lines_of.Size m vars clauses) a b =
    absurd (claim_apart k m 0 0 110 115 (none_words k) (size_words m vars clauses) words a b.0 refl refl (λ e. omega (arith, e)))
claim_line_once words (lines_of.Conflicts k) (lines_of.Scheduled m) a b =
    absurd (claim_apart k m 0 1 112 99 (conflicts_words k) (scheduled_words m) words a b refl refl (λ e. omega (arith, e)))
claim_line_once words (lines_of.Conflicts k) (lines_of.Missing m) a b =
    absurd (claim_apart k m 0 0 115 110 (conflicts_words k) (none_words m) words a b refl refl (λ e. omega (arith, e)))
claim_line_once words (lines_of.Conflicts k) (lines_of.Conflicts m) a b =
    ap lines_of.Conflicts (claim_number k m 2 (conflicts_words k) (conflicts_words m) words a b refl refl)
claim_line_once words (lines_of.Conflicts k) (lines_of.Size m vars clauses) a b =
    absurd (claim_apart k m 1 0 99 115 (conflicts_words k) (size_words m vars clauses) words a b.0 refl refl (λ e. omega (arith, e)))
claim_line_once words (lines_of.Size k vars clauses) (lines_of.Scheduled m) a b =
    absurd (claim_apart k m 0 1 112 99 (size_words k vars clauses) (scheduled_words m) words a.0 b refl refl (λ e. omega (arith, e)))
claim_line_once words (lines_of.Size k vars clauses) (lines_of.Missing m) a b =
    absurd (claim_apart k m 0 0 115 110 (size_words k vars clauses) (none_words m) words a.0 b refl refl (λ e. omega (arith, e)))
claim_line_once words (lines_of.Size k vars clauses) (lines_of.Conflicts m) a b =
    absurd (claim_apart k m 1 0 115 99 (size_words k vars clauses) (conflicts_words m) words a.0 b refl refl (λ e. omega (arith, e)))
claim_line_once words (lines_of.Size k vars clauses) (lines_of.Size m count others) a b =
    let same = sym a.0.is ∙ b.0.is in
    ap (λ n. lines_of.Size n vars clauses)
    (claim_number k m 2 (size_words k vars clauses) (size_words m count others) words a.0 b.0 refl refl)
    ∙ ap (λ n. lines_of.Size m n clauses)
    (number_same 3 vars count (size_words k vars clauses) (size_words m count others) a.1 b.1 same refl refl)
    ∙ ap (λ n. lines_of.Size m count n)
    (number_same 4 clauses others (size_words k vars clauses) (size_words m count others) a.2 b.2 same refl refl)

-- ---- the line behind a goal's name

stop_once : (s t : Stop) → stop_name s ≡ stop_name t → s ≡ t
stop_once Quiet Quiet e = refl
stop_once Quiet Rounds e = absurd (let h : ◌≡◌ {A = ℕ} 113 114 = ap (λ w. get_or w 0 0) e in omega (arith, h))
stop_once Quiet Full e = absurd (let h : ◌≡◌ {A = ℕ} 113 102 = ap (λ w. get_or w 0 0) e in omega (arith, h))
stop_once Rounds Quiet e = absurd (let h : ◌≡◌ {A = ℕ} 114 113 = ap (λ w. get_or w 0 0) e in omega (arith, h))
stop_once Rounds Rounds e = refl
stop_once Rounds Full e = absurd (let h : ◌≡◌ {A = ℕ} 114 102 = ap (λ w. get_or w 0 0) e in omega (arith, h))
stop_once Full Quiet e = absurd (let h : ◌≡◌ {A = ℕ} 102 113 = ap (λ w. get_or w 0 0) e in omega (arith, h))
stop_once Full Rounds e = absurd (let h : ◌≡◌ {A = ℕ} 102 114 = ap (λ w. get_or w 0 0) e in omega (arith, h))
stop_once Full Full e = refl

pub body_line_once : (words : Words) (x y : BodyLine) → IsBodyLine words x → IsBodyLine words y → x ≡ y
body_line_once words (bodies.NoWorld class m n) (bodies.NoWorld other k l) a b =
    let low = a.0 in
    let less = b.0 in
    let same = sym a.3 ∙ b.3 in
    ap (λ i. bodies.NoWorld i m n)
    (number_same 1 class other (noworld_words class m n) (noworld_words other k l) (omega (arith, low)) (omega (arith, less))
    same refl refl)
    ∙ ap (λ i. bodies.NoWorld other i n)
    (number_same 2 m k (noworld_words class m n) (noworld_words other k l) a.1 b.1 same refl refl)
    ∙ ap (λ i. bodies.NoWorld other k i)
    (number_same 3 n l (noworld_words class m n) (noworld_words other k l) a.2 b.2 same refl refl)
body_line_once words (bodies.NoWorld class m n) (bodies.Rounds rounds stop) a b =
    absurd (let h : ◌≡◌ {A = ℕ} 110 114 = byte_same 0 0 (noworld_words class m n) (rounds_words rounds stop) (sym a.3 ∙ b.1) in
    omega (arith, h))
body_line_once words (bodies.Rounds rounds stop) (bodies.NoWorld class m n) a b =
    absurd (let h : ◌≡◌ {A = ℕ} 114 110 = byte_same 0 0 (rounds_words rounds stop) (noworld_words class m n) (sym a.1 ∙ b.3) in
    omega (arith, h))
body_line_once words (bodies.Rounds rounds stop) (bodies.Rounds count other) a b =
    let low = a.0 in
    let less = b.0 in
    let same = sym a.1 ∙ b.1 in
    ap (λ i. bodies.Rounds i stop)
    (number_same 1 rounds count (rounds_words rounds stop) (rounds_words count other) (omega (arith, low)) (omega (arith, less))
    same refl refl)
    ∙ ap (λ s. bodies.Rounds count s)
    (stop_once stop other (word_same 3 (rounds_words rounds stop) (rounds_words count other) same))
