-- Lines that begin with what a claim prints, and with the lines that are to show it, say it.
use Rattle.std.proofs.Common.{◌≡◌, ◌≢◌, ℕ, zero, suc, ◌+◌, ◌-◌, List, [], ◌∷◌, ◌++◌, length, map, take, drop, get_or, refl, sym, ap, subst, ◌∙◌, arith, add-one, append_assoc, codes, Option, None, Some}
use Rattle.std.specs.Prelude.{All}
use Rattle.std.proofs.lemmas.List.{map-append, length-map, length-take-le, take-append-drop}
use Rattle.cnf_core.specs.declared.line.Line.{Line as Row}
use Rattle.cnf_core.specs.declared.line.Lines.{Lines}
use Rattle.graph_meaning.specs.declared.graphs.LaunchGraph.{LaunchGraph}
use Rattle.launch_graph.specs.GraphTexts.{EndsGraph}
use Rattle.machine_table.specs.declared.tables.Table.{Table}
use Rattle.refutation_check.specs.LineWords.{IsReadableLine, AreLinesAt, line_words}
use Rattle.register_assign.specs.declared.listings.Where.{Where}
use Rattle.schedule_meaning.specs.declared.schedules.Launch.{Launch}
use Rattle.text_core.specs.Lines.{Line}
use Rattle.text_core.specs.LineTexts.{Words, words_of_lines}
use Rattle.answer_texts.specs.AnswerLines.{launch_words, word_words, where_words, counted_words, refute_lines, lemmas_lines, scheduled_words, none_words, conflicts_words, size_words, end_words, claim_part, refuted_below, refuted_cycles, refute_part, lemmas_part}
use Rattle.answer_texts.specs.AnswerParts.{IsCount, AreCounted, CountedPart, BelowPart, IsClaimLine, AreLaunches, AreCodes, AreWherePlaces, SchedulePart, ClaimRest, ClaimPart}
use Rattle.answer_texts.specs.Printable.{AreReadable, IsGraphClaim, AreLinesBelow}
use Rattle.answer_texts.specs.declared.answers.Claim.{Claim}
use Rattle.answer_texts.specs.declared.answers.Claim.TheVariants as claims
use Rattle.answer_texts.specs.declared.parts.ClaimLine.TheVariants as lines_of
use Rattle.answer_texts.proofs.PrintedRest.{IsRest, BeginsNot, all_ahead}
use Rattle.answer_texts.proofs.PrintedParts.{StandsBefore, says_stands, line_stands, lines_stand, leads_stands}

-- a text that has the words of these lines somewhere has them from there on
abbrev pub LinesAreAmong : Type 0
LinesAreAmong = (text : List Line) (front back : List Words) (rows : List Row) → All IsReadableLine rows
    → words_of_lines text ≡ front ++ (map line_words rows ++ back) → AreLinesAt text (length front) (length rows) rows

-- ---- what the lines behind others begin with

-- words with different bytes at a place
pub apart : (i m n : ℕ) (v w : List ℕ) → get_or v i 0 ≡ m → get_or w i 0 ≡ n → m ≢ n → v ≢ w
apart i m n v w here there differ e = differ (sym here ∙ ap (λ (l : List ℕ). get_or l i 0) e ∙ there)

lines_begin_not : {X : Type 0} (first : List ℕ) (words_of : X → Words) (xs : List X) (behind : List Words)
    → ((x : X) → get_or (words_of x) 0 [] ≢ first) → BeginsNot first behind → BeginsNot first (map words_of xs ++ behind)
lines_begin_not first words_of [] behind never also = also
lines_begin_not first words_of (x ∷ xs) behind never also = never x

refute_begins_not : (first : List ℕ) (cycles : ℕ) (refute : Option Lines) (behind : List Words) → codes "refute" ≢ first
    → BeginsNot first behind → BeginsNot first (refute_part cycles refute ++ behind)
refute_begins_not first cycles None behind never also = also
refute_begins_not first cycles (Some read) behind never also = never

-- no graph goes on with the first line of a claim
pub claim_ends_graph : (table : Table) (g : LaunchGraph) (claim : Claim) (behind : List Words) → IsGraphClaim table g claim
    → EndsGraph (claim_part table (Some g) claim ++ behind)
claim_ends_graph table g (claims.NoWorld class a b) behind h = absurd h
claim_ends_graph table g (claims.Scheduled k schedule words places) behind h = (
  λ e. apart 0 115 103 (codes "scheduled") (codes "guard") refl refl (λ n. omega (arith, n)) e,
  λ e. apart 1 99 101 (codes "scheduled") (codes "set") refl refl (λ n. omega (arith, n)) e,
)
claim_ends_graph table g (claims.Missing k) behind h = (
  λ e. apart 0 110 103 (codes "none") (codes "guard") refl refl (λ n. omega (arith, n)) e,
  λ e. apart 0 110 115 (codes "none") (codes "set") refl refl (λ n. omega (arith, n)) e,
)
claim_ends_graph table g (claims.SpentConflicts k lemmas) behind h = (
  λ e. apart 0 115 103 (codes "spent") (codes "guard") refl refl (λ n. omega (arith, n)) e,
  λ e. apart 1 112 101 (codes "spent") (codes "set") refl refl (λ n. omega (arith, n)) e,
)
claim_ends_graph table g (claims.SpentSize k vars clauses) behind h = (
  λ e. apart 0 115 103 (codes "spent") (codes "guard") refl refl (λ n. omega (arith, n)) e,
  λ e. apart 1 112 101 (codes "spent") (codes "set") refl refl (λ n. omega (arith, n)) e,
)

module _ (lines : List Line) (among : LinesAreAmong) where
  -- ---- lines of a refutation

  rows_stand : (behind : List Words) (from : ℕ) (read : Lines) → All IsReadableLine read.lines
      → IsRest lines from (map line_words read.lines ++ behind)
      → IsRest lines (from + length (map line_words read.lines)) behind
      → StandsBefore lines behind (AreCounted lines (length read.lines)) from read
  rows_stand behind from read each a rest =
      let front : List Words = words_of_lines (take from lines) in
      let size : length front ≡ from =
      length-map (take from lines) (λ (l : Line). l.words) ∙ length-take-le from lines a.within in
      let whole : words_of_lines lines ≡ front ++ (map line_words read.lines ++ behind) =
      ap words_of_lines (sym (take-append-drop from lines))
      ∙ map-append (λ (l : Line). l.words) (take from lines) (drop from lines) ∙ ap (λ l. front ++ l) a.are in
      record {
        next = from + length read.lines;
        is = record {
          within = a.within;
          are = subst (λ n. AreLinesAt lines n (length read.lines) read.lines) size
              (among lines front behind read.lines each whole);
          behind = refl;
        };
        rest = subst (λ n. IsRest lines (from + n) behind) (length-map read.lines line_words) rest;
      }

  counted_stands : (first : List ℕ) (cycles : ℕ) (behind : List Words) (from : ℕ) (read : Lines) → AreReadable read
      → IsRest lines from (counted_words first cycles (length read.lines) ∷ (map line_words read.lines ++ behind))
      → StandsBefore lines behind (CountedPart lines first cycles) from read
  counted_stands first cycles behind from read fine a =
      leads_stands lines _ _ (map line_words read.lines ++ behind) behind from (length read.lines) read
      (line_stands lines (IsCount first cycles) (map line_words read.lines ++ behind) from
      (counted_words first cycles (length read.lines)) (length read.lines) (record { small = fine.few; is = refl }) a)
      (λ middle rest.
      rows_stand behind middle read fine.each rest (all_ahead lines middle (map line_words read.lines) behind rest).rest)

  below_stands : (k : ℕ) (behind : List Words) (from : ℕ) (refute : Option Lines) → AreLinesBelow k refute
      → IsRest lines from (refute_part (k - 1) refute ++ behind) → StandsBefore lines behind (BelowPart lines k) from refute
  below_stands zero behind from None h a = says_stands lines behind from None a
  below_stands zero behind from (Some read) h a = cc
  below_stands (suc j) behind from None h a = absurd h
  below_stands (suc j) behind from (Some read) h a =
      let less : suc j - 1 ≡ j = omega arith in
      leads_stands lines _ _ behind behind from read (Some read)
      (counted_stands (codes "refute") j behind from read h
      (subst (λ n. IsRest lines from (refute_lines n read.lines ++ behind)) less a))
      (λ middle rest. says_stands lines behind middle (Some read) rest)

  -- ---- claims

  module _ (table : Table) (g : LaunchGraph) (more : List Words) where
    abbrev tail : List Words
    tail = end_words ∷ more

    schedule_stands : (k : ℕ) (launches : List Launch) (words : List ℕ) (places : List Where) (refute : Option Lines) (from : ℕ)
        → AreLaunches table g launches → AreCodes words → AreWherePlaces places → AreLinesBelow k refute
        → IsRest lines from
        (map (launch_words table g) launches
        ++ (map word_words words ++ (map where_words places ++ (refute_part (k - 1) refute ++ tail))))
        → StandsBefore lines tail (SchedulePart lines table g k) from
        (claims.Scheduled k (record { launches = launches }) words places, refute)
    schedule_stands k launches words places refute from are codes_are places_are below a =
        let t : List Words = refute_part (k - 1) refute ++ tail in
        let r : List Words = map where_words places ++ t in
        let q : List Words = map word_words words ++ r in
        let never_where : BeginsNot (codes "where") t =
        refute_begins_not (codes "where") (k - 1) refute tail
        (apart 0 114 119 (codes "refute") (codes "where") refl refl (λ n. omega (arith, n)))
        (apart 0 101 119 (codes "end") (codes "where") refl refl (λ n. omega (arith, n))) in
        let never_word : BeginsNot (codes "word") r =
        lines_begin_not (codes "word") where_words places t
        (λ w. apart 1 104 111 (codes "where") (codes "word") refl refl (λ n. omega (arith, n)))
        (refute_begins_not (codes "word") (k - 1) refute tail
        (apart 0 114 119 (codes "refute") (codes "word") refl refl (λ n. omega (arith, n)))
        (apart 0 101 119 (codes "end") (codes "word") refl refl (λ n. omega (arith, n)))) in
        let never_launch : BeginsNot (codes "launch") q =
        lines_begin_not (codes "launch") word_words words r
        (λ w. apart 0 119 108 (codes "word") (codes "launch") refl refl (λ n. omega (arith, n)))
        (lines_begin_not (codes "launch") where_words places t
        (λ w. apart 0 119 108 (codes "where") (codes "launch") refl refl (λ n. omega (arith, n)))
        (refute_begins_not (codes "launch") (k - 1) refute tail
        (apart 0 114 108 (codes "refute") (codes "launch") refl refl (λ n. omega (arith, n)))
        (apart 0 101 108 (codes "end") (codes "launch") refl refl (λ n. omega (arith, n))))) in
        leads_stands lines _ _ q tail from launches _
        (lines_stand lines _ (launch_words table g) (AreLaunches table g) q from launches are never_launch a)
        (λ low first.
        leads_stands lines _ _ r tail low words _
        (lines_stand lines _ word_words AreCodes r low words codes_are never_word first)
        (λ middle second.
        leads_stands lines _ _ t tail middle places _
        (lines_stand lines _ where_words AreWherePlaces t middle places places_are never_where second)
        (λ high third.
        leads_stands lines _ _ tail tail high refute _ (below_stands k tail high refute below third)
        (λ end last.
        says_stands lines tail end (claims.Scheduled k (record { launches = launches }) words places, refute) last))))

    missing_stands : (k : ℕ) (refute : Option Lines) (from : ℕ) → AreLinesBelow (suc k) refute
        → IsRest lines from (refute_part (k + 1 - 1) refute ++ tail)
        → StandsBefore lines tail (ClaimRest lines table g (lines_of.Missing k)) from (claims.Missing k, refute)
    missing_stands k None from below a = absurd below
    missing_stands k (Some read) from below a =
        let less : k + 1 - 1 ≡ k = omega arith in
        leads_stands lines _ _ tail tail from read (claims.Missing k, Some read)
        (counted_stands (codes "refute") k tail from read below
        (subst (λ n. IsRest lines from (refute_lines n read.lines ++ tail)) less a))
        (λ middle rest. says_stands lines tail middle (claims.Missing k, Some read) rest)

    pub claim_stands : (claim : Claim) (refute : Option Lines) (from : ℕ) → IsGraphClaim table g claim
        → AreLinesBelow (refuted_below claim) refute
        → IsRest lines from
        (claim_part table (Some g) claim ++ (refute_part (refuted_cycles claim) refute ++ (lemmas_part claim ++ tail)))
        → StandsBefore lines tail (ClaimPart lines table g) from (claim, refute)
    claim_stands (claims.NoWorld class m n) refute from h below a = absurd h
    claim_stands (claims.Scheduled k schedule words places) refute from h below a =
        let p : List Words = map (launch_words table g) schedule.launches in
        let q : List Words = map word_words words in
        let r : List Words = map where_words places in
        let t : List Words = refute_part (k - 1) refute ++ tail in
        let same : (p ++ (q ++ r)) ++ t ≡ p ++ (q ++ (r ++ t)) =
        append_assoc p (q ++ r) t ∙ ap (λ l. p ++ l) (append_assoc q r t) in
        leads_stands lines _ _ (p ++ (q ++ (r ++ t))) tail from (lines_of.Scheduled k)
        (claims.Scheduled k schedule words places, refute)
        (line_stands lines IsClaimLine (p ++ (q ++ (r ++ t))) from (scheduled_words k) (lines_of.Scheduled k)
        (record { low = h.0; is = refl }) (subst (λ l. IsRest lines from (scheduled_words k ∷ l)) same a))
        (λ middle rest. schedule_stands k schedule.launches words places refute middle h.1 h.2 h.3 below rest)
    claim_stands (claims.Missing k) refute from h below a =
        let t : List Words = refute_part (k + 1 - 1) refute ++ tail in
        leads_stands lines _ _ t tail from (lines_of.Missing k) (claims.Missing k, refute)
        (line_stands lines IsClaimLine t from (none_words k) (lines_of.Missing k) (record { low = h; is = refl }) a)
        (λ middle rest.
        missing_stands k refute middle (subst (λ n. AreLinesBelow n refute) (add-one k) below) rest)
    claim_stands (claims.SpentConflicts k lemmas) refute from h below a =
        let s : List Words = lemmas_lines k lemmas.lines ++ tail in
        let t : List Words = refute_part (k - 1) refute ++ s in
        leads_stands lines _ _ t tail from (lines_of.Conflicts k) (claims.SpentConflicts k lemmas, refute)
        (line_stands lines IsClaimLine t from (conflicts_words k) (lines_of.Conflicts k) (record { low = h.0; is = refl }) a)
        (λ middle rest.
        leads_stands lines _ _ s tail middle refute _ (below_stands k s middle refute below rest)
        (λ high also.
        leads_stands lines _ _ tail tail high lemmas _ (counted_stands (codes "lemmas") k tail high lemmas h.1 also)
        (λ end last. says_stands lines tail end (claims.SpentConflicts k lemmas, refute) last)))
    claim_stands (claims.SpentSize k vars clauses) refute from h below a =
        let t : List Words = refute_part (k - 1) refute ++ tail in
        leads_stands lines _ _ t tail from (lines_of.Size k vars clauses) (claims.SpentSize k vars clauses, refute)
        (line_stands lines IsClaimLine t from (size_words k vars clauses) (lines_of.Size k vars clauses)
        (record { low = h.0; is = refl }, h.1, h.2) a)
        (λ middle rest.
        leads_stands lines _ _ tail tail middle refute _ (below_stands k tail middle refute below rest)
        (λ end last. says_stands lines tail end (claims.SpentSize k vars clauses, refute) last))
