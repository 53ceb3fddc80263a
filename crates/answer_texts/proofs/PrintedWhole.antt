-- Lines that are what an answer prints say it.
use Rattle.std.proofs.Common.{◌≡◌, ◌≢◌, ◌∙◌, ℕ, ◌≤◌, Bool, true, false, List, [], ◌∷◌, ◌++◌, length, map, inl, inr, refl, sym, ap, subst, arith, append_assoc, codes}
use Rattle.std.specs.Prelude.{All, IsTrue}
use Rattle.std.specs.List.{flat_map}
use Rattle.std.proofs.lemmas.List.Concat.{flat_map-cons}
use Rattle.machine_table.specs.Tables.{IsTable, ev6}
use Rattle.machine_table.specs.declared.tables.Slot.{Slot}
use Rattle.machine_table.specs.declared.tables.Table.{Table}
use Rattle.text_core.specs.Lines.{Line}
use Rattle.text_core.specs.LineTexts.{Words, words_of_lines}
use Rattle.text_core.specs.Names.{IsName}
use Rattle.answer_texts.specs.AnswerLines.{version_words, encoding_words, built_in_words, own_words, slot_words, cross_words, inst_words, table_lines, library_lines, listed_families, goal_lines, answer_lines}
use Rattle.answer_texts.specs.AnswerParts.{GoTogether, IsVersion, IsEncoding, IsTableLine, AreNamedSlots, IsCross, AreTableUses, OwnPart, TablePart, AnswerPart}
use Rattle.answer_texts.specs.Printable.{IsPrintable}
use Rattle.answer_texts.specs.declared.answers.AnswerText.{AnswerText}
use Rattle.answer_texts.specs.declared.answers.Claimed.{Claimed}
use Rattle.answer_texts.specs.declared.parts.TableLine.TheVariants as tables
use Rattle.answer_texts.proofs.LibraryLines.{FamilyLaws, families_begin_not, library_stands}
use Rattle.answer_texts.proofs.PrintedRest.{IsRest, BeginsNot, rest_ends}
use Rattle.answer_texts.proofs.PrintedParts.{StandsBefore, says_stands, line_stands, lines_stand, leads_stands}
use Rattle.answer_texts.proofs.PrintedClaims.{LinesAreAmong, apart}
use Rattle.answer_texts.proofs.PrintedGoals.{PrintedAreGraphs, goals_stand}

-- goals begin with no other word
goals_begin_not : (first : List ℕ) → codes "goal" ≢ first → (table : Table) (goals : List Claimed)
    → BeginsNot first (flat_map (goal_lines table) goals)
goals_begin_not first other table [] = tt
goals_begin_not first other table (c ∷ goals) =
    subst (BeginsNot first) (sym (flat_map-cons (goal_lines table) c goals)) other

-- the version that goes with some encoding
version_low : (version encoding : ℕ) → GoTogether version encoding → (1 ≤ version) × (version ≤ 3)
version_low version encoding (inl is) = (let one = is.0 in (omega (arith, one), omega (arith, one)))
version_low version encoding (inr (inl is)) = (let two = is.0 in (omega (arith, two), omega (arith, two)))
version_low version encoding (inr (inr is)) = (let three = is.0 in (omega (arith, three), omega (arith, three)))

module _ (lines : List Line) where
  -- ---- the table

  own_stands : (table : Table) (behind : List Words) (from : ℕ) → IsTable table → All (λ (s : Slot). IsName s.name) table.slots
      → BeginsNot (codes "inst") behind
      → IsRest lines from
      (map slot_words table.slots ++ (cross_words table.cross ∷ (map (inst_words table.slots) table.uses ++ behind)))
      → StandsBefore lines behind (OwnPart lines) from table
  own_stands table behind from is named never a =
      let uses : List Words = map (inst_words table.slots) table.uses ++ behind in
      let cross : List Words = cross_words table.cross ∷ uses in
      let slots : AreNamedSlots table.slots =
      record { few = is.slots.1; names = named; clusters = is.clusters; once = is.names } in
      leads_stands lines _ _ cross behind from table.slots table
      (lines_stand lines (codes "slot") slot_words AreNamedSlots cross from table.slots slots
      (apart 0 99 115 (codes "cross") (codes "slot") refl refl (λ n. omega (arith, n))) a)
      (λ middle first.
      leads_stands lines _ _ uses behind middle table.cross table
      (line_stands lines (IsCross table.slots) uses middle (cross_words table.cross) table.cross
      (record { some = is.slots.0; low = is.cross; is = refl }) first)
      (λ high second.
      leads_stands lines _ _ behind behind high table.uses table
      (lines_stand lines (codes "inst") (inst_words table.slots) (AreTableUses table.slots table.cross) behind high table.uses is
      never second)
      (λ end last. says_stands lines behind end table last)))

  table_stands : (table : Table) (builtin : Bool) (behind : List Words) (from : ℕ) → IsTable table
      → All (λ (s : Slot). IsName s.name) table.slots → (IsTrue builtin → table ≡ ev6) → BeginsNot (codes "inst") behind
      → IsRest lines from (table_lines table builtin ++ behind) → StandsBefore lines behind (TablePart lines) from (table, builtin)
  table_stands table true behind from is named built never a =
      subst (λ t. StandsBefore lines behind (TablePart lines) from (t, true)) (sym (built refl))
      (leads_stands lines _ _ behind behind from tables.BuiltIn (ev6, true)
      (line_stands lines IsTableLine behind from built_in_words tables.BuiltIn refl a)
      (λ end last. says_stands lines behind end (ev6, true) last))
  table_stands table false behind from is named built never a =
      let slots : List Words = map slot_words table.slots in
      let uses : List Words = map (inst_words table.slots) table.uses in
      let own : List Words = slots ++ (cross_words table.cross ∷ (uses ++ behind)) in
      leads_stands lines _ _ own behind from tables.Own (table, false)
      (line_stands lines IsTableLine own from own_words tables.Own refl
      (subst (λ l. IsRest lines from (own_words ∷ l)) (append_assoc slots (cross_words table.cross ∷ uses) behind) a))
      (λ middle rest.
      leads_stands lines _ _ behind behind middle table (table, false)
      (own_stands table behind middle is named never rest)
      (λ end last. says_stands lines behind end (table, false) last))

  -- ---- answers

  some_goals : (goals : List Claimed) → 1 ≤ length goals → goals ≢ []
  some_goals goals some e = (let none : length goals ≡ 0 = ap length e in omega (arith, some, none))

  pub answer_stands : LinesAreAmong → FamilyLaws → (a : AnswerText) → PrintedAreGraphs a.version → IsPrintable a
      → words_of_lines lines ≡ answer_lines a → AnswerPart lines 0 (length lines) a
  answer_stands among families a graphs is words =
      let goals : List Words = flat_map (goal_lines a.table) a.goals in
      let library : List Words = library_lines a.library ++ goals in
      let tables : List Words = table_lines a.table a.builtin ++ library in
      let joined : answer_lines a ≡ version_words a.version ∷ encoding_words a.encoding ∷ tables =
      ap (λ ls. version_words a.version ∷ encoding_words a.encoding ∷ ls)
      (append_assoc (table_lines a.table a.builtin) (library_lines a.library) goals) in
      let whole = leads_stands lines _ _ (encoding_words a.encoding ∷ tables) [] 0 a.version a
      (line_stands lines IsVersion (encoding_words a.encoding ∷ tables) 0 (version_words a.version) a.version
      (record { known = version_low a.version a.encoding is.encoding; is = refl })
      (record { within = omega arith; are = words ∙ joined }))
      (λ first one.
      leads_stands lines _ _ tables [] first a.encoding a
      (line_stands lines (IsEncoding a.version) tables first (encoding_words a.encoding) a.encoding
      (record { known = is.encoding; is = refl }) one)
      (λ second two.
      leads_stands lines _ _ library [] second (a.table, a.builtin) a
      (table_stands a.table a.builtin library second is.table is.names is.built_in
      (families_begin_not (codes "inst") (listed_families a.library) goals
      (apart 0 108 105 (codes "library") (codes "inst") refl refl (λ n. omega (arith, n)))
      (goals_begin_not (codes "inst") (apart 0 103 105 (codes "goal") (codes "inst") refl refl (λ n. omega (arith, n)))
      a.table a.goals)) two)
      (λ third three.
      leads_stands lines _ _ goals [] third a.library a
      (library_stands lines families a.library goals third
      (goals_begin_not (codes "library")
      (apart 0 103 108 (codes "goal") (codes "library") refl refl (λ n. omega (arith, n))) a.table a.goals) three)
      (λ fourth four.
      (let last = goals_stand lines among a.version graphs a.table fourth a.goals is.few.1 is.goals four in
      leads_stands lines _ _ [] [] fourth a.goals a
      (record {
        next = last.next;
        is = record { are = last.are; some = some_goals a.goals is.few.0; whole = rest_ends lines last.next last.rest };
        rest = last.rest;
      })
      (λ end none. says_stands lines [] end a none)))))) in
      subst (λ n. AnswerPart lines 0 n a) (rest_ends lines whole.next whole.rest) whole.is
