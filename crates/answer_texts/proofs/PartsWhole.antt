-- An answer is read in one way.
use Rattle.std.proofs.Common.{◌≡◌, ℕ, List, length, subst}
use Rattle.machine_table.specs.Tables.{IsTable, ev6}
use Rattle.text_core.specs.Lines.{Line, HasLines, IsFirstLineFault}
use Rattle.text_core.specs.declared.faults.Kind.{Kind}
use Rattle.answer_texts.specs.AnswerParts.{IsVersion, IsEncoding, GraphPart, GraphFault, answer_of, AnswerPart, AnswerPartFault}
use Rattle.answer_texts.specs.ReadAnswers.{ReadsAnswer, IsAnswerFault, of_lines, of_answer}
use Rattle.answer_texts.specs.declared.answers.AnswerText.{AnswerText}
use Rattle.answer_texts.proofs.LibraryLines.{FamilyLaws, library_once}
use Rattle.answer_texts.proofs.PartsCounted.{WordsAreOneLine}
use Rattle.answer_texts.proofs.PartsGoals.{goals_once}
use Rattle.answer_texts.proofs.PartsKinds.{version_once, encoding_once}
use Rattle.answer_texts.proofs.PartsListKinds.{NamesAreOne}
use Rattle.answer_texts.proofs.PartsOnce.{IsOneReading, line_once, says_once, leads_once}
use Rattle.answer_texts.proofs.PartsTables.{table_once, part_is_table}

-- what the crates below say of lines, of instructions, of the built-in table and of graphs
pub record Laws : Type 0 where
  pub one_text : (text : List ℕ) (lines others : List Line) → HasLines text lines → HasLines text others → lines ≡ others
  pub text_apart : (text : List ℕ) (lines : List Line) (place : ℕ) (kind : Kind) → HasLines text lines
      → IsFirstLineFault text place kind → ⊥
  pub text_first : (text : List ℕ) (place other : ℕ) (kind another : Kind) → IsFirstLineFault text place kind
      → IsFirstLineFault text other another → (place ≡ other) × (kind ≡ another)
  pub one_line : WordsAreOneLine
  pub names : NamesAreOne
  pub built_in : IsTable ev6
  pub families : FamilyLaws
  pub graphs : (version : ℕ) (lines : List Line) → IsOneReading (GraphPart lines version) (GraphFault lines version)

module _ (laws : Laws) where
  answer_once : (lines : List Line) → IsOneReading (AnswerPart lines) (AnswerPartFault lines)
  answer_once lines =
      leads_once _ _ _ _ (line_once IsVersion lines version_once)
      (λ from middle version is.
      leads_once _ _ _ _ (line_once (IsEncoding version) lines (encoding_once version))
      (λ start end encoding also.
      leads_once _ _ _ _ (table_once lines laws.names)
      (λ first last table has.
      leads_once _ _ _ _ (library_once laws.families lines)
      (λ start end library so.
      leads_once _ _ _ _
      (goals_once lines laws.one_line version table.0 (part_is_table lines laws.built_in first last table has)
      (laws.graphs version lines))
      (λ low high goals are. says_once (answer_of version encoding table library goals))))))

  pub one_value : (text : List ℕ) (answer other : AnswerText) → ReadsAnswer text answer → ReadsAnswer text other
      → answer ≡ other
  one_value text answer other a b =
      let same = laws.one_text text b.lines a.lines b.split a.split in
      let also : AnswerPart a.lines 0 (length a.lines) other =
      subst (λ ls. AnswerPart ls 0 (length ls) other) same b.says in
      ((answer_once a.lines).once 0 (length a.lines) (length a.lines) answer other a.says also).1

  pub no_fault : (text : List ℕ) (answer : AnswerText) (place : ℕ) (kind : Kind) → ReadsAnswer text answer
      → IsAnswerFault text place kind → ⊥
  no_fault text answer place kind a (of_lines f) = laws.text_apart text a.lines place kind a.split f
  no_fault text answer place kind a (of_answer {lines = ls} split f) =
      let same = laws.one_text text ls a.lines split a.split in
      (answer_once a.lines).apart 0 (length a.lines) place answer kind a.says
      (subst (λ l. AnswerPartFault l 0 place kind) same f)

  pub one_fault : (text : List ℕ) (place other : ℕ) (kind another : Kind) → IsAnswerFault text place kind
      → IsAnswerFault text other another → (place ≡ other) × (kind ≡ another)
  one_fault text place other kind another (of_lines f) (of_lines g) =
      laws.text_first text place other kind another f g
  one_fault text place other kind another (of_lines f) (of_answer {lines = ls} split g) =
      absurd (laws.text_apart text ls place kind split f)
  one_fault text place other kind another (of_answer {lines = ls} split f) (of_lines g) =
      absurd (laws.text_apart text ls other another split g)
  one_fault text place other kind another (of_answer {lines = ls} split f) (of_answer {lines = ms} also g) =
      let same = laws.one_text text ms ls also split in
      (answer_once ls).first 0 place other kind another f (subst (λ l. AnswerPartFault l 0 other another) same g)
