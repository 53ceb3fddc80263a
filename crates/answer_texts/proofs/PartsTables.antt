-- A table is read in one way, and is within the limits.
use Rattle.std.proofs.Common.{ℕ, List, Bool, true, false, sym, ap, subst}
use Rattle.machine_table.specs.Tables.{IsTable, ev6}
use Rattle.machine_table.specs.declared.tables.Table.{Table}
use Rattle.text_core.specs.Lines.{Line}
use Rattle.answer_texts.specs.AnswerLines.{slot_words, inst_words}
use Rattle.answer_texts.specs.AnswerParts.{IsTableLine, AreNamedSlots, IsCross, AreTableUses, table_of, OwnPart, OwnFault, TableRest, TableRestFault, TablePart, TableFault}
use Rattle.answer_texts.specs.declared.parts.TableLine.{TableLine}
use Rattle.answer_texts.specs.declared.parts.TableLine.TheVariants as tables
use Rattle.answer_texts.proofs.PartsKinds.{table_line_once, cross_once}
use Rattle.answer_texts.proofs.PartsLines.{lines_once}
use Rattle.answer_texts.proofs.PartsListKinds.{NamesAreOne, slots_kind, uses_kind}
use Rattle.answer_texts.proofs.PartsOnce.{IsOneReading, line_once, says_once, leads_once}

module _ (lines : List Line) where
  own_is_table : (from next : ℕ) (table : Table) → OwnPart lines from next table → IsTable table
  own_is_table from next table h =
      subst IsTable (sym h.second.second.second.is) h.second.second.first.so_far.fit

  rest_is_table : IsTable ev6 → (first : TableLine) (from next : ℕ) (said : Table × Bool)
      → TableRest lines first from next said → IsTable said.0
  rest_is_table built tables.BuiltIn from next said h = subst IsTable (sym (ap (λ (p : Table × Bool). p.0) h.is)) built
  rest_is_table built tables.Own from next said h =
      subst IsTable (sym (ap (λ (p : Table × Bool). p.0) h.second.is)) (own_is_table from h.middle h.said h.first)

  pub part_is_table : IsTable ev6 → (from next : ℕ) (said : Table × Bool) → TablePart lines from next said
      → IsTable said.0
  part_is_table built from next said h = rest_is_table built h.said h.middle next said h.second

  own_once : NamesAreOne → IsOneReading (OwnPart lines) (OwnFault lines)
  own_once found =
      leads_once _ _ _ _ (lines_once _ slot_words AreNamedSlots slots_kind lines)
      (λ from middle slots is.
      leads_once _ _ _ _ (line_once (IsCross slots) lines (cross_once slots))
      (λ start end cross also.
      leads_once _ _ _ _ (lines_once _ (inst_words slots) (AreTableUses slots cross) (uses_kind found slots cross) lines)
      (λ first last uses are. says_once (table_of slots cross uses))))

  rest_once : NamesAreOne → (first : TableLine) → IsOneReading (TableRest lines first) (TableRestFault lines first)
  rest_once found tables.BuiltIn = says_once (ev6, true)
  rest_once found tables.Own = leads_once _ _ _ _ (own_once found) (λ from middle table is. says_once (table, false))

  pub table_once : NamesAreOne → IsOneReading (TablePart lines) (TableFault lines)
  table_once found =
      leads_once _ _ _ _ (line_once IsTableLine lines table_line_once) (λ from middle first is. rest_once found first)
