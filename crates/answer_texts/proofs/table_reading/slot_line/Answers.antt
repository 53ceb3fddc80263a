use Rattle.std.proofs.Common.{◌≡◌, sym, ◌∙◌, subst}
use Rattle.std.proofs.lemmas.Bool.{false≢true}
use Rattle.text_core.specs.LineTexts.{Words}
use Rattle.text_core.specs.Lines.{line_at}
use Rattle.text_core.specs.Names.{IsName}
use Rattle.machine_table.specs.declared.tables.Slot.{Slot}
use Rattle.answer_texts.proofs.TableLists.{no_value}
use Rattle.answer_texts.proofs.TableSlots.{IsNoName, no_name, same_name, no_cluster, the_slot}
use Rattle.answer_texts.proofs.table_reading.slot_line.Goals as goal
use Rattle.answer_texts.proofs.table_reading.slot_line.Goals.{then-not-is_name-via-then-not-is_name, then-not-is_name-via-else-not-is_name+then-is_some}

pub returns-then-not-is_name : goal.returns-then-not-is_name
returns-then-not-is_name c =
    let words : Words = (line_at c.args.text.now c.args.line).words in
    let before = c.args.before.now in
    let at = c.word-name.ensures.value in
    elim c.then-not-is_name.branch [
      | then-not-is_name-via-then-not-is_name w ↦ no_name before words (λ is. false≢true (sym w.if-not-is_name.true ∙ c.is_name.ensures.1 (subst IsName (sym at) is)))
      | then-not-is_name-via-else-not-is_name+then-is_some w ↦
          same_name before words c.word-name.result.now at w.slot_named.result w.slot_named.ensures.some (sym w.is_some.ensures ∙ w.if-is_some.true)
    ]

pub returns-in_default : goal.returns-in_default
returns-in_default c =
    let words : Words = (line_at c.args.text.now c.args.line).words in
    no_cluster c.args.before.now words (λ n low e. c.in_default.ensures.none n low (c.word.ensures.value ∙ e))

pub returns : goal.returns
returns c =
    let words : Words = (line_at c.args.text.now c.args.line).words in
    let before = c.args.before.now in
    let bytes = c.word-name.result.now in
    let at = c.word-name.ensures.value in
    let s : Slot = record { name = c.in_ok-new.field-0; cluster = c.in-Some.cluster } in
    let named : s.name ≡ bytes = c.in_ok-new.ensures in
    let apart = no_value (IsNoName before bytes) c.slot_named.result c.slot_named.ensures.none (sym c.is_some.ensures ∙ c.if-is_some.false) in
    the_slot before words s (sym c.words.ensures.count ∙ c.if-words-ne3.false) (c.begins_with.ensures.0 c.if-not-begins_with.false)
    (sym at ∙ sym named) (sym c.word.ensures.value ∙ c.in-Some.ensures.some.0) c.requires.before c.if-before-eq-MOST_SLOTS.false
    (subst IsName (sym named) (c.is_name.ensures.0 c.if-not-is_name.false)) c.in-Some.ensures.some.1
    (subst (IsNoName before) (sym named) apart)
