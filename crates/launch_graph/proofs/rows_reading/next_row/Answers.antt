use Rattle.std.proofs.Common.{◌≡◌, ℕ, List, [], ◌∷◌, ◌++◌, length, refl, sym, ap, subst, ◌∙◌, arith, Option, Bool, true, false}
use Rattle.std.specs.Prelude.{MatchOption, Contains}
use Rattle.std.proofs.lemmas.Bool.{false≢true}
use Rattle.text_core.specs.Faults.{IsFaultBy}
use Rattle.text_core.specs.Lines.{line_at}
use Rattle.word_ops.specs.declared.sorts.Op.{Op}
use Rattle.std.specs.Vec.{with_items}
use Rattle.std.proofs.lemmas.List.{with_items_is}
use Rattle.graph_meaning.specs.declared.graphs.LaunchRow.{LaunchRow}
use Rattle.launch_graph.specs.declared.row_lines.RowLine.{RowLine}
use Rattle.launch_graph.specs.declared.rows_reading.RowsSoFar.{RowsSoFar}
use Rattle.launch_graph.specs.LineFaults.{IsFirstFaultOf}
use Rattle.launch_graph.specs.Numbering.{HasNoNumber, IsNumberedOp, row_key}
use Rattle.launch_graph.specs.RowFaults.{IsBadClass}
use Rattle.launch_graph.specs.RowLines.{IsRowLine}
use Rattle.launch_graph.specs.RowReading.{IsOnlyRow}
use Rattle.launch_graph.specs.SeenRows.{IsSeen}
use Rattle.launch_graph.proofs.FewOperands.{few_more, count_is}
use Rattle.launch_graph.proofs.NextRow.{no_row_first, no_number_first, not_fresh_first, class_first, row_read}
use Rattle.launch_graph.proofs.rows_reading.next_row.Goals as goal

false_not_true : (b : Bool) → b ≡ false → b ≡ true → {P : Type 0} → P
false_not_true b e f = absurd (false≢true (sym e ∙ f))

not_true : (b : Bool) → b ≡ false → b ≡ false
not_true b e = e

pub returns-in_default-clause-fault : goal.returns-in_default-clause-fault
returns-in_default-clause-fault c = λ version from all before a more.
    (let laws = c.operators_are_listed.ensures in
    let words = (line_at c.args.text.now c.args.line).words in
    let none = subst (λ (o : Option RowLine). MatchOption o ((row : RowLine) → IsRowLine words row → ⊥) (IsOnlyRow words)) c.in_default.is c.in_ok-row.ensures in
    let f = c.line_fault.ensures in
    subst (IsFaultBy (IsFirstFaultOf version c.args.text.now from)) (sym f.is)
    (no_row_first laws.names c.args.text.now from all before c.args.marks.now c.args.line c.args.so_far.now a more c.requires.line f.place f.placed none))

pub returns-in_default-2-clause-fault : goal.returns-in_default-2-clause-fault
returns-in_default-2-clause-fault c = λ version from all before a more.
    (let laws = c.operators_are_listed.ensures in
    let words = (line_at c.args.text.now c.args.line).words in
    let row = c.in-Some.row in
    let is = subst (λ (o : Option RowLine). MatchOption o ((row : RowLine) → IsRowLine words row → ⊥) (IsOnlyRow words)) c.in-Some.is c.in_ok-row.ensures in
    let used = c.args.so_far.now.used in
    let none = subst (λ (o : Option Op). MatchOption o (HasNoNumber used row.op c.len.result) (IsNumberedOp used c.numbered_op.new.used row.op c.len.result)) c.in_default-2.is c.in_ok-op.ensures in
    let f = c.line_fault-in_default-2.ensures in
    subst (IsFaultBy (IsFirstFaultOf version c.args.text.now from)) (sym f.is)
    (no_number_first laws.names c.args.text.now from all before c.args.marks.now c.args.line c.args.so_far.now a more c.requires.line f.place f.placed row is.is
    (subst (HasNoNumber used row.op) c.len.ensures none)))

pub returns-then-not-fresh-clause-fault : goal.returns-then-not-fresh-clause-fault
returns-then-not-fresh-clause-fault c = λ version from all before a more.
    (let laws = c.operators_are_listed.ensures in
    let words = (line_at c.args.text.now c.args.line).words in
    let row = c.in-Some.row in
    let op = c.in-Some-2.op in
    let is = subst (λ (o : Option RowLine). MatchOption o ((row : RowLine) → IsRowLine words row → ⊥) (IsOnlyRow words)) c.in-Some.is c.in_ok-row.ensures in
    let used = c.args.so_far.now.used in
    let new = c.numbered_op.new.used in
    let numbered = subst (λ (o : Option Op). MatchOption o (HasNoNumber used row.op c.len.result) (IsNumberedOp used new row.op c.len.result)) c.in-Some-2.is c.in_ok-op.ensures in
    let n : IsNumberedOp used new row.op (length row.operands) op = subst (λ k. IsNumberedOp used new row.op k op) c.len.ensures numbered in
    let key = c.row_key.ensures ∙ ap (row_key op) c.as_slice.ensures in
    let f = c.line_fault-then-not-fresh.ensures in
    let there : Contains c.args.so_far.now.index (row_key op row.operands) =
    subst (Contains c.args.so_far.now.index) key (c.in_ok-fresh.ensures.there (not_true c.in_ok-fresh.fresh c.if-not-fresh.true)) in
    subst (IsFaultBy (IsFirstFaultOf version c.args.text.now from)) (sym f.is)
    (not_fresh_first laws.names c.args.text.now from all before c.args.marks.now c.args.line c.args.so_far.now a more c.requires.line f.place f.placed row is.is
    new op n there (count_is used new row.op (length row.operands) op n)))

pub returns-then-bad-clause-fault : goal.returns-then-bad-clause-fault
returns-then-bad-clause-fault c = λ version from all before a more.
    (let laws = c.operators_are_listed.ensures in
    let words = (line_at c.args.text.now c.args.line).words in
    let row = c.in-Some.row in
    let op = c.in-Some-2.op in
    let is = subst (λ (o : Option RowLine). MatchOption o ((row : RowLine) → IsRowLine words row → ⊥) (IsOnlyRow words)) c.in-Some.is c.in_ok-row.ensures in
    let used = c.args.so_far.now.used in
    let new = c.numbered_op.new.used in
    let numbered = subst (λ (o : Option Op). MatchOption o (HasNoNumber used row.op c.len.result) (IsNumberedOp used new row.op c.len.result)) c.in-Some-2.is c.in_ok-op.ensures in
    let n : IsNumberedOp used new row.op (length row.operands) op = subst (λ k. IsNumberedOp used new row.op k op) c.len.ensures numbered in
    let key = c.row_key.ensures ∙ ap (row_key op) c.as_slice.ensures in
    let f = c.line_fault-then-bad.ensures in
    let fresh : Contains c.args.so_far.now.index (row_key op row.operands) → ⊥ =
    subst (λ k. Contains c.args.so_far.now.index k → ⊥) key (c.in_ok-fresh.ensures.fresh.0 c.if-not-fresh.false) in
    let bad : IsBadClass (length c.args.marks.now) all before row =
    (c.has_bad_class-bad.ensures.bad all before a.marks_are
    (subst (IsSeen (length c.args.marks.now) before c.args.so_far.now.next) (sym c.as_slice-2.ensures.value) a.seen)).0 c.if-bad.true in
    subst (IsFaultBy (IsFirstFaultOf version c.args.text.now from)) (sym f.is)
    (class_first laws.names c.args.text.now from all before c.args.marks.now c.args.line c.args.so_far.now a more c.requires.line f.place f.placed row is.is
    new op n fresh bad))

pub returns-clause-few : goal.returns-clause-few
returns-clause-few c =
    let row = c.in-Some.row in
    let used = c.args.so_far.now.used in
    let new = c.numbered_op.new.used in
    let numbered = subst (λ (o : Option Op). MatchOption o (HasNoNumber used row.op c.len.result) (IsNumberedOp used new row.op c.len.result)) c.in-Some-2.is c.in_ok-op.ensures in
    few_more used new row.op c.len.result c.in-Some-2.op c.requires.few numbered

pub returns-clause-ok : goal.returns-clause-ok
returns-clause-ok c = λ version from all before a more.
    (let laws = c.operators_are_listed.ensures in
    let words = (line_at c.args.text.now c.args.line).words in
    let row = c.in-Some.row in
    let op = c.in-Some-2.op in
    let is = subst (λ (o : Option RowLine). MatchOption o ((row : RowLine) → IsRowLine words row → ⊥) (IsOnlyRow words)) c.in-Some.is c.in_ok-row.ensures in
    let used = c.args.so_far.now.used in
    let new = c.numbered_op.new.used in
    let numbered = subst (λ (o : Option Op). MatchOption o (HasNoNumber used row.op c.len.result) (IsNumberedOp used new row.op c.len.result)) c.in-Some-2.is c.in_ok-op.ensures in
    let n : IsNumberedOp used new row.op (length row.operands) op = subst (λ k. IsNumberedOp used new row.op k op) c.len.ensures numbered in
    let key = c.row_key.ensures ∙ ap (row_key op) c.as_slice.ensures in
    let fresh : Contains c.args.so_far.now.index (row_key op row.operands) → ⊥ =
    subst (λ k. Contains c.args.so_far.now.index k → ⊥) key (c.in_ok-fresh.ensures.fresh.0 c.if-not-fresh.false) in
    let name = c.in_ok-name_of_op.field-0 in
    let made : LaunchRow = record { class = row.class; op = op; name = name; operands = row.operands } in
    let seen_before = subst (IsSeen (length c.args.marks.now) before c.args.so_far.now.next) (sym c.as_slice-2.ensures.value) a.seen in
    let right : IsBadClass (length c.args.marks.now) all before row → ⊥ =
    λ bad. false≢true (sym c.if-bad.false ∙ (c.has_bad_class-bad.ensures.bad all before a.marks_are seen_before).1 bad) in
    let items : List (Option ℕ) = c.args.so_far.now.constants.items in
    let k : c.deref_mut.result.now ≡ items = c.deref_mut.ensures.value in
    let size : length c.deref_mut.result.now ≡ length c.args.marks.now = ap length k ∙ c.requires.size in
    let old : IsSeen (length c.deref_mut.result.now) before c.args.so_far.now.next c.deref_mut.result.now =
    subst (λ m. IsSeen m before c.args.so_far.now.next c.deref_mut.result.now) (sym size)
    (subst (IsSeen (length c.args.marks.now) before c.args.so_far.now.next) (sym k) a.seen) in
    let seen : IsSeen (length c.args.marks.now) (before ++ row ∷ []) c.see_row-so_far.result c.see_row-so_far.new.constants =
    subst (λ m. IsSeen m (before ++ row ∷ []) c.see_row-so_far.result c.see_row-so_far.new.constants) size (c.see_row-so_far.ensures.seen before old) in
    let so' : RowsSoFar =
    record {
      used = new;
      index = c.note.new.self;
      next = c.see_row-so_far.result;
      constants = with_items c.args.so_far.now.constants c.see_row-so_far.new.constants;
      rows = c.push.new.self;
    } in (
      row,
      row_read laws.names c.args.text.now from all before c.args.marks.now c.args.line c.args.so_far.now a more c.requires.line
          (line_at c.args.text.now c.args.line).place
          (record { within = λ l. refl; past = λ e. absurd (let l = c.requires.line in omega (arith, l, e)) })
          row is.is new op n fresh right made refl refl c.in_ok-name_of_op.ensures refl so' refl
          (c.in_ok-fresh.ensures.new c.if-not-fresh.false ∙ ap (λ x. c.args.so_far.now.index ++ x ∷ []) key) c.in_ok-push.ensures.ok
          (subst (IsSeen (length c.args.marks.now) (before ++ row ∷ []) c.see_row-so_far.result) (sym (with_items_is c.args.so_far.now.constants c.see_row-so_far.new.constants
          (c.see_row-so_far.ensures.size ∙ ap length k ∙ sym c.args.so_far.now.constants.ok.0))) seen),
    ))
