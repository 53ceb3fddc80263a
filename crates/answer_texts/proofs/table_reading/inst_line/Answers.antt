use Rattle.std.proofs.Common.{◌≡◌, ◌≤◌, Some, length, refl, sym, ◌∙◌, arith}
use Rattle.std.proofs.lemmas.Bool.{false≢true}
use Rattle.machine_table.specs.declared.tables.InstrKind.{InstrKind}
use Rattle.machine_table.specs.declared.tables.Use.{Use}
use Rattle.text_core.specs.LineTexts.{Words}
use Rattle.text_core.specs.Lines.{line_at}
use Rattle.answer_texts.proofs.TableUses.{not_behind, no_latency, zero_latency, not_used, the_use}
use Rattle.answer_texts.proofs.table_reading.inst_line.Goals as goal

one_kind : (a b : InstrKind) → Some a ≡ Some b → a ≡ b
one_kind a b e = cc

pub returns-then-not-comes_behind : goal.returns-then-not-comes_behind
returns-then-not-comes_behind c =
    let words : Words = (line_at c.args.text.now c.args.line).words in
    not_behind c.args.slots.now c.args.cross c.args.before.now words c.in-Some.instr
    (λ other e. one_kind c.in-Some.instr other ((c.in-Some.ensures.found other).1 (e ∙ sym c.word.ensures.value)))
    (λ h. false≢true (sym c.if-not-comes_behind.true ∙ c.comes_behind.ensures.1 h))

pub returns-in_default-below : goal.returns-in_default-below
returns-in_default-below c =
    let words : Words = (line_at c.args.text.now c.args.line).words in
    no_latency c.args.slots.now c.args.cross c.args.before.now words (λ n low e. c.in_default-below.ensures.none n low (c.word-2.ensures.value ∙ e))

pub returns-then-latency-eq0 : goal.returns-then-latency-eq0
returns-then-latency-eq0 c =
    let words : Words = (line_at c.args.text.now c.args.line).words in
    zero_latency c.args.slots.now c.args.cross c.args.before.now words c.in-Some-below.latency
    (sym c.word-2.ensures.value ∙ c.in-Some-below.ensures.some.0) c.if-latency-eq0.true

pub returns-in_default-2 : goal.returns-in_default-2
returns-in_default-2 c =
    let words : Words = (line_at c.args.text.now c.args.line).words in
    let found = rw c.in_default-2.is at c.in_ok-named.ensures in
    not_used c.args.slots.now c.args.cross c.args.before.now words found

pub returns : goal.returns
returns c =
    let words : Words = (line_at c.args.text.now c.args.line).words in
    let found = rw c.in-Some-2.is at c.in_ok-named.ensures in
    let u : Use = record { instr = c.in-Some.instr; latency = c.in-Some-below.latency; slots = c.in-Some-2.named } in
    let long : 4 ≤ length words = (let n = c.words.ensures.count in let l = c.if-words-lt4.false in omega arith) in
    the_use c.args.slots.now c.args.cross c.args.before.now words u long (c.begins_with.ensures.0 c.if-not-begins_with.false)
    (sym c.word.ensures.value ∙ sym ((c.in-Some.ensures.found c.in-Some.instr).0 refl))
    (sym c.word-2.ensures.value ∙ c.in-Some-below.ensures.some.0) found.0 found.1 c.in-Some-below.ensures.some.1 c.if-latency-eq0.false
    (c.comes_behind.ensures.0 c.if-not-comes_behind.false) c.requires.before
