use Rattle.std.proofs.Common.{sym, arith}
use Rattle.std.proofs.lemmas.Bool.Decides.{Decides-ltb}
use Rattle.answer_texts.proofs.TableUses.{behind_last, last_before}
use Rattle.answer_texts.proofs.table_reading.comes_behind.Goals as goal

pub returns-in-Some : goal.returns-in-Some
returns-in-Some c =
    let before = c.args.before.now in
    let last = c.in-Some.last.now in
    let is = sym c.in-Some.ensures.value in
    let one = c.instr_number.ensures in
    let two = c.instr_number-in-Some.ensures in
    let less = Decides-ltb c.instr_number.result c.instr_number-in-Some.result in (
      (λ t. behind_last before last is c.args.instr c.requires (let l = less.0 t in omega arith)),
      (λ h. less.1 (let l = last_before before last is c.args.instr h in omega arith)),
    )
