use Rattle.std.proofs.Common.{◌∙◌, Some, ap, sym}
use Rattle.std.proofs.lemmas.Option.{slice_get-get_or}
use Rattle.std.proofs.lemmas.Slice.Eq.{bytes_eq-Decides}
use Rattle.proc_goal.proofs.targets.block_number.Goals as goal

pub returns-then-eq : goal.returns-then-eq
returns-then-eq c =
    let one = c.index-names-number.result in
    let same = (bytes_eq-Decides c.bytes.result.now c.args.bytes.now).0 (sym c.eq.ensures ∙ c.if-eq.true) in
    slice_get-get_or c.args.names.now c.loop-number.number one c.loop-number-test.true ∙ ap Some (sym c.index-names-number.is ∙ sym c.bytes.ensures ∙ same)
