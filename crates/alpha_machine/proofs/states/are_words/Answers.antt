use Rattle.std.proofs.Common.{◌<◌, ◌^◌, subst}
use Rattle.std.proofs.lemmas.List.{get_or_default}
use Rattle.alpha_machine.proofs.states.are_words.Goals as goal

pub returns : goal.returns
returns c = λ k d l.
    subst (λ v. v < 2 ^ 64) (get_or_default c.args.registers.now k 0 d l) (c.type_inv.registers k).fits
