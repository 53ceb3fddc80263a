use Rattle.std.proofs.Common.{◌∙◌, ap, subst, sym}
use Rattle.alpha_encode.specs.Formats.{IsWellFormed, encoded}
use Rattle.proc_link.proofs.Fitting.{word_fits}
use Rattle.proc_link.proofs.linking.led_word.Goals as goal

pub encode-requires : goal.encode-requires
encode-requires c =
    subst IsWellFormed (sym c.led.ensures) (word_fits c.args.from c.args.to c.requires.from c.requires.to c.args.instr c.requires.word)

pub returns : goal.returns
returns c = c.encode.ensures.word ∙ ap encoded c.led.ensures
