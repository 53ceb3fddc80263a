use Rattle.forms.specs.Reading.{TextHasTrees, IsFirstReadFault}
use Rattle.forms.proofs.Told.{gives, refuses}
use Rattle.text_core.specs.Sexps.{sexp_trees}
use Rattle.forms.proofs.texts.trees.Goals as goal

pub returns-clause-read : goal.returns-clause-read
returns-clause-read c =
    let text = c.args.text.now in
    gives (λ forms. sexp_trees forms.items) (TextHasTrees text) (IsFirstReadFault text) (c.one_reading.ensures.trees text) (c.one_reading.ensures.apart text) (c.one_reading.ensures.first text)
    c.lexed_and_parsed.result c.lexed_and_parsed.ensures.trees c.lexed_and_parsed.ensures.fault

pub returns-clause-refused : goal.returns-clause-refused
returns-clause-refused c =
    let text = c.args.text.now in
    refuses (λ forms. sexp_trees forms.items) (TextHasTrees text) (IsFirstReadFault text) (c.one_reading.ensures.trees text) (c.one_reading.ensures.apart text) (c.one_reading.ensures.first text)
    c.lexed_and_parsed.result c.lexed_and_parsed.ensures.trees c.lexed_and_parsed.ensures.fault
