use Rattle.axiom_texts.proofs.Asking.{asked_told, told_asked}
use Rattle.axiom_texts.proofs.laws.words_name_families.Goals as goal

pub returns : goal.returns
returns c = λ words families. (asked_told words families, told_asked words families)
