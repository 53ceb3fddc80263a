use Rattle.text_core.specs.Lexing.{IsLexFault}
use Rattle.text_core.proofs.Lexemes.{one_list, no_fault}
use Rattle.text_core.proofs.Named.{names_are_named}
use Rattle.text_core.proofs.Rising.{tokens_rise}
use Rattle.text_core.proofs.Outcomes.{first_once}
use Rattle.text_core.proofs.Within.{each_token, few_tokens}
use Rattle.text_core.proofs.laws.one_lexing.Goals as goal

pub returns : goal.returns
returns c = record { tokens = one_list; each = each_token; few = few_tokens; rising = tokens_rise; named = names_are_named; apart = no_fault; first = λ text. first_once (IsLexFault text) }
