use Rattle.std.proofs.Common.{Vec, Global}
use Rattle.std.proofs.lemmas.Result.{IfOk-weaker}
use Rattle.text_core.specs.declared.tokens.Token.{Token}
use Rattle.text_core.specs.Faults.{IsFirst}
use Rattle.text_core.specs.Lexing.{HasTokens, IsLexFault}
use Rattle.text_core.proofs.Lexemes.{one_list, no_first_fault}
use Rattle.text_core.proofs.Outcomes.{gives, refuses, first_once}
use Rattle.text_core.proofs.Within.{each_token, few_tokens}
use Rattle.text_core.proofs.lexer.lex.Goals as goal

pub returns-clause-read : goal.returns-clause-read
returns-clause-read c =
    let text = c.args.text.now in
    gives (λ (v : Vec Token Global). v.items) (HasTokens text) (IsFirst (IsLexFault text)) (one_list text) (no_first_fault text) (first_once (IsLexFault text)) c.tokens_of.result c.tokens_of.ensures.tokens c.tokens_of.ensures.fault

pub returns-clause-refused : goal.returns-clause-refused
returns-clause-refused c =
    let text = c.args.text.now in
    refuses (λ (v : Vec Token Global). v.items) (HasTokens text) (IsFirst (IsLexFault text)) (one_list text) (no_first_fault text) (first_once (IsLexFault text)) c.tokens_of.result c.tokens_of.ensures.tokens c.tokens_of.ensures.fault

pub returns-clause-each : goal.returns-clause-each
returns-clause-each c = IfOk-weaker c.tokens_of.result _ _ (λ (v : Vec Token Global). each_token c.args.text.now v.items) c.tokens_of.ensures.tokens

pub returns-clause-few : goal.returns-clause-few
returns-clause-few c = IfOk-weaker c.tokens_of.result _ _ (λ (v : Vec Token Global). few_tokens c.args.text.now v.items) c.tokens_of.ensures.tokens
