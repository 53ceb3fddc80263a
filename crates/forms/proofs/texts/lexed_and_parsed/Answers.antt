use Rattle.std.proofs.Common.{subst}
use Rattle.std.proofs.lemmas.Result.{err_from_is_err_and}
use Rattle.text_core.specs.Faults.{IsFirst, IsFaultBy}
use Rattle.text_core.specs.Lexing.{IsLexFault}
use Rattle.text_core.specs.Nesting.{IsFirstTreeFault}
use Rattle.text_core.specs.Sexps.{sexp_trees}
use Rattle.text_core.specs.Trees.{HasTrees}
use Rattle.forms.specs.Reading.{IsFirstReadFault, in_bytes, in_tokens}
use Rattle.forms.proofs.Told.{told_as}
use Rattle.forms.proofs.texts.lexed_and_parsed.Goals as goal

pub returns-in_err-tokens-clause-fault : goal.returns-in_err-tokens-clause-fault
returns-in_err-tokens-clause-fault c =
    let p = err_from_is_err_and c.from_residual.result c.from_residual.ensures.1 in
    rw (p.1, p.2)
    (told_as (IsFirst (IsLexFault c.args.text.now)) (IsFirstReadFault c.args.text.now) (λ p k first. in_bytes first) c.in_err-tokens.field-0.0 c.in_err-tokens.ensures.fault)

pub returns-in-Ok-clause-trees : goal.returns-in-Ok-clause-trees
returns-in-Ok-clause-trees c = record {
  tokens = c.in_ok-tokens.tokens.items;
  lexed = c.in_ok-tokens.ensures.tokens;
  parsed = subst (λ ts. HasTrees ts (sexp_trees c.in-Ok.forms.items)) c.deref.ensures.value c.in-Ok.ensures.trees;
}

pub returns-clause-fault : goal.returns-clause-fault
returns-clause-fault c =
    let told = subst (λ ts. IsFaultBy (IsFirstTreeFault ts) c.in-Err.fault) c.deref.ensures.value c.in-Err.ensures.fault in
    told_as (IsFirstTreeFault c.in_ok-tokens.tokens.items) (IsFirstReadFault c.args.text.now) (λ p k first. in_tokens c.in_ok-tokens.tokens.items c.in_ok-tokens.ensures.tokens first) c.in-Err.fault told
