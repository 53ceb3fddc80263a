use Rattle.std.proofs.Common.{◌≡◌, ◌∙◌, map, true, refl, sym}
use Rattle.std.proofs.lemmas.Bool.{true≢false}
use Rattle.denali_cli.proofs.Spelled.{refused, taken}
use Rattle.denali_cli.proofs.spelling.spelled.Goals as goal

pub returns-in-Ok-clause-value : goal.returns-in-Ok-clause-value
returns-in-Ok-clause-value c =
    taken _ (map (λ word. word.now) c.args.words.now) c.in_ok-program.ensures c.in-Ok.matches c.command_in.result
    c.in-Ok.ensures.matches c.in-Ok.ensures.kinds c.command_in.ensures.value

pub returns-clause-value : goal.returns-clause-value
returns-clause-value c =
    refused _ (map (λ word. word.now) c.args.words.now) c.in_ok-program.ensures c.in-Err.error c.in-Err.ensures.kinds
    (λ memory. let same : c.eq.result ≡ true = rw (c.eq.ensures, c.kind.ensures, memory) refl in
    true≢false (sym same ∙ c.if-eq.false))
