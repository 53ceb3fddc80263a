use Rattle.std.proofs.Common.{◌∙◌, sym}
use Rattle.denali_cli.proofs.OptionSteps.{flag_refused, flag_set, odd, pair_refused, pair_set}
use Rattle.denali_cli.proofs.options.options_of.Goals as goal

pub returns-then-at-words-clause-value : goal.returns-then-at-words-clause-value
returns-then-at-words-clause-value c =
    odd _ c.loop-at.options c.args.words.now c.loop-at.at _ c.loop-at.invariant.0 c.loop-at-test.true
    (sym c.is_flag.ensures ∙ c.if-is_flag.false) c.if-at-words.true

pub returns-in_err-options-clause-value : goal.returns-in_err-options-clause-value
returns-in_err-options-clause-value c =
    c.from_residual.ensures
    ∙ flag_refused _ c.loop-at.options c.args.words.now c.loop-at.at _ c.loop-at.invariant.0 c.loop-at-test.true
    (sym c.is_flag.ensures ∙ c.if-is_flag.true) c.in_err-options.ensures.value

pub returns-in_err-options-2-clause-value : goal.returns-in_err-options-2-clause-value
returns-in_err-options-2-clause-value c =
    c.from_residual-in_err-options-2.ensures
    ∙ pair_refused _ c.loop-at.options c.args.words.now c.loop-at.at _ _ c.loop-at.invariant.0 c.loop-at-test.true
    (sym c.is_flag.ensures ∙ c.if-is_flag.false) c.if-at-words.false c.in_err-options-2.ensures.value

pub loop-at-preserved-then-is_flag : goal.loop-at-preserved-then-is_flag
loop-at-preserved-then-is_flag c = (
  flag_set _ c.loop-at.options c.in_ok-options.options c.args.words.now c.loop-at.at _ c.loop-at.invariant.0
      c.loop-at-test.true (sym c.is_flag.ensures ∙ c.if-is_flag.true) c.in_ok-options.ensures.value,
  c.in_ok-options.ensures.within,
)

pub loop-at-preserved : goal.loop-at-preserved
loop-at-preserved c = (
  pair_set _ c.loop-at.options c.in_ok-options-2.options c.args.words.now c.loop-at.at _ _ c.loop-at.invariant.0
      c.loop-at-test.true (sym c.is_flag.ensures ∙ c.if-is_flag.false) c.if-at-words.false
      c.in_ok-options-2.ensures.value,
  c.in_ok-options-2.ensures.within,
)
