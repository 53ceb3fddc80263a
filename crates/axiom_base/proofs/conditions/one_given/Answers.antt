use Rattle.std.proofs.Common.{sym, subst}
use Rattle.axiom_base.specs.Conditions.{IsByteMask, IsPlainMask}
use Rattle.axiom_base.proofs.Giving.{GivesOne, of_words, far_given, cleared_given, mskbl_is, mskwl_is, mskll_is}
use Rattle.word_ops.specs.Values.{msk_low}
use Rattle.axiom_base.proofs.conditions.one_given.Goals as goal

pub returns-in-C9 : goal.returns-in-C9
returns-in-C9 c =
    let r = c.full_bytes.result in
    subst (λ kind. GivesOne kind c.args.c c.args.d r) (sym c.in-C9.is) (of_words (IsByteMask c.args.c) r c.full_bytes.ensures)

pub returns-in-C12 : goal.returns-in-C12
returns-in-C12 c =
    let r = c.far-in-C12.result in
    subst (λ kind. GivesOne kind c.args.c c.args.d r) (sym c.in-C12.is)
    (far_given c.args.c c.args.d c.apply.result r c.apply.ensures c.far-in-C12.ensures)

pub returns-in-C16 : goal.returns-in-C16
returns-in-C16 c =
    let r = c.plain_mask.result in
    subst (λ kind. GivesOne kind c.args.c c.args.d r) (sym c.in-C16.is) (of_words (IsPlainMask c.args.c) r c.plain_mask.ensures)

pub returns-in-C26 : goal.returns-in-C26
returns-in-C26 c =
    let r = c.without_bytes.result in
    subst (λ kind. GivesOne kind c.args.c c.args.d r) (sym c.in-C26.is)
    (cleared_given (msk_low 1 c.args.c c.args.d) _ c.args.d r (mskbl_is c.args.c c.args.d) c.without_bytes.ensures)

pub returns-in-C27 : goal.returns-in-C27
returns-in-C27 c =
    let r = c.without_bytes-in-C27.result in
    subst (λ kind. GivesOne kind c.args.c c.args.d r) (sym c.in-C27.is)
    (cleared_given (msk_low 2 c.args.c c.args.d) _ c.args.d r (mskwl_is c.args.c c.args.d) c.without_bytes-in-C27.ensures)

pub returns-in-C28 : goal.returns-in-C28
returns-in-C28 c =
    let r = c.without_bytes-in-C28.result in
    subst (λ kind. GivesOne kind c.args.c c.args.d r) (sym c.in-C28.is)
    (cleared_given (msk_low 4 c.args.c c.args.d) _ c.args.d r (mskll_is c.args.c c.args.d) c.without_bytes-in-C28.ensures)
