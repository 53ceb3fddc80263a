use Rattle.std.proofs.Common.{[], ◌∷◌, if◌then◌else◌, ap, sym, ◌∙◌, ne_eqb}
use Rattle.word_ops.specs.declared.operators.WordOp.TheVariants.{Lda}
use Rattle.word_ops.specs.declared.sorts.Op.TheVariants.{Word}
use Rattle.own_graph.specs.Own.{number}
use Rattle.own_graph.specs.Rows.{applied_class}
use Rattle.own_graph.specs.declared.operands.Part.TheVariants.{Class}
use Rattle.own_graph.proofs.multiples.address_part.Goals as goal

pub returns-clause-part : goal.returns-clause-part
returns-clause-part c =
    let rows = c.args.rows.now.items in
    let base = c.args.base in
    let n = c.args.displacement in
    ap Class (c.in_ok-class.ensures.class ∙ ap (λ part. applied_class rows (Word Lda) (base ∷ part ∷ [])) c.number.ensures)
    ∙ sym (ap (λ b. if b then base else Class (applied_class rows (Word Lda) (base ∷ number n ∷ []))) (ne_eqb n 0 c.if-displacement-eq0.false))
