use Rattle.std.proofs.Common.{◌∷◌, ◌++◌, [], map, ap, ◌∙◌, append_assoc, arith, codes}
use Rattle.forms.specs.Printing.{others_of, plains_from}
use Rattle.goal_meaning.specs.InputForms.{register_plain}
use Rattle.goal_reader.proofs.Printed.{all_printed}
use Rattle.goal_reader.proofs.printing.put_pool.Goals as goal

pub returns : goal.returns
returns c =
    let old = c.args.text.now.items in
    let others = others_of (plains_from (map register_plain c.args.pool.now)) in
    c.in_ok-extend_from_slice-3.ensures.items
    ∙ ap (λ l. l ++ 41 ∷ [])
    (all_printed register_plain c.args.pool.now c.loop-register.register-index _ _ (omega (arith, c.loop-register-test.false)) c.loop-register.invariant
    ∙ ap (λ l. l ++ others) c.in_ok-extend_from_slice.ensures.items)
    ∙ append_assoc (old ++ codes "(pool") others (41 ∷ []) ∙ append_assoc old (codes "(pool") (others ++ 41 ∷ [])
