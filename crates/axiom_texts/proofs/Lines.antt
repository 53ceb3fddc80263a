-- Lines of forms, one list behind another.
use Rattle.std.proofs.Common.{◌≡◌, ◌++◌, List, [], ◌∷◌, refl, sym, ap, ◌∙◌, append_assoc}
use Rattle.forms.specs.Printing.{Plain, lines_of, plain_text, plains_from}

pub lines_both : (ps qs : List Plain)
    → lines_of (plains_from (ps ++ qs)) ≡ lines_of (plains_from ps) ++ lines_of (plains_from qs)
lines_both [] qs = refl
lines_both (p ∷ ps) qs =
    ap (λ l. plain_text p ++ 10 ∷ l) (lines_both ps qs)
    ∙ sym (append_assoc (plain_text p) (10 ∷ lines_of (plains_from ps)) (lines_of (plains_from qs)))
