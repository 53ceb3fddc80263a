-- By computing the definition.
use Rattle.std.proofs.Common.{◌≡◌, [], ◌∷◌, ◌++◌, codes, refl}
use Rattle.std.specs.Fmt.{digits}
use Rattle.axiom_library.specs.declared.families.Family.TheVariants.{Sums, Halves}
use Rattle.axiom_texts.specs.LibraryText as meant
use Rattle.axiom_texts.proofs.worked.worked_texts.Goals as goal

one_text : meant.library_text (Sums ∷ [])
    ≡ codes "(axiom (x y) (addq x y) (s8addq (srl y 3) (addq x (and y 7))))\n"
unfolding digits
one_text = refl

two_texts : meant.library_text (Halves ∷ Sums ∷ [])
    ≡ codes "(axiom (x y) (addq x y) (addq (addq x (zapnot (s4addq 8192 y) 252)) (sextw y)))\n"
    ++ codes "(axiom (x y) (addq x y) (s8addq (srl y 3) (addq x (and y 7))))\n"
unfolding digits
two_texts = refl

pub returns-clause-text : goal.returns-clause-text
returns-clause-text c = one_text

pub returns-clause-texts : goal.returns-clause-texts
returns-clause-texts c = two_texts
