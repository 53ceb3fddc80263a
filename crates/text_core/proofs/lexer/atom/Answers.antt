use Rattle.std.proofs.Common.{◌≡◌, ◌∙◌, sym, arith, false, get_or, ◌==◌}
use Rattle.std.proofs.lemmas.Bool.Decides.{nat_tests}
use Rattle.text_core.proofs.Atoms.{register_is, number_is, no_number_is, name_is}
use Rattle.text_core.proofs.lexer.atom.Goals as goal

pub returns-then-piece-eq36 : goal.returns-then-piece-eq36
returns-then-piece-eq36 c = register_is c.args.piece.now c.requires.some c.if-piece-eq36.true

pub returns-then-not-is_ascii_digit : goal.returns-then-not-is_ascii_digit
returns-then-not-is_ascii_digit c =
    let dollar : (get_or c.args.piece.now 0 0 == 36) ≡ false = grind (arith, nat_tests, c.if-piece-eq36.false) in
    name_is c.args.piece.now c.requires.some c.requires.atom dollar (sym c.is_ascii_digit.ensures.value ∙ c.if-not-is_ascii_digit.true)

pub returns-in-Some : goal.returns-in-Some
returns-in-Some c =
    number_is c.args.piece.now c.requires.some c.requires.atom (sym c.is_ascii_digit.ensures.value ∙ c.if-not-is_ascii_digit.false) c.in-Some.value c.in-Some.ensures.some

pub returns-in-None : goal.returns-in-None
returns-in-None c =
    no_number_is c.args.piece.now c.requires.some c.requires.atom (sym c.is_ascii_digit.ensures.value ∙ c.if-not-is_ascii_digit.false) c.in-None.ensures.none
