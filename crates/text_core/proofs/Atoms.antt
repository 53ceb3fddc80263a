-- What token a piece is, by its first byte.
use Rattle.std.proofs.Common.{◌≡◌, ℕ, ◌<◌, List, [], ◌∷◌, length, get_or, sym, subst, arith, true, false, ◌==◌}
use Rattle.std.specs.Char.{is_ascii_digit}
use Rattle.text_core.specs.declared.faults.Kind.TheVariants.{BadByte, BadNumber}
use Rattle.text_core.specs.declared.pieces.PieceKind.TheVariants.{White, Comment, Opening, Closing, Atom, Stray}
use Rattle.text_core.specs.declared.tokens.TokenKind.TheVariants as tokens
use Rattle.text_core.specs.Numbers.{IsNumber}
use Rattle.text_core.specs.Pieces.{kind_begun}
use Rattle.text_core.specs.Lexing.{IsToken, IsSkipped, IsFaulty, opening, closing, register, number, name, white, comment, stray, no_number}

pub white_is : (p : List ℕ) → 0 < length p → kind_begun (get_or p 0 0) ≡ White → IsSkipped p
white_is [] some is = absurd (omega arith)
white_is (x ∷ xs) some is = white is

pub comment_is : (p : List ℕ) → 0 < length p → kind_begun (get_or p 0 0) ≡ Comment → IsSkipped p
comment_is [] some is = absurd (omega arith)
comment_is (x ∷ xs) some is = comment is

pub opening_is : (p : List ℕ) → 0 < length p → kind_begun (get_or p 0 0) ≡ Opening → IsToken p tokens.Opening
opening_is [] some is = absurd (omega arith)
opening_is (x ∷ xs) some is = opening is

pub closing_is : (p : List ℕ) → 0 < length p → kind_begun (get_or p 0 0) ≡ Closing → IsToken p tokens.Closing
closing_is [] some is = absurd (omega arith)
closing_is (x ∷ xs) some is = closing is

pub stray_is : (p : List ℕ) → 0 < length p → kind_begun (get_or p 0 0) ≡ Stray → IsFaulty p BadByte
stray_is [] some is = absurd (omega arith)
stray_is (x ∷ xs) some is = stray is

pub register_is : (p : List ℕ) → 0 < length p → get_or p 0 0 ≡ 36 → IsToken p tokens.Register
register_is [] some is = absurd (omega arith)
register_is (x ∷ xs) some is = subst (λ (y : ℕ). IsToken (y ∷ xs) tokens.Register) (sym is) register

pub number_is : (p : List ℕ) → 0 < length p → kind_begun (get_or p 0 0) ≡ Atom → is_ascii_digit (get_or p 0 0) ≡ true → (n : ℕ) → IsNumber p n → IsToken p (tokens.Number n)
number_is [] some atom digit n is = absurd (omega arith)
number_is (x ∷ xs) some atom digit n is = number atom digit is

pub no_number_is : (p : List ℕ) → 0 < length p → kind_begun (get_or p 0 0) ≡ Atom → is_ascii_digit (get_or p 0 0) ≡ true → ((n : ℕ) → IsNumber p n → ⊥) → IsFaulty p BadNumber
no_number_is [] some atom digit never = absurd (omega arith)
no_number_is (x ∷ xs) some atom digit never = no_number atom digit never

pub name_is : (p : List ℕ) → 0 < length p → kind_begun (get_or p 0 0) ≡ Atom → (get_or p 0 0 == 36) ≡ false → is_ascii_digit (get_or p 0 0) ≡ false → IsToken p tokens.Name
name_is [] some atom dollar digit = absurd (omega arith)
name_is (x ∷ xs) some atom dollar digit = name atom dollar digit
