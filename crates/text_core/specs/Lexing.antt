-- The tokens of a text, and the faults of its bytes. Source: this project.
use Rattle.std.specs.Prelude.{ℕ, ◌≡◌, ◌+◌, ◌<◌, ◌≤◌, take, drop, List, [], ◌∷◌, ◌++◌, length, true, false, ◌==◌}
use Rattle.std.specs.List.{concat}
use Rattle.std.specs.Char.{is_ascii_digit}
use Rattle.text_core.specs.declared.faults.Kind.{Kind}
use Rattle.text_core.specs.declared.faults.Kind.TheVariants.{BadByte, BadNumber}
use Rattle.text_core.specs.declared.pieces.PieceKind.TheVariants.{White, Comment, Opening, Closing, Atom, Stray}
use Rattle.text_core.specs.declared.tokens.Token.{Token}
use Rattle.text_core.specs.declared.tokens.TokenKind.{TokenKind}
use Rattle.text_core.specs.declared.tokens.TokenKind.TheVariants as kinds
use Rattle.text_core.specs.Numbers.{IsNumber}
use Rattle.text_core.specs.Pieces.{kind_begun, IsPiece, Consists}

-- What token a piece is. An atom that begins with a dollar sign is a register, one that begins with a digit is a
-- number.
pub data IsToken : List ℕ → TokenKind → Type 0 where
  opening : {first : ℕ} {more : List ℕ} → kind_begun first ≡ Opening → IsToken (first ∷ more) kinds.Opening
  closing : {first : ℕ} {more : List ℕ} → kind_begun first ≡ Closing → IsToken (first ∷ more) kinds.Closing
  register : {more : List ℕ} → IsToken (36 ∷ more) kinds.Register
  number : {first : ℕ} {more : List ℕ} {n : ℕ} → kind_begun first ≡ Atom → is_ascii_digit first ≡ true
      → IsNumber (first ∷ more) n → IsToken (first ∷ more) (kinds.Number n)
  name : {first : ℕ} {more : List ℕ} → kind_begun first ≡ Atom → (first == 36) ≡ false → is_ascii_digit first ≡ false
      → IsToken (first ∷ more) kinds.Name

-- what is no token, and no fault either
pub data IsSkipped : List ℕ → Type 0 where
  white : {first : ℕ} {more : List ℕ} → kind_begun first ≡ White → IsSkipped (first ∷ more)
  comment : {first : ℕ} {more : List ℕ} → kind_begun first ≡ Comment → IsSkipped (first ∷ more)

-- a byte that begins nothing, and an atom that begins with a digit and is no number
pub data IsFaulty : List ℕ → Kind → Type 0 where
  stray : {first : ℕ} {more : List ℕ} → kind_begun first ≡ Stray → IsFaulty (first ∷ more) BadByte
  no_number : {first : ℕ} {more : List ℕ} → kind_begun first ≡ Atom → is_ascii_digit first ≡ true
      → ((n : ℕ) → IsNumber (first ∷ more) n → ⊥) → IsFaulty (first ∷ more) BadNumber

abbrev pub token_at : ℕ → List ℕ → TokenKind → Token
token_at place piece kind = record { kind = kind; place = place; len = length piece }

-- the tokens of pieces that stand one after another from a place on
pub data AreTokens : ℕ → List (List ℕ) → List Token → Type 0 where
  nothing : {place : ℕ} → AreTokens place [] []
  skipped : {place : ℕ} {piece : List ℕ} {pieces : List (List ℕ)} {tokens : List Token}
      → IsSkipped piece → AreTokens (place + length piece) pieces tokens → AreTokens place (piece ∷ pieces) tokens
  token : {place : ℕ} {piece : List ℕ} {pieces : List (List ℕ)} {kind : TokenKind} {tokens : List Token}
      → IsToken piece kind → AreTokens (place + length piece) pieces tokens
      → AreTokens place (piece ∷ pieces) (token_at place piece kind ∷ tokens)

-- The text consists of pieces whose tokens these are.
pub record HasTokens (text : List ℕ) (tokens : List Token) : Type 0 where
  pub pieces : List (List ℕ)
  pub consists : Consists text pieces []
  pub read : AreTokens 0 pieces tokens

-- A piece of the text is faulty, and this is its place.
pub record IsLexFault (text : List ℕ) (place : ℕ) (kind : Kind) : Type 0 where
  pub before : List (List ℕ)
  pub piece : List ℕ
  pub after : List ℕ
  pub consists : Consists text before (piece ++ after)
  pub whole : IsPiece piece after
  pub faulty : IsFaulty piece kind
  pub placed : place ≡ length (concat before)

-- What a token says of the bytes at its place.
pub record IsTokenOf (text : List ℕ) (one : Token) : Type 0 where
  pub some : 0 < one.len
  pub within : one.place + one.len ≤ length text
  pub is : IsToken (take one.len (drop one.place text)) one.kind
