-- How far a text has been read. No public clause rests on this. Source: this project.
use Rattle.std.specs.Prelude.{ℕ, ◌≡◌, List, length, drop}
use Rattle.std.specs.List.{concat}
use Rattle.text_core.specs.declared.tokens.Token.{Token}
use Rattle.text_core.specs.Pieces.{Consists}
use Rattle.text_core.specs.Lexing.{AreTokens}

-- Up to a place, the text consists of pieces whose tokens these are.
pub record IsReadTo (text : List ℕ) (at : ℕ) (tokens : List Token) : Type 0 where
  pub pieces : List (List ℕ)
  pub consists : Consists text pieces (drop at text)
  pub read : AreTokens 0 pieces tokens
  pub placed : at ≡ length (concat pieces)
