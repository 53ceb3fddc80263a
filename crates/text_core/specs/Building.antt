-- What has been read of a list of tokens. Source: this project.
use Rattle.std.specs.Prelude.{ℕ, ◌≡◌, ◌+◌, ◌-◌, ◌≤◌, List, [], ◌∷◌, ◌++◌, ◌<◌, length, map, take, slice_get, Some}
use Rattle.text_core.specs.Limits.{most_nesting}
use Rattle.text_core.specs.declared.parser.OpenList.{OpenList}
use Rattle.text_core.specs.declared.parser.Parser.{Parser}
use Rattle.text_core.specs.declared.tokens.Token.{Token}
use Rattle.text_core.specs.declared.tokens.TokenKind.{TokenKind}
use Rattle.text_core.specs.declared.tokens.TokenKind.TheVariants as kinds
use Rattle.text_core.specs.Sexps.{all_of, sexp_tree}
use Rattle.text_core.specs.Trees.{SexpTree, SpellAll}

-- a list that is still open: the place of its parenthesis, and the trees before it
pub record Frame : Type 0 where
  pub place : ℕ
  pub before : List SexpTree

abbrev pub frame_of : OpenList → Frame
frame_of list = record { place = list.place; before = map sexp_tree list.before.items }

-- the tokens up to the parenthesis of the innermost open list
pub data AreOpen : List Frame → List Token → Type 0 where
  closed : AreOpen [] []
  within : {frame : Frame} {frames : List Frame} {tokens : List Token} (front : List Token) (opening : Token)
      (behind : List Token)
      → SpellAll (all_of frame.before) front → opening.kind ≡ kinds.Opening → opening.place ≡ frame.place
      → AreOpen frames behind
      → tokens ≡ front ++ opening ∷ behind → AreOpen (frame ∷ frames) tokens

-- open lists, outermost first, and then the parts so far of the innermost
pub record AreOpenLists (frames : List Frame) (parts : List SexpTree) (tokens : List Token) : Type 0 where
  pub front : List Token
  pub back : List Token
  pub whole : tokens ≡ front ++ back
  pub lists : AreOpen frames front
  pub spelled : SpellAll (all_of parts) back

abbrev pub peak_before : TokenKind → ℕ → ℕ
peak_before kinds.Opening n = n + 1
peak_before kinds.Closing n = n - 1
peak_before _ n = n

-- the most parentheses that stand open at once
abbrev pub peak : List Token → ℕ
peak [] = 0
peak (token ∷ tokens) = peak_before token.kind (peak tokens)

-- The parser has read the first tokens, and no more than 64 parentheses stood open.
pub record IsParsedTo (tokens : List Token) (at : ℕ) (parser : Parser) : Type 0 where
  pub built : AreOpenLists (map frame_of parser.outer.items) (map sexp_tree parser.parts.items) (take at tokens)
  pub nested : peak (take at tokens) ≤ most_nesting

-- how many parentheses stand open behind a token, of those before it
abbrev pub depth_behind : TokenKind → ℕ → ℕ
depth_behind kinds.Opening n = n + 1
depth_behind kinds.Closing n = n - 1
depth_behind _ n = n

-- A parenthesis of this place, among the tokens before another, is still open after more tokens, and so are this many
-- with it.
pub record IsStillOpen (tokens : List Token) (at place index count : ℕ) : Type 0 where
  pub before : List SexpTree
  pub frames : List Frame
  pub parts : List SexpTree
  pub front : List Token
  pub opening : Token
  pub behind : List Token
  pub whole : take index tokens ≡ front ++ opening ∷ behind
  pub early : length front < at
  pub spelled : SpellAll (all_of before) front
  pub opens : opening.kind ≡ kinds.Opening
  pub placed : opening.place ≡ place
  pub built : AreOpenLists frames parts behind
  pub counted : count ≡ 1 + length frames

-- the token of this index is an opening parenthesis
pub record IsOpeningAt (tokens : List Token) (at : ℕ) : Type 0 where
  pub token : Token
  pub found : slice_get tokens at ≡ Some token
  pub opens : token.kind ≡ kinds.Opening
