-- The faults of parentheses among tokens. Source: this project.
use Rattle.std.specs.Prelude.{ℕ, suc, ◌≡◌, List, ◌∷◌, ◌++◌, length}
use Rattle.text_core.specs.Limits.{most_nesting}
use Rattle.text_core.specs.declared.faults.Kind.{Kind}
use Rattle.text_core.specs.declared.faults.Kind.TheVariants.{Unclosed, Unopened, TooDeep}
use Rattle.text_core.specs.declared.tokens.Token.{Token}
use Rattle.text_core.specs.declared.tokens.TokenKind.TheVariants as kinds
use Rattle.text_core.specs.Faults.{IsFirst}
use Rattle.text_core.specs.Trees.{SexpTrees, SpellAll}

-- the tokens spell trees, so each parenthesis among them has its partner among them
pub record IsBalanced (tokens : List Token) : Type 0 where
  pub trees : SexpTrees
  pub spelled : SpellAll trees tokens

-- The tokens behind an opening parenthesis have its closing one: what stands between the two is balanced.
pub record HasClosing (behind : List Token) : Type 0 where
  pub inner : List Token
  pub closing : Token
  pub rest : List Token
  pub whole : behind ≡ inner ++ closing ∷ rest
  pub closes : closing.kind ≡ kinds.Closing
  pub balanced : IsBalanced inner

-- The tokens before a closing parenthesis have its opening one.
pub record HasOpening (before : List Token) : Type 0 where
  pub front : List Token
  pub opening : Token
  pub inner : List Token
  pub whole : before ≡ front ++ opening ∷ inner
  pub opens : opening.kind ≡ kinds.Opening
  pub balanced : IsBalanced inner

-- At least so many parentheses stand open behind these tokens.
pub data IsInside : ℕ → List Token → Type 0 where
  outside : {before : List Token} → IsInside 0 before
  inside : {n : ℕ} {before : List Token} (opened : HasOpening before) → IsInside n opened.front
      → IsInside (suc n) before

-- what is wrong with a token that stands between these
pub data IsMisplaced : List Token → Token → List Token → Kind → Type 0 where
  unclosed : {before behind : List Token} {token : Token}
      → token.kind ≡ kinds.Opening → (HasClosing behind → ⊥) → IsMisplaced before token behind Unclosed
  unopened : {before behind : List Token} {token : Token}
      → token.kind ≡ kinds.Closing → (HasOpening before → ⊥) → IsMisplaced before token behind Unopened
  too_deep : {before behind : List Token} {token : Token}
      → token.kind ≡ kinds.Opening → IsInside most_nesting before → IsMisplaced before token behind TooDeep

-- the token of this index has a fault of this kind
pub record IsTreeFault (tokens : List Token) (index : ℕ) (kind : Kind) : Type 0 where
  pub before : List Token
  pub token : Token
  pub behind : List Token
  pub whole : tokens ≡ before ++ token ∷ behind
  pub indexed : index ≡ length before
  pub misplaced : IsMisplaced before token behind kind

-- a token at this place has a fault of this kind
pub record IsTreeFaultAt (tokens : List Token) (place : ℕ) (kind : Kind) : Type 0 where
  pub index : ℕ
  pub fault : IsTreeFault tokens index kind
  pub placed : place ≡ fault.token.place

-- The first token that has a fault has one of this kind, none of a lower number, and stands at this place.
pub record IsFirstTreeFault (tokens : List Token) (place : ℕ) (kind : Kind) : Type 0 where
  pub index : ℕ
  pub first : IsFirst (IsTreeFault tokens) index kind
  pub placed : place ≡ first.found.token.place
