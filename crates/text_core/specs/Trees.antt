-- Trees, and which tokens spell them. Source: this project.
use Rattle.std.specs.Prelude.{ℕ, ◌≡◌, ◌+◌, ◌≤◌, max, List, [], ◌∷◌, ◌++◌}
use Rattle.text_core.specs.Limits.{most_nesting}
use Rattle.text_core.specs.declared.tokens.Token.{Token}
use Rattle.text_core.specs.declared.tokens.TokenKind.{TokenKind}
use Rattle.text_core.specs.declared.tokens.TokenKind.TheVariants as kinds

mutual
  -- a token, or a list of trees and the place of its opening parenthesis
  pub data SexpTree : Type 0 where
    atom : Token → SexpTree
    list : ℕ → SexpTrees → SexpTree

  -- trees, in order
  pub data SexpTrees : Type 0 where
    none : SexpTrees
    more : SexpTree → SexpTrees → SexpTrees

-- a token that is no parenthesis
pub data IsAtom : TokenKind → Type 0 where
  name : IsAtom kinds.Name
  register : IsAtom kinds.Register
  number : {n : ℕ} → IsAtom (kinds.Number n)

mutual
  -- These tokens, all of them, spell the tree: an atom is its token, and a list is its parts between two parentheses.
  pub data Spells : SexpTree → List Token → Type 0 where
    as_atom : {token : Token} {tokens : List Token} → IsAtom token.kind → tokens ≡ token ∷ []
        → Spells (atom token) tokens
    as_list : {place : ℕ} {parts : SexpTrees} {tokens : List Token} (opening closing : Token) (inner : List Token)
        → opening.kind ≡ kinds.Opening → opening.place ≡ place → SpellAll parts inner → closing.kind ≡ kinds.Closing
        → tokens ≡ opening ∷ inner ++ closing ∷ [] → Spells (list place parts) tokens

  -- these tokens spell the trees, one after another
  pub data SpellAll : SexpTrees → List Token → Type 0 where
    no_more : SpellAll none []
    one_more : {tree : SexpTree} {trees : SexpTrees} {tokens : List Token} (front back : List Token)
        → Spells tree front → SpellAll trees back → tokens ≡ front ++ back → SpellAll (more tree trees) tokens

abbrev mutual
  -- how many lists stand inside one another
  pub depth : SexpTree → ℕ
  depth (atom token) = 0
  depth (list place parts) = 1 + most_depth parts

  pub most_depth : SexpTrees → ℕ
  most_depth none = 0
  most_depth (more tree trees) = max (depth tree) (most_depth trees)

-- The tokens spell these trees, and no more than 64 lists stand inside one another.
pub record HasTrees (tokens : List Token) (trees : SexpTrees) : Type 0 where
  pub spelled : SpellAll trees tokens
  pub nested : most_depth trees ≤ most_nesting
