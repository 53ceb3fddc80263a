-- Which trees a text has, and the faults of the passes before its forms are examined. Source: this project.
use Rattle.std.specs.Prelude.{ℕ, ◌≡◌, ◌≤◌, List, Contains, length}
use Rattle.forms.specs.Forms.{token_bytes}
use Rattle.text_core.specs.Faults.{IsFirst}
use Rattle.text_core.specs.Lexing.{HasTokens, IsLexFault}
use Rattle.text_core.specs.Names.{IsName}
use Rattle.text_core.specs.Nesting.{IsFirstTreeFault}
use Rattle.text_core.specs.Places.{IsPlaced, atoms_in}
use Rattle.text_core.specs.Sexps.{sexp_tree}
use Rattle.text_core.specs.Trees.{SexpTree, SexpTrees, HasTrees}
use Rattle.text_core.specs.declared.faults.Kind.{Kind}
use Rattle.text_core.specs.declared.sexps.Sexp.{Sexp}
use Rattle.text_core.specs.declared.tokens.Token.{Token}
use Rattle.text_core.specs.declared.tokens.TokenKind.TheVariants as kinds

-- the text's tokens spell these trees
pub record TextHasTrees (text : List ℕ) (trees : SexpTrees) : Type 0 where
  pub tokens : List Token
  pub lexed : HasTokens text tokens
  pub parsed : HasTrees tokens trees

-- The first fault of the bytes, or, where they have none, of the tokens.
pub data IsFirstReadFault (text : List ℕ) : ℕ → Kind → Type 0 where
  in_bytes : {place : ℕ} {kind : Kind} → IsFirst (IsLexFault text) place kind → IsFirstReadFault text place kind
  in_tokens : {place : ℕ} {kind : Kind} (tokens : List Token)
      → HasTokens text tokens → IsFirstTreeFault tokens place kind → IsFirstReadFault text place kind

-- a token that says it is a name has the bytes of one
abbrev pub IsNamedToken : List ℕ → Token → Type 0
IsNamedToken text token = token.kind ≡ kinds.Name → IsName (token_bytes text token)

-- the tree stands somewhere in the text, its parts one behind the other, and its names are names
pub record IsTreeOf (text : List ℕ) (tree : SexpTree) : Type 0 where
  pub low : ℕ
  pub high : ℕ
  pub within : high ≤ length text
  pub placed : IsPlaced low high tree
  pub named : (token : Token) → Contains (atoms_in tree) token → IsNamedToken text token

unfoldable pub IsSexpOf : List ℕ → Sexp → Type 0
IsSexpOf text sexp = IsTreeOf text (sexp_tree sexp)
