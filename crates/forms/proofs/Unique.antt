-- What the trees of a text are is one thing, and so is its first fault. What text_core says of tokens and of trees is
-- handed in.
use Rattle.std.proofs.Common.{◌≡◌, ℕ, List, All, Contains, length, subst}
use Rattle.std.proofs.lemmas.List.Elements.{All-contains}
use Rattle.forms.proofs.First.{stand_of}
use Rattle.forms.proofs.Views.{trees_are_of}
use Rattle.forms.specs.Forms.{Stand, forms_of}
use Rattle.forms.specs.Reading.{TextHasTrees, IsFirstReadFault, in_bytes, in_tokens, IsNamedToken, IsSexpOf}
use Rattle.text_core.specs.Faults.{IsFirst}
use Rattle.text_core.specs.Lexing.{HasTokens, IsLexFault}
use Rattle.text_core.specs.Nesting.{IsTreeFault, IsFirstTreeFault}
use Rattle.text_core.specs.Places.{ArePlaced, atoms_in_all}
use Rattle.text_core.specs.Sexps.{sexp_trees}
use Rattle.text_core.specs.Trees.{SexpTrees, HasTrees}
use Rattle.text_core.specs.declared.faults.Kind.{Kind}
use Rattle.text_core.specs.declared.sexps.Sexp.{Sexp}
use Rattle.text_core.specs.declared.tokens.Token.{Token}

module _ (one_lexing : (text : List ℕ) (tokens others : List Token) → HasTokens text tokens → HasTokens text others → tokens ≡ others) where
  module _ (one_parsing : (tokens : List Token) (trees others : SexpTrees) → HasTrees tokens trees → HasTrees tokens others → trees ≡ others) where
    pub one_forest : (text : List ℕ) (trees others : SexpTrees) → TextHasTrees text trees → TextHasTrees text others → trees ≡ others
    one_forest text trees others one two =
        let same = one_lexing text two.tokens one.tokens two.lexed one.lexed in
        one_parsing one.tokens trees others one.parsed (subst (λ ts. HasTrees ts others) same two.parsed)

  module _ (no_byte : (text : List ℕ) (tokens : List Token) (place : ℕ) (kind : Kind) → HasTokens text tokens → IsLexFault text place kind → ⊥) where
    module _ (no_paren : (tokens : List Token) (trees : SexpTrees) (index : ℕ) (kind : Kind) → HasTrees tokens trees → IsTreeFault tokens index kind → ⊥) where
      pub no_fault : (text : List ℕ) (trees : SexpTrees) (place : ℕ) (kind : Kind) → TextHasTrees text trees → IsFirstReadFault text place kind → ⊥
      no_fault text trees place kind has (in_bytes first) = no_byte text has.tokens place kind has.lexed first.found
      no_fault text trees place kind has (in_tokens tokens lexed first) =
          let same = one_lexing text has.tokens tokens has.lexed lexed in
          no_paren tokens trees first.index kind (subst (λ ts. HasTrees ts trees) same has.parsed) first.first.found

    module _ (first_byte : (text : List ℕ) (place other : ℕ) (kind another : Kind) → IsFirst (IsLexFault text) place kind → IsFirst (IsLexFault text) other another → (place ≡ other) × (kind ≡ another))
        (first_paren : (tokens : List Token) (place other : ℕ) (kind another : Kind) → IsFirstTreeFault tokens place kind → IsFirstTreeFault tokens other another → (place ≡ other) × (kind ≡ another)) where
      pub one_fault : (text : List ℕ) (place other : ℕ) (kind another : Kind) → IsFirstReadFault text place kind → IsFirstReadFault text other another → (place ≡ other) × (kind ≡ another)
      one_fault text place other kind another (in_bytes first) (in_bytes second) = first_byte text place other kind another first second
      one_fault text place other kind another (in_bytes first) (in_tokens tokens lexed second) = absurd (no_byte text tokens place kind lexed first.found)
      one_fault text place other kind another (in_tokens tokens lexed first) (in_bytes second) = absurd (no_byte text tokens other another lexed second.found)
      one_fault text place other kind another (in_tokens tokens lexed first) (in_tokens others relexed second) =
          let same = one_lexing text others tokens relexed lexed in
          first_paren tokens place other kind another first (subst (λ ts. IsFirstTreeFault ts other another) same second)

module _ (placed : (text : List ℕ) (tokens : List Token) (trees : SexpTrees) → HasTokens text tokens → HasTrees tokens trees → ArePlaced 0 (length text) trees) where
  pub forest_stands : (text : List ℕ) (trees : SexpTrees) → TextHasTrees text trees → Stand 0 (length text) (forms_of text trees)
  forest_stands text trees has = stand_of text trees 0 (length text) (placed text has.tokens trees has.lexed has.parsed)

  module _ (named : (text : List ℕ) (tokens : List Token) → HasTokens text tokens → All (IsNamedToken text) tokens)
      (atoms : (tokens : List Token) (trees : SexpTrees) (token : Token) → HasTrees tokens trees → Contains (atoms_in_all trees) token → Contains tokens token) where
    pub forest_is_of : (text : List ℕ) (sexps : List Sexp) → TextHasTrees text (sexp_trees sexps) → All (IsSexpOf text) sexps
    forest_is_of text sexps has =
        trees_are_of text sexps (placed text has.tokens (sexp_trees sexps) has.lexed has.parsed)
        (λ token at. All-contains (IsNamedToken text) has.tokens token (named text has.tokens has.lexed) (atoms has.tokens (sexp_trees sexps) token has.parsed at))
