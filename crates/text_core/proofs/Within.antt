-- Each token of a text lies within it, and there are no more of them than bytes.
use Rattle.std.proofs.Common.{◌≡◌, ℕ, ◌+◌, ◌<◌, ◌≤◌, List, [], ◌∷◌, ◌++◌, length, take, drop, map, refl, sym, subst, ◌∙◌, ap, arith, length-append, append_assoc}
use Rattle.std.proofs.Math.Seq.{take-append_seam, drop-append_seam}
use Rattle.std.proofs.lemmas.List.{length-map}
use Rattle.std.specs.Prelude.{All}
use Rattle.std.specs.List.{concat}
use Rattle.std.proofs.lemmas.List.Elements.{All-nil, All-cons}
use Rattle.text_core.specs.declared.sexps.Sexp.{Sexp}
use Rattle.text_core.specs.declared.tokens.Token.{Token}
use Rattle.text_core.specs.declared.tokens.TokenKind.{TokenKind}
use Rattle.text_core.specs.Pieces.{Consists}
use Rattle.text_core.specs.Pieces as pieces
use Rattle.text_core.specs.Lexing.{IsToken, IsTokenOf, AreTokens, HasTokens, token_at}
use Rattle.text_core.specs.Sexps.{all_of, sexp_tree, sexp_trees}
use Rattle.text_core.specs.Trees.{SexpTree, Spells, SpellAll, as_atom, as_list, no_more, one_more, HasTrees}
use Rattle.text_core.specs.Lexing as lexing

pieces_make : (text : List ℕ) (ps : List (List ℕ)) (rest : List ℕ) → Consists text ps rest → length text ≡ length (concat ps) + length rest
pieces_make _ _ _ pieces.nothing = omega arith
pieces_make text _ rest (pieces.front {front = f} {after = after} {pieces = ps} same whole more) =
    let e : length after ≡ length (concat ps) + length rest = pieces_make after ps rest more in
    let g : length (f ++ concat ps) ≡ length f + length (concat ps) = length-append f (concat ps) in
    let h : length text ≡ length f + length after = ap length same ∙ length-append f after in
    omega (arith, e, g, h)

abbrev EndsBy : ℕ → Token → Type 0
EndsBy end t = t.place + t.len ≤ end

tokens_end : (place end : ℕ) (ps : List (List ℕ)) (ts : List Token) → AreTokens place ps ts → place + length (concat ps) ≤ end → All (EndsBy end) ts
tokens_end place end _ _ lexing.nothing fits = All-nil (EndsBy end)
tokens_end place end _ ts (lexing.skipped {piece = p} {pieces = ps} skip more) fits =
    let g : length (p ++ concat ps) ≡ length p + length (concat ps) = length-append p (concat ps) in
    tokens_end (place + length p) end ps ts more (omega (arith, g, fits))
tokens_end place end _ _ (lexing.token {piece = p} {pieces = ps} {kind = kind} {tokens = ts} is more) fits =
    let g : length (p ++ concat ps) ≡ length p + length (concat ps) = length-append p (concat ps) in
    All-cons (EndsBy end) (token_at place p kind) ts (omega (arith, g, fits)) (tokens_end (place + length p) end ps ts more (omega (arith, g, fits)))

pub tokens_within : (text : List ℕ) (ts : List Token) → HasTokens text ts → All (λ t. t.place + t.len ≤ length text) ts
tokens_within text ts read = tokens_end 0 (length text) read.pieces ts read.read (let e = pieces_make text read.pieces [] read.consists in omega (arith, e))

-- a piece behind other bytes
pub piece_found : (text before piece after : List ℕ) (place : ℕ) → text ≡ before ++ (piece ++ after) → place ≡ length before → take (length piece) (drop place text) ≡ piece
piece_found text before piece after place whole placed =
    ap (λ xs. take (length piece) (drop place xs)) whole ∙ (ap (λ n. take (length piece) (drop n (before ++ (piece ++ after)))) placed ∙ (ap (take (length piece)) (drop-append_seam before (piece ++ after)) ∙ take-append_seam piece after))

piece_some : (piece : List ℕ) (kind : TokenKind) → IsToken piece kind → 0 < length piece
piece_some [] kind is = elim is [ ]
piece_some (x ∷ xs) kind is = omega arith

token_of : (text before piece after : List ℕ) (place : ℕ) (kind : TokenKind) → text ≡ before ++ (piece ++ after) → place ≡ length before → IsToken piece kind → IsTokenOf text (token_at place piece kind)
token_of text before piece after place kind whole placed is = record {
  some = piece_some piece kind is;
  within = omega (arith, placed, ap length whole, length-append before (piece ++ after), length-append piece after);
  is = subst (λ xs. IsToken xs kind) (sym (piece_found text before piece after place whole placed)) is;
}

each_of : (text before suffix rest : List ℕ) (place : ℕ) (ps : List (List ℕ)) (ts : List Token) → text ≡ before ++ suffix → place ≡ length before → Consists suffix ps rest → AreTokens place ps ts → All (IsTokenOf text) ts
each_of text before suffix rest place ps ts whole placed _ lexing.nothing = All-nil (IsTokenOf text)
each_of text before suffix rest place ps ts whole placed (pieces.front {front = f} {after = after} {pieces = qs} same _ more) (lexing.skipped _ others) =
    each_of text (before ++ f) after rest (place + length f) qs ts (whole ∙ (ap (λ xs. before ++ xs) same ∙ sym (append_assoc before f after))) (omega (arith, placed, length-append before f)) more others
each_of text before suffix rest place ps ts whole placed (pieces.front {front = f} {after = after} {pieces = qs} same _ more) (lexing.token {kind = kind} {tokens = us} is others) =
    All-cons (IsTokenOf text) (token_at place f kind) us (token_of text before f after place kind (whole ∙ ap (λ xs. before ++ xs) same) placed is)
    (each_of text (before ++ f) after rest (place + length f) qs us (whole ∙ (ap (λ xs. before ++ xs) same ∙ sym (append_assoc before f after))) (omega (arith, placed, length-append before f)) more others)

-- each token is that of the bytes at its place
pub each_token : (text : List ℕ) (ts : List Token) → HasTokens text ts → All (IsTokenOf text) ts
each_token text ts read = each_of text [] text [] 0 read.pieces ts refl refl read.consists read.read

fewer : (place : ℕ) (ps : List (List ℕ)) (ts : List Token) → AreTokens place ps ts → length ts ≤ length (concat ps)
fewer place ps ts lexing.nothing = omega arith
fewer place ps ts (lexing.skipped {piece = p} {pieces = qs} _ others) = omega (arith, length-append p (concat qs), fewer (place + length p) qs ts others)
fewer place ps ts (lexing.token {piece = p} {pieces = qs} {kind = kind} {tokens = us} is others) = omega (arith, length-append p (concat qs), piece_some p kind is, fewer (place + length p) qs us others)

-- a text has no more tokens than bytes
pub few_tokens : (text : List ℕ) (ts : List Token) → HasTokens text ts → length ts ≤ length text
few_tokens text ts read = omega (arith, fewer 0 read.pieces ts read.read, pieces_make text read.pieces [] read.consists)

-- trees have no more tokens than their text
tree_some : (tree : SexpTree) (xs : List Token) → Spells tree xs → 0 < length xs
tree_some tree xs (as_atom _ same) = omega (arith, ap length same)
tree_some tree xs (as_list o c inner _ _ _ _ same) = omega (arith, ap length same)

trees_fewer : (sexps : List SexpTree) (xs : List Token) → SpellAll (all_of sexps) xs → length sexps ≤ length xs
trees_fewer [] xs no_more = omega arith
trees_fewer (t ∷ sexps) xs (one_more front back one others same) =
    omega (arith, ap length same, length-append front back, tree_some t front one, trees_fewer sexps back others)

pub few_trees : (sexps : List Sexp) (xs : List Token) → HasTrees xs (sexp_trees sexps) → length sexps ≤ length xs
few_trees sexps xs has = omega (arith, length-map sexps sexp_tree, trees_fewer (map sexp_tree sexps) xs has.spelled)
