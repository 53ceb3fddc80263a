-- The bytes of a token that is a name are a name.
use Rattle.std.proofs.Common.{◌≡◌, ℕ, ◌+◌, ◌==◌, ◌||◌, Bool, true, false, not, if◌then◌else◌, List, [], ◌∷◌, ◌++◌, All, length, take, drop, refl, sym, ap, ◌∙◌, subst, arith, length-append, append_assoc}
use Rattle.std.proofs.lemmas.List.Elements.{All-nil, All-cons}
use Rattle.std.specs.Char.{is_ascii_digit}
use Rattle.std.specs.List.{list_all}
use Rattle.text_core.specs.declared.pieces.PieceKind.TheVariants.{White, Comment, Opening, Closing, Atom, Stray}
use Rattle.text_core.specs.declared.tokens.Token.{Token}
use Rattle.text_core.specs.declared.tokens.TokenKind.TheVariants as kinds
use Rattle.text_core.specs.Names.{IsName}
use Rattle.text_core.specs.Pieces.{kind_begun, goes_on, is_white, is_word_byte, Consists, IsPiece}
use Rattle.text_core.specs.Pieces as pieces
use Rattle.text_core.specs.Lexing.{IsToken, AreTokens, HasTokens, token_at}
use Rattle.text_core.specs.Lexing as lexing
use Rattle.text_core.proofs.Within.{piece_found}

-- an atom's first byte is a dollar sign or one that a name may have
chosen : (w c o p d : Bool) → (if w then White else if c then Comment else if o then Opening else if p then Closing else if d then Atom else Stray) ≡ Atom → d ≡ true
chosen false false false false true e = refl
chosen false false false false false e = cc
chosen false false false true d e = cc
chosen false false true p d e = cc
chosen false true o p d e = cc
chosen true c o p d e = cc

either : (a b : Bool) → a || b ≡ true → b ≡ false → a ≡ true
either true b h other = refl
either false true h other = cc
either false false h other = cc

word_first : (b : ℕ) → kind_begun b ≡ Atom → (b == 36) ≡ false → is_word_byte b ≡ true
unfolding kind_begun
word_first b e d =
    either (is_word_byte b) (b == 36) (chosen (is_white b) (b == 59) (b == 40) (b == 41) (is_word_byte b || (b == 36)) e) d

negated : (a : Bool) → a ≡ false → not a ≡ true
negated false h = refl
negated true h = cc

all_more : (b : ℕ) (bs : List ℕ) → is_word_byte b ≡ true → list_all is_word_byte bs ≡ true → list_all is_word_byte (b ∷ bs) ≡ true
all_more b bs one each = cc (one, each)

name_of_piece : (piece rest : List ℕ) → IsPiece piece rest → IsToken piece kinds.Name → IsName piece
name_of_piece _ rest (pieces.piece {first = b} {more = bs} each stopped) (lexing.name atom dollar digit) = record {
  begins = negated (is_ascii_digit b) digit;
  each = all_more b bs (word_first b atom dollar) (subst (λ k. list_all (goes_on k) bs ≡ true) atom each);
}

abbrev IsNamed : List ℕ → Token → Type 0
IsNamed text t = t.kind ≡ kinds.Name → IsName (take t.len (drop t.place text))

named_of : (text before suffix rest : List ℕ) (place : ℕ) (ps : List (List ℕ)) (ts : List Token) → text ≡ before ++ suffix → place ≡ length before → Consists suffix ps rest → AreTokens place ps ts → All (IsNamed text) ts
named_of text before suffix rest place ps ts whole placed _ lexing.nothing = All-nil (IsNamed text)
named_of text before suffix rest place ps ts whole placed (pieces.front {front = f} {after = after} {pieces = qs} same _ more) (lexing.skipped _ others) =
    named_of text (before ++ f) after rest (place + length f) qs ts (whole ∙ (ap (λ xs. before ++ xs) same ∙ sym (append_assoc before f after))) (omega (arith, placed, length-append before f)) more others
named_of text before suffix rest place ps ts whole placed (pieces.front {front = f} {after = after} {pieces = qs} same one more) (lexing.token {kind = kind} {tokens = us} is others) =
    All-cons (IsNamed text) (token_at place f kind) us
    (λ e. subst IsName (sym (piece_found text before f after place (whole ∙ ap (λ xs. before ++ xs) same) placed)) (name_of_piece f after one (subst (IsToken f) e is)))
    (named_of text (before ++ f) after rest (place + length f) qs us (whole ∙ (ap (λ xs. before ++ xs) same ∙ sym (append_assoc before f after))) (omega (arith, placed, length-append before f)) more others)

pub names_are_named : (text : List ℕ) (ts : List Token) → HasTokens text ts → All (IsNamed text) ts
names_are_named text ts read = named_of text [] text [] 0 read.pieces ts refl refl read.consists read.read
