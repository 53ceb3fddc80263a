-- The forms of a text can be printed: names are names, numbers are words, and as many lists stand inside one another as
-- in its trees. What text_core says of tokens is handed in.
use Rattle.std.proofs.Common.{◌≡◌, ℕ, ◌+◌, ◌<◌, ◌≤◌, ◌^◌, max, true, List, [], ◌∷◌, ◌++◌, All, length, refl, sym, ap, ap₂, ◌∙◌, subst, arith, length-append, append_assoc}
use Rattle.std.specs.List.{list_all}
use Rattle.std.proofs.lemmas.List.Elements.{All-nil, All-cons, All-head, All-tail}
use Rattle.forms.specs.Forms.{atom_of, form_of, forms_of, token_bytes}
use Rattle.forms.specs.Printing.{CanPrintAtom, CanPrint, CanPrintAll, IsRegisterText, levels, most_levels, plain_of, plains_of, register_text}
use Rattle.forms.specs.Reading.{IsNamedToken, TextHasTrees}
use Rattle.text_core.proofs.Within.{piece_found}
use Rattle.text_core.specs.declared.tokens.Token.{Token}
use Rattle.text_core.specs.declared.tokens.TokenKind.{TokenKind}
use Rattle.text_core.specs.declared.tokens.TokenKind.TheVariants as kinds
use Rattle.text_core.specs.Lexing.{AreTokens, HasTokens, IsToken, IsTokenOf, token_at}
use Rattle.text_core.specs.Lexing as lexing
use Rattle.text_core.specs.Names.{IsName}
use Rattle.text_core.specs.Numbers.{IsNumber}
use Rattle.text_core.specs.Numbers as numbers
use Rattle.text_core.specs.Pieces.{kind_begun, goes_on, is_word_byte, Consists, IsPiece}
use Rattle.text_core.specs.Pieces as pieces
use Rattle.text_core.specs.Trees.{SexpTree, SexpTrees, IsAtom, Spells, SpellAll, as_atom, as_list, no_more, one_more, depth, most_depth}
use Rattle.text_core.specs.Trees as trees

-- ---- registers
word_bytes : (bs : List ℕ) → list_all (goes_on (kind_begun 36)) bs ≡ true → list_all is_word_byte bs ≡ true
unfolding kind_begun
word_bytes bs each = each

register_of_piece : (piece rest : List ℕ) → IsPiece piece rest → IsToken piece kinds.Register → IsRegisterText piece
register_of_piece _ rest (pieces.piece {more = bs} each stopped) lexing.register = register_text (word_bytes bs each)

abbrev IsDollar : List ℕ → Token → Type 0
IsDollar text t = t.kind ≡ kinds.Register → IsRegisterText (token_bytes text t)

dollars_of : (text before suffix rest : List ℕ) (place : ℕ) (ps : List (List ℕ)) (ts : List Token) → text ≡ before ++ suffix → place ≡ length before → Consists suffix ps rest → AreTokens place ps ts → All (IsDollar text) ts
dollars_of text before suffix rest place ps ts whole placed _ lexing.nothing = All-nil (IsDollar text)
dollars_of text before suffix rest place ps ts whole placed (pieces.front {front = f} {after = after} {pieces = qs} same _ more) (lexing.skipped _ others) =
    dollars_of text (before ++ f) after rest (place + length f) qs ts (whole ∙ (ap (λ xs. before ++ xs) same ∙ sym (append_assoc before f after))) (omega (arith, placed, length-append before f)) more others
dollars_of text before suffix rest place ps ts whole placed (pieces.front {front = f} {after = after} {pieces = qs} same one more) (lexing.token {kind = kind} {tokens = us} is others) =
    All-cons (IsDollar text) (token_at place f kind) us
    (λ e. subst IsRegisterText (sym (piece_found text before f after place (whole ∙ ap (λ xs. before ++ xs) same) placed)) (register_of_piece f after one (subst (IsToken f) e is)))
    (dollars_of text (before ++ f) after rest (place + length f) qs us (whole ∙ (ap (λ xs. before ++ xs) same ∙ sym (append_assoc before f after))) (omega (arith, placed, length-append before f)) more others)

-- ---- what a token's bytes say can be printed
word_of_number : (bytes : List ℕ) (n : ℕ) → IsNumber bytes n → n < 2 ^ 64
word_of_number bytes _ (numbers.decimal some h) = h.limit
word_of_number bytes _ (numbers.hexadecimal same some few h) = h.limit

word_of_token : (bytes : List ℕ) (n : ℕ) → IsToken bytes (kinds.Number n) → n < 2 ^ 64
word_of_token _ n (lexing.number {first = b} {more = bs} atom digit is) = word_of_number (b ∷ bs) n is

says : (kind : TokenKind) (bytes : List ℕ) → (kind ≡ kinds.Name → IsName bytes) → (kind ≡ kinds.Register → IsRegisterText bytes) → IsToken bytes kind → IsAtom kind → CanPrintAtom (atom_of kind bytes)
says _ bytes named dollar is trees.name = named refl
says _ bytes named dollar is trees.register = dollar refl
says _ bytes named dollar is (trees.number {n = n}) = word_of_token bytes n is

abbrev Says : List ℕ → Token → Type 0
Says text t = IsAtom t.kind → CanPrintAtom (atom_of t.kind (token_bytes text t))

-- ---- trees
all_front : {X : Type 0} (P : X → Type 0) (xs ys : List X) → All P (xs ++ ys) → All P xs
all_front P [] ys h = All-nil P
all_front P (x ∷ xs) ys h = All-cons P x xs (All-head P x (xs ++ ys) h) (all_front P xs ys (All-tail P x (xs ++ ys) h))

pub all_back : {X : Type 0} (P : X → Type 0) (xs ys : List X) → All P (xs ++ ys) → All P ys
all_back P [] ys h = h
all_back P (x ∷ xs) ys h = all_back P xs ys (All-tail P x (xs ++ ys) h)

mutual
  tree_prints : (text : List ℕ) (tree : SexpTree) (ts : List Token) → Spells tree ts → All (Says text) ts → CanPrint (plain_of (form_of text tree))
  tree_prints text (trees.atom t) ts (as_atom is same) h = All-head (Says text) t [] (subst (All (Says text)) same h) is
  tree_prints text (trees.list place parts) ts (as_list opening closing inner _ _ spelled _ same) h =
      trees_print text parts inner spelled (all_front (Says text) inner (closing ∷ []) (All-tail (Says text) opening (inner ++ closing ∷ []) (subst (All (Says text)) same h)))

  trees_print : (text : List ℕ) (all : SexpTrees) (ts : List Token) → SpellAll all ts → All (Says text) ts → CanPrintAll (plains_of (forms_of text all))
  trees_print text trees.none ts no_more h = tt
  trees_print text (trees.more tree others) ts (one_more front back one rest same) h =
      let each = subst (All (Says text)) same h in
      (tree_prints text tree front one (all_front (Says text) front back each), trees_print text others back rest (all_back (Says text) front back each))

mutual
  tree_levels : (text : List ℕ) (tree : SexpTree) → levels (plain_of (form_of text tree)) ≡ depth tree
  tree_levels text (trees.atom t) = refl
  tree_levels text (trees.list place parts) = ap (λ n. 1 + n) (trees_levels text parts)

  trees_levels : (text : List ℕ) (all : SexpTrees) → most_levels (plains_of (forms_of text all)) ≡ most_depth all
  trees_levels text trees.none = refl
  trees_levels text (trees.more tree others) = ap₂ (λ m n. max m n) (tree_levels text tree) (trees_levels text others)

module _ (named : (text : List ℕ) (tokens : List Token) → HasTokens text tokens → All (IsNamedToken text) tokens) (each : (text : List ℕ) (tokens : List Token) → HasTokens text tokens → All (IsTokenOf text) tokens) where
  tokens_say : (text : List ℕ) (ts : List Token) → HasTokens text ts → All (Says text) ts
  tokens_say text ts read k d l =
      let names = named text ts read in
      let is = each text ts read in
      let dollars = dollars_of text [] text [] 0 read.pieces ts refl refl read.consists read.read in
      says _ _ (names k d l) (dollars k d l) (is k d l).is

  -- the forms of a text can be printed
  pub text_prints : (text : List ℕ) (all : SexpTrees) → TextHasTrees text all → CanPrintAll (plains_of (forms_of text all)) × (most_levels (plains_of (forms_of text all)) ≤ 64)
  text_prints text all has =
      let low = has.parsed.nested in
      let same = trees_levels text all in
      (trees_print text all has.tokens has.parsed.spelled (tokens_say text has.tokens has.lexed), omega (arith, low, same))
