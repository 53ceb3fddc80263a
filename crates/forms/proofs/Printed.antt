-- What was printed lexes and parses back.
use Rattle.std.proofs.Common.{◌≡◌, ℕ, zero, suc, ◌+◌, ◌<◌, ◌≤◌, ◌^◌, ◌==◌, max, Bool, true, false, not, ◌&&◌, List, [], ◌∷◌, ◌++◌, length, take, drop, decimal, refl, sym, ap, ap₂, ◌∙◌, subst, arith, length-append}
use Rattle.std.specs.List.{list_all}
use Rattle.std.specs.Char.{is_ascii_digit, digit_value}
use Rattle.std.specs.Str.Parse.{AllDigits, digits_value}
use Rattle.std.proofs.lemmas.Bool.Decides.{nat_tests}
use Rattle.std.proofs.lemmas.List.{append_assoc}
use Rattle.std.proofs.lemmas.Fmt.{decimal_is_IsNumeral}
use Rattle.std.proofs.lemmas.Str.Parse.{digit_from_value}
use Rattle.text_core.specs.declared.tokens.Token.{Token}
use Rattle.text_core.specs.declared.tokens.TokenKind.{TokenKind}
use Rattle.text_core.specs.declared.tokens.TokenKind.TheVariants as kinds
use Rattle.text_core.specs.Names.{IsName}
use Rattle.text_core.specs.Numbers.{IsNumber, IsBelowLimit}
use Rattle.text_core.specs.Numbers as numbers
use Rattle.text_core.specs.Pieces.{kind_begun, goes_on, is_word_byte, IsStopped, IsPiece, piece, Consists}
use Rattle.text_core.specs.Pieces as pieces
use Rattle.text_core.specs.Lexing.{IsToken, IsSkipped, AreTokens, HasTokens, token_at, skipped, token}
use Rattle.text_core.specs.Lexing as lexing
use Rattle.text_core.specs.Trees.{SexpTree, SexpTrees, IsAtom, Spells, SpellAll, as_atom, as_list, no_more, one_more, HasTrees, depth, most_depth}
use Rattle.text_core.specs.Trees as trees
use Rattle.forms.specs.Forms.{Atom, name, register, number, parenthesis, atom_of, form_of, forms_of}
use Rattle.forms.specs.Reading.{TextHasTrees}
use Rattle.forms.specs.Printing.{Plain, Plains, atom, list, none, more, plain_of, plains_of, atom_text, plain_text, plains_text, others_of, lines_of, register_text, CanPrintAtom, CanPrint, CanPrintAll, levels, most_levels}

-- ---- atoms
word_begins : (b : ℕ) → is_word_byte b ≡ true → kind_begun b ≡ kind_begun 97
unfolding kind_begun
word_begins b h = grind (arith, nat_tests, h)

digit_word : (b : ℕ) → digit_value b < 10 → (is_ascii_digit b ≡ true) × (is_word_byte b ≡ true)
digit_word b h = let r = digit_from_value b h in (grind (arith, nat_tests, r.0, r.1), grind (arith, nat_tests, r.0, r.1))

digits_words : (bs : List ℕ) → AllDigits 10 bs → list_all is_word_byte bs ≡ true
digits_words [] h = refl
digits_words (b ∷ bs) h = ap₂ (λ x y. x && y) (digit_word b h.0).1 (digits_words bs h.1)

no_dollar : (b : ℕ) → is_word_byte b ≡ true → (b == 36) ≡ false
no_dollar b h = grind (arith, nat_tests, h)

goes_word : (first x : ℕ) → kind_begun first ≡ kind_begun 97 → goes_on (kind_begun first) x ≡ is_word_byte x
unfolding kind_begun
goes_word first x e = ap (λ k. goes_on k x) e

name_token : (first : ℕ) (rest : List ℕ) → kind_begun first ≡ kind_begun 97 → (first == 36) ≡ false → is_ascii_digit first ≡ false → IsToken (first ∷ rest) kinds.Name
unfolding kind_begun
name_token first rest e d n = lexing.name e d n

number_token : (first : ℕ) (rest : List ℕ) (n : ℕ) → kind_begun first ≡ kind_begun 97 → is_ascii_digit first ≡ true → IsNumber (first ∷ rest) n → IsToken (first ∷ rest) (kinds.Number n)
unfolding kind_begun
number_token first rest n e d is = lexing.number e d is

opening_token : IsToken (40 ∷ []) kinds.Opening
unfolding kind_begun
opening_token = lexing.opening refl

closing_token : IsToken (41 ∷ []) kinds.Closing
unfolding kind_begun
closing_token = lexing.closing refl

space_skipped : IsSkipped (32 ∷ [])
unfolding kind_begun
space_skipped = lexing.white refl

line_skipped : IsSkipped (10 ∷ [])
unfolding kind_begun
line_skipped = lexing.white refl

-- how an atom's text lexes
record Spelled (a : Atom) : Type 0 where
  pub first : ℕ
  pub rest : List ℕ
  pub kind : TokenKind
  pub text : atom_text a ≡ first ∷ rest
  pub begun : kind_begun first ≡ kind_begun 97
  pub words : list_all is_word_byte rest ≡ true
  pub token : IsToken (first ∷ rest) kind
  pub atom : IsAtom kind
  pub says : atom_of kind (first ∷ rest) ≡ a

number_spelled : (n : ℕ) (bs : List ℕ) → decimal n ≡ bs → (0 < length bs) × AllDigits 10 bs → digits_value 10 bs ≡ n → n < 2 ^ 64 → Spelled (number n)
number_spelled n [] e numeral value small = absurd (omega (arith, numeral.0))
number_spelled n (b ∷ bs) e numeral value small =
    let d = digit_word b numeral.1.0 in
    let is : IsNumber (b ∷ bs) n = subst (IsNumber (b ∷ bs)) value (numbers.decimal (λ x. cc) (record { each = numeral.1; limit = omega (arith, value, small) })) in
    record { first = b; rest = bs; kind = kinds.Number n; text = e; begun = word_begins b d.1; words = digits_words bs numeral.1.1; token = number_token b bs n (word_begins b d.1) d.0 is; atom = trees.number; says = refl }

dollar_begins : kind_begun 36 ≡ kind_begun 97
unfolding kind_begun
dollar_begins = refl

no_name : false ≡ true → ⊥
no_name e = cc

and_left : (a b : Bool) → a && b ≡ true → a ≡ true
and_left true b h = refl
and_left false b h = cc

and_right : (a b : Bool) → a && b ≡ true → b ≡ true
and_right true b h = h
and_right false b h = cc

not_true : (a : Bool) → not a ≡ true → a ≡ false
not_true false h = refl
not_true true h = cc

name_spelled : (bytes : List ℕ) → IsName bytes → Spelled (name bytes)
name_spelled [] h = absurd (no_name h.begins)
name_spelled (first ∷ rest) h =
    let w = and_left (is_word_byte first) (list_all is_word_byte rest) h.each in
    let ws = and_right (is_word_byte first) (list_all is_word_byte rest) h.each in
    let d = not_true (is_ascii_digit first) h.begins in
    record { first = first; rest = rest; kind = kinds.Name; text = refl; begun = word_begins first w; words = ws; token = name_token first rest (word_begins first w) (no_dollar first w) d; atom = trees.name; says = refl }

spelled : (a : Atom) → CanPrintAtom a → Spelled a
spelled (name bytes) h = name_spelled bytes h
spelled (register bytes) (register_text {rest = rest} ws) =
    record { first = 36; rest = rest; kind = kinds.Register; text = refl; begun = dollar_begins; words = ws; token = lexing.register; atom = trees.register; says = refl }
spelled (number n) small = let d = decimal_is_IsNumeral n small in number_spelled n (decimal n) refl d.0 d.1 small
spelled parenthesis h = absurd h

-- ---- places in a text
drop_next : (n : ℕ) (text bs : List ℕ) (b : ℕ) → drop n text ≡ b ∷ bs → drop (n + 1) text ≡ bs
drop_next zero [] bs b e = cc
drop_next zero (x ∷ xs) bs b e = cc
drop_next (suc n) [] bs b e = cc
drop_next (suc n) (x ∷ xs) bs b e = ap (λ m. drop m (x ∷ xs)) (let f : suc n + 1 ≡ suc (n + 1) = omega arith in f) ∙ drop_next n xs bs b e

dropped_all : (xs ys : List ℕ) → drop (length xs) (xs ++ ys) ≡ ys
dropped_all [] ys = refl
dropped_all (x ∷ xs) ys = dropped_all xs ys

taken_all : (xs ys : List ℕ) → take (length xs) (xs ++ ys) ≡ xs
taken_all [] ys = refl
taken_all (x ∷ xs) ys = ap (λ zs. x ∷ zs) (taken_all xs ys)

drop_more : (n : ℕ) (text xs ys : List ℕ) → drop n text ≡ xs ++ ys → drop (n + length xs) text ≡ ys
drop_more n text [] ys e = ap (λ m. drop m text) (let f : n + 0 ≡ n = omega arith in f) ∙ e
drop_more n text (x ∷ xs) ys e =
    ap (λ m. drop m text) (let f : n + suc (length xs) ≡ n + 1 + length xs = omega arith in f) ∙ drop_more (n + 1) text xs ys (drop_next n text (xs ++ ys) x e)

slice_here : (n : ℕ) (text xs ys : List ℕ) → drop n text ≡ xs ++ ys → take (length xs) (drop n text) ≡ xs
slice_here n text xs ys e = ap (λ zs. take (length xs) zs) e ∙ taken_all xs ys

-- ---- one form, and several, before the rest of a text; what follows is given as a continuation
record Lexes (bytes rest : List ℕ) (place : ℕ) : Type 0 where
  pub pieces : List (List ℕ)
  pub tokens : List Token
  pub consists : (later : List (List ℕ)) → Consists rest later [] → Consists (bytes ++ rest) (pieces ++ later) []
  pub read : (later : List (List ℕ)) (after : List Token) → AreTokens (place + length bytes) later after → AreTokens place (pieces ++ later) (tokens ++ after)

record IsPrinted (p : Plain) (rest : List ℕ) (place : ℕ) : Type 0 where
  pub lexes : Lexes (plain_text p) rest place
  pub tree : SexpTree
  pub spells : Spells tree lexes.tokens
  pub deep : depth tree ≡ levels p
  pub form : (text : List ℕ) → drop place text ≡ plain_text p ++ rest → plain_of (form_of text tree) ≡ p

record ArePrinted (bytes : List ℕ) (ps : Plains) (rest : List ℕ) (place : ℕ) : Type 0 where
  pub lexes : Lexes bytes rest place
  pub trees : SexpTrees
  pub spell : SpellAll trees lexes.tokens
  pub deep : most_depth trees ≡ most_levels ps
  pub forms : (text : List ℕ) → drop place text ≡ bytes ++ rest → plains_of (forms_of text trees) ≡ ps

abbrev Stops : List ℕ → Type 0
Stops rest = IsStopped is_word_byte rest

words_stop : (first : ℕ) (rest : List ℕ) → kind_begun first ≡ kind_begun 97 → Stops rest → IsStopped (goes_on (kind_begun first)) rest
words_stop first [] e h = tt
words_stop first (b ∷ bs) e h = goes_word first b e ∙ h

all_same : (f g : ℕ → Bool) (xs : List ℕ) → ((x : ℕ) → f x ≡ g x) → list_all f xs ≡ list_all g xs
all_same f g [] e = refl
all_same f g (x ∷ xs) e = ap₂ (λ a b. a && b) (e x) (all_same f g xs e)

lex_atom : (a : Atom) (rest : List ℕ) (place : ℕ) → Spelled a → Stops rest → IsPrinted (atom a) rest place
lex_atom a rest place s stops =
    let bytes = s.first ∷ s.rest in
    let one : IsPiece bytes rest = piece (all_same (goes_on (kind_begun s.first)) is_word_byte s.rest (λ x. goes_word s.first x s.begun) ∙ s.words) (words_stop s.first rest s.begun stops) in
    record {
      lexes = record {
        pieces = bytes ∷ [];
        tokens = token_at place bytes s.kind ∷ [];
        consists = λ later h. pieces.front (ap (λ bs. bs ++ rest) s.text) one h;
        read = λ later after h. token s.token (subst (λ bs. AreTokens (place + length bs) later after) s.text h);
      };
      tree = trees.atom (token_at place bytes s.kind);
      spells = as_atom s.atom refl;
      deep = refl;
      form = λ text e. ap atom (ap (atom_of s.kind) (slice_here place text bytes rest (e ∙ ap (λ bs. bs ++ rest) s.text)) ∙ s.says);
    }

opening_piece : (rest : List ℕ) → IsPiece (40 ∷ []) rest
unfolding kind_begun
opening_piece [] = piece refl tt
opening_piece (b ∷ bs) = piece refl refl

closing_piece : (rest : List ℕ) → IsPiece (41 ∷ []) rest
unfolding kind_begun
closing_piece [] = piece refl tt
closing_piece (b ∷ bs) = piece refl refl

space_piece : (rest : List ℕ) → IsPiece (32 ∷ []) rest
unfolding kind_begun
space_piece [] = piece refl tt
space_piece (b ∷ bs) = piece refl refl

line_piece : (rest : List ℕ) → IsPiece (10 ∷ []) rest
unfolding kind_begun
line_piece [] = piece refl tt
line_piece (b ∷ bs) = piece refl refl

closed : (bytes rest : List ℕ) → (bytes ++ 41 ∷ []) ++ rest ≡ bytes ++ 41 ∷ rest
closed bytes rest = append_assoc bytes (41 ∷ []) rest

lex_list : (ps : Plains) (rest : List ℕ) (place : ℕ) → ArePrinted (plains_text ps) ps (41 ∷ rest) (place + 1) → IsPrinted (list ps) rest place
lex_list ps rest place h =
    let bytes = plains_text ps in
    let opening = token_at place (40 ∷ []) kinds.Opening in
    let closing = token_at (place + 1 + length bytes) (41 ∷ []) kinds.Closing in
    let total : length (40 ∷ bytes ++ 41 ∷ []) ≡ 1 + length bytes + 1 = (let l = length-append bytes (41 ∷ []) in omega (arith, l)) in
    record {
      lexes = record {
        pieces = (40 ∷ []) ∷ (h.lexes.pieces ++ (41 ∷ []) ∷ []);
        tokens = opening ∷ (h.lexes.tokens ++ closing ∷ []);
        consists = λ later c.
            pieces.front (ap (λ bs. 40 ∷ bs) (closed bytes rest)) (opening_piece (bytes ++ 41 ∷ rest))
            (subst (λ ls. Consists (bytes ++ 41 ∷ rest) ls []) (sym (append_assoc h.lexes.pieces ((41 ∷ []) ∷ []) later))
            (h.lexes.consists ((41 ∷ []) ∷ later) (pieces.front refl (closing_piece rest) c)));
        read = λ later after r.
            token opening_token
            (subst (λ ts. AreTokens (place + 1) ((h.lexes.pieces ++ (41 ∷ []) ∷ []) ++ later) ts) (sym (append_assoc h.lexes.tokens (closing ∷ []) after))
            (subst (λ ls. AreTokens (place + 1) ls (h.lexes.tokens ++ closing ∷ after)) (sym (append_assoc h.lexes.pieces ((41 ∷ []) ∷ []) later))
            (h.lexes.read ((41 ∷ []) ∷ later) (closing ∷ after) (token closing_token
            (subst (λ n. AreTokens n later after) (let e : place + length (40 ∷ bytes ++ 41 ∷ []) ≡ place + 1 + length bytes + 1 = omega (arith, total) in e) r)))));
      };
      tree = trees.list place h.trees;
      spells = as_list opening closing h.lexes.tokens refl refl h.spell refl refl;
      deep = ap (λ n. 1 + n) h.deep;
      form = λ text e. ap list (h.forms text (drop_next place text (bytes ++ 41 ∷ rest) 40 (e ∙ ap (λ bs. 40 ∷ bs) (closed bytes rest))));
    }

lex_none : (rest : List ℕ) (place : ℕ) → ArePrinted [] none rest place
lex_none rest place = record {
  lexes = record { pieces = []; tokens = []; consists = λ later c. c; read = λ later after r. subst (λ n. AreTokens n later after) (let e : place + 0 ≡ place = omega arith in e) r };
  trees = trees.none;
  spell = no_more;
  deep = refl;
  forms = λ text e. refl;
}

-- two one behind the other
abbrev both : (xs ys rest : List ℕ) (place : ℕ) → Lexes xs (ys ++ rest) place → Lexes ys rest (place + length xs) → Lexes (xs ++ ys) rest place
both xs ys rest place one two = record {
  pieces = one.pieces ++ two.pieces;
  tokens = one.tokens ++ two.tokens;
  consists = λ later c.
      subst (λ bs. Consists bs ((one.pieces ++ two.pieces) ++ later) []) (sym (append_assoc xs ys rest))
      (subst (λ ls. Consists (xs ++ (ys ++ rest)) ls []) (sym (append_assoc one.pieces two.pieces later)) (one.consists (two.pieces ++ later) (two.consists later c)));
  read = λ later after r.
      subst (λ ts. AreTokens place ((one.pieces ++ two.pieces) ++ later) ts) (sym (append_assoc one.tokens two.tokens after))
      (subst (λ ls. AreTokens place ls (one.tokens ++ (two.tokens ++ after))) (sym (append_assoc one.pieces two.pieces later))
      (one.read (two.pieces ++ later) (two.tokens ++ after) (two.read later after
      (subst (λ n. AreTokens n later after) (let l = length-append xs ys in let e : place + length (xs ++ ys) ≡ place + length xs + length ys = omega (arith, l) in e) r))));
}

-- a form before others
lex_more : (p : Plain) (ps : Plains) (bytes rest : List ℕ) (place : ℕ) → IsPrinted p (bytes ++ rest) place → ArePrinted bytes ps rest (place + length (plain_text p)) → ArePrinted (plain_text p ++ bytes) (more p ps) rest place
lex_more p ps bytes rest place one others = record {
  lexes = both (plain_text p) bytes rest place one.lexes others.lexes;
  trees = trees.more one.tree others.trees;
  spell = one_more one.lexes.tokens others.lexes.tokens one.spells others.spell refl;
  deep = ap₂ (λ m n. max m n) one.deep others.deep;
  forms = λ text e.
      let at = e ∙ append_assoc (plain_text p) bytes rest in
      ap₂ more (one.form text at) (others.forms text (drop_more place text (plain_text p) (bytes ++ rest) at));
}

-- white space before others
lex_white : (b : ℕ) (ps : Plains) (bytes rest : List ℕ) (place : ℕ) → IsSkipped (b ∷ []) → ((later : List ℕ) → IsPiece (b ∷ []) later) → ArePrinted bytes ps rest (place + 1) → ArePrinted (b ∷ bytes) ps rest place
lex_white b ps bytes rest place is_white one others = record {
  lexes = record {
    pieces = (b ∷ []) ∷ others.lexes.pieces;
    tokens = others.lexes.tokens;
    consists = λ later c. pieces.front refl (one (bytes ++ rest)) (others.lexes.consists later c);
    read = λ later after r. skipped is_white (others.lexes.read later after (subst (λ n. AreTokens n later after) (let e : place + length (b ∷ bytes) ≡ place + 1 + length bytes = omega arith in e) r));
  };
  trees = others.trees;
  spell = others.spell;
  deep = others.deep;
  forms = λ text e. others.forms text (drop_next place text (bytes ++ rest) b e);
}

others_stop : (ps : Plains) (rest : List ℕ) → Stops rest → Stops (others_of ps ++ rest)
others_stop none rest h = h
others_stop (more p ps) rest h = refl

mutual
  lex_plain : (p : Plain) (rest : List ℕ) (place : ℕ) → CanPrint p → Stops rest → IsPrinted p rest place
  lex_plain (atom a) rest place h stops = lex_atom a rest place (spelled a h) stops
  lex_plain (list ps) rest place h stops = lex_list ps rest place (lex_plains ps (41 ∷ rest) (place + 1) h refl)

  lex_plains : (ps : Plains) (rest : List ℕ) (place : ℕ) → CanPrintAll ps → Stops rest → ArePrinted (plains_text ps) ps rest place
  lex_plains none rest place h stops = lex_none rest place
  lex_plains (more p ps) rest place h stops =
      lex_more p ps (others_of ps) rest place (lex_plain p (others_of ps ++ rest) place h.0 (others_stop ps rest stops)) (lex_others ps rest (place + length (plain_text p)) h.1 stops)

  lex_others : (ps : Plains) (rest : List ℕ) (place : ℕ) → CanPrintAll ps → Stops rest → ArePrinted (others_of ps) ps rest place
  lex_others none rest place h stops = lex_none rest place
  lex_others (more p ps) rest place h stops =
      lex_white 32 (more p ps) (plain_text p ++ others_of ps) rest place space_skipped space_piece
      (lex_more p ps (others_of ps) rest (place + 1) (lex_plain p (others_of ps ++ rest) (place + 1) h.0 (others_stop ps rest stops)) (lex_others ps rest (place + 1 + length (plain_text p)) h.1 stops))

lex_lines : (ps : Plains) (place : ℕ) → CanPrintAll ps → ArePrinted (lines_of ps) ps [] place
lex_lines none place h = lex_none [] place
lex_lines (more p ps) place h =
    lex_more p ps (10 ∷ lines_of ps) [] place (lex_plain p ((10 ∷ lines_of ps) ++ []) place h.0 refl)
    (lex_white 10 ps (lines_of ps) [] (place + length (plain_text p)) line_skipped line_piece (lex_lines ps (place + length (plain_text p) + 1) h.1))

nothing_more : {X : Type 0} (xs : List X) → xs ++ [] ≡ xs
nothing_more [] = refl
nothing_more (x ∷ xs) = ap (λ ys. x ∷ ys) (nothing_more xs)

-- The printed lines have these trees, whose forms are those that were printed.
pub lines_read : (ps : Plains) → CanPrintAll ps → most_levels ps ≤ 64 → (ts : SexpTrees) × TextHasTrees (lines_of ps) ts × (plains_of (forms_of (lines_of ps) ts) ≡ ps)
lines_read ps h low =
    let all = lex_lines ps 0 h in
    let lexed : HasTokens (lines_of ps) all.lexes.tokens = record {
      pieces = all.lexes.pieces;
      consists = subst (λ bs. Consists bs all.lexes.pieces []) (nothing_more (lines_of ps)) (subst (λ ls. Consists (lines_of ps ++ []) ls []) (nothing_more all.lexes.pieces) (all.lexes.consists [] pieces.nothing));
      read = subst (λ ls. AreTokens 0 ls all.lexes.tokens) (nothing_more all.lexes.pieces) (subst (λ ts. AreTokens 0 (all.lexes.pieces ++ []) ts) (nothing_more all.lexes.tokens) (all.lexes.read [] [] lexing.nothing));
    } in
    let parsed : HasTrees all.lexes.tokens all.trees = record { spelled = all.spell; nested = omega (arith, all.deep, low) } in
    (all.trees, record { tokens = all.lexes.tokens; lexed = lexed; parsed = parsed }, all.forms (lines_of ps) (sym (nothing_more (lines_of ps))))
