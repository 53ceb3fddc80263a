-- The pieces of a text, its tokens and its faults are each one thing.
use Rattle.std.proofs.Common.{◌≡◌, ℕ, ◌+◌, ◌<◌, ◌≤◌, inl, inr, List, [], ◌∷◌, ◌++◌, length, take, drop, get_or, refl, sym, ap, ◌∙◌, subst, arith, true, one-add, take-append-drop, drop-drop, length-take, length-append}
use Rattle.std.specs.List.{list_all, concat}
use Rattle.std.specs.Str.Parse.{digits_value}
use Rattle.std.proofs.lemmas.List.Folds.{concat-append}
use Rattle.text_core.specs.declared.faults.Kind.{Kind}
use Rattle.text_core.specs.declared.pieces.PieceKind.{PieceKind}
use Rattle.text_core.specs.declared.pieces.PieceKind.TheVariants.{Atom}
use Rattle.text_core.specs.declared.tokens.Token.{Token}
use Rattle.text_core.specs.declared.tokens.TokenKind.{TokenKind}
use Rattle.text_core.specs.declared.tokens.TokenKind.TheVariants as tokens
use Rattle.text_core.specs.Faults.{IsFirst, IsNotBehind, fault_number}
use Rattle.text_core.specs.Numbers.{IsNumber, decimal, hexadecimal}
use Rattle.text_core.specs.Pieces as pieces
use Rattle.text_core.specs.Pieces.{kind_begun, goes_on, IsStopped, IsPiece, Consists, front}
use Rattle.text_core.specs.Lexing.{IsToken, IsSkipped, IsFaulty, AreTokens, HasTokens, IsLexFault, token_at, opening, closing, register, number, name, white, comment, stray, no_number, skipped, token}
use Rattle.text_core.specs.Lexing as lexing
use Rattle.text_core.specs.ReadTo.{IsReadTo}
use Rattle.text_core.proofs.Values.{no_decimal_marked}
use Rattle.text_core.proofs.Cuts.{run_once}

-- the piece at the front of a text is one, and so is what follows it
piece_once : (p q rest other : List ℕ) → IsPiece p rest → IsPiece q other → p ++ rest ≡ q ++ other → (p ≡ q) × (rest ≡ other)
piece_once [] q rest other one _ same = elim one [ ]
piece_once (x ∷ xs) [] rest other _ two same = elim two [ ]
piece_once (x ∷ xs) (y ∷ ys) rest other (pieces.piece each stopped) (pieces.piece each' stopped') same =
    let head : y ≡ x = cc in
    let tail : xs ++ rest ≡ ys ++ other = cc in
    let more = run_once (goes_on (kind_begun x)) xs ys rest other each stopped (subst (λ (f : ℕ). list_all (goes_on (kind_begun f)) ys ≡ true) head each') (subst (λ (f : ℕ). IsStopped (goes_on (kind_begun f)) other) head stopped') tail in
    (cc (head, more.0), more.1)

piece_some : (p rest : List ℕ) → IsPiece p rest → 0 < length p
piece_some [] rest one = elim one [ ]
piece_some (x ∷ xs) rest _ = omega arith

-- what goes on after the first byte
pub piece_at : (text after : List ℕ) (n : ℕ) (sort : PieceKind) → 0 < length text → after ≡ drop 1 text → sort ≡ kind_begun (get_or text 0 0) → list_all (goes_on sort) (take n after) ≡ true → IsStopped (goes_on sort) (drop n after) → IsPiece (take (1 + n) text) (drop (1 + n) text)
piece_at [] after n sort some is begins each whole = absurd (omega arith)
piece_at (x ∷ xs) after n sort some is begins each whole =
    let P : List ℕ → Type 0 = λ ys. (list_all (goes_on (kind_begun x)) (take n ys) ≡ true) × IsStopped (goes_on (kind_begun x)) (drop n ys) in
    let Q : PieceKind → Type 0 = λ s. (list_all (goes_on s) (take n after) ≡ true) × IsStopped (goes_on s) (drop n after) in
    let both = subst P is (subst Q begins (each, whole)) in
    rw one-add (pieces.piece both.0 both.1)

number_once : (bytes : List ℕ) (n m : ℕ) → IsNumber bytes n → IsNumber bytes m → n ≡ m
number_once bytes n m (decimal some below) (decimal some' below') = refl
number_once bytes n m (decimal some below) (hexadecimal is some' short below') = absurd (no_decimal_marked bytes _ is below)
number_once bytes n m (hexadecimal is some short below) (decimal some' below') = absurd (no_decimal_marked bytes _ is below')
number_once bytes n m (hexadecimal {digits = ds} is some short below) (hexadecimal {digits = es} is' some' short' below') =
    let same : ds ≡ es = cc in
    ap (digits_value 16) same

dollar_begins : kind_begun 36 ≡ Atom
unfolding kind_begun
dollar_begins = refl

token_once : (p : List ℕ) (k l : TokenKind) → IsToken p k → IsToken p l → k ≡ l
token_once p k l (opening _) (opening _) = refl
token_once p k l (opening e) (closing f) = cc
token_once p k l (opening e) register = cc dollar_begins
token_once p k l (opening e) (number f _ _) = cc
token_once p k l (opening e) (name f _ _) = cc
token_once p k l (closing e) (opening f) = cc
token_once p k l (closing _) (closing _) = refl
token_once p k l (closing e) register = cc dollar_begins
token_once p k l (closing e) (number f _ _) = cc
token_once p k l (closing e) (name f _ _) = cc
token_once p k l register (opening f) = cc dollar_begins
token_once p k l register (closing f) = cc dollar_begins
token_once p k l register register = refl
token_once p k l register (number _ d _) = cc
token_once p k l register (name _ d _) = cc
token_once p k l (number e _ _) (opening f) = cc
token_once p k l (number e _ _) (closing f) = cc
token_once p k l (number _ d _) register = cc
token_once p k l (number _ _ n) (number _ _ m) = ap tokens.Number (number_once p _ _ n m)
token_once p k l (number _ d _) (name _ _ f) = cc
token_once p k l (name e _ _) (opening f) = cc
token_once p k l (name e _ _) (closing f) = cc
token_once p k l (name _ d _) register = cc
token_once p k l (name _ _ d) (number _ f _) = cc
token_once p k l (name _ _ _) (name _ _ _) = refl

skipped_no_token : (p : List ℕ) (k : TokenKind) → IsSkipped p → IsToken p k → ⊥
skipped_no_token p k (white e) (opening f) = cc
skipped_no_token p k (white e) (closing f) = cc
skipped_no_token p k (white e) register = cc dollar_begins
skipped_no_token p k (white e) (number f _ _) = cc
skipped_no_token p k (white e) (name f _ _) = cc
skipped_no_token p k (comment e) (opening f) = cc
skipped_no_token p k (comment e) (closing f) = cc
skipped_no_token p k (comment e) register = cc dollar_begins
skipped_no_token p k (comment e) (number f _ _) = cc
skipped_no_token p k (comment e) (name f _ _) = cc

token_no_fault : (p : List ℕ) (k : TokenKind) (l : Kind) → IsToken p k → IsFaulty p l → ⊥
token_no_fault p k l (opening e) (stray f) = cc
token_no_fault p k l (opening e) (no_number f _ _) = cc
token_no_fault p k l (closing e) (stray f) = cc
token_no_fault p k l (closing e) (no_number f _ _) = cc
token_no_fault p k l register (stray f) = cc dollar_begins
token_no_fault p k l register (no_number _ d _) = cc
token_no_fault p k l (number e _ _) (stray f) = cc
token_no_fault p k l (number {n = n} _ _ is) (no_number _ _ never) = never n is
token_no_fault p k l (name e _ _) (stray f) = cc
token_no_fault p k l (name _ _ d) (no_number _ f _) = cc

skipped_no_fault : (p : List ℕ) (l : Kind) → IsSkipped p → IsFaulty p l → ⊥
skipped_no_fault p l (white e) (stray f) = cc
skipped_no_fault p l (white e) (no_number f _ _) = cc
skipped_no_fault p l (comment e) (stray f) = cc
skipped_no_fault p l (comment e) (no_number f _ _) = cc

fault_once : (p : List ℕ) (k l : Kind) → IsFaulty p k → IsFaulty p l → k ≡ l
fault_once p k l (stray e) (stray f) = refl
fault_once p k l (stray e) (no_number f _ _) = cc
fault_once p k l (no_number e _ _) (stray f) = cc
fault_once p k l (no_number _ _ _) (no_number _ _ _) = refl

consists_once : (text other : List ℕ) (ps qs : List (List ℕ)) → Consists text ps [] → Consists other qs [] → text ≡ other → ps ≡ qs
consists_once text other ps qs pieces.nothing pieces.nothing same = refl
consists_once text other ps qs pieces.nothing (front {front = q} {after = after} is one more) same =
    let some = piece_some q after one in
    absurd (omega (arith, length-append q after, ap length (same ∙ is)))
consists_once text other ps qs (front {front = p} {after = after} is one more) pieces.nothing same =
    let some = piece_some p after one in
    absurd (omega (arith, length-append p after, ap length (sym is ∙ same)))
consists_once text other ps qs (front {front = p} {after = rest} {pieces = ps'} is one more) (front {front = q} {after = rest'} {pieces = qs'} is' one' more') same =
    let once = piece_once p q rest rest' one one' (sym is ∙ same ∙ is') in
    let tails = consists_once rest rest' ps' qs' more more' once.1 in
    cc (once.0, tails)

tokens_once : (place : ℕ) (ps : List (List ℕ)) (ts us : List Token) → AreTokens place ps ts → AreTokens place ps us → ts ≡ us
tokens_once place ps ts us lexing.nothing lexing.nothing = refl
tokens_once place ps ts us (skipped {piece = p} {pieces = more} _ one) (skipped _ two) = tokens_once (place + length p) more ts us one two
tokens_once place ps ts us (skipped {piece = p} e _) (token {kind = k} f _) = absurd (skipped_no_token p k e f)
tokens_once place ps ts us (token {piece = p} {kind = k} f _) (skipped e _) = absurd (skipped_no_token p k e f)
tokens_once place ps ts us (token {piece = p} {pieces = more} {kind = k} {tokens = ts'} e one) (token {kind = l} {tokens = us'} f two) =
    cc (token_once p k l e f, tokens_once (place + length p) more ts' us' one two)

-- a text has one list of tokens at most
pub one_list : (text : List ℕ) (ts us : List Token) → HasTokens text ts → HasTokens text us → ts ≡ us
one_list text ts us one two =
    let same = consists_once text text one.pieces two.pieces one.consists two.consists refl in
    tokens_once 0 two.pieces ts us (subst (λ (ps : List (List ℕ)). AreTokens 0 ps ts) same one.read) two.read

-- one more piece of a text
consists_more : (text rest after p : List ℕ) (ps : List (List ℕ)) → Consists text ps rest → rest ≡ p ++ after → IsPiece p after → Consists text (ps ++ p ∷ []) after
consists_more text rest after p ps pieces.nothing is one = front is one pieces.nothing
consists_more text rest after p ps (front {after = behind} {pieces = qs} is' one' more) is one =
    front is' one' (consists_more behind rest after p qs more is one)

place_more : (place : ℕ) (p : List ℕ) (ps : List (List ℕ)) → place + length p + length (concat ps) ≡ place + length (concat (p ∷ ps))
place_more place p ps = omega (arith, length-append p (concat ps))

tokens_skip : (place : ℕ) (p : List ℕ) (ps : List (List ℕ)) (ts : List Token) → AreTokens place ps ts → IsSkipped p → AreTokens place (ps ++ p ∷ []) ts
tokens_skip place p ps ts lexing.nothing e = skipped e lexing.nothing
tokens_skip place p ps ts (skipped {piece = q} {pieces = qs} f more) e = skipped f (tokens_skip (place + length q) p qs ts more e)
tokens_skip place p ps ts (token {piece = q} {pieces = qs} {tokens = us} f more) e = token f (tokens_skip (place + length q) p qs us more e)

tokens_more : (place at : ℕ) (p : List ℕ) (ps : List (List ℕ)) (ts : List Token) (kind : TokenKind) → AreTokens place ps ts → IsToken p kind → at ≡ place + length (concat ps) → AreTokens place (ps ++ p ∷ []) (ts ++ token_at at p kind ∷ [])
tokens_more place at p ps ts kind lexing.nothing e is =
    let same : place ≡ at = omega arith in
    subst (λ (n : ℕ). AreTokens place (p ∷ []) (token_at n p kind ∷ [])) same (token e lexing.nothing)
tokens_more place at p ps ts kind (skipped {piece = q} {pieces = qs} f more) e is =
    skipped f (tokens_more (place + length q) at p qs ts kind more e (is ∙ sym (place_more place q qs)))
tokens_more place at p ps ts kind (token {piece = q} {pieces = qs} {tokens = us} f more) e is =
    token f (tokens_more (place + length q) at p qs us kind more e (is ∙ sym (place_more place q qs)))

-- A text that is read up to a place goes on with a piece.
module _ (text rest : List ℕ) (at len : ℕ) (ts : List Token) (read : IsReadTo text at ts) (same : rest ≡ drop at text) (one : IsPiece (take len rest) (drop len rest)) (within : len ≤ length rest) where
  behind : drop len rest ≡ drop (at + len) text
  behind = ap (drop len) same ∙ drop-drop len at text

  seam : drop at text ≡ take len rest ++ drop (at + len) text
  seam = sym same ∙ sym (take-append-drop len rest) ∙ ap (λ ys. take len rest ++ ys) behind

  piece_here : IsPiece (take len rest) (drop (at + len) text)
  piece_here = subst (λ ys. IsPiece (take len rest) ys) behind one

  piece_length : length (take len rest) ≡ len
  piece_length = omega (arith, length-take len rest)

  next_place : at + len ≡ length (concat (read.pieces ++ take len rest ∷ []))
  next_place = omega (arith, piece_length, read.placed, ap length (concat-append read.pieces (take len rest ∷ [])), length-append (concat read.pieces) (take len rest ++ []), length-append (take len rest) [])

  pub read_skip : IsSkipped (take len rest) → IsReadTo text (at + len) ts
  read_skip e = record {
    pieces = read.pieces ++ take len rest ∷ [];
    consists = consists_more text (drop at text) (drop (at + len) text) (take len rest) read.pieces read.consists seam piece_here;
    read = tokens_skip 0 (take len rest) read.pieces ts read.read e;
    placed = next_place;
  }

  pub read_token : (kind : TokenKind) → IsToken (take len rest) kind → IsReadTo text (at + len) (ts ++ (record { kind = kind; place = at; len = len }) ∷ [])
  read_token kind e = record {
    pieces = read.pieces ++ take len rest ∷ [];
    consists = consists_more text (drop at text) (drop (at + len) text) (take len rest) read.pieces read.consists seam piece_here;
    read = subst (λ (n : ℕ). AreTokens 0 (read.pieces ++ take len rest ∷ []) (ts ++ (record { kind = kind; place = at; len = n }) ∷ [])) piece_length (tokens_more 0 at (take len rest) read.pieces ts kind read.read e (omega (arith, read.placed)));
    placed = next_place;
  }

read_no_fault : (place : ℕ) (p : List ℕ) (ps : List (List ℕ)) (ts : List Token) (kind : Kind) → AreTokens place (p ∷ ps) ts → IsFaulty p kind → ⊥
read_no_fault place p ps ts kind (skipped e _) fault = skipped_no_fault p kind e fault
read_no_fault place p ps ts kind (token {kind = k} e _) fault = token_no_fault p k kind e fault

tokens_tail : (place : ℕ) (p : List ℕ) (ps : List (List ℕ)) (ts : List Token) → AreTokens place (p ∷ ps) ts → (us : List Token) × AreTokens (place + length p) ps us
tokens_tail place p ps ts (skipped _ more) = (ts, more)
tokens_tail place p ps ts (token {tokens = us} _ more) = (us, more)

-- where the pieces so far are read, a faulty piece comes behind them
faults_behind : (text other rest behind p after : List ℕ) (ps qs : List (List ℕ)) (place : ℕ) (ts : List Token) (kind : Kind) → Consists text ps rest → AreTokens place ps ts → Consists other qs behind → text ≡ other → behind ≡ p ++ after → IsPiece p after → IsFaulty p kind
    → (ms : List (List ℕ)) × Consists rest ms behind × (length (concat qs) ≡ length (concat ps) + length (concat ms))
faults_behind text other rest behind p after ps qs place ts kind pieces.nothing _ two same is one fault =
    (qs, subst (λ ys. Consists ys qs behind) (sym same) two, omega arith)
faults_behind text other rest behind p after ps qs place ts kind (front {front = q} {after = next} is' one' more) tokens pieces.nothing same is one fault =
    let once = piece_once q p next after one' one (sym is' ∙ same ∙ is) in
    absurd (read_no_fault place q _ ts kind tokens (subst (λ ys. IsFaulty ys kind) (sym once.0) fault))
faults_behind text other rest behind p after ps qs place ts kind (front {front = q} {after = next} {pieces = ps'} is' one' more) tokens (front {front = q'} {after = next'} {pieces = qs'} is'' one'' more') same is one fault =
    let once = piece_once q q' next next' one' one'' (sym is' ∙ same ∙ is'') in
    let us = tokens_tail place q ps' ts tokens in
    let found = faults_behind next next' rest behind p after ps' qs' (place + length q) us.0 kind more us.1 more' once.1 is one fault in
    (found.0, found.1, omega (arith, length-append q (concat ps'), length-append q' (concat qs'), ap length once.0, found.2))

-- pieces before a faulty one: none, or some with a byte
faulty_place : (rest behind p q after after' : List ℕ) (ms : List (List ℕ)) (kind kind' : Kind) (at place : ℕ) → rest ≡ p ++ after → IsPiece p after → IsFaulty p kind → Consists rest ms behind → behind ≡ q ++ after' → IsPiece q after' → IsFaulty q kind' → place ≡ at + length (concat ms)
    → IsNotBehind at kind place kind'
faulty_place rest behind p q after after' ms kind kind' at place is one fault pieces.nothing is' one' fault' placed =
    let once = piece_once p q after after' one one' (sym is ∙ is') in
    let same = fault_once q kind kind' (subst (λ ys. IsFaulty ys kind) once.0 fault) fault' in
    inr (omega arith, omega (arith, ap fault_number same))
faulty_place rest behind p q after after' ms kind kind' at place is one fault (front {front = m} {after = next} {pieces = ms'} _ some _) is' one' fault' placed =
    inl (omega (arith, piece_some m next some, length-append m (concat ms')))

-- the faulty piece at a place up to which a text is read is the first fault
pub first_fault : (text rest : List ℕ) (at len : ℕ) (ts : List Token) (kind : Kind) → IsReadTo text at ts → rest ≡ drop at text → IsPiece (take len rest) (drop len rest) → IsFaulty (take len rest) kind → IsFirst (IsLexFault text) at kind
first_fault text rest at len ts kind read same one fault =
    let p = take len rest in
    let after = drop len rest in
    let is : drop at text ≡ p ++ after = sym same ∙ sym (take-append-drop len rest) in
    record {
      found = record { before = read.pieces; piece = p; after = after; consists = subst (Consists text read.pieces) is read.consists; whole = one; faulty = fault; placed = read.placed };
      earliest = λ place kind' other.
          let found = faults_behind text text (drop at text) (other.piece ++ other.after) other.piece other.after read.pieces other.before 0 ts kind' read.consists read.read other.consists refl refl other.whole other.faulty in
          faulty_place (drop at text) (other.piece ++ other.after) p other.piece after other.after found.0 kind kind' at place is one fault found.1 refl other.whole other.faulty (omega (arith, found.2, other.placed, read.placed));
    }

nothing_behind : (ms : List (List ℕ)) (behind : List ℕ) → Consists [] ms behind → 0 < length behind → ⊥
nothing_behind ms behind pieces.nothing some = omega arith
nothing_behind ms behind (front {front = m} {after = after} is one _) some = omega (arith, piece_some m after one, length-append m after, ap length is)

-- a text with tokens has no fault
pub no_fault : (text : List ℕ) (ts : List Token) (place : ℕ) (kind : Kind) → HasTokens text ts → IsLexFault text place kind → ⊥
no_fault text ts place kind has fault =
    let found = faults_behind text text [] (fault.piece ++ fault.after) fault.piece fault.after has.pieces fault.before 0 ts kind has.consists has.read fault.consists refl refl fault.whole fault.faulty in
    let some = piece_some fault.piece fault.after fault.whole in
    nothing_behind found.0 (fault.piece ++ fault.after) found.1 (omega (arith, length-append fault.piece fault.after))

pub read_none : (text : List ℕ) → IsReadTo text 0 []
read_none text = record { pieces = []; consists = pieces.nothing; read = lexing.nothing; placed = refl }

pub no_first_fault : (text : List ℕ) (ts : List Token) (place : ℕ) (kind : Kind) → HasTokens text ts → IsFirst (IsLexFault text) place kind → ⊥
no_first_fault text ts place kind has first = no_fault text ts place kind has first.found
