-- The first fault of a text of lines, and that a text with lines has none.
use Rattle.std.proofs.Common.{◌≡◌, ◌≢◌, ℕ, ◌+◌, ◌<◌, ◌≤◌, ◌^◌, ◌⊎◌, inl, inr, List, [], ◌∷◌, ◌++◌, length, take, drop, get_or, refl, sym, ap, ◌∙◌, subst, arith, append_assoc, append-nil, length-append, length-take, take-append-drop, add-one, drop-cons, true}
use Rattle.std.specs.List.{list_all}
use Rattle.std.proofs.lemmas.Bool.{cases_lt}
use Rattle.std.proofs.lemmas.Bool.Decides.{nat_tests}
use Rattle.std.proofs.lemmas.List.{take_all, drop_all}
use Rattle.std.proofs.lemmas.List.Folds.{list_all-append}
use Rattle.text_core.specs.declared.faults.Kind.{Kind}
use Rattle.text_core.specs.declared.faults.Kind.TheVariants.{BadByte, BadLine}
use Rattle.text_core.specs.Faults.{IsNotBehind, fault_number}
use Rattle.text_core.specs.Lines.{Line, IsLineWord, IsLine, last, word, AreLines, none, line, HasLines, IsBehind, IsBefore, HasEmptyWord, IsBadByte, IsBadLine, IsFirstLineFault, bad_byte, bad_line, is_printed, is_line_byte}
use Rattle.text_core.specs.Lines as lines
use Rattle.text_core.specs.LineIndex.{IsIndex, IsSplitTo, AreLineBytes, IsFirstRefused, spaced, word_places, all_words, lines_in}
use Rattle.text_core.proofs.BadLines.{good_lines, fails_within}
use Rattle.text_core.proofs.Cuts.{both_true, cut_inside}
use Rattle.text_core.proofs.LinesIn.{not_feed, lines_in_are}
use Rattle.text_core.proofs.Outcomes.{first_once}
use Rattle.text_core.proofs.Splits.{feed_cut, behind_spaces, behind_lines, open_feeds}

-- a fault at or behind a place, of the same kind
later : (place index : ℕ) (kind other : Kind) → kind ≡ other → (index < place → ⊥) → IsNotBehind place kind index other
later place index kind other same never =
    elim (cases_lt index place) [
      | inl less ↦ absurd (never less)
      | inr more ↦ elim (cases_lt place index) [ inl less ↦ inl less | inr more' ↦ inr (omega arith, omega (arith, ap fault_number same)) ]
    ]

split_at : (text : List ℕ) (at : ℕ) → at < length text → drop at text ≡ get_or text at 0 ∷ drop (at + 1) text
split_at text at bound = rw add-one (drop-cons text at 0 bound)

-- the first byte that isn't allowed
pub refused_first : (text : List ℕ) (place : ℕ) → IsFirstRefused text place → IsFirstLineFault text place BadByte
refused_first text place refused = bad_byte (record {
  found = record { before = take place text; byte = get_or text place 0; behind = drop (place + 1) text; whole = sym (take-append-drop place text) ∙ ap (λ zs. take place text ++ zs) (split_at text place refused.within); refused = refused.refused; placed = omega (arith, length-take place text, refused.within); named = refl };
  earliest = λ index kind other. later place index BadByte kind (sym other.named) (λ less.
      let found = cut_inside (take place text) (drop place text) other.before other.behind other.byte (take-append-drop place text ∙ other.whole) (omega (arith, length-take place text, refused.within, other.placed)) in
      fails_within is_line_byte other.before found.0 other.byte (subst (λ xs. list_all is_line_byte xs ≡ true) found.1 refused.before) other.refused);
})

none_refused : (text : List ℕ) (place : ℕ) (kind : Kind) → AreLineBytes text → IsBadByte text place kind → ⊥
none_refused text place kind allowed other =
    fails_within is_line_byte other.before other.behind other.byte (subst (λ xs. list_all is_line_byte xs ≡ true) other.whole allowed) other.refused

-- no line among all of a text's lines is bad
no_bad_line : (text front rest : List ℕ) (ls : List Line) (index : ℕ) (kind : Kind) → AreLines 0 ls front → text ≡ front ++ rest → index < length front → IsBadLine text index kind → ⊥
no_bad_line text front rest ls index kind are whole less bad =
    good_lines 0 ls front rest bad.before bad.line bad.behind are (sym whole ∙ bad.whole) (omega (arith, bad.placed)) bad.begins bad.one bad.ends bad.bad

empty_of : (xs : List ℕ) → length xs ≡ 0 → xs ≡ []
empty_of [] zero_long = refl
empty_of (x ∷ xs) zero_long = absurd (omega arith)

no_done : (done : List (List ℕ)) (part : List ℕ) → length (spaced done ++ part) ≡ 0 → done ≡ []
no_done [] part zero_long = refl
no_done (w ∷ done) part zero_long = absurd (omega (arith, length-append (w ++ 32 ∷ spaced done) part, length-append w (32 ∷ spaced done)))

nothing_left : (xs ys : List ℕ) → xs ++ ys ≡ [] → xs ≡ []
nothing_left [] ys zero_long = refl
nothing_left (x ∷ xs) ys zero_long = cc

nothing_right : (xs ys : List ℕ) → xs ++ ys ≡ [] → ys ≡ []
nothing_right [] ys zero_long = zero_long
nothing_right (x ∷ xs) ys zero_long = cc

module _ (text : List ℕ) (at start_line start : ℕ) (words firsts : List ℕ) (first : ℕ) (allowed : AreLineBytes text) (split : IsSplitTo text at start_line start words firsts first) where
  -- the line that is open at a place is bad
  open_line : (more behind : List ℕ) → drop at text ≡ more ++ behind → list_all not_feed more ≡ true → IsBefore 10 behind → (more ++ behind ≡ [] → spaced split.done ++ split.part ≢ []) → (behind ≡ []) ⊎ HasEmptyWord ((spaced split.done ++ split.part) ++ more) → IsFirstLineFault text start_line BadLine
  open_line more behind cut one ends some bad =
      let ahead = spaced split.done ++ split.part in
      let whole : text ≡ split.front ++ ((ahead ++ more) ++ behind) = sym (take-append-drop at text) ∙ (ap (λ zs. zs ++ drop at text) split.whole ∙ (ap (λ zs. (split.front ++ ahead) ++ zs) cut ∙ (append_assoc split.front ahead (more ++ behind) ∙ ap (λ zs. split.front ++ zs) (sym (append_assoc ahead more behind))))) in
      bad_line (λ place kind other. none_refused text place kind allowed other) (record {
        found = record {
          before = split.front;
          line = ahead ++ more;
          behind = behind;
          whole = whole;
          begins = behind_lines 0 split.lines split.front split.lines_are;
          one = list_all-append not_feed ahead more ∙ rw (open_feeds split.done split.part split.words_done split.printed, one) refl;
          ends = ends;
          some = λ empty. some (nothing_right ahead (more ++ behind) (sym (append_assoc ahead more behind) ∙ empty)) (nothing_left ahead (more ++ behind) (sym (append_assoc ahead more behind) ∙ empty));
          bad = bad;
          placed = split.line_is;
          named = refl;
        };
        earliest = λ index kind other. later start_line index BadLine kind (sym other.named) (λ less. no_bad_line text split.front ((ahead ++ more) ++ behind) split.lines index kind split.lines_are whole (omega (arith, split.line_is)) other);
      })

  module _ (bound : at < length text) (same : at ≡ start) where
    no_part : split.part ≡ []
    no_part = empty_of split.part (omega (arith, length-take at text, ap length split.whole, length-append split.front (spaced split.done ++ split.part), length-append (spaced split.done) split.part, split.start_is))

    behind_space : IsBehind 32 (spaced split.done ++ split.part)
    behind_space = rw (no_part, append-nil) (behind_spaces split.done)

    -- a space where a word would begin
    pub space_fault : get_or text at 0 ≡ 32 → IsFirstLineFault text start_line BadLine
    space_fault space =
        let rest = feed_cut (drop (at + 1) text) in
        let cut : drop at text ≡ (32 ∷ rest.part) ++ rest.behind = split_at text at bound ∙ (ap (λ b. b ∷ drop (at + 1) text) space ∙ ap (λ zs. 32 ∷ zs) rest.whole) in
        open_line (32 ∷ rest.part) rest.behind cut rest.one rest.ends (λ empty. cc) (inr (record { left = spaced split.done ++ split.part; right = 32 ∷ rest.part; whole = refl; behind_space = behind_space; before_space = lines.before rest.part refl }))

    -- a line feed where a word would begin
    pub feed_fault : get_or text at 0 ≡ 10 → IsFirstLineFault text start_line BadLine
    feed_fault feed =
        let cut : drop at text ≡ [] ++ (10 ∷ drop (at + 1) text) = split_at text at bound ∙ ap (λ b. b ∷ drop (at + 1) text) feed in
        open_line [] (10 ∷ drop (at + 1) text) cut refl (lines.before (drop (at + 1) text) refl) (λ empty. cc) (inr (record { left = spaced split.done ++ split.part; right = []; whole = refl; behind_space = behind_space; before_space = lines.end }))

  -- the end of the text within a line
  pub end_fault : length text ≤ at → start_line < length text → IsFirstLineFault text start_line BadLine
  end_fault end less =
      let cut : drop at text ≡ [] = drop_all at text end in
      open_line [] [] cut refl lines.end
      (λ _ empty. omega (arith, ap length (sym (take_all at text end) ∙ split.whole), length-append split.front (spaced split.done ++ split.part), ap length empty, split.line_is))
      (inl refl)

  -- the end of the text behind a line
  pub end_index : length text ≤ at → length text ≤ start_line → length text < 2 ^ 29 → IsIndex text (lines_in text) (words ++ start ∷ []) (firsts ++ first ∷ [])
  end_index end more small =
      let whole : text ≡ split.front ++ (spaced split.done ++ split.part) = sym (take_all at text end) ∙ split.whole in
      let nothing : length (spaced split.done ++ split.part) ≡ 0 = omega (arith, ap length whole, length-append split.front (spaced split.done ++ split.part), split.line_is) in
      let done = no_done split.done split.part nothing in
      let text_is : text ≡ split.front = whole ∙ (ap (λ zs. split.front ++ zs) (empty_of (spaced split.done ++ split.part) nothing) ∙ append-nil split.front) in
      let has : HasLines text split.lines = subst (AreLines 0 split.lines) (sym text_is) split.lines_are in
      let seen : split.lines ≡ lines_in text = sym (lines_in_are text split.lines has) in
      subst (λ ls. IsIndex text ls (words ++ start ∷ []) (firsts ++ first ∷ [])) seen
      (record { small = small; lines_are = has; words_are = split.words_are ∙ (ap (λ ws. word_places 0 (all_words split.lines ++ ws)) done ∙ ap (word_places 0) (append-nil (all_words split.lines))); firsts_are = split.firsts_are })

printed_allowed : (b : ℕ) → is_printed b ≡ true → is_line_byte b ≡ true
printed_allowed b is = grind (arith, nat_tests)

allowed_word : (w : List ℕ) → list_all is_printed w ≡ true → list_all is_line_byte w ≡ true
allowed_word [] is = refl
allowed_word (b ∷ w) is =
    let parts = both_true (is_printed b) (list_all is_printed w) is in
    rw (printed_allowed b parts.0) (allowed_word w parts.1)

some_of : (xs : List ℕ) → xs ≢ [] → 0 < length xs
some_of [] some = absurd (some refl)
some_of (x ∷ xs) some = omega arith

-- a text of lines has allowed bytes
allowed_line : (ws : List (List ℕ)) (text : List ℕ) → IsLine ws text → AreLineBytes text
allowed_line ws text (last {word = w} is same) =
    subst AreLineBytes (sym same) (list_all-append is_line_byte w (10 ∷ []) ∙ rw (allowed_word w is.printed) refl)
allowed_line ws text (word {word = w} {words = vs} rest is each same) =
    subst AreLineBytes (sym same) (list_all-append is_line_byte w (32 ∷ rest) ∙ rw (allowed_word w is.printed) (allowed_line vs rest each))

allowed_lines : (place : ℕ) (ls : List Line) (text : List ℕ) → AreLines place ls text → AreLineBytes text
allowed_lines place ls text none = refl
allowed_lines place ls text (line {words = ws} {lines = more} front rest each others same) =
    subst AreLineBytes (sym same) (list_all-append is_line_byte front rest ∙ rw (allowed_line ws front each) (allowed_lines (place + length front) more rest others))

-- a text with lines has no fault
pub no_line_fault : (text : List ℕ) (ls : List Line) (place : ℕ) (kind : Kind) → HasLines text ls → IsFirstLineFault text place kind → ⊥
no_line_fault text ls place kind has (bad_byte first) =
    none_refused text place kind (allowed_lines 0 ls text has) first.found
no_line_fault text ls place kind has (bad_line _ first) =
    let bad = first.found in
    let some : 0 < length (bad.line ++ bad.behind) = some_of (bad.line ++ bad.behind) bad.some in
    no_bad_line text text [] ls place kind has (sym (append-nil text)) (omega (arith, bad.placed, ap length bad.whole, length-append bad.before (bad.line ++ bad.behind), some)) bad

pub line_fault_once : (text : List ℕ) (p q : ℕ) (k l : Kind) → IsFirstLineFault text p k → IsFirstLineFault text q l → (p ≡ q) × (k ≡ l)
line_fault_once text p q k l (bad_byte one) (bad_byte two) = first_once (IsBadByte text) p q k l one two
line_fault_once text p q k l (bad_byte one) (bad_line never two) = absurd (never p k one.found)
line_fault_once text p q k l (bad_line never one) (bad_byte two) = absurd (never q l two.found)
line_fault_once text p q k l (bad_line _ one) (bad_line _ two) = first_once (IsBadLine text) p q k l one two
