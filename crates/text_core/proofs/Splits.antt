-- One byte more of a text of lines.
use Rattle.std.proofs.Common.{◌≡◌, ℕ, zero, suc, ◌+◌, ◌<◌, ◌≤◌, List, [], ◌∷◌, ◌++◌, length, take, get_or, refl, sym, ap, ◌∙◌, subst, arith, append_assoc, append-nil, length-append, length-take, Bool, true, false, ◌==◌}
use Rattle.std.specs.List.{list_all, AllByRecursion}
use Rattle.std.proofs.lemmas.Bool.Decides.{nat_tests}
use Rattle.std.proofs.lemmas.List.{take_more}
use Rattle.std.proofs.lemmas.List.Folds.{list_all-append}
use Rattle.text_core.specs.Lines.{Line, IsLineWord, IsLine, last, word, AreLines, none, line, HasLines, IsBehind, IsBefore, HasEmptyWord, IsBadByte, IsBadLine, IsFirstLineFault, bad_byte, bad_line, is_printed, is_line_byte, line_length, text_length}
use Rattle.text_core.specs.Lines as lines
use Rattle.text_core.specs.LineIndex.{IsSplitTo, AreLineBytes, spaced, word_places, all_words, first_words}
use Rattle.text_core.proofs.Cuts.{both_true}
use Rattle.text_core.proofs.Indexes.{length-all, length-text, length-word_places, line_length-append}
use Rattle.text_core.proofs.LinesIn.{not_feed, no_feed, no_feed_more, body_of}

-- one line more
lines_more : (place at : ℕ) (ls : List Line) (ws : List (List ℕ)) (front t : List ℕ) → AreLines place ls front → IsLine ws t → at ≡ place + length front → AreLines place (ls ++ (record { place = at; words = ws }) ∷ []) (front ++ t)
lines_more place at ls ws front t none each is =
    let same : place ≡ at = omega arith in
    subst (λ (n : ℕ). AreLines place ((record { place = n; words = ws }) ∷ []) t) same (line t [] each none (sym (append-nil t)))
lines_more place at ls ws front t (line {lines = more} first rest one others cut) each is =
    line first (rest ++ t) one (lines_more (place + length first) at more ws rest t others each (omega (arith, is, ap length cut, length-append first rest))) (ap (λ zs. zs ++ t) cut ∙ append_assoc first rest t)

line_done : (done : List (List ℕ)) (part : List ℕ) → AllByRecursion IsLineWord done → IsLineWord part → IsLine (done ++ part ∷ []) (spaced done ++ (part ++ 10 ∷ []))
line_done [] part each is = last is refl
line_done (w ∷ done) part each is =
    word (spaced done ++ (part ++ 10 ∷ [])) each.0 (line_done done part each.1 is) (append_assoc w (32 ∷ spaced done) (part ++ 10 ∷ []))

spaced-more : (done : List (List ℕ)) (w : List ℕ) → spaced (done ++ w ∷ []) ≡ spaced done ++ (w ++ 32 ∷ [])
spaced-more [] w = refl
spaced-more (v ∷ done) w = ap (λ zs. v ++ 32 ∷ zs) (spaced-more done w) ∙ sym (append_assoc v (32 ∷ spaced done) (w ++ 32 ∷ []))

all_more : (done : List (List ℕ)) (w : List ℕ) → AllByRecursion IsLineWord done → IsLineWord w → AllByRecursion IsLineWord (done ++ w ∷ [])
all_more [] w each is = (is, tt)
all_more (v ∷ done) w each is = (each.0, all_more done w each.1 is)

length-spaced : (done : List (List ℕ)) → length (spaced done) ≡ line_length done
length-spaced [] = refl
length-spaced (w ∷ done) = omega (arith, length-append w (32 ∷ spaced done), length-spaced done)

places_more : (place end : ℕ) (ws : List (List ℕ)) (w : List ℕ) → end ≡ place + line_length ws + (length w + 1) → word_places place (ws ++ w ∷ []) ≡ word_places place ws ++ end ∷ []
places_more place end [] w is = let e : place + (length w + 1) ≡ end = omega arith in ap (λ n. place ∷ n ∷ []) e
places_more place end (v ∷ ws) w is = ap (λ zs. place ∷ zs) (places_more (place + (length v + 1)) end ws w (omega arith))

firsts_more : (count end : ℕ) (ls : List Line) (l : Line) → end ≡ count + length (all_words ls) + length l.words → first_words count (ls ++ l ∷ []) ≡ first_words count ls ++ end ∷ []
firsts_more count end [] l is = let e : count + length l.words ≡ end = omega arith in ap (λ n. count ∷ n ∷ []) e
firsts_more count end (k ∷ ls) l is = ap (λ zs. count ∷ zs) (firsts_more (count + length k.words) end ls l (omega (arith, length-append k.words (all_words ls))))

words_more : (ls : List Line) (l : Line) → all_words (ls ++ l ∷ []) ≡ all_words ls ++ l.words
words_more [] l = append-nil l.words
words_more (k ∷ ls) l = ap (λ zs. k.words ++ zs) (words_more ls l) ∙ sym (append_assoc k.words (all_words ls) l.words)

some_firsts : (count : ℕ) (ls : List Line) → 0 < length (first_words count ls)
some_firsts count [] = omega arith
some_firsts count (l ∷ ls) = omega arith

pub last_first : (count first : ℕ) (xs : List ℕ) (ls : List Line) → xs ++ first ∷ [] ≡ first_words count ls → first ≡ count + length (all_words ls)
last_first count first [] [] is = let e : first ≡ count = cc in omega (arith, e)
last_first count first [] (l ∷ ls) is = absurd (omega (arith, ap length is, some_firsts (count + length l.words) ls))
last_first count first (x ∷ xs) [] is = absurd (omega (arith, ap length is, length-append xs (first ∷ [])))
last_first count first (x ∷ xs) (l ∷ ls) is =
    let tail : xs ++ first ∷ [] ≡ first_words (count + length l.words) ls = cc in
    omega (arith, last_first (count + length l.words) first xs ls tail, length-append l.words (all_words ls))

behind_space : (w rest : List ℕ) → IsBehind 32 rest → IsBehind 32 (w ++ 32 ∷ rest)
behind_space w rest lines.front = lines.behind w refl
behind_space w rest (lines.behind more ends) = lines.behind (w ++ 32 ∷ more) (ap (λ zs. w ++ 32 ∷ zs) ends ∙ sym (append_assoc w (32 ∷ more) (32 ∷ [])))

pub behind_spaces : (done : List (List ℕ)) → IsBehind 32 (spaced done)
behind_spaces [] = lines.front
behind_spaces (w ∷ done) = behind_space w (spaced done) (behind_spaces done)

behind_line : (ws : List (List ℕ)) (first rest front : List ℕ) → IsLine ws first → IsBehind 10 rest → front ≡ first ++ rest → IsBehind 10 front
behind_line ws first rest front each lines.front cut =
    let body = body_of ws first each in
    lines.behind body.0 (cut ∙ (append-nil first ∙ body.1.whole))
behind_line ws first rest front each (lines.behind more ends) cut =
    lines.behind (first ++ more) (cut ∙ (ap (λ zs. first ++ zs) ends ∙ sym (append_assoc first more (10 ∷ []))))

pub behind_lines : (place : ℕ) (ls : List Line) (front : List ℕ) → AreLines place ls front → IsBehind 10 front
behind_lines place ls front none = lines.front
behind_lines place ls front (line {words = ws} {lines = more} first rest each others cut) =
    behind_line ws first rest front each (behind_lines (place + length first) more rest others) cut

pub open_feeds : (done : List (List ℕ)) (part : List ℕ) → AllByRecursion IsLineWord done → list_all is_printed part ≡ true → list_all not_feed (spaced done ++ part) ≡ true
open_feeds [] part each is = no_feed part is
open_feeds (w ∷ done) part each is =
    rw (append_assoc w (32 ∷ spaced done) part) (no_feed_more w (spaced done ++ part) each.0.printed (open_feeds done part each.1 is))

-- a list up to its first line feed
pub record IsFeedCut (xs : List ℕ) : Type 0 where
  pub part : List ℕ
  pub behind : List ℕ
  pub whole : xs ≡ part ++ behind
  pub one : list_all not_feed part ≡ true
  pub ends : IsBefore 10 behind

feed_step : (b : ℕ) (xs : List ℕ) (test : Bool) → (b == 10) ≡ test → IsFeedCut xs → IsFeedCut (b ∷ xs)
feed_step b xs true is more = record { part = []; behind = b ∷ xs; whole = refl; one = refl; ends = lines.before xs (let e : b ≡ 10 = grind (arith, nat_tests) in ap (λ c. c ∷ xs) e) }
feed_step b xs false is more = record { part = b ∷ more.part; behind = more.behind; whole = ap (λ zs. b ∷ zs) more.whole; one = rw is more.one; ends = more.ends }

pub feed_cut : (xs : List ℕ) → IsFeedCut xs
feed_cut [] = record { part = []; behind = []; whole = refl; one = refl; ends = lines.end }
feed_cut (b ∷ xs) = feed_step b xs (b == 10) refl (feed_cut xs)

-- Where a text is split up to a place.
module _ (text : List ℕ) (at start_line start : ℕ) (words firsts : List ℕ) (first : ℕ) (split : IsSplitTo text at start_line start words firsts first) where
  module _ (bound : at < length text) where
    byte : ℕ
    byte = get_or text at 0

    taken : take (at + 1) text ≡ split.front ++ (spaced split.done ++ (split.part ++ byte ∷ []))
    unfolding byte
    taken =
        take_more text at 0 bound ∙ (ap (λ zs. zs ++ get_or text at 0 ∷ []) split.whole
        ∙ (append_assoc split.front (spaced split.done ++ split.part) (get_or text at 0 ∷ []) ∙ ap (λ zs. split.front ++ zs) (append_assoc (spaced split.done) split.part (get_or text at 0 ∷ []))))

    at_is : at ≡ length split.front + length (spaced split.done) + length split.part
    at_is = omega (arith, length-take at text, ap length split.whole, length-append split.front (spaced split.done ++ split.part), length-append (spaced split.done) split.part)

    -- a byte of a word
    pub split_byte : is_printed (get_or text at 0) ≡ true → IsSplitTo text (at + 1) start_line start words firsts first
    unfolding byte
    split_byte is = record {
      lines = split.lines;
      front = split.front;
      done = split.done;
      part = split.part ++ get_or text at 0 ∷ [];
      whole = taken;
      lines_are = split.lines_are;
      words_done = split.words_done;
      printed = list_all-append is_printed split.part (get_or text at 0 ∷ []) ∙ rw (split.printed, is) refl;
      line_is = split.line_is;
      start_is = split.start_is;
      words_are = split.words_are;
      firsts_are = split.firsts_are;
    }

    part_word : (at ≡ start → ⊥) → IsLineWord split.part
    part_word apart = record { some = λ none. apart (omega (arith, at_is, split.start_is, ap length none)); printed = split.printed }

    -- where the next word begins
    ended_places : (words' : List ℕ) (start' : ℕ) → words' ≡ words ++ start ∷ [] → start' ≡ at + 1 → words' ++ start' ∷ [] ≡ word_places 0 (all_words split.lines ++ (split.done ++ split.part ∷ []))
    ended_places words' start' is_words is_start =
        let long : start' ≡ 0 + line_length (all_words split.lines ++ split.done) + (length split.part + 1) = omega (arith, is_start, at_is, line_length-append (all_words split.lines) split.done, length-spaced split.done, length-all split.lines, length-text 0 split.lines split.front split.lines_are) in
        ap (λ zs. zs ++ start' ∷ []) (is_words ∙ split.words_are) ∙ (sym (places_more 0 start' (all_words split.lines ++ split.done) split.part long) ∙ ap (word_places 0) (append_assoc (all_words split.lines) split.done (split.part ∷ [])))

    -- a space that ends a word
    pub split_word : (words' : List ℕ) (start' : ℕ) → get_or text at 0 ≡ 32 → (at ≡ start → ⊥) → words' ≡ words ++ start ∷ [] → start' ≡ at + 1 → IsSplitTo text (at + 1) start_line start' words' firsts first
    unfolding byte
    split_word words' start' space apart is_words is_start = record {
      lines = split.lines;
      front = split.front;
      done = split.done ++ split.part ∷ [];
      part = [];
      whole = taken ∙ ap (λ zs. split.front ++ zs) (ap (λ b. spaced split.done ++ (split.part ++ b ∷ [])) space ∙ (sym (spaced-more split.done split.part) ∙ sym (append-nil (spaced (split.done ++ split.part ∷ [])))));
      lines_are = split.lines_are;
      words_done = all_more split.done split.part split.words_done (part_word apart);
      printed = refl;
      line_is = split.line_is;
      start_is = omega (arith, is_start, at_is, ap length (spaced-more split.done split.part), length-append (spaced split.done) (split.part ++ 32 ∷ []), length-append split.part (32 ∷ []));
      words_are = ended_places words' start' is_words is_start;
      firsts_are = split.firsts_are;
    }

    -- a line feed that ends a word and a line
    pub split_line : (line' start' first' : ℕ) (words' firsts' : List ℕ) → get_or text at 0 ≡ 10 → (at ≡ start → ⊥) → words' ≡ words ++ start ∷ [] → start' ≡ at + 1 → firsts' ≡ firsts ++ first ∷ [] → first' ≡ length words' → line' ≡ at + 1 → IsSplitTo text (at + 1) line' start' words' firsts' first'
    unfolding byte
    split_line line' start' first' words' firsts' feed apart is_words is_start is_firsts is_first is_line =
        let more : Line = record { place = length split.front; words = split.done ++ split.part ∷ [] } in
        let ended = spaced split.done ++ (split.part ++ 10 ∷ []) in
        let counted : first' ≡ 0 + length (all_words split.lines) + length (split.done ++ split.part ∷ []) = omega (arith, is_first, ap length is_words, length-append words (start ∷ []), ap length split.words_are, length-word_places 0 (all_words split.lines ++ split.done), length-append (all_words split.lines) split.done, length-append split.done (split.part ∷ [])) in
        record {
          lines = split.lines ++ more ∷ [];
          front = split.front ++ ended;
          done = [];
          part = [];
          whole = taken ∙ (ap (λ b. split.front ++ (spaced split.done ++ (split.part ++ b ∷ []))) feed ∙ sym (append-nil (split.front ++ ended)));
          lines_are = lines_more 0 (length split.front) split.lines (split.done ++ split.part ∷ []) split.front ended split.lines_are (line_done split.done split.part split.words_done (part_word apart)) (omega arith);
          words_done = tt;
          printed = refl;
          line_is = omega (arith, is_line, at_is, length-append split.front ended, length-append (spaced split.done) (split.part ++ 10 ∷ []), length-append split.part (10 ∷ []));
          start_is = omega (arith, is_start, at_is, length-append split.front ended, length-append (spaced split.done) (split.part ++ 10 ∷ []), length-append split.part (10 ∷ []));
          words_are = ended_places words' start' is_words is_start ∙ ap (word_places 0) (sym (words_more split.lines more) ∙ sym (append-nil (all_words (split.lines ++ more ∷ []))));
          firsts_are = ap (λ zs. zs ++ first' ∷ []) (is_firsts ∙ split.firsts_are) ∙ sym (firsts_more 0 first' split.lines more counted);
        }

  pub first_few : first ≤ length words
  first_few =
      omega (arith, last_first 0 first firsts split.lines split.firsts_are, ap length split.words_are, length-append words (start ∷ []), length-word_places 0 (all_words split.lines ++ split.done), length-append (all_words split.lines) split.done)

words_long : (ws : List (List ℕ)) → length ws ≤ line_length ws
words_long [] = omega arith
words_long (w ∷ ws) = omega (arith, words_long ws)

-- there are fewer words before the open line than bytes
pub first_small : (text : List ℕ) (at start_line start : ℕ) (words firsts : List ℕ) (first : ℕ) → IsSplitTo text at start_line start words firsts first → first ≤ length text
first_small text at start_line start words firsts first split =
    omega (arith, last_first 0 first firsts split.lines split.firsts_are, words_long (all_words split.lines), length-all split.lines, length-text 0 split.lines split.front split.lines_are, length-take at text, ap length split.whole, length-append split.front (spaced split.done ++ split.part))

printed_from : (b : ℕ) → is_line_byte b ≡ true → (b ≡ 32 → ⊥) → (b ≡ 10 → ⊥) → is_printed b ≡ true
printed_from b allowed space feed = grind (arith, nat_tests)

-- a byte that is allowed, no space and no line feed
pub printed_byte : (text : List ℕ) (at : ℕ) → AreLineBytes text → at < length text → (get_or text at 0 ≡ 32 → ⊥) → (get_or text at 0 ≡ 10 → ⊥) → is_printed (get_or text at 0) ≡ true
printed_byte [] at allowed bound space feed = absurd (omega arith)
printed_byte (b ∷ bs) zero allowed bound space feed = printed_from b (both_true (is_line_byte b) (list_all is_line_byte bs) allowed).0 space feed
printed_byte (b ∷ bs) (suc at) allowed bound space feed = printed_byte bs at (both_true (is_line_byte b) (list_all is_line_byte bs) allowed).1 (omega arith) space feed

-- the same split, of equal fields
pub kept : (text : List ℕ) (at start_line start_line' start first first' : ℕ) (words firsts firsts' : List ℕ) → start_line' ≡ start_line → firsts' ≡ firsts → first' ≡ first → IsSplitTo text at start_line start words firsts first → IsSplitTo text at start_line' start words firsts' first'
kept text at start_line start_line' start first first' words firsts firsts' is_line is_firsts is_first split =
    subst (λ (n : ℕ). IsSplitTo text at n start words firsts' first') (sym is_line) (subst (λ fs. IsSplitTo text at start_line start words fs first') (sym is_firsts) (subst (λ (n : ℕ). IsSplitTo text at start_line start words firsts n) (sym is_first) split))

-- nothing is split at first
pub split_none : (text words firsts : List ℕ) → words ≡ [] → firsts ≡ [] → IsSplitTo text 0 0 0 words firsts 0
split_none text words firsts no_words no_firsts = record {
  lines = [];
  front = [];
  done = [];
  part = [];
  whole = refl;
  lines_are = none;
  words_done = tt;
  printed = refl;
  line_is = refl;
  start_is = refl;
  words_are = ap (λ zs. zs ++ 0 ∷ []) no_words;
  firsts_are = ap (λ zs. zs ++ 0 ∷ []) no_firsts;
}
