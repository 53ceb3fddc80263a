-- What the index of a text of lines says of its lines and words.
use Rattle.std.proofs.Common.{◌≡◌, ◌≢◌, ℕ, zero, suc, ◌+◌, ◌-◌, ◌<◌, ◌≤◌, ◌^◌, List, [], ◌∷◌, ◌++◌, length, take, drop, get_or, refl, sym, ap, ◌∙◌, subst, arith, append_assoc, length-append, one-add, add-one, zero-add}
use Rattle.std.proofs.Math.Seq.{take-append_seam, drop-append-add}
use Rattle.text_core.specs.Lines.{Line, IsLineWord, IsLine, last, word, AreLines, none, line, line_at, line_word, line_length, text_length}
use Rattle.text_core.specs.LineIndex.{IsIndex, word_places, all_words, first_words}

-- words, each with one byte behind it
AreWords : List (List ℕ) → List ℕ → Type 0
AreWords [] text = text ≡ []
AreWords (w ∷ ws) text = IsLineWord w × (sep : ℕ) × (rest : List ℕ) × (text ≡ w ++ sep ∷ rest) × AreWords ws rest

line_words : (ws : List (List ℕ)) (text rest : List ℕ) (more : List (List ℕ)) → IsLine ws text → AreWords more rest → AreWords (ws ++ more) (text ++ rest)
unfolding AreWords
line_words ws text rest more (last {word = w} is same) others =
    (is, 10, rest, ap (λ zs. zs ++ rest) same ∙ append_assoc w (10 ∷ []) rest, others)
line_words ws text rest more (word {word = w} {words = vs} behind is each same) others =
    (is, 32, behind ++ rest, ap (λ zs. zs ++ rest) same ∙ append_assoc w (32 ∷ behind) rest, line_words vs behind rest more each others)

text_words : (place : ℕ) (lines : List Line) (text : List ℕ) → AreLines place lines text → AreWords (all_words lines) text
unfolding AreWords
text_words place lines text none = refl
text_words place lines text (line {words = ws} {lines = ls} front rest each others same) =
    subst (AreWords (ws ++ all_words ls)) (sym same) (line_words ws front rest (all_words ls) each (text_words (place + length front) ls rest others))

-- where words stand
pub length-word_places : (place : ℕ) (ws : List (List ℕ)) → length (word_places place ws) ≡ length ws + 1
length-word_places place [] = omega arith
length-word_places place (w ∷ ws) = omega (arith, length-word_places (place + (length w + 1)) ws)

front_place : (place : ℕ) (ws : List (List ℕ)) → get_or (word_places place ws) 0 0 ≡ place
front_place place [] = refl
front_place place (w ∷ ws) = refl

next_place : (place : ℕ) (ws : List (List ℕ)) (i : ℕ) → i < length ws → get_or (word_places place ws) (suc i) 0 ≡ get_or (word_places place ws) i 0 + (length (get_or ws i []) + 1)
next_place place [] i bound = absurd (omega arith)
next_place place (w ∷ ws) zero bound = front_place (place + (length w + 1)) ws
next_place place (w ∷ ws) (suc i) bound = next_place (place + (length w + 1)) ws i (omega arith)

pub line_length-append : (ws vs : List (List ℕ)) → line_length (ws ++ vs) ≡ line_length ws + line_length vs
line_length-append [] vs = omega arith
line_length-append (w ∷ ws) vs = omega (arith, line_length-append ws vs)

pub length-all : (ls : List Line) → text_length ls ≡ line_length (all_words ls)
length-all [] = refl
length-all (l ∷ ls) = omega (arith, line_length-append l.words (all_words ls), length-all ls)

place_le : (place : ℕ) (ws : List (List ℕ)) (i : ℕ) → i ≤ length ws → get_or (word_places place ws) i 0 ≤ place + line_length ws
place_le place [] zero bound = omega arith
place_le place [] (suc i) bound = absurd (omega arith)
place_le place (w ∷ ws) zero bound = omega arith
place_le place (w ∷ ws) (suc i) bound = omega (arith, place_le (place + (length w + 1)) ws i (omega arith))

-- What stands at a word's place.
pub record IsWordAt (text w : List ℕ) (at : ℕ) : Type 0 where
  pub is : IsLineWord w
  pub some : 0 < length w
  pub found : take (length w) (drop at text) ≡ w
  pub within : at + length w < length text

some_of : (xs : List ℕ) → xs ≢ [] → 0 < length xs
some_of [] some = absurd (some refl)
some_of (x ∷ xs) some = omega arith

shifted : (w v rest : List ℕ) (sep at : ℕ) → IsWordAt rest w at → IsWordAt (v ++ sep ∷ rest) w (length v + 1 + at)
shifted w v rest sep at here =
    let e : length v + (1 + at) ≡ length v + 1 + at = omega arith in
    let behind : drop (length v + 1 + at) (v ++ sep ∷ rest) ≡ drop at rest = rw (← e, drop-append-add v (sep ∷ rest) (1 + at), one-add) refl in
    record { is = here.is; some = here.some; found = rw behind here.found; within = omega (arith, here.within, length-append v (sep ∷ rest)) }

word_here : (place : ℕ) (ws : List (List ℕ)) (text : List ℕ) (i : ℕ) → AreWords ws text → i < length ws → (place ≤ get_or (word_places place ws) i 0) × IsWordAt text (get_or ws i []) (get_or (word_places place ws) i 0 - place)
unfolding AreWords
word_here place [] text i are bound = absurd (omega arith)
word_here place (w ∷ ws) text zero are bound =
    let none : place - place ≡ 0 = omega arith in
    let here : IsWordAt text w 0 = record { is = are.0; some = some_of w are.0.some; found = ap (take (length w)) are.3 ∙ take-append_seam w (are.1 ∷ are.2); within = omega (arith, ap length are.3, length-append w (are.1 ∷ are.2)) } in
    (omega arith, subst (IsWordAt text w) (sym none) here)
word_here place (w ∷ ws) text (suc i) are bound =
    let rest = word_here (place + (length w + 1)) ws are.2 i are.4 (omega arith) in
    let at = get_or (word_places (place + (length w + 1)) ws) i 0 in
    let moved : length w + 1 + (at - (place + (length w + 1))) ≡ at - place = omega (arith, rest.0) in
    (omega (arith, rest.0), subst (λ (t : List ℕ). IsWordAt t (get_or ws i []) (at - place)) (sym are.3) (subst (IsWordAt (w ++ are.1 ∷ are.2) (get_or ws i [])) moved (shifted (get_or ws i []) w are.2 are.1 (at - (place + (length w + 1))) rest.1)))

-- where lines stand among the words
length-first_words : (count : ℕ) (ls : List Line) → length (first_words count ls) ≡ length ls + 1
length-first_words count [] = omega arith
length-first_words count (l ∷ ls) = omega (arith, length-first_words (count + length l.words) ls)

front_first : (count : ℕ) (ls : List Line) → get_or (first_words count ls) 0 0 ≡ count
front_first count [] = refl
front_first count (l ∷ ls) = refl

next_first : (count : ℕ) (ls : List Line) (k : ℕ) → k < length ls → get_or (first_words count ls) (suc k) 0 ≡ get_or (first_words count ls) k 0 + length (line_at ls k).words
next_first count [] k bound = absurd (omega arith)
next_first count (l ∷ ls) zero bound = front_first (count + length l.words) ls
next_first count (l ∷ ls) (suc k) bound = next_first (count + length l.words) ls k (omega arith)

get_or_left : (xs ys : List (List ℕ)) (i : ℕ) → i < length xs → get_or (xs ++ ys) i [] ≡ get_or xs i []
get_or_left [] ys i bound = absurd (omega arith)
get_or_left (x ∷ xs) ys zero bound = refl
get_or_left (x ∷ xs) ys (suc i) bound = get_or_left xs ys i (omega arith)

get_or_right : (xs ys : List (List ℕ)) (i j : ℕ) → i ≡ length xs + j → get_or (xs ++ ys) i [] ≡ get_or ys j []
get_or_right [] ys i j is = let e : i ≡ j = omega arith in ap (λ n. get_or ys n []) e
get_or_right (x ∷ xs) ys zero j is = absurd (omega arith)
get_or_right (x ∷ xs) ys (suc i) j is = get_or_right xs ys i j (omega arith)

-- a word of a line is one of all words
word_among : (count : ℕ) (ls : List Line) (k at : ℕ) → k < length ls → at < length (line_at ls k).words
    → (count ≤ get_or (first_words count ls) k 0) × (get_or (first_words count ls) k 0 + at < count + length (all_words ls)) × (get_or (all_words ls) (get_or (first_words count ls) k 0 + at - count) [] ≡ line_word ls k at)
word_among count [] k at bound in_line = absurd (omega arith)
word_among count (l ∷ ls) zero at bound in_line =
    let e : count + at - count ≡ at = omega arith in
    (omega arith, omega (arith, length-append l.words (all_words ls)), ap (λ n. get_or (l.words ++ all_words ls) n []) e ∙ get_or_left l.words (all_words ls) at in_line)
word_among count (l ∷ ls) (suc k) at bound in_line =
    let rest = word_among (count + length l.words) ls k at (omega arith) in_line in
    let first = get_or (first_words (count + length l.words) ls) k 0 in (
      omega (arith, rest.0),
      omega (arith, rest.1, length-append l.words (all_words ls)),
      get_or_right l.words (all_words ls) (first + at - count) (first + at - (count + length l.words)) (omega (arith, rest.0)) ∙ rest.2,
    )

places_right : (place : ℕ) (xs ys : List (List ℕ)) (i j : ℕ) → i ≡ length xs + j → get_or (word_places place (xs ++ ys)) i 0 ≡ get_or (word_places (place + line_length xs) ys) j 0
places_right place [] ys i j is =
    let e : i ≡ j = omega arith in
    let f : place ≡ place + 0 = omega arith in
    ap (λ n. get_or (word_places place ys) n 0) e ∙ ap (λ n. get_or (word_places n ys) j 0) f
places_right place (x ∷ xs) ys zero j is = absurd (omega arith)
places_right place (x ∷ xs) ys (suc i) j is =
    let f : place + (length x + 1) + line_length xs ≡ place + (length x + 1 + line_length xs) = omega arith in
    places_right (place + (length x + 1)) xs ys i j (omega arith) ∙ ap (λ n. get_or (word_places n ys) j 0) f

length-line : (ws : List (List ℕ)) (text : List ℕ) → IsLine ws text → length text ≡ line_length ws
length-line ws text (last {word = w} is same) = omega (arith, ap length same, length-append w (10 ∷ []))
length-line ws text (word {word = w} {words = vs} rest is each same) = omega (arith, ap length same, length-append w (32 ∷ rest), length-line vs rest each)

line_some : (ws : List (List ℕ)) (text : List ℕ) → IsLine ws text → 0 < length ws
line_some ws text (last _ _) = omega arith
line_some ws text (word _ _ _ _) = omega arith

-- the place of a line is that of its first word, and the last place is where the text ends
line_place : (place count : ℕ) (ls : List Line) (text : List ℕ) (k : ℕ) → AreLines place ls text → k ≤ length ls
    → (count ≤ get_or (first_words count ls) k 0) × (get_or (first_words count ls) k 0 ≤ count + length (all_words ls)) × (k < length ls → get_or (word_places place (all_words ls)) (get_or (first_words count ls) k 0 - count) 0 ≡ (line_at ls k).place) × (k ≡ length ls → get_or (word_places place (all_words ls)) (get_or (first_words count ls) k 0 - count) 0 ≡ place + text_length ls)
line_place place count ls text zero none bound =
    let e : count - count ≡ 0 = omega arith in
    let f : place ≡ place + 0 = omega arith in
    (omega arith, omega arith, λ less. absurd (omega arith), λ end. ap (λ n. get_or (place ∷ []) n 0) e ∙ f)
line_place place count ls text (suc k) none bound = absurd (omega arith)
line_place place count ls text zero (line {words = ws} {lines = more} front rest each others same) bound =
    let e : count - count ≡ 0 = omega arith in
    (omega arith, omega arith, λ less. ap (λ n. get_or (word_places place (ws ++ all_words more)) n 0) e ∙ front_place place (ws ++ all_words more), λ end. absurd (omega arith))
line_place place count ls text (suc k) (line {words = ws} {lines = more} front rest each others same) bound =
    let inner = line_place (place + length front) (count + length ws) more rest k others (omega arith) in
    let first = get_or (first_words (count + length ws) more) k 0 in
    let long = length-line ws front each in
    let moved : get_or (word_places place (ws ++ all_words more)) (first - count) 0 ≡ get_or (word_places (place + length front) (all_words more)) (first - (count + length ws)) 0 =
    places_right place ws (all_words more) (first - count) (first - (count + length ws)) (omega (arith, inner.0)) ∙ ap (λ n. get_or (word_places (place + n) (all_words more)) (first - (count + length ws)) 0) (sym long) in (
      omega (arith, inner.0),
      omega (arith, inner.1, length-append ws (all_words more)),
      λ less. moved ∙ inner.2 (omega arith),
      λ end. let there = inner.3 (omega arith) in omega (arith, moved, there, long),
    )

pub length-text : (place : ℕ) (ls : List Line) (text : List ℕ) → AreLines place ls text → length text ≡ text_length ls
length-text place ls text none = refl
length-text place ls text (line {words = ws} {lines = more} front rest each others same) =
    omega (arith, ap length same, length-append front rest, length-line ws front each, length-text (place + length front) more rest others)

words_fit : (ws : List (List ℕ)) (text : List ℕ) → AreWords ws text → length ws ≤ length text
unfolding AreWords
words_fit [] text are = omega arith
words_fit (w ∷ ws) text are = omega (arith, ap length are.3, length-append w (are.1 ∷ are.2), words_fit ws are.2 are.4)

some_length : (ws : List (List ℕ)) → 0 < length ws → 0 < line_length ws
some_length [] some = absurd (omega arith)
some_length (w ∷ ws) some = omega arith

lines_fit : (place : ℕ) (ls : List Line) (text : List ℕ) → AreLines place ls text → length ls ≤ length text
lines_fit place ls text none = omega arith
lines_fit place ls text (line {words = ws} {lines = more} front rest each others same) =
    omega (arith, ap length same, length-append front rest, length-line ws front each, some_length ws (line_some ws front each), lines_fit (place + length front) more rest others)

line_is : (place : ℕ) (ls : List Line) (text : List ℕ) (k : ℕ) → AreLines place ls text → k < length ls → 0 < length (line_at ls k).words
line_is place ls text k none bound = absurd (omega arith)
line_is place ls text zero (line {words = ws} front rest each others same) bound = line_some ws front each
line_is place ls text (suc k) (line {lines = more} front rest each others same) bound = line_is (place + length front) more rest k others (omega arith)

-- What the code reads from an index.
module _ (text : List ℕ) (ls : List Line) (words firsts : List ℕ) (index : IsIndex text ls words firsts) where
  pub counted : length firsts ≡ length ls + 1
  counted = ap length index.firsts_are ∙ length-first_words 0 ls

  pub few_lines : length ls < 2 ^ 29
  few_lines = omega (arith, index.small, lines_fit 0 ls text index.lines_are)

  pub words_counted : length words ≡ length (all_words ls) + 1
  words_counted = ap length index.words_are ∙ length-word_places 0 (all_words ls)

  pub few_words : length (all_words ls) < 2 ^ 29
  few_words = omega (arith, index.small, words_fit (all_words ls) text (text_words 0 ls text index.lines_are))

  pub first_within : (k : ℕ) → k ≤ length ls → get_or firsts k 0 < length words
  first_within k bound =
      let at = line_place 0 0 ls text k index.lines_are bound in
      omega (arith, words_counted, at.1, ap (λ xs. get_or xs k 0) index.firsts_are)

  place_of : (k : ℕ) → get_or words (get_or firsts k 0) 0 ≡ get_or (word_places 0 (all_words ls)) (get_or (first_words 0 ls) k 0 - 0) 0
  place_of k =
      let e : get_or firsts k 0 ≡ get_or (first_words 0 ls) k 0 - 0 = omega (arith, ap (λ xs. get_or xs k 0) index.firsts_are) in
      ap (λ xs. get_or xs (get_or firsts k 0) 0) index.words_are ∙ ap (λ n. get_or (word_places 0 (all_words ls)) n 0) e

  pub place_is : (k : ℕ) → k < length ls → get_or words (get_or firsts k 0) 0 ≡ (line_at ls k).place
  place_is k bound = place_of k ∙ (line_place 0 0 ls text k index.lines_are (omega arith)).2 bound

  pub end_is : (k : ℕ) → k ≡ length ls → get_or words (get_or firsts k 0) 0 ≡ text_length ls
  end_is k end = place_of k ∙ ((line_place 0 0 ls text k index.lines_are (omega arith)).3 end ∙ zero-add (text_length ls))

  pub place_small : (i : ℕ) → i < length words → get_or words i 0 < 2 ^ 29
  place_small i bound =
      omega (arith, index.small, place_le 0 (all_words ls) i (omega (arith, bound, words_counted)), ap (λ xs. get_or xs i 0) index.words_are, length-all ls, length-text 0 ls text index.lines_are)

  pub words_of : (k : ℕ) → k < length ls → get_or firsts (k + 1) 0 ≡ get_or firsts k 0 + length (line_at ls k).words
  words_of k bound = rw (add-one, index.firsts_are) (next_first 0 ls k bound)

  pub words_some : (k : ℕ) → k < length ls → 0 < length (line_at ls k).words
  words_some k bound = line_is 0 ls text k index.lines_are bound

  pub word_within : (k at : ℕ) → k < length ls → at < length (line_at ls k).words → get_or firsts k 0 + at < length (all_words ls)
  word_within k at bound in_line =
      let among = word_among 0 ls k at bound in_line in
      omega (arith, among.1, ap (λ xs. get_or xs k 0) index.firsts_are)

  pub word_is : (k at : ℕ) → k < length ls → at < length (line_at ls k).words → IsWordAt text (line_word ls k at) (get_or words (get_or firsts k 0 + at) 0)
  word_is k at bound in_line =
      let among = word_among 0 ls k at bound in_line in
      let here = word_here 0 (all_words ls) text (get_or firsts k 0 + at) (text_words 0 ls text index.lines_are) (word_within k at bound in_line) in
      let e : get_or firsts k 0 + at ≡ get_or (first_words 0 ls) k 0 + at - 0 = omega (arith, ap (λ xs. get_or xs k 0) index.firsts_are) in
      let same : get_or (all_words ls) (get_or firsts k 0 + at) [] ≡ line_word ls k at = ap (λ n. get_or (all_words ls) n []) e ∙ among.2 in
      let f : get_or (word_places 0 (all_words ls)) (get_or firsts k 0 + at) 0 - 0 ≡ get_or words (get_or firsts k 0 + at) 0 = omega (arith, ap (λ xs. get_or xs (get_or firsts k 0 + at) 0) index.words_are) in
      subst (λ (w : List ℕ). IsWordAt text w (get_or words (get_or firsts k 0 + at) 0)) same (subst (IsWordAt text (get_or (all_words ls) (get_or firsts k 0 + at) [])) f here.1)

  pub next_is : (k at : ℕ) → k < length ls → at < length (line_at ls k).words → get_or words (get_or firsts k 0 + at + 1) 0 ≡ get_or words (get_or firsts k 0 + at) 0 + (length (line_word ls k at) + 1)
  next_is k at bound in_line =
      let among = word_among 0 ls k at bound in_line in
      let e : get_or firsts k 0 + at ≡ get_or (first_words 0 ls) k 0 + at - 0 = omega (arith, ap (λ xs. get_or xs k 0) index.firsts_are) in
      let same : get_or (all_words ls) (get_or firsts k 0 + at) [] ≡ line_word ls k at = ap (λ n. get_or (all_words ls) n []) e ∙ among.2 in
      let next = next_place 0 (all_words ls) (get_or firsts k 0 + at) (word_within k at bound in_line) in
      let step : get_or words (get_or firsts k 0 + at + 1) 0 ≡ get_or (word_places 0 (all_words ls)) (suc (get_or firsts k 0 + at)) 0 = rw (add-one, index.words_are) refl in
      omega (arith, step, next, ap (λ xs. get_or xs (get_or firsts k 0 + at) 0) index.words_are, ap length same)

-- the index of the lines that are seen
pub seen : (text : List ℕ) (lines value : List Line) (words firsts : List ℕ) → lines ≡ value → IsIndex text lines words firsts → IsIndex text value words firsts
seen text lines value words firsts same index = subst (λ ls. IsIndex text ls words firsts) same index

-- what an index into numbers gave
pub read_at : (xs : List ℕ) (i x : ℕ) → x ≡ get_or xs i x → i < length xs → x ≡ get_or xs i 0
read_at [] i x is bound = absurd (omega arith)
read_at (y ∷ ys) zero x is bound = is
read_at (y ∷ ys) (suc i) x is bound = read_at ys i x is (omega arith)

pub word_slice : (text w : List ℕ) (start next : ℕ) → IsWordAt text w start → next ≡ start + (length w + 1) → take (next - 1 - start) (drop start text) ≡ w
word_slice text w start next here is =
    let e : next - 1 - start ≡ length w = omega arith in
    ap (λ n. take n (drop start text)) e ∙ here.found

-- the bytes of a word, by what the code read
pub word_cut : (text : List ℕ) (ls : List Line) (words firsts : List ℕ) (k at first start next : ℕ) → IsIndex text ls words firsts → k < length ls → at < length (line_at ls k).words → first ≡ get_or firsts k first → start ≡ get_or words (first + at) start → next ≡ get_or words (first + at + 1) next
    → IsWordAt text (line_word ls k at) start × (next ≡ start + (length (line_word ls k at) + 1))
word_cut text ls words firsts k at first start next index bound in_line is_first is_start is_next =
    let one = read_at firsts k first is_first (omega (arith, counted text ls words firsts index)) in
    let many = words_counted text ls words firsts index in
    let inner = word_within text ls words firsts index k at bound in_line in
    let two = read_at words (first + at) start is_start (omega (arith, one, many, inner)) ∙ ap (λ n. get_or words (n + at) 0) one in
    let three = read_at words (first + at + 1) next is_next (omega (arith, one, many, inner)) ∙ ap (λ n. get_or words (n + at + 1) 0) one in
    (subst (IsWordAt text (line_word ls k at)) (sym two) (word_is text ls words firsts index k at bound in_line), omega (arith, two, three, next_is text ls words firsts index k at bound in_line))
