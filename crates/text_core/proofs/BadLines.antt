-- The first line of a text that isn't one.
use Rattle.std.proofs.Common.{◌≡◌, ℕ, ◌+◌, ◌<◌, ◌⊎◌, inl, inr, List, [], ◌∷◌, ◌++◌, length, refl, sym, ap, ◌∙◌, subst, arith, append_assoc, length-append, Bool, true, false}
use Rattle.std.specs.List.{list_all}
use Rattle.std.proofs.lemmas.Bool.{cases_lt, true≢false}
use Rattle.text_core.specs.Lines.{Line, IsLineWord, IsLine, last, word, AreLines, none, line, HasLines, IsBehind, IsBefore, HasEmptyWord, IsBadLine, is_printed}
use Rattle.text_core.specs.Lines as lines
use Rattle.text_core.specs.Pieces.{IsStopped}
use Rattle.text_core.proofs.Cuts.{both_true, run_once, cut_inside, cut_outside}
use Rattle.text_core.proofs.LinesIn.{not_feed, body_of}

-- a byte that doesn't pass is in no list of bytes that do
pub fails_within : (test : ℕ → Bool) (xs ys : List ℕ) (b : ℕ) → list_all test (xs ++ b ∷ ys) ≡ true → test b ≡ false → ⊥
fails_within test [] ys b each fails = true≢false (sym (both_true (test b) (list_all test ys) each).0 ∙ fails)
fails_within test (x ∷ xs) ys b each fails = fails_within test xs ys b (both_true (test x) (list_all test (xs ++ b ∷ ys)) each).1 fails

pub snoc_same : (xs ys : List ℕ) (a b : ℕ) → xs ++ a ∷ [] ≡ ys ++ b ∷ [] → xs ≡ ys
snoc_same [] [] a b same = refl
snoc_same [] (y ∷ ys) a b same = absurd (omega (arith, ap length same, length-append ys (b ∷ [])))
snoc_same (x ∷ xs) [] a b same = absurd (omega (arith, ap length same, length-append xs (a ∷ [])))
snoc_same (x ∷ xs) (y ∷ ys) a b same =
    let head : x ≡ y = cc in
    let tail : xs ++ a ∷ [] ≡ ys ++ b ∷ [] = cc in
    cc (head, snoc_same xs ys a b tail)

-- a word has no empty word in it
word_whole : (w left right : List ℕ) → IsLineWord w → w ≡ left ++ right → IsBehind 32 left → IsBefore 32 right → ⊥
word_whole w left right is cut lines.front lines.end = is.some cut
word_whole w left right is cut lines.front (lines.before more begins) =
    fails_within is_printed [] more 32 (subst (λ xs. list_all is_printed xs ≡ true) (cut ∙ begins) is.printed) refl
word_whole w left right is cut (lines.behind more ends) _ =
    fails_within is_printed more right 32 (subst (λ xs. list_all is_printed xs ≡ true) (cut ∙ (ap (λ zs. zs ++ right) ends ∙ append_assoc more (32 ∷ []) right)) is.printed) refl

front_of_word : (w rest right : List ℕ) → IsLineWord w → w ++ 32 ∷ rest ≡ right → IsBefore 32 right → ⊥
front_of_word [] rest right is cut _ = is.some refl
front_of_word (x ∷ w) rest right is cut lines.end = cc
front_of_word (x ∷ w) rest right is cut (lines.before more begins) =
    let head : x ≡ 32 = cc in
    true≢false (sym (both_true (is_printed x) (list_all is_printed w) is.printed).0 ∙ ap is_printed head)

-- what stands behind a word and a space goes on as a line does
rest_whole : (rest body right n : List ℕ) → ((left right : List ℕ) → rest ≡ (left ++ right) ++ 10 ∷ [] → IsBehind 32 left → IsBefore 32 right → ⊥) → rest ≡ body ++ 10 ∷ [] → 32 ∷ body ≡ n ++ 32 ∷ right → IsBefore 32 right → ⊥
rest_whole rest body right [] never whole cut ends =
    let same : body ≡ right = cc in
    never [] right (whole ∙ ap (λ zs. zs ++ 10 ∷ []) same) lines.front ends
rest_whole rest body right (y ∷ n) never whole cut ends =
    let same : body ≡ n ++ 32 ∷ right = cc in
    never (n ++ 32 ∷ []) right (whole ∙ ap (λ zs. zs ++ 10 ∷ []) (same ∙ sym (append_assoc n (32 ∷ []) right))) (lines.behind n refl) ends

-- a line has no empty word
line_whole : (ws : List (List ℕ)) (t left right : List ℕ) → IsLine ws t → t ≡ (left ++ right) ++ 10 ∷ [] → IsBehind 32 left → IsBefore 32 right → ⊥
line_whole ws t left right (last {word = w} is same) cut begins ends =
    word_whole w left right is (snoc_same w (left ++ right) 10 10 (sym same ∙ cut)) begins ends
line_whole ws t left right (word {word = w} {words = vs} rest is each same) cut lines.front ends =
    let body = body_of vs rest each in
    let whole : w ++ 32 ∷ body.0 ≡ right = snoc_same (w ++ 32 ∷ body.0) right 10 10 (append_assoc w (32 ∷ body.0) (10 ∷ []) ∙ (ap (λ zs. w ++ 32 ∷ zs) (sym body.1.whole) ∙ (sym same ∙ cut))) in
    front_of_word w body.0 right is whole ends
line_whole ws t left right (word {word = w} {words = vs} rest is each same) cut (lines.behind more behind_is) ends =
    let body = body_of vs rest each in
    let whole : w ++ 32 ∷ body.0 ≡ more ++ 32 ∷ right =
    snoc_same (w ++ 32 ∷ body.0) (left ++ right) 10 10 (append_assoc w (32 ∷ body.0) (10 ∷ []) ∙ (ap (λ zs. w ++ 32 ∷ zs) (sym body.1.whole) ∙ (sym same ∙ cut)))
    ∙ (ap (λ zs. zs ++ right) behind_is ∙ append_assoc more (32 ∷ []) right) in
    elim (cases_lt (length more) (length w)) [
      | inl less ↦
          let found = cut_inside w (32 ∷ body.0) more right 32 whole less in
          fails_within is_printed more found.0 32 (subst (λ xs. list_all is_printed xs ≡ true) found.1 is.printed) refl
      | inr long ↦
          let found = cut_outside w (32 ∷ body.0) more right 32 whole long in
          rest_whole rest body.0 right found.0 (λ left' right' cut'. line_whole vs rest left' right' each cut') body.1.whole found.2 ends
    ]

stopped_before : (xs : List ℕ) → IsBefore 10 xs → IsStopped not_feed xs
stopped_before xs lines.end = tt
stopped_before xs (lines.before more begins) = subst (IsStopped not_feed) (sym begins) refl

regroup : (body others rest : List ℕ) → ((body ++ 10 ∷ []) ++ others) ++ rest ≡ body ++ 10 ∷ (others ++ rest)
regroup body others rest = append_assoc (body ++ 10 ∷ []) others rest ∙ append_assoc body (10 ∷ []) (others ++ rest)

good_line : (ws : List (List ℕ)) (first part body behind rest : List ℕ) → IsLine ws first → first ≡ body ++ 10 ∷ [] → part ≡ body → behind ≡ 10 ∷ rest → (behind ≡ []) ⊎ HasEmptyWord part → ⊥
good_line ws first part body behind rest each whole same begins (inl empty) = cc
good_line ws first part body behind rest each whole same begins (inr empty) =
    line_whole ws first empty.left empty.right each (whole ∙ ap (λ zs. zs ++ 10 ∷ []) (sym same ∙ empty.whole)) empty.behind_space empty.before_space

-- what stands behind a line goes on as lines do
later_lines : (front rest part behind n : List ℕ) → ((before : List ℕ) → front ++ rest ≡ before ++ (part ++ behind) → length before < length front → IsBehind 10 before → ⊥) → 10 ∷ (front ++ rest) ≡ n ++ 10 ∷ (part ++ behind) → length n < length front → ⊥
later_lines front rest part behind [] never cut less =
    let same : front ++ rest ≡ part ++ behind = cc in
    never [] same less lines.front
later_lines front rest part behind (y ∷ n) never cut less =
    let same : front ++ rest ≡ n ++ 10 ∷ (part ++ behind) = cc in
    never (n ++ 10 ∷ []) (same ∙ sym (append_assoc n (10 ∷ []) (part ++ behind))) (omega (arith, length-append n (10 ∷ []))) (lines.behind n refl)

-- no line among lines is bad
pub good_lines : (place : ℕ) (ls : List Line) (front rest before part behind : List ℕ) → AreLines place ls front → front ++ rest ≡ before ++ (part ++ behind) → length before < length front → IsBehind 10 before → list_all not_feed part ≡ true → IsBefore 10 behind → (behind ≡ []) ⊎ HasEmptyWord part → ⊥
good_lines place ls front rest before part behind none cut less _ _ _ _ = omega arith
good_lines place ls front rest before part behind (line {words = ws} {lines = more} first others each are same) cut less lines.front one ends bad =
    let body = body_of ws first each in
    let whole : part ++ behind ≡ body.0 ++ 10 ∷ (others ++ rest) = sym cut ∙ (ap (λ zs. zs ++ rest) (same ∙ ap (λ zs. zs ++ others) body.1.whole) ∙ regroup body.0 others rest) in
    let once = run_once not_feed part body.0 behind (10 ∷ (others ++ rest)) one (stopped_before behind ends) body.1.no_feed refl whole in
    good_line ws first part body.0 behind (others ++ rest) each body.1.whole once.0 once.1 bad
good_lines place ls front rest before part behind (line {words = ws} {lines = more} first others each are same) cut less (lines.behind ahead closed) one ends bad =
    let body = body_of ws first each in
    let whole : body.0 ++ 10 ∷ (others ++ rest) ≡ ahead ++ 10 ∷ (part ++ behind) =
    sym (ap (λ zs. zs ++ rest) (same ∙ ap (λ zs. zs ++ others) body.1.whole) ∙ regroup body.0 others rest) ∙ (cut ∙ (ap (λ zs. zs ++ (part ++ behind)) closed ∙ append_assoc ahead (10 ∷ []) (part ++ behind))) in
    elim (cases_lt (length ahead) (length body.0)) [
      | inl early ↦
          let found = cut_inside body.0 (10 ∷ (others ++ rest)) ahead (part ++ behind) 10 whole early in
          fails_within not_feed ahead found.0 10 (subst (λ xs. list_all not_feed xs ≡ true) found.1 body.1.no_feed) refl
      | inr late ↦
          let found = cut_outside body.0 (10 ∷ (others ++ rest)) ahead (part ++ behind) 10 whole late in
          let long : length before ≡ length body.0 + length found.0 + 1 = omega (arith, ap length closed, length-append ahead (10 ∷ []), ap length found.1, length-append body.0 found.0) in
          let room : length front ≡ length body.0 + 1 + length others = omega (arith, ap length same, length-append first others, ap length body.1.whole, length-append body.0 (10 ∷ [])) in
          later_lines others rest part behind found.0 (λ before' cut' less' begins'. good_lines (place + length first) more others rest before' part behind are cut' less' begins' one ends bad) found.2 (omega arith)
    ]
