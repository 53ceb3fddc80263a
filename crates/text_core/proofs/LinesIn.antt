-- The lines of a text are those between its line feeds.
use Rattle.std.proofs.Common.{◌≡◌, ℕ, ◌+◌, List, [], ◌∷◌, ◌++◌, length, refl, sym, ap, ◌∙◌, arith, append_assoc, length-append, Bool, true, false, ◌==◌, cond, not}
use Rattle.std.specs.List.{slice_split, onto_first, list_all, All}
use Rattle.std.proofs.lemmas.Bool.Decides.{nat_tests}
use Rattle.std.proofs.lemmas.List.Elements.{All-cons, All-nil}
use Rattle.std.proofs.lemmas.List.Splits.{slice_split_at, slice_split_none}
use Rattle.text_core.specs.Lines.{Line, IsLine, last, word, AreLines, none, line, HasLines, is_printed}
use Rattle.text_core.specs.LineIndex.{words_in, lines_from, lines_in}
use Rattle.text_core.proofs.Cuts.{both_true}

-- a printed byte is neither a space nor a line feed
pub printed_apart : (b : ℕ) → is_printed b ≡ true → ((b == 32) ≡ false) × ((b == 10) ≡ false)
printed_apart b is = (grind (arith, nat_tests), grind (arith, nat_tests))

-- a byte that isn't the line feed
abbrev pub not_feed : ℕ → Bool
not_feed b = not (b == 10)

not_true : (b : Bool) → not b ≡ true → b ≡ false
not_true true is = cc
not_true false is = refl

no_space : (w : List ℕ) → list_all is_printed w ≡ true → All (λ b. (b == 32) ≡ false) w
no_space [] is = All-nil (λ b. (b == 32) ≡ false)
no_space (b ∷ w) is =
    let parts = both_true (is_printed b) (list_all is_printed w) is in
    All-cons (λ b. (b == 32) ≡ false) b w (printed_apart b parts.0).0 (no_space w parts.1)

pub no_feed : (w : List ℕ) → list_all is_printed w ≡ true → list_all not_feed w ≡ true
no_feed [] is = refl
no_feed (b ∷ w) is =
    let parts = both_true (is_printed b) (list_all is_printed w) is in
    rw ((printed_apart b parts.0).1) (no_feed w parts.1)

-- a line without its line feed
pub record IsBody (ws : List (List ℕ)) (text body : List ℕ) : Type 0 where
  pub whole : text ≡ body ++ 10 ∷ []
  pub no_feed : list_all not_feed body ≡ true
  pub words : words_in body ≡ ws

feeds_none : (xs : List ℕ) → list_all not_feed xs ≡ true → All (λ b. (b == 10) ≡ false) xs
feeds_none [] is = All-nil (λ b. (b == 10) ≡ false)
feeds_none (b ∷ xs) is =
    let parts = both_true (not_feed b) (list_all not_feed xs) is in
    All-cons (λ b. (b == 10) ≡ false) b xs (not_true (b == 10) parts.0) (feeds_none xs parts.1)

pub no_feed_more : (w rest : List ℕ) → list_all is_printed w ≡ true → list_all not_feed rest ≡ true → list_all not_feed (w ++ 32 ∷ rest) ≡ true
no_feed_more [] rest is more = more
no_feed_more (b ∷ w) rest is more =
    let parts = both_true (is_printed b) (list_all is_printed w) is in
    rw ((printed_apart b parts.0).1) (no_feed_more w rest parts.1 more)

pub body_of : (ws : List (List ℕ)) (text : List ℕ) → IsLine ws text → (body : List ℕ) × IsBody ws text body
body_of ws text (last {word = w} is same) =
    (w, record { whole = same; no_feed = no_feed w is.printed; words = slice_split_none (λ b. b == 32) w (no_space w is.printed) })
body_of ws text (word {word = w} {words = vs} rest is each same) =
    let more = body_of vs rest each in (
      w ++ 32 ∷ more.0,
      record {
        whole = same ∙ (ap (λ zs. w ++ 32 ∷ zs) more.1.whole ∙ sym (append_assoc w (32 ∷ more.0) (10 ∷ [])));
        no_feed = no_feed_more w more.0 is.printed more.1.no_feed;
        words = slice_split_at (λ b. b == 32) w 32 more.0 (no_space w is.printed) refl ∙ ap (λ zs. w ∷ zs) more.1.words;
      },
    )

split_cons : (test : Bool) (xs ys : List (List ℕ)) → ((part : List ℕ) × (more : List (List ℕ)) × (ys ≡ part ∷ more)) → (part : List ℕ) × (more : List (List ℕ)) × (cond test ([] ∷ xs) ys ≡ part ∷ more)
split_cons true xs ys some = ([], xs, refl)
split_cons false xs ys some = some

onto_some : (b : ℕ) (parts : List (List ℕ)) → (part : List ℕ) × (more : List (List ℕ)) × (onto_first b parts ≡ part ∷ more)
onto_some b [] = (b ∷ [], [], refl)
onto_some b (part ∷ parts) = (b ∷ part, parts, refl)

-- the parts of a text, of which there is one at least
split_some : (bs : List ℕ) → (part : List ℕ) × (parts : List (List ℕ)) × (slice_split (λ b. b == 10) bs ≡ part ∷ parts)
split_some [] = ([], [], refl)
split_some (b ∷ bs) = split_cons (b == 10) (slice_split (λ b. b == 10) bs) (onto_first b (slice_split (λ b. b == 10) bs)) (onto_some b (slice_split (λ b. b == 10) bs))

lines_are_from : (place : ℕ) (lines : List Line) (text : List ℕ) → AreLines place lines text → lines_from place (slice_split (λ b. b == 10) text) ≡ lines
lines_are_from place lines text none = refl
lines_are_from place lines text (line {words = ws} {lines = ls} front rest each others same) =
    let body = body_of ws front each in
    let some = split_some rest in
    let cut : slice_split (λ b. b == 10) text ≡ body.0 ∷ some.0 ∷ some.1 =
    ap (slice_split (λ b. b == 10)) (same ∙ (ap (λ zs. zs ++ rest) body.1.whole ∙ append_assoc body.0 (10 ∷ []) rest)) ∙ (slice_split_at (λ b. b == 10) body.0 10 rest (feeds_none body.0 body.1.no_feed) refl ∙ ap (λ zs. body.0 ∷ zs) some.2) in
    let long : place + (length body.0 + 1) ≡ place + length front = omega (arith, ap length body.1.whole, length-append body.0 (10 ∷ [])) in
    let more = lines_are_from (place + length front) ls rest others in
    let head : lines_from place (body.0 ∷ some.0 ∷ some.1) ≡ (record { place = place; words = ws }) ∷ lines_from (place + length front) (slice_split (λ b. b == 10) rest) =
    ap (λ (vs : List (List ℕ)). (record { place = place; words = vs }) ∷ lines_from (place + (length body.0 + 1)) (some.0 ∷ some.1)) body.1.words
    ∙ (ap (λ n. (record { place = place; words = ws }) ∷ lines_from n (some.0 ∷ some.1)) long ∙ ap (λ zs. (record { place = place; words = ws }) ∷ lines_from (place + length front) zs) (sym some.2)) in
    ap (lines_from place) cut ∙ (head ∙ ap (λ zs. (record { place = place; words = ws }) ∷ zs) more)

-- a text has one list of lines at most
pub lines_in_are : (text : List ℕ) (lines : List Line) → HasLines text lines → lines_in text ≡ lines
unfolding lines_in
lines_in_are text lines has = lines_are_from 0 lines text has

pub lines_once : (text : List ℕ) (lines others : List Line) → HasLines text lines → HasLines text others → lines ≡ others
lines_once text lines others one two = sym (lines_in_are text lines one) ∙ lines_in_are text others two
