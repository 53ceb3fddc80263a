-- What is printed is lines of words, and they are read as the lines.
use Rattle.std.proofs.Common.{◌≡◌, ℕ, suc, zero, ◌+◌, ◌-◌, ◌^◌, ◌<◌, ◌≤◌, Bool, true, false, cond, List, [], ◌∷◌, ◌++◌, length, map, take, get_or, refl, sym, ap, ◌∙◌, arith, append_assoc, decimal}
use Rattle.std.specs.Prelude.{codes, flat_map}
use Rattle.std.specs.List.{All}
use Rattle.std.proofs.lemmas.List.{length-append, length-map, length-take, get_or-map, get_or-append_right, get_or_append_left}
use Rattle.std.proofs.lemmas.List.Concat.{flat_map-append, flat_map-cons}
use Rattle.std.proofs.lemmas.List.Folds.{flat_map-map}
use Rattle.std.proofs.lemmas.List.Elements.{All-nil, All-cons, All-append, All-map, All-weaker}
use Rattle.cnf_core.specs.declared.line.Line.{Line}
use Rattle.cnf_core.specs.Formula.{Formula, IsLitOf}
use Rattle.cnf_core.specs.Refutation.{AreAccepted}
use Rattle.text_core.specs.Lines.{IsLineWord, line_at}
use Rattle.text_core.specs.Lines.{Line as TextLine}
use Rattle.text_core.specs.LineTexts.{Words, CanBeLine, line_text, placed_lines, words_of_lines}
use Rattle.refutation_check.specs.LineWords.{IsSmall, IsId, IsIdLiteral, IsReadableLine, IsLineOf, AreLinesAt, literal_word, line_words}
use Rattle.refutation_check.specs.LineText.{literal_text, hint_text}

-- a space and a word
abbrev spaced : List ℕ → List ℕ
spaced w = codes " " ++ w

-- the text of words has a space before each but the first
line_text-spaced : (w : List ℕ) (ws : Words) → line_text (w ∷ ws) ≡ w ++ (flat_map spaced ws ++ codes "\n")
line_text-spaced w [] = refl
line_text-spaced w (v ∷ vs) =
    ap (λ (rest : List ℕ). w ++ (codes " " ++ rest)) (line_text-spaced v vs)
    ∙ sym (ap (λ (xs : List ℕ). w ++ (xs ++ codes "\n")) (flat_map-cons spaced v vs) ∙ ap (λ (xs : List ℕ). w ++ xs) (append_assoc (spaced v) (flat_map spaced vs) (codes "\n")))

-- so what is printed of a line, part by part, is the text of its words
pub line_text-parts : (line : Line) → decimal line.id ++ flat_map literal_text line.lits ++ codes " 0" ++ flat_map hint_text line.hints ++ codes " 0\n" ≡ line_text (line_words line)
line_text-parts line =
    let ids = map decimal line.hints ++ codes "0" ∷ [] in
    let lits = map literal_word line.lits in
    let hints-text : flat_map spaced ids ≡ flat_map hint_text line.hints ++ codes " 0" =
    flat_map-append spaced (map decimal line.hints) (codes "0" ∷ []) ∙ ap (λ (xs : List ℕ). xs ++ codes " 0") (flat_map-map spaced decimal line.hints) in
    let rest-text : flat_map spaced (lits ++ codes "0" ∷ ids) ≡ flat_map literal_text line.lits ++ (codes " 0" ++ (flat_map hint_text line.hints ++ codes " 0")) =
    flat_map-append spaced lits (codes "0" ∷ ids)
    ∙ ap (λ (xs : List ℕ). xs ++ flat_map spaced (codes "0" ∷ ids)) (flat_map-map spaced literal_word line.lits)
    ∙ ap (λ (xs : List ℕ). flat_map literal_text line.lits ++ xs) (flat_map-cons spaced (codes "0") ids ∙ ap (λ (xs : List ℕ). codes " 0" ++ xs) hints-text) in
    let whole : decimal line.id ++ (flat_map spaced (lits ++ codes "0" ∷ ids) ++ codes "\n") ≡ decimal line.id ++ flat_map literal_text line.lits ++ codes " 0" ++ flat_map hint_text line.hints ++ codes " 0\n" =
    ap (λ (xs : List ℕ). decimal line.id ++ (xs ++ codes "\n")) rest-text ∙ simp append_assoc in
    sym whole ∙ sym (line_text-spaced (decimal line.id) (lits ++ codes "0" ∷ ids))

-- all lines by their words
pub lines_text-words : (lines : List Line) → flat_map (λ line. line_text (line_words line)) lines ≡ flat_map line_text (map line_words lines)
lines_text-words lines = sym (flat_map-map line_text line_words lines)

-- numbers are words of lines
abbrev pub NumbersAreWords : Type 0
NumbersAreWords = (n : ℕ) → n < 2 ^ 64 → IsLineWord (decimal n)

decimal-word : NumbersAreWords → (n : ℕ) → IsSmall n → IsLineWord (decimal n)
decimal-word law n small = law n (omega arith)

literal-word-by : NumbersAreWords → (p : Bool) (n : ℕ) → IsId n → IsLineWord (cond p (decimal n) (codes "-" ++ decimal n))
literal-word-by law true n fine = decimal-word law n fine.1
literal-word-by law false n fine = record { some = λ e. cc; printed = (decimal-word law n fine.1).printed }

zero-word : IsLineWord (codes "0")
zero-word = record { some = λ e. cc; printed = refl }

-- **a line that can be read back is a line of words**
pub words-can : NumbersAreWords → (line : Line) → IsReadableLine line → CanBeLine (line_words line)
words-can law line h =
    let ids = map decimal line.hints ++ codes "0" ∷ [] in
    let lits = map literal_word line.lits in
    let hints-are : All IsLineWord ids = All-append IsLineWord (map decimal line.hints) (codes "0" ∷ []) (All-map IsLineWord decimal line.hints (All-weaker IsId (λ n. IsLineWord (decimal n)) (λ n p. decimal-word law n p.1) line.hints h.hints)) (All-cons IsLineWord (codes "0") [] zero-word (All-nil IsLineWord)) in
    let words-are : All IsLineWord (lits ++ codes "0" ∷ ids) =
    All-append IsLineWord lits (codes "0" ∷ ids) (All-map IsLineWord literal_word line.lits (All-weaker IsIdLiteral (λ l. IsLineWord (literal_word l)) (λ l p. literal-word-by law l.positive l.var p) line.lits h.lits))
    (All-cons IsLineWord (codes "0") ids zero-word hints-are) in
    record {
      some = λ e. cc;
      each = All-cons IsLineWord (decimal line.id) (lits ++ codes "0" ∷ ids) (decimal-word law line.id h.id) words-are;
    }

pub all-can : NumbersAreWords → (lines : List Line) → All IsReadableLine lines → All CanBeLine (map line_words lines)
all-can law lines h = All-map CanBeLine line_words lines (All-weaker IsReadableLine (λ l. CanBeLine (line_words l)) (words-can law) lines h)

-- the words of placed lines are those that were placed
words-placed : (place : ℕ) (ws : List Words) (k : ℕ) → (line_at (placed_lines place ws) k).words ≡ get_or ws k []
words-placed place [] k = refl
words-placed place (w ∷ ws) zero = refl
words-placed place (w ∷ ws) (suc k) = words-placed (place + length (line_text w)) ws k

is-line : (row : Words) (lines : List Line) (k : ℕ) (d : Line) → All IsReadableLine lines → k < length lines → row ≡ get_or (map line_words lines) k [] → IsLineOf row (get_or lines k d)
is-line row lines k d h few is =
    record {
      words = is ∙ get_or-map line_words lines k d [] few;
      readable = h k d few;
    }

-- **wherever lines were printed, each is read as what was printed**
pub each-read : (place : ℕ) (lines : List Line) (k : ℕ) (d : Line) → All IsReadableLine lines → k < length lines → IsLineOf (line_at (placed_lines place (map line_words lines)) k).words (get_or lines k d)
each-read place lines k d h few = is-line (line_at (placed_lines place (map line_words lines)) k).words lines k d h few (words-placed place (map line_words lines) k)

-- the words of a line, and those of all lines
words-at : (text : List TextLine) (k : ℕ) → (line_at text k).words ≡ get_or (words_of_lines text) k []
words-at [] k = refl
words-at (l ∷ ls) zero = refl
words-at (l ∷ ls) (suc k) = words-at ls k

-- **a text that has the words of lines somewhere has these lines there**
pub lines-among : (text : List TextLine) (front back : List Words) (lines : List Line) → All IsReadableLine lines → words_of_lines text ≡ front ++ (map line_words lines ++ back) → AreLinesAt text (length front) (length lines) lines
lines-among text front back lines h is =
    let middle = map line_words lines in
    let size : length text ≡ length front + (length lines + length back) = sym (length-map text (λ (l : TextLine). l.words)) ∙ ap length is ∙ length-append front (middle ++ back) ∙ ap (λ (n : ℕ). length front + n) (length-append middle back ∙ ap (λ (n : ℕ). n + length back) (length-map lines line_words)) in
    record {
      size = refl;
      each = λ k d few.
          let few' : k < length middle = omega (arith, length-map lines line_words) in
          let here : k ≡ length front + k - length front = omega arith in
          let at : (line_at text (length front + k)).words ≡ get_or middle k [] =
          words-at text (length front + k) ∙ ap (λ (ws : List Words). get_or ws (length front + k) []) is
          ∙ get_or-append_right front (middle ++ back) (length front) (length front + k) [] refl (omega arith)
          ∙ ap (λ (n : ℕ). get_or (middle ++ back) n []) (sym here)
          ∙ get_or_append_left middle back [] k few' in
          (omega arith, is-line (line_at text (length front + k)).words lines k d h few at);
    }

-- **accepted lines can be read back**
pub accepted-readable : (f : Formula) (lines : List Line) → AreAccepted f lines → f.vars < 2 ^ 29 → length f.clauses + length lines < 2 ^ 31 → All IsReadableLine lines
accepted-readable f lines accepted vars few k d here =
    let a = accepted k d here in
    let before : length (take k lines) ≤ k = omega (arith, length-take k lines) in
    let n = length f.clauses + length (take k lines) in
    let small : n + 1 < 2 ^ 31 = omega arith in
    let l = get_or lines k d in
    record {
      id = (let is = a.numbered in omega arith);
      lits = All-weaker (IsLitOf f.vars) IsIdLiteral (λ m p. (p.above, (let within = p.within in omega arith))) l.lits a.named.exist;
      hints = All-weaker (λ h. (1 ≤ h) × (h ≤ n)) IsId (λ h p. (p.0, (let within = p.1 in omega arith))) l.hints a.named.hints;
    }
