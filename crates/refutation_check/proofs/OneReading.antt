-- There is one way to read the words of lines.
use Rattle.std.proofs.Common.{◌≡◌, ℕ, ◌+◌, Bool, true, false, cond, List, [], ◌∷◌, ◌++◌, map, drop, get_or, refl, sym, ap, ◌∙◌, arith, decimal}
use Rattle.std.specs.Prelude.{codes}
use Rattle.std.specs.List.{All}
use Rattle.std.proofs.lemmas.List.{same_lists}
use Rattle.std.proofs.lemmas.List.Elements.{All-head, All-tail}
use Rattle.cnf_core.specs.declared.literal.Lit.{Lit}
use Rattle.cnf_core.specs.declared.line.Line.{Line}
use Rattle.text_core.specs.Lines.{line_at}
use Rattle.text_core.specs.Lines.{Line as TextLine}
use Rattle.refutation_check.specs.LineWords.{IsId, IsIdLiteral, literal_word, IsLineOf, AreLinesAt}
use Rattle.refutation_check.proofs.Runs.{head-same, tail-same, rest-same}
use Rattle.refutation_check.proofs.Wording.{decimal-one, number-no_minus, id-not_zero, literal-not_zero}

module _ {X : Type 0} (word_of : X → List ℕ) (IsFine : X → Type 0) (apart : (x : X) → IsFine x → word_of x ≡ codes "0" → ⊥) (one : (x y : X) → IsFine x → IsFine y → word_of x ≡ word_of y → x ≡ y) where
  pub items-same : (items others : List X) (rest more : List (List ℕ)) → All IsFine items → All IsFine others → map word_of items ++ codes "0" ∷ rest ≡ map word_of others ++ codes "0" ∷ more → items ≡ others
  items-same [] [] rest more a b e = refl
  items-same [] (y ∷ ys) rest more a b e = absurd (apart y (All-head IsFine y ys b) (sym (head-same (codes "0") (word_of y) rest (map word_of ys ++ codes "0" ∷ more) e)))
  items-same (x ∷ xs) [] rest more a b e = absurd (apart x (All-head IsFine x xs a) (head-same (word_of x) (codes "0") (map word_of xs ++ codes "0" ∷ rest) more e))
  items-same (x ∷ xs) (y ∷ ys) rest more a b e =
      let first : x ≡ y = one x y (All-head IsFine x xs a) (All-head IsFine y ys b) (head-same (word_of x) (word_of y) (map word_of xs ++ codes "0" ∷ rest) (map word_of ys ++ codes "0" ∷ more) e) in
      let others : xs ≡ ys = items-same xs ys rest more (All-tail IsFine x xs a) (All-tail IsFine y ys b) (tail-same (word_of x) (word_of y) (map word_of xs ++ codes "0" ∷ rest) (map word_of ys ++ codes "0" ∷ more) e) in
      ap (λ (z : X). z ∷ xs) first ∙ ap (λ (zs : List X). y ∷ zs) others

id-one : (m n : ℕ) → IsId m → IsId n → decimal m ≡ decimal n → m ≡ n
id-one m n a b is = decimal-one m n a.1 b.1 is

literal-one-by : (p q : Bool) (m n : ℕ) → IsId m → IsId n → cond p (decimal m) (codes "-" ++ decimal m) ≡ cond q (decimal n) (codes "-" ++ decimal n) → (m ≡ n) × (p ≡ q)
literal-one-by true true m n a b is = (id-one m n a b is, refl)
literal-one-by false false m n a b is = (id-one m n a b (ap (λ (xs : List ℕ). drop 1 xs) is), refl)
literal-one-by true false m n a b is = absurd (number-no_minus m (decimal n) a.1 is)
literal-one-by false true m n a b is = absurd (number-no_minus n (decimal m) b.1 (sym is))

literal-one : (l m : Lit) → IsIdLiteral l → IsIdLiteral m → literal_word l ≡ literal_word m → l ≡ m
literal-one l m a b is =
    let both = literal-one-by l.positive m.positive l.var m.var a b is in
    ap (λ (n : ℕ). let x : Lit = record { var = n; positive = l.positive } in x) both.0 ∙ ap (λ (p : Bool). let x : Lit = record { var = m.var; positive = p } in x) both.1

pub line-one : (row : List (List ℕ)) (l m : Line) → IsLineOf row l → IsLineOf row m → l ≡ m
line-one row l m a b =
    let words = sym a.words ∙ b.words in
    let id : l.id ≡ m.id = decimal-one l.id m.id a.readable.id b.readable.id (ap (λ (ws : List (List ℕ)). get_or ws 0 []) words) in
    let after = ap (λ (ws : List (List ℕ)). drop 1 ws) words in
    let lits : l.lits ≡ m.lits = items-same literal_word IsIdLiteral literal-not_zero literal-one l.lits m.lits (map decimal l.hints ++ codes "0" ∷ []) (map decimal m.hints ++ codes "0" ∷ []) a.readable.lits b.readable.lits after in
    let rest = rest-same literal_word IsIdLiteral literal-not_zero l.lits m.lits (map decimal l.hints ++ codes "0" ∷ []) (map decimal m.hints ++ codes "0" ∷ []) a.readable.lits b.readable.lits after in
    let hints : l.hints ≡ m.hints = items-same decimal IsId id-not_zero id-one l.hints m.hints [] [] a.readable.hints b.readable.hints rest in
    ap (λ (n : ℕ). let x : Line = record { id = n; lits = l.lits; hints = l.hints } in x) id
    ∙ ap (λ (xs : List Lit). let x : Line = record { id = m.id; lits = xs; hints = l.hints } in x) lits
    ∙ ap (λ (xs : List ℕ). let x : Line = record { id = m.id; lits = m.lits; hints = xs } in x) hints

-- **the same lines of a text are read as the same lines of a refutation**
pub lines-one : (text : List TextLine) (from count : ℕ) (xs ys : List Line) → AreLinesAt text from count xs → AreLinesAt text from count ys → xs ≡ ys
lines-one text from count xs ys a b =
    let left = a.size in
    let right = b.size in
    same_lists xs ys (omega arith) (λ k d few. line-one (line_at text (from + k)).words (get_or xs k d) (get_or ys k d) (a.each k d (omega arith)).1 (b.each k d (omega arith)).1)
