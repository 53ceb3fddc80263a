-- The words of lines from one number on and before another.
use Rattle.std.proofs.Common.{◌≡◌, ℕ, zero, suc, ◌+◌, ◌-◌, ◌<◌, ◌≤◌, List, [], ◌∷◌, ◌++◌, length, take, drop, refl, sym, ap, ◌∙◌, arith, length-drop}
use Rattle.std.proofs.lemmas.List.{map-append, drop-drop, length-map, length-take-le}
use Rattle.std.proofs.Math.Seq.{drop-cons, take-append_seam, take-length}
use Rattle.text_core.specs.Lines.{Line, line_at}
use Rattle.text_core.specs.LineTexts.{words_of_lines}
use Rattle.launch_graph.specs.LineFormats.{words_between}

take_nil : {X : Type 0} (m : ℕ) → take {A = X} m [] ≡ []
take_nil zero = refl
take_nil (suc m) = refl

take_split : {X : Type 0} (n m k : ℕ) (xs : List X) → k ≡ n + m → take k xs ≡ take n xs ++ take m (drop n xs)
take_split zero m k xs e = ap (λ i. take i xs) (let h : k ≡ m = omega arith in h)
take_split {X} (suc n) m k [] e = take_nil {X = X} k ∙ sym (take_nil {X = X} m)
take_split (suc n) m zero (x ∷ xs) e = absurd (omega arith)
take_split (suc n) m (suc k) (x ∷ xs) e = ap (λ ys. x ∷ ys) (take_split n m k xs (omega arith))

module _ (lines : List Line) where
  pub between_split : (a b c : ℕ) → a ≤ b → b ≤ c
      → words_between lines a c ≡ words_between lines a b ++ words_between lines b c
  between_split a b c low high =
      let there : a + (b - a) ≡ b = omega arith in
      ap words_of_lines (take_split (b - a) (c - b) (c - a) (drop a lines) (omega arith))
      ∙ map-append (λ (l : Line). l.words) (take (b - a) (drop a lines)) (take (c - b) (drop (b - a) (drop a lines)))
      ∙ ap (λ ls. words_between lines a b ++ words_of_lines (take (c - b) ls))
      (drop-drop (b - a) a lines ∙ ap (λ n. drop n lines) there)

  pub between_none : (a : ℕ) → words_between lines a a ≡ []
  between_none a = (let n : a - a ≡ 0 = omega arith in ap (λ k. words_of_lines (take k (drop a lines))) n)

  pub between_one : (a : ℕ) → a < length lines → words_between lines a (a + 1) ≡ (line_at lines a).words ∷ []
  between_one a lt =
      let d : Line = record { place = 0; words = [] } in
      let n : a + 1 - a ≡ 1 = omega arith in
      ap (λ k. words_of_lines (take k (drop a lines))) n ∙ ap (λ ls. words_of_lines (take 1 ls)) (drop-cons lines a d lt)

  pub between_more : (a b : ℕ) → a ≤ b → b < length lines
      → words_between lines a (b + 1) ≡ words_between lines a b ++ (line_at lines b).words ∷ []
  between_more a b le lt =
      between_split a b (b + 1) le (omega arith) ∙ ap (λ ws. words_between lines a b ++ ws) (between_one b lt)

  pub between_first : (a c : ℕ) → a < c → a < length lines
      → words_between lines a c ≡ (line_at lines a).words ∷ words_between lines (a + 1) c
  between_first a c lt within =
      between_split a (a + 1) c (omega arith) (omega arith)
      ∙ ap (λ ws. ws ++ words_between lines (a + 1) c) (between_one a within)

  pub between_length : (a b : ℕ) → a ≤ b → b ≤ length lines → length (words_between lines a b) ≡ b - a
  between_length a b le within =
      let rest : length (drop a lines) ≡ length lines - a = length-drop a lines in
      length-map (take (b - a) (drop a lines)) (λ (l : Line). l.words)
      ∙ length-take-le (b - a) (drop a lines) (omega (arith, rest))

  -- the first of them, up to a number between
  pub between_front : (a b c : ℕ) → a ≤ b → b ≤ c → c ≤ length lines
      → take (b - a) (words_between lines a c) ≡ words_between lines a b
  between_front a b c low high within =
      let size : length (words_between lines a b) ≡ b - a = between_length a b low (omega arith) in
      ap (take (b - a)) (between_split a b c low high)
      ∙ ap (λ n. take n (words_between lines a b ++ words_between lines b c)) (sym size)
      ∙ take-append_seam (words_between lines a b) (words_between lines b c)

  pub between_all : words_between lines 0 (length lines) ≡ words_of_lines lines
  between_all =
      let all : length lines - 0 ≡ length lines = omega arith in
      ap (λ n. words_of_lines (take n lines)) all ∙ ap words_of_lines (take-length lines)
