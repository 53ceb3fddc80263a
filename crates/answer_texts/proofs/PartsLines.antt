-- Lines of one kind are those of one list of values, up to one line.
use Rattle.std.proofs.Common.{◌≡◌, ◌⊎◌, ℕ, ◌+◌, ◌-◌, ◌<◌, ◌≤◌, List, [], ◌∷◌, ◌++◌, length, map, take, drop, get_or, inl, inr, refl, sym, ap, subst, ◌∙◌, arith}
use Rattle.std.proofs.lemmas.Bool.{cases_order}
use Rattle.std.proofs.lemmas.List.{map_push, take-map, take-append-drop, same_from_push}
use Rattle.text_core.specs.Lines.{Line, line_at, line_word}
use Rattle.text_core.specs.LineTexts.{Words}
use Rattle.text_core.specs.declared.faults.Kind.{Kind}
use Rattle.launch_graph.specs.LineFormats.{words_between}
use Rattle.answer_texts.specs.LineParts.{AreLinesTo, AreLinesOf, HasBadLine, IsBadOrMissingLine}
use Rattle.answer_texts.proofs.PartsBetween.{between_more, between_length, between_front}
use Rattle.answer_texts.proofs.PartsOnce.{IsOneReading, one_bad_line}

-- what holds of the values of a kind of lines: each begins with the word, a front of fitting values fits, and the words
-- of fitting values are those of no others
pub record IsKindOfLine {X : Type 0} (first : List ℕ) (words_of : X → Words) (Fit : List X → Type 0) : Type 0 where
  pub begins : (x : X) → get_or (words_of x) 0 [] ≡ first
  pub front : (xs ys : List X) → Fit (xs ++ ys) → Fit xs
  pub one : (xs ys : List X) → Fit xs → Fit ys → map words_of xs ≡ map words_of ys → xs ≡ ys

data Pushed {X : Type 0} (xs : List X) : Type 0 where
  nothing : xs ≡ [] → Pushed xs
  pushed : (ys : List X) (y : X) → xs ≡ ys ++ y ∷ [] → Pushed xs

push_on : {X : Type 0} (x : X) (xs : List X) → Pushed xs → Pushed (x ∷ xs)
push_on x xs (nothing e) = pushed [] x (ap (λ l. x ∷ l) e)
push_on x xs (pushed ys y e) = pushed (x ∷ ys) y (ap (λ l. x ∷ l) e)

last_of : {X : Type 0} (xs : List X) → Pushed xs
last_of [] = nothing refl
last_of (x ∷ xs) = push_on x xs (last_of xs)

module _ {X : Type 0} (first : List ℕ) (words_of : X → Words) (Fit : List X → Type 0)
    (kind_of : IsKindOfLine first words_of Fit) (lines : List Line) where
  -- the value of a line behind some
  record IsNext (at : ℕ) (before : List X) : Type 0 where
    value : X
    words : (line_at lines at).words ≡ words_of value
    fits : Fit (before ++ value ∷ [])

  same_to : (from next : ℕ) (xs ys : List X) → AreLinesTo words_of Fit lines from next xs
      → AreLinesTo words_of Fit lines from next ys → xs ≡ ys
  same_to from next xs ys a b = kind_of.one xs ys a.fit b.fit (sym a.words ∙ b.words)

  front_to : (from at next : ℕ) (values : List X) → from ≤ at → at ≤ next
      → AreLinesTo words_of Fit lines from next values → AreLinesTo words_of Fit lines from at (take (at - from) values)
  front_to from at next values low high a =
      let within = a.within in
      record {
        order = low;
        within = omega (arith, within, high);
        words = sym (between_front lines from at next low high within) ∙ ap (take (at - from)) a.words
            ∙ take-map words_of (at - from) values;
        fit = kind_of.front (take (at - from) values) (drop (at - from) values)
            (subst Fit (sym (take-append-drop (at - from) values)) a.fit);
      }

  next_by : (from at : ℕ) (before zs : List X) → at < length lines → AreLinesTo words_of Fit lines from at before
      → AreLinesTo words_of Fit lines from (at + 1) zs → Pushed zs → IsNext at before
  next_by from at before zs lt b a (nothing e) =
      let size : length (words_between lines from (at + 1)) ≡ at + 1 - from =
      between_length lines from (at + 1) a.order a.within in
      let none : length (words_between lines from (at + 1)) ≡ 0 =
      ap length a.words ∙ ap (λ l. length (map words_of l)) e in
      let low = b.order in
      absurd (omega (arith, size, none, low))
  next_by from at before zs lt b a (pushed ys y e) =
      let same = same_from_push (map words_of before) (map words_of ys) (line_at lines at).words (words_of y)
      (ap (λ l. l ++ (line_at lines at).words ∷ []) (sym b.words) ∙ sym (between_more lines from at b.order lt) ∙ a.words
      ∙ ap (map words_of) e ∙ map_push words_of ys y) in
      let fits : Fit (ys ++ y ∷ []) = subst Fit e a.fit in
      let are : before ≡ ys = kind_of.one before ys b.fit (kind_of.front ys (y ∷ []) fits) same.0 in
      record { value = y; words = same.1; fits = subst (λ l. Fit (l ++ y ∷ [])) (sym are) fits }

  next_of : (from at next : ℕ) (before values : List X) → AreLinesTo words_of Fit lines from at before
      → AreLinesTo words_of Fit lines from next values → at < next → IsNext at before
  next_of from at next before values b a lt =
      let within = a.within in
      let low = b.order in
      let more = front_to from (at + 1) next values (omega (arith, low)) (omega (arith, lt)) a in
      next_by from at before (take (at + 1 - from) values) (omega (arith, within, lt)) b more
      (last_of (take (at + 1 - from) values))

  begins_here : (at : ℕ) (before : List X) → IsNext at before → line_word lines at 0 ≡ first
  begins_here at before n = ap (λ (ws : Words). get_or ws 0 []) n.words ∙ kind_of.begins n.value

  no_further : (from at next : ℕ) (before values : List X) → AreLinesOf first words_of Fit lines from at before
      → AreLinesTo words_of Fit lines from next values → at < next → ⊥
  no_further from at next before values b a lt =
      let within = a.within in
      b.ends (omega (arith, within, lt)) (begins_here at before (next_of from at next before values b.so_far a lt))

  no_bad_before : (from at next : ℕ) (before values : List X) → AreLinesTo words_of Fit lines from at before
      → ((value : X) → (line_at lines at).words ≡ words_of value → Fit (before ++ value ∷ []) → ⊥)
      → AreLinesTo words_of Fit lines from next values → at < next → ⊥
  no_bad_before from at next before values b none a lt =
      let n = next_of from at next before values b a lt in
      none n.value n.words n.fits

  once_by : (from next other : ℕ) (xs ys : List X) → (next ≡ other) ⊎ ((next < other) ⊎ (other < next))
      → AreLinesOf first words_of Fit lines from next xs → AreLinesOf first words_of Fit lines from other ys
      → (next ≡ other) × (xs ≡ ys)
  once_by from next other xs ys (inl e) a b =
      (e, same_to from next xs ys a.so_far (subst (λ n. AreLinesTo words_of Fit lines from n ys) (sym e) b.so_far))
  once_by from next other xs ys (inr (inl lt)) a b = absurd (no_further from next other xs ys a b.so_far lt)
  once_by from next other xs ys (inr (inr lt)) a b = absurd (no_further from other next ys xs b a.so_far lt)

  apart_by : (from next place : ℕ) (xs : List X) (kind : Kind) → AreLinesOf first words_of Fit lines from next xs
      → (h : HasBadLine first words_of Fit lines from place kind) → (next ≡ h.at) ⊎ ((next < h.at) ⊎ (h.at < next)) → ⊥
  apart_by from next place xs kind a h (inl e) =
      a.ends (let lt = h.within in omega (arith, lt, e)) (ap (λ n. line_word lines n 0) e ∙ h.begins)
  apart_by from next place xs kind a h (inr (inl lt)) = no_further from next h.at xs h.before a h.so_far lt
  apart_by from next place xs kind a h (inr (inr lt)) =
      no_bad_before from h.at next h.before xs h.so_far h.none a.so_far lt

  first_by : (from place other : ℕ) (kind another : Kind) (h : HasBadLine first words_of Fit lines from place kind)
      (g : HasBadLine first words_of Fit lines from other another) → (h.at ≡ g.at) ⊎ ((h.at < g.at) ⊎ (g.at < h.at))
      → (place ≡ other) × (kind ≡ another)
  first_by from place other kind another h g (inl e) =
      one_bad_line lines h.at place other kind another h.fault
      (subst (λ n. IsBadOrMissingLine lines n other another) (sym e) g.fault)
  first_by from place other kind another h g (inr (inl lt)) =
      absurd (no_bad_before from h.at g.at h.before g.before h.so_far h.none g.so_far lt)
  first_by from place other kind another h g (inr (inr lt)) =
      absurd (no_bad_before from g.at h.at g.before h.before g.so_far g.none h.so_far lt)

  pub lines_once : IsOneReading (AreLinesOf first words_of Fit lines) (HasBadLine first words_of Fit lines)
  lines_once = record {
    once = λ from next other xs ys a b. once_by from next other xs ys (cases_order next other) a b;
    apart = λ from next place xs kind a h. apart_by from next place xs kind a h (cases_order next h.at);
    first = λ from place other kind another h g.
        first_by from place other kind another h g (cases_order h.at g.at);
  }
