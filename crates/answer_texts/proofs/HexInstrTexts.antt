-- The text of an instruction is that of its words, and no other words of lines have it.
use Rattle.std.proofs.Common.{◌≡◌, ℕ, ◌+◌, ◌<◌, ◌≤◌, List, [], ◌∷◌, ◌++◌, length, drop, get_or, refl, sym, ap, subst, ◌∙◌, append_assoc, codes, arith, below_more}
use Rattle.std.specs.Prelude.{All, ◌↔◌}
use Rattle.std.proofs.lemmas.List.{append_cancel_left, at_drop_more, at_drop_all, get_or-drop, length-drop}
use Rattle.std.proofs.lemmas.List.Concat.{flat_map-cons}
use Rattle.std.proofs.lemmas.List.Elements.{All-nil, All-cons, All-from_get_or}
use Rattle.alpha_encode.specs.Texts.{text_of}
use Rattle.alpha_encode.specs.declared.instructions.Instr.{Instr}
use Rattle.launch_graph.specs.LineParts.{words_behind}
use Rattle.text_core.specs.LineTexts.{Words, CanBeLine, line_text, lines_text, placed_lines}
use Rattle.text_core.specs.Lines.{Line, AreLines, HasLines, IsLineWord, line_at}
use Rattle.answer_texts.specs.AnswerLines.{instr_words}
use Rattle.answer_texts.proofs.InstrTexts.{instr_text}

-- ---- words of a line

abbrev pub PrintedAreLines : Type 0
PrintedAreLines = (place : ℕ) (lines : List Words) → All CanBeLine lines
    → AreLines place (placed_lines place lines) (lines_text lines)

abbrev pub LinesAreOne : Type 0
LinesAreOne = (text : List ℕ) (lines others : List Line) → HasLines text lines → HasLines text others → lines ≡ others

-- a line is its first word, and each other one behind a space
line_begins : (w : List ℕ) (ws : Words) → line_text (w ∷ ws) ≡ w ++ (words_behind ws ++ codes "\n")
line_begins w [] = refl
line_begins w (v ∷ vs) =
    ap (λ t. w ++ (codes " " ++ t)) (line_begins v vs)
    ∙ ap (λ t. w ++ t)
    (sym (ap (λ t. t ++ codes "\n") (flat_map-cons (λ (u : List ℕ). codes " " ++ u) v vs)
    ∙ append_assoc (codes " " ++ v) (words_behind vs) (codes "\n")
    ∙ append_assoc (codes " ") v (words_behind vs ++ codes "\n")))

some_word : IsLineWord (codes "word")
some_word = record { some = λ e. cc; printed = refl }

a_line : (ws : Words) → All IsLineWord ws → All CanBeLine ((codes "word" ∷ ws) ∷ [])
a_line ws each =
    let line : CanBeLine (codes "word" ∷ ws) =
    record { some = λ e. cc; each = All-cons IsLineWord (codes "word") ws some_word each } in
    All-cons CanBeLine (codes "word" ∷ ws) [] line (All-nil CanBeLine)

-- words with a space before each are put together in one way
module _ (printed : PrintedAreLines) (one : LinesAreOne) where
  one_spacing : (ws vs : Words) → All IsLineWord ws → All IsLineWord vs → words_behind ws ≡ words_behind vs → ws ≡ vs
  one_spacing ws vs a b e =
      let w : Words = codes "word" ∷ ws in
      let v : Words = codes "word" ∷ vs in
      let line : line_text w ≡ line_text v =
      line_begins (codes "word") ws ∙ ap (λ t. codes "word" ++ (t ++ codes "\n")) e ∙ sym (line_begins (codes "word") vs) in
      let text : lines_text (w ∷ []) ≡ lines_text (v ∷ []) =
      flat_map-cons line_text w [] ∙ ap (λ t. t ++ lines_text []) line ∙ sym (flat_map-cons line_text v []) in
      let same : placed_lines 0 (w ∷ []) ≡ placed_lines 0 (v ∷ []) =
      one (lines_text (w ∷ [])) (placed_lines 0 (w ∷ [])) (placed_lines 0 (v ∷ [])) (printed 0 (w ∷ []) (a_line ws a))
      (subst (λ t. HasLines t (placed_lines 0 (v ∷ []))) (sym text) (printed 0 (v ∷ []) (a_line vs b))) in
      ap (λ (ls : List Line). drop 1 (line_at ls 0).words) same

-- ---- what is left of a text, of which the words from one on are to be the rest

pub record IsLeft (words : Words) (at : ℕ) (text rest : List ℕ) : Type 0 where
  pub forth : text ≡ words_behind (drop 2 words) → rest ≡ words_behind (drop at words)
  pub back : rest ≡ words_behind (drop at words) → text ≡ words_behind (drop 2 words)
  pub each : (k : ℕ) → k < at → 2 ≤ k → IsLineWord (get_or words k [])

module _ (words : Words) (at : ℕ) (lt : at < length words) where
  behind_word : words_behind (drop at words) ≡ codes " " ++ (get_or words at [] ++ words_behind (drop (at + 1) words))
  behind_word =
      at_drop_more words_behind words at [] lt
      ∙ flat_map-cons (λ (w : List ℕ). codes " " ++ w) (get_or words at []) (drop (at + 1) words)
      ∙ append_assoc (codes " ") (get_or words at []) (words_behind (drop (at + 1) words))

  module _ (text rest : List ℕ) (h : IsLeft words at text rest) where
    pub next_left : (word spaced next : List ℕ) → word ≡ get_or words at [] → IsLineWord word → rest ≡ codes " " ++ spaced
        → spaced ≡ word ++ next → IsLeft words (at + 1) text next
    next_left word spaced next is line e f =
        let whole : rest ≡ codes " " ++ (get_or words at [] ++ next) =
        e ∙ ap (λ t. codes " " ++ t) f ∙ ap (λ w. codes " " ++ (w ++ next)) is in
        let tail : List ℕ = words_behind (drop (at + 1) words) in
        record {
          forth = λ g. append_cancel_left (codes " " ++ get_or words at []) next tail
              (append_assoc (codes " ") (get_or words at []) next ∙ sym whole ∙ h.forth g ∙ behind_word
              ∙ sym (append_assoc (codes " ") (get_or words at []) tail));
          back = λ g. h.back (whole ∙ ap (λ t. codes " " ++ (get_or words at [] ++ t)) g ∙ sym behind_word);
          each =
              below_more (λ k. 2 ≤ k → IsLineWord (get_or words k [])) at h.each (λ low. subst IsLineWord is line);
        }

    -- no space, or another word behind it, where those of the rest stand
    pub no_space : ((spaced : List ℕ) → rest ≡ codes " " ++ spaced → ⊥) → text ≡ words_behind (drop 2 words) → ⊥
    no_space never e = never (get_or words at [] ++ words_behind (drop (at + 1) words)) (h.forth e ∙ behind_word)

    pub no_word : (word spaced : List ℕ) → word ≡ get_or words at [] → rest ≡ codes " " ++ spaced
        → ((next : List ℕ) → spaced ≡ word ++ next → ⊥) → text ≡ words_behind (drop 2 words) → ⊥
    no_word word spaced is e never g =
        let tail : List ℕ = words_behind (drop (at + 1) words) in
        never tail
        (append_cancel_left (codes " ") spaced (word ++ tail)
        (sym e ∙ h.forth g ∙ behind_word ∙ ap (λ w. codes " " ++ (w ++ tail)) (sym is)))

line_words_from : (words : Words) (at : ℕ) (text rest : List ℕ) → IsLeft words at text rest → length words ≤ at
    → All IsLineWord (drop 2 words)
line_words_from words at text rest h all =
    All-from_get_or IsLineWord (drop 2 words) []
    (λ i lt. subst IsLineWord (sym (get_or-drop 2 words i []))
    (h.each (2 + i) (let n = length-drop 2 words in omega (arith, n)) (omega arith)))

-- the text of an instruction with a space before it
module _ (printed : PrintedAreLines) (one : LinesAreOne) (instr : Instr) (fine : All IsLineWord (instr_words instr))
    (words : Words) (text : List ℕ) (is : text ≡ codes " " ++ text_of instr) where
  pub says : drop 2 words ≡ instr_words instr → text ≡ words_behind (drop 2 words)
  says e = is ∙ sym (instr_text instr) ∙ ap words_behind (sym e)

  -- nothing is left exactly where the words are those of the instruction
  pub nothing_left : (at : ℕ) (rest : List ℕ) → IsLeft words at text rest → length words ≤ at
      → (rest ≡ []) ↔ (drop 2 words ≡ instr_words instr)
  nothing_left at rest h all =
      let none : words_behind (drop at words) ≡ [] = at_drop_all words_behind words at all in (
        (λ e. one_spacing printed one (drop 2 words) (instr_words instr) (line_words_from words at text rest h all) fine
            (sym (h.back (e ∙ sym none)) ∙ is ∙ sym (instr_text instr))),
        (λ e. h.forth (says e) ∙ none),
      )
