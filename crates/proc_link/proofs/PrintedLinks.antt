-- The lines of linked words, piece by piece.
use Rattle.std.proofs.Common.{◌≡◌, ℕ, ◌+◌, ◌<◌, ◌≤◌, List, [], ◌∷◌, ◌++◌, length, map, take, get_or, refl, sym, ◌∙◌, ap, arith}
use Rattle.std.proofs.lemmas.List.{append-nil, append_assoc, length-map, length-take-le, map-append, take_all, take_more}
use Rattle.std.proofs.lemmas.Grind.{flat_map-append}
use Rattle.std.proofs.lemmas.List.Concat.{flat_map-cons}
use Rattle.answer_texts.specs.AnswerLines.{word_words}
use Rattle.proc_goal.specs.Views.{BlockTree, ProcTree, block_view}
use Rattle.proc_goal.specs.declared.procs.Block.{Block}
use Rattle.text_core.specs.LineTexts.{Words, line_text, lines_text}
use Rattle.proc_link.specs.LinkedLines.{block_lines, block_words, linked_lines, linked_words}

block_after : (bs : List BlockTree) (ss : List ℕ) (b : BlockTree) (s : ℕ) → length bs ≡ length ss
    → block_lines (bs ++ b ∷ []) (ss ++ s ∷ []) ≡ block_lines bs ss ++ block_words b.name s ∷ []
block_after [] [] b s same = refl
block_after [] (r ∷ ss) b s same = absurd (omega (arith, same))
block_after (c ∷ bs) [] b s same = absurd (omega (arith, same))
block_after (c ∷ bs) (r ∷ ss) b s same = ap (λ ls. block_words c.name r ∷ ls) (block_after bs ss b s (omega (arith, same)))

module _ (blocks : List Block) (starts : List ℕ) (many : length starts ≡ length blocks) where
  abbrev lines : ℕ → List Words
  lines i = block_lines (map block_view (take i blocks)) (take i starts)

  pub starts_more : (i : ℕ) (b : Block) (s : ℕ) (old text new : List ℕ) → i < length blocks → text ≡ old ++ lines_text (lines i)
      → new ≡ text ++ line_text (block_words (get_or blocks i b).name (get_or starts i s))
      → new ≡ old ++ lines_text (lines (i + 1))
  starts_more i b s old text new inside so_far printed =
      let one = block_words (get_or blocks i b).name (get_or starts i s) in
      let same : length (map block_view (take i blocks)) ≡ length (take i starts) =
      length-map (take i blocks) block_view ∙ length-take-le i blocks (omega (arith, inside))
      ∙ sym (length-take-le i starts (omega (arith, inside, many))) in
      let views : map block_view (take (i + 1) blocks) ≡ map block_view (take i blocks) ++ block_view (get_or blocks i b) ∷ [] =
      ap (map block_view) (take_more blocks i b inside) ∙ map-append block_view (take i blocks) (get_or blocks i b ∷ []) in
      let whole : lines (i + 1) ≡ lines i ++ one ∷ [] =
      (λ j. block_lines (views j) (take_more starts i s (omega (arith, inside, many)) j))
      ∙ block_after (map block_view (take i blocks)) (take i starts) (block_view (get_or blocks i b)) (get_or starts i s) same in
      printed ∙ ap (λ t. t ++ line_text one) so_far ∙ append_assoc old (lines_text (lines i)) (line_text one)
      ∙ ap (λ t. old ++ (lines_text (lines i) ++ t)) (sym (flat_map-cons line_text one [] ∙ append-nil (line_text one)))
      ∙ ap (λ t. old ++ t) (sym (flat_map-append line_text (lines i) (one ∷ [])))
      ∙ ap (λ ls. old ++ lines_text ls) (sym whole)

  pub starts_all : (i : ℕ) (old text : List ℕ) → length blocks ≤ i → text ≡ old ++ lines_text (lines i)
      → text ≡ old ++ lines_text (block_lines (map block_view blocks) starts)
  starts_all i old text past h =
      h ∙ (λ j. old ++ lines_text (block_lines (map block_view (take_all i blocks past j)) (take_all i starts (omega (arith, past, many)) j)))

-- the number of words, the words, and the starts
pub three_parts : (p : ProcTree) (words starts old t1 t2 t3 : List ℕ) → t1 ≡ old ++ line_text (linked_words (length words))
    → t2 ≡ t1 ++ lines_text (map word_words words) → t3 ≡ t2 ++ lines_text (block_lines p.blocks starts)
    → t3 ≡ old ++ lines_text (linked_lines p words starts)
three_parts p words starts old t1 t2 t3 e1 e2 e3 =
    let first = linked_words (length words) in
    let codes = map word_words words in
    let blocks = block_lines p.blocks starts in
    e3 ∙ ap (λ t. t ++ lines_text blocks) (e2 ∙ ap (λ t. t ++ lines_text codes) e1)
    ∙ append_assoc (old ++ line_text first) (lines_text codes) (lines_text blocks)
    ∙ append_assoc old (line_text first) (lines_text codes ++ lines_text blocks)
    ∙ ap (λ t. old ++ (line_text first ++ t)) (sym (flat_map-append line_text codes blocks))
    ∙ ap (λ t. old ++ t) (sym (flat_map-cons line_text first (codes ++ blocks)))
