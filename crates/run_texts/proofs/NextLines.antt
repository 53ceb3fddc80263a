-- What a line behind those that were read must be, by its first word, and what is read with it.
use Rattle.std.proofs.Common.{◌≡◌, ◌≢◌, ℕ, ◌+◌, ◌<◌, ◌/◌, List, [], ◌∷◌, ◌++◌, length, take, get_or, sym, ap, subst, ◌∙◌, arith, codes}
use Rattle.std.specs.Prelude.{All}
use Rattle.std.proofs.lemmas.List.{length_push}
use Rattle.text_core.specs.Faults.{IsFaultBy}
use Rattle.text_core.specs.Lines.{Line, line_at}
use Rattle.text_core.specs.LineTexts.{Words, words_of_lines}
use Rattle.text_core.specs.declared.faults.Kind.TheVariants.{BadLine, LimitPassed}
use Rattle.text_core.specs.declared.faults.TextFault.{TextFault}
use Rattle.alpha_machine.specs.Runs.{MayStandAt}
use Rattle.run_texts.specs.declared.texts.RegisterWord.{RegisterWord}
use Rattle.run_texts.specs.declared.texts.PlaceWord.{PlaceWord}
use Rattle.run_texts.specs.declared.texts.RunText.{RunText}
use Rattle.run_texts.specs.RunTexts.{IsRunText}
use Rattle.run_texts.specs.RunFaults.{word_count, IsFirstRunFault}
use Rattle.run_texts.specs.LineReading.{IsWordLine, IsRegisterLine, IsPlaceLine}
use Rattle.run_texts.specs.SoFar.{IsRunTextTo, IsFaultAtLine}
use Rattle.run_texts.proofs.LastLines.{made, LastLine, word, register, place, last_line}
use Rattle.run_texts.proofs.Fronts.{with_word, with_register, with_place}
use Rattle.run_texts.proofs.FirstFaults.{same_run, bad_line_first, past_limit_first, next_lines}

pub record NextWord (count : ℕ) (line : Words) (run : RunText) : Type 0 where
  pub next : ℕ
  pub is : IsWordLine line next
  pub stands : MayStandAt count (length run.words) next
  pub registers : run.registers ≡ []
  pub places : run.places ≡ []

pub record NextRegister (line : Words) (run : RunText) : Type 0 where
  pub next : RegisterWord
  pub is : IsRegisterLine line next
  pub fresh : All (λ q. q.register ≢ next.register) run.registers
  pub places : run.places ≡ []

pub record NextPlace (line : Words) (run : RunText) : Type 0 where
  pub next : PlaceWord
  pub is : IsPlaceLine line next
  pub fresh : All (λ q. q.address / 8 ≢ next.address / 8) run.places

module _ (lines : List Line) (at : ℕ) (run : RunText) (read : IsRunTextTo (words_of_lines lines) at run) (lt : at < length lines) where
  abbrev All' : List Words
  All' = words_of_lines lines

  abbrev Line' : Words
  Line' = (line_at lines at).words

  abbrev Count : ℕ
  Count = word_count (words_of_lines lines)

  abbrev Longer : Type 0
  Longer = (longer : RunText) → IsRunText Count (take (at + 1) All') longer → ⊥

  last : (longer : RunText) → IsRunText Count (take (at + 1) All') longer → LastLine Count (take at All') Line' longer.words longer.registers longer.places
  last longer h =
      last_line Count (take at All') Line' longer.words longer.registers longer.places
      (subst (λ l. IsRunText Count l longer) (next_lines lines at run read lt) h)

  -- ---- a line that begins with `word`

  word_of : get_or Line' 0 [] ≡ codes "word" → (longer : RunText) → LastLine Count (take at All') Line' longer.words longer.registers longer.places → NextWord Count Line' run
  word_of head longer (word vs w e1 e2 e3 is st r) =
      let s = same_run Count (take at All') (made vs [] []) run r read.is in
      record { next = w; is = is; stands = subst (λ (l : List ℕ). MayStandAt Count (length l) w) s.0 st; registers = sym s.1; places = sym s.2 }
  word_of head longer (register qs q e1 e2 is al r) =
      let e : 119 ≡ 114 = ap (λ (w : List ℕ). get_or w 0 0) (sym head ∙ ap (λ (l : Words). get_or l 0 []) is.is) in absurd (omega (arith, e))
  word_of head longer (place qs q e1 is al r) =
      let e : 119 ≡ 109 = ap (λ (w : List ℕ). get_or w 0 0) (sym head ∙ ap (λ (l : Words). get_or l 0 []) is.is) in absurd (omega (arith, e))

  pub not_a_word : (fault : TextFault) → IsFaultAtLine lines at BadLine fault → get_or Line' 0 [] ≡ codes "word" → (NextWord Count Line' run → ⊥) → IsFaultBy (IsFirstRunFault lines) fault
  not_a_word fault f head never = bad_line_first lines at run read lt fault f (λ longer h. never (word_of head longer (last longer h)))

  pub word_more : (w : ℕ) → run.registers ≡ [] → run.places ≡ [] → IsWordLine Line' w → MayStandAt Count (length run.words) w
      → IsRunText Count (take (at + 1) All') (made (run.words ++ w ∷ []) run.registers run.places)
  word_more w none bare is stands =
      subst (λ l. IsRunText Count l (made (run.words ++ w ∷ []) run.registers run.places)) (sym (next_lines lines at run read lt))
      (with_word Count (take at All') Line' run w none bare read.is is stands)

  pub too_many_words : (fault : TextFault) → IsFaultAtLine lines at LimitPassed fault → (w : ℕ) → run.registers ≡ [] → run.places ≡ [] → IsWordLine Line' w
      → MayStandAt Count (length run.words) w → length run.words ≡ 4096 → IsFaultBy (IsFirstRunFault lines) fault
  too_many_words fault f w none bare is stands full =
      past_limit_first lines at run read lt fault f (made (run.words ++ w ∷ []) run.registers run.places) (word_more w none bare is stands)
      (λ h. (let few = h.words in let n = length_push run.words w in absurd (omega arith)))

  pub word_read : (w : ℕ) → run.registers ≡ [] → run.places ≡ [] → IsWordLine Line' w → MayStandAt Count (length run.words) w → length run.words ≢ 4096
      → IsRunTextTo All' (at + 1) (made (run.words ++ w ∷ []) run.registers run.places)
  word_read w none bare is stands room =
      record {
        is = word_more w none bare is stands;
        within = record { words = (let few = read.within.words in let n = length_push run.words w in omega arith); places = read.within.places };
      }

  -- ---- a line that begins with `reg`

  register_of : get_or Line' 0 [] ≡ codes "reg" → (longer : RunText) → LastLine Count (take at All') Line' longer.words longer.registers longer.places → NextRegister Line' run
  register_of head longer (word vs w e1 e2 e3 is st r) =
      let e : 114 ≡ 119 = ap (λ (w : List ℕ). get_or w 0 0) (sym head ∙ ap (λ (l : Words). get_or l 0 []) is.is) in absurd (omega (arith, e))
  register_of head longer (register qs q e1 e2 is al r) =
      let s = same_run Count (take at All') (made longer.words qs []) run r read.is in
      record { next = q; is = is; fresh = subst (λ l. All (λ (x : RegisterWord). x.register ≢ q.register) l) s.1 al; places = sym s.2 }
  register_of head longer (place qs q e1 is al r) =
      let e : 114 ≡ 109 = ap (λ (w : List ℕ). get_or w 0 0) (sym head ∙ ap (λ (l : Words). get_or l 0 []) is.is) in absurd (omega (arith, e))

  pub not_a_register : (fault : TextFault) → IsFaultAtLine lines at BadLine fault → get_or Line' 0 [] ≡ codes "reg" → (NextRegister Line' run → ⊥) → IsFaultBy (IsFirstRunFault lines) fault
  not_a_register fault f head never = bad_line_first lines at run read lt fault f (λ longer h. never (register_of head longer (last longer h)))

  pub register_read : (r : RegisterWord) → run.places ≡ [] → IsRegisterLine Line' r → All (λ q. q.register ≢ r.register) run.registers
      → IsRunTextTo All' (at + 1) (made run.words (run.registers ++ r ∷ []) run.places)
  register_read r bare is fresh =
      record {
        is = subst (λ l. IsRunText Count l (made run.words (run.registers ++ r ∷ []) run.places)) (sym (next_lines lines at run read lt))
            (with_register Count (take at All') Line' run r bare read.is is fresh);
        within = record { words = read.within.words; places = read.within.places };
      }

  -- ---- any other line

  place_of : (get_or Line' 0 [] ≡ codes "word" → ⊥) → (get_or Line' 0 [] ≡ codes "reg" → ⊥) → (longer : RunText)
      → LastLine Count (take at All') Line' longer.words longer.registers longer.places → NextPlace Line' run
  place_of head other longer (word vs w e1 e2 e3 is st r) = absurd (head (ap (λ (l : Words). get_or l 0 []) is.is))
  place_of head other longer (register qs q e1 e2 is al r) = absurd (other (ap (λ (l : Words). get_or l 0 []) is.is))
  place_of head other longer (place qs q e1 is al r) =
      let s = same_run Count (take at All') (made longer.words longer.registers qs) run r read.is in
      record { next = q; is = is; fresh = subst (λ l. All (λ (x : PlaceWord). x.address / 8 ≢ q.address / 8) l) s.2 al }

  pub not_a_place : (fault : TextFault) → IsFaultAtLine lines at BadLine fault → (get_or Line' 0 [] ≡ codes "word" → ⊥) → (get_or Line' 0 [] ≡ codes "reg" → ⊥)
      → (NextPlace Line' run → ⊥) → IsFaultBy (IsFirstRunFault lines) fault
  not_a_place fault f head other never = bad_line_first lines at run read lt fault f (λ longer h. never (place_of head other longer (last longer h)))

  pub place_more : (p : PlaceWord) → IsPlaceLine Line' p → All (λ q. q.address / 8 ≢ p.address / 8) run.places
      → IsRunText Count (take (at + 1) All') (made run.words run.registers (run.places ++ p ∷ []))
  place_more p is fresh =
      subst (λ l. IsRunText Count l (made run.words run.registers (run.places ++ p ∷ []))) (sym (next_lines lines at run read lt))
      (with_place Count (take at All') Line' run p read.is is fresh)

  pub too_many_places : (fault : TextFault) → IsFaultAtLine lines at LimitPassed fault → (p : PlaceWord) → IsPlaceLine Line' p
      → All (λ q. q.address / 8 ≢ p.address / 8) run.places → length run.places ≡ 4096 → IsFaultBy (IsFirstRunFault lines) fault
  too_many_places fault f p is fresh full =
      past_limit_first lines at run read lt fault f (made run.words run.registers (run.places ++ p ∷ [])) (place_more p is fresh)
      (λ h. (let few = h.places in let n = length_push run.places p in absurd (omega arith)))

  pub place_read : (p : PlaceWord) → IsPlaceLine Line' p → All (λ q. q.address / 8 ≢ p.address / 8) run.places → length run.places ≢ 4096
      → IsRunTextTo All' (at + 1) (made run.words run.registers (run.places ++ p ∷ []))
  place_read p is fresh room =
      record {
        is = place_more p is fresh;
        within = record { words = read.within.words; places = (let few = read.within.places in let n = length_push run.places p in omega arith) };
      }
