-- The first fault of the lines of a program.
use Rattle.std.proofs.Common.{◌≡◌, ℕ, zero, suc, ◌+◌, ◌-◌, ◌<◌, ◌≤◌, List, [], ◌∷◌, ◌++◌, length, take, get_or, refl, sym, ap, subst, ◌∙◌, arith}
use Rattle.std.proofs.lemmas.List.{take-take, take_more, length-take-le}
use Rattle.text_core.specs.Faults.{IsFaultBy}
use Rattle.text_core.specs.Lines.{Line, line_at}
use Rattle.text_core.specs.LineTexts.{Words, words_of_lines}
use Rattle.text_core.specs.declared.faults.Kind.{Kind}
use Rattle.text_core.specs.declared.faults.Kind.TheVariants.{BadLine, LimitPassed}
use Rattle.text_core.specs.declared.faults.TextFault.{TextFault}
use Rattle.run_texts.specs.declared.texts.RunText.{RunText}
use Rattle.run_texts.specs.RunTexts.{IsRunText}
use Rattle.run_texts.specs.RunFaults.{word_count, IsWithinLimits, IsRunFaultAt, bad_line, past_limit, IsFirstRunFault}
use Rattle.run_texts.specs.SoFar.{IsRunTextTo, IsFaultAtLine}
use Rattle.run_texts.proofs.LastLines.{one_run}
use Rattle.run_texts.proofs.Fronts.{Front, front_of}

pub line_words : (lines : List Line) (at : ℕ) → get_or (words_of_lines lines) at [] ≡ (line_at lines at).words
line_words [] at = refl
line_words (l ∷ lines) zero = refl
line_words (l ∷ lines) (suc at) = line_words lines at

pub line_count : (lines : List Line) → length (words_of_lines lines) ≡ length lines
line_count [] = refl
line_count (l ∷ lines) = ap suc (line_count lines)

pub same_run : (count : ℕ) (lines : List Words) (run other : RunText) → IsRunText count lines run → IsRunText count lines other
    → (run.words ≡ other.words) × (run.registers ≡ other.registers) × (run.places ≡ other.places)
same_run count lines run other h g =
    let s = one_run count (length lines) lines refl run.words other.words run.registers other.registers run.places other.places h g in
    (s.words, s.registers, s.places)

-- before lines that are a program within the limits no line has a fault
pub no_fault_before : (lines : List Words) (n : ℕ) (run : RunText) → n ≤ length lines → IsRunTextTo lines n run → (at : ℕ) (kind : Kind) → at < n → IsRunFaultAt lines at kind → ⊥
no_fault_before lines n run within h at kind less f = by_kind f
  where
    front : Front (word_count lines) (take (at + 1) lines) run
    front =
        let size : length (take n lines) ≡ (at + 1) + (n - (at + 1)) = (let e = length-take-le n lines within in omega arith) in
        let cut : take (at + 1) (take n lines) ≡ take (at + 1) lines = take-take (at + 1) n lines (omega arith) in
        subst (λ l. Front (word_count lines) l run) cut (front_of (word_count lines) (n - (at + 1)) (at + 1) (take n lines) size run h.is)

    by_kind : IsRunFaultAt lines at kind → ⊥
    by_kind (bad_line lt before never is) = never front.front front.is
    by_kind (past_limit {run = longer} lt there past is) =
        let same = same_run (word_count lines) (take (at + 1) lines) front.front longer front.is there in
        let w : length front.front.words ≡ length longer.words = ap length same.0 in
        let p : length front.front.places ≡ length longer.places = ap length same.2 in
        let few = h.within.words in
        let fewer = h.within.places in
        let fw = front.words in
        let fp = front.places in
        past (record { words = omega arith; places = omega arith })

-- the first fault, at the line behind those that were read
module _ (lines : List Line) (at : ℕ) (run : RunText) (read : IsRunTextTo (words_of_lines lines) at run) (lt : at < length lines) where
  inside : at < length (words_of_lines lines)
  inside = (let n = line_count lines in omega arith)

  first : (kind : Kind) → IsRunFaultAt (words_of_lines lines) at kind → (place : ℕ) → place ≡ (line_at lines at).place → IsFirstRunFault lines place kind
  first kind f place placed =
      record {
        at = at;
        found = f;
        placed = placed;
        earliest = λ other another g. not_less other another g;
      }
    where
      not_less : (other : ℕ) (another : Kind) → IsRunFaultAt (words_of_lines lines) other another → at ≤ other
      not_less other another g =
          let never : other < at → ⊥ = λ less. no_fault_before (words_of_lines lines) at run (let i = inside in omega arith) read other another less g in
          omega (arith, never)

  fault_by : (kind : Kind) (fault : TextFault) → IsFaultAtLine lines at kind fault → IsRunFaultAt (words_of_lines lines) at kind → IsFaultBy (IsFirstRunFault lines) fault
  fault_by kind fault f found = subst (IsFaultBy (IsFirstRunFault lines)) (sym f.is) (first kind found f.place f.placed)

  pub bad_line_first : (fault : TextFault) → IsFaultAtLine lines at BadLine fault
      → ((longer : RunText) → IsRunText (word_count (words_of_lines lines)) (take (at + 1) (words_of_lines lines)) longer → ⊥) → IsFaultBy (IsFirstRunFault lines) fault
  bad_line_first fault f never = fault_by BadLine fault f (bad_line inside read.is never refl)

  pub past_limit_first : (fault : TextFault) → IsFaultAtLine lines at LimitPassed fault
      → (longer : RunText) → IsRunText (word_count (words_of_lines lines)) (take (at + 1) (words_of_lines lines)) longer → (IsWithinLimits longer → ⊥) → IsFaultBy (IsFirstRunFault lines) fault
  past_limit_first fault f longer is past = fault_by LimitPassed fault f (past_limit inside is past refl)

  pub next_lines : take (at + 1) (words_of_lines lines) ≡ take at (words_of_lines lines) ++ (line_at lines at).words ∷ []
  next_lines =
      take_more (words_of_lines lines) at [] inside ∙ ap (λ l. take at (words_of_lines lines) ++ l ∷ []) (line_words lines at)
