-- What running a program prints. Source: this project, over the machine's steps.
use Rattle.std.specs.Prelude.{ℕ, ◌≡◌, ◌+◌, ◌*◌, ◌/◌, ◌<◌, ◌^◌, ◌==◌, if◌then◌else◌, List, [], ◌∷◌, ◌++◌, length, map, take, set, fold, replicate, codes, All}
use Rattle.std.specs.FinMap.{empty, entries}
use Rattle.word_ops.specs.Memory.{Memory, put_word}
use Rattle.text_core.specs.LineTexts.{Words, lines_text}
use Rattle.alpha_machine.specs.States.{MachineState}
use Rattle.alpha_machine.specs.Runs.{Runs, AllMayStand}
use Rattle.alpha_machine.specs.declared.running.End.{End}
use Rattle.alpha_machine.specs.declared.running.End.TheVariants.{Fall, Exit, Trap}
use Rattle.run_texts.specs.declared.texts.RegisterWord.{RegisterWord}
use Rattle.run_texts.specs.declared.texts.PlaceWord.{PlaceWord}
use Rattle.run_texts.specs.declared.texts.RunText.{RunText}
use Rattle.run_texts.specs.RunTexts.{register_words, place_words}

-- 32 registers that hold 0, but for the words that are given
abbrev pub start_registers : List RegisterWord → List ℕ
start_registers given = fold (λ registers r. set registers r.register r.word) (replicate 32 0) given

-- a memory that holds 0, but for the words that are given
abbrev pub start_memory : List PlaceWord → Memory
start_memory given = fold (λ memory p. put_word memory (p.address / 8) p.word) empty given

abbrev pub start_state : RunText → MachineState
start_state run =
    record { registers = start_registers run.registers; memory = start_memory run.places; pc = 0 }

-- Each word may stand where it does, and no register past 30 is given.
pub record CanRun (run : RunText) : Type 0 where
  pub few : length run.words < 2 ^ 29
  pub stand : AllMayStand run.words
  pub registers : All (λ r. r.register < 31) run.registers

abbrev pub report_end_words : End → Words
report_end_words Fall = codes "end" ∷ codes "fall" ∷ []
report_end_words Exit = codes "end" ∷ codes "exit" ∷ []
report_end_words Trap = codes "end" ∷ codes "trap" ∷ []

-- the line of a register, where its word isn't 0
abbrev pub register_line : ℕ → ℕ → List Words
register_line register word =
    if word == 0 then [] else register_words (record { register = register; word = word }) ∷ []

-- the lines of the registers from a number on
abbrev pub register_lines : ℕ → List ℕ → List Words
register_lines register [] = []
register_lines register (word ∷ words) = register_line register word ++ register_lines (register + 1) words

-- the line of a place and its word
abbrev pub report_entry_words : ℕ × ℕ → Words
report_entry_words entry = place_words (record { address = 8 * entry.0; word = entry.1 })

-- The end, the registers 0 to 30 that don't hold 0, and the places that don't hold 0, rising.
abbrev pub report_lines : End → MachineState → List Words
report_lines end state =
    report_end_words end ∷ (register_lines 0 (take 31 state.registers) ++ map report_entry_words (entries state.memory))

-- The program's words, run from the first one with what is given, end in a state with this report.
pub record IsRunReport (run : RunText) (bytes : List ℕ) : Type 0 where
  pub end : End
  pub state : MachineState
  pub runs : Runs run.words (start_state run) end state
  pub is : bytes ≡ lines_text (report_lines end state)
