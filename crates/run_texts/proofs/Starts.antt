-- A program's report, from the state that it starts in.
use Rattle.std.proofs.Common.{◌≡◌, ℕ, List, ap, subst, ◌∙◌, Result, Ok, Err}
use Rattle.std.specs.Prelude.{IfOk}
use Rattle.word_ops.specs.Memory.{Memory}
use Rattle.text_core.specs.LineTexts.{lines_text}
use Rattle.alpha_machine.specs.States.{MachineState}
use Rattle.alpha_machine.specs.Runs.{Runs}
use Rattle.alpha_machine.specs.declared.running.End.{End}
use Rattle.run_texts.specs.declared.texts.RegisterWord.{RegisterWord}
use Rattle.run_texts.specs.declared.texts.PlaceWord.{PlaceWord}
use Rattle.run_texts.specs.declared.texts.RunText.{RunText}
use Rattle.run_texts.specs.Reports.{start_registers, start_memory, start_state, IsRunReport, report_lines}

state_of : List ℕ → Memory → MachineState
state_of registers memory = record { registers = registers; memory = memory; pc = 0 }

pub started : (run : RunText) (s : MachineState) (registers : List ℕ) (memory : Memory) (rs : List RegisterWord) (ps : List PlaceWord)
    → s ≡ record { registers = registers; memory = memory; pc = 0 } → registers ≡ start_registers rs → rs ≡ run.registers
    → memory ≡ start_memory ps → ps ≡ run.places → s ≡ start_state run
unfolding state_of
started run s registers memory rs ps is e f g h =
    is ∙ ap (λ r. state_of r memory) (e ∙ ap start_registers f) ∙ ap (λ m. state_of (start_registers run.registers) m) (g ∙ ap start_memory h)

pub reported : (run : RunText) (words : List ℕ) (start state : MachineState) (end : End) (bytes : List ℕ) → words ≡ run.words → start ≡ start_state run
    → Runs words start end state → bytes ≡ lines_text (report_lines end state) → IsRunReport run bytes
reported run words start state end bytes e f runs is =
    record {
      end = end;
      state = state;
      runs = subst (λ ws. Runs ws (start_state run) end state) e (subst (λ s. Runs words s end state) f runs);
      is = is;
    }

pub ok_weaker : {X E : Type 0} (r : Result X E) (P Q : X → Type 0) → ((x : X) → P x → Q x) → IfOk r P → IfOk r Q
ok_weaker (Ok x) P Q f h = f x h
ok_weaker (Err e) P Q f h = h
