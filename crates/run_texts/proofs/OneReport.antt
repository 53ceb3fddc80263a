-- A program has one report.
use Rattle.std.proofs.Common.{◌≡◌, ℕ, List, [], ◌∷◌, length, map, refl, sym, ap, subst, ◌∙◌, arith, Option, Some, ◌/◌, ◌≤◌}
use Rattle.std.proofs.lemmas.List.{length-map}
use Rattle.std.proofs.lemmas.Option.{slice_get_past}
use Rattle.std.specs.Prelude.{IsSomeAnd, IsTrue}
use Rattle.text_core.specs.LineTexts.{lines_text}
use Rattle.alpha_encode.specs.Decoded.{decoded}
use Rattle.alpha_encode.specs.declared.instructions.Instr.{Instr}
use Rattle.alpha_machine.specs.States.{MachineState}
use Rattle.alpha_machine.specs.Steps.{traps}
use Rattle.alpha_machine.specs.Runs.{after, fetched, EndsIn}
use Rattle.alpha_machine.specs.declared.running.End.{End}
use Rattle.alpha_machine.specs.declared.running.End.TheVariants.{Fall, Exit, Trap}
use Rattle.run_texts.specs.declared.texts.RunText.{RunText}
use Rattle.run_texts.specs.Reports.{IsRunReport, start_state, report_lines}

some_once : {X : Type 0} (xs ys : List X) → map Some xs ≡ map Some ys → xs ≡ ys
some_once [] [] e = refl
some_once [] (y ∷ ys) e = absurd (let n = ap length e in omega arith)
some_once (x ∷ xs) [] e = absurd (let n = ap length e in omega arith)
some_once {X} (x ∷ xs) (y ∷ ys) e =
    let head : x ≡ y = cc in
    let rest : map Some xs ≡ map Some ys = cc in
    ap (λ z. z ∷ xs) head ∙ ap (λ l. y ∷ l) (some_once xs ys rest)

-- past the words nothing traps
no_trap : (instrs : List Instr) (s : MachineState)
    → length instrs ≤ s.pc / 4 → IsSomeAnd (fetched instrs s) (λ i. IsTrue (traps i s)) → ⊥
no_trap instrs s past trap =
    subst (λ (o : Option Instr). IsSomeAnd o (λ i. IsTrue (traps i s))) (slice_get_past instrs (s.pc / 4) past) trap

one_end : (end other : End) (n : ℕ) (instrs : List Instr) (s : MachineState)
    → length instrs ≡ n → EndsIn end n instrs s → EndsIn other n instrs s → end ≡ other
one_end Fall Fall n instrs s size e f = refl
one_end Exit Exit n instrs s size e f = refl
one_end Trap Trap n instrs s size e f = refl
one_end Fall Exit n instrs s size e f = absurd (omega arith)
one_end Exit Fall n instrs s size e f = absurd (omega arith)
one_end Fall Trap n instrs s size e f = absurd (no_trap instrs s (omega arith) f)
one_end Exit Trap n instrs s size e f = absurd (no_trap instrs s (omega arith) f)
one_end Trap Fall n instrs s size e f = absurd (no_trap instrs s (omega arith) e)
one_end Trap Exit n instrs s size e f = absurd (no_trap instrs s (omega arith) e)

pub one_report : (run : RunText) (bytes others : List ℕ) → IsRunReport run bytes → IsRunReport run others → bytes ≡ others
one_report run bytes others h g =
    let instrs = some_once h.runs.instrs g.runs.instrs (sym h.runs.decode ∙ g.runs.decode) in
    let state : h.state ≡ g.state = sym h.runs.steps ∙ ap (λ is. after (length run.words) is (start_state run)) instrs ∙ g.runs.steps in
    let size : length g.runs.instrs ≡ length run.words =
    sym (length-map g.runs.instrs Some) ∙ sym (ap length g.runs.decode) ∙ length-map run.words decoded in
    let ends : EndsIn h.end (length run.words) g.runs.instrs g.state =
    subst (EndsIn h.end (length run.words) g.runs.instrs) state
    (subst (λ is. EndsIn h.end (length run.words) is h.state) instrs h.runs.ends) in
    let end : h.end ≡ g.end = one_end h.end g.end (length run.words) g.runs.instrs g.state size ends g.runs.ends in
    h.is ∙ ap (λ s. lines_text (report_lines h.end s)) state ∙ ap (λ e. lines_text (report_lines e g.state)) end ∙ sym g.is
