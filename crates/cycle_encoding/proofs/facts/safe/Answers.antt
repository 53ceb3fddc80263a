use Rattle.std.proofs.Common.{◌∙◌, ◌<◌, ◌≤◌, ◌==◌, ℕ, not, List, ap, sym, subst, get_or, map}
use Rattle.std.specs.Prelude.{length, ◌&&◌}
use Rattle.std.specs.List.{list_any, range_with_len}
use Rattle.std.proofs.lemmas.List.{take_all}
use Rattle.graph_meaning.specs.declared.graphs.InputClass.{InputClass}
use Rattle.cycle_encoding.specs.Variables.{is_pin, is_safe}
use Rattle.cycle_encoding.proofs.Marking.{mark_step}
use Rattle.cycle_encoding.proofs.Tables.{table_of}
use Rattle.cycle_encoding.proofs.facts.safe.Goals as goal

pub loop-input-preserved : goal.loop-input-preserved
loop-input-preserved c =
    let g = c.args.graph.now in
    let inputs = g.inputs in
    let i = c.loop-input.input-index in
    let input = c.input-item.result in
    let at = c.input-item.is ∙ ap (λ (xs : List InputClass). get_or xs i input) c.as_slice-input-items.ensures in
    let test = λ (class : ℕ) (x : InputClass). (x.class == class) && not (is_pin g x.reg) in
    mark_step test inputs i input c.args.classes input.class (not c.is_pin-passes.result) c.loop-input.table.items c.mark.new.marks.items (subst (λ (xs : List InputClass). i < length xs) c.as_slice-input-items.ensures c.loop-input-test.true) (λ class. ap (test class) (sym at) ∙ ap (λ b. (input.class == class) && not b) (sym c.is_pin-passes.ensures)) c.loop-input.invariant c.mark.ensures

pub returns : goal.returns
returns c =
    let g = c.args.graph.now in
    let inputs = g.inputs in
    table_of (is_safe g) c.args.classes c.loop-input.table.items (c.loop-input.invariant ∙ ap (λ (xs : List InputClass). map (λ (class : ℕ). list_any (λ (x : InputClass). (x.class == class) && not (is_pin g x.reg)) xs) (range_with_len 0 c.args.classes)) (take_all c.loop-input.input-index inputs (subst (λ (xs : List InputClass). length xs ≤ c.loop-input.input-index) c.as_slice-input-items.ensures c.loop-input-test.false)))
