use Rattle.std.proofs.Common.{rules, ◌≡◌, ◌<◌, ◌&&◌, ◌∙◌, sym, ap, List, length, get_or, subst, Bool, true, false, Some}
use Rattle.std.specs.Prelude.{◌==◌, option_map}
use Rattle.graph_meaning.specs.declared.graphs.InputClass.{InputClass}
use Rattle.schedule_meaning.specs.Readers.{is_intact}
use Rattle.schedule_meaning.proofs.Finding.{find_here, find_later}
use Rattle.schedule_meaning.proofs.readers.input_for.Goals as goal

pub returns-then-may_read : goal.returns-then-may_read
returns-then-may_read c =
    let test : InputClass → Bool = λ i. (i.class == c.args.class) && is_intact c.args.graph.now c.args.list.now c.args.reader i.reg in
    let same : c.as_slice-input-items.result.now ≡ c.args.graph.now.inputs = c.as_slice-input-items.ensures in
    let inside = subst (λ (xs : List InputClass). c.loop-input.input-index < length xs) same c.loop-input-test.true in
    let item = subst (λ (xs : List InputClass). c.input-item.result ≡ get_or xs c.loop-input.input-index c.input-item.result) same c.input-item.is in
    let passes : test c.input-item.result ≡ true = search rules in
    ap (λ (i : InputClass). Some i.reg) item
    ∙ sym (ap (option_map (λ (i : InputClass). i.reg)) (c.loop-input.invariant ∙ find_here test c.args.graph.now.inputs c.loop-input.input-index c.input-item.result inside (ap test (sym item) ∙ passes)))

pub loop-input-preserved : goal.loop-input-preserved
loop-input-preserved c =
    let test : InputClass → Bool = λ i. (i.class == c.args.class) && is_intact c.args.graph.now c.args.list.now c.args.reader i.reg in
    let same : c.as_slice-input-items.result.now ≡ c.args.graph.now.inputs = c.as_slice-input-items.ensures in
    let inside = subst (λ (xs : List InputClass). c.loop-input.input-index < length xs) same c.loop-input-test.true in
    let item = subst (λ (xs : List InputClass). c.input-item.result ≡ get_or xs c.loop-input.input-index c.input-item.result) same c.input-item.is in
    let fails : test c.input-item.result ≡ false = search rules in
    c.loop-input.invariant ∙ find_later test c.args.graph.now.inputs c.loop-input.input-index c.input-item.result inside (ap test (sym item) ∙ fails)
