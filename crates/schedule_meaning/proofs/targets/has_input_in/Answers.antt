use Rattle.std.proofs.Common.{rules, ◌≡◌, ◌<◌, ◌∙◌, sym, List, length, get_or, subst, false}
use Rattle.std.proofs.lemmas.Bool.{false≢true}
use Rattle.graph_meaning.specs.declared.graphs.InputClass.{InputClass}
use Rattle.schedule_meaning.proofs.Loops.{all_more, none_passes, one_passes}
use Rattle.schedule_meaning.proofs.targets.has_input_in.Goals as goal

pub returns-then-is_input_in : goal.returns-then-is_input_in
returns-then-is_input_in c =
    let same : c.as_slice-input-items.result.now ≡ c.args.graph.now.inputs = c.as_slice-input-items.ensures in
    let inside = subst (λ (xs : List InputClass). c.loop-input.input-index < length xs) same c.loop-input-test.true in
    let item = subst (λ (xs : List InputClass). c.input-item.result ≡ get_or xs c.loop-input.input-index c.input-item.result) same c.input-item.is in
    one_passes (λ i. (i.class ≡ c.args.class) × (i.reg ≡ c.args.register)) c.args.graph.now.inputs c.loop-input.input-index c.input-item.result inside item (c.is_input_in.ensures.0 c.if-is_input_in.true)

pub loop-input-preserved : goal.loop-input-preserved
loop-input-preserved c k d =
    let same : c.as_slice-input-items.result.now ≡ c.args.graph.now.inputs = c.as_slice-input-items.ensures in
    let inside = subst (λ (xs : List InputClass). c.loop-input.input-index < length xs) same c.loop-input-test.true in
    let item = subst (λ (xs : List InputClass). c.input-item.result ≡ get_or xs c.loop-input.input-index c.input-item.result) same c.input-item.is in
    let fails : c.is_input_in.result ≡ false = search rules in
    let here : ¬ ((c.input-item.result.class ≡ c.args.class) × (c.input-item.result.reg ≡ c.args.register)) = λ h. false≢true (sym fails ∙ c.is_input_in.ensures.1 h) in
    all_more (λ i. ¬ ((i.class ≡ c.args.class) × (i.reg ≡ c.args.register))) c.args.graph.now.inputs c.loop-input.input-index c.input-item.result inside c.loop-input.invariant
    (subst (λ (i : InputClass). ¬ ((i.class ≡ c.args.class) × (i.reg ≡ c.args.register))) item here) k d

pub returns : goal.returns
returns c = none_passes (λ i. (i.class ≡ c.args.class) × (i.reg ≡ c.args.register)) c.args.graph.now.inputs c.loop-input.input-index (search rules) c.loop-input.invariant
