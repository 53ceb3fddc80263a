use Rattle.std.proofs.Common.{◌≡◌, ◌++◌, map, length, ap, ◌∙◌, sym}
use Rattle.axiom_base.specs.Equations as rows
use Rattle.axiom_base.specs.Schemes.{calc_kinds}
use Rattle.saturation.specs.Asking.{asked_of_each, rule_asked, kind_asked, fold_asked}
use Rattle.saturation.specs.Instances.{asked_of}
use Rattle.saturation.proofs.asking.ask.Goals as goal

pub ask_rules-requires : goal.ask_rules-requires
ask_rules-requires c = ap length c.deref.ensures.value ∙ c.requires.by_equation ∙ sym (ap length c.equations.ensures)

pub ask_rules-requires-2 : goal.ask_rules-requires-2
ask_rules-requires-2 c = ap length c.deref-2.ensures.value ∙ c.requires.by_axiom ∙ sym (ap length c.axioms.ensures)

pub ask_kinds-requires : goal.ask_kinds-requires
ask_kinds-requires c = ap length c.deref-3.ensures.value ∙ c.requires.by_kind ∙ sym (ap length c.kinds.ensures)

pub returns : goal.returns
returns c =
    let u = c.args.unmet.now in
    let axioms = c.args.rules.now.axioms in
    let kinds = calc_kinds ++ c.args.rules.now.kinds in
    let E = asked_of_each rule_asked rows.equations u.equations.items in
    let P = asked_of_each rule_asked axioms u.axioms.items in
    let K = asked_of_each kind_asked kinds u.kinds.items in
    let first : asked_of_each rule_asked c.equations.result.now c.deref.result.now ≡ E = ap (λ rs. asked_of_each rule_asked rs c.deref.result.now) c.equations.ensures ∙ ap (asked_of_each rule_asked rows.equations) c.deref.ensures.value in
    let second : asked_of_each rule_asked c.axioms.result.now c.deref-2.result.now ≡ P = ap (λ rs. asked_of_each rule_asked rs c.deref-2.result.now) c.axioms.ensures ∙ ap (asked_of_each rule_asked axioms) c.deref-2.ensures.value in
    let third : asked_of_each kind_asked c.kinds.result.now c.deref-3.result.now ≡ K = ap (λ ks. asked_of_each kind_asked ks c.deref-3.result.now) c.kinds.ensures ∙ ap (asked_of_each kind_asked kinds) c.deref-3.ensures.value in
    let a = c.in_ok-ask_rules.ensures ∙ ap (λ xs. map asked_of xs ++ asked_of_each rule_asked c.equations.result.now c.deref.result.now) c.new-asked.ensures.items ∙ first in
    let b = c.in_ok-ask_rules-2.ensures ∙ ap (λ xs. xs ++ asked_of_each rule_asked c.axioms.result.now c.deref-2.result.now) a ∙ ap (λ xs. E ++ xs) second in
    let d = c.in_ok-ask_kinds.ensures ∙ ap (λ xs. xs ++ asked_of_each kind_asked c.kinds.result.now c.deref-3.result.now) b ∙ ap (λ xs. (E ++ P) ++ xs) third in
    record {
      asked = c.in_ok-ask_folds.ensures ∙ ap (λ xs. xs ++ map fold_asked c.as_slice.result.now) d ∙ ap (λ fs. ((E ++ P) ++ K) ++ map fold_asked fs) c.as_slice.ensures;
    }
