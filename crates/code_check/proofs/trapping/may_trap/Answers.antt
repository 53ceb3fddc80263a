use Rattle.std.proofs.Common.{◌<◌, ◌∙◌, [], length, subst, sym, ap}
use Rattle.std.specs.Prelude.{slice_index}
use Rattle.std.proofs.lemmas.List.Elements.{All-nil}
use Rattle.egraph.specs.Graph.{HasClass}
use Rattle.pattern_match.specs.Classes.{IsClass}
use Rattle.code_check.specs.Compared.{IsPresentAddress, IsPresentClass, alignment_of}
use Rattle.code_check.specs.Terms.{place_term}
use Rattle.code_check.proofs.Aligning.{tells}
use Rattle.code_check.proofs.trapping.may_trap.Goals as goal

pub returns-in-Some-address : goal.returns-in-Some-address
returns-in-Some-address c = λ instr ts e address.
    let g = c.args.graph.now in
    let graph = c.made-made.ensures.graph in
    let present : IsPresentClass g c.in-Some-address.class (place_term instr ts) = subst (IsPresentAddress g instr ts) c.in-Some-address.is address in
    let is = subst (IsClass g [] (place_term instr ts)) (sym c.now.ensures.present) present.is in
    let made = (c.rows_name_present_classes.ensures.present g c.now.result graph (c.terms_have_one_class.ensures.has g [] (place_term instr ts) c.now.result (All-nil (HasClass g)) is)).made in
    let within : c.now.result < length c.args.powers.now = subst (λ n. c.now.result < n) (sym c.requires.powers.0) made in
    tells g instr ts (λ x y. c.terms_have_one_class.ensures.one g [] (place_term instr ts) x y graph.distinct) c.in-Some.power c.now.result (slice_index c.args.powers.now c.now.result)
    (ap alignment_of (sym e) ∙ sym c.alignment.ensures ∙ c.in-Some.is) is (c.requires.powers.1 c.now.result within)
