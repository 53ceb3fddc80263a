use Rattle.std.proofs.Common.{[], map, All, sym, ap, ◌∙◌, subst}
use Rattle.goal_meaning.specs.Views.{axiom_view}
use Rattle.goal_meaning.specs.WellFormed.{IsAxiom}
use Rattle.saturation.proofs.axiom_rules.rules.Goals as goal

pub push_rules-requires : goal.push_rules-requires
push_rules-requires c =
    let declared = c.args.input.now.ops in
    (declared, subst (λ xs. All (IsAxiom declared) (map axiom_view xs)) (sym c.as_slice.ensures) c.requires.input.axioms)

pub push_rules-requires-2 : goal.push_rules-requires-2
push_rules-requires-2 c =
    ([], subst (All (IsAxiom [])) (sym (ap (map axiom_view) c.as_slice-2.ensures ∙ c.in_ok-asked.ensures)) (c.library_axioms_are_well_formed.ensures.asked c.args.library))
