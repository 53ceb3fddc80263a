use Rattle.std.proofs.Common.{◌∙◌, List, Option, ap, map, sym}
use Rattle.cycle_encoding.specs.CycleFormula.{allocation_in, first_cycle_in}
use Rattle.cycle_encoding.specs.Variables.{classes_of}
use Rattle.slot_capacity.specs.Makers.{can_come, makers_of}
use Rattle.slot_capacity.specs.MakersSteps.{always_of}
use Rattle.slot_capacity.specs.declared.spans.Span.{Span}
use Rattle.slot_capacity.proofs.SpanFacts.{coming-low}
use Rattle.slot_capacity.proofs.makers.find_makers.Goals as goal

pub returns-clause-makers : goal.returns-clause-makers
returns-clause-makers c =
    let g = c.args.frame.now.facts.now in
    let s = c.args.frame.now.scope.now in
    record {
      graph = c.requires.frame.graph;
      rows_are = c.in_ok-rows.ensures
          ∙ ap (λ (spans : List (Option Span)). map (makers_of g spans) (classes_of g)) c.deref.ensures.value;
      low = λ row own come.
          coming-low g c.args.frame.now.table.now (allocation_in s) c.args.frame.now.k (first_cycle_in s) c.requires.frame.graph row own
          (ap (λ (spans : List (Option Span)). can_come spans row) (sym c.in_ok-spans.ensures) ∙ come);
      always_are = c.in_ok-always.ensures
          ∙ ap (λ (spans : List (Option Span)). map (always_of g spans) (classes_of g)) c.deref-3.ensures.value;
    }
