use Rattle.std.proofs.Common.{◌≡◌, ◌∙◌, ap, sym, subst, map, refl, Bool, List, Option, ℕ}
use Rattle.graph_meaning.specs.declared.graphs.LaunchGraph.{LaunchGraph}
use Rattle.machine_table.specs.declared.tables.Table.{Table}
use Rattle.cycle_encoding.specs.CycleFormula.{Scope, wide_scope}
use Rattle.cycle_encoding.specs.CycleFormula.{listed_in}
use Rattle.cycle_encoding.specs.Encodings.{IsScope}
use Rattle.cycle_encoding.specs.declared.encodings.Encoding.TheVariants.{Wide}
use Rattle.cycle_encoding.specs.Variables.{row_numbers}
use Rattle.cycle_encoding.specs.Scoped.{first_cycle}
use Rattle.cycle_encoding.proofs.ScopeSteps.{tabled-scope}
use Rattle.cycle_encoding.proofs.scopes.Scope.of.Goals as goal

is-wide : (g : LaunchGraph) (table : Table) (s : Scope) → s ≡ wide_scope → IsScope Wide g table s
is-wide g table s is = record { encoding = ap (λ (x : Scope). x.encoding) is; lists = λ k few. ap (listed_in g table k) is }

pub returns-in-Wide : goal.returns-in-Wide
returns-in-Wide c =
    subst (λ e. IsScope e c.args.facts.now c.args.table.now c.wide.result) (sym c.in-Wide.is)
    (is-wide c.args.facts.now c.args.table.now c.wide.result c.wide.ensures)

pub returns : goal.returns
returns c =
    let g = c.args.facts.now in
    let a = c.allocation-allocation.result in
    let come = c.in_ok-come.come.items in
    let marks = c.in_ok-wants.wants.items in
    let firsts =
    c.in_ok-firsts.ensures
    ∙ ap (λ (x : List (Option ℕ)). map (first_cycle g a x c.deref-5.result.now) (row_numbers g)) c.deref-4.ensures.value
    ∙ ap (λ (y : List Bool). map (first_cycle g a come y) (row_numbers g)) c.deref-5.ensures.value in
    tabled-scope g c.args.table.now a c.requires.graph c.requires.table come marks c.in_ok-come.ensures c.in_ok-wants.ensures
    (record { encoding = c.args.encoding; firsts = c.in_ok-firsts.firsts.items; wants = marks }) (sym c.allocation-allocation.ensures) firsts refl
