use Rattle.std.proofs.Common.{◌∙◌, [], ◌∷◌, ℕ, List, ap}
use Rattle.std.specs.Prelude.{option_to_list}
use Rattle.cnf_core.specs.declared.literal.Lit.{Lit}
use Rattle.graph_meaning.specs.Graphs.{memory_target}
use Rattle.graph_meaning.specs.declared.graphs.LaunchGraph.{LaunchGraph}
use Rattle.cycle_encoding.specs.Shapes.{numbered, vars_of}
use Rattle.order_encoding.specs.OrderVariables.{all_held}
use Rattle.order_encoding.specs.OrderFamilies.{is_held_at, last_memory_clauses}
use Rattle.order_encoding.proofs.AddSteps.{lits_exist, then_is}
use Rattle.order_encoding.proofs.held_memory.add_last.Goals as goal

pub add_option-requires-clause-lit : goal.add_option-requires-clause-lit
add_option-requires-clause-lit c = lits_exist (is_held_at _ c.args.held.now.cycles) c.args.held.now.first c.args.cnf.now.vars (all_held c.args.facts.now c.args.held.now.cycles) (option_to_list c.held_var.result) c.held_var.ensures c.requires.exist

pub returns : goal.returns
returns c =
    let ms = numbered c.args.held.now.first (all_held c.args.facts.now c.args.held.now.cycles) in
    let e = c.held_var.ensures ∙ ap (λ (n : ℕ). vars_of (is_held_at n c.args.held.now.cycles) ms) (c.memory_target-target.ensures ∙ ap (λ (g : LaunchGraph). memory_target g) c.graph.ensures) in
    then_is c.add_option.result c.args.cnf.now c.add_option.new.cnf (option_to_list c.held_var.result ∷ []) (last_memory_clauses c.args.facts.now c.args.held.now.cycles ms) (ap (λ (l : List Lit). l ∷ []) e) c.add_option.ensures
