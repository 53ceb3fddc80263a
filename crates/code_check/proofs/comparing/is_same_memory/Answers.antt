use Rattle.std.proofs.Common.{Some, map}
use Rattle.goal_meaning.specs.Expanded.{expanded_target}
use Rattle.goal_meaning.specs.Views.{target_view}
use Rattle.code_check.specs.Same.{memory_target_term}
use Rattle.code_check.proofs.Comparisons.{present_found, tells}
use Rattle.code_check.proofs.comparing.is_same_memory.Goals as goal

pub now-class-requires : goal.now-class-requires
now-class-requires c = record { made = c.requires.classes.1.memory_is.made }

pub returns : goal.returns
returns c = λ es ts zip are.
    let g = c.args.graph.now in
    tells c.terms_have_one_class.ensures.one g are.graph ts.memory (memory_target_term (map (expanded_target es) (map target_view c.args.sets.now)))
    (Some c.now-class.result) c.in_ok-wanted.wanted c.is_one.result
    (present_found g c.args.memory c.now-class.result ts.memory c.now-class.ensures.present are.memory_is) (c.in_ok-wanted.ensures es zip)
    c.is_one.ensures
