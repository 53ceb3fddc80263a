use Rattle.std.proofs.Common.{◌++◌, arith}
use Rattle.word_terms.specs.Building.{constant}
use Rattle.goal_meaning.specs.Names.{declared_name}
use Rattle.saturation.specs.GoalTerms.{assumed_pairs, kept_terms, present_terms, rules_of}
use Rattle.code_check.specs.Terms.{written_terms}
use Rattle.code_check.proofs.laws.compared_graphs_decide.Goals as goal

pub returns : goal.returns
returns c = record {
  compared = λ input goal instrs rounds nodes library j stop first inserted last is_graph started are saturated le.
      let added = rules_of library input in
      let present = present_terms goal ++ written_terms instrs in
      let grown = c.more_terms_may_be_inserted.ensures.grown added (present_terms goal) (written_terms instrs) (assumed_pairs goal) first inserted is_graph are (started added) in
      let after = saturated.after.grown present (assumed_pairs goal) grown in
      record {
        graph = saturated.graph;
        grown = after.0;
        reached = (le, after.1);
        stops = saturated.stops;
        no_clash = λ i a b below clash. c.grown_graphs_are_one.ensures.no_clash added present (assumed_pairs goal) last j i a b saturated.graph after.0 below clash;
      };
  stand = λ input goal instrs library first inserted last is_graph started wf are keeps.
      let names = declared_name input.ops in
      let added = rules_of library input in
      keeps names (assumed_pairs goal) (kept_terms goal ++ written_terms instrs)
      (c.more_terms_may_be_inserted.ensures.stand names added (assumed_pairs goal) (kept_terms goal) (written_terms instrs) first inserted is_graph
      (c.written_terms_are_sorted.ensures.sorted instrs wf) are (started names added));
  start = λ input goal instrs rounds nodes library class a b is_input fault hopeless.
      let added = rules_of library input in
      let clash = fault added in
      record {
        round = 0;
        reached = (omega arith, λ i lt. absurd (omega (arith, lt)));
        clash = record {
          derived = c.more_terms_may_be_inserted.ensures.derived added (present_terms goal) (written_terms instrs) (assumed_pairs goal) 0 (constant a) (constant b) clash.derived;
          differ = clash.differ;
        };
        nowhere = λ world is_world holds. hopeless (declared_name input.ops) added world is_world (c.axioms_make_rules_true.ensures.true_rules library input goal world is_input holds);
      };
  round = λ input goal instrs rounds nodes library a b class first inserted is_input is_graph started stands wf are impossible hopeless.
      let names = declared_name input.ops in
      let added = rules_of library input in
      let grown = c.more_terms_may_be_inserted.ensures.grown added (present_terms goal) (written_terms instrs) (assumed_pairs goal) first inserted is_graph are (started added) in
      let clash = impossible.clash (present_terms goal ++ written_terms instrs) (assumed_pairs goal) grown in
      let standing = c.more_terms_may_be_inserted.ensures.stand names added (assumed_pairs goal) (kept_terms goal) (written_terms instrs) first inserted is_graph
      (c.written_terms_are_sorted.ensures.sorted instrs wf) are (stands names added) in
      record {
        round = impossible.round;
        reached = (impossible.asked, clash.1);
        clash = clash.0;
        nowhere = λ world is_world holds.
            hopeless names (assumed_pairs goal) (kept_terms goal ++ written_terms instrs) standing world is_world (c.axioms_make_rules_true.ensures.true_rules library input goal world is_input holds);
      };
}
