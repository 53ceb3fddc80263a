use Rattle.schedule_meaning.specs.declared.schedules.Allocation.TheVariants.{Live}
use Rattle.pick_rule.specs.declared.pick.Pick.TheVariants.{Activity}
use Rattle.code_improve.proofs.counting.count_cycles.Goals as goal

pub returns : goal.returns
returns c =
    let ends = c.in_ok-reached.ensures.reached in record {
      count = record {
        graph = c.in_ok-graph.graph;
        own = c.in_ok-graph.ensures.own;
        is = record {
          clauses_for = ends.clauses_for;
          formulas = ends.formulas;
          holds = c.count_of.ensures ends.clauses_for c.in_ok-graph.graph c.args.table.now
              (record { rounds = 0; nodes = 1; cycles = c.args.cycles; conflicts = c.args.conflicts; pick = Activity; library = c.none.result; allocation = Live })
              ends.holds;
        };
      };
    }
