use Rattle.std.proofs.Common.{◌≤◌, List, length, subst, arith}
use Rattle.std.specs.Prelude.{Contains}
use Rattle.cycle_encoding.specs.CycleFormula.{launch_vars}
use Rattle.cycle_encoding.specs.Shapes.{shown}
use Rattle.cycle_encoding.proofs.Blocks.{AreExact}
use Rattle.cycle_encoding.proofs.Members.{filter-out}
use Rattle.schedule_meaning.specs.declared.schedules.Launch.{Launch}
use Rattle.least_launch.proofs.Counted.{before_holds, counted, few_launches, few_shown}
use Rattle.least_launch.proofs.laws.fewer_clauses_say_fits.Goals as goal

pub returns : goal.returns
returns c =
    let count = c.counters_count.ensures in
    let exact : AreExact = λ old p lits h. (count.say old p lits h, count.over old p lits h, count.size old p lits) in
    let says = c.each_encoding_says_fits.ensures in
    record {
      shown = λ e g table k n l v is_table is_graph listed h. (
        says.shown e g table k l v is_table is_graph listed (before_holds exact g table k n l v h),
        few_shown exact g table k n l v h,
      );
      some = λ e g table k n l ls is_table is_graph listed over fits few.
          let some = says.some e g table k l ls is_table is_graph listed fits in
          let v = some.3.0 in
          let xs = launch_vars l in
          let among : (x : Launch) → Contains (shown some.3.0 (launch_vars l)) x → Contains ls x =
          λ x h. (filter-out some.2.0 ls x
          (subst (λ (ys : List Launch). Contains ys x) some.2.1 ((some.3.2 x).0 h))).0 in
          let at_most : length (shown some.3.0 (launch_vars l)) ≤ n =
          (let w = few_launches (shown v xs) ls
          (says.shown e g table k l v is_table is_graph listed some.3.1).apart among in omega (arith, w, few)) in
          let w = counted exact g table k n l over v some.3.1 at_most in
          (w.0, w.1, λ x h. among x (subst (λ (ys : List Launch). Contains ys x) w.2 h));
    }
