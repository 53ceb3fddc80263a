use Rattle.std.proofs.Common.{List, All, map, ap, sym, subst}
use Rattle.std.proofs.lemmas.List.Elements.{All-nil}
use Rattle.goal_meaning.specs.Expanded.{expanded_sides, let_terms}
use Rattle.goal_meaning.specs.Holds.{HoldsOfAll, IsMet}
use Rattle.goal_meaning.specs.Views.{AxiomTree, TwoTrees}
use Rattle.goal_meaning.specs.declared.goals.DeclaredOp.{DeclaredOp}
use Rattle.goal_meaning.proofs.laws.axioms_hold_for_all_goals.Goals as goal

pub returns : goal.returns
returns c = record {
  same = λ input other world ops axs h. subst (λ (xs : List AxiomTree). All (HoldsOfAll other.ops world) xs) axs (subst (λ (ds : List DeclaredOp). All (HoldsOfAll ds world) input.axioms) ops h);
  none = λ input world e. subst (λ (xs : List AxiomTree). All (HoldsOfAll input.ops world) xs) (sym e) (All-nil (HoldsOfAll input.ops world));
  goal = λ input goal world e h. record { axioms = h; assumes = subst (λ (xs : List TwoTrees). All (IsMet input.ops world) xs) (sym (ap (map (expanded_sides (let_terms goal))) e)) (All-nil (IsMet input.ops world)) };
}
