use Rattle.std.proofs.Common.{◌≡◌, ◌++◌, map, take}
use Rattle.pattern_match.specs.Bindings.{substitution_match}
use Rattle.pattern_match.proofs.searching.add_matches.Given as goal

abbrev pub invariant-loop-bound : goal.invariant-loop-bound
invariant-loop-bound l = l.out.items ≡ l.fn.out.items ++ map (substitution_match l.class) (take l.bound-index l.bounds)
