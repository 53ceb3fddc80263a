use Rattle.std.proofs.Common.{ℕ}
use Rattle.std.specs.Prelude.{MatchOption}
use Rattle.std.proofs.lemmas.Result.{IfOk-weaker}
use Rattle.word_terms.specs.View.{tree_of}
use Rattle.pattern_match.specs.Classes.{IsClass}
use Rattle.code_check.proofs.Comparisons.{found_over}
use Rattle.code_check.proofs.comparing.find_term.Goals as goal

pub class_of_pattern-requires : goal.class_of_pattern-requires
class_of_pattern-requires c = record {
  can = record { graph = c.made-made.ensures.graph; present = c.requires.present; below = c.requires.below };
}

pub returns : goal.returns
returns c =
    let g = c.args.graph.now in
    let t = tree_of c.args.term.now in
    IfOk-weaker c.class_of_pattern.result
    (λ found. MatchOption found ((c' : ℕ) → IsClass g c.args.lets.now t c' → ⊥) (IsClass g c.args.lets.now t)) _
    (λ found h es zip. found_over c.lets_are_their_terms.ensures g c.made-made.ensures.graph es c.args.lets.now t found c.requires.below h zip)
    c.class_of_pattern.ensures.exact
