use Rattle.axiom_base.specs.Rewrites.{IsRule, IsTrueIn}
use Rattle.axiom_library.specs.Asked.{equations_of}
use Rattle.axiom_library.specs.Libraries.{families_of}
use Rattle.axiom_library.proofs.AskedRules.{of_all}
use Rattle.axiom_library.proofs.UnalignedRules.{equations_are_rules, equations_are_true}
use Rattle.axiom_library.proofs.laws.library_equations_are_true.Goals as goal

pub returns : goal.returns
returns c =
    let memories = c.memories_hold_words.ensures in
    record {
      rules = λ library. of_all IsRule equations_of equations_are_rules (families_of library);
      true_rules = λ world names library.
          of_all (IsTrueIn world names) equations_of
          (equations_are_true world names memories.loaded memories.put memories.others memories.again memories.is_memory memories.equal)
          (families_of library);
    }
