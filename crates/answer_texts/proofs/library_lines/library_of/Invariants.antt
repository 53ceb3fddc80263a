use Rattle.std.proofs.Common.{◌≡◌, drop}
use Rattle.axiom_library.specs.Libraries.{library_of, with_families}
use Rattle.answer_texts.proofs.library_lines.library_of.Given as goal

-- the library so far, and then what is left of the families
abbrev pub invariant-loop-family : goal.invariant-loop-family
invariant-loop-family l = with_families l.library (drop l.family-index l.families) ≡ library_of l.families
