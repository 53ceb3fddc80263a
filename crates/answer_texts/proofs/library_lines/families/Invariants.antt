use Rattle.std.proofs.Common.{◌≡◌, take, filter}
use Rattle.axiom_library.specs.Libraries.{has_family}
use Rattle.answer_texts.proofs.library_lines.families.Given as goal

abbrev pub invariant-loop-family : goal.invariant-loop-family
invariant-loop-family l = l.families ≡ filter (has_family l.library) (take l.family-index l.family-items)
