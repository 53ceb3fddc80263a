use Rattle.std.proofs.Common.{◌≡◌, drop, find, bytes_eq}
use Rattle.axiom_library.specs.Names.{family_name}
use Rattle.axiom_texts.proofs.names.first_named.Given as goal

abbrev pub invariant-loop-family : goal.invariant-loop-family
invariant-loop-family l = find (λ family. bytes_eq (family_name family) l.name) l.families
    ≡ find (λ family. bytes_eq (family_name family) l.name) (drop l.family-index l.families)
