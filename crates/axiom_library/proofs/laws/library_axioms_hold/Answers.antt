use Rattle.std.proofs.lemmas.List.Elements.{All-contains, All-weaker}
use Rattle.goal_meaning.specs.Holds.{HoldsOfAll}
use Rattle.axiom_library.specs.Families.{IsOfLibrary, axioms_of}
use Rattle.axiom_library.proofs.AskedRules.{axioms_are}
use Rattle.axiom_library.proofs.Truth.{family_is_true}
use Rattle.axiom_library.proofs.laws.library_axioms_hold.Goals as goal

pub returns : goal.returns
returns c = record {
  each = λ family declared world. family_is_true declared world family;
  inputs = λ input world h.
      All-weaker IsOfLibrary (HoldsOfAll input.ops world) (λ a there.
      All-contains (HoldsOfAll input.ops world) (axioms_of there.0) a (family_is_true input.ops world there.0) there.1) input.axioms h;
  asked = λ library declared world. axioms_are (HoldsOfAll declared world) (family_is_true declared world) library;
}
