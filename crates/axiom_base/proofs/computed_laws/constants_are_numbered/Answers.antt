use Rattle.std.proofs.Common.{ℕ, subst₂, sym}
use Rattle.std.specs.Prelude.{Contains}
use Rattle.axiom_base.specs.Computed.{constants_from}
use Rattle.axiom_base.proofs.ConstantValues.{contains_constant, constants_are_from}
use Rattle.axiom_base.proofs.computed_laws.constants_are_numbered.Goals as goal

pub returns : goal.returns
returns c = record {
  numbers = λ k cs n x. (constants_are_from k cs n x, λ h. subst₂ (λ m y. Contains {X = ℕ × ℕ} (constants_from k cs) (m, y)) (sym h.2) (sym h.3) (contains_constant k cs h.0 h.1));
}
