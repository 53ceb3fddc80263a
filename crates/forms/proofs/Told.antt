-- A fault that is told is the first one.
use Rattle.std.proofs.Common.{◌≡◌, ℕ, refl, sym, subst, Ok, Err, Result, IfOk, IfErr}
use Rattle.text_core.specs.declared.faults.Kind.{Kind}
use Rattle.text_core.specs.declared.faults.TextFault.{TextFault}
use Rattle.text_core.specs.declared.faults.TextFault.TheVariants as answers
use Rattle.text_core.specs.Faults.{IsFirst, IsFaultBy, GivesUnlessMemory, RefusesUnlessMemory}

pub told : (IsAt : ℕ → Kind → Type 0) (fault : TextFault) (p q : ℕ) (kind : Kind) → fault ≡ answers.Fault (record { place = p; kind = kind }) → p ≡ q → IsFirst IsAt q kind → IsFaultBy (IsFirst IsAt) fault
told IsAt fault p q kind e same first =
    let one : IsFirst IsAt p kind = subst (λ n. IsFirst IsAt n kind) (sym same) first in
    subst (IsFaultBy (IsFirst IsAt)) (sym e) one

-- where the first fault of a part is that of the whole, what is told of the part is told of the whole
pub told_of_part : (IsAt IsAtWhole : ℕ → Kind → Type 0) → ((p : ℕ) (k : Kind) → IsFirst IsAt p k → IsFirst IsAtWhole p k) → (fault : TextFault) → IsFaultBy (IsFirst IsAt) fault → IsFaultBy (IsFirst IsAtWhole) fault
told_of_part IsAt IsAtWhole f (answers.Fault fault) h = f fault.place fault.kind h
told_of_part IsAt IsAtWhole f answers.Memory h = tt

-- a fault of one kind is one of another kind where each such fault is
pub told_as : (IsAt IsOther : ℕ → Kind → Type 0) → ((p : ℕ) (k : Kind) → IsAt p k → IsOther p k) → (fault : TextFault) → IsFaultBy IsAt fault → IsFaultBy IsOther fault
told_as IsAt IsOther f (answers.Fault fault) h = f fault.place fault.kind h
told_as IsAt IsOther f answers.Memory h = tt

-- ---- a pass that gives what the definition has, or its first fault, gives and refuses as the definition says
module _ {X Y : Type 0} (view : X → Y) (Has : Y → Type 0) (First : ℕ → Kind → Type 0) (alone : (y z : Y) → Has y → Has z → y ≡ z) (apart : (y : Y) (place : ℕ) (kind : Kind) → Has y → First place kind → ⊥) (once : (p q : ℕ) (k l : Kind) → First p k → First q l → (p ≡ q) × (k ≡ l)) where
  err_gives : (f : TextFault) (y : Y) → Has y → IsFaultBy First f → f ≡ answers.Memory
  err_gives (answers.Fault f) y has first = absurd (apart y f.place f.kind has first)
  err_gives answers.Memory y has first = refl

  pub gives : (r : Result X TextFault) → IfOk r (λ x. Has (view x)) → IfErr r (IsFaultBy First) → (y : Y) → Has y → GivesUnlessMemory (λ x. view x ≡ y) r
  gives (Ok x) ok err y has = alone (view x) y ok has
  gives (Err f) ok err y has = err_gives f y has err

  err_refuses : (f : TextFault) (place : ℕ) (kind : Kind) → First place kind → IsFaultBy First f → RefusesUnlessMemory {X = X} place kind (Err f)
  err_refuses (answers.Fault f) place kind first found = once f.place place f.kind kind found first
  err_refuses answers.Memory place kind first found = tt

  pub refuses : (r : Result X TextFault) → IfOk r (λ x. Has (view x)) → IfErr r (IsFaultBy First) → (place : ℕ) (kind : Kind) → First place kind → RefusesUnlessMemory place kind r
  refuses (Ok x) ok err place kind first = apart (view x) place kind ok first
  refuses (Err f) ok err place kind first = err_refuses f place kind first err
