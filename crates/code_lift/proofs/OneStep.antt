-- What is known behind one instruction, field by field.
use Rattle.std.proofs.Common.{◌≡◌, ℕ, List, [], ◌∷◌, ◌++◌, length, sym, ◌∙◌, ap, Bool, true, false, Option, Some}
use Rattle.std.specs.Prelude.{if◌then◌else◌}
use Rattle.alpha_encode.specs.declared.instructions.Instr.{Instr}
use Rattle.goal_meaning.specs.Views.{LetTree}
use Rattle.register_assign.specs.Obeys.{reads, stores}
use Rattle.code_lift.specs.Lifted.{Lifting, counts, latest_with, let_of, lift_step, lifted_by, read_also, register_written, trapping_address, with_address}
use Rattle.code_lift.specs.declared.lifting.Address.{Address}
use Rattle.code_lift.specs.declared.lifting.Value.{Value}
use Rattle.code_lift.specs.declared.lifting.Value.TheVariants.{Let}

pub same_lifting : (a b : Lifting) → a.latest ≡ b.latest → a.memory ≡ b.memory → a.is_read ≡ b.is_read → a.lets ≡ b.lets → a.addresses ≡ b.addresses → a ≡ b
same_lifting a b latest memory is_read lets addresses =
    ap (λ (x : List Value). record { latest = x; memory = a.memory; is_read = a.is_read; lets = a.lets; addresses = a.addresses }) latest
    ∙ ap (λ (x : Option ℕ). record { latest = b.latest; memory = x; is_read = a.is_read; lets = a.lets; addresses = a.addresses }) memory
    ∙ ap (λ (x : List Bool). record { latest = b.latest; memory = b.memory; is_read = x; lets = a.lets; addresses = a.addresses }) is_read
    ∙ ap (λ (x : List LetTree). record { latest = b.latest; memory = b.memory; is_read = b.is_read; lets = x; addresses = a.addresses }) lets
    ∙ ap (λ (x : List Address). record { latest = b.latest; memory = b.memory; is_read = b.is_read; lets = b.lets; addresses = x }) addresses

pub when_it_counts : (at : ℕ) (i : Instr) (s : Lifting) → counts i ≡ true → lift_step at i s ≡ lifted_by at i s
when_it_counts at i s e = ap (λ b. if b then lifted_by at i s else s) e

pub when_it_does_not : (at : ℕ) (i : Instr) (s : Lifting) → counts i ≡ false → lift_step at i s ≡ s
when_it_does_not at i s e = ap (λ b. if b then lifted_by at i s else s) e

-- the lifting behind an instruction that counts, from its fields
pub steps_to : (at : ℕ) (i : Instr) (s t : Lifting) → counts i ≡ true
    → t.latest ≡ latest_with s.latest (Let (length s.lets)) (register_written i)
    → t.memory ≡ (if stores i then Some (length s.lets) else s.memory)
    → t.is_read ≡ read_also (reads i) s.latest s.is_read
    → t.lets ≡ s.lets ++ let_of at i s ∷ []
    → t.addresses ≡ with_address s.addresses (trapping_address i s)
    → t ≡ lift_step at i s
steps_to at i s t e latest memory is_read lets addresses =
    same_lifting t (lifted_by at i s) latest memory is_read lets addresses ∙ sym (when_it_counts at i s e)
