use Rattle.std.proofs.Common.{◌≡◌, List, Some, map}
use Rattle.alpha_encode.specs.Decoded.{decoded}
use Rattle.alpha_encode.specs.declared.instructions.Instr.{Instr}
use Rattle.code_check.specs.Compared.{AreAlignedBelow, ArePresentAddresses}
use Rattle.code_check.specs.Terms.{terms_at_entry}
use Rattle.code_check.proofs.trapping.first_trap.Given as goal

-- The words so far are aligned.
abbrev pub invariant-loop-at : goal.invariant-loop-at
invariant-loop-at l =
    (instrs : List Instr) → map decoded l.words ≡ map Some instrs → ArePresentAddresses l.graph instrs terms_at_entry l.addresses
    → AreAlignedBelow l.graph instrs l.at
