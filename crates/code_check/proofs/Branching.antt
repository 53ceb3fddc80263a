-- The search of a branch among words.
use Rattle.std.proofs.Common.{◌≡◌, ℕ, ℤ, ◌+◌, ◌<◌, ◌≤◌, List, length, sym, ◌∙◌, ap, inl, inr, arith, Option, Some, None}
use Rattle.std.specs.Prelude.{slice_index}
use Rattle.std.proofs.lemmas.Bool.{cases_lt}
use Rattle.std.proofs.lemmas.Option.{get_or_from_slice_get, slice_get_within}
use Rattle.alpha_encode.specs.Decoded.{decoded}
use Rattle.alpha_encode.specs.declared.instructions.Instr.{Instr}
use Rattle.alpha_encode.specs.declared.instructions.Instr.TheVariants.{Operate, Lda, Ldah, Load, Store, Ldq, Stq, Beq}
use Rattle.code_check.specs.Compared.{IsBranchOfWords, branch_of}
use Rattle.code_check.proofs.Running.{word_of}
use Rattle.code_check.proofs.Stages.{read_code}

none_some : (r : ℕ) → None ≡ Some r → ⊥
none_some r e = cc

some_same : (a b : ℕ) → Some a ≡ Some b → a ≡ b
some_same a b e = cc

-- the instruction is a branch on the register
is_branch : (o : Option Instr) (r : ℕ) → Some r ≡ branch_of o → (disp : ℤ) × (o ≡ Some (Beq r disp))
is_branch None r e = absurd (none_some r (sym e))
is_branch (Some (Beq ra disp)) r e = (disp, ap (λ n. Some (Beq n disp)) (sym (some_same r ra e)))
is_branch (Some (Operate op ra second rc)) r e = absurd (none_some r (sym e))
is_branch (Some (Lda ra rb disp)) r e = absurd (none_some r (sym e))
is_branch (Some (Ldah ra rb disp)) r e = absurd (none_some r (sym e))
is_branch (Some (Load access ra rb disp)) r e = absurd (none_some r (sym e))
is_branch (Some (Store access ra rb disp)) r e = absurd (none_some r (sym e))
is_branch (Some (Ldq ra rb disp)) r e = absurd (none_some r (sym e))
is_branch (Some (Stq ra rb disp)) r e = absurd (none_some r (sym e))

-- no word before place k is a branch
abbrev pub NoneBefore : List ℕ → ℕ → Type 0
NoneBefore words k = (j : ℕ) → j < k → branch_of (decoded (slice_index words j)) ≡ None

pub one_more_none : (words : List ℕ) (k : ℕ) → NoneBefore words k → None ≡ branch_of (decoded (slice_index words k)) → NoneBefore words (k + 1)
one_more_none words k before e j l = elim (cases_lt j k) [
  | inl lt ↦ before j lt
  | inr le ↦ (let same : k ≡ j = omega (arith, l, le) in ap (λ n. branch_of (decoded (slice_index words n))) (sym same) ∙ sym e)
]

pub branch_found : (words : List ℕ) (k r : ℕ) → k < length words → r < 32 → Some r ≡ branch_of (decoded (slice_index words k)) → IsBranchOfWords words (Some (record { at = k; register = r }))
branch_found words k r lt low e = record {
  within = omega (arith, lt);
  low = low;
  of_code = λ instrs code.
      let i = read_code words instrs code k lt in
      let b = is_branch (decoded (slice_index words k)) r e in
      record { disp = b.0; there = i.1 ∙ sym i.2 ∙ b.1 };
}

pub no_branch : (words : List ℕ) (k : ℕ) → length words ≤ k → NoneBefore words k → IsBranchOfWords words None
no_branch words k le before = record {
  within = omega arith;
  low = tt;
  of_code = λ instrs code at ra b.
      let w = word_of words instrs code at (Beq ra b.disp) b.there in
      let lt = slice_get_within words at w.0 w.1 in
      let word : slice_index words at ≡ w.0 = get_or_from_slice_get words at w.0 0 w.1 in
      none_some ra (sym (before at (omega (arith, lt, le))) ∙ ap branch_of (ap decoded word ∙ w.2));
}
