-- What the insertion of a code's terms gives. No public clause rests on this. Source: this project.
use Rattle.std.specs.Prelude.{ℕ, List, drop}
use Rattle.word_ops.specs.declared.sorts.Op.{Op}
use Rattle.egraph.specs.Graph.{Graph, IsGraph}
use Rattle.word_terms.specs.Keys.{op_signature}
use Rattle.alpha_encode.specs.declared.instructions.Instr.{Instr}
use Rattle.saturation.specs.Trace.{AreInserted}
use Rattle.code_check.specs.Classes.{AreAddresses, AreClassesOf}
use Rattle.code_check.specs.Same.{terms_at_end}
use Rattle.code_check.specs.Terms.{terms_after, terms_at_entry, terms_written_from, written_terms}
use Rattle.code_check.specs.declared.code_terms.Inserted.{Inserted}

-- the code's terms are inserted, with these classes after `before` instructions, where the graph was another, and at the
-- end, and with these of its addresses
pub record IsCodeInserted (old : Graph Op) (instrs : List Instr) (before : ℕ) (i : Inserted) (new : Graph Op) : Type 0 where
  pub inserted : AreInserted (written_terms instrs) old new
  pub graph : IsGraph op_signature new
  pub middle : Graph Op
  pub rest : AreInserted (terms_written_from (drop before instrs) (terms_after before instrs)) middle new
  pub at_branch : AreClassesOf middle i.at_branch i.memory_at_branch (terms_after before instrs)
  pub at_end : AreClassesOf new i.at_end i.memory_at_end (terms_at_end instrs)
  pub addresses : AreAddresses new instrs terms_at_entry i.addresses
