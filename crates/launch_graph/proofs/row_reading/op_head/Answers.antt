use Rattle.std.proofs.Common.{List, [], ◌∷◌, refl, sym, ◌∙◌}
use Rattle.word_ops.specs.declared.sorts.Arity.TheVariants.{One}
use Rattle.word_ops.specs.declared.sorts.Access.TheVariants as accesses
use Rattle.word_ops.specs.declared.sorts.Op.{Op}
use Rattle.word_ops.specs.declared.sorts.Op.TheVariants.{Entry, Input, Constant, Word, Select, Store, Load, Put, Declared}
use Rattle.launch_graph.specs.RowReading.{named}
use Rattle.launch_graph.proofs.LineOps.{found_alone}
use Rattle.launch_graph.proofs.row_reading.op_head.Goals as goal

pub returns-in-Some-clause-is : goal.returns-in-Some-clause-is
returns-in-Some-clause-is c =
    let among : List Op =
    Entry ∷ Select accesses.Quad ∷ Store accesses.Quad ∷ Load accesses.Quad ∷ Put accesses.Quad
    ∷ Select accesses.Byte ∷ Select accesses.Word ∷ Select accesses.Long ∷ Store accesses.Byte ∷ Store accesses.Word
    ∷ Store accesses.Long ∷ Load accesses.Byte ∷ Load accesses.Word ∷ Load accesses.Long ∷ Put accesses.Byte
    ∷ Put accesses.Word ∷ Put accesses.Long ∷ [] in
    found_alone c.args.word.now among c.in-Some.op refl (sym c.alone.ensures ∙ c.in-Some.is)

pub returns-then-same-clause-is : goal.returns-then-same-clause-is
returns-then-same-clause-is c = named (Input 0) (c.same.ensures.0 c.if-same.true) refl

pub returns-then-same-2-clause-is : goal.returns-then-same-2-clause-is
returns-then-same-2-clause-is c = named (Constant 0) (c.same-2.ensures.0 c.if-same-2.true) refl

pub returns-then-same-3-clause-is : goal.returns-then-same-3-clause-is
returns-then-same-3-clause-is c = named (Declared 0 One) (c.same-3.ensures.0 c.if-same-3.true) refl

pub returns-in-Some-op_of-clause-is : goal.returns-in-Some-op_of-clause-is
returns-in-Some-op_of-clause-is c = named (Word c.in-Some-op_of.op) (sym ((c.in-Some-op_of.ensures.found c.in-Some-op_of.op).0 refl)) refl
