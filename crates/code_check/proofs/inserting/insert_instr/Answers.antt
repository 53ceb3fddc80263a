use Rattle.std.proofs.Common.{◌≡◌, None, Some, set, refl, sym, subst}
use Rattle.std.proofs.lemmas.Result.{IfOk-weaker}
use Rattle.word_ops.specs.declared.operators.WordOp.TheVariants as ops
use Rattle.word_ops.specs.declared.sorts.Access.TheVariants.{Quad}
use Rattle.word_ops.specs.declared.sorts.Sort.TheVariants as sorts
use Rattle.word_terms.specs.Building.{constant, w2}
use Rattle.alpha_encode.specs.Formats.{IsWellFormed}
use Rattle.saturation.specs.Trace.{none_inserted}
use Rattle.code_check.specs.Terms.{TermState, sign_extended, operate_term, second_term}
use Rattle.code_check.specs.Classes.{AreClassesOf, IsLoaded, IsStored, IsTermInserted, IsWritten}
use Rattle.code_check.proofs.Built.{ldq_written, load_written, plain_written, skipped, word_of_disp, wrote}
use Rattle.code_check.proofs.inserting.insert_instr.Goals as goal

pub returns-in_ok-class-in-Operate-clause-written : goal.returns-in_ok-class-in-Operate-clause-written
returns-in_ok-class-in-Operate-clause-written c ts are =
    let instr = subst IsWellFormed c.in-Operate.is c.requires.instr in
    let t = operate_term c.in-Operate.op (ts.registers c.in-Operate.ra) (second_term c.in-Operate.second ts.registers) in
    subst (λ i. IsWritten i c.args.graph.now ts c.operate_class.new.graph (set c.args.classes.now c.in-Operate.rc (Some c.in_ok-class-in-Operate.class)) c.args.memory.now None) (sym c.in-Operate.is)
    (plain_written _ _ _ _ _ _ refl (wrote c.more_terms_may_be_inserted.ensures.others c.more_terms_may_be_inserted.ensures.class c.args.graph.now c.operate_class.new.graph c.args.classes.now c.args.memory.now ts are c.in-Operate.rc c.in_ok-class-in-Operate.class t (c.in_ok-class-in-Operate.ensures.built ts c.args.memory.now are) (set c.args.classes.now c.in-Operate.rc (Some c.in_ok-class-in-Operate.class)) instr.2 c.if-rc-ne31.true refl))

pub returns-else-rc-ne31-clause-written : goal.returns-else-rc-ne31-clause-written
returns-else-rc-ne31-clause-written c ts are =
    subst (λ i. IsWritten i c.args.graph.now ts c.args.graph.now c.args.classes.now c.args.memory.now None) (sym c.in-Operate.is)
    (plain_written _ _ _ _ _ _ refl (skipped c.args.graph.now c.args.classes.now c.args.memory.now ts are c.in-Operate.rc (operate_term c.in-Operate.op (ts.registers c.in-Operate.ra) (second_term c.in-Operate.second ts.registers)) c.if-rc-ne31.false))

pub returns-in_ok-class-in-Lda-clause-written : goal.returns-in_ok-class-in-Lda-clause-written
returns-in_ok-class-in-Lda-clause-written c ts are =
    let instr = subst IsWellFormed c.in-Lda.is c.requires.instr in
    let same : c.cast_unsigned-n.result ≡ sign_extended c.in-Lda.disp = word_of_disp c.cast_unsigned-n.result c.from.result c.in-Lda.disp instr.2 c.from.ensures c.cast_unsigned-n.ensures in
    let t = w2 ops.Lda (ts.registers c.in-Lda.rb) (constant (sign_extended c.in-Lda.disp)) in
    subst (λ i. IsWritten i c.args.graph.now ts c.displaced_class.new.graph (set c.args.classes.now c.in-Lda.ra (Some c.in_ok-class-in-Lda.class)) c.args.memory.now None) (sym c.in-Lda.is)
    (plain_written _ _ _ _ _ _ refl (wrote c.more_terms_may_be_inserted.ensures.others c.more_terms_may_be_inserted.ensures.class c.args.graph.now c.displaced_class.new.graph c.args.classes.now c.args.memory.now ts are c.in-Lda.ra c.in_ok-class-in-Lda.class t (subst (λ n. IsTermInserted c.args.graph.now sorts.Word (w2 ops.Lda (ts.registers c.in-Lda.rb) (constant n)) c.in_ok-class-in-Lda.class c.displaced_class.new.graph) same (c.in_ok-class-in-Lda.ensures.built ts c.args.memory.now are)) (set c.args.classes.now c.in-Lda.ra (Some c.in_ok-class-in-Lda.class)) instr.0 c.if-ra-ne31.true refl))

pub returns-else-ra-ne31-clause-written : goal.returns-else-ra-ne31-clause-written
returns-else-ra-ne31-clause-written c ts are =
    subst (λ i. IsWritten i c.args.graph.now ts c.args.graph.now c.args.classes.now c.args.memory.now None) (sym c.in-Lda.is)
    (plain_written _ _ _ _ _ _ refl (skipped c.args.graph.now c.args.classes.now c.args.memory.now ts are c.in-Lda.ra (w2 ops.Lda (ts.registers c.in-Lda.rb) (constant (sign_extended c.in-Lda.disp))) c.if-ra-ne31.false))

pub returns-in_ok-class-in-Ldah-clause-written : goal.returns-in_ok-class-in-Ldah-clause-written
returns-in_ok-class-in-Ldah-clause-written c ts are =
    let instr = subst IsWellFormed c.in-Ldah.is c.requires.instr in
    let same : c.cast_unsigned-n-then-ra-ne31-2.result ≡ sign_extended c.in-Ldah.disp = word_of_disp c.cast_unsigned-n-then-ra-ne31-2.result c.from-then-ra-ne31-2.result c.in-Ldah.disp instr.2 c.from-then-ra-ne31-2.ensures c.cast_unsigned-n-then-ra-ne31-2.ensures in
    let t = w2 ops.Ldah (ts.registers c.in-Ldah.rb) (constant (sign_extended c.in-Ldah.disp)) in
    subst (λ i. IsWritten i c.args.graph.now ts c.displaced_class-then-ra-ne31-2.new.graph (set c.args.classes.now c.in-Ldah.ra (Some c.in_ok-class-in-Ldah.class)) c.args.memory.now None) (sym c.in-Ldah.is)
    (plain_written _ _ _ _ _ _ refl (wrote c.more_terms_may_be_inserted.ensures.others c.more_terms_may_be_inserted.ensures.class c.args.graph.now c.displaced_class-then-ra-ne31-2.new.graph c.args.classes.now c.args.memory.now ts are c.in-Ldah.ra c.in_ok-class-in-Ldah.class t (subst (λ n. IsTermInserted c.args.graph.now sorts.Word (w2 ops.Ldah (ts.registers c.in-Ldah.rb) (constant n)) c.in_ok-class-in-Ldah.class c.displaced_class-then-ra-ne31-2.new.graph) same (c.in_ok-class-in-Ldah.ensures.built ts c.args.memory.now are)) (set c.args.classes.now c.in-Ldah.ra (Some c.in_ok-class-in-Ldah.class)) instr.0 c.if-ra-ne31-2.true refl))

pub returns-else-ra-ne31-2-clause-written : goal.returns-else-ra-ne31-2-clause-written
returns-else-ra-ne31-2-clause-written c ts are =
    subst (λ i. IsWritten i c.args.graph.now ts c.args.graph.now c.args.classes.now c.args.memory.now None) (sym c.in-Ldah.is)
    (plain_written _ _ _ _ _ _ refl (skipped c.args.graph.now c.args.classes.now c.args.memory.now ts are c.in-Ldah.ra (w2 ops.Ldah (ts.registers c.in-Ldah.rb) (constant (sign_extended c.in-Ldah.disp))) c.if-ra-ne31-2.false))

pub returns-in-Load-clause-written : goal.returns-in-Load-clause-written
returns-in-Load-clause-written c =
    let l = c.in-Load in
    let instr = subst IsWellFormed c.in-Load.is c.requires.instr in
    let same : c.cast_unsigned-n-in-Load.result ≡ sign_extended l.disp = word_of_disp c.cast_unsigned-n-in-Load.result c.from-in-Load.result l.disp instr.2 c.from-in-Load.ensures c.cast_unsigned-n-in-Load.ensures in
    IfOk-weaker c.insert_load.result (λ address. (ts : TermState) → AreClassesOf c.args.graph.now c.args.classes.now c.args.memory.now ts →
    IsLoaded l.access l.ra l.rb c.cast_unsigned-n-in-Load.result c.args.graph.now ts c.insert_load.new.graph c.insert_load.new.classes c.args.memory.now address) _
    (λ address h ts are.
    subst (λ i. IsWritten i c.args.graph.now ts c.insert_load.new.graph c.insert_load.new.classes c.args.memory.now address) (sym c.in-Load.is)
    (load_written l.access l.ra l.rb l.disp c.args.graph.now ts c.insert_load.new.graph c.insert_load.new.classes c.args.memory.now address
    (subst (λ n. IsLoaded l.access l.ra l.rb n c.args.graph.now ts c.insert_load.new.graph c.insert_load.new.classes c.args.memory.now address) same (h ts are)))) c.insert_load.ensures.loaded

pub returns-in-Ldq-clause-written : goal.returns-in-Ldq-clause-written
returns-in-Ldq-clause-written c =
    let l = c.in-Ldq in
    let instr = subst IsWellFormed c.in-Ldq.is c.requires.instr in
    let same : c.cast_unsigned-n-in-Ldq.result ≡ sign_extended l.disp = word_of_disp c.cast_unsigned-n-in-Ldq.result c.from-in-Ldq.result l.disp instr.2 c.from-in-Ldq.ensures c.cast_unsigned-n-in-Ldq.ensures in
    IfOk-weaker c.insert_load-in-Ldq.result (λ address. (ts : TermState) → AreClassesOf c.args.graph.now c.args.classes.now c.args.memory.now ts →
    IsLoaded Quad l.ra l.rb c.cast_unsigned-n-in-Ldq.result c.args.graph.now ts c.insert_load-in-Ldq.new.graph c.insert_load-in-Ldq.new.classes c.args.memory.now address) _
    (λ address h ts are.
    subst (λ i. IsWritten i c.args.graph.now ts c.insert_load-in-Ldq.new.graph c.insert_load-in-Ldq.new.classes c.args.memory.now address) (sym c.in-Ldq.is)
    (ldq_written l.ra l.rb l.disp c.args.graph.now ts c.insert_load-in-Ldq.new.graph c.insert_load-in-Ldq.new.classes c.args.memory.now address
    (subst (λ n. IsLoaded Quad l.ra l.rb n c.args.graph.now ts c.insert_load-in-Ldq.new.graph c.insert_load-in-Ldq.new.classes c.args.memory.now address) same (h ts are)))) c.insert_load-in-Ldq.ensures.loaded

pub returns-in-Store-clause-written : goal.returns-in-Store-clause-written
returns-in-Store-clause-written c = λ ts are.
    let l = c.in-Store in
    let instr = subst IsWellFormed c.in-Store.is c.requires.instr in
    let same : c.cast_unsigned-n-in-Store.result ≡ sign_extended l.disp = word_of_disp c.cast_unsigned-n-in-Store.result c.from-in-Store.result l.disp instr.2 c.from-in-Store.ensures c.cast_unsigned-n-in-Store.ensures in
    let address = c.in_ok-address-in-Store.address in
    let h = subst (λ n. IsStored l.access l.ra l.rb n c.args.graph.now ts c.insert_store.new.graph c.args.classes.now c.insert_store.new.memory address) same
    (c.in_ok-address-in-Store.ensures.stored ts are) in
    subst (λ i. IsWritten i c.args.graph.now ts c.insert_store.new.graph c.args.classes.now c.insert_store.new.memory (Some address)) (sym c.in-Store.is)
    (record { inserted = h.inserted; after = h.after; address_is = h.address_is })

pub returns-in-Stq-clause-written : goal.returns-in-Stq-clause-written
returns-in-Stq-clause-written c = λ ts are.
    let l = c.in-Stq in
    let instr = subst IsWellFormed c.in-Stq.is c.requires.instr in
    let same : c.cast_unsigned-n-in-Stq.result ≡ sign_extended l.disp = word_of_disp c.cast_unsigned-n-in-Stq.result c.from-in-Stq.result l.disp instr.2 c.from-in-Stq.ensures c.cast_unsigned-n-in-Stq.ensures in
    let address = c.in_ok-address-in-Stq.address in
    let h = subst (λ n. IsStored Quad l.ra l.rb n c.args.graph.now ts c.insert_store-in-Stq.new.graph c.args.classes.now c.insert_store-in-Stq.new.memory address) same
    (c.in_ok-address-in-Stq.ensures.stored ts are) in
    subst (λ i. IsWritten i c.args.graph.now ts c.insert_store-in-Stq.new.graph c.args.classes.now c.insert_store-in-Stq.new.memory (Some address)) (sym c.in-Stq.is)
    (record { inserted = h.inserted; after = h.after; address_is = h.address_is })

pub returns-in-Beq-clause-written : goal.returns-in-Beq-clause-written
returns-in-Beq-clause-written c ts are =
    subst (λ i. IsWritten i c.args.graph.now ts c.args.graph.now c.args.classes.now c.args.memory.now None) (sym c.in-Beq.is)
    (record { inserted = none_inserted; after = are; address_is = refl })
