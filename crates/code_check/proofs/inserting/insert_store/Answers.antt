use Rattle.std.proofs.Common.{refl}
use Rattle.word_ops.specs.declared.sorts.Op.TheVariants.{Store}
use Rattle.word_ops.specs.declared.sorts.Sort.TheVariants as sorts
use Rattle.word_ops.specs.Meanings.{operand_sort}
use Rattle.code_check.specs.Classes.{stored_at}
use Rattle.code_check.specs.Terms.{address_at}
use Rattle.code_check.proofs.Built.{are_later, memory_built, over_three, stored, three_keep, three_sorted}
use Rattle.code_check.proofs.inserting.insert_store.Goals as goal

pub insert_row-requires-clause-sorts : goal.insert_row-requires-clause-sorts
insert_row-requires-clause-sorts c =
    let old = c.args.graph.now in
    let mid = c.address_class.new.graph in
    let memory = c.args.memory.now in
    let ts = c.requires.terms.0 in
    let are = c.requires.terms.1 in
    let second = c.in_ok-address.ensures.built ts memory are in
    let third = c.in_ok-value.ensures.built ts memory (are_later c.more_terms_may_be_inserted.ensures.others old mid c.args.classes.now memory ts sorts.Word (address_at (ts.registers c.args.rb) c.args.n) c.in_ok-address.address second are) in
    three_sorted c.register_class.new.graph (operand_sort (Store c.args.access)) memory c.in_ok-address.address c.in_ok-value.value
    (third.keeps memory sorts.Memory (second.keeps memory sorts.Memory are.memory_is.of_sort)) (third.keeps c.in_ok-address.address sorts.Word second.of_sort) third.of_sort

pub returns-clause-stored : goal.returns-clause-stored
returns-clause-stored c = λ ts are.
    let laws = c.more_terms_may_be_inserted.ensures in
    let old = c.args.graph.now in
    let mid = c.address_class.new.graph in
    let late = c.register_class.new.graph in
    let new = c.insert_row.new.graph in
    let memory = c.args.memory.now in
    let t = address_at (ts.registers c.args.rb) c.args.n in
    let v = ts.registers c.args.ra in
    let address = c.in_ok-address.address in
    let value = c.in_ok-value.value in
    let class = c.in_ok-class.class in
    let row = c.in_ok-class.ensures.row in
    let second = c.in_ok-address.ensures.built ts memory are in
    let third = c.in_ok-value.ensures.built ts memory (are_later laws.others old mid c.args.classes.now memory ts sorts.Word t address second are) in
    let own = laws.others v t value address mid late third.built (laws.class t address old mid are.graph second.built) in
    let kept = laws.others v ts.memory value memory mid late third.built (laws.others t ts.memory address memory old mid second.built are.memory_is.class) in
    let built = over_three old old mid late new (Store c.args.access) sorts.Memory sorts.Word sorts.Word sorts.Memory ts.memory t v memory address value class refl
    (memory_built laws.there old c.args.classes.now memory ts are) second third row in
    let p = stored laws.others laws.class old new c.args.classes.now memory ts are class (stored_at c.args.access ts c.args.ra c.args.rb c.args.n) built in
    record {
      inserted = p.0;
      after = p.1;
      address_is = three_keep laws.there laws.others late new third.graph (Store c.args.access) ts.memory t memory address class kept own v value
          (laws.class v value mid late second.graph third.built) row t address own;
    }
