use Rattle.std.proofs.Common.{Some, set, refl}
use Rattle.word_ops.specs.declared.sorts.Op.TheVariants.{Select}
use Rattle.word_ops.specs.declared.sorts.Sort.TheVariants as sorts
use Rattle.word_ops.specs.Meanings.{operand_sort}
use Rattle.word_terms.specs.Building.{read_of}
use Rattle.code_check.specs.Terms.{address_at}
use Rattle.code_check.proofs.Built.{memory_built, over_two, skipped, two_keep, two_sorted, wrote}
use Rattle.code_check.proofs.inserting.insert_load.Goals as goal

pub returns-then-ra-eq31-clause-loaded : goal.returns-then-ra-eq31-clause-loaded
returns-then-ra-eq31-clause-loaded c = λ ts are.
    let p = skipped c.args.graph.now c.args.classes.now c.args.memory ts are c.args.ra (read_of c.args.access ts.memory (address_at (ts.registers c.args.rb) c.args.n)) c.if-ra-eq31.true in
    record { inserted = p.0; after = p.1; address_is = c.if-ra-eq31.true }

pub insert_row-requires-clause-sorts : goal.insert_row-requires-clause-sorts
insert_row-requires-clause-sorts c =
    let ts = c.requires.terms.0 in
    let are = c.requires.terms.1 in
    let second = c.in_ok-address.ensures.built ts c.args.memory are in
    two_sorted c.address_class.new.graph (operand_sort (Select c.args.access)) c.args.memory c.in_ok-address.address (second.keeps c.args.memory sorts.Memory are.memory_is.of_sort) second.of_sort

pub returns-clause-loaded : goal.returns-clause-loaded
returns-clause-loaded c = λ ts are.
    let laws = c.more_terms_may_be_inserted.ensures in
    let old = c.args.graph.now in
    let late = c.address_class.new.graph in
    let new = c.insert_row.new.graph in
    let t = address_at (ts.registers c.args.rb) c.args.n in
    let address = c.in_ok-address.address in
    let class = c.in_ok-class.class in
    let second = c.in_ok-address.ensures.built ts c.args.memory are in
    let own = laws.class t address old late are.graph second.built in
    let built = over_two old old late new (Select c.args.access) sorts.Memory sorts.Word sorts.Word ts.memory t c.args.memory address class refl
    (memory_built laws.there old c.args.classes.now c.args.memory ts are) second c.in_ok-class.ensures.row in
    let p = wrote laws.others laws.class old new c.args.classes.now c.args.memory ts are c.args.ra class
    (read_of c.args.access ts.memory t) built (set c.args.classes.now c.args.ra (Some class)) c.requires.ra c.if-ra-eq31.false refl in
    record {
      inserted = p.0;
      after = p.1;
      address_is = two_keep laws.there laws.others late new second.graph (Select c.args.access) ts.memory t c.args.memory address class
          (laws.others t ts.memory address c.args.memory old late second.built are.memory_is.class) own c.in_ok-class.ensures.row t address own;
    }
