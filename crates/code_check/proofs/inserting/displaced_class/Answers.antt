use Rattle.std.proofs.Common.{◌∷◌, [], refl}
use Rattle.std.proofs.lemmas.Result.{IfOk-weaker}
use Rattle.word_ops.specs.declared.sorts.Op.TheVariants.{Word}
use Rattle.word_ops.specs.declared.sorts.Sort.TheVariants as sorts
use Rattle.word_terms.specs.Building.{constant}
use Rattle.code_check.specs.Classes.{IsRowInserted}
use Rattle.code_check.proofs.Built.{literal_built, over_two, two_sorted}
use Rattle.code_check.proofs.inserting.displaced_class.Goals as goal

pub insert_row-requires-2-clause-sorts : goal.insert_row-requires-2-clause-sorts
insert_row-requires-2-clause-sorts c =
    let ts = c.requires.terms.1.0 in
    let first = c.in_ok-base.ensures.built ts c.requires.terms.0 c.requires.terms.1.1 in
    let second = literal_built c.register_class.new.graph c.insert_row.new.graph c.args.n c.in_ok-constant.constant c.in_ok-constant.ensures.row in
    two_sorted c.insert_row.new.graph (λ n. sorts.Word) c.in_ok-base.base c.in_ok-constant.constant (second.keeps c.in_ok-base.base sorts.Word first.of_sort) second.of_sort

pub returns-clause-built : goal.returns-clause-built
returns-clause-built c =
    let old = c.args.graph.now in
    let mid = c.register_class.new.graph in
    let late = c.insert_row.new.graph in
    let new = c.insert_row-2.new.graph in
    let n = c.args.n in
    IfOk-weaker c.insert_row-2.result (λ k. IsRowInserted late (Word c.args.op) (c.in_ok-base.base ∷ c.in_ok-constant.constant ∷ []) k new) _
    (λ k h ts memory are.
    let t = ts.registers c.args.rb in
    let first = c.in_ok-base.ensures.built ts memory are in
    let second = literal_built mid late n c.in_ok-constant.constant c.in_ok-constant.ensures.row in
    over_two old mid late new (Word c.args.op) sorts.Word sorts.Word sorts.Word t (constant n) c.in_ok-base.base c.in_ok-constant.constant k refl first second h) c.insert_row-2.ensures.row
