use Rattle.std.proofs.Common.{◌+◌, subst, sym, take, arith}
use Rattle.code_check.specs.Terms.{terms_from}
use Rattle.code_check.proofs.Stages.{Stage, stage_none, stage_more, stage_all}
use Rattle.code_check.proofs.inserting.insert_words.Goals as goal

pub loop-word-init : goal.loop-word-init
loop-word-init c =
    subst (λ addresses. Stage c.args.graph.now c.args.classes.now c.args.memory.now c.args.words.now c.args.graph.now c.args.classes.now c.args.memory.now addresses 0)
    (sym c.new-addresses.ensures.items) (stage_none c.args.graph.now c.args.words.now c.args.classes.now c.args.memory.now)

pub insert_word-requires-clause-terms : goal.insert_word-requires-clause-terms
insert_word-requires-clause-terms c =
    let is = c.requires.code.0 in
    let ts = c.requires.terms.0 in
    (terms_from (take c.loop-word.word-index is) ts, (c.loop-word.invariant.inserted is ts c.requires.code.1 c.requires.terms.1).1)

pub insert_word-requires-clause-few : goal.insert_word-requires-clause-few
insert_word-requires-clause-few c =
    let f = c.loop-word.invariant.few in
    let few = c.requires.few in
    omega (arith, f, few, c.loop-word-test.true)

pub loop-word-preserved : goal.loop-word-preserved
loop-word-preserved c =
    subst (λ addresses. Stage c.args.graph.now c.args.classes.now c.args.memory.now c.args.words.now c.insert_word.new.graph c.insert_word.new.classes c.insert_word.new.memory addresses (c.loop-word.word-index + 1))
    (sym c.in_ok-push.ensures.items)
    (stage_more c.args.graph.now c.args.classes.now c.args.memory.now c.args.words.now c.more_terms_may_be_inserted.ensures.both c.more_terms_may_be_inserted.ensures.others c.loop-word.graph c.insert_word.new.graph c.loop-word.classes c.insert_word.new.classes c.loop-word.memory c.insert_word.new.memory c.loop-word.addresses.items c.in_ok-address.address c.loop-word.word-index
    c.loop-word.invariant c.loop-word-test.true c.in_ok-address.ensures.written c.in_ok-address.ensures.few)

pub returns-clause-written : goal.returns-clause-written
returns-clause-written c =
    stage_all c.args.graph.now c.args.classes.now c.args.memory.now c.args.words.now c.loop-word.graph c.loop-word.classes c.loop-word.memory c.loop-word.addresses.items c.loop-word.word-index c.loop-word.invariant c.loop-word-test.false

pub returns-clause-few : goal.returns-clause-few
returns-clause-few c =
    let f = c.loop-word.invariant.few in
    let end = c.loop-word.auto.word-index-end in
    omega (arith, f, end)
