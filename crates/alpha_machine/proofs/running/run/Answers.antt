-- Each word of a list that may stand is stepped from its own place.
use Rattle.std.proofs.Common.{◌≡◌, ◌*◌, ◌<◌, sym, ◌∙◌, ap, arith, length}
use Rattle.std.proofs.lemmas.Option.{slice_get-get_or}
use Rattle.alpha_machine.specs.Runs.{after}
use Rattle.alpha_machine.proofs.StepsOfRuns.{reached_more, pc_more, pc_leaves, leads_out, runs_to_trap, before_store, no_other, decode_all, instrs_of}
use Rattle.alpha_machine.proofs.running.run.Goals as goal

pub returns-in-Err-Trap-clause-runs : goal.returns-in-Err-Trap-clause-runs
returns-in-Err-Trap-clause-runs c =
    let there = slice_get-get_or c.args.words.now c.loop-word.word-index 0 c.loop-word-test.true in
    runs_to_trap _ _ _ _ _ _ c.in_default.ensures there c.loop-word.invariant.reached c.loop-word.invariant.pc
    c.in-Err-Trap.field-0 c.in-Err-Trap.field-0-is c.requires.start c.loop-word-test.true c.in-Err-Trap.ensures.refused

pub returns-in-Err-Memory-clause-refused : goal.returns-in-Err-Memory-clause-refused
returns-in-Err-Memory-clause-refused c =
    let there = slice_get-get_or c.args.words.now c.loop-word.word-index 0 c.loop-word-test.true in (
      c.in_default.ensures,
      before_store _ _ _ _ _ _ c.in_default.ensures there c.loop-word.invariant.reached c.loop-word.invariant.pc
          c.in-Err-Memory.field-0 c.in-Err-Memory.field-0-is c.loop-word-test.true c.in-Err-Memory.ensures.refused,
    )

pub unreachable-requires : goal.unreachable-requires
unreachable-requires c =
    let there = slice_get-get_or c.args.words.now c.loop-word.word-index 0 c.loop-word-test.true in
    no_other _ _ _ _ _ c.step.new.state c.in_default.ensures there
    c.loop-word.invariant.reached c.loop-word.invariant.pc
    c.in-Err-NotWord.field-0 c.in-Err-NotWord.field-0-is c.in-Err-NotWord.ensures.refused

pub returns-then-pc-fall-clause-runs : goal.returns-then-pc-fall-clause-runs
returns-then-pc-fall-clause-runs c =
    let there = slice_get-get_or c.args.words.now c.loop-word.word-index 0 c.loop-word-test.true in
    let stand = c.in_default.ensures in
    let did = c.in-Ok.ensures.ok in
    let reached = reached_more _ _ _ _ _ _ stand there c.loop-word.invariant.reached c.loop-word.invariant.pc did in
    let out : 4 * length c.args.words.now < c.step.new.state.pc = omega (arith, c.pc.ensures, c.if-pc-fall.true) in
    let ends = pc_leaves _ _ _ _ _ _ stand there c.loop-word.invariant.reached c.loop-word.invariant.pc c.loop-word-test.true c.requires.few did out in
    record {
      instrs = instrs_of c.args.words.now;
      decode = decode_all c.args.words.now stand;
      begins = c.requires.start;
      steps = leads_out _ _ _ _ _ _ stand there c.loop-word.invariant.reached c.loop-word.invariant.pc c.loop-word-test.true reached ends;
      ends = ends;
    }

pub loop-word-preserved : goal.loop-word-preserved
loop-word-preserved c =
    let there = slice_get-get_or c.args.words.now c.loop-word.word-index 0 c.loop-word-test.true in
    let stand = c.in_default.ensures in
    let did = c.in-Ok.ensures.ok in
    record {
      reached = reached_more _ _ _ _ _ _ stand there c.loop-word.invariant.reached c.loop-word.invariant.pc did;
      pc = pc_more _ _ _ _ _ _ stand there c.loop-word.invariant.reached c.loop-word.invariant.pc c.loop-word-test.true c.requires.few did
          (λ out. omega (arith, c.pc.ensures, c.if-pc-fall.false, out));
    }

pub returns-clause-runs : goal.returns-clause-runs
returns-clause-runs c =
    let all : c.loop-word.word-index ≡ length c.args.words.now = omega (arith, c.loop-word-test.false, c.loop-word.auto.word-index-end) in
    record {
      instrs = instrs_of c.args.words.now;
      decode = decode_all c.args.words.now c.in_default.ensures;
      begins = c.requires.start;
      steps = sym (c.loop-word.invariant.reached ∙ ap (λ n. after n (instrs_of c.args.words.now) c.args.state.now) all);
      ends = c.loop-word.invariant.pc ∙ ap (λ n. 4 * n) all;
    }
