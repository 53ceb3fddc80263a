use Rattle.std.proofs.Common.{ℕ, ◌+◌, ◌<◌, ◌^◌, List, length, subst, sym, arith}
use Rattle.std.proofs.lemmas.Result.{err_from_is_err_and}
use Rattle.answer_texts.proofs.PartsFaults.{fault_by}
use Rattle.answer_texts.specs.ReadAnswers.{IsAnswerFault, ReadsAnswer}
use Rattle.answer_texts.specs.declared.answers.Claimed.{Claimed}
use Rattle.least_launch.specs.TailParts.{AreTails, TailsFault}
use Rattle.least_launch.specs.TailedAnswers.{IsTailedFault, of_answer, of_tail}
use Rattle.least_launch.proofs.Behind.{front_few}
use Rattle.least_launch.proofs.tail_reading.read_around.Goals as goal

pub front-requires-clause-at : goal.front-requires-clause-at
front-requires-clause-at c = c.requires.at.within

pub read_answer-requires : goal.read_answer-requires
read_answer-requires c =
    subst (λ (xs : List ℕ). length xs < 2 ^ 29) (sym c.front.ensures)
    (front_few c.args.text.now c.args.split.now c.args.at c.requires.split c.requires.at.within c.requires.few)

pub returns-in_err-answer-clause-fault : goal.returns-in_err-answer-clause-fault
returns-in_err-answer-clause-fault c =
    let p = err_from_is_err_and c.from_residual.result c.from_residual.ensures.1 in
    let text = c.args.text.now in
    let lines = c.args.split.now in
    rw (p.1, p.2)
    (fault_by (IsAnswerFault c.front.result.now) (IsTailedFault text)
    (λ place kind bad. of_answer c.requires.split c.requires.at
    (subst (λ (xs : List ℕ). IsAnswerFault xs place kind) c.front.ensures bad))
    _ c.in_err-answer.ensures.fault)

pub read_tails-requires : goal.read_tails-requires
read_tails-requires c = (let within = c.requires.at.within in omega (arith, within))

pub returns-in_err-said-clause-fault : goal.returns-in_err-said-clause-fault
returns-in_err-said-clause-fault c =
    let p = err_from_is_err_and c.from_residual-in_err-said.result c.from_residual-in_err-said.ensures.1 in
    let text = c.args.text.now in
    let lines = c.args.split.now in
    let at = c.args.at in
    rw (p.1, p.2)
    (fault_by (TailsFault lines c.as_slice.result.now (at + 1)) (IsTailedFault text)
    (λ place kind bad. of_tail c.requires.split c.requires.at
    (subst (λ (xs : List ℕ). ReadsAnswer xs c.in_ok-answer.answer) c.front.ensures c.in_ok-answer.ensures.answer)
    (subst (λ (gs : List Claimed). TailsFault c.args.split.now gs (c.args.at + 1) place kind) c.as_slice.ensures bad))
    _ c.in_err-said.ensures.fault)

pub returns-clause-ok : goal.returns-clause-ok
returns-clause-ok c =
    let lines = c.args.split.now in
    let at = c.args.at in
    record {
      lines = lines;
      split = c.requires.split;
      at = at;
      begins = c.requires.at;
      front = subst (λ (xs : List ℕ). ReadsAnswer xs c.in_ok-answer.answer) c.front.ensures
          c.in_ok-answer.ensures.answer;
      says = subst (λ (gs : List Claimed). AreTails c.args.split.now (c.args.at + 1) (length c.args.split.now) gs
          c.in_ok-said.said)
          c.as_slice.ensures c.in_ok-said.ensures.ok;
    }
