use Rattle.std.proofs.Common.{sym}
use Rattle.refute_trim.proofs.answers.trim_text.Goals as goal

pub returns-clause-trimmed : goal.returns-clause-trimmed
returns-clause-trimmed c = record {
  answer = c.in_ok-answer.answer;
  reads = c.in_ok-answer.ensures.answer;
  text_is = sym (c.read_answers_print_their_text.ensures c.args.text.now c.in_ok-answer.answer c.in_ok-answer.ensures.answer);
  report = c.in_ok-trim_answer.ensures;
}
