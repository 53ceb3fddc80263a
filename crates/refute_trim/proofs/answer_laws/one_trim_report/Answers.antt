use Rattle.refute_trim.proofs.OneReport.{text_once}
use Rattle.refute_trim.proofs.answer_laws.one_trim_report.Goals as goal

pub returns : goal.returns
returns c = text_once (record {
  one_list = c.each_encoding_has_one_list.ensures;
  once = c.one_first_refusal.ensures.once;
  apart = c.one_first_refusal.ensures.apart;
  one_answer = c.one_answer.ensures.answer;
})
