use Rattle.std.proofs.Common.{◌∙◌, ap, set, sym}
use Rattle.pattern_match.specs.ByOperator.{first_in}
use Rattle.pattern_match.proofs.RowSteps.{lists_apart}
use Rattle.pattern_match.proofs.row_lists.RowLists.put_first.Goals as goal

pub returns-clause-first : goal.returns-clause-first
returns-clause-first c = ap (first_in c.insert.new.self.entries) (sym c.list_key_of.ensures) ∙ c.in_ok-next.ensures.updates.1

pub returns-clause-others : goal.returns-clause-others
returns-clause-others c = λ key differs. c.in_ok-next.ensures.updates.2 key (lists_apart c.list_key_of.result key (λ e. differs (e ∙ c.list_key_of.ensures)))

pub returns-clause-next : goal.returns-clause-next
returns-clause-next c = ap (set c.args.self.now.nexts.items c.args.at) (c.in_ok-next.ensures.old ∙ ap (first_in c.args.self.now.firsts.entries) c.list_key_of.ensures)
