use Rattle.std.proofs.Common.{sym, subst, IfOk}
use Rattle.forms.specs.Forms.{sexp_form}
use Rattle.goal_reader.specs.Keywords.{item_rank}
use Rattle.goal_reader.specs.declared.keywords.ItemKeyword.{ItemKeyword}
use Rattle.goal_reader.specs.Reading.{IsClear}
use Rattle.goal_reader.specs.Drafts.{draft_role}
use Rattle.goal_reader.proofs.drafts.item.Goals as goal

pub returns-in-Pool-clause-clear : goal.returns-in-Pool-clause-clear
returns-in-Pool-clause-clear c =
    subst (λ (k : ItemKeyword). IfOk c.add_pool.result
    (λ next. IsClear (draft_role c.args.draft (item_rank k)) (sexp_form c.args.text.now c.args.form.now)))
    (sym c.in-Pool.is) c.add_pool.ensures.clear
