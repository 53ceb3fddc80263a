use Rattle.std.proofs.Common.{All, List, subst, sym}
use Rattle.std.proofs.lemmas.Result.{err_from_is_err_and}
use Rattle.goal_meaning.specs.Views.{input_view}
use Rattle.code_check.specs.CodeGrammar.{checked_view}
use Rattle.code_check.specs.Codes.{IsCodeOf}
use Rattle.code_check.specs.Replies.{AreSaid}
use Rattle.code_check.specs.declared.codes.Code.{Code}
use Rattle.code_check.proofs.replies.verify_text.Goals as goal

pub returns-in_err-checked-clause-fault : goal.returns-in_err-checked-clause-fault
returns-in_err-checked-clause-fault c =
    let p = err_from_is_err_and c.from_residual.result c.from_residual.ensures.1 in
    rw (p.1, p.2) c.in_err-checked.ensures.fault

pub returns-in_err-checked-clause-refused : goal.returns-in_err-checked-clause-refused
returns-in_err-checked-clause-refused c = λ place kind first.
    let p = err_from_is_err_and c.from_residual.result c.from_residual.ensures.1 in
    rw (p.1, p.2) (c.in_err-checked.ensures.refused place kind first)

pub tell-requires : goal.tell-requires
tell-requires c = record {
  input = c.in_ok-checked.ensures.well_formed.0;
  codes = subst (λ (cs : List Code). All (IsCodeOf (input_view c.in_ok-checked.checked.input)) cs) (sym c.as_slice-codes.ensures) c.in_ok-checked.ensures.well_formed.1;
  rounds = c.requires.rounds;
  nodes = c.requires.nodes.1;
}

pub returns-clause-told : goal.returns-clause-told
returns-clause-told c =
    let told = c.in_ok-told.told in
    record {
      checked = checked_view c.in_ok-checked.checked;
      reads = c.in_ok-checked.ensures.codes;
      said = subst (λ (cs : List Code). AreSaid (input_view c.in_ok-checked.checked.input) c.args.rounds c.args.nodes c.args.library cs told.bytes told.unknown told.noworld) c.as_slice-codes.ensures c.in_ok-told.ensures.said;
    }

pub returns-clause-refused : goal.returns-clause-refused
returns-clause-refused c = λ place kind first. c.in_ok-checked.ensures.refused place kind first
